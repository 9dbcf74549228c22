-- The framebuffers that something refers to, as things are made and closed.
use Rattle.std.proofs.Common.{◌≡◌, ℕ, ◌+◌, ◌<◌, ◌≤◌, Bool, true, false, List, [], ◌∷◌, ◌++◌, Option, Some, None, Result, Ok, Err, refl, sym}
use Rattle.std.proofs.Common.{ap, ◌∙◌, subst, inl, inr, arith, append-nil}
use Rattle.std.specs.Prelude.{◌==◌, ◌&&◌}
use Rattle.std.specs.Option.{option_and_then, option_map}
use Rattle.std.proofs.lemmas.Bool.Decides.{eqb_tells}
use Rattle.std.proofs.lemmas.List.Elements.{filter_map-append}
use Rattle.kms_model.specs.declared.replies.Denied.{Denied}
use Rattle.kms_model.specs.declared.things.Framebuffer.{Framebuffer}
use Rattle.kms_model.specs.declared.tables.Slot.{Slot}
use Rattle.kms_model.specs.declared.worlds.Content.{Content}
use Rattle.kms_model.specs.declared.worlds.Content.TheVariants as content
use Rattle.kms_model.specs.declared.worlds.Thing.{Thing}
use Rattle.kms_model.specs.Device.Closing.{closed_in}
use Rattle.kms_model.specs.Device.Execution.{destroy_refusal, is_blob}
use Rattle.kms_model.specs.Device.Sound.{AreNumbered}
use Rattle.kms_model.specs.Device.World.{thing_with_id}
use Rattle.kms_model.specs.Frames.Shown.{FramesIn}
use Rattle.kms_model.specs.Things.Kept.{after_close, after_give, after_take, closed, fbs_closed, fbs_given, fbs_taken, may_close}
use Rattle.kms_model.specs.Things.Kept.{with_fewer}
use Rattle.kms_model.specs.Things.OpenThings.{denial, open_value, things_after, value_if_open}
use Rattle.kms_model.specs.Things.Tables.{AreBelow, put_in, value_with_id, with_value, without_id}
use Rattle.kms_model.proofs.OpenLemmas.{closed_values, found_open}
use Rattle.kms_model.proofs.Facts.{cond_holds}
use Rattle.kms_buffers.specs.Things.{fb_of_content, open_fbs, open_fbs_of}
use Rattle.kms_things.specs.Index.{AreReferred, IsBlobAt, IsPlain}

-- a thing that is no framebuffer frames nothing
pub frames_plain : (things : List Thing) (id : ℕ) (c : Content) → IsPlain c → FramesIn things id c
frames_plain things id (content.Framebuffer info of) plain = absurd (let e = plain.unreferred 0 in cc)
frames_plain things id (content.Buffer width height format pattern) plain = tt
frames_plain things id (content.Mode m) plain = tt
frames_plain things id (content.Blob bytes) plain = tt
frames_plain things id content.Fence plain = tt
frames_plain things id content.OutFence plain = tt

-- Ids below the next one

pub below_further : (n m : ℕ) (fbs : List (Slot Framebuffer)) → n ≤ m → AreBelow n fbs → AreBelow m fbs
below_further n m [] le below = tt
below_further n m (s ∷ fbs) le below = (omega (arith, below.0, le), below_further n m fbs le below.1)

pub below_more : (n : ℕ) (fbs : List (Slot Framebuffer)) (s : Slot Framebuffer) → AreBelow n fbs → s.id < n → AreBelow n (fbs ++ s ∷ [])
below_more n [] s below lt = (lt, tt)
below_more n (t ∷ fbs) s below lt = (below.0, below_more n fbs s below.1 lt)

below_put : (n id : ℕ) (fb : Framebuffer) (s : Slot Framebuffer) → s.id < n → (put_in id fb s).id < n
below_put n id fb s lt = elim (eqb_tells s.id id) [ inl here ↦ rw here.0 (subst (λ (k : ℕ). k < n) here.1 lt) | inr away ↦ rw away.0 lt ]

below_with : (n id : ℕ) (fb : Framebuffer) (fbs : List (Slot Framebuffer)) → AreBelow n fbs → AreBelow n (with_value fbs id fb)
below_with n id fb [] below = tt
below_with n id fb (s ∷ fbs) below = (below_put n id fb s below.0, below_with n id fb fbs below.1)

below_without : (n id : ℕ) (fbs : List (Slot Framebuffer)) → AreBelow n fbs → AreBelow n (without_id fbs id)
below_without n id [] below = tt
below_without n id (s ∷ fbs) below = elim (eqb_tells s.id id) [
  | inl here ↦ rw here.0 (below_without n id fbs below.1)
  | inr away ↦ rw away.0 (below.0, below_without n id fbs below.1)
]

below_fewer : (n id : ℕ) (fb : Framebuffer) (fbs : List (Slot Framebuffer)) → AreBelow n fbs → AreBelow n (with_fewer fbs id fb)
below_fewer n id fb fbs below = cond_holds (λ xs. AreBelow n xs) (fb.references == 0) (without_id fbs id) (with_value fbs id fb)
    (below_without n id fbs below) (below_with n id fb fbs below)

below_close : (n owner id : ℕ) (fbs : List (Slot Framebuffer)) (o : Option Framebuffer) → AreBelow n fbs
    → AreBelow n (after_close fbs owner id o)
below_close n owner id fbs None below = below
below_close n owner id fbs (Some fb) below =
    cond_holds (λ xs. AreBelow n xs) (may_close owner fb) (with_fewer fbs id (closed fb)) fbs (below_fewer n id (closed fb) fbs below) below

below_take : (n id : ℕ) (fbs : List (Slot Framebuffer)) (o : Option Framebuffer) → AreBelow n fbs → AreBelow n (after_take fbs id o)
below_take n id fbs None below = below
below_take n id fbs (Some fb) below = below_with n id _ fbs below

below_give : (n id : ℕ) (fbs : List (Slot Framebuffer)) (o : Option Framebuffer) → AreBelow n fbs → AreBelow n (after_give fbs id o)
below_give n id fbs None below = below
below_give n id fbs (Some fb) below = below_fewer n id _ fbs below

-- A thing more

pub open_more : (things : List Thing) (t : Thing) → open_fbs_of (things ++ t ∷ []) ≡ open_fbs_of things ++ open_fbs_of (t ∷ [])
open_more things t = filter_map-append (open_value fb_of_content) things (t ∷ [])

none_open : (t : Thing) → t.is_open ≡ true → ((owner : ℕ) → fb_of_content owner t.content ≡ None) → open_fbs_of (t ∷ []) ≡ []
none_open t opened none = rw (opened, none t.owner) refl

append_none : (xs ys : List (Slot Framebuffer)) → ys ≡ [] → xs ++ ys ≡ xs
append_none xs ys e = rw e (append-nil xs)

-- one that is no framebuffer
pub referred_made : (things : List Thing) (next : ℕ) (fbs : List (Slot Framebuffer)) (t : Thing) → t.is_open ≡ true
    → ((owner : ℕ) → fb_of_content owner t.content ≡ None)
    → AreReferred things next fbs → AreReferred (things ++ t ∷ []) (next + 1) fbs
referred_made things next fbs t opened none referred = record {
  below = below_further next (next + 1) fbs (omega arith) referred.below;
  same = open_more things t ∙ append_none (open_fbs_of things) (open_fbs_of (t ∷ [])) (none_open t opened none) ∙ referred.same;
}

-- A thing that is closed

absent : (xs : List (Slot Framebuffer)) (id : ℕ) → value_with_id xs id ≡ None → without_id xs id ≡ xs
absent [] id none = refl
absent (x ∷ xs) id none = elim (eqb_tells x.id id) [
  | inl here ↦ absurd (let e : Some x.value ≡ None = rw here.0 at none in cc)
  | inr away ↦ (let e : value_with_id xs id ≡ None = rw away.0 at none in rw away.0 (ap (λ ys. x ∷ ys) (absent xs id e)))
]

no_fb : (b : Bool) (t : Thing) (c : Content) → t.is_open ≡ b → t.content ≡ c → is_blob c ≡ true → value_if_open fb_of_content t ≡ None
no_fb true t (content.Mode m) opened is blob = rw (opened, is) refl
no_fb false t (content.Mode m) opened is blob = rw opened refl
no_fb true t (content.Blob bytes) opened is blob = rw (opened, is) refl
no_fb false t (content.Blob bytes) opened is blob = rw opened refl
no_fb b t (content.Framebuffer info of) opened is blob = absurd cc
no_fb b t (content.Buffer width height format pattern) opened is blob = absurd cc
no_fb b t content.Fence opened is blob = absurd cc
no_fb b t content.OutFence opened is blob = absurd cc

no_fb_at : (o : Option Thing) → option_map (λ t. is_blob t.content) o ≡ Some true → option_and_then (value_if_open fb_of_content) o ≡ None
no_fb_at None is = absurd cc
no_fb_at (Some t) is = no_fb t.is_open t t.content refl refl (cc is)

-- a blob that is destroyed
pub referred_destroyed : (things : List Thing) (next : ℕ) (fbs : List (Slot Framebuffer)) (id : ℕ) → AreNumbered 1000 things
    → IsBlobAt things id → AreReferred things next fbs → AreReferred (closed_in things id) next fbs
referred_destroyed things next fbs id numbered blob referred =
    let none : value_with_id (open_fbs_of things) id
    ≡ None = found_open fb_of_content 1000 id things numbered ∙ no_fb_at (thing_with_id things id) blob in
    record { below = referred.below; same = closed_values fb_of_content id things ∙ absent (open_fbs_of things) id none ∙ referred.same }

closed_ok : {A : Type 0} (R : Result A Denied) (things : List Thing) (id : ℕ) → denial R ≡ None
    → things_after R things id ≡ closed_in things id
closed_ok (Ok x) things id none = refl
closed_ok (Err e) things id none = absurd cc

-- a framebuffer that is closed
pub referred_closed : {A : Type 0} (R : Result A Denied) (things : List Thing) (next : ℕ) (fbs new : List (Slot Framebuffer)) (owner id : ℕ)
    → new ≡ fbs_closed fbs owner id
    → open_fbs_of (things_after R things id) ≡ open_fbs new → denial R ≡ None → AreReferred things next fbs
    → AreReferred (closed_in things id) next new
referred_closed R things next fbs new owner id is same ok referred = record {
  below = rw is (below_close next owner id fbs (value_with_id fbs id) referred.below);
  same = ap open_fbs_of (sym (closed_ok R things id ok)) ∙ same;
}

-- References

pub referred_taken : (things : List Thing) (next : ℕ) (fbs new : List (Slot Framebuffer)) (id : ℕ) → new ≡ fbs_taken fbs id
    → open_fbs new ≡ open_fbs fbs → AreReferred things next fbs → AreReferred things next new
referred_taken things next fbs new id is same referred =
    record { below = rw is (below_take next id fbs (value_with_id fbs id) referred.below); same = referred.same ∙ sym same }

pub referred_given : (things : List Thing) (next : ℕ) (fbs new : List (Slot Framebuffer)) (id : ℕ) → new ≡ fbs_given fbs id
    → open_fbs new ≡ open_fbs fbs → AreReferred things next fbs → AreReferred things next new
referred_given things next fbs new id is same referred =
    record { below = rw is (below_give next id fbs (value_with_id fbs id) referred.below); same = referred.same ∙ sym same }
