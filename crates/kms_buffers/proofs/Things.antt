-- What happens to the open framebuffers as things are made, and as one is put back or taken out.
use Rattle.std.proofs.Common.{◌≡◌, ℕ, List, [], ◌∷◌, ◌++◌, Bool, true, false, eqb, refl, sym, ap, ◌∙◌, inl, inr, subst, ◌<◌, ◌-◌, arith}
use Rattle.std.specs.Prelude.{Some, if◌then◌else◌}
use Rattle.std.specs.List.{cons_option, AllByRecursion}
use Rattle.std.proofs.lemmas.Bool.Decides.{eqb_tells, nat_tests}
use Rattle.std.proofs.lemmas.List.Elements.{filter_map-append}
use Rattle.kms_model.specs.declared.objects.Format.{Format}
use Rattle.kms_model.specs.declared.pictures.FbInfo.{FbInfo}
use Rattle.kms_model.specs.declared.scripts.Pattern.{Pattern}
use Rattle.kms_model.specs.declared.things.Framebuffer.{Framebuffer}
use Rattle.kms_model.specs.declared.tables.Slot.{Slot}
use Rattle.kms_model.specs.declared.worlds.Content.TheVariants as content
use Rattle.kms_model.specs.declared.worlds.World.{World}
use Rattle.kms_model.specs.Things.OpenThings.{open_value}
use Rattle.kms_model.specs.Device.Execution.{make}
use Rattle.kms_model.specs.Things.Kept.{buffer, framebuffer, with_fewer, MayGive}
use Rattle.kms_model.specs.Things.Tables.{slot, put_in, with_value, without_id, value_with_id, IsRising}
use Rattle.kms_model.proofs.OpenLemmas.{without_id-same, without_id-other}
use Rattle.kms_buffers.specs.Things.{buffer_in, buffers_of, fb_of_content, open_fbs_of, open_slot, open_fbs}

pub made_buffer : (w : World) (owner label width height : ℕ) (format : Format) (pattern : Pattern)
    → buffers_of (make w owner label (content.Buffer width height format pattern)).world.things ≡ buffers_of w.things
    ++ slot w.next_id (buffer owner width height format pattern) ∷ []
made_buffer w owner label width height format pattern = filter_map-append (λ t. buffer_in t.id t.owner t.content) w.things _

pub made_fb : (w : World) (owner label of : ℕ) (info : FbInfo) → open_fbs_of (make w owner label (content.Framebuffer info of)).world.things
    ≡ open_fbs_of w.things ++ slot w.next_id (framebuffer owner of info) ∷ []
made_fb w owner label of info = filter_map-append (open_value fb_of_content) w.things _

pub added_fb : (fbs : List (Slot Framebuffer)) (id owner of : ℕ) (info : FbInfo)
    → open_fbs (fbs ++ slot id (framebuffer owner of info) ∷ []) ≡ open_fbs fbs ++ slot id (framebuffer owner of info) ∷ []
added_fb fbs id owner of info = filter_map-append open_slot fbs _

other : (a b : ℕ) → b < a → eqb a b ≡ false
other a b less = grind (arith, nat_tests)

-- a framebuffer as it was added
abbrev added : Framebuffer → Framebuffer
added fb = framebuffer fb.owner fb.buffer fb.info

one_put : (b : Bool) (id : ℕ) (fb : Framebuffer) (s : Slot Framebuffer) (rest : List (Slot Framebuffer)) → fb.is_open ≡ false → eqb s.id id
    ≡ b → cons_option (open_slot (put_in id fb s)) (without_id rest id) ≡ without_id (cons_option (open_slot s) rest) id
one_put true id fb s rest shut e = rw (e, shut) (without_id-same s.value.is_open id s.id (Some (added s.value)) rest e)
one_put false id fb s rest shut e = rw e (without_id-other s.value.is_open id s.id (Some (added s.value)) rest e)

put_closed : (fbs : List (Slot Framebuffer)) (id : ℕ) (fb : Framebuffer) → fb.is_open ≡ false → open_fbs (with_value fbs id fb)
    ≡ without_id (open_fbs fbs) id
put_closed [] id fb shut = refl
put_closed (s ∷ fbs) id fb shut =
    ap (cons_option (open_slot (put_in id fb s))) (put_closed fbs id fb shut) ∙ one_put (eqb s.id id) id fb s (open_fbs fbs) shut refl

one_out : (b : Bool) (id : ℕ) (s : Slot Framebuffer) (fbs : List (Slot Framebuffer)) → eqb s.id id ≡ b → open_fbs (without_id fbs id)
    ≡ without_id (open_fbs fbs) id → open_fbs (without_id (s ∷ fbs) id) ≡ without_id (cons_option (open_slot s) (open_fbs fbs)) id
one_out true id s fbs e h = rw e (h ∙ without_id-same s.value.is_open id s.id (Some (added s.value)) (open_fbs fbs) e)
one_out false id s fbs e h = rw e (ap (cons_option (open_slot s)) h ∙ without_id-other s.value.is_open id s.id (Some (added s.value))
    (open_fbs fbs) e)

put_out : (fbs : List (Slot Framebuffer)) (id : ℕ) → open_fbs (without_id fbs id) ≡ without_id (open_fbs fbs) id
put_out [] id = refl
put_out (s ∷ fbs) id = one_out (eqb s.id id) id s fbs refl (put_out fbs id)

-- the open framebuffers after one was put back closed, or out
pub fewer_closed : (fbs : List (Slot Framebuffer)) (id : ℕ) (fb : Framebuffer) → fb.is_open ≡ false → open_fbs (with_fewer fbs id fb)
    ≡ without_id (open_fbs fbs) id
fewer_closed fbs id fb shut = elim (eqb_tells fb.references 0)
    [ inl none ↦ rw none.0 (put_out fbs id) | inr some ↦ rw some.0 (put_closed fbs id fb shut) ]

-- no slot of the table has this id
past : (slots : List (Slot Framebuffer)) (id : ℕ) (fb : Framebuffer) → AllByRecursion (λ s. id < s.id) slots → with_value slots id fb
    ≡ slots
past [] id fb above = refl
past (s ∷ slots) id fb above = let e : eqb s.id id ≡ false = other s.id id above.0 in rw (e, past slots id fb above.1) refl

past_out : (slots : List (Slot Framebuffer)) (id : ℕ) → AllByRecursion (λ s. id < s.id) slots → without_id slots id ≡ slots
past_out [] id above = refl
past_out (s ∷ slots) id above = let e : eqb s.id id ≡ false = other s.id id above.0 in rw (e, past_out slots id above.1) refl

-- the same framebuffer to the things: as open, and of the same owner, buffer and size
pub record IsSameOpen (old new : Framebuffer) : Type 0 where
  pub is_open : new.is_open ≡ old.is_open
  pub owner : new.owner ≡ old.owner
  pub buffer : new.buffer ≡ old.buffer
  pub info : new.info ≡ old.info

-- the open framebuffers where one was put back that is the same to the things
pub put_same : (fbs : List (Slot Framebuffer)) (id : ℕ) (old new : Framebuffer) → IsRising fbs → value_with_id fbs id ≡ Some old
    → IsSameOpen old new → open_fbs (with_value fbs id new) ≡ open_fbs fbs
put_same [] id old new rising at same = refl
put_same (s ∷ fbs) id old new rising at same =
    elim (eqb_tells s.id id) [
      | inl here ↦ (
          let e : Some s.value ≡ Some old = rw here.0 at at in
          let v : old ≡ s.value = sym (cc e) in
          let above : AllByRecursion (λ t. id < t.id) fbs = subst (λ n. AllByRecursion (λ t. n < t.id) fbs) here.1 rising.0 in
          rw (here.0, past fbs id new above, same.is_open, same.owner, same.buffer, same.info, v, here.1) refl)
      | inr away ↦ (
          let e : value_with_id fbs id ≡ Some old = rw away.0 at at in
          rw away.0 (ap (cons_option (open_slot s)) (put_same fbs id old new rising.1 e same)))
    ]

-- the open framebuffers where one was taken out that was closed
pub out_same : (fbs : List (Slot Framebuffer)) (id : ℕ) (old : Framebuffer) → IsRising fbs → value_with_id fbs id ≡ Some old → old.is_open
    ≡ false → open_fbs (without_id fbs id) ≡ open_fbs fbs
out_same [] id old rising at shut = refl
out_same (s ∷ fbs) id old rising at shut =
    elim (eqb_tells s.id id) [
      | inl here ↦ (
          let e : Some s.value ≡ Some old = rw here.0 at at in
          let v : s.value ≡ old = cc e in
          let above : AllByRecursion (λ t. id < t.id) fbs = subst (λ n. AllByRecursion (λ t. n < t.id) fbs) here.1 rising.0 in
          rw (here.0, past_out fbs id above, v, shut) refl)
      | inr away ↦ (
          let e : value_with_id fbs id ≡ Some old = rw away.0 at at in
          rw away.0 (ap (cons_option (open_slot s)) (out_same fbs id old rising.1 e shut)))
    ]

-- the open framebuffers where one was put back that is the same to the things, or out where it was closed
pub fewer_same : (fbs : List (Slot Framebuffer)) (id : ℕ) (old new : Framebuffer) → IsRising fbs → value_with_id fbs id ≡ Some old
    → IsSameOpen old new → (new.references ≡ 0 → old.is_open ≡ false) → open_fbs (with_fewer fbs id new) ≡ open_fbs fbs
fewer_same fbs id old new rising at same shut =
    elim (eqb_tells new.references 0) [
      | inl none ↦ rw none.0 (out_same fbs id old rising at (shut none.1))
      | inr some ↦ rw some.0
          (put_same fbs id old new rising at same)
    ]

closed_by : (is : Bool) (n : ℕ) → (if is then 1 else 0) < n → n - 1 ≡ 0 → is ≡ false
closed_by false n more none = refl
closed_by true n more none = absurd (omega (arith, more, none))

-- a framebuffer whose last reference is given back is closed
pub last_is_closed : (fb : Framebuffer) → MayGive (Some fb) → fb.references - 1 ≡ 0 → fb.is_open ≡ false
last_is_closed fb may none = closed_by fb.is_open fb.references may none
