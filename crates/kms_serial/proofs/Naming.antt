-- What planes are set to, as ids; and framebuffers that are not there have no image.
use Rattle.std.proofs.Common.{◌≡◌, ℕ, ◌<◌, Bool, true, false, cond, List, [], ◌∷◌, length, Option, Some, None, inl, inr, arith, refl, sym}
use Rattle.std.proofs.Common.{ap, ◌∙◌, subst}
use Rattle.std.specs.Prelude.{◌&&◌, ◌||◌, ℤ, pos, is_some, slice_get}
use Rattle.std.specs.List.{AllByRecursion}
use Rattle.std.specs.Option.{option_map}
use Rattle.std.specs.Ordering.{int_eq}
use Rattle.std.proofs.lemmas.Bool.{or_cases, false≢true}
use Rattle.std.proofs.lemmas.Bool.Decides.{Decides-int_eq}
use Rattle.kms_model.specs.declared.objects.Kind.TheVariants as kind
use Rattle.kms_model.specs.Device.Places.{state_at}
use Rattle.kms_model.specs.declared.objects.Topology.{Topology}
use Rattle.kms_model.specs.declared.properties.TheConstants.{FB_ID}
use Rattle.kms_model.specs.declared.states.Both.{Both}
use Rattle.kms_model.specs.declared.states.Duplicates.{Duplicates}
use Rattle.kms_model.specs.declared.states.PlaneState.{PlaneState}
use Rattle.kms_model.specs.declared.worlds.Content.{Content}
use Rattle.kms_model.specs.declared.worlds.Content.TheVariants as content
use Rattle.kms_model.specs.declared.worlds.Thing.{Thing}
use Rattle.kms_model.specs.declared.worlds.World.{World}
use Rattle.kms_model.specs.Frames.FrameBytes.{buffer_id_in}
use Rattle.kms_model.specs.Frames.Images.{image_of, seen_in}
use Rattle.kms_model.specs.Device.Objects.{object_id, count_of}
use Rattle.kms_model.specs.Device.Sound.{AreNumbered, has_legal_mode, IsLawful}
use Rattle.kms_model.specs.Device.States.{framebuffer_in, framebuffer_of, gamma_of, mode_of, plane_at}
use Rattle.kms_model.specs.Script.Words.{◌>>=◌}
use Rattle.kms_model.specs.Device.World.{value, thing_numbered, thing_with_id}
use Rattle.kms_model.proofs.LateLemmas.{flatten-some}
use Rattle.kms_model.proofs.HeldValues.{all_held-from}
use Rattle.kms_model.proofs.Items.{IsIn, ids-has}
use Rattle.kms_model.proofs.SeenLemmas.{fb-held}
use Rattle.kms_model.proofs.ThingLemmas.{find-in, ids-numbered}
use Rattle.kms_serial.specs.Device.{StandsInWorld}
use Rattle.kms_serial.specs.Framebuffers.{framebuffer_id, id_or_zero}
use Rattle.kms_model.specs.Frames.Shown.{AreFramed, FramesIn}

matches-if : (y x : Thing) (z : ℤ) (b : Bool) (o : Option Thing) → int_eq (pos y.id) z ≡ b → cond b (Some y) o ≡ Some x
    → (o ≡ Some x → pos x.id ≡ z) → pos x.id ≡ z
matches-if y x z true o is e rest = let same : y ≡ x = cc in ap (λ (t : Thing). pos t.id) (sym same) ∙ (Decides-int_eq (pos y.id) z).0 is
matches-if y x z false o is e rest = rest e

matches : (ts : List Thing) (z : ℤ) (x : Thing) → thing_numbered ts z ≡ Some x → pos x.id ≡ z
matches [] z x e = absurd cc
matches (y ∷ ys) z x e = matches-if y x z (int_eq (pos y.id) z) (thing_numbered ys z) refl e (matches ys z x)

in-things : (P : Thing → Type 0) (things : List Thing) (t : Thing) → AllByRecursion P things → IsIn t things → P t
in-things P [] t h is = absurd is
in-things P (u ∷ us) t h (inl same) = subst P same h.0
in-things P (u ∷ us) t h (inr rest) = in-things P us t h.1 rest

own-id : (things : List Thing) (id : ℕ) (c : Content) → FramesIn things id c → is_some (framebuffer_in c) ≡ true
    → id_or_zero (framebuffer_in c) ≡ id
own-id things id (content.Framebuffer info of) framed some = framed.own_id
own-id things id (content.Buffer width height format pattern) framed some = absurd cc
own-id things id (content.Mode m) framed some = absurd cc
own-id things id (content.Blob bytes) framed some = absurd cc
own-id things id content.Fence framed some = absurd cc
own-id things id content.OutFence framed some = absurd cc

no-zero : (things : List Thing) {t : Thing} {z : ℤ} → AreNumbered 1000 things → thing_numbered things z ≡ Some t → z ≡ pos 0 → ⊥
no-zero things {t} {z} numbered at zero_ =
    let within = ids-numbered 1000 things t numbered (find-in (λ u. int_eq (pos u.id) z) things t at) in
    let e : pos t.id ≡ pos 0 = matches things z t at ∙ zero_ in
    let same : t.id ≡ 0 = cc in
    omega (arith, within.low, same)

number-of : (things : List Thing) (z : ℤ) (o : Option Thing) → AreNumbered 1000 things → AreFramed things → thing_numbered things z ≡ o
    → (int_eq z (pos 0) || is_some (framebuffer_of o)) ≡ true → pos (id_or_zero (framebuffer_of o)) ≡ z
number-of things z None numbered framed at held =
    elim (or_cases (int_eq z (pos 0)) false held) [
      | inl zero_ ↦ sym ((Decides-int_eq z (pos 0)).0 zero_)
      | inr other ↦ absurd (false≢true other)
    ]
number-of things z (Some t) numbered framed at held =
    let there = find-in (λ u. int_eq (pos u.id) z) things t at in
    elim (or_cases (int_eq z (pos 0)) (is_some (framebuffer_in t.content)) held) [
      | inl zero_ ↦ absurd (no-zero things numbered at ((Decides-int_eq z (pos 0)).0 zero_))
      | inr some ↦ ap pos (own-id things t.id t.content (in-things (λ u. FramesIn things u.id u.content) things t framed there) some) ∙
          matches things z t at
    ]

is-held : (b c d e : Bool) → (b || ((true && c) || ((false && d) || (false && e)))) ≡ true → (b || c) ≡ true
is-held true c d e h = refl
is-held false true d e h = refl
is-held false false d e h = absurd cc

-- a plane is set to the id of its state's framebuffer
pub fb_id-is : (t : Topology) (w : World) (index : ℕ) → IsLawful t w → AreFramed w.things → index < count_of t kind.Plane
    → pos (id_or_zero (plane_at w.things w.values (object_id kind.Plane index)).fb) ≡ value w.values (object_id kind.Plane index) FB_ID
fb_id-is t w index lawful framed within =
    let z = value w.values (object_id kind.Plane index) FB_ID in
    number-of w.things z (thing_numbered w.things z) lawful.numbered.things framed refl
    (is-held (int_eq z (pos 0)) (is_some (framebuffer_of (thing_numbered w.things z)))
    (has_legal_mode (mode_of (thing_numbered w.things z))) (is_some (gamma_of (thing_numbered w.things z)))
    (fb-held t w.things w.values (object_id kind.Plane index) (all_held-from t w.things w.values lawful.sound.held)
    (ids-has t kind.Plane index within)))

-- the same of a state that is duplicated
pub fb_of_state : {t : Topology} {w : World} {d : Duplicates} (index : ℕ) (o : Option (Both PlaneState)) → StandsInWorld t w d → index
    < length t.planes
    → state_at d.planes index ≡ o → pos (framebuffer_id (option_map (λ b. b.new) o)) ≡ value w.values (object_id kind.Plane index) FB_ID
fb_of_state {d} index None stands within is =
    absurd (let some = stands.present.whole.planes.there index within in let none : is_some (state_at d.planes index) ≡ false = rw is refl
    in cc)
fb_of_state {t} {w} {d} index (Some both) stands within is =
    let new = stands.present.new.planes index both (flatten-some (slice_get d.planes index) both is) in
    ap (λ (s : PlaneState). pos (id_or_zero s.fb)) new ∙ fb_id-is t w index stands.lawful stands.framed within

no-buffer : (c : Content) → framebuffer_in c ≡ None → buffer_id_in c ≡ None
no-buffer (content.Framebuffer info of) e = absurd cc
no-buffer (content.Buffer width height format pattern) e = refl
no-buffer (content.Mode m) e = refl
no-buffer (content.Blob bytes) e = refl
no-buffer content.Fence e = refl
no-buffer content.OutFence e = refl

no-image-in : (things : List Thing) (o : Option Thing) → framebuffer_of o ≡ None
    → (o >>= λ f. buffer_id_in f.content >>= λ id. thing_with_id things id >>= λ b. seen_in b.content) ≡ None
no-image-in things None e = refl
no-image-in things (Some t) e = rw (no-buffer t.content e) refl

-- what is no framebuffer has no image
pub no_image : (things : List Thing) (fb : ℕ) → framebuffer_of (thing_with_id things fb) ≡ None → image_of things fb ≡ None
no_image things fb e = no-image-in things (thing_with_id things fb) e
