-- States that are present stay so where things are seen alike.
use Rattle.std.proofs.Common.{◌≡◌, ℕ, ◌<◌, true, List, Option, Some, refl, sym, ◌∙◌, subst}
use Rattle.std.specs.Prelude.{is_some, slice_get}
use Rattle.kms_model.specs.declared.objects.Kind.TheVariants as kind
use Rattle.kms_model.specs.Device.Places.{state_at}
use Rattle.kms_model.specs.declared.objects.Topology.{Topology}
use Rattle.kms_model.specs.declared.states.Both.{Both}
use Rattle.kms_model.specs.declared.states.Duplicates.{Duplicates}
use Rattle.kms_model.specs.declared.worlds.Setting.{Setting}
use Rattle.kms_model.specs.declared.worlds.Thing.{Thing}
use Rattle.kms_model.specs.declared.worlds.World.{World}
use Rattle.kms_model.specs.Device.Objects.{count_of, object_id}
use Rattle.kms_model.specs.Device.States.{plane_at}
use Rattle.kms_model.specs.Request.Agreement.{AgreesNew, AgreesOld, AreNew, AreOld, crtc_state_at}
use Rattle.kms_model.proofs.Items.{ids-has}
use Rattle.kms_model.proofs.SeenLemmas.{AreSeenAlike, gamma-seen, mode-seen, plane-seen}
use Rattle.kms_things.specs.Present.{AreWhole, IsPresent, IsWhole}

there : {S : Type 0} (states : List (Option (Both S))) (index : ℕ) (both : Both S) → slice_get states index ≡ Some (Some both)
    → is_some (state_at states index) ≡ true
there states index both at = rw at refl

old_same : {S : Type 0} (count : ℕ) (f g : ℕ → S) (states : List (Option (Both S))) → AreWhole count states
    → ((index : ℕ) → index < count → f index ≡ g index) → AreOld f states → AreOld g states
old_same count f g states whole same old index both at = old index both at ∙ same index (whole.only index (there states index both at))

new_same : {S : Type 0} (count : ℕ) (f g : ℕ → S) (states : List (Option (Both S))) → AreWhole count states
    → ((index : ℕ) → index < count → f index ≡ g index) → AreNew f states → AreNew g states
new_same count f g states whole same new index both at = new index both at ∙ same index (whole.only index (there states index both at))

crtc_same : (t : Topology) (xs ys : List Thing) (values : List Setting) (index : ℕ) → AreSeenAlike t xs ys values → index < t.crtcs
    → crtc_state_at t xs values (object_id kind.Crtc index) ≡ crtc_state_at t ys values (object_id kind.Crtc index)
crtc_same t xs ys values index alike lt =
    let is = ids-has t kind.Crtc index lt in
    rw (mode-seen t xs ys values (object_id kind.Crtc index) alike is, gamma-seen t xs ys values (object_id kind.Crtc index) alike is) refl

plane_same : (t : Topology) (xs ys : List Thing) (values : List Setting) (index : ℕ) → AreSeenAlike t xs ys values
    → index < count_of t kind.Plane → plane_at xs values (object_id kind.Plane index) ≡ plane_at ys values (object_id kind.Plane index)
plane_same t xs ys values index alike lt = plane-seen t xs ys values (object_id kind.Plane index) alike (ids-has t kind.Plane index lt)

old_seen : (t : Topology) (xs ys : List Thing) (values : List Setting) (d : Duplicates) → AreSeenAlike t xs ys values → IsWhole t d
    → AgreesOld t xs values d → AgreesOld t ys values d
old_seen t xs ys values d alike whole old = record {
  crtcs = old_same t.crtcs (λ index. crtc_state_at t xs values (object_id kind.Crtc index))
      (λ index. crtc_state_at t ys values (object_id kind.Crtc index)) d.crtcs whole.crtcs
      (λ index lt. crtc_same t xs ys values index alike lt) old.crtcs;
  planes = old_same (count_of t kind.Plane) (λ index. plane_at xs values (object_id kind.Plane index))
      (λ index. plane_at ys values (object_id kind.Plane index)) d.planes whole.planes
      (λ index lt. plane_same t xs ys values index alike lt) old.planes;
  conns = old.conns;
}

pub new_seen : (t : Topology) (xs ys : List Thing) (values : List Setting) (d : Duplicates) → AreSeenAlike t xs ys values → IsWhole t d
    → AgreesNew t xs values d → AgreesNew t ys values d
new_seen t xs ys values d alike whole new = record {
  crtcs = new_same t.crtcs (λ index. crtc_state_at t xs values (object_id kind.Crtc index))
      (λ index. crtc_state_at t ys values (object_id kind.Crtc index)) d.crtcs whole.crtcs
      (λ index lt. crtc_same t xs ys values index alike lt) new.crtcs;
  planes = new_same (count_of t kind.Plane) (λ index. plane_at xs values (object_id kind.Plane index))
      (λ index. plane_at ys values (object_id kind.Plane index)) d.planes whole.planes
      (λ index lt. plane_same t xs ys values index alike lt) new.planes;
  conns = new.conns;
}

-- states that are present stay so where the things that the values name are seen alike
pub present_seen : (t : Topology) (w after : World) (d : Duplicates) → after.values ≡ w.values
    → AreSeenAlike t w.things after.things w.values → IsPresent t w d → IsPresent t after d
present_seen t w after d values alike present = record {
  whole = present.whole;
  old = subst (λ vs. AgreesOld t after.things vs d) (sym values)
      (old_seen t w.things after.things w.values d alike present.whole present.old);
  new = subst (λ vs. AgreesNew t after.things vs d) (sym values)
      (new_seen t w.things after.things w.values d alike present.whole present.new);
}
