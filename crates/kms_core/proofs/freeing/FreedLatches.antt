-- What a latch frees.
use Rattle.std.proofs.Common.{◌≡◌, ℕ, List, true, sym, ap, ◌∙◌, subst, inl, inr, ◌⊎◌}
use Rattle.std.proofs.lemmas.Bool.{cases_eq, false≢true}
use Rattle.kms_model.specs.declared.objects.Kind.TheVariants.{Crtc}
use Rattle.kms_model.specs.declared.objects.Topology.{Topology}
use Rattle.kms_model.specs.declared.worlds.Thing.{Thing}
use Rattle.kms_model.specs.declared.worlds.World.{World}
use Rattle.kms_model.specs.Device.Objects.{ids_of}
use Rattle.kms_model.specs.Device.Sound.{AreNumbered}
use Rattle.kms_model.specs.Device.States.{plane_at}
use Rattle.kms_model.specs.Machine.Framebuffers.{commits_keep, is_needed, live_names, picture_names, values_name}
use Rattle.kms_model.specs.Machine.Registers.{decoded_picture}
use Rattle.kms_model.specs.Machine.State.{DeviceState, Machine}
use Rattle.kms_model.proofs.Items.{IsIn, list_any-has, list_any-some}
use Rattle.kms_core.specs.Freeing.{AreAllOf}
use Rattle.kms_core.proofs.freeing.FreedSteps.{IsTold, all_of, each_of, kept_same, needed_by, needs_of, told_by, values_same}

pub live_some : (t : Topology) (d : DeviceState) (id : ℕ) → live_names t d id ≡ true → (c : ℕ)
    × (IsIn c (ids_of t Crtc) × (picture_names id (decoded_picture t d.live c) ≡ true))
unfolding live_names
live_some t d id live = (let found = list_any-some (λ crtc. picture_names id (decoded_picture t d.live crtc)) (ids_of t Crtc) live
    in (found.item, (found.is_in, found.holds)))

pub live_by : (t : Topology) (d : DeviceState) (id c : ℕ) → IsIn c (ids_of t Crtc) → picture_names id (decoded_picture t d.live c) ≡ true
    → live_names t d id ≡ true
unfolding live_names
live_by t d id c is names = list_any-has (λ crtc. picture_names id (decoded_picture t d.live crtc)) (ids_of t Crtc) c is names

-- A CRTC shows another picture, and the others show what they showed.
pub record ShowsAnother (t : Topology) (m n : Machine) (c : ℕ) : Type 0 where
  pub world : n.device.world ≡ m.device.world
  pub commits : n.device.commits ≡ m.device.commits
  pub cleaned : n.device.marks.cleaned ≡ m.device.marks.cleaned
  pub is_crtc : IsIn c (ids_of t Crtc)
  pub others : (other : ℕ) → IsIn other (ids_of t Crtc) → (c ≡ other → ⊥) → decoded_picture t n.device.live other
      ≡ decoded_picture t m.device.live other

pub latch_told : (t : Topology) (m n : Machine) (c : ℕ) (ids : List ℕ) → AreNumbered 1000 m.device.world.things → ShowsAnother t m n c
    → ((x : Thing) → IsIn x m.device.world.things → is_needed t n x ≡ true → is_needed t m x ≡ true)
    → AreAllOf ids (λ id. picture_names id (decoded_picture t m.device.live c)) → IsTold t m n ids
latch_told t m n c ids numbered S back A =
    told_by t m n numbered (ap (λ (w : World). w.things) S.world) back ids A.rising
    (λ id is x own framebuffer. needed_by t m x (record {
      framebuffer = framebuffer;
      why = inr (inr
          (inl (live_by t m.device x.id c S.is_crtc
          (subst (λ z. picture_names z (decoded_picture t m.device.live c) ≡ true) (sym own) (each_of A id is)))));
    }))
    (λ x needed off.
    let needs = needs_of t m x needed in
    let no = λ (w : (x.is_open ≡ true) ⊎ ((values_name t n.device x.id ≡ true)
    ⊎ ((live_names t n.device x.id ≡ true) ⊎ (commits_keep t n x.id ≡ true)))). false≢true
    (sym off ∙ needed_by t n x (record { framebuffer = needs.framebuffer; why = w })) in
    elim needs.why [
      | inl opened ↦ absurd (no (inl opened))
      | inr rest ↦ elim rest [
        | inl values ↦ absurd (no (inr (inl (values_same t m n x.id (λ p of. ap (λ (w : World). plane_at w.things w.values p) S.world) ∙
            values))))
        | inr rest ↦ elim rest [
          | inl live ↦
              (let found = live_some t m.device x.id live in
              elim (cases_eq c found.0) [
                | inl this ↦ all_of A x.id (ap (λ z. picture_names x.id (decoded_picture t m.device.live z)) this ∙ found.1.1)
                | inr other ↦ absurd (no (inr (inr (inl (live_by t n.device x.id found.0 found.1.0
                    (ap (picture_names x.id) (S.others found.0 found.1.0 other) ∙ found.1.1))))))
              ])
          | inr kept ↦ absurd (no (inr (inr (inr (kept_same t m n x.id S.commits S.cleaned ∙ kept)))))
        ]
      ]
    ])
