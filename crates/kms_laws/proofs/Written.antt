-- The shadow words after a write.
use Rattle.std.proofs.Common.{◌≡◌, ℕ, suc, Bool, true, false, refl, ap, ◌∙◌, arith}
use Rattle.std.specs.Prelude.{if◌then◌else◌, nat_le, nat_lt}
use Rattle.std.proofs.lemmas.Bool.{and_from, and_right, le-leb, le-ltb, lt-ltb}
use Rattle.kms_model.specs.declared.objects.Kind.TheVariants.{Crtc, Plane}
use Rattle.kms_model.specs.declared.objects.Topology.{Topology}
use Rattle.kms_model.specs.Device.Objects.{ids_of, is_id_of}
use Rattle.kms_model.specs.Machine.Commits.{new_connector, new_crtc, new_plane}
use Rattle.kms_model.specs.Machine.Effects.{written_registers}
use Rattle.kms_model.specs.Machine.Registers.{Registers, crtc_register, crtc_words, first_crtc_words, first_plane_words, plane_register}
use Rattle.kms_model.specs.Machine.Registers.{plane_words, write_crtc, write_plane}
use Rattle.kms_model.specs.Machine.State.{DeviceState}
use Rattle.kms_model.proofs.Items.{IsIn, IsObject, ids-in}
use Rattle.kms_model.proofs.TouchedLemmas.{HasFewObjects}
use Rattle.kms_laws.proofs.Basics.{read_other, read_same}
use Rattle.kms_laws.proofs.Invariants.{crtc_after, plane_after}

crtc_id : (t : Topology) (o : ℕ) → HasFewObjects t → IsIn o (ids_of t Crtc) → is_id_of Crtc o ≡ true
crtc_id t o few is =
    let i : IsObject t Crtc o = ids-in t Crtc o is in
    and_from (nat_le 100 o) (nat_lt o 104) (le-leb 100 o (omega (arith, i.same)))
    (lt-ltb o 104 (omega (arith, i.same, i.within, few.crtcs)))

plane_no_crtc_id : (t : Topology) (o : ℕ) → IsIn o (ids_of t Plane) → is_id_of Crtc o ≡ false
plane_no_crtc_id t o is =
    let i : IsObject t Plane o = ids-in t Plane o is in
    and_right (nat_le 100 o) (nat_lt o 104) (le-ltb o 104 (omega (arith, i.same)))

module _ (t : Topology) (d : DeviceState) (k o : ℕ) where
  written_if : Bool → Registers
  written_if b = if b then write_crtc d.shadow o (crtc_words (new_connector t d.commits k o) (new_crtc t d.commits k o))
      else write_plane d.shadow o (plane_words (new_plane t d.commits k o))

  pub written-plane : (p : ℕ) → IsIn p (ids_of t Plane) → o ≡ p → plane_register (written_registers t d k o) p
      ≡ plane_after t d.commits (suc k) p
  unfolding plane_after written_if
  written-plane p ip same =
      ap (λ b. plane_register (written_if b) p) (ap (is_id_of Crtc) same ∙ plane_no_crtc_id t p ip)
      ∙ ap (λ z. plane_register (write_plane d.shadow z (plane_words (new_plane t d.commits k z))) p) same
      ∙ read_same (first_plane_words p) d.shadow.planes p (plane_words (new_plane t d.commits k p))

  pub other-plane : (p : ℕ) → (o ≡ p → ⊥) → plane_register (written_registers t d k o) p ≡ plane_register d.shadow p
  unfolding written_if
  other-plane p ne = by_test (is_id_of Crtc o)
    where
      by_test : (b : Bool) → plane_register (written_if b) p ≡ plane_register d.shadow p
      by_test true = refl
      by_test false = read_other (first_plane_words p) d.shadow.planes o p (plane_words (new_plane t d.commits k o)) ne

  pub written-crtc : (c : ℕ) → HasFewObjects t → IsIn c (ids_of t Crtc) → o ≡ c → crtc_register (written_registers t d k o) c
      ≡ crtc_after t d.commits (suc k) c
  unfolding crtc_after written_if
  written-crtc c few ic same =
      ap (λ b. crtc_register (written_if b) c) (ap (is_id_of Crtc) same ∙ crtc_id t c few ic)
      ∙ ap (λ z. crtc_register (write_crtc d.shadow z (crtc_words (new_connector t d.commits k z) (new_crtc t d.commits k z))) c) same
      ∙ read_same first_crtc_words d.shadow.crtcs c (crtc_words (new_connector t d.commits k c) (new_crtc t d.commits k c))

  pub other-crtc : (c : ℕ) → (o ≡ c → ⊥) → crtc_register (written_registers t d k o) c ≡ crtc_register d.shadow c
  unfolding written_if
  other-crtc c ne = by_test (is_id_of Crtc o)
    where
      by_test : (b : Bool) → crtc_register (written_if b) c ≡ crtc_register d.shadow c
      by_test true = read_other first_crtc_words d.shadow.crtcs o c (crtc_words (new_connector t d.commits k o) (new_crtc t d.commits k o))
          ne
      by_test false = refl
