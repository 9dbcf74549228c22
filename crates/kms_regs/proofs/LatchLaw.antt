-- A latch shows what was written for its CRTC, and leaves the other CRTCs alone.
use Rattle.std.proofs.Common.{◌≡◌, ◌≢◌, ℕ, ◌<◌, Bool, true, false, List, length, arith, refl, sym, ap, ◌∙◌, inl, inr, if◌then◌else◌, None}
use Rattle.std.specs.Prelude.{◌==◌}
use Rattle.std.proofs.lemmas.Bool.{cases_Bool, or_cases, or_parts}
use Rattle.std.proofs.lemmas.Bool.Decides.{eqb_tells}
use Rattle.kms_model.specs.Device.Objects.{object_id}
use Rattle.kms_model.specs.declared.objects.Kind.TheVariants.{Crtc, Plane}
use Rattle.kms_model.specs.declared.objects.Mode.{Mode}
use Rattle.kms_model.specs.declared.objects.Topology.{Topology}
use Rattle.kms_model.specs.declared.pictures.Layer.{Layer}
use Rattle.kms_model.specs.Frames.Pictures.{put_plane, seen_on}
use Rattle.kms_model.specs.Machine.Registers.{PlaneWords, Registers, crtc_register, first_crtc_words, first_plane_words, is_copied}
use Rattle.kms_model.specs.Machine.Registers.{latched_registers, plane_in, plane_register}
use Rattle.kms_regs.specs.Latches.{LeavesTheOthers, MovesCrtc, NoPlaneMoves, ShowsTheShadow}
use Rattle.kms_regs.proofs.BankLemmas.{copied-copied, kept-copied}
use Rattle.kms_regs.proofs.Rows.{other_id, read_here, read_past}
use Rattle.kms_regs.proofs.SameWords.{decoded_alike}

-- how a plane with these words is put among the layers of a CRTC
abbrev put_at : Mode → ℕ → ℕ → PlaneWords → List (ℕ × Layer) → List (ℕ × Layer)
put_at m crtc plane w ls = put_plane m plane (plane_in w) (seen_on crtc (plane_in w)) ls

-- a plane that is not on a CRTC is not seen there
unseen : (m : Mode) (crtc plane : ℕ) (w : PlaneWords) (ls : List (ℕ × Layer)) → (w.crtc == crtc) ≡ false → put_at m crtc plane w ls ≡ ls
unfolding plane_in
unseen m crtc plane w ls off = ap (λ (b : Bool). put_plane m plane (plane_in w) (if b then (plane_in w).fb else None) ls) off

-- the words of a plane after a latch
copied_words : (t : Topology) (shadow live : Registers) (crtc i : ℕ) → i < length t.planes
    → is_copied shadow live crtc (object_id Plane i) ≡ true
    → plane_register (latched_registers t shadow live crtc) (object_id Plane i) ≡ plane_register shadow (object_id Plane i)
copied_words t shadow live crtc i low is =
    copied-copied shadow live crtc 0 (length t.planes) i (first_plane_words (object_id Plane i)) (omega arith) (omega (arith, low)) is

kept_words : (t : Topology) (shadow live : Registers) (crtc i : ℕ) → is_copied shadow live crtc (object_id Plane i) ≡ false
    → plane_register (latched_registers t shadow live crtc) (object_id Plane i) ≡ plane_register live (object_id Plane i)
kept_words t shadow live crtc i not = kept-copied shadow live crtc 0 (length t.planes) i (first_plane_words (object_id Plane i)) not

shows_plane : (t : Topology) (shadow live : Registers) (crtc i : ℕ) (m : Mode) (ls : List (ℕ × Layer)) → i < length t.planes
    → put_at m crtc (object_id Plane i) (plane_register (latched_registers t shadow live crtc) (object_id Plane i)) ls
    ≡ put_at m crtc (object_id Plane i) (plane_register shadow (object_id Plane i)) ls
shows_plane t shadow live crtc i m ls low =
    let plane : ℕ = object_id Plane i in
    elim (cases_Bool (is_copied shadow live crtc plane)) [
      | inl on_it ↦ ap (λ (w : PlaneWords). put_at m crtc plane w ls) (copied_words t shadow live crtc i low on_it)
      | inr off_it ↦ (let parts = or_parts ((plane_register live plane).crtc == crtc) ((plane_register shadow plane).crtc == crtc) off_it in
          ap (λ (w : PlaneWords). put_at m crtc plane w ls) (kept_words t shadow live crtc i off_it)
          ∙ unseen m crtc plane (plane_register live plane) ls parts.0 ∙ sym (unseen m crtc plane (plane_register shadow plane) ls parts.1))
    ]

pub shows : (t : Topology) (shadow live : Registers) (crtc : ℕ) → ShowsTheShadow t shadow live crtc
shows t shadow live crtc =
    let id : ℕ = object_id Crtc crtc in
    decoded_alike t (latched_registers t shadow live id) shadow id
    (read_here first_crtc_words (crtc_register shadow id) live.crtcs id id refl)
    (λ m i ls low. shows_plane t shadow live id i m ls low)

equal_of : (a b : ℕ) → (a == b) ≡ true → a ≡ b
equal_of a b is = elim (eqb_tells a b) [ inl same ↦ same.1 | inr other ↦ cc ]

-- a plane that a latch copies is on no other CRTC
on_none : (shadow live : Registers) (plane crtc other : ℕ) → crtc ≢ 0 → other ≢ 0 → other ≢ crtc → ¬ MovesCrtc shadow live plane
    → is_copied shadow live crtc plane ≡ true
    → ((plane_register live plane).crtc ≢ other) × ((plane_register shadow plane).crtc ≢ other)
on_none shadow live plane crtc other some some_other differ still is =
    elim (or_cases ((plane_register live plane).crtc == crtc) ((plane_register shadow plane).crtc == crtc) is) [
      | inl first ↦ (let here : (plane_register live plane).crtc ≡ crtc = equal_of (plane_register live plane).crtc crtc first in (
        (λ e. differ (sym e ∙ here)),
        (λ e. still (record {
          live_on_one = λ z. some (sym here ∙ z);
          shadow_on_one = λ z. some_other (sym e ∙ z);
          on_another = λ same. differ
              (sym e ∙ sym same ∙ here);
        })),
      ))
      | inr second ↦ (let here : (plane_register shadow plane).crtc ≡ crtc = equal_of (plane_register shadow plane).crtc crtc second in (
        (λ e. still (record {
          live_on_one = λ z. some_other (sym e ∙ z);
          shadow_on_one = λ z. some (sym here ∙ z);
          on_another = λ same.
              differ (sym e ∙ same ∙ here);
        })),
        (λ e. differ (sym e ∙ here)),
      ))
    ]

leaves_plane : (t : Topology) (shadow live : Registers) (crtc other i : ℕ) (m : Mode) (ls : List (ℕ × Layer)) → crtc ≢ 0 → other ≢ 0
    → other ≢ crtc → NoPlaneMoves t shadow live → i < length t.planes
    → put_at m other (object_id Plane i) (plane_register (latched_registers t shadow live crtc) (object_id Plane i)) ls
    ≡ put_at m other (object_id Plane i) (plane_register live (object_id Plane i)) ls
leaves_plane t shadow live crtc other i m ls some some_other differ still low =
    let plane : ℕ = object_id Plane i in
    elim (cases_Bool (is_copied shadow live crtc plane)) [
      | inl on_it ↦ (let none = on_none shadow live plane crtc other some some_other differ (still i low) on_it in
          ap (λ (w : PlaneWords). put_at m other plane w ls) (copied_words t shadow live crtc i low on_it)
          ∙ unseen m other plane (plane_register shadow plane) ls (other_id (plane_register shadow plane).crtc other none.1)
          ∙ sym (unseen m other plane (plane_register live plane) ls (other_id (plane_register live plane).crtc other none.0)))
      | inr off_it ↦ ap (λ (w : PlaneWords). put_at m other plane w ls) (kept_words t shadow live crtc i off_it)
    ]

pub leaves : (t : Topology) (shadow live : Registers) (crtc : ℕ) → NoPlaneMoves t shadow live → LeavesTheOthers t shadow live crtc
leaves t shadow live crtc still other differ =
    let id : ℕ = object_id Crtc crtc in
    let other_crtc : ℕ = object_id Crtc other in
    let apart : other_crtc ≢ id = λ e. differ (omega (arith, e)) in
    decoded_alike t (latched_registers t shadow live id) live other_crtc
    (read_past first_crtc_words (crtc_register shadow id) live.crtcs id other_crtc (λ e. apart (sym e)))
    (λ m i ls low. leaves_plane t shadow live id other_crtc i m ls (λ z. absurd (omega (arith, z))) (λ z. absurd (omega (arith, z))) apart
    still low)
