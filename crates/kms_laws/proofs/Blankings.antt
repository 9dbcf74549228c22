-- The count of a CRTC after a history is the number of its vblanks.
use Rattle.std.proofs.Common.{◌≡◌, ℕ, suc, ◌+◌, ◌<◌, List, [], ◌∷◌, Bool, true, false, refl, sym, ap, ◌∙◌, arith, ⊎_elim}
use Rattle.std.proofs.lemmas.Bool.{and_parts, cases_eq, eq-eqb, ne_eqb}
use Rattle.kms_model.specs.declared.objects.Kind.{Kind}
use Rattle.kms_model.specs.declared.objects.Kind.TheVariants.{Crtc, Plane, Conn, Enc}
use Rattle.kms_model.specs.declared.replies.Step.{Step}
use Rattle.kms_model.specs.declared.replies.Step.TheVariants.{Vblank}
use Rattle.kms_model.specs.declared.scripts.Script.{Script}
use Rattle.kms_model.specs.Device.Objects.{object_id}
use Rattle.kms_model.specs.Machine.Effects.{counts_vblank, next}
use Rattle.kms_model.specs.Machine.Histories.{are_legal, at, is_history, legal, run_steps}
use Rattle.kms_model.specs.Machine.Registers.{read}
use Rattle.kms_model.specs.Machine.State.{Machine, count_at, first_machine}
use Rattle.kms_laws.specs.Blankings.{blankings, is_blanking, one_more_if}
use Rattle.kms_laws.proofs.Basics.{read_other, read_same}
use Rattle.kms_laws.specs.TailsLeft.{is_swap}
use Rattle.kms_laws.proofs.Counted.{counts_carried, is_vblank}
use Rattle.kms_laws.proofs.EachStep.{Carries, each_step}

of_no_crtc : (crtc : ℕ) (step : Step) → is_vblank step ≡ false → is_blanking crtc step ≡ false
of_no_crtc crtc (Vblank kind index) no_blanking = absurd cc
of_no_crtc crtc _ no_blanking = refl

module _ (s : Script) (m : Machine) (crtc : ℕ) (few : crtc < 4) where
  -- a step adds one to the count where it is a vblank of the CRTC
  abbrev Adds : Step → Machine → Type 0
  Adds step m2 = count_at m2.device (object_id Crtc crtc) ≡ one_more_if (is_blanking crtc step) (count_at m.device (object_id Crtc crtc))

  counted_now : (at : ℕ) → at ≡ object_id Crtc crtc → read 0 ((at, count_at m.device at + 1) ∷ m.device.counts) (object_id Crtc crtc)
      ≡ suc (count_at m.device (object_id Crtc crtc))
  counted_now at same =
      let own = read_same 0 m.device.counts (object_id Crtc crtc) (count_at m.device (object_id Crtc crtc) + 1) in
      ap (λ z. read 0 ((z, count_at m.device z + 1) ∷ m.device.counts) (object_id Crtc crtc)) same ∙ own ∙ omega arith

  counted_elsewhere : (at : ℕ) → (at ≡ object_id Crtc crtc → ⊥)
      → read 0 ((at, count_at m.device at + 1) ∷ m.device.counts) (object_id Crtc crtc) ≡ count_at m.device (object_id Crtc crtc)
  counted_elsewhere at other = read_other 0 m.device.counts at (object_id Crtc crtc) (count_at m.device at + 1) other

  blank_adds : (kind : Kind) (index : ℕ) → Adds (Vblank kind index) (counts_vblank m (object_id kind index))
  blank_adds Crtc index =
      ⊎_elim
      (λ (same : index ≡ crtc). counted_now (object_id Crtc index) (ap (object_id Crtc) same) ∙ sym
      (ap (λ b. one_more_if b (count_at m.device (object_id Crtc crtc))) (eq-eqb index crtc same)))
      (λ other. counted_elsewhere (object_id Crtc index) (λ same. other (omega (arith, same))) ∙ sym
      (ap (λ b. one_more_if b (count_at m.device (object_id Crtc crtc))) (ne_eqb index crtc other)))
      (cases_eq index crtc)
  blank_adds Plane index = counted_elsewhere (object_id Plane index) (λ same. omega (arith, same, few))
  blank_adds Conn index = counted_elsewhere (object_id Conn index) (λ same. omega (arith, same, few))
  blank_adds Enc index = counted_elsewhere (object_id Enc index) (λ same. omega (arith, same, few))

  leaves : (step : Step) → is_swap step ≡ false → is_vblank step ≡ false → Adds step m
  leaves step no_swap no_blanking = sym (ap (λ b. one_more_if b (count_at m.device (object_id Crtc crtc)))
      (of_no_crtc crtc step no_blanking))

  carries_adds : Carries s m Adds
  carries_adds = counts_carried s m (λ step n counts. read 0 counts (object_id Crtc crtc)
      ≡ one_more_if (is_blanking crtc step) (count_at m.device (object_id Crtc crtc))) leaves (λ client. refl) blank_adds

  step_adds : (step : Step) → legal s m step ≡ true → Adds step (next s m step)
  step_adds step h = each_step s m Adds carries_adds step h

one_more : (b : Bool) (n k : ℕ) → n + one_more_if b k ≡ one_more_if b n + k
one_more true n k = omega arith
one_more false n k = refl

all_add : (s : Script) (crtc : ℕ) → crtc < 4 → (h : List Step) (m : Machine) → are_legal s m h ≡ true
    → count_at (run_steps s m h).device (object_id Crtc crtc) ≡ blankings crtc h + count_at m.device (object_id Crtc crtc)
unfolding are_legal run_steps
all_add s crtc few [] m legal_steps = omega arith
all_add s crtc few (step ∷ steps) m legal_steps =
    let both = and_parts (legal s m step) _ legal_steps in
    all_add s crtc few steps (next s m step) both.1
    ∙ ap (λ n. blankings crtc steps + n) (step_adds s m crtc few step both.0)
    ∙ one_more (is_blanking crtc step) (blankings crtc steps) (count_at m.device (object_id Crtc crtc))

pub counts_blankings : (s : Script) (h : List Step) → is_history s h ≡ true → (crtc : ℕ) → crtc < 4
    → count_at (at s h).device (object_id Crtc crtc) ≡ blankings crtc h
unfolding read
counts_blankings s h is crtc few =
    let none : count_at (first_machine s.topology).device (object_id Crtc crtc) ≡ 0 = refl in
    all_add s crtc few h (first_machine s.topology) is ∙ omega (arith, none)
