use Rattle.std.proofs.Common.{◌≡◌, [], ◌∷◌, ◌∙◌, ℕ, Bool, Option, Some, None, ap, cond, refl, subst, sym}
use Rattle.std.specs.Prelude.{find, length}
use Rattle.std.specs.List.{range_with_len}
use Rattle.kms_model.specs.declared.objects.Kind.TheVariants.{Crtc, Plane}
use Rattle.kms_model.specs.declared.replies.Step.TheVariants as step
use Rattle.kms_model.specs.declared.scripts.Script.{Script}
use Rattle.kms_core.specs.Run.{gains}
use Rattle.kms_device.specs.Steps.{is_legal, step_if}
use Rattle.kms_model.proofs.ThingLemmas.{find-holds}
use Rattle.kms_device.proofs.Tails.{first_told}
use Rattle.kms_device.proofs.workers.work_on.Goals as goal

-- what is found among the CRTCs, and among the planes, of the device that was asked
of_crtcs : (o : Option ℕ) (p : ℕ → Bool) (s t : Script) → s ≡ t → o ≡ find p (range_with_len 0 s.topology.crtcs) → o
    ≡ find p (range_with_len 0 t.topology.crtcs)
of_crtcs o p s t same e = subst (λ (z : Script). o ≡ find p (range_with_len 0 z.topology.crtcs)) same e

of_planes : (o : Option ℕ) (p : ℕ → Bool) (n : ℕ) (s t : Script) → n ≡ length s.topology.planes → s ≡ t → o ≡ find p (range_with_len 0 n)
    → o ≡ find p (range_with_len 0 (length t.topology.planes))
of_planes o p n s t size same e = subst (λ m. o ≡ find p (range_with_len 0 m)) (size ∙ ap (λ (z : Script). length z.topology.planes) same) e

pub write_object-requires : goal.write_object-requires
write_object-requires c = find-holds (λ i. is_legal c.args.core.now (step.Write c.args.commit Crtc i))
    (range_with_len 0 c.script.result.now.topology.crtcs) c.in-Some.index (sym c.in-Some.ensures)

pub returns-in-Some-clause-answer : goal.returns-in-Some-clause-answer
returns-in-Some-clause-answer c =
    ap Some c.write_object.ensures.answer
    ∙ first_told c.args.core.now c.args.commit (Some c.in-Some.index) _ _ (of_crtcs _ _ _ _ c.script.ensures c.in-Some.ensures) refl refl

pub write_object-requires-in-Some-first_left : goal.write_object-requires-in-Some-first_left
write_object-requires-in-Some-first_left c = find-holds (λ i. is_legal c.args.core.now (step.Write c.args.commit Plane i))
    (range_with_len 0 c.len-planes.result) c.in-Some-first_left.index (sym c.in-Some-first_left.ensures)

pub returns-in-Some-first_left-clause-answer : goal.returns-in-Some-first_left-clause-answer
returns-in-Some-first_left-clause-answer c =
    ap Some c.write_object-in-Some-first_left.ensures.answer
    ∙ first_told c.args.core.now c.args.commit None (Some c.in-Some-first_left.index) _
    (of_crtcs _ _ _ _ c.script.ensures c.in_default.ensures)
    (of_planes _ _ _ _ _ c.len-planes.ensures c.script-2.ensures c.in-Some-first_left.ensures) refl

pub returns-in-Some-first_left-2-clause-answer : goal.returns-in-Some-first_left-2-clause-answer
returns-in-Some-first_left-2-clause-answer c =
    first_told c.args.core.now c.args.commit None None (Some c.in-Some-first_left-2.index)
    (of_crtcs _ _ _ _ c.script.ensures c.in_default.ensures)
    (of_planes _ _ _ _ _ c.len-planes.ensures c.script-2.ensures c.in_default-first_left.ensures)
    (of_crtcs _ _ _ _ c.script.ensures c.in-Some-first_left-2.ensures)

pub returns-in-Some-first_left-2-clause-history : goal.returns-in-Some-first_left-2-clause-history
returns-in-Some-first_left-2-clause-history c =
    c.flush.ensures.history
    ∙ ap (λ b. gains c.args.core.now (step_if b (step.Flush c.args.commit Crtc c.in-Some-first_left-2.index)))
    (c.flush.ensures.answer ∙ find-holds (λ i. is_legal c.args.core.now (step.Flush c.args.commit Crtc i))
    (range_with_len 0 c.script.result.now.topology.crtcs) c.in-Some-first_left-2.index (sym c.in-Some-first_left-2.ensures))

pub returns-then-legal-clause-answer : goal.returns-then-legal-clause-answer
returns-then-legal-clause-answer c =
    (λ i. cond (c.if-legal.ensures i) (Some (step.HwDone c.args.commit))
    (find (is_legal c.args.core.now) (step.Cleanup c.args.commit ∷ [])))
    ∙ first_told c.args.core.now c.args.commit None None None (of_crtcs _ _ _ _ c.script.ensures c.in_default.ensures)
    (of_planes _ _ _ _ _ c.len-planes.ensures c.script-2.ensures c.in_default-first_left.ensures)
    (of_crtcs _ _ _ _ c.script.ensures c.in_default-first_left-2.ensures)

pub returns-then-clean_up-clause-answer : goal.returns-then-clean_up-clause-answer
returns-then-clean_up-clause-answer c =
    (λ i. cond (c.if-legal.ensures i) (Some (step.HwDone c.args.commit))
    (cond (c.if-clean_up.ensures.answer i) (Some (step.Cleanup c.args.commit)) None))
    ∙ first_told c.args.core.now c.args.commit None None None (of_crtcs _ _ _ _ c.script.ensures c.in_default.ensures)
    (of_planes _ _ _ _ _ c.len-planes.ensures c.script-2.ensures c.in_default-first_left.ensures)
    (of_crtcs _ _ _ _ c.script.ensures c.in_default-first_left-2.ensures)

pub returns-clause-answer : goal.returns-clause-answer
returns-clause-answer c =
    (λ i. cond (c.if-legal.ensures i) (Some (step.HwDone c.args.commit))
    (cond (c.if-clean_up.ensures.answer i) (Some (step.Cleanup c.args.commit)) None))
    ∙ first_told c.args.core.now c.args.commit None None None (of_crtcs _ _ _ _ c.script.ensures c.in_default.ensures)
    (of_planes _ _ _ _ _ c.len-planes.ensures c.script-2.ensures c.in_default-first_left.ensures)
    (of_crtcs _ _ _ _ c.script.ensures c.in_default-first_left-2.ensures)
