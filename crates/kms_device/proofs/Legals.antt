-- What legality asks for and tells, of a history that was not ended.
use Rattle.std.proofs.Common.{◌≡◌, ℕ, ◌<◌, true, ap, arith}
use Rattle.std.specs.Prelude.{is_some, not}
use Rattle.std.proofs.lemmas.Bool.{and_from, and_parts, ltb-true, or_left}
use Rattle.kms_model.specs.declared.objects.Kind.TheVariants.{Crtc}
use Rattle.kms_model.specs.declared.replies.Step.TheVariants as step
use Rattle.kms_model.specs.Device.Objects.{exists, object_id}
use Rattle.kms_model.specs.Machine.Commits.{is_hw_done}
use Rattle.kms_model.specs.Machine.Histories.{is_history, legal}
use Rattle.kms_model.specs.Machine.State.{go_at}
use Rattle.kms_model.specs.Machine.Steps.{may}
use Rattle.kms_model.specs.Script.WellFormed.{IsWellFormed}
use Rattle.kms_model.proofs.Guards.{IsCleaning, legal-going, legal_guards}
use Rattle.kms_model.proofs.TouchedLemmas.{few_objects}
use Rattle.kms_laws.proofs.Modes.{plain-from}
use Rattle.kms_laws.proofs.Steps.{history_kept}
use Rattle.kms_core.specs.Latching.{MayBlank, goes_at}
use Rattle.kms_core.specs.Run.{Run, machine}
use Rattle.kms_core.specs.Work.{MayCleanUp, is_commit_over}
use Rattle.kms_device.specs.Steps.{NeverEnds, blanks_at, is_legal}
use Rattle.kms_device.proofs.Runs.{open-at}

pub crtc-few : (r : Run) (crtc : ℕ) → IsWellFormed r.script → crtc < r.script.topology.crtcs → crtc < 4
crtc-few r crtc formed l = let few = (few_objects r.script.topology formed.device).crtcs in omega (arith, l, few)

pub blank-few : (r : Run) (crtc : ℕ) → IsWellFormed r.script → blanks_at r crtc ≡ true → crtc < 4
blank-few r crtc formed h = crtc-few r crtc formed
    (ltb-true crtc r.script.topology.crtcs (and_parts (exists r.script.topology Crtc crtc) _ h).0)

pub may_blank : (r : Run) (crtc : ℕ) → is_history r.script r.steps ≡ true → NeverEnds r.steps → blanks_at r crtc ≡ true → MayBlank r crtc
unfolding legal may
may_blank r crtc history never h =
    let both = and_parts (exists r.script.topology Crtc crtc) _ h in
    and_from (not (machine r).stalled) _ (ap not (open-at r.script r.steps history never))
    (and_from (exists r.script.topology Crtc crtc) _ both.0 (or_left (is_some (go_at (machine r).device (object_id Crtc crtc))) _ both.1))

pub blank-goes : (r : Run) (crtc : ℕ) → blanks_at r crtc ≡ true → goes_at r crtc ≡ true
blank-goes r crtc h = (and_parts (exists r.script.topology Crtc crtc) _ h).1

module _ (r : Run) (k : ℕ) (legal_step : is_legal r (step.Cleanup k) ≡ true) where
  guards : IsCleaning r.script.topology (machine r) k
  guards = legal_guards r.script (machine r) (step.Cleanup k) legal_step

  pub may_clean : IsWellFormed r.script → is_history r.script r.steps ≡ true → MayCleanUp r k
  may_clean formed history = record {
    claimed = ((history_kept r.script r.steps (plain-from r.script formed) history).tail.marks.done k guards.done).0;
    kept = guards.kept;
    going = legal-going r.script (machine r) (step.Cleanup k) legal_step;
  }

  pub clean-over : is_commit_over r k ≡ true
  clean-over = and_from (is_hw_done (machine r).device k) _ guards.done guards.latched
