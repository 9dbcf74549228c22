-- What is told of a client that takes locks for a request, as its next step needs it. From: "KMS Locking"; "Atomic Mode
-- Setting"; `drm_atomic_helper.c`, drm_atomic_helper_setup_commit.
use Rattle.std.specs.Prelude.{◌≡◌, ℕ, true, is_some, Option, Some, None}
use Rattle.kms_model.specs.declared.objects.Topology.{Topology}
use Rattle.kms_model.specs.declared.scripts.Request.{Request}
use Rattle.kms_model.specs.declared.scripts.Script.{Script}
use Rattle.kms_model.specs.Machine.State.{Machine, doing_at, request_at}
use Rattle.kms_model.specs.Machine.Steps.{holds_touched, is_ready, is_taking}
use Rattle.kms_model.specs.Request.Verdict.{early_in, late_in}
use Rattle.kms_request.specs.Answers.{refusal_number}
use Rattle.kms_core.specs.declared.next.judgement.Judged.{Judged}
use Rattle.kms_core.specs.Calls.{only_if}
use Rattle.kms_core.specs.Swaps.{late_reply}

-- the request for which a client takes locks
abbrev pub request_taken : Script → Machine → ℕ → Option Request
request_taken s m client = only_if (is_taking (doing_at m client)) (request_at s m client)

-- what is told of a request, where no early refusal is due: whether a client holds what it touches; the first
-- late refusal; the answer where there is no space for its events, or it is busy; whether nothing keeps its commit waiting
pub record IsJudgedLate (t : Topology) (m : Machine) (client : ℕ) (r : Request) (j : Judged) : Type 0 where
  pub none : early_in t m.device.world r ≡ None
  pub holds : j.holds ≡ holds_touched t m client r
  pub late : refusal_number j.late ≡ late_in t m.device.world r
  pub hindered : j.hindered ≡ late_reply t m client r
  pub ready : j.ready ≡ is_ready t m r

-- nothing more is told where an early refusal is due
abbrev pub IsJudged : Topology → Machine → ℕ → Request → Option Judged → Type 0
IsJudged t m client r None = is_some (early_in t m.device.world r) ≡ true
IsJudged t m client r (Some j) = IsJudgedLate t m client r j
