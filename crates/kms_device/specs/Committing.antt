-- What a commit has done while it makes attempts. From: as for attempts.
use Rattle.std.specs.Prelude.{ℕ, List, IfSome}
use Rattle.kms_model.specs.declared.replies.Step.{Step}
use Rattle.kms_model.specs.declared.scripts.Script.{Script}
use Rattle.kms_device.specs.declared.attempt.Attempt.{Attempt}
use Rattle.kms_device.specs.Attempts.{AreAttempts, MadeAttempt, Serves, StandsAt, StaysAt, Went}
use Rattle.kms_device.specs.Turns.{DevicePass, run_seen}

-- It made some attempts, whose steps these are, gave no reply yet, and can go on with what it keeps.
pub record GoesOnWith (script : Script) (client : ℕ) (before after : DevicePass) (work : Attempt) : Type 0 where
  pub steps : List Step
  pub went : Went steps before after
  pub stays : StaysAt (run_seen script before) (run_seen script after) client
  pub attempts : List MadeAttempt
  pub are_attempts : AreAttempts script client before attempts after work.kept
  pub serves : Serves (run_seen script after) client work.kept
  pub stands : IfSome work.place (StandsAt (run_seen script after) client)
