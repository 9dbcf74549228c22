-- The two requests in order, the worlds around them, and their places in the longer script: what `Stages` is given.
use Rattle.std.proofs.Common.{◌≡◌, ℕ, zero, suc, ◌+◌, ◌<◌, ◌≤◌, length, Some, None, refl, arith}
use Rattle.kms_model.specs.declared.objects.Kind.TheVariants.{Crtc}
use Rattle.kms_model.specs.declared.scripts.Command.TheVariants.{Atomic}
use Rattle.kms_model.specs.declared.scripts.Request.{Request}
use Rattle.kms_model.specs.declared.scripts.Script.{Script}
use Rattle.kms_model.specs.declared.worlds.World.{World}
use Rattle.kms_model.specs.declared.objects.Topology.{Topology}
use Rattle.kms_model.specs.Device.Execution.{committed}
use Rattle.kms_model.specs.Device.Objects.{ids_of}
use Rattle.kms_model.specs.Device.Serial.{command_of}
use Rattle.kms_model.specs.Order.Suspending.{off_request, on_request}
use Rattle.kms_model.specs.Request.Apply.{after}
use Rattle.kms_model.specs.Script.Longer.{commands_of_last, extended, last_client}
use Rattle.kms_suspend.proofs.LastClient.{added_command}
use Rattle.kms_suspend.proofs.Plain.{SetsShown, no_out_fences, off-shown, on-shown}
use Rattle.kms_suspend.proofs.Stages.{IsQuiet}

module _ (t : Topology) (w : World) where
  -- the requests, in order, and the worlds before the first, between them, and after the second
  abbrev pub request_at : ℕ → Request
  request_at zero = off_request t w
  request_at (suc i) = on_request t w

  abbrev pub asleep_after : World
  asleep_after = record w { values = after w (off_request t w); commits = w.commits + 1 }

  abbrev pub awake_after : World
  awake_after = record asleep_after { values = after asleep_after (on_request t w); commits = w.commits + 1 + 1 }

  abbrev pub world_at : ℕ → World
  world_at zero = w
  world_at (suc zero) = asleep_after
  world_at (suc (suc i)) = awake_after

  pub quiet_at : (i : ℕ) → IsQuiet (request_at i)
  unfolding off_request on_request
  quiet_at zero = record { event = refl; test = refl; waits = refl }
  quiet_at (suc i) = record { event = refl; test = refl; waits = refl }

  pub shown_at : (i : ℕ) → SetsShown (request_at i)
  shown_at zero = off-shown t w
  shown_at (suc i) = on-shown t w

  -- no out-fence is made, so things stay
  pub further_at : (client i : ℕ) → i < 2 → (committed t (world_at i) client (request_at i)).world ≡ world_at (suc i)
  further_at client zero low = no_out_fences client (off_request t w) (off-shown t w) asleep_after (ids_of t Crtc)
  further_at client (suc zero) low = no_out_fences client (on_request t w) (on-shown t w) awake_after (ids_of t Crtc)
  further_at client (suc (suc i)) low = absurd (omega (arith, low))

-- the two commands are there, and no more
pub there_at : (s : Script) (w : World) (i : ℕ) → i < 2
    → command_of (extended s w) (record { client = last_client s; command = length (commands_of_last s.clients) + 1 + i }) ≡ Some
    (Atomic (request_at s.topology w i))
there_at s w zero low = added_command s _ 0
there_at s w (suc zero) low = added_command s _ 1
there_at s w (suc (suc i)) low = absurd (omega (arith, low))

pub none_at : (s : Script) (w : World) (i : ℕ) → 2 ≤ i
    → command_of (extended s w) (record { client = last_client s; command = length (commands_of_last s.clients) + 1 + i }) ≡ None
none_at s w zero more = absurd (omega (arith, more))
none_at s w (suc zero) more = absurd (omega (arith, more))
none_at s w (suc (suc i)) more = added_command s _ (suc (suc i))
