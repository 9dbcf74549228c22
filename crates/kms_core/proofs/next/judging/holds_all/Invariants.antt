use Rattle.std.proofs.Common.{◌≡◌}
use Rattle.kms_model.specs.Machine.State.{Machine}
use Rattle.kms_wwlock.specs.InStep.{AreClientsOf}
use Rattle.kms_track.specs.Places.{all_below}
use Rattle.kms_core.specs.Decisions.{held_at}
use Rattle.kms_core.proofs.next.judging.holds_all.Given as goal

-- the objects at the places so far are held
abbrev pub invariant-loop-place : goal.invariant-loop-place
invariant-loop-place l = (m : Machine) → AreClientsOf m.contexts l.clients → l.held ≡ all_below (held_at m l.client l.objects) l.place
