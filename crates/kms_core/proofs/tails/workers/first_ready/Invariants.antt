-- The commits so far are cleaned or not ready.
use Rattle.std.proofs.Common.{◌-◌}
use Rattle.kms_track.specs.Tracking.{ready_of}
use Rattle.kms_core.proofs.stores.Seeking.{ArePassed}
use Rattle.kms_core.proofs.tails.workers.first_ready.Given as goal

abbrev pub invariant-seeking : goal.invariant-seeking
invariant-seeking l = ArePassed l.tracker (ready_of l.tracker l.fences) l.from

abbrev pub decreases-seeking : goal.decreases-seeking
decreases-seeking l = 4294967296 - l.from
