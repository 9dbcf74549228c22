use Rattle.std.proofs.Common.{◌≡◌, None}
use Rattle.kms_wwlock.specs.Standing.{doing_in}
use Rattle.kms_track.specs.Places.{first_below}
use Rattle.kms_core.specs.Decisions.{taker_at}
use Rattle.kms_core.proofs.stores.looking.taker.Given as goal

abbrev pub invariant-loop-index : goal.invariant-loop-index
invariant-loop-index l = first_below (taker_at (doing_in l.clients.places) l.t.0) l.index ≡ None
