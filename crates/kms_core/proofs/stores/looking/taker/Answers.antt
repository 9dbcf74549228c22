use Rattle.std.proofs.Common.{arith, refl, sym, ap, rules}
use Rattle.kms_wwlock.specs.Standing.{doing_in}
use Rattle.kms_track.specs.Places.{first_below}
use Rattle.kms_track.proofs.PlaceLemmas.{none_more, first_found}
use Rattle.kms_core.specs.Decisions.{number_or_0, taker_at}
use Rattle.kms_core.proofs.stores.looking.taker.Goals as goal

pub loop-index-init : goal.loop-index-init
unfolding first_below
loop-index-init c = refl

pub loop-index-preserved : goal.loop-index-preserved
loop-index-preserved c =
    none_more (taker_at (doing_in c.args.clients.now.places) c.args.t.0) c.loop-index.index c.loop-index.invariant (search rules)

pub returns-in-Some : goal.returns-in-Some
returns-in-Some c =
    sym (ap number_or_0 (first_found (taker_at (doing_in c.args.clients.now.places) c.args.t.0) c.loop-index.index 16 c.in-Some.client
    c.loop-index.invariant (search rules) (omega arith)))
