use Rattle.std.proofs.Common.{◌≡◌, subst}
use Rattle.kms_core.specs.Work.{claim_steps, first_claim}
use Rattle.kms_device.specs.Steps.{rests_in}
use Rattle.kms_device.specs.Turns.{DeviceTurn}
use Rattle.kms_players.proofs.NothingDone.{claim_rests}
use Rattle.kms_players.proofs.worker.claim.Goals as goal

pub returns-in-None : goal.returns-in-None
returns-in-None g c =
    let done = c.claim_or_rest-claimed in
    claim_rests _ c.args.pass.now done.new.pass _ c.seen_len.ensures _ _ c.rest.ensures
    (subst (λ claimed. DeviceTurn c.args.device.now.script
    (λ found. (claimed ≡ first_claim found) × (done.result.1 ≡ rests_in claimed found))
    (claim_steps claimed) c.args.pass.now done.new.pass) c.in-None.is done.ensures)
