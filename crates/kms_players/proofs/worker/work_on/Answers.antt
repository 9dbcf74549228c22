use Rattle.std.proofs.Common.{◌≡◌, subst}
use Rattle.std.specs.Prelude.{find}
use Rattle.std.specs.Option.{option_to_list}
use Rattle.kms_device.specs.Steps.{is_legal, rests_in, tail_of}
use Rattle.kms_device.specs.Turns.{DeviceTurn}
use Rattle.kms_players.proofs.NothingDone.{work_rests}
use Rattle.kms_players.proofs.worker.work_on.Goals as goal

pub returns-in-None : goal.returns-in-None
returns-in-None g c =
    let done = c.work_or_rest-done in
    work_rests _ c.args.pass.now done.new.pass _ c.seen_len.ensures _ _ c.rest.ensures c.args.commit
    (subst (λ step. DeviceTurn c.args.device.now.script
    (λ found. (step ≡ find (is_legal found) (tail_of found.script.topology c.args.commit)) × (done.result.1 ≡ rests_in step found))
    (option_to_list step) c.args.pass.now done.new.pass) c.in-None.is done.ensures)
