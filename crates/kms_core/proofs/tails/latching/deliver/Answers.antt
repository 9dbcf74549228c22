use Rattle.std.proofs.Common.{◌∙◌, ap, arith}
use Rattle.std.proofs.lemmas.List.{get_or_default}
use Rattle.kms_signal.specs.Queues.{delivers, empty_queue}
use Rattle.kms_core.proofs.tails.Latched.{delivered_one}
use Rattle.kms_core.proofs.tails.latching.deliver.Goals as goal

pub returns : goal.returns
returns c =
    let low = c.requires.low in
    let high = c.requires.high in
    delivered_one c.args.tail.now c.args.shown.now c.args.queues.now.items
    c.if-not-tail.false
    (c.index_mut.ensures.value ∙ get_or_default c.args.queues.now.items _ _ empty_queue (omega (arith, low, high))) c.of-crtc.ensures
    (c.deliver.ensures ∙ ap (delivers c.index_mut.result.now) c.flip_event-event.ensures)
