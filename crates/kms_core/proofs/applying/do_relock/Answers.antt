use Rattle.std.proofs.Common.{◌∙◌, ap, sym}
use Rattle.kms_wwlock.specs.Standing.{ticket_in}
use Rattle.kms_core.specs.Run.{gains}
use Rattle.kms_core.proofs.Applied.{relock_asked, relock_done, relock_there}
use Rattle.kms_core.proofs.applying.do_relock.Goals as goal

pub unreachable-requires : goal.unreachable-requires
unreachable-requires c = relock_there c.args.core.now c.args.client c.doing.result c.requires c.doing.ensures c.in_default.not-BackedOff

pub relock-requires : goal.relock-requires
relock-requires c = relock_asked c.args.core.now c.args.client c.doing.result c.in-BackedOff.ticket c.in-BackedOff._object c.requires
    c.doing.ensures c.in-BackedOff.is

pub returns : goal.returns
returns c =
    let has = ap ticket_in (sym c.doing.ensures ∙ c.in-BackedOff.is) in
    record {
      history = c.in_ok-_answer.ensures.history c.args.client has
          ∙ ap (gains c.args.core.now) (relock_done c.args.core.now c.args.client c.requires
          (c.in_ok-_answer.ensures.answer c.args.client has));
    }
