use Rattle.std.proofs.Common.{◌∙◌, ap, sym}
use Rattle.kms_core.specs.Run.{gains}
use Rattle.kms_core.proofs.Applied.{few_now, lock_asked, lock_index, lock_named, lock_there, locked_step}
use Rattle.kms_core.proofs.applying.do_lock.Goals as goal

pub unreachable-requires : goal.unreachable-requires
unreachable-requires c = lock_there c.args.core.now c.args.client c.args.kind c.args.index c.doing.result c.requires
    c.doing.ensures c.in_default.not-Taking

pub of-requires : goal.of-requires
of-requires c = lock_index c.args.core.now
    (few_now c.args.core.now c.is_a_history.ensures.formed) c.args.client c.args.kind c.args.index c.requires

pub lock-requires : goal.lock-requires
lock-requires c = lock_asked c.args.core.now
    (few_now c.args.core.now c.is_a_history.ensures.formed) c.args.client c.args.kind c.args.index c.doing.result c.in-Taking.ticket
    c.of.result c.requires c.doing.ensures c.in-Taking.is c.of.ensures

pub returns : goal.returns
returns c =
    let taking = sym c.doing.ensures ∙ c.in-Taking.is in
    record {
      history = c.in_ok-_answer.ensures.history c.args.client taking
          ∙ ap (gains c.args.core.now) (locked_step c.args.core.now c.args.client c.args.kind c.args.index c.of.result
          c.in_ok-_answer._answer c.requires
          (lock_named c.args.core.now (few_now c.args.core.now c.is_a_history.ensures.formed) c.args.client
          c.args.kind c.args.index c.of.result c.requires c.of.ensures) c.of.ensures (c.in_ok-_answer.ensures.answer c.args.client taking));
    }
