use Rattle.kms_core.proofs.Applied.{few_now, flush_kind}
use Rattle.kms_core.proofs.applying.do_flush.Goals as goal

pub unreachable-requires : goal.unreachable-requires
unreachable-requires c = c.in_default.not-Crtc
    (flush_kind c.args.core.now (few_now c.args.core.now c.is_a_history.ensures.formed) c.args.commit c.args.kind c.args.index c.requires)
