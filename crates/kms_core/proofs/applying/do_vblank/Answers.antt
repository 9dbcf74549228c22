use Rattle.kms_core.proofs.Applied.{vblank_kind}
use Rattle.kms_core.proofs.applying.do_vblank.Goals as goal

pub unreachable-requires : goal.unreachable-requires
unreachable-requires c = c.in_default.not-Crtc (vblank_kind c.args.core.now c.args.kind c.args.index c.requires)
