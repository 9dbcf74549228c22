use Rattle.std.proofs.Common.{rules}
use Rattle.kms_device.proofs.Legals.{crtc-few}
use Rattle.kms_device.proofs.kernel.blanks.Goals as goal

pub has_go-requires : goal.has_go-requires
has_go-requires c = crtc-few c.args.core.now c.args.crtc c.is_a_history.ensures.formed (search rules)
