use Rattle.std.proofs.Common.{None, refl}
use Rattle.std.specs.Prelude.{replicate}
use Rattle.kms_audit.proofs.Noting.{untouched}
use Rattle.kms_audit.proofs.touches.Touches.none.Goals as goal

pub returns : goal.returns
returns c = untouched (record { crtcs = replicate 4 None; planes = replicate 16 None; conns = replicate 8 None }) refl refl refl
