use Rattle.std.proofs.Common.{◌≡◌, false, rules}
use Rattle.kms_compose.specs.Parts.{has_alpha}
use Rattle.kms_compose.proofs.Runs.{none_same}
use Rattle.kms_compose.proofs.rows.blend_mode.Goals as goal

pub returns-else-has_alpha-clause-same : goal.returns-else-has_alpha-clause-same
returns-else-has_alpha-clause-same c a f b word =
    let opaque : has_alpha c.args.layer.now.fb.format ≡ false = search rules in
    none_same c.args.layer.now.fb.format c.args.layer.now.blend a f b word opaque
