use Rattle.std.proofs.Common.{◌≡◌, ◌*◌, replicate, refl, ◌∙◌}
use Rattle.kms_compose.proofs.RowByRow.{blank}
use Rattle.kms_compose.proofs.frames.blank.Goals as goal

pub returns : goal.returns
returns c =
    let zeros : c.in_ok-bytes.bytes.items ≡ replicate (3 * c.args.width * c.args.height) 0 = c.in_ok-bytes.ensures.items_if_clones_equal
    (λ y same. same) in
    zeros ∙ blank c.args.width c.args.height _ refl
