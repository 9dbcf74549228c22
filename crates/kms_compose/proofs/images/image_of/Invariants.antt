-- The framebuffer is looked for among the rest.
use Rattle.std.proofs.Common.{◌≡◌, drop}
use Rattle.kms_compose.specs.Images.{seen_under}
use Rattle.kms_compose.proofs.images.image_of.Given as goal

abbrev pub invariant-loop-entry : goal.invariant-loop-entry
invariant-loop-entry l = seen_under (drop l.entry-index l.images) l.fb ≡ seen_under l.images l.fb
