use Rattle.std.proofs.Common.{◌≡◌}
use Rattle.kms_model.specs.Device.Masks.{mask_below}
use Rattle.kms_request.specs.Fences.{has_number_at}
use Rattle.kms_request.proofs.whole.with_number.Given as goal

abbrev pub invariant-loop-index : goal.invariant-loop-index
invariant-loop-index l = l.mask ≡ mask_below (has_number_at l.numbers) l.index
