use Rattle.std.proofs.Common.{◌≡◌}
use Rattle.kms_request.specs.Groups.{affected_below}
use Rattle.kms_request.proofs.groups.affected.Given as goal

abbrev pub invariant-loop-index : goal.invariant-loop-index
invariant-loop-index l = l.affected ≡ affected_below l.states.crtcs l.crtcs l.index
