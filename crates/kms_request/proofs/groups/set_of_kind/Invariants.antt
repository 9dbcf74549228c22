use Rattle.std.proofs.Common.{◌≡◌, take}
use Rattle.kms_request.specs.Groups.{set_of_kind}
use Rattle.kms_request.proofs.groups.set_of_kind.Given as goal

abbrev pub invariant-loop-set : goal.invariant-loop-set
invariant-loop-set l = l.set_so_far ≡ set_of_kind (take l.set-index l.sets) l.kind
