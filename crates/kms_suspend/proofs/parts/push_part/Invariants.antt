use Rattle.std.proofs.Common.{◌≡◌, ◌++◌, ◌-◌}
use Rattle.kms_model.specs.Device.Objects.{count_of}
use Rattle.kms_core.specs.Decisions.{world}
use Rattle.kms_suspend.specs.Parts.{part, part_from}
use Rattle.kms_suspend.proofs.parts.push_part.Given as goal

-- what was added, and what the objects that are left add, is what all add
abbrev pub invariant-loop-index : goal.invariant-loop-index
invariant-loop-index l =
    l.assigns ++ part_from l.way (world l.core) l.kind l.index (count_of l.core.script.topology l.kind - l.index)
    ≡ l.initial.assigns ++ part l.way l.core.script.topology (world l.core) l.kind
