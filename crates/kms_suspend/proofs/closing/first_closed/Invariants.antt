use Rattle.std.proofs.Common.{◌≡◌}
use Rattle.std.specs.Prelude.{find}
use Rattle.kms_model.specs.Device.Objects.{count_of, indices_of}
use Rattle.kms_core.specs.Decisions.{world}
use Rattle.kms_suspend.specs.Parts.{lacks_label}
use Rattle.kms_suspend.proofs.Searching.{found_from}
use Rattle.kms_suspend.proofs.closing.first_closed.Given as goal

-- the first of the objects that are left is the first of all
abbrev pub invariant-loop-index : goal.invariant-loop-index
invariant-loop-index l =
    found_from (lacks_label (world l.core) l.kind) l.index (count_of l.core.script.topology l.kind)
    ≡ find (lacks_label (world l.core) l.kind) (indices_of l.core.script.topology l.kind)
