use Rattle.std.proofs.Common.{◌≡◌, drop, find}
use Rattle.kms_props.specs.Registers.{is_row_of, registers}
use Rattle.kms_props.proofs.registers.start_of.Given as goal

-- the first row of those left is the first of all
abbrev pub invariant-loop-row : goal.invariant-loop-row
invariant-loop-row l = find (is_row_of l.register) (drop l.row-index l.row-items) ≡ find (is_row_of l.register) registers
