use Rattle.std.proofs.Common.{◌≡◌, drop, map, find}
use Rattle.kms_model.specs.Report.Rules.{has_number}
use Rattle.kms_model.specs.Report.RuleRows.{row_of}
use Rattle.kms_model.proofs.refusals.first_of.Given as goal

-- the first rule of those left is the first of all
abbrev pub invariant-loop-rule : goal.invariant-loop-rule
invariant-loop-rule l = find (has_number l.number) (map row_of (drop l.rule-index l.rules))
    ≡ find (has_number l.number) (map row_of l.rules)
