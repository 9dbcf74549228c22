use Rattle.std.proofs.Common.{◌≡◌, ◌++◌, ◌-◌}
use Rattle.std.specs.List.{flat_map, range_with_len}
use Rattle.kms_report.specs.Telling.{section_text}
use Rattle.kms_report.proofs.answers.push_sections.Given as goal

abbrev pub invariant-loop-client : goal.invariant-loop-client
invariant-loop-client l =
    l.text.items ≡ l.initial.text.items ++ flat_map (section_text l.section l.answers) (range_with_len 1 (l.client - 1))
