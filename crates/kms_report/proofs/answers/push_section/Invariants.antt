use Rattle.std.proofs.Common.{◌≡◌, ◌++◌, take}
use Rattle.kms_report.specs.Telling.{section_text}
use Rattle.kms_report.proofs.answers.push_section.Given as goal

abbrev pub invariant-loop-answer : goal.invariant-loop-answer
invariant-loop-answer l = l.text.items ≡ l.initial.text.items ++ section_text l.section (take l.answer-index l.answers) l.client
