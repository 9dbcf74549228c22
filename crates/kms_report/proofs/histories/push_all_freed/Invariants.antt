use Rattle.std.proofs.Common.{◌≡◌, ◌++◌, take}
use Rattle.std.specs.List.{flat_map}
use Rattle.kms_report.specs.Telling.{freed_text}
use Rattle.kms_report.proofs.histories.push_all_freed.Given as goal

abbrev pub invariant-loop-framebuffer : goal.invariant-loop-framebuffer
invariant-loop-framebuffer l = l.text.items ≡ l.initial.text.items ++ flat_map (freed_text l.names) (take l.framebuffer-index l.freed)
