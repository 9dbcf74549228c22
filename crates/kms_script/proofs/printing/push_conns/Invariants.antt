-- The lines of the connectors so far were added.
use Rattle.std.proofs.Common.{◌≡◌, ◌++◌, take}
use Rattle.std.specs.List.{flat_map}
use Rattle.kms_model.specs.Report.TextLines.{line}
use Rattle.kms_model.specs.Script.Spelling.{conn_words}
use Rattle.kms_script.proofs.printing.push_conns.Given as goal

abbrev pub invariant-loop-crtcs : goal.invariant-loop-crtcs
invariant-loop-crtcs l = l.text.items ≡ l.initial.text.items ++ flat_map (λ mask. line (conn_words mask)) (take l.crtcs-index l.conns)
