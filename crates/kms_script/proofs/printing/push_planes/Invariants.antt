-- The lines of the planes so far were added.
use Rattle.std.proofs.Common.{◌≡◌, ◌++◌, take}
use Rattle.std.specs.List.{flat_map}
use Rattle.kms_model.specs.Report.TextLines.{line}
use Rattle.kms_model.specs.Script.Spelling.{spelt_plane}
use Rattle.kms_script.proofs.printing.push_planes.Given as goal

abbrev pub invariant-loop-plane : goal.invariant-loop-plane
invariant-loop-plane l = l.text.items ≡ l.initial.text.items ++ flat_map (λ p. line (spelt_plane p)) (take l.plane-index l.planes)
