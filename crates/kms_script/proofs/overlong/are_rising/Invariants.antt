use Rattle.std.proofs.Common.{◌≡◌, length}
use Rattle.kms_script.specs.Overlong.{are_rising}
use Rattle.kms_script.proofs.overlong.are_rising.Given as goal

abbrev pub invariant-comparing : goal.invariant-comparing
invariant-comparing l = are_rising l.rest ≡ are_rising l.sorted

abbrev pub decreases-comparing : goal.decreases-comparing
decreases-comparing l = length l.rest
