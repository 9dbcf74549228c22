use Rattle.std.proofs.Common.{◌≡◌, drop}
use Rattle.std.specs.List.{list_any}
use Rattle.kms_core.specs.Freeing.{state_names}
use Rattle.kms_core.proofs.freeing.naming.any_names.Given as goal

-- one of the rest names it where one of all does
abbrev pub invariant-loop-state : goal.invariant-loop-state
invariant-loop-state l = list_any (state_names l.id) (drop l.state-index l.states) ≡ list_any (state_names l.id) l.states
