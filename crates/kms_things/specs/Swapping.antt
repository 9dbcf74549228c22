-- New states that become the present ones.
use Rattle.std.specs.Prelude.{List, map, Option}
use Rattle.std.specs.Option.{option_map}
use Rattle.kms_model.specs.Device.Places.{alike}
use Rattle.kms_model.specs.declared.states.Both.{Both}
use Rattle.kms_model.specs.declared.states.Duplicates.{Duplicates}

-- a state that is there, old as new
abbrev pub alike_new : {S : Type 0} → Option (Both S) → Option (Both S)
alike_new both = option_map (λ b. alike b.new) both

abbrev pub swapped_states : {S : Type 0} → List (Option (Both S)) → List (Option (Both S))
swapped_states states = map alike_new states

-- the old states are as the new ones
abbrev pub swapped : Duplicates → Duplicates
swapped d = record { crtcs = swapped_states d.crtcs; planes = swapped_states d.planes; conns = swapped_states d.conns }
