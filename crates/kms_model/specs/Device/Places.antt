-- Places of typed states: what is at an index, and a state that is not changed yet. From: "Atomic Mode Setting";
-- drm_atomic_get_existing_crtc_state and its like.
use Rattle.std.specs.Prelude.{ℕ, List, slice_get, Option}
use Rattle.std.specs.Option.{option_flatten}
use Rattle.kms_model.specs.declared.states.Both.{Both}

-- what is duplicated at an index, if anything
abbrev pub state_at : {S : Type 0} → List (Option S) → ℕ → Option S
state_at states index = option_flatten (slice_get states index)

-- an object's state, old and new alike, as one that was just duplicated
abbrev pub alike : {S : Type 0} → S → Both S
alike s = record { old = s; new = s }
