-- The open things of one kind, as values with their ids. `value_of` gives the value that an owner and a content stand
-- for, and none where the content is of another kind.
use Rattle.std.specs.Prelude.{ℕ, List, Option, Some, None, Result, Ok, Err, if◌then◌else◌}
use Rattle.std.specs.List.{filter_map}
use Rattle.std.specs.Option.{option_map}
use Rattle.kms_model.specs.declared.replies.Denied.{Denied}
use Rattle.kms_model.specs.declared.tables.Slot.{Slot}
use Rattle.kms_model.specs.declared.worlds.Content.{Content}
use Rattle.kms_model.specs.declared.worlds.Thing.{Thing}
use Rattle.kms_model.specs.Device.Closing.{closed_in}
use Rattle.kms_model.specs.Things.Tables.{slot}

module _ {V : Type 0} (value_of : ℕ → Content → Option V) where
  -- the value that a thing has where it is open
  abbrev pub value_if_open : Thing → Option V
  value_if_open t = if t.is_open then value_of t.owner t.content else None

  -- the same under its id
  abbrev pub open_value : Thing → Option (Slot V)
  open_value t = if t.is_open then option_map (slot t.id) (value_of t.owner t.content) else None

  abbrev pub open_values : List Thing → List (Slot V)
  open_values things = filter_map open_value things

-- the things after a call that closes one, or refuses to
abbrev pub things_after : {A : Type 0} → Result A Denied → List Thing → ℕ → List Thing
things_after (Ok done) things id = closed_in things id
things_after (Err why) things id = things

-- the number with which a call refuses, none where it does not
abbrev pub denial : {A : Type 0} → Result A Denied → Option ℕ
denial (Ok done) = None
denial (Err why) = Some why.0
