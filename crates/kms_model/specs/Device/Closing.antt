-- Things that are closed. They stay among the things, with their content.
use Rattle.std.specs.Prelude.{ℕ, false, ◌==◌, List, map, if◌then◌else◌}
use Rattle.kms_model.specs.declared.worlds.Thing.{Thing}

-- a thing with this id is closed
abbrev pub closed_if : ℕ → Thing → Thing
closed_if id t = if t.id == id then record t { is_open = false } else t

-- the things after the one with an id was closed
abbrev pub closed_in : List Thing → ℕ → List Thing
closed_in things id = map (closed_if id) things
