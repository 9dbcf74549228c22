-- The label of a thing.
use Rattle.std.specs.Prelude.{ℕ, Option, Some, None, if◌then◌else◌}
use Rattle.kms_model.specs.declared.worlds.Thing.{Thing}

-- the label of a thing, where there is one and it is open
abbrev pub label_if_open : Option Thing → Option ℕ
label_if_open None = None
label_if_open (Some t) = if t.is_open then Some t.label else None
