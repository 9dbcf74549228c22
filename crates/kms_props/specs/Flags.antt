-- What contracts see of a request's flags.
use Rattle.std.specs.Prelude.{ℕ}
use Rattle.kms_props.specs.declared.flags.AtomicFlags.{AtomicFlags}

-- their bits
abbrev pub bits_of : AtomicFlags → ℕ
bits_of f = f.0
