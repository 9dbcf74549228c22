-- Lists parted by commas, as the reader goes over them.
use Rattle.std.specs.Prelude.{ℕ, ◌-◌, List, Option, option_map, ⊤}
use Rattle.kms_model.specs.Script.Grammar.{format_bit, format_named}
use Rattle.kms_model.specs.Script.Words.{dec}
use Rattle.kms_words.specs.Fitting.{IsFitCount}
use Rattle.kms_words.specs.declared.lists.Listed.{Listed}
use Rattle.kms_words.specs.declared.lists.Listed.TheVariants.{Crtcs, Formats}

-- a device has from 1 to 4 CRTCs
abbrev pub HasFew : Listed → Type 0
HasFew (Crtcs crtcs) = IsFitCount crtcs
HasFew Formats = ⊤

-- how many bits there are
abbrev pub bit_count : Listed → ℕ
bit_count (Crtcs crtcs) = crtcs
bit_count Formats = 3

-- the bit that a word stands for
abbrev pub bit_of : Listed → List ℕ → Option ℕ
bit_of (Crtcs crtcs) word = dec (crtcs - 1) word
bit_of Formats word = option_map format_bit (format_named word)
