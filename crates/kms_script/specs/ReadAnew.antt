-- Lines of commands that are read behind other names than those with which they were written.
use Rattle.std.specs.Prelude.{◌≡◌, ℕ, Bool, true, false, List, [], ◌∷◌, ◌++◌, map, Some, is_some}
use Rattle.std.specs.List.{list_all}
use Rattle.kms_model.specs.declared.scripts.Assign.{Assign}
use Rattle.kms_model.specs.declared.scripts.Command.{Command}
use Rattle.kms_model.specs.declared.scripts.Command.TheVariants as command
use Rattle.kms_model.specs.declared.scripts.PropRef.{PropRef}
use Rattle.kms_model.specs.declared.scripts.PropRef.TheVariants.{Known, Unknown}
use Rattle.kms_model.specs.declared.scripts.Request.{Request}
use Rattle.kms_model.specs.declared.scripts.Value.{Value}
use Rattle.kms_model.specs.declared.scripts.Value.TheVariants as value
use Rattle.kms_model.specs.Legacy.Translated.{renumbered}
use Rattle.kms_model.specs.Report.TextLines.{line}
use Rattle.kms_model.specs.Script.CommandLines.{Names, command_read, was_made, words_in}
use Rattle.kms_model.specs.Script.Spelling.{command_words}
use Rattle.kms_model.specs.Script.WellFormed.{is_command_in}

-- bytes are the line of a command, without its line feed, in the words of a script's names
abbrev pub IsLineOf : List (List ℕ) → Command → List ℕ → Type 0
IsLineOf all c text = text ++ 10 ∷ [] ≡ line (command_words all c)

-- Whether a line is a command does not depend on the names that are known before it.
abbrev pub FormsNeedNoNames : Type 0
FormsNeedNoNames = (names other : Names) (text : List ℕ) → is_some (command_read names text) ≡ is_some (command_read other text)

-- a value makes no label
abbrev pub makes_nothing : Value → Bool
makes_nothing (value.New label) = false
makes_nothing _ = true

-- A request that words of a script with a profile spell, with its names, and that makes no label.
pub record IsSaid (profile : ℕ) (all : List (List ℕ)) (r : Request) : Type 0 where
  pub spelt : is_command_in profile all (command.Atomic r) ≡ true
  pub nothing : list_all (λ a. makes_nothing a.value) r.assigns ≡ true

-- A request with other numbers of its names.
abbrev pub renamed_prop : (ℕ → ℕ) → PropRef → PropRef
renamed_prop f (Known id) = Known id
renamed_prop f (Unknown n) = Unknown (f n)

abbrev pub renamed_value : (ℕ → ℕ) → Value → Value
renamed_value f (value.Num z) = value.Num z
renamed_value f (value.Named label) = value.Named (f label)
renamed_value f (value.New label) = value.New (f label)
renamed_value f (value.Crtc index) = value.Crtc index

abbrev pub renamed_assign : (ℕ → ℕ) → Assign → Assign
renamed_assign f a = record a { prop = renamed_prop f a.prop; value = renamed_value f a.value }

abbrev pub renamed : (ℕ → ℕ) → Request → Request
renamed f r = record r { assigns = map (renamed_assign f) r.assigns }

-- A line is read behind names as a request whose names have their numbers there; it says the same, and no label is made. Where the
-- names are those with which it was written, they stay as they are.
pub record IsReadBack (names : Names) (all : List (List ℕ)) (r : Request) (text : List ℕ) : Type 0 where
  pub after : Names
  pub read : command_read names text ≡ Some (command.Atomic (renamed (renumbered all (words_in after)) r), after)
  pub same : command_words (words_in after) (command.Atomic (renamed (renumbered all (words_in after)) r)) ≡ command_words all
      (command.Atomic r)
  pub made : after.made ≡ names.made
  pub once : after.is_twice ≡ names.is_twice
  pub labels : (w : List ℕ) → was_made w after.all ≡ was_made w names.all
  pub stays : all ≡ words_in names → after ≡ names

-- The line of a request is read back behind any names of the same profile.
abbrev pub RequestsAreReadBack : Type 0
RequestsAreReadBack = (names : Names) (all : List (List ℕ)) (r : Request) (text : List ℕ)
    → IsSaid names.profile all r → IsLineOf all (command.Atomic r) text → IsReadBack names all r text
