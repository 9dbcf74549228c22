-- What `legacy` writes: the text of the script that says by atomic requests what a script with older calls says. This
-- device's own.
use Rattle.std.specs.Prelude.{◌≡◌, ℕ, List, Result, Ok, Err}
use Rattle.kms_model.specs.declared.legacy.LegacyScript.{LegacyScript}
use Rattle.kms_model.specs.declared.scripts.Script.{Script}
use Rattle.kms_model.specs.Legacy.LegacyLines.{legacy_input}
use Rattle.kms_model.specs.Legacy.Screen.{KeepsScreen}
use Rattle.kms_model.specs.Legacy.Translated.{IsTranslated}
use Rattle.kms_model.specs.Script.Spelling.{spelling}
use Rattle.kms_script.specs.declared.faults.ParseError.{ParseError}
use Rattle.kms_script.specs.Stated.{Gives}

-- The text spells the one script that says by requests what the input says with older calls. It shows, before and after each
-- command of the input, what the screen of the older calls shows there.
pub record IsTranslationOf (input output : List ℕ) : Type 0 where
  pub script : LegacyScript
  pub read : legacy_input input ≡ Ok script
  pub translation : Script
  pub is_translated : IsTranslated script translation
  pub only : (other : Script) → IsTranslated script other → other ≡ translation
  pub screen : KeepsScreen script translation
  pub text : output ≡ spelling translation

-- that text, or the input's first fault; want of memory may come anywhere
abbrev pub TellsTranslation : List ℕ → Result (List ℕ) ParseError → Type 0
TellsTranslation input (Ok text) = IsTranslationOf input text
TellsTranslation input (Err e) = Gives (λ (s : LegacyScript). s) (Err e) (legacy_input input)
