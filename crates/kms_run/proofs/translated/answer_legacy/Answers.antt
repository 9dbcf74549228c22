use Rattle.std.proofs.Common.{◌≡◌, ℕ, List, Ok, subst}
use Rattle.kms_model.specs.Legacy.LegacyLines.{legacy_input}
use Rattle.kms_legacy.proofs.OneTranslated.{one_translation}
use Rattle.kms_run.proofs.translated.answer_legacy.Goals as goal

pub returns : goal.returns
returns c = record {
  script = c.in_ok-script.script;
  read = subst (λ (bytes : List ℕ). legacy_input bytes ≡ Ok c.in_ok-script.script) c.deref.ensures.value c.in_ok-script.ensures.value;
  translation = c.in_ok-translation.translation;
  is_translated = c.in_ok-translation.ensures.translated;
  only = λ other is. one_translation c.in_ok-script.script other c.in_ok-translation.translation is c.in_ok-translation.ensures.translated;
  screen = c.in_ok-translation.ensures.screen;
  text = c.in_ok-print.ensures.text;
}
