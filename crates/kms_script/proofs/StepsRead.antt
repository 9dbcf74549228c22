-- The line of a step is read as this step.
use Rattle.std.proofs.Common.{◌≡◌, ℕ, ◌≤◌, true, List, [], ◌∷◌, Option, Some, None, refl, ◌∙◌, arith}
use Rattle.std.specs.Fmt.{decimal}
use Rattle.std.specs.List.{list_all}
use Rattle.std.specs.Option.{ForSome}
use Rattle.kms_model.specs.declared.objects.Kind.{Kind}
use Rattle.kms_model.specs.declared.replies.Step.{Step}
use Rattle.kms_model.specs.declared.replies.Step.TheVariants.{Begin, Lock, BackOff, Relock, Refuse, Test, Swap, Make, Signal, Claim, Write}
use Rattle.kms_model.specs.declared.replies.Step.TheVariants.{Flush, HwDone, Vblank, Cleanup, Read, Return, Stall}
use Rattle.kms_model.specs.Report.History.{named_object}
use Rattle.kms_model.specs.Report.Replies.{kind_name}
use Rattle.kms_model.specs.Script.Grammar.{is_printable}
use Rattle.kms_model.specs.Script.Schedules.{IsFitIndex, IsFitNumber, IsFitStep, greatest_number, lone_step, numbered_step, object_at}
use Rattle.kms_model.specs.Script.Schedules.{step_of_word, step_on_object, step_read, step_with_object}
use Rattle.kms_model.specs.Script.Words.{field_at}
use Rattle.kms_words.specs.Printed.{fields}
use Rattle.kms_script.specs.Scheduled.{index_in_step, step_text}
use Rattle.kms_script.proofs.CommandWords.{IsWord, behind, fields_printable, inner, kind_word, number_word, wider}
use Rattle.kms_script.proofs.Cutting.{field_of, number_of}
use Rattle.kms_script.proofs.Inverted.{some_same}
use Rattle.kms_script.proofs.WordsBack.{object_back}

-- Objects

object_ink : (kind : Kind) (index : ℕ) → IsFitIndex index → IsWord 25 (named_object kind index)
object_ink kind index fits = behind 5 20 (kind_name kind) (decimal index) (kind_word kind) (number_word index (omega (arith, fits)))

object_is_read : (kind : Kind) (index : ℕ) → IsFitIndex index → object_at (fields (named_object kind index ∷ [])) ≡ Some (kind, index)
unfolding object_at
object_is_read kind index fits =
    rw (field_of (named_object kind index) [] (inner 25 (named_object kind index) (object_ink kind index fits)))
    (object_back kind index fits)

-- Steps

-- what is known of a step whose line can be spelt
pub record IsWritten (step : Step) : Type 0 where
  pub read : step_read (step_text step) ≡ Some step
  pub plain : list_all is_printable (step_text step) ≡ true
  pub small : ForSome (index_in_step step) (λ index. index ≤ 255)

-- a step and the fields behind its word: how its line is read, its bytes, and the index that it names
abbrev IsOfFields : Step → (List ℕ → Option Step) → Option ℕ → List (List ℕ) → Type 0
IsOfFields step read index ws = (step_read (step_text step) ≡ read (fields ws))
    × (list_all is_printable (step_text step) ≡ list_all is_printable (fields ws)) × (index_in_step step ≡ index)

numbered : (make : ℕ → Step) (n : ℕ) → IsFitNumber n → IsOfFields (make n) (numbered_step make) None (decimal n ∷ []) → IsWritten (make n)
unfolding numbered_step
numbered make n fits of = record {
  read = of.0 ∙ rw (number_of greatest_number n [] (omega arith) fits) refl;
  plain = of.1 ∙ fields_printable 20 (decimal n ∷ []) (number_word n (omega (arith, fits)), tt);
  small = rw of.2 (λ i e. absurd cc);
}

is_index : (index : ℕ) → IsFitIndex index → ForSome (Some index) (λ i. i ≤ 255)
is_index index small n e = rw (← some_same index n e) small

with_object : (make : ℕ → Kind → ℕ → Step) (n : ℕ) (kind : Kind) (index : ℕ) → IsFitNumber n × IsFitIndex index
    → IsOfFields (make n kind index) (step_with_object make) (Some index) (decimal n ∷ named_object kind index ∷ [])
    → IsWritten (make n kind index)
unfolding step_with_object
with_object make n kind index fits of =
    let number = fits.0 in
    record {
      read = of.0 ∙ rw
          (number_of greatest_number n (named_object kind index ∷ []) (omega arith) fits.0, object_is_read kind index fits.1) refl;
      plain = of.1 ∙ fields_printable 25 (decimal n ∷ named_object kind index ∷ [])
          (wider 20 25 _ (omega arith) (number_word n (omega (arith, number))), (object_ink kind index fits.1, tt));
      small = rw of.2 (is_index index fits.1);
    }

on_object : (make : Kind → ℕ → Step) (kind : Kind) (index : ℕ) → IsFitIndex index
    → IsOfFields (make kind index) (step_on_object make) (Some index) (named_object kind index ∷ []) → IsWritten (make kind index)
unfolding step_on_object
on_object make kind index small of = record {
  read = of.0 ∙ rw (object_is_read kind index small) refl;
  plain = of.1 ∙ fields_printable 25 (named_object kind index ∷ []) (object_ink kind index small, tt);
  small = rw of.2 (is_index index small);
}

-- each step
pub step_written : (step : Step) → IsFitStep step → IsWritten step
unfolding step_read step_of_word field_at lone_step
step_written (Begin n) fits = numbered Begin n fits (refl, refl, refl)
step_written (Lock n kind index) fits = with_object Lock n kind index fits (refl, refl, refl)
step_written (BackOff n) fits = numbered BackOff n fits (refl, refl, refl)
step_written (Relock n) fits = numbered Relock n fits (refl, refl, refl)
step_written (Refuse n) fits = numbered Refuse n fits (refl, refl, refl)
step_written (Test n) fits = numbered Test n fits (refl, refl, refl)
step_written (Swap n) fits = numbered Swap n fits (refl, refl, refl)
step_written (Make n) fits = numbered Make n fits (refl, refl, refl)
step_written (Signal n) fits = numbered Signal n fits (refl, refl, refl)
step_written (Claim n) fits = numbered Claim n fits (refl, refl, refl)
step_written (Write n kind index) fits = with_object Write n kind index fits (refl, refl, refl)
step_written (Flush n kind index) fits = with_object Flush n kind index fits (refl, refl, refl)
step_written (HwDone n) fits = numbered HwDone n fits (refl, refl, refl)
step_written (Vblank kind index) fits = on_object Vblank kind index fits (refl, refl, refl)
step_written (Cleanup n) fits = numbered Cleanup n fits (refl, refl, refl)
step_written (Read n) fits = numbered Read n fits (refl, refl, refl)
step_written (Return n) fits = numbered Return n fits (refl, refl, refl)
step_written Stall fits = record { read = refl; plain = refl; small = λ i e. absurd cc }

pub line_is_read : (step : Step) → IsFitStep step → step_read (step_text step) ≡ Some step
line_is_read step fits = (step_written step fits).read
