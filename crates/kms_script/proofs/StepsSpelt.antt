-- A step that was read of a line is written as the line.
use Rattle.std.proofs.Common.{◌≡◌, ℕ, inl, inr, List, [], ◌∷◌, ◌++◌, cond, Option, Some, None, refl, arith}
use Rattle.std.specs.Prelude.{codes}
use Rattle.std.specs.Fmt.{decimal}
use Rattle.std.specs.Str.{bytes_eq}
use Rattle.std.proofs.lemmas.Bool.{leb-true}
use Rattle.kms_model.specs.declared.objects.Kind.{Kind}
use Rattle.kms_model.specs.declared.replies.Step.{Step}
use Rattle.kms_model.specs.declared.replies.Step.TheVariants.{Begin, Lock, BackOff, Relock, Refuse, Test, Swap, Make, Signal, Claim, Write}
use Rattle.kms_model.specs.declared.replies.Step.TheVariants.{Flush, HwDone, Vblank, Cleanup, Read, Return, Stall}
use Rattle.kms_model.specs.Report.History.{named_object, step_words}
use Rattle.kms_model.specs.Script.Schedules.{IsFitIndex, IsFitNumber, IsFitStep, greatest_number, lone_step, numbered_step, object_at}
use Rattle.kms_model.specs.Script.Schedules.{step_of_word, step_on_object, step_read, step_with_object}
use Rattle.kms_model.specs.Script.Words.{dec_at, end_at, field_at, strip}
use Rattle.kms_words.specs.Printed.{fields}
use Rattle.kms_script.specs.Scheduled.{IsStepLine}
use Rattle.kms_script.proofs.FitWords.{dec_at_fit, object_fit}
use Rattle.kms_script.proofs.Inverted.{choice_some, from_bind, some_same}
use Rattle.kms_script.proofs.LineFields.{end_spelt, field_spelt, strip_spelt}
use Rattle.kms_script.proofs.SpeltFields.{dec_at_spelt}
use Rattle.kms_script.proofs.SpeltWords.{found, nothing_read, object_spelt}

-- a step by its first word, and the bytes behind that
record IsStepOf (word bytes : List ℕ) (step : Step) : Type 0 where
  fits : IsFitStep step
  words : List (List ℕ)
  are : step_words step ≡ word ∷ words
  rest : fields words ≡ bytes

-- Fields

-- the last field
last_field : (w rest bytes : List ℕ) (u : Unit {0}) → end_at rest ≡ Some u → 32 ∷ (w ++ rest) ≡ bytes → fields (w ∷ []) ≡ bytes
last_field w rest bytes u end e = let none : [] ≡ rest = end_spelt rest u end in rw none e

-- a field with others behind it
first_field : (w rest bytes : List ℕ) (ws : List (List ℕ)) → 32 ∷ (w ++ rest) ≡ bytes → fields ws ≡ rest → fields (w ∷ ws) ≡ bytes
first_field w rest bytes ws e more = rw more e

-- an object at the end
record IsObject (bytes : List ℕ) (o : Kind × ℕ) : Type 0 where
  small : IsFitIndex o.1
  text : fields (named_object o.0 o.1 ∷ []) ≡ bytes

object_line : (bytes : List ℕ) (o : Kind × ℕ) → object_at bytes ≡ Some o → IsObject bytes o
unfolding object_at
object_line bytes o e =
    from_bind (field_at bytes) _ o e (λ f given more.
    from_bind (end_at f.1) _ o more (λ u end is.
    record {
      small = leb-true o.1 255 (object_fit o f.0 is);
      text = rw (object_spelt o f.0 is) (last_field f.0 f.1 bytes u end (field_spelt bytes f given));
    }))

-- The forms of a step

numbered_is : (word : List ℕ) (make : ℕ → Step) → ((n : ℕ) → IsFitNumber n → IsFitStep (make n))
    → ((n : ℕ) → step_words (make n) ≡ word ∷ decimal n ∷ [])
    → (bytes : List ℕ) (step : Step) → numbered_step make bytes ≡ Some step → IsStepOf word bytes step
unfolding numbered_step
numbered_is word make fit are bytes step e =
    from_bind (dec_at greatest_number bytes) _ step e (λ n given more.
    from_bind (end_at n.1) _ step more (λ u end is.
    rw (← some_same (make n.0) step is)
    record {
      fits = fit n.0 (dec_at_fit greatest_number bytes n given);
      words = decimal n.0 ∷ [];
      are = are n.0;
      rest = last_field (decimal n.0) n.1 bytes u end (dec_at_spelt greatest_number bytes n (omega arith) given);
    }))

with_object_is : (word : List ℕ) (make : ℕ → Kind → ℕ → Step)
    → ((n : ℕ) (kind : Kind) (index : ℕ) → IsFitNumber n → IsFitIndex index → IsFitStep (make n kind index))
    → ((n : ℕ) (kind : Kind) (index : ℕ) → step_words (make n kind index) ≡ word ∷ decimal n ∷ named_object kind index ∷ [])
    → (bytes : List ℕ) (step : Step) → step_with_object make bytes ≡ Some step → IsStepOf word bytes step
unfolding step_with_object
with_object_is word make fit are bytes step e =
    from_bind (dec_at greatest_number bytes) _ step e (λ n given more.
    from_bind (object_at n.1) _ step more (λ o there is.
    let object = object_line n.1 o there in
    rw (← some_same (make n.0 o.0 o.1) step is)
    record {
      fits = fit n.0 o.0 o.1 (dec_at_fit greatest_number bytes n given) object.small;
      words = decimal n.0 ∷ named_object o.0 o.1 ∷ [];
      are = are n.0 o.0 o.1;
      rest = first_field (decimal n.0) n.1 bytes (named_object o.0 o.1 ∷ []) (dec_at_spelt greatest_number bytes n (omega arith) given)
          object.text;
    }))

on_object_is : (word : List ℕ) (make : Kind → ℕ → Step) → ((kind : Kind) (index : ℕ) → IsFitIndex index → IsFitStep (make kind index))
    → ((kind : Kind) (index : ℕ) → step_words (make kind index) ≡ word ∷ named_object kind index ∷ [])
    → (bytes : List ℕ) (step : Step) → step_on_object make bytes ≡ Some step → IsStepOf word bytes step
unfolding step_on_object
on_object_is word make fit are bytes step e =
    from_bind (object_at bytes) _ step e (λ o there is.
    let object = object_line bytes o there in
    rw (← some_same (make o.0 o.1) step is)
    record {
      fits = fit o.0 o.1 object.small;
      words = named_object o.0 o.1 ∷ [];
      are = are o.0 o.1;
      rest = object.text;
    })

lone_is : (word : List ℕ) (made : Step) → IsFitStep made → step_words made ≡ word ∷ [] → (bytes : List ℕ) (step : Step)
    → lone_step made bytes ≡ Some step → IsStepOf word bytes step
unfolding lone_step
lone_is word made fit are bytes step e =
    from_bind (end_at bytes) _ step e (λ u end is.
    rw (← some_same made step is)
    record { fits = fit; words = []; are = are; rest = end_spelt bytes u end })

-- A line's word says which step it is

module _ (word bytes : List ℕ) (step : Step) where
  -- what is read by a word that is one of several
  by_word : (k : List ℕ) (one other : Option Step) → (one ≡ Some step → IsStepOf k bytes step)
      → (other ≡ Some step → IsStepOf word bytes step) → cond (bytes_eq word k) one other ≡ Some step → IsStepOf word bytes step
  by_word k one other here there e = elim (choice_some (bytes_eq word k) one other step e) [
    | inl is ↦ rw (found word k is.0) (here is.1)
    | inr more ↦ there more
  ]

  step_is : step_of_word word bytes ≡ Some step → IsStepOf word bytes step
  unfolding step_of_word
  step_is e =
      by_word (codes "begin") _ _ (numbered_is _ Begin (λ n f. f) (λ n. refl) bytes step)
      (by_word (codes "lock") _ _ (with_object_is _ Lock (λ n k i f g. (f, g)) (λ n k i. refl) bytes step)
      (by_word (codes "backoff") _ _ (numbered_is _ BackOff (λ n f. f) (λ n. refl) bytes step)
      (by_word (codes "relock") _ _ (numbered_is _ Relock (λ n f. f) (λ n. refl) bytes step)
      (by_word (codes "refuse") _ _ (numbered_is _ Refuse (λ n f. f) (λ n. refl) bytes step)
      (by_word (codes "test") _ _ (numbered_is _ Test (λ n f. f) (λ n. refl) bytes step)
      (by_word (codes "swap") _ _ (numbered_is _ Swap (λ n f. f) (λ n. refl) bytes step)
      (by_word (codes "make") _ _ (numbered_is _ Make (λ n f. f) (λ n. refl) bytes step)
      (by_word (codes "signal") _ _ (numbered_is _ Signal (λ n f. f) (λ n. refl) bytes step)
      (by_word (codes "claim") _ _ (numbered_is _ Claim (λ n f. f) (λ n. refl) bytes step)
      (by_word (codes "write") _ _ (with_object_is _ Write (λ n k i f g. (f, g)) (λ n k i. refl) bytes step)
      (by_word (codes "flush") _ _ (with_object_is _ Flush (λ n k i f g. (f, g)) (λ n k i. refl) bytes step)
      (by_word (codes "hwdone") _ _ (numbered_is _ HwDone (λ n f. f) (λ n. refl) bytes step)
      (by_word (codes "vblank") _ _ (on_object_is _ Vblank (λ k i f. f) (λ k i. refl) bytes step)
      (by_word (codes "cleanup") _ _ (numbered_is _ Cleanup (λ n f. f) (λ n. refl) bytes step)
      (by_word (codes "read") _ _ (numbered_is _ Read (λ n f. f) (λ n. refl) bytes step)
      (by_word (codes "return") _ _ (numbered_is _ Return (λ n f. f) (λ n. refl) bytes step)
      (by_word (codes "stall") _ None (lone_is _ Stall tt refl bytes step) (nothing_read step)))))))))))))))))) e

-- the words of a line
joined : (bytes fields_of word rest : List ℕ) (words all : List (List ℕ)) → all ≡ word ∷ words → fields words ≡ rest
    → 32 ∷ (word ++ rest) ≡ fields_of → codes "T" ++ fields_of ≡ bytes → bytes ≡ codes "T" ++ fields all
joined bytes fields_of word rest words all are more first whole = rw (are, more, first, whole) refl

-- a step that was read of bytes has them as its line
pub line_of_step : (bytes : List ℕ) (step : Step) → step_read bytes ≡ Some step → IsStepLine bytes step
unfolding step_read
line_of_step bytes step e =
    from_bind (strip (codes "T") bytes) _ step e (λ behind given more.
    from_bind (field_at behind) _ step more (λ f there is.
    let made = step_is f.0 f.1 step is in
    record {
      fits = made.fits;
      text = joined bytes behind f.0 f.1 made.words (step_words step) made.are made.rest (field_spelt behind f there)
          (strip_spelt (codes "T") bytes behind given);
    }))
