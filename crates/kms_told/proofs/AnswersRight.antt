-- Each reply of a history is right at its place in the whole journal, and places rise behind entries.
use Rattle.std.proofs.Common.{◌≡◌, ◌<◌, ◌≤◌, Bool, false, List, [], ◌∷◌, ◌++◌, length, take, Some, None, refl, sym, ap, ◌∙◌, subst, arith}
use Rattle.std.proofs.Common.{inl, inr, ◌⊎◌, ⊎_elim, length-append}
use Rattle.std.specs.Prelude.{◌==◌, reverse}
use Rattle.std.specs.List.{position}
use Rattle.std.proofs.lemmas.Bool.{and_from, and_left, and_right, cases_eq, eq-eqb, ne_eqb}
use Rattle.std.proofs.lemmas.List.{length-reverse, take-append-le, take_all}
use Rattle.kms_model.specs.declared.replies.Answered.{Answered}
use Rattle.kms_model.specs.declared.scripts.Script.{Script}
use Rattle.kms_model.specs.Device.Serial.{Entry, command_of}
use Rattle.kms_model.specs.Headline.{entry_answered}
use Rattle.kms_model.specs.Report.RightAnswers.{is_answer_to}
use Rattle.kms_model.proofs.Items.{IsIn}
use Rattle.kms_laws.proofs.Present.{reverse_more}
use Rattle.kms_told.proofs.Alone.{StandsAlone}
use Rattle.kms_told.proofs.Built.{Built, Entered, EntersAs, IsNew, Passed}
use Rattle.kms_told.proofs.EntriesRight.{entry-reply}
use Rattle.kms_told.proofs.Items.{Backward, in-reverse, position-last, position-missed, position-none, position-stays, position-within}

-- an entry that is answered
abbrev pub answered_by : Answered → Entry → Bool
answered_by a e = is_answer_to e a

-- a reply to the entry at its place
pub record ToEntry (s : Script) (all : List Entry) (a : Answered) : Type 0 where
  pub found : position (answered_by a) all ≡ Some a.place
  pub enters : EntersAs s (take a.place all) a.client a.reply (command_of s (entry_answered a))

-- a reply to no entry
pub record ToNone (s : Script) (all : List Entry) (a : Answered) : Type 0 where
  pub found : position (answered_by a) all ≡ None
  pub alone : StandsAlone s (take a.place all) a.client a.reply (command_of s (entry_answered a))

pub record StandsRight (s : Script) (all : List Entry) (a : Answered) : Type 0 where
  pub within : a.place ≤ length all
  pub to : ToEntry s all a ⊎ ToNone s all a

-- a later reply is at no lower place, and at a higher one where the first is to an entry
pub record Rises (all : List Entry) (b a : Answered) : Type 0 where
  pub least : b.place ≤ a.place
  pub above : (position (answered_by b) all ≡ None) ⊎ (b.place < a.place)

-- An entry more

not-answer : (a x : Answered) → (a.client ≡ x.client → a.command < x.command) → answered_by a (entry_answered x) ≡ false
not-answer a x older =
    ⊎_elim
    (λ (same : a.client ≡ x.client).
    and_right (a.client == x.client) (a.command == x.command)
    (ne_eqb a.command x.command (λ e. absurd (let lt = older same in omega (arith, lt, e)))))
    (λ apart. and_left (a.client == x.client) (a.command == x.command) (ne_eqb a.client x.client apart))
    (cases_eq a.client x.client)

right-longer : (s : Script) (all : List Entry) (e : Entry) (a : Answered) → answered_by a e ≡ false → StandsRight s all a
    → StandsRight s (all ++ e ∷ []) a
right-longer s all e a off R =
    let front : take a.place (all ++ e ∷ []) ≡ take a.place all = take-append-le a.place all (e ∷ []) R.within in
    record {
      within = (let l = R.within in let n = length-append all (e ∷ []) in omega (arith, l, n));
      to = ⊎_elim
          (λ (x : ToEntry s all a).
          inl (record {
            found = position-stays (answered_by a) all e a.place x.found;
            enters = subst (λ j. EntersAs s j a.client a.reply (command_of s (entry_answered a))) (sym front) x.enters;
          }))
          (λ (x : ToNone s all a).
          inr (record {
            found = position-missed (answered_by a) all e x.found off;
            alone = subst (λ j. StandsAlone s j a.client a.reply (command_of s (entry_answered a))) (sym front) x.alone;
          }))
          R.to;
    }

rises-longer : (all : List Entry) (e : Entry) (b a : Answered) → answered_by b e ≡ false → Rises all b a → Rises (all ++ e ∷ []) b a
rises-longer all e b a off R = record {
  least = R.least;
  above = ⊎_elim (λ (none : position (answered_by b) all ≡ None). inl (position-missed (answered_by b) all e none off))
      (λ lt. inr lt) R.above;
}

-- The newest reply

module _ (s : Script) (earlier : List Answered) (x : Answered) (journal : List Entry) (B : Built s earlier journal) (new : IsNew x earlier)
    (place : x.place ≡ length journal) where
  -- no entry so far is answered by it
  unanswered : position (answered_by x) (reverse journal) ≡ None
  unanswered =
      position-none (answered_by x) (reverse journal)
      (λ e is.
      let one = entry-reply s earlier journal B e (in-reverse journal e is) in
      let a = ap (λ (f : Entry). f.client) one.to_entry in
      let b = ap (λ (f : Entry). f.command) one.to_entry in
      ⊎_elim
      (λ (same : x.client ≡ e.client).
      and_right (x.client == e.client) (x.command == e.command)
      (ne_eqb x.command e.command (λ k. absurd (let lt = new one.answer one.is_in (a ∙ sym same) in omega (arith, lt, b, k)))))
      (λ apart. and_left (x.client == e.client) (x.command == e.command) (ne_eqb x.client e.client apart))
      (cases_eq x.client e.client))

  size : length (reverse journal) ≡ x.place
  size = length-reverse journal ∙ sym place

  whole : take x.place (reverse journal) ≡ reverse journal
  whole = take_all x.place (reverse journal) (let l = size in omega (arith, l))

  entered-right : EntersAs s (reverse journal) x.client x.reply (command_of s (entry_answered x))
      → StandsRight s (reverse journal ++ entry_answered x ∷ []) x
  entered-right E = record {
    within = (let n = length-append (reverse journal) (entry_answered x ∷ []) in let l = size in omega (arith, n, l));
    to = inl (record {
      found = position-last (answered_by x) (reverse journal) (entry_answered x) unanswered
          (and_from (x.client == x.client) (x.command == x.command) (eq-eqb x.client x.client refl) (eq-eqb x.command x.command refl))
          ∙ ap Some size;
      enters = subst (λ j. EntersAs s j x.client x.reply (command_of s (entry_answered x)))
          (sym (take-append-le x.place (reverse journal) (entry_answered x ∷ []) (let l = size in omega (arith, l)) ∙ whole)) E;
    });
  }

  passed-right : StandsAlone s (reverse journal) x.client x.reply (command_of s (entry_answered x)) → StandsRight s (reverse journal) x
  passed-right S = record {
    within = (let l = size in omega (arith, l));
    to = inr (record {
      found = unanswered;
      alone = subst (λ j. StandsAlone s j x.client x.reply (command_of s (entry_answered x)))
          (sym whole) S;
    });
  }

  -- those before it are at no higher place
  rises-now : (b : Answered) → StandsRight s (reverse journal) b → Rises (reverse journal) b x
  rises-now b R = record {
    least = (let l = R.within in let n = size in omega (arith, l, n));
    above = ⊎_elim
        (λ (y : ToEntry s (reverse journal) b).
        inr (let l = position-within (answered_by b) (reverse journal) b.place (entry_answered b) y.found in let n = size in
        omega (arith, l, n)))
        (λ (y : ToNone s (reverse journal) b). inl y.found)
        R.to;
  }

-- All replies

newest-entry : (x : Answered) (journal before : List Entry) → journal ≡ entry_answered x ∷ before
    → reverse journal ≡ reverse before ++ entry_answered x ∷ []
newest-entry x journal before e = ap reverse e ∙ reverse_more (entry_answered x) before

pub all-right : (s : Script) (replies : List Answered) (journal : List Entry) → Built s replies journal → (a : Answered) → IsIn a replies
    → StandsRight s (reverse journal) a
all-right s [] journal B a is = absurd is
all-right s (x ∷ earlier) journal B a is =
    ⊎_elim
    (λ (y : Entered s (λ j. Built s earlier j) x journal).
    subst (λ j. StandsRight s j a) (sym (newest-entry x journal y.before y.is_newest))
    (⊎_elim
    (λ (same : x ≡ a).
    subst (StandsRight s (reverse y.before ++ entry_answered x ∷ [])) same (entered-right s earlier x y.before y.rest B.0 y.place y.enters))
    (λ old. right-longer s (reverse y.before) (entry_answered x) a (not-answer a x (B.0 a old)) (all-right s earlier y.before y.rest a old))
    is))
    (λ (y : Passed s (λ j. Built s earlier j) x journal).
    ⊎_elim
    (λ (same : x ≡ a). subst (StandsRight s (reverse journal)) same (passed-right s earlier x journal y.rest B.0 y.place y.alone))
    (λ old. all-right s earlier journal y.rest a old)
    is)
    B.1

longer-backward : (all : List Entry) (e : Entry) (replies : List Answered) → ((b : Answered) → IsIn b replies → answered_by b e ≡ false)
    → Backward (Rises all) replies → Backward (Rises (all ++ e ∷ [])) replies
longer-backward all e [] off R = tt
longer-backward all e (a ∷ earlier) off R =
    (λ b is. rises-longer all e b a (off b (inr is)) (R.0 b is), longer-backward all e earlier (λ b is. off b (inr is)) R.1)

pub all-rise : (s : Script) (replies : List Answered) (journal : List Entry) → Built s replies journal
    → Backward (Rises (reverse journal)) replies
all-rise s [] journal B = tt
all-rise s (x ∷ earlier) journal B =
    ⊎_elim
    (λ (y : Entered s (λ j. Built s earlier j) x journal).
    let older = λ (b : Answered) (is : IsIn b earlier). not-answer b x (B.0 b is) in
    subst (λ j. Backward (Rises j) (x ∷ earlier)) (sym (newest-entry x journal y.before y.is_newest)) (
      λ b is.
          rises-longer (reverse y.before) (entry_answered x) b x (older b is)
          (rises-now s earlier x y.before y.rest B.0 y.place b (all-right s earlier y.before y.rest b is)),
      longer-backward (reverse y.before) (entry_answered x) earlier older (all-rise s earlier y.before y.rest),
    ))
    (λ (y : Passed s (λ j. Built s earlier j) x journal). (
      λ b is. rises-now s earlier x journal y.rest B.0 y.place b (all-right s earlier journal y.rest b is),
      all-rise s earlier journal y.rest,
    ))
    B.1
