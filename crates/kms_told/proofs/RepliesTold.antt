-- The J and R lines of the report of a history are right.
use Rattle.std.proofs.Common.{◌≡◌, ℕ, true, List, [], length, take, Option, Some, None, refl, sym, ap, ◌∙◌, subst, ⊎_elim}
use Rattle.std.specs.Prelude.{◌||◌, ◌==◌, not, reverse}
use Rattle.std.specs.List.{list_any}
use Rattle.std.proofs.lemmas.Bool.{and_from, eq-eqb, eqb-true, or_right}
use Rattle.kms_model.specs.declared.replies.Answered.{Answered}
use Rattle.kms_model.specs.declared.replies.Step.{Step}
use Rattle.kms_model.specs.declared.reports.Report.{Report}
use Rattle.kms_model.specs.declared.scripts.Command.{Command}
use Rattle.kms_model.specs.declared.scripts.Script.{Script}
use Rattle.kms_model.specs.Device.Serial.{Entry, command_of}
use Rattle.kms_model.specs.Headline.{entry_answered}
use Rattle.kms_model.specs.Machine.Histories.{at, client_numbers, is_history, journal}
use Rattle.kms_model.specs.Report.History.{answers_to}
use Rattle.kms_model.specs.Report.RightAnswers.{answer_is_right, answers_are_whole, answers_in, client_is_whole, entries_in, entry_is_right}
use Rattle.kms_model.specs.Report.RightAnswers.{first_off, has_answer, is_answer_to, no_client_is_silent}
use Rattle.kms_model.proofs.Items.{IsIn, list_all-from, list_any-has}
use Rattle.kms_laws.proofs.AnswersFollow.{answers-follow}
use Rattle.kms_laws.proofs.Headlines.{range-in}
use Rattle.kms_laws.proofs.Sizes.{IsThere, command-there}
use Rattle.kms_laws.proofs.Steps.{IsPlainScript}
use Rattle.kms_told.proofs.Alone.{StandsAlone}
use Rattle.kms_told.proofs.AnswersRight.{Rises, StandsRight, ToEntry, ToNone, all-right, all-rise}
use Rattle.kms_told.proofs.Built.{Built, reached}
use Rattle.kms_told.proofs.EntriesRight.{HasReply, entries-pass, entries-right, entry-reply}
use Rattle.kms_told.proofs.Items.{Forward, filter-from, filter-has, flat_map-has, forward-filter, forward-reverse, in-reverse, none-off}
use Rattle.kms_told.proofs.Items.{reverse-in}
use Rattle.kms_told.proofs.Seen.{Sees}
use Rattle.kms_told.proofs.TurnsRight.{AreOf, blocks}

module _ (s : Script) (h : List Step) (plain : IsPlainScript s) (is : is_history s h ≡ true) (r : Report) (S : Sees s h (at s h) r) where
  abbrev replied : List Answered
  replied = (at s h).records.replies

  built : Built s replied (at s h).records.journal
  built = (reached s h plain is).built

  pub entries-off : first_off (entry_is_right s) [] (entries_in r) ≡ None
  entries-off =
      ap (first_off (entry_is_right s) []) S.entries
      ∙ none-off (entry_is_right s) [] (journal (at s h))
      (entries-pass s (at s h).records.journal (entries-right s replied (at s h).records.journal built))

  right-of : (a : Answered) → IsIn a replied → StandsRight s (entries_in r) a
  right-of a at_a = subst (λ j. StandsRight s j a) (sym S.entries) (all-right s replied (at s h).records.journal built a at_a)

  of : (client : ℕ) → AreOf s r client (answers_to (at s h) client)
  of client =
      let from = λ (a : Answered) (at_a : IsIn a (answers_to (at s h) client)). filter-from (λ b. b.client == client)
      (reverse replied) a at_a in
      record {
        own = λ a at_a. eqb-true a.client client (from a at_a).1;
        right = λ a at_a. right-of a (in-reverse replied a (from a at_a).0);
        rise = subst (λ j. Forward (Rises j) (answers_to (at s h) client)) (sym S.entries)
            (forward-filter (λ b. b.client == client) (Rises (journal (at s h))) (reverse replied)
            (forward-reverse (Rises (journal (at s h))) replied (all-rise s replied (at s h).records.journal built)));
      }

  -- Each reply has an R line

  command-some : (a : Answered) → (o : Option Command) → command_of s (entry_answered a) ≡ o
      → StandsAlone s (take a.place (entries_in r)) a.client a.reply o
      → IsThere s a.client a.command
  command-some a None e alone = absurd alone
  command-some a (Some c) e alone = command-there s (entry_answered a) c e

  there : (a : Answered) → StandsRight s (entries_in r) a → IsThere s a.client a.command
  there a R =
      ⊎_elim
      (λ (x : ToEntry s (entries_in r) a). command-there s (entry_answered a) x.enters.command x.enters.is_command)
      (λ (x : ToNone s (entries_in r) a). command-some a (command_of s (entry_answered a)) refl x.alone)
      R.to

  pub has-line : (a : Answered) → IsIn a replied → IsIn a (answers_in r)
  has-line a at_a =
      let t = there a (right-of a at_a) in
      subst (IsIn a) (sym S.answers)
      (flat_map-has (answers_to (at s h)) (client_numbers s) a.client a (range-in 1 (length s.clients) a.client t.low t.high)
      (filter-has (λ b. b.client == a.client) (reverse replied) a (reverse-in replied a at_a) (eq-eqb a.client a.client refl)))

  replies-to : (e : Entry) → IsIn e (entries_in r) → HasReply replied e
  replies-to e at_e =
      entry-reply s replied (at s h).records.journal built e (in-reverse (at s h).records.journal e (subst (IsIn e) S.entries at_e))

  same-client : (e : Entry) (one : HasReply replied e) → (one.answer.client == e.client) ≡ true
  same-client e one = eq-eqb one.answer.client e.client (ap (λ (f : Entry). f.client) one.to_entry)

  has-answer : (e : Entry) → IsIn e (entries_in r) → has_answer r e ≡ true
  has-answer e at_e =
      let one = replies-to e at_e in
      list_any-has (is_answer_to e) (answers_in r) one.answer (has-line one.answer one.is_in)
      (and_from (one.answer.client == e.client) (one.answer.command == e.command) (same-client e one)
      (eq-eqb one.answer.command e.command (ap (λ (f : Entry). f.command) one.to_entry)))

  pub answers-whole : answers_are_whole r ≡ true
  unfolding answers_are_whole
  answers-whole = list_all-from (has_answer r) (entries_in r) has-answer

  client-whole : (client : ℕ) → client_is_whole r client ≡ true
  client-whole client =
      list_all-from (λ e. not (e.client == client) || has_answer r e) (entries_in r)
      (λ e at_e. or_right (not (e.client == client)) (has_answer r e) (has-answer e at_e))

  none-silent : no_client_is_silent r ≡ true
  none-silent =
      list_all-from (λ e. list_any (λ a. a.client == e.client) (answers_in r)) (entries_in r)
      (λ e at_e.
      let one = replies-to e at_e in
      list_any-has (λ a. a.client == e.client) (answers_in r) one.answer (has-line one.answer one.is_in) (same-client e one))

  pub answers-off : first_off (answer_is_right s r) [] (answers_in r) ≡ None
  answers-off =
      ap (first_off (answer_is_right s r) []) S.answers
      ∙ none-off (answer_is_right s r) [] _
      (blocks s r client-whole none-silent (answers_to (at s h)) of (answers-follow s h is) 1 (length s.clients) [] tt)
