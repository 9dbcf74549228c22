-- Each entry of a journal is right behind those before it, and has a reply.
use Rattle.std.proofs.Common.{◌≡◌, ◌<◌, true, List, [], ◌∷◌, refl, sym, ap, ◌∙◌, subst, arith, inl, inr, ⊎_elim}
use Rattle.std.specs.Prelude.{◌||◌, ◌==◌, nat_lt, not, reverse, ⊤}
use Rattle.std.proofs.lemmas.Bool.{and_from, eqb-true, lt-ltb}
use Rattle.kms_model.specs.declared.replies.Answered.{Answered}
use Rattle.kms_model.specs.declared.scripts.Script.{Script}
use Rattle.kms_model.specs.Device.Serial.{Entry, command_of, is_accepted, serial}
use Rattle.kms_model.specs.Headline.{entry_answered}
use Rattle.kms_model.specs.Machine.Steps.{is_signal, is_wait}
use Rattle.kms_model.specs.Report.RightAnswers.{entry_is_right, is_above, is_entered_in}
use Rattle.kms_model.proofs.Facts.{implied_from}
use Rattle.kms_model.proofs.Items.{IsIn, list_all-from}
use Rattle.kms_laws.proofs.Present.{reverse_more}
use Rattle.kms_told.proofs.Built.{Built, Entered, EntersAs, IsNew, Passed}
use Rattle.kms_told.proofs.Items.{AllPass, in-reverse, pass-append}

-- a reply to an entry
pub record HasReply (replies : List Answered) (e : Entry) : Type 0 where
  pub answer : Answered
  pub is_in : IsIn answer replies
  pub to_entry : entry_answered answer ≡ e

pub entry-reply : (s : Script) (replies : List Answered) (journal : List Entry) → Built s replies journal → (e : Entry) → IsIn e journal
    → HasReply replies e
entry-reply s [] journal B e is = absurd (subst (IsIn e) B is)
entry-reply s (a ∷ earlier) journal B e is =
    ⊎_elim
    (λ (x : Entered s (λ j. Built s earlier j) a journal).
    ⊎_elim
    (λ (same : entry_answered a ≡ e). record { answer = a; is_in = inl refl; to_entry = same })
    (λ later. let one = entry-reply s earlier x.before x.rest e later in
    record { answer = one.answer; is_in = inr one.is_in; to_entry = one.to_entry })
    (subst (IsIn e) x.is_newest is))
    (λ (x : Passed s (λ j. Built s earlier j) a journal).
    let one = entry-reply s earlier journal x.rest e is in record { answer = one.answer; is_in = inr one.is_in; to_entry = one.to_entry })
    B.1

-- each entry is right behind the older ones, which stand behind it here
abbrev pub AreRight : Script → List Entry → Type 0
AreRight s [] = ⊤
AreRight s (e ∷ earlier) = (entry_is_right s (reverse earlier) e ≡ true) × AreRight s earlier

module _ (s : Script) (earlier : List Answered) (a : Answered) (before : List Entry) (B : Built s earlier before) (new : IsNew a earlier)
    (E : EntersAs s (reverse before) a.client a.reply (command_of s (entry_answered a))) where
  above : (other : Entry) → IsIn other before → (other.client == a.client) ≡ true → other.command < a.command
  above other is same =
      let one = entry-reply s earlier before B other is in
      let lt = new one.answer one.is_in (ap (λ (f : Entry). f.client) one.to_entry ∙ eqb-true other.client a.client same) in
      let c = ap (λ (f : Entry). f.command) one.to_entry in
      omega (arith, c, lt)

  is-above : is_above (reverse before) (entry_answered a) ≡ true
  is-above =
      list_all-from (λ other. not (other.client == a.client) || nat_lt other.command a.command) (reverse before)
      (λ other is.
      implied_from (other.client == a.client) (nat_lt other.command a.command)
      (λ same. lt-ltb other.command a.command (above other (in-reverse before other is) same)))

  is-entered : is_entered_in s.topology (serial s (reverse before)) a.client (command_of s (entry_answered a)) ≡ true
  is-entered =
      ap (is_entered_in s.topology (serial s (reverse before)) a.client) E.is_command
      ∙ and_from (not (is_wait E.command)) _ (ap not E.no_wait)
      (and_from (not (is_signal E.command)) _ (ap not E.no_signal) (ap is_accepted (sym E.reply_is) ∙ E.accepted))

  entry-right : entry_is_right s (reverse before) (entry_answered a) ≡ true
  unfolding entry_is_right
  entry-right = and_from (is_above (reverse before) (entry_answered a)) _ is-above is-entered

pub entries-right : (s : Script) (replies : List Answered) (journal : List Entry) → Built s replies journal → AreRight s journal
entries-right s [] journal B = subst (AreRight s) (sym B) tt
entries-right s (a ∷ earlier) journal B =
    ⊎_elim
    (λ (x : Entered s (λ j. Built s earlier j) a journal).
    subst (AreRight s) (sym x.is_newest) (entry-right s earlier a x.before x.rest B.0 x.enters, entries-right s earlier x.before x.rest))
    (λ (x : Passed s (λ j. Built s earlier j) a journal). entries-right s earlier journal x.rest)
    B.1

pub entries-pass : (s : Script) (journal : List Entry) → AreRight s journal → AllPass (entry_is_right s) [] (reverse journal)
entries-pass s [] all = tt
entries-pass s (e ∷ earlier) all =
    subst (AllPass (entry_is_right s) []) (sym (reverse_more e earlier))
    (pass-append (entry_is_right s) [] (reverse earlier) (e ∷ []) (entries-pass s earlier all.1) (all.0, tt))
