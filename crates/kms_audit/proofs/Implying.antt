-- What a report implies whose lines are all right.
use Rattle.std.proofs.Common.{◌≡◌, ℕ, zero, suc, ◌+◌, ◌<◌, ◌≤◌, Bool, true, false, List, [], ◌∷◌, ◌++◌, length, get_or, take, Option, Some}
use Rattle.std.proofs.Common.{None, refl, sym, ap, ◌∙◌, subst, arith, inl, inr, length-append}
use Rattle.std.proofs.lemmas.Bool.{and_parts, cases_eq, cond-false, cond-true, eqb-true, leb-true, not-false, or_cases}
use Rattle.std.proofs.lemmas.List.{append-nil, length-map, nil_from_length}
use Rattle.std.proofs.lemmas.Option.{slice_get-get_or, slice_get-map, same_Some}
use Rattle.std.proofs.lemmas.Slice.Eq.{bytes_eq-Decides}
use Rattle.std.specs.List.{last_or, list_all, range_with_len}
use Rattle.std.specs.Prelude.{◌&&◌, ◌||◌, ◌==◌, is_none, nat_le, not, option_map, slice_get, if◌then◌else◌}
use Rattle.kms_model.proofs.Facts.{none-is}
use Rattle.kms_audit.proofs.Firsts.{off-each}
use Rattle.kms_audit.proofs.Tracks.{counted-cons}
use Rattle.kms_audit.specs.Implied.{IsEnteredAt, Told, YesImplies, shown_in_journal, told_by, told_in, told_of}
use Rattle.kms_model.proofs.Items.{number_if-none, or_else-none}
use Rattle.kms_model.specs.declared.objects.Kind.TheVariants.{Crtc}
use Rattle.kms_model.specs.declared.replies.Answered.{Answered}
use Rattle.kms_model.specs.declared.replies.Reply.{Reply}
use Rattle.kms_model.specs.declared.replies.Reply.TheVariants as reply
use Rattle.kms_model.specs.declared.reports.End.TheVariants.{Drained}
use Rattle.kms_model.specs.declared.reports.Report.{Report}
use Rattle.kms_model.specs.declared.scripts.Command.{Command}
use Rattle.kms_model.specs.declared.scripts.Command.TheVariants as command
use Rattle.kms_model.specs.declared.scripts.Request.{Request}
use Rattle.kms_model.specs.declared.scripts.Script.{Script}
use Rattle.kms_model.specs.declared.worlds.World.{World}
use Rattle.kms_model.specs.Device.Execution.{commit, execute}
use Rattle.kms_model.specs.Device.Objects.{exists, object_id}
use Rattle.kms_model.specs.Device.Serial.{Entry, Pictured, command_of, is_accepted, serial, show}
use Rattle.kms_model.specs.Firsts.{number_if}
use Rattle.kms_model.specs.Headline.{IsPrefixOf, IsVerdict, IsVerdictOnRequest, StandsAtPlace, entry_answered}
use Rattle.kms_model.specs.Report.Right.{LatchLine, end_is_right, event_is_right, events_are_whole, first_wrong, freed_is_right}
use Rattle.kms_model.specs.Report.Right.{is_not_below, is_right_end, all_is_answered, all_is_latched, last_count, latch_is_right}
use Rattle.kms_model.specs.Report.Right.{latches_in, lines_of_crtc, number_at, same_digest, tells_of, may_count}
use Rattle.kms_model.specs.Report.RightAnswers.{answer_is_right, answers_are_whole, answers_in, entries_in, entry_is_right, first_off}
use Rattle.kms_model.specs.Report.RightAnswers.{has_place, is_above, is_devices_reply, is_entered_in, is_in_turn, is_refused_late_at}
use Rattle.kms_model.specs.Report.RightAnswers.{is_to_entry, may_be_refused_late, may_come_behind, reply_is_right, reply_is_right_to}
use Rattle.kms_model.specs.Report.RightAnswers.{same_reply, world_at}
use Rattle.kms_model.specs.Report.SeenReport.{digest_shown}
use Rattle.kms_model.specs.Request.Flags.{is_test}
use Rattle.kms_model.specs.Request.Verdict.{verdict}

-- The sections, each of which has no line that is not right

number_none : (n : ℕ) (o : Option ℕ) → number_at n o ≡ None → o ≡ None
number_none n None e = refl
number_none n (Some p) e = absurd cc

not_none : (n : ℕ) (b : Bool) → number_if n (not b) ≡ None → b ≡ true
not_none n b e = not-false b (number_if-none n (not b) e)

record AllRight (s : Script) (r : Report) : Type 0 where
  entries : first_off (entry_is_right s) [] (entries_in r) ≡ None
  answers : first_off (answer_is_right s r) [] (answers_in r) ≡ None
  latches : first_off (latch_is_right s r) [] (latches_in r) ≡ None
  end : end_is_right s r ≡ true

all-right : (s : Script) (r : Report) → first_wrong s r ≡ None → AllRight s r
unfolding first_wrong
all-right s r none =
    let after_entries = 1 + length r.journal in
    let after_answers = after_entries + length r.replies in
    let after_latches = after_answers + length r.latches in
    let after_events = after_latches + length r.events in
    let after_freed = after_events + length r.freed in
    let a = or_else-none (number_at 1 (first_off (entry_is_right s) [] (entries_in r))) _ none in
    let b = or_else-none (number_at after_entries (first_off (answer_is_right s r) [] (answers_in r))) _ a.second_none in
    let c = or_else-none (number_if after_answers (not (answers_are_whole r))) _ b.second_none in
    let d = or_else-none (number_at after_answers (first_off (latch_is_right s r) [] (latches_in r))) _ c.second_none in
    let e = or_else-none (number_at after_latches (first_off (event_is_right s r) [] r.events)) _ d.second_none in
    let f = or_else-none (number_if after_events (not (events_are_whole r))) _ e.second_none in
    let g = or_else-none (number_at after_events (first_off (freed_is_right s r) [] r.freed))
    (number_if after_freed (not (end_is_right s r))) f.second_none in
    record {
      entries = number_none 1 (first_off (entry_is_right s) [] (entries_in r)) a.first_none;
      answers = number_none after_entries (first_off (answer_is_right s r) [] (answers_in r)) b.first_none;
      latches = number_none after_answers (first_off (latch_is_right s r) [] (latches_in r)) d.first_none;
      end = not_none after_freed (end_is_right s r) g.second_none;
    }

-- Entries

entered_at : (s : Script) (r : Report) (place : ℕ) (e : Entry) → AllRight s r → slice_get (entries_in r) place ≡ Some e
    → IsEnteredAt s r place e
unfolding entry_is_right
entered_at s r place e all g =
    (and_parts (is_above (take place (entries_in r)) e)
    (is_entered_in s.topology (serial s (take place (entries_in r))) e.client (command_of s e))
    (off-each (entry_is_right s) [] (entries_in r) place e all.entries g)).1

-- What is told of a CRTC

prefix-of : {A : Type 0} (xs ys : List A) → ((k : ℕ) (x : A) → slice_get xs k ≡ Some x → slice_get ys k ≡ Some x) → IsPrefixOf xs ys
prefix-of [] ys each = (ys, refl)
prefix-of (x ∷ xs) [] each = absurd (let no = each 0 x refl in cc)
prefix-of (x ∷ xs) (y ∷ ys) each =
    let same : y ≡ x = same_Some y x (each 0 x refl) in
    let rest = prefix-of xs ys (λ k z g. each (suc k) z g) in
    (rest.0, ap (λ z. z ∷ ys) same ∙ ap (λ zs. x ∷ zs) rest.1)

same_prefix : {A : Type 0} (xs ys : List A) → IsPrefixOf xs ys → length xs ≡ length ys → xs ≡ ys
same_prefix xs ys p e =
    let none : length p.0 ≡ 0 = omega (arith, ap length p.1, length-append xs p.0, e) in
    sym (p.1 ∙ (ap (λ zs. xs ++ zs) (nil_from_length p.0 none) ∙ append-nil xs))

-- the line of a number, of those of a CRTC
record IsLineOf (crtc : ℕ) (lines : List LatchLine) (k : ℕ) (l : LatchLine) : Type 0 where
  at : ℕ
  is_line : slice_get lines at ≡ Some l
  own : l.crtc ≡ crtc
  count : length (lines_of_crtc crtc (take at lines)) ≡ k

line_further : (crtc : ℕ) (x : LatchLine) (xs : List LatchLine) (k n : ℕ) (l : LatchLine) (b : Bool)
    → (x.crtc == crtc) ≡ b → IsLineOf crtc xs k l
    → n ≡ (if b then suc k else k) → IsLineOf crtc (x ∷ xs) n l
line_further crtc x xs k n l b e of is = record {
  at = suc of.at;
  is_line = of.is_line;
  own = of.own;
  count = counted-cons crtc x (take of.at xs) b e ∙ (ap (λ m. if b then suc m else m) of.count ∙ sym is);
}

line-of : (crtc : ℕ) (lines : List LatchLine) (k : ℕ) (l : LatchLine) → slice_get (lines_of_crtc crtc lines) k ≡ Some l
    → IsLineOf crtc lines k l
line-of crtc [] k l g = absurd cc
line-of crtc (x ∷ xs) k l g = by_own (x.crtc == crtc) refl k g (λ n h. line-of crtc xs n l h) where
  by_own : (b : Bool) → (x.crtc == crtc) ≡ b → (n : ℕ) → slice_get (lines_of_crtc crtc (x ∷ xs)) n ≡ Some l
      → ((m : ℕ) → slice_get (lines_of_crtc crtc xs) m ≡ Some l → IsLineOf crtc xs m l) → IsLineOf crtc (x ∷ xs) n l
  by_own false e n h rest =
      let there = cond-false (x.crtc == crtc) (x ∷ lines_of_crtc crtc xs) (lines_of_crtc crtc xs) e in
      line_further crtc x xs n n l false e (rest n (sym (ap (λ ls. slice_get ls n) there) ∙ h)) refl
  by_own true e n h rest =
      let there = cond-true (x.crtc == crtc) (x ∷ lines_of_crtc crtc xs) (lines_of_crtc crtc xs) e in
      first_or n (sym (ap (λ ls. slice_get ls n) there) ∙ h) where
        first_or : (n : ℕ) → slice_get (x ∷ lines_of_crtc crtc xs) n ≡ Some l → IsLineOf crtc (x ∷ xs) n l
        first_or zero f =
            let same : x ≡ l = same_Some x l f in
            record { at = 0; is_line = f; own = ap (λ (z : LatchLine). z.crtc) (sym same) ∙ eqb-true x.crtc crtc e; count = refl }
        first_or (suc n) f = line_further crtc x xs n (suc n) l true e (rest n f) refl

same_digests : (d e : Option (List ℕ)) → same_digest d e ≡ true → d ≡ e
same_digests None None f = refl
same_digests (Some x) (Some y) f = ap Some ((bytes_eq-Decides x y).0 f)
same_digests None (Some y) f = absurd cc
same_digests (Some x) None f = absurd cc

told_same : (l : LatchLine) (before : List LatchLine) (o : Option Pictured) → tells_of l before o ≡ true
    → option_map told_of o ≡ Some (told_by l)
told_same l before None e = absurd cc
told_same l before (Some p) e =
    let a = and_parts (l.commit == p.commit)
    (same_digest l.digest (digest_shown p.picture p.frame) && may_count p.picture (last_count before) l.count) e in
    let b = and_parts (same_digest l.digest (digest_shown p.picture p.frame)) (may_count p.picture (last_count before) l.count) a.1 in
    made l.commit p.commit l.digest (digest_shown p.picture p.frame) (eqb-true l.commit p.commit a.0)
    (same_digests l.digest (digest_shown p.picture p.frame) b.0) where
      made : (m n : ℕ) (d f : Option (List ℕ)) → m ≡ n → d ≡ f
          → ◌≡◌ {A = Option Told} (Some (record { commit = n; digest = f })) (Some (record { commit = m; digest = d }))
      made m n d f g h = rw (g, h) refl

told_at : (s : Script) (r : Report) (crtc k : ℕ) (t : Told) → AllRight s r → slice_get (told_in r crtc) k ≡ Some t
    → slice_get (shown_in_journal s r crtc) k ≡ Some t
unfolding latch_is_right
told_at s r crtc k t all g = by_line (slice_get (lines_of_crtc crtc (latches_in r)) k) refl
    (sym (slice_get-map told_by (lines_of_crtc crtc (latches_in r)) k) ∙ g) where
      by_line : (o : Option LatchLine) → slice_get (lines_of_crtc crtc (latches_in r)) k ≡ o → option_map told_by o ≡ Some t
          → slice_get (shown_in_journal s r crtc) k ≡ Some t
      by_line None is e = absurd cc
      by_line (Some l) is e =
          let of = line-of crtc (latches_in r) k l is in
          let right = off-each (latch_is_right s r) [] (latches_in r) of.at l all.latches of.is_line in
          let before = take of.at (latches_in r) in
          let own = lines_of_crtc l.crtc before in
          let shown = slice_get (show s (entries_in r) (object_id Crtc l.crtc)) (length own) in
          let p = and_parts (exists s.topology Crtc l.crtc) (is_not_below (λ (x : LatchLine). x.crtc) before l && tells_of l own shown)
          right in
          let q = and_parts (is_not_below (λ (x : LatchLine). x.crtc) before l) (tells_of l own shown) p.1 in
          let here : shown ≡ slice_get (show s (entries_in r) (object_id Crtc crtc)) k =
          ap (λ c. slice_get (show s (entries_in r) (object_id Crtc c)) (length (lines_of_crtc c before))) of.own
          ∙ ap (slice_get (show s (entries_in r) (object_id Crtc crtc))) of.count in
          slice_get-map told_of (show s (entries_in r) (object_id Crtc crtc)) k
          ∙ (ap (option_map told_of) (sym here) ∙ (told_same l own shown q.1 ∙ e))

-- Verdicts

devices_verdict : (w : World) (t : Script) (q : Request) (a : Reply) (client : ℕ) (o : Option ℕ) (b : Bool)
    → verdict t.topology w q ≡ o → is_test q.flags ≡ b
    → same_reply a (commit t.topology w client q o).reply ≡ true → IsVerdictOnRequest t w q a
devices_verdict w t q a client (Some n) b is test e = refused a e where
  refused : (x : Reply) → same_reply x (reply.Refused (record { 0 = n })) ≡ true → IsVerdictOnRequest t w q x
  refused (reply.Refused m) f = is ∙ ap Some (sym (eqb-true m.0 n f))
  refused x f = absurd cc
devices_verdict w t q a client None true is test e = tested a (rw test at e) where
  tested : (x : Reply) → same_reply x reply.Tested ≡ true → IsVerdictOnRequest t w q x
  tested reply.Tested f = is
  tested x f = absurd cc
devices_verdict w t q a client None false is test e = committed_as a (rw test at e) where
  committed_as : (x : Reply) → same_reply x (reply.Commit w.commits) ≡ true → IsVerdictOnRequest t w q x
  committed_as (reply.Commit m) f = (is, eqb-true m w.commits f)
  committed_as x f = absurd cc

late_verdict : (s : Script) (journal : List Entry) (q : Request) (a : Reply) → is_refused_late_at s journal q a ≡ true
    → IsVerdictOnRequest s (serial s journal) q a
late_verdict s journal q a e =
    let p = and_parts (is_none (verdict s.topology (serial s journal) q))
    (not (is_test q.flags) && may_be_refused_late s journal (serial s journal) q a) e in
    let late = (and_parts (not (is_test q.flags)) (may_be_refused_late s journal (serial s journal) q a) p.1).1 in
    of_reply a (none-is (verdict s.topology (serial s journal) q) p.0) late where
      of_reply : (x : Reply) → verdict s.topology (serial s journal) q ≡ None → may_be_refused_late s journal (serial s journal) q x ≡ true
          → IsVerdictOnRequest s (serial s journal) q x
      of_reply (reply.Space m) is f = is
      of_reply (reply.Busy x m) is f = is
      of_reply x is f = absurd cc

request_verdict : (s : Script) (r : Report) (a : Answered) (q : Request)
    → (is_devices_reply s r a (command.Atomic q) ||
    (not (is_to_entry r a) && is_refused_late_at s (take a.place (entries_in r)) q a.reply)) ≡ true
    → IsVerdictOnRequest s (world_at s r a.place) q a.reply
unfolding execute
request_verdict s r a q e =
    elim (or_cases (is_devices_reply s r a (command.Atomic q))
    (not (is_to_entry r a) && is_refused_late_at s (take a.place (entries_in r)) q a.reply) e) [
      | inl own ↦ (
          let executed = (execute s.topology (world_at s r a.place) a.client (command.Atomic q)).reply in
          devices_verdict (world_at s r a.place) s q a.reply a.client (verdict s.topology (world_at s r a.place) q)
          (is_test q.flags) refl refl
          (and_parts (same_reply a.reply executed) (is_to_entry r a || not (is_accepted executed)) own).0)
      | inr late ↦ late_verdict s (take a.place (entries_in r)) q a.reply
          (and_parts (not (is_to_entry r a)) (is_refused_late_at s (take a.place (entries_in r)) q a.reply) late).1
    ]

reply_verdict : (s : Script) (r : Report) (a : Answered) (o : Option Command) → reply_is_right_to s r a o ≡ true
    → IsVerdict s (world_at s r a.place) a.reply o
reply_verdict s r a None e = absurd cc
reply_verdict s r a (Some (command.Atomic q)) e = request_verdict s r a q e
reply_verdict s r a (Some c) e = tt

stands_at : (s : Script) (r : Report) (k : ℕ) (a : Answered) → AllRight s r → slice_get (answers_in r) k ≡ Some a
    → StandsAtPlace s (entries_in r) a
unfolding answer_is_right reply_is_right
stands_at s r k a all g =
    let right = off-each (answer_is_right s r) [] (answers_in r) k a all.answers g in
    let before = take k (answers_in r) in
    let p = and_parts (is_in_turn r (last_or None before) a)
    (has_place r a && (may_come_behind r (last_or None before) a && reply_is_right s r a)) right in
    let q = and_parts (has_place r a) (may_come_behind r (last_or None before) a && reply_is_right s r a) p.1 in
    let t = and_parts (may_come_behind r (last_or None before) a) (reply_is_right s r a) q.1 in
    record {
      place = leb-true a.place (length (entries_in r)) (and_parts (nat_le a.place (length (entries_in r))) _ q.0).0;
      is_verdict = reply_verdict s r a (command_of s (entry_answered a)) t.1;
    }

-- All told

drained_all : (s : Script) (r : Report) (crtc : ℕ) → AllRight s r → r.end ≡ Drained → crtc < s.topology.crtcs
    → length (lines_of_crtc crtc (latches_in r)) ≡ length (show s (entries_in r) (object_id Crtc crtc))
unfolding end_is_right
drained_all s r crtc all is on =
    let end : is_right_end s r Drained ≡ true = subst (λ e. is_right_end s r e ≡ true) is all.end in
    let latched = (and_parts (all_is_answered s r) (all_is_latched s r) end).1 in
    eqb-true (length (lines_of_crtc crtc (latches_in r))) (length (show s (entries_in r) (object_id Crtc crtc)))
    (each_of (λ c. length (lines_of_crtc c (latches_in r)) == length (show s (entries_in r) (object_id Crtc c))) 0 s.topology.crtcs crtc
    (omega arith) (omega (arith, on)) latched) where
      each_of : (p : ℕ → Bool) (a n x : ℕ) → a ≤ x → x < a + n → list_all p (range_with_len a n) ≡ true → p x ≡ true
      each_of p a zero x l h e = absurd (omega arith)
      each_of p a (suc n) x l h e =
          let both = and_parts (p a) (list_all p (range_with_len (a + 1) n)) e in
          elim (cases_eq a x) [
            | inl same ↦ ap p (sym same) ∙ both.0
            | inr apart ↦ each_of p (a + 1) n x (omega arith) (omega arith) both.1
          ]

pub yes-implies : YesImplies
yes-implies s r formed none =
    let all = all-right s r none in
    record {
      entries = λ place e g. entered_at s r place e all g;
      in_order = λ crtc on. prefix-of (told_in r crtc) (shown_in_journal s r crtc) (λ k t g. told_at s r crtc k t all g);
      all_of_them = λ is crtc on.
          same_prefix (told_in r crtc) (shown_in_journal s r crtc)
          (prefix-of (told_in r crtc) (shown_in_journal s r crtc) (λ k t g. told_at s r crtc k t all g))
          (length-map (lines_of_crtc crtc (latches_in r)) told_by
          ∙ (drained_all s r crtc all is on ∙ sym (length-map (show s (entries_in r) (object_id Crtc crtc)) told_of)));
      verdicts = λ k d within. stands_at s r k (get_or (answers_in r) k d) all (slice_get-get_or (answers_in r) k d within);
    }
