-- A line of a report that was read is written as it stood.
use Rattle.std.proofs.Common.{◌≡◌, ℕ, inl, inr, true, List, [], ◌∷◌, ◌++◌, append_assoc, cond, Option, Some, None, refl, sym, ap, ◌∙◌}
use Rattle.std.proofs.Common.{subst}
use Rattle.std.specs.Prelude.{codes, option_map, ⊤}
use Rattle.std.specs.Fmt.{decimal}
use Rattle.std.specs.Str.{bytes_eq}
use Rattle.kms_model.specs.declared.replies.Step.{Step}
use Rattle.kms_model.specs.declared.reports.End.{End}
use Rattle.kms_model.specs.declared.reports.End.TheVariants.{Drained, Stalled, Open}
use Rattle.kms_model.specs.declared.reports.ReportLine.{ReportLine}
use Rattle.kms_model.specs.declared.reports.ReportLine.TheVariants as says
use Rattle.kms_model.specs.Report.Replies.{reply_words}
use Rattle.kms_model.specs.Report.ReplyFields.{event_fields, lone_number, reply_read, word32_at, word64_at}
use Rattle.kms_model.specs.Report.ReportLines.{answer_read, client_event_read, digest_in, digest_word, end_read, ending_words, entry_read}
use Rattle.kms_model.specs.Report.ReportLines.{freed_read, latch_read, line_text, open_read, report_line_read}
use Rattle.kms_model.specs.Report.TextLines.{line}
use Rattle.kms_model.specs.Script.CommandLines.{label_alone}
use Rattle.kms_model.specs.Script.Schedules.{step_read}
use Rattle.kms_model.specs.Script.Words.{end_at, field_at, from, label_at, until}
use Rattle.kms_script.proofs.Inverted.{choice_some, from_bind, map_some, some_same}
use Rattle.kms_script.proofs.LineFields.{end_spelt, field_spelt, fields_end, fields_to, line_fields, then_fields, until_from}
use Rattle.kms_script.proofs.SpeltFields.{label_alone_spelt, label_at_spelt}
use Rattle.kms_script.proofs.SpeltWords.{found}
use Rattle.kms_script.proofs.StepLines.{spelt_once}
use Rattle.kms_reading.specs.Spelt.{IsNearReply}
use Rattle.kms_reading.proofs.SpeltDigests.{digest-spelt}
use Rattle.kms_reading.proofs.SpeltReplies.{event-spelt, lone-spelt, reply-spelt, word32-spelt, word64-spelt}

-- the words of a line behind its letter, and the fields that they were read of
record IsLineOf (letter fields : List ℕ) (l : ReportLine) : Type 0 where
  words : List (List ℕ)
  are : line_text l ≡ line (letter ∷ words)
  spelt : fields_to words [] ≡ fields

-- Lines by their letters

entry-is : (fields : List ℕ) (l : ReportLine) → entry_read fields ≡ Some l → IsLineOf (codes "J") fields l
unfolding entry_read
entry-is fields l e =
    from_bind (word32_at fields) _ l e (λ client given more.
    from_bind (lone_number client.1) _ l more (λ command last is.
    subst (IsLineOf (codes "J") fields) (some_same (says.Entry client.0 command) l is) (record {
      words = decimal client.0 ∷ decimal command ∷ [];
      are = refl;
      spelt = word32-spelt fields client (decimal command ∷ []) given (lone-spelt client.1 command last);
    })))

-- a busy reply of a line names an object of an index below 100
abbrev pub IsNearLine : ReportLine → Type 0
IsNearLine (says.Answer client command place answer) = IsNearReply answer
IsNearLine _ = ⊤

answer-is : (fields : List ℕ) (l : ReportLine) → IsNearLine l → answer_read fields ≡ Some l → IsLineOf (codes "R") fields l
unfolding answer_read
answer-is fields l near e =
    from_bind (word32_at fields) _ l e (λ client given more.
    from_bind (word32_at client.1) _ l more (λ command there more.
    from_bind (word32_at command.1) _ l more (λ place behind more.
    from_bind (reply_read place.1) _ l more (λ answer last is.
    let made = some_same (says.Answer client.0 command.0 place.0 answer) l is in
    let near_one = subst IsNearLine (sym made) near in
    subst (IsLineOf (codes "R") fields) made (record {
      words = decimal client.0 ∷ decimal command.0 ∷ decimal place.0 ∷ reply_words answer;
      are = refl;
      spelt =
          word32-spelt fields client (decimal command.0 ∷ decimal place.0 ∷ reply_words answer) given
          (word32-spelt client.1 command (decimal place.0 ∷ reply_words answer) there
          (word32-spelt command.1 place (reply_words answer) behind (reply-spelt place.1 answer near_one last)));
    })))))

latch-is : (fields : List ℕ) (l : ReportLine) → latch_read fields ≡ Some l → IsLineOf (codes "L") fields l
unfolding latch_read
latch-is fields l e =
    from_bind (word32_at fields) _ l e (λ crtc given more.
    from_bind (word32_at crtc.1) _ l more (λ commit there more.
    from_bind (word64_at commit.1) _ l more (λ count behind more.
    from_bind (field_at count.1) _ l more (λ word field more.
    from_bind (end_at word.1) _ l more (λ u end more.
    from_bind (digest_in word.0) _ l more (λ digest read is.
    subst (IsLineOf (codes "L") fields) (some_same (says.Latch crtc.0 commit.0 count.0 digest) l is) (record {
      words = decimal crtc.0 ∷ decimal commit.0 ∷ decimal count.0 ∷ digest_word digest ∷ [];
      are = refl;
      spelt =
          word32-spelt fields crtc (decimal commit.0 ∷ decimal count.0 ∷ digest_word digest ∷ []) given
          (word32-spelt crtc.1 commit (decimal count.0 ∷ digest_word digest ∷ []) there
          (word64-spelt commit.1 count (digest_word digest ∷ []) behind
          (ap (λ w. fields_to (w ∷ []) []) (digest-spelt word.0 digest read)
          ∙ then_fields word.0 [] [] word.1 count.1 (field_spelt count.1 word field) (end_spelt word.1 u end))));
    })))))))

event-is : (fields : List ℕ) (l : ReportLine) → client_event_read fields ≡ Some l → IsLineOf (codes "E") fields l
unfolding client_event_read
event-is fields l e =
    from_bind (word32_at fields) _ l e (λ client given more.
    from_bind (event_fields client.1) _ l more (λ event last is.
    subst (IsLineOf (codes "E") fields) (some_same (says.Event client.0 event) l is) (record {
      words = decimal client.0 ∷ decimal event.user_data ∷ decimal event.sequence ∷ decimal event.crtc ∷ [];
      are = refl;
      spelt =
          word32-spelt fields client (decimal event.user_data ∷ decimal event.sequence ∷ decimal event.crtc ∷ []) given
          (event-spelt client.1 event last);
    })))

freed-is : (fields : List ℕ) (l : ReportLine) → freed_read fields ≡ Some l → IsLineOf (codes "X") fields l
unfolding freed_read
freed-is fields l e =
    from_bind (label_at fields) _ l e (λ label given more.
    from_bind (lone_number label.1) _ l more (λ id last is.
    subst (IsLineOf (codes "X") fields) (some_same (says.Freed label.0 id) l is) (record {
      words = label.0 ∷ decimal id ∷ [];
      are = refl;
      spelt = then_fields label.0 (decimal id ∷ []) [] label.1 fields (label_at_spelt fields label given) (lone-spelt label.1 id last);
    })))

-- Ends

-- the words of an end behind its first, and the fields that they were read of
record IsEndOf (word rest : List ℕ) (end : End) : Type 0 where
  words : List (List ℕ)
  are : ending_words end ≡ word ∷ words
  spelt : fields_to words [] ≡ rest

drained-is : (rest : List ℕ) (end : End) → option_map (λ _. Drained) (end_at rest) ≡ Some end → IsEndOf (codes "drained") rest end
drained-is rest end e =
    let m = map_some (λ (_ : Unit {0}). Drained) (end_at rest) end e in
    subst (IsEndOf (codes "drained") rest) m.makes (record { words = []; are = refl; spelt = end_spelt rest m.value m.given })

stalled-is : (rest : List ℕ) (end : End) → option_map (λ label. Stalled label) (label_alone rest) ≡ Some end
    → IsEndOf (codes "stalled") rest end
stalled-is rest end e =
    let m = map_some (λ (label : List ℕ). Stalled label) (label_alone rest) end e in
    subst (IsEndOf (codes "stalled") rest) m.makes (record {
      words = m.value ∷ [];
      are = refl;
      spelt = label_alone_spelt rest m.value m.given;
    })

open-is : (rest : List ℕ) (end : End) → open_read rest ≡ Some end → IsEndOf (codes "open") rest end
unfolding open_read
open-is rest end e =
    from_bind (word64_at rest) _ end e (λ count given more.
    from_bind (end_at count.1) _ end more (λ u last is.
    subst (IsEndOf (codes "open") rest) (some_same (Open count.0) end is) (record {
      words = decimal count.0 ∷ [];
      are = refl;
      spelt = word64-spelt rest count [] given (end_spelt count.1 u last);
    })))

end_by_word : (word k rest : List ℕ) (end : End) (one other : Option End) → (one ≡ Some end → IsEndOf k rest end)
    → (other ≡ Some end → IsEndOf word rest end)
    → cond (bytes_eq word k) one other ≡ Some end → IsEndOf word rest end
end_by_word word k rest end one other here there e = elim (choice_some (bytes_eq word k) one other end e) [
  | inl is ↦ subst (λ w. IsEndOf w rest end) (sym (found word k is.0)) (here is.1)
  | inr more ↦ there more
]

end-spelt : (fields : List ℕ) (end : End) → end_read fields ≡ Some end → fields_to (ending_words end) [] ≡ fields
unfolding end_read
end-spelt fields end e =
    from_bind (field_at fields) _ end e (λ word given more.
    let is =
    end_by_word word.0 (codes "drained") word.1 end _ _ (drained-is word.1 end)
    (end_by_word word.0 (codes "stalled") word.1 end _ _ (stalled-is word.1 end)
    (end_by_word word.0 (codes "open") word.1 end _ None (open-is word.1 end) (λ none. absurd cc))) more in
    ap (λ ws. fields_to ws []) is.are ∙ then_fields word.0 is.words [] word.1 fields (field_spelt fields word given) is.spelt)

ended-is : (fields : List ℕ) (l : ReportLine) → option_map (λ end. says.Ended end) (end_read fields) ≡ Some l
    → IsLineOf (codes "D") fields l
ended-is fields l e =
    let m = map_some (λ (end : End). says.Ended end) (end_read fields) l e in
    subst (IsLineOf (codes "D") fields) m.makes (record {
      words = ending_words m.value;
      are = refl;
      spelt = end-spelt fields m.value m.given;
    })

-- All lines

-- a line of a letter
whole : (text letter : List ℕ) (l : ReportLine) → bytes_eq (until 32 text) letter ≡ true → IsLineOf letter (from 32 text) l
    → line_text l ≡ text ++ 10 ∷ []
whole text letter l is of =
    let same = sym (found (until 32 text) letter is) in
    of.are ∙ (line_fields letter of.words ∙ (sym (ap (λ bs. letter ++ bs) (fields_end of.words [] (10 ∷ [])))
    ∙ ((λ i. same i ++ (of.spelt i ++ 10 ∷ []))
    ∙ (sym (append_assoc (until 32 text) (from 32 text) (10 ∷ [])) ∙ ap (λ bs. bs ++ 10 ∷ []) (until_from 32 text)))))

by_letter : (text letter : List ℕ) (l : ReportLine) (one other : Option ReportLine)
    → (one ≡ Some l → IsLineOf letter (from 32 text) l) → (other ≡ Some l → line_text l ≡ text ++ 10 ∷ [])
    → cond (bytes_eq (until 32 text) letter) one other ≡ Some l → line_text l ≡ text ++ 10 ∷ []
by_letter text letter l one other here there e = elim (choice_some (bytes_eq (until 32 text) letter) one other l e) [
  | inl is ↦ whole text letter l is.0 (here is.1)
  | inr more ↦ there more
]

stepped-is : (text : List ℕ) (l : ReportLine) → option_map (λ step. says.Stepped step) (step_read text) ≡ Some l
    → line_text l ≡ text ++ 10 ∷ []
stepped-is text l e =
    let m = map_some (λ (step : Step). says.Stepped step) (step_read text) l e in
    ap line_text (sym m.makes) ∙ sym (spelt_once.one text m.value m.given)

pub line-spelt : (text : List ℕ) (l : ReportLine) → IsNearLine l → report_line_read text ≡ Some l → line_text l ≡ text ++ 10 ∷ []
unfolding report_line_read
line-spelt text l near e =
    let fields = from 32 text in
    by_letter text (codes "J") l _ _ (entry-is fields l)
    (by_letter text (codes "R") l _ _ (answer-is fields l near)
    (by_letter text (codes "L") l _ _ (latch-is fields l)
    (by_letter text (codes "E") l _ _ (event-is fields l)
    (by_letter text (codes "X") l _ _ (freed-is fields l)
    (by_letter text (codes "D") l _ _ (ended-is fields l) (stepped-is text l)))))) e
