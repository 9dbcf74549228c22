-- Each line that values fit is read back.
use Rattle.std.proofs.Common.{◌≡◌, ℕ, suc, ◌+◌, true, false, List, [], ◌∷◌, ◌++◌, length, Option, Some, None, refl, ap, ◌∙◌, arith}
use Rattle.std.specs.Prelude.{◌==◌, codes, option_map, ⊤}
use Rattle.std.specs.Fmt.{decimal}
use Rattle.std.specs.List.{list_all}
use Rattle.std.specs.Str.{bytes_eq}
use Rattle.std.proofs.lemmas.Bool.{and_from, and_right, eq-eqb}
use Rattle.std.proofs.lemmas.List.Folds.{list_all-append}
use Rattle.hex.specs.Hex.{encode_lower}
use Rattle.kms_model.specs.declared.objects.Kind.{Kind}
use Rattle.kms_model.specs.declared.replies.Event.{Event}
use Rattle.kms_model.specs.declared.replies.Reply.{Reply}
use Rattle.kms_model.specs.declared.replies.Step.{Step}
use Rattle.kms_model.specs.declared.replies.Step.TheVariants.{Begin, Lock, BackOff, Relock, Refuse, Test, Swap, Make, Signal, Claim, Write}
use Rattle.kms_model.specs.declared.replies.Step.TheVariants.{Flush, HwDone, Vblank, Cleanup, Read, Return, Stall}
use Rattle.kms_model.specs.declared.reports.End.{End}
use Rattle.kms_model.specs.declared.reports.End.TheVariants.{Drained, Stalled, Open}
use Rattle.kms_model.specs.declared.reports.ReportLine.{ReportLine}
use Rattle.kms_model.specs.declared.reports.ReportLine.TheVariants as says
use Rattle.kms_model.specs.Report.History.{named_object, step_words}
use Rattle.kms_model.specs.Report.Replies.{reply_words}
use Rattle.kms_model.specs.Report.ReportLines.{answer_read, client_event_read, digest_in, digest_word, end_read, ending_words, entry_read}
use Rattle.kms_model.specs.Report.ReportLines.{freed_read, latch_read, line_text, open_read, report_line_read}
use Rattle.kms_model.specs.Script.CommandLines.{label_alone}
use Rattle.kms_model.specs.Script.Grammar.{is_printable}
use Rattle.kms_model.specs.Script.Schedules.{IsFitIndex, IsFitNumber, IsFitStep, greatest_number}
use Rattle.kms_model.specs.Script.Words.{label_at}
use Rattle.kms_words.specs.Printed.{fields}
use Rattle.kms_words.proofs.Spaced.{line-fields}
use Rattle.kms_script.proofs.Cutting.{field_of, number_of}
use Rattle.kms_script.proofs.StepsRead.{line_is_read}
use Rattle.kms_read_back.specs.ReadBack.{IsFitEnd, IsFitEvent, IsFitLabel, IsFitReply, IsLong}
use Rattle.kms_read_back.proofs.Bodies.{ArePlain, AreSmall, IsWord, digest-back, digest-is_word, digest-length, fields-plain, label-word}
use Rattle.kms_read_back.proofs.Bodies.{number-word, object-word}
use Rattle.kms_read_back.proofs.RepliesBack.{number-plain, event-read, lone-read, reply-back, reply-plain}

-- Lines without their line feeds

abbrev pub letter_of : ReportLine → List ℕ
letter_of (says.Entry client command) = codes "J"
letter_of (says.Answer client command place answer) = codes "R"
letter_of (says.Latch crtc commit count digest) = codes "L"
letter_of (says.Event client event) = codes "E"
letter_of (says.Freed label id) = codes "X"
letter_of (says.Ended end) = codes "D"
letter_of (says.Stepped step) = codes "T"

abbrev pub words_of : ReportLine → List (List ℕ)
words_of (says.Entry client command) = decimal client ∷ decimal command ∷ []
words_of (says.Answer client command place answer) = decimal client ∷ decimal command ∷ decimal place ∷ reply_words answer
words_of (says.Latch crtc commit count digest) = decimal crtc ∷ decimal commit ∷ decimal count ∷ digest_word digest ∷ []
words_of (says.Event client event) = decimal client ∷ decimal event.user_data ∷ decimal event.sequence ∷ decimal event.crtc ∷ []
words_of (says.Freed label id) = label ∷ decimal id ∷ []
words_of (says.Ended end) = ending_words end
words_of (says.Stepped step) = step_words step

abbrev pub body_of : ReportLine → List ℕ
body_of l = letter_of l ++ fields (words_of l)

pub line-body : (l : ReportLine) → line_text l ≡ body_of l ++ 10 ∷ []
line-body (says.Entry client command) = line-fields (codes "J") (decimal client ∷ decimal command ∷ [])
line-body (says.Answer client command place answer) = line-fields (codes "R")
    (decimal client ∷ decimal command ∷ decimal place ∷ reply_words answer)
line-body (says.Latch crtc commit count digest) = line-fields (codes "L")
    (decimal crtc ∷ decimal commit ∷ decimal count ∷ digest_word digest ∷ [])
line-body (says.Event client event) =
    line-fields (codes "E") (decimal client ∷ decimal event.user_data ∷ decimal event.sequence ∷ decimal event.crtc ∷ [])
line-body (says.Freed label id) = line-fields (codes "X") (label ∷ decimal id ∷ [])
line-body (says.Ended end) = line-fields (codes "D") (ending_words end)
line-body (says.Stepped step) = line-fields (codes "T") (step_words step)

-- 32 bytes, or none
abbrev pub IsDigest : Option (List ℕ) → Type 0
IsDigest None = ⊤
IsDigest (Some digest) = (length digest ≡ 32) × AreSmall digest

-- the values of a line fit it
abbrev pub IsFitLine : ReportLine → Type 0
IsFitLine (says.Entry client command) = IsFitNumber client × IsFitNumber command
IsFitLine (says.Answer client command place answer) = IsFitNumber client × IsFitNumber command × IsFitNumber place × IsFitReply answer
IsFitLine (says.Latch crtc commit count digest) = IsFitNumber crtc × IsFitNumber commit × IsLong count × IsDigest digest
IsFitLine (says.Event client event) = IsFitNumber client × IsFitEvent event
IsFitLine (says.Freed label id) = IsFitLabel label × IsFitNumber id
IsFitLine (says.Ended end) = IsFitEnd end
IsFitLine (says.Stepped step) = IsFitStep step

-- Each byte can be printed

digest-plain : (d : Option (List ℕ)) → IsDigest d → list_all is_printable (digest_word d) ≡ true
digest-plain None fits = refl
digest-plain (Some digest) fits = (digest-is_word digest fits.1).plain

end-plain : (e : End) → IsFitEnd e → ArePlain (ending_words e)
end-plain Drained fits = (refl, tt)
end-plain (Stalled label) fits = (refl, ((label-word label fits).plain, tt))
end-plain (Open count) fits = (refl, ((number-word count fits).plain, tt))

object-plain : (kind : Kind) (index : ℕ) → IsFitIndex index → list_all is_printable (named_object kind index) ≡ true
object-plain kind index fits = (object-word kind index (omega (arith, fits))).plain

step-plain : (step : Step) → IsFitStep step → ArePlain (step_words step)
step-plain (Begin client) fits = (refl, (number-plain client fits, tt))
step-plain (Lock client kind index) fits = (refl, (number-plain client fits.0, (object-plain kind index fits.1, tt)))
step-plain (BackOff client) fits = (refl, (number-plain client fits, tt))
step-plain (Relock client) fits = (refl, (number-plain client fits, tt))
step-plain (Refuse client) fits = (refl, (number-plain client fits, tt))
step-plain (Test client) fits = (refl, (number-plain client fits, tt))
step-plain (Swap client) fits = (refl, (number-plain client fits, tt))
step-plain (Make client) fits = (refl, (number-plain client fits, tt))
step-plain (Signal client) fits = (refl, (number-plain client fits, tt))
step-plain (Claim commit) fits = (refl, (number-plain commit fits, tt))
step-plain (Write commit kind index) fits = (refl, (number-plain commit fits.0, (object-plain kind index fits.1, tt)))
step-plain (Flush commit kind index) fits = (refl, (number-plain commit fits.0, (object-plain kind index fits.1, tt)))
step-plain (HwDone commit) fits = (refl, (number-plain commit fits, tt))
step-plain (Vblank kind index) fits = (refl, (object-plain kind index fits, tt))
step-plain (Cleanup commit) fits = (refl, (number-plain commit fits, tt))
step-plain (Read client) fits = (refl, (number-plain client fits, tt))
step-plain (Return client) fits = (refl, (number-plain client fits, tt))
step-plain Stall fits = (refl, tt)

words-plain : (l : ReportLine) → IsFitLine l → ArePlain (words_of l)
words-plain (says.Entry client command) fits = (number-plain client fits.0, (number-plain command fits.1, tt))
words-plain (says.Answer client command place answer) fits =
    (number-plain client fits.0, (number-plain command fits.1, (number-plain place fits.2, reply-plain answer fits.3)))
words-plain (says.Latch crtc commit count digest) fits =
    (number-plain crtc fits.0, (number-plain commit fits.1, ((number-word count fits.2).plain, (digest-plain digest fits.3, tt))))
words-plain (says.Event client event) fits =
    let e = fits.1 in (
      number-plain client fits.0,
      (
        (number-word event.user_data e.user_data).plain,
        (number-plain event.sequence e.sequence, (number-plain event.crtc e.crtc, tt)),
      ),
    )
words-plain (says.Freed label id) fits = ((label-word label fits.0).plain, (number-plain id fits.1, tt))
words-plain (says.Ended end) fits = end-plain end fits
words-plain (says.Stepped step) fits = step-plain step fits

letter-plain : (l : ReportLine) → list_all is_printable (letter_of l) ≡ true
letter-plain (says.Stepped step) = refl
letter-plain l = refl

pub body-plain : (l : ReportLine) → IsFitLine l → list_all is_printable (body_of l) ≡ true
body-plain l fits =
    list_all-append is_printable (letter_of l) (fields (words_of l))
    ∙ and_from (list_all is_printable (letter_of l)) (list_all is_printable (fields (words_of l))) (letter-plain l)
    (fields-plain (words_of l) (words-plain l fits))

-- What is read

entry-back : (client command : ℕ) → IsFitNumber client → IsFitNumber command
    → entry_read (fields (decimal client ∷ decimal command ∷ [])) ≡ Some (says.Entry client command)
unfolding entry_read
entry-back client command a b = rw (number_of greatest_number client (decimal command ∷ []) (omega arith) a, lone-read command b) refl

answer-back : (client command place : ℕ) (r : Reply) → IsFitNumber client → IsFitNumber command → IsFitNumber place → IsFitReply r
    → answer_read (fields (decimal client ∷ decimal command ∷ decimal place ∷ reply_words r)) ≡ Some (says.Answer client command place r)
unfolding answer_read
answer-back client command place r a b c fits =
    rw (
      number_of greatest_number client (decimal command ∷ decimal place ∷ reply_words r) (omega arith) a,
      number_of greatest_number command (decimal place ∷ reply_words r) (omega arith) b,
      number_of greatest_number place (reply_words r) (omega arith) c,
      reply-back r fits,
    ) refl

digest-inner : (d : Option (List ℕ)) → IsDigest d → IsWord (digest_word d)
digest-inner None fits = record { inner = refl; plain = refl }
digest-inner (Some digest) fits = digest-is_word digest fits.1

-- 64 digits are not `off`
longer : (w v : List ℕ) → (length w ≡ length v → ⊥) → bytes_eq w v ≡ false
longer [] [] apart = absurd (apart refl)
longer [] (y ∷ v) apart = refl
longer (x ∷ w) [] apart = refl
longer (x ∷ w) (y ∷ v) apart = and_right (x == y) (bytes_eq w v) (longer w v (λ e. apart (ap suc e)))

digest-in : (d : Option (List ℕ)) → IsDigest d → digest_in (digest_word d) ≡ Some d
unfolding digest_in
digest-in None fits = refl
digest-in (Some digest) fits =
    let size = digest-length digest in
    let off : bytes_eq (encode_lower digest) (codes "off") ≡ false =
    longer (encode_lower digest) (codes "off") (λ e. absurd (let n = fits.0 in omega (arith, e, size, n))) in
    let long : (length (encode_lower digest) == 64) ≡ true =
    eq-eqb (length (encode_lower digest)) 64 (let n = fits.0 in omega (arith, size, n)) in
    rw (off, long, digest-back digest fits.1) refl

latch-back : (crtc commit count : ℕ) (d : Option (List ℕ)) → IsFitNumber crtc → IsFitNumber commit → IsLong count → IsDigest d
    → latch_read (fields (decimal crtc ∷ decimal commit ∷ decimal count ∷ digest_word d ∷ [])) ≡ Some (says.Latch crtc commit count d)
unfolding latch_read
latch-back crtc commit count d a b c fits =
    rw (
      number_of greatest_number crtc (decimal commit ∷ decimal count ∷ digest_word d ∷ []) (omega arith) a,
      number_of greatest_number commit (decimal count ∷ digest_word d ∷ []) (omega arith) b,
      number_of 18446744073709551615 count (digest_word d ∷ []) (omega arith) (omega (arith, c)),
      field_of (digest_word d) [] (digest-inner d fits).inner,
      digest-in d fits,
    ) refl

event-line-back : (client : ℕ) (e : Event) → IsFitNumber client → IsFitEvent e
    → client_event_read (fields (decimal client ∷ decimal e.user_data ∷ decimal e.sequence ∷ decimal e.crtc ∷ []))
    ≡ Some (says.Event client e)
unfolding client_event_read
event-line-back client e a fits =
    rw (
      number_of greatest_number client (decimal e.user_data ∷ decimal e.sequence ∷ decimal e.crtc ∷ [])
          (omega arith) a,
      event-read e fits,
    ) refl

freed-back : (label : List ℕ) (id : ℕ) → IsFitLabel label → IsFitNumber id
    → freed_read (fields (label ∷ decimal id ∷ [])) ≡ Some (says.Freed label id)
unfolding freed_read label_at
freed-back label id is fits = rw (field_of label (decimal id ∷ []) (label-word label is).inner, is, lone-read id fits) refl

alone-back : (label : List ℕ) → IsFitLabel label → label_alone (fields (label ∷ [])) ≡ Some label
unfolding label_alone label_at
alone-back label is = rw (field_of label [] (label-word label is).inner, is) refl

open-back : (count : ℕ) → IsLong count → open_read (fields (decimal count ∷ [])) ≡ Some (Open count)
unfolding open_read
open-back count fits = rw (number_of 18446744073709551615 count [] (omega arith) (omega (arith, fits))) refl

end-back : (e : End) → IsFitEnd e → end_read (fields (ending_words e)) ≡ Some e
unfolding end_read
end-back Drained fits = rw (field_of (codes "drained") [] refl) refl
end-back (Stalled label) fits = rw (field_of (codes "stalled") (label ∷ []) refl, alone-back label fits) refl
end-back (Open count) fits = rw (field_of (codes "open") (decimal count ∷ []) refl) (open-back count fits)

-- the letter of a D line, whose words are told by its end
ended-back : (e : End) → IsFitEnd e → report_line_read (codes "D" ++ fields (ending_words e)) ≡ Some (says.Ended e)
unfolding report_line_read
ended-back Drained fits = ap (option_map (λ e. says.Ended e)) (end-back Drained fits)
ended-back (Stalled label) fits = ap (option_map (λ e. says.Ended e)) (end-back (Stalled label) fits)
ended-back (Open count) fits = ap (option_map (λ e. says.Ended e)) (end-back (Open count) fits)

stepped-back : (step : Step) → IsFitStep step → report_line_read (codes "T" ++ fields (step_words step)) ≡ Some (says.Stepped step)
unfolding report_line_read
stepped-back step fits = ap (option_map (λ z. says.Stepped z)) (line_is_read step fits)

pub line-back : (l : ReportLine) → IsFitLine l → report_line_read (body_of l) ≡ Some l
unfolding report_line_read
line-back (says.Entry client command) fits = entry-back client command fits.0 fits.1
line-back (says.Answer client command place answer) fits = answer-back client command place answer fits.0 fits.1 fits.2 fits.3
line-back (says.Latch crtc commit count digest) fits = latch-back crtc commit count digest fits.0 fits.1 fits.2 fits.3
line-back (says.Event client event) fits = event-line-back client event fits.0 fits.1
line-back (says.Freed label id) fits = freed-back label id fits.0 fits.1
line-back (says.Ended end) fits = ended-back end fits
line-back (says.Stepped step) fits = stepped-back step fits
