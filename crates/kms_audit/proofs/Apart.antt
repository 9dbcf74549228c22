-- The tests of R lines and of L lines, taken apart: what the lines alone tell, and what the device of one thread tells.
use Rattle.std.proofs.Common.{◌≡◌, ℕ, Bool, true, false, List, [], take, Option, Some, None, refl, sym, ap, ◌∙◌}
use Rattle.std.proofs.lemmas.Bool.{and_right}
use Rattle.std.specs.Prelude.{◌&&◌, ◌==◌, is_some, nat_le, nat_lt, length, slice_get, if◌then◌else◌}
use Rattle.std.specs.List.{last_or}
use Rattle.std.specs.Option.{option_map_or}
use Rattle.kms_audit.proofs.Firsts.{earliest-second, off-both, off-same, off-take}
use Rattle.kms_audit.specs.Sections.{client_before, comes_behind, earliest, has_command, is_pictured, is_placed, is_replied, may_follow}
use Rattle.kms_audit.specs.Sections.{rises, stands_in_order, tells_picture}
use Rattle.kms_model.specs.declared.objects.Kind.TheVariants.{Crtc}
use Rattle.kms_model.specs.declared.pictures.Picture.{Picture}
use Rattle.kms_model.specs.declared.pictures.Picture.TheVariants.{Off, On}
use Rattle.kms_model.specs.declared.replies.Answered.{Answered}
use Rattle.kms_model.specs.declared.reports.Report.{Report}
use Rattle.kms_model.specs.declared.scripts.Command.{Command}
use Rattle.kms_model.specs.declared.scripts.Script.{Script}
use Rattle.kms_model.specs.Device.Objects.{exists, object_id}
use Rattle.kms_model.specs.Device.Serial.{Pictured, command_of, show}
use Rattle.kms_model.specs.Headline.{entry_answered}
use Rattle.kms_model.specs.Report.Right.{LatchLine, is_not_below, last_count, latch_is_right, latches_in, lines_of_crtc, may_count}
use Rattle.kms_model.specs.Report.Right.{same_digest, tells_of}
use Rattle.kms_model.specs.Report.RightAnswers.{answer_is_right, entries_in, first_off, has_place, is_in_turn, may_come_behind}
use Rattle.kms_model.specs.Report.RightAnswers.{reply_is_right, reply_is_right_to}
use Rattle.kms_model.specs.Report.SeenReport.{digest_shown}

-- R lines

abbrev client_of : Option Answered → Option ℕ
client_of o = option_map_or (λ b. Some b.client) o None

-- the lines before the first that does not stand in its order
abbrev front_of : {A : Type 0} → Option ℕ → List A → List A
front_of cut xs = option_map_or (λ c. take c xs) cut xs

no_reply : (s : Script) (r : Report) (a : Answered) (o : Option Command) → is_some o ≡ false → reply_is_right_to s r a o ≡ false
no_reply s r a None e = refl
no_reply s r a (Some c) e = absurd cc

follows : (r : Report) (o : Option Answered) (a : Answered)
    → may_come_behind r o a ≡ may_follow r (client_of o) a.client
follows r None a = refl
follows r (Some b) a = refl

regroup : (turn place behind reply there : Bool) → (there ≡ false → reply ≡ false)
    → (turn && (place && (behind && reply))) ≡ ((turn && (place && there)) && (behind && reply))
regroup false place behind reply there e = refl
regroup true false behind reply there e = refl
regroup true true behind reply true e = refl
regroup true true behind reply false e = and_right behind reply (e refl)

answer-apart : (s : Script) (r : Report) (before : List Answered) (a : Answered)
    → answer_is_right s r before a ≡ (stands_in_order s r before a && (comes_behind r before a && is_replied s r before a))
unfolding answer_is_right reply_is_right
answer-apart s r before a =
    rw (follows r (last_or None before) a)
    (regroup (is_in_turn r (last_or None before) a) (has_place r a) (may_follow r (client_before before) a.client) (reply_is_right s r a)
    (has_command s a) (no_reply s r a (command_of s (entry_answered a))))

pub answers-apart : (s : Script) (r : Report) (lines : List Answered) → first_off (answer_is_right s r) [] lines
    ≡ earliest (first_off (stands_in_order s r) [] lines)
    (earliest (first_off (comes_behind r) [] lines) (first_off (is_replied s r) [] lines))
answers-apart s r lines =
    off-same (answer_is_right s r) (λ b a. stands_in_order s r b a && (comes_behind r b a && is_replied s r b a))
    (answer-apart s r) [] lines
    ∙ (off-both (stands_in_order s r) (λ b a. comes_behind r b a && is_replied s r b a) [] lines
    ∙ ap (earliest (first_off (stands_in_order s r) [] lines)) (off-both (comes_behind r) (is_replied s r) [] lines))

-- the first of them, where replies are compared only as far as lines stand in their order
module _ (s : Script) (r : Report) (lines : List Answered) where
  abbrev order : Option ℕ
  order = first_off (stands_in_order s r) [] lines

  abbrev behind : Option ℕ
  behind = first_off (comes_behind r) [] lines

  abbrev replied : List Answered → Option ℕ
  replied front = first_off (is_replied s r) [] front

  joined : (cut back : Option ℕ) → cut ≡ order → back ≡ behind → earliest cut (earliest back (replied lines)) ≡ first_off
      (answer_is_right s r) [] lines
  joined cut back e f =
      ap (λ o. earliest o (earliest back (replied lines))) e
      ∙ (ap (λ o. earliest order (earliest o (replied lines))) f ∙ sym (answers-apart s r lines))

  pub cut-apart : (cut back : Option ℕ) → cut ≡ order → back ≡ behind
      → earliest cut (earliest back (replied (front_of cut lines))) ≡ first_off (answer_is_right s r) [] lines
  cut-apart None back e f = joined None back e f
  cut-apart (Some c) back e f =
      earliest-second (Some c) back (replied (take c lines))
      ∙ (ap (earliest back) (sym (off-take (is_replied s r) [] lines c))
      ∙ (earliest-second back (Some c) (replied lines) ∙ joined (Some c) back e f))

-- L lines

-- a digest tells whether the CRTC is on, and so how its count may rise
counted : (digest : Option (List ℕ)) (p : Picture) (frame : List ℕ) (m n : ℕ) → same_digest digest (digest_shown p frame) ≡ true
    → may_count p m n ≡ (if is_some digest then nat_lt m n else nat_le m n)
counted None Off frame m n e = refl
counted (Some d) (On shown) frame m n e = refl
counted None (On shown) frame m n e = absurd cc
counted (Some d) Off frame m n e = absurd cc

pub and_true : (b : Bool) → (b && true) ≡ b
and_true true = refl
and_true false = refl

with_count : (commit digest may rise : Bool) → (digest ≡ true → may ≡ rise) → (commit && (digest && may)) ≡ (rise && (commit && digest))
with_count false digest may rise e = sym (and_right rise false refl)
with_count true false may rise e = sym (and_right rise false refl)
with_count true true may rise e = e refl ∙ sym (and_true rise)

told-apart : (l : LatchLine) (before : List LatchLine) (o : Option Pictured)
    → tells_of l before o ≡ (rises (last_count before) l && tells_picture l o)
told-apart l before None = sym (and_right (rises (last_count before) l) false refl)
told-apart l before (Some p) =
    with_count (l.commit == p.commit) (same_digest l.digest (digest_shown p.picture p.frame))
    (may_count p.picture (last_count before) l.count)
    (rises (last_count before) l) (counted l.digest p.picture p.frame (last_count before) l.count)

placed : (there above told rise pictured : Bool) → told ≡ (rise && pictured)
    → (there && (above && told)) ≡ ((there && (above && rise)) && (if there then pictured else true))
placed false above told rise pictured e = refl
placed true false told rise pictured e = refl
placed true true told rise pictured e = e

latch-apart : (s : Script) (r : Report) (before : List LatchLine) (l : LatchLine)
    → latch_is_right s r before l ≡ (is_placed s.topology before l && is_pictured s r before l)
unfolding latch_is_right
latch-apart s r before l =
    let own = lines_of_crtc l.crtc before in
    let shown = slice_get (show s (entries_in r) (object_id Crtc l.crtc)) (length own) in
    placed (exists s.topology Crtc l.crtc) (is_not_below (λ other. other.crtc) before l) (tells_of l own shown) (rises (last_count own) l)
    (tells_picture l shown) (told-apart l own shown)

pub latches-apart : (s : Script) (r : Report) → first_off (latch_is_right s r) [] (latches_in r)
    ≡ earliest (first_off (is_placed s.topology) [] (latches_in r)) (first_off (is_pictured s r) [] (latches_in r))
latches-apart s r =
    off-same (latch_is_right s r) (λ b l. is_placed s.topology b l && is_pictured s r b l) (latch-apart s r) [] (latches_in r)
    ∙ off-both (is_placed s.topology) (is_pictured s r) [] (latches_in r)
