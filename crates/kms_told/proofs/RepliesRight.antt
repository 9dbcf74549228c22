-- A reply that stands right in the journal is right in each report that tells the journal.
use Rattle.std.proofs.Common.{◌≡◌, ℕ, ◌<◌, Bool, true, false, length, take, Option, Some, None, refl, sym, ap, ◌∙◌, arith, ⊎_elim}
use Rattle.std.specs.Prelude.{◌&&◌, ◌==◌, is_some, nat_le, nat_lt, not, if◌then◌else◌}
use Rattle.std.specs.Option.{option_map_or}
use Rattle.std.proofs.lemmas.Bool.{and_from, cond-false, eq-eqb, false≢true, le-leb, lt-ltb, or_left, or_right}
use Rattle.kms_model.specs.declared.replies.Answered.{Answered}
use Rattle.kms_model.specs.declared.replies.Reply.{Reply}
use Rattle.kms_model.specs.declared.replies.Reply.TheVariants as reply
use Rattle.kms_model.specs.declared.reports.Report.{Report}
use Rattle.kms_model.specs.declared.scripts.Command.{Command}
use Rattle.kms_model.specs.declared.scripts.Command.TheVariants as command
use Rattle.kms_model.specs.declared.scripts.Script.{Script}
use Rattle.kms_model.specs.Device.Execution.{execute}
use Rattle.kms_model.specs.Device.Serial.{command_of, is_accepted}
use Rattle.kms_model.specs.Headline.{entry_answered}
use Rattle.kms_model.specs.Machine.Steps.{is_signal, is_wait}
use Rattle.kms_model.specs.Report.RightAnswers.{entries_in, entry_place, has_place, is_devices_reply, is_refused_late_at, is_to_entry}
use Rattle.kms_model.specs.Report.RightAnswers.{reply_is_right, reply_is_right_to, same_reply, world_at}
use Rattle.kms_told.proofs.Alone.{IsDenied, StandsAlone}
use Rattle.kms_told.proofs.AnswersRight.{Rises, StandsRight, ToEntry, ToNone}
use Rattle.kms_told.proofs.Built.{EntersAs}
use Rattle.kms_told.proofs.Fits.{same-event}

pub same-reply : (r : Reply) → same_reply r r ≡ true
same-reply (reply.Made n) = eq-eqb n n refl
same-reply reply.Done = refl
same-reply (reply.Commit n) = eq-eqb n n refl
same-reply reply.Tested = refl
same-reply (reply.Refused n) = eq-eqb n.0 n.0 refl
same-reply (reply.Space n) = eq-eqb n n refl
same-reply (reply.Busy a n) = and_from (a.0 == a.0) (n == n) (eq-eqb a.0 a.0 refl) (eq-eqb n n refl)
same-reply (reply.Denied n) = eq-eqb n n refl
same-reply (reply.Event e) = same-event e
same-reply reply.NoEvent = refl

module _ (s : Script) (r : Report) (a : Answered) where
  abbrev executed : Command → Reply
  executed c = (execute s.topology (world_at s r a.place) a.client c).reply

  same-executed : (c : Command) → a.reply ≡ executed c → same_reply a.reply (executed c) ≡ true
  same-executed c e = ap (same_reply a.reply) (sym e) ∙ same-reply a.reply

  -- a reply to an entry
  device-right : (c : Command) → is_wait c ≡ false → is_signal c ≡ false → is_devices_reply s r a c ≡ true
      → reply_is_right_to s r a (Some c) ≡ true
  device-right (command.Signal label) wait signal d = absurd (false≢true (sym signal))
  device-right (command.Atomic q) wait signal d =
      or_left (is_devices_reply s r a (command.Atomic q))
      (not (is_to_entry r a) && is_refused_late_at s (take a.place (entries_in r)) q a.reply) d
  device-right command.Wait wait signal d = absurd (false≢true (sym wait))
  device-right c wait signal d = d

  entered-right : is_to_entry r a ≡ true → EntersAs s (take a.place (entries_in r)) a.client a.reply (command_of s (entry_answered a))
      → reply_is_right_to s r a (command_of s (entry_answered a)) ≡ true
  entered-right to E =
      ap (reply_is_right_to s r a) E.is_command
      ∙ device-right E.command E.no_wait E.no_signal
      (and_from (same_reply a.reply (executed E.command)) _ (same-executed E.command E.reply_is)
      (or_left (is_to_entry r a) (not (is_accepted (executed E.command))) to))

  -- a reply to none
  denied-right : (c : Command) → IsDenied s (take a.place (entries_in r)) a.client a.reply c → is_devices_reply s r a c ≡ true
  denied-right c d =
      and_from (same_reply a.reply (executed c)) _ (same-executed c d.reply_is)
      (or_right (is_to_entry r a) (not (is_accepted (executed c))) (ap (λ z. not (is_accepted z)) (sym d.reply_is) ∙ ap not d.denied))

  alone-right : is_to_entry r a ≡ false → (o : Option Command) → StandsAlone s (take a.place (entries_in r)) a.client a.reply o
      → reply_is_right_to s r a o ≡ true
  alone-right to None never = absurd never
  alone-right to (Some command.Wait) told = told
  alone-right to (Some (command.Signal label)) e = same-executed (command.Signal label) e
  alone-right to (Some (command.Atomic q)) alone =
      ⊎_elim
      (λ (d : IsDenied s (take a.place (entries_in r)) a.client a.reply (command.Atomic q)).
      or_left (is_devices_reply s r a (command.Atomic q))
      (not (is_to_entry r a) && is_refused_late_at s (take a.place (entries_in r)) q a.reply) (denied-right (command.Atomic q) d))
      (λ late.
      or_right (is_devices_reply s r a (command.Atomic q))
      (not (is_to_entry r a) && is_refused_late_at s (take a.place (entries_in r)) q a.reply)
      (and_from (not (is_to_entry r a)) _ (ap not to) late))
      alone
  alone-right to (Some (command.Buffer label width height format pattern)) d =
      denied-right (command.Buffer label width height format pattern) d
  alone-right to (Some (command.AddFb label buffer)) d = denied-right (command.AddFb label buffer) d
  alone-right to (Some (command.Mode label m)) d = denied-right (command.Mode label m) d
  alone-right to (Some (command.Blob label bytes)) d = denied-right (command.Blob label bytes) d
  alone-right to (Some (command.Destroy label)) d = denied-right (command.Destroy label) d
  alone-right to (Some (command.CloseFb label)) d = denied-right (command.CloseFb label) d
  alone-right to (Some (command.Fence label)) d = denied-right (command.Fence label) d

  module _ (R : StandsRight s (entries_in r) a) where
    pub right-reply : reply_is_right s r a ≡ true
    unfolding reply_is_right
    right-reply =
        ⊎_elim
        (λ (x : ToEntry s (entries_in r) a). entered-right (ap is_some x.found) x.enters)
        (λ (x : ToNone s (entries_in r) a). alone-right (ap is_some x.found) (command_of s (entry_answered a)) x.alone)
        R.to

    pub right-place : has_place r a ≡ true
    right-place =
        and_from (nat_le a.place (length (entries_in r))) _ (le-leb a.place (length (entries_in r)) R.within)
        (⊎_elim
        (λ (x : ToEntry s (entries_in r) a).
        ap (λ o. option_map_or (λ place. a.place == place) o true) x.found ∙ eq-eqb a.place a.place refl)
        (λ (x : ToNone s (entries_in r) a). ap (λ o. option_map_or (λ place. a.place == place) o true) x.found)
        R.to)

-- places of two replies of a client
by_entry : (b : Bool) (m n : ℕ) → m < n → (if b then nat_lt m n else nat_le m n) ≡ true
by_entry true m n lt = lt-ltb m n lt
by_entry false m n lt = le-leb m n (omega (arith, lt))

pub right-rise : (r : Report) (b a : Answered) → Rises (entries_in r) b a
    → (if is_to_entry r b then nat_lt b.place a.place else nat_le b.place a.place) ≡ true
right-rise r b a R =
    ⊎_elim
    (λ (none : entry_place r b ≡ None).
    cond-false (is_to_entry r b) (nat_lt b.place a.place) (nat_le b.place a.place) (ap is_some none) ∙ le-leb b.place a.place R.least)
    (λ lt. by_entry (is_to_entry r b) b.place a.place lt)
    R.above
