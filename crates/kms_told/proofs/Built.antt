-- How the replies and the journal of a history came, step by step: each reply is the device's at the end of the journal so far, and
-- enters it where it is accepted.
use Rattle.std.proofs.Common.{◌≡◌, ℕ, suc, ◌+◌, ◌<◌, Bool, true, false, List, [], ◌∷◌, length, Option, Some, refl, sym, ap, ◌∙◌, subst}
use Rattle.std.proofs.Common.{arith, inl, inr, ◌⊎◌}
use Rattle.std.specs.Prelude.{reverse}
use Rattle.kms_model.specs.declared.replies.Answered.{Answered}
use Rattle.kms_model.specs.declared.replies.Reply.{Reply}
use Rattle.kms_model.specs.declared.replies.Reply.TheVariants as reply
use Rattle.kms_model.specs.declared.replies.Step.{Step}
use Rattle.kms_model.specs.declared.scripts.Command.{Command}
use Rattle.kms_model.specs.declared.scripts.Command.TheVariants as command
use Rattle.kms_model.specs.declared.scripts.Request.{Request}
use Rattle.kms_model.specs.declared.scripts.Script.{Script}
use Rattle.kms_model.specs.Device.Execution.{execute}
use Rattle.kms_model.specs.Device.Serial.{Entry, command_of, is_accepted}
use Rattle.kms_model.specs.Headline.{entry_answered}
use Rattle.kms_model.specs.Machine.Effects.{answers, goes_on, next, refusal_reply, signals}
use Rattle.kms_model.specs.Machine.Histories.{at, is_history, legal}
use Rattle.kms_model.specs.Machine.State.{Machine, command_at, doing_at, first_machine, place_at}
use Rattle.kms_model.specs.Machine.Steps.{is_making, is_signal, is_wait, may_swap}
use Rattle.kms_model.specs.Request.Verdict.{verdict}
use Rattle.kms_model.proofs.Guards.{making_guards, swap_guards}
use Rattle.kms_model.proofs.Items.{IsIn}
use Rattle.kms_laws.proofs.EachStep.{Carries, by_fence, by_two, each_step, locks_leave, made_as, swapped_as, tails_leave}
use Rattle.kms_laws.proofs.EventRoom.{HasRoom}
use Rattle.kms_laws.proofs.Fitting.{idle-busy, taking-busy}
use Rattle.kms_laws.proofs.SmallNumbers.{Counted, along_counted, first_counted, step_counted}
use Rattle.kms_laws.proofs.Sizes.{answered}
use Rattle.kms_laws.proofs.Steps.{Holds, IsPlainScript}
use Rattle.kms_told.proofs.Alone.{StandsAlone, committed-now, denied-alone, executed_after, refusal-alone, signal-alone, tested-alone}
use Rattle.kms_told.proofs.Alone.{wait-alone}
use Rattle.kms_told.proofs.JournalCommits.{HasCommits, first_commits, step_commits}
use Rattle.kms_told.proofs.Passed.{HasPassed, first_passed, step_passed}

-- a reply that enters a journal
pub record EntersAs (s : Script) (journal : List Entry) (client : ℕ) (r : Reply) (o : Option Command) : Type 0 where
  pub command : Command
  pub is_command : o ≡ Some command
  pub no_wait : is_wait command ≡ false
  pub no_signal : is_signal command ≡ false
  pub reply_is : r ≡ executed_after s journal client command
  pub accepted : is_accepted r ≡ true

-- each earlier reply to the same client is to an earlier command
abbrev pub IsNew : Answered → List Answered → Type 0
IsNew a earlier = (b : Answered) → IsIn b earlier → b.client ≡ a.client → b.command < a.command

-- the newest reply, and the newest entry, which it entered
pub record Entered (s : Script) (Rest : List Entry → Type 0) (a : Answered) (journal : List Entry) : Type 0 where
  pub before : List Entry
  pub is_newest : journal ≡ entry_answered a ∷ before
  pub place : a.place ≡ length before
  pub enters : EntersAs s (reverse before) a.client a.reply (command_of s (entry_answered a))
  pub rest : Rest before

-- the newest reply, which entered none
pub record Passed (s : Script) (Rest : List Entry → Type 0) (a : Answered) (journal : List Entry) : Type 0 where
  pub place : a.place ≡ length journal
  pub alone : StandsAlone s (reverse journal) a.client a.reply (command_of s (entry_answered a))
  pub rest : Rest journal

-- replies and the journal that came with them, each the newest first
abbrev pub Built : Script → List Answered → List Entry → Type 0
Built s [] journal = journal ≡ []
Built s (a ∷ earlier) journal = IsNew a earlier × (Entered s (λ j. Built s earlier j) a journal
    ⊎ Passed s (λ j. Built s earlier j) a journal)

abbrev pub HasBuilt : Script → Machine → Type 0
HasBuilt s m = Built s m.records.replies m.records.journal

-- a reply to the command at which a client stands
abbrev pub answer_now : Machine → ℕ → Reply → Answered
answer_now m client r = record { client = client; command = (place_at m client).command; place = length m.records.journal; reply = r }

module _ (s : Script) (m : Machine) (H : Holds s m) (C : HasCommits s m) (room : HasRoom m.events) (E : HasPassed m)
    (B : HasBuilt s m) where
  new-reply : (client : ℕ) (r : Reply) → answered (doing_at m client) ≡ 0
      → IsNew (answer_now m client r) m.records.replies
  new-reply client r none b is same =
      let past = subst (λ z. b.command < (place_at m z).command + answered (doing_at m z)) same (E.past b is) in
      omega (arith, past, none)

  stays : (client : ℕ) (r : Reply) (c : Command) → answered (doing_at m client) ≡ 0 → command_at s m client ≡ Some c
      → StandsAlone s (reverse m.records.journal) client r (Some c)
      → Built s (answer_now m client r ∷ m.records.replies)
      m.records.journal
  stays client r c none e alone = (
    new-reply client r none,
    inr (record { place = refl; alone = subst (StandsAlone s (reverse m.records.journal) client r) (sym e) alone; rest = B }),
  )

  enters : (client : ℕ) (r : Reply) (c : Command) → answered (doing_at m client) ≡ 0 → command_at s m client ≡ Some c → is_wait c ≡ false
      → is_signal c ≡ false → r ≡ (execute s.topology m.device.world client c).reply → is_accepted r ≡ true
      → Built s (answer_now m client r ∷ m.records.replies)
      (record { client = client; command = (place_at m client).command } ∷ m.records.journal)
  enters client r c none e wait signal same accepted = (
    new-reply client r none,
    inl (record {
      before = m.records.journal;
      is_newest = refl;
      place = refl;
      enters = record {
        command = c;
        is_command = e;
        no_wait = wait;
        no_signal = signal;
        reply_is = same ∙ ap (λ w. (execute s.topology w client c).reply) (sym H.present.is_serial);
        accepted = accepted;
      };
      rest = B;
    }),
  )

  makes_case : (client : ℕ) (c : Command) → command_at s m client ≡ Some c → is_making c ≡ true → answered (doing_at m client) ≡ 0
      → (b : Bool) → is_accepted (execute s.topology m.device.world client c).reply ≡ b
      → HasBuilt s (made_as b m client (execute s.topology m.device.world client c))
  makes_case client c e making none true eb =
      let g = making_guards c making in
      enters client (execute s.topology m.device.world client c).reply c none e g.no_wait g.no_signal refl eb
  makes_case client c e making none false eb =
      stays client (execute s.topology m.device.world client c).reply c none e
      (denied-alone s (reverse m.records.journal) client (execute s.topology m.device.world client c).reply c making
      (record { reply_is = ap (λ w. (execute s.topology w client c).reply) (sym H.present.is_serial); denied = eb }))

  swaps_case : (client : ℕ) (r : Request) → command_at s m client ≡ Some (command.Atomic r) → answered (doing_at m client) ≡ 0
      → may_swap s.topology m client r ≡ true
      → Built s (answer_now m client (reply.Commit (length m.device.commits)) ∷ m.records.replies)
      (record { client = client; command = (place_at m client).command } ∷ m.records.journal)
  swaps_case client r e none may =
      let found = swap_guards s.topology m client r may in
      enters client (reply.Commit (length m.device.commits)) (command.Atomic r) none e refl refl
      (ap (λ k. reply.Commit k) (sym H.present.count) ∙ committed-now s m client r found.accepted found.no_test) refl

  carries_built : Carries s m (λ step n. HasBuilt s n)
  carries_built = record {
    locks = locks_leave s m (λ step n. HasBuilt s n) (λ step contexts. B);
    answers = record {
      refuses = λ client r e taking may.
          stays client (refusal_reply s.topology m client r (verdict s.topology m.device.world r)) (command.Atomic r)
          (taking-busy (doing_at m client) taking).1 e
          (refusal-alone s m client r (reverse m.records.journal) H.present.is_serial C room may);
      tests = λ client r e taking may.
          stays client reply.Tested (command.Atomic r) (taking-busy (doing_at m client) taking).1 e
          (tested-alone s m client r (reverse m.records.journal) H.present.is_serial may);
      swaps = λ client r e taking may b w eb ew.
          let now = swaps_case client r e (taking-busy (doing_at m client) taking).1 may in
          by_two (λ b w. HasBuilt s (swapped_as s.topology b w m client r)) now now now now b w;
      makes = λ client c e making idle b eb. makes_case client c e making (idle-busy (doing_at m client) idle).1 b eb;
      signalled = λ client c e is idle o.
          let r = (execute s.topology m.device.world client c).reply in
          let now = stays client r c (idle-busy (doing_at m client) idle).1 e
          (signal-alone s (reverse m.records.journal) client r c is
          (ap (λ w. (execute s.topology w client c).reply) (sym H.present.is_serial))) in
          by_fence (λ o. HasBuilt s (goes_on (signals (answers m client (execute s.topology m.device.world client c).reply) o) client))
          now (λ fence. now) o;
      read_none = λ client c e is idle none.
          stays client reply.NoEvent c (idle-busy (doing_at m client) idle).1 e
          (wait-alone s (reverse m.records.journal) client reply.NoEvent c is refl);
      read_one = λ client c e is idle event events some.
          stays client (reply.Event event) c (idle-busy (doing_at m client) idle).1 e
          (wait-alone s (reverse m.records.journal) client (reply.Event event) c is refl);
    };
    tails = tails_leave s m (λ step left. Built s left.replies left.journal) (λ step. B);
    stalled = λ h. B;
  }

  pub step_built : (step : Step) → legal s m step ≡ true → HasBuilt s (next s m step)
  step_built step h = each_step s m (λ step n. HasBuilt s n) carries_built step h

-- Histories

-- what is known of each machine that a history reaches, with the number of steps
pub record Reached (s : Script) (n : ℕ) (m : Machine) : Type 0 where
  pub counted : Counted s n m
  pub commits : HasCommits s m
  pub passed : HasPassed m
  pub built : HasBuilt s m

first_reached : (s : Script) → IsPlainScript s → Reached s 0 (first_machine s.topology)
first_reached s plain = record {
  counted = first_counted s plain;
  commits = first_commits s;
  passed = first_passed s.topology;
  built = refl;
}

step_reached : (s : Script) → IsPlainScript s → (n : ℕ) (m : Machine) (step : Step) → Reached s n m → legal s m step ≡ true
    → Reached s (suc n) (next s m step)
step_reached s plain n m step R h = record {
  counted = step_counted s plain n m step R.counted h;
  commits = step_commits s m R.counted.facts.holds R.commits step h;
  passed = step_passed s m R.passed step h;
  built = step_built s m R.counted.facts.holds R.commits R.counted.room R.passed R.built step h;
}

pub reached : (s : Script) (h : List Step) → IsPlainScript s → is_history s h ≡ true → Reached s (length h) (at s h)
reached s h plain is = along_counted s (Reached s) (step_reached s plain) h 0 (length h) (first_machine s.topology) (omega arith)
    (first_reached s plain) is
