-- Replies that enter no journal: each is the device's at the end of the journal so far, or a late refusal, or tells of events.
use Rattle.std.proofs.Common.{◌≡◌, ℕ, ◌+◌, ◌*◌, ◌%◌, Bool, true, false, not, ◌&&◌, ◌==◌, List, length, Option, Some, None, refl, sym}
use Rattle.std.proofs.Common.{ap, ◌∙◌, subst, arith, inl, inr, ◌⊎◌}
use Rattle.std.specs.Prelude.{is_none, is_some, nat_le, if◌then◌else◌}
use Rattle.std.proofs.lemmas.Bool.{and_from, and_parts, cond-false, cond-true, eq-eqb, false≢true, le-leb}
use Rattle.std.proofs.lemmas.Nat.{mod-mul-add}
use Rattle.kms_model.specs.declared.replies.Reply.{Reply}
use Rattle.kms_model.specs.declared.replies.Reply.TheVariants as reply
use Rattle.kms_model.specs.declared.scripts.Command.{Command}
use Rattle.kms_model.specs.declared.scripts.Command.TheVariants as command
use Rattle.kms_model.specs.declared.scripts.Request.{Request}
use Rattle.kms_model.specs.declared.scripts.Script.{Script}
use Rattle.kms_model.specs.declared.worlds.World.{World}
use Rattle.kms_model.specs.Device.Execution.{Executed, answer, commit, committed, execute}
use Rattle.kms_model.specs.Device.Serial.{Entry, is_accepted, serial}
use Rattle.kms_model.specs.Machine.Commits.{has_number, lockable, previous}
use Rattle.kms_model.specs.Machine.Effects.{busy_reply, commit_numbered, refusal_reply}
use Rattle.kms_model.specs.Machine.State.{Commit, Machine, has_value, reserved_at, unread_at}
use Rattle.kms_model.specs.Machine.Steps.{first_pending, is_making, is_pending, is_signal, is_wait}
use Rattle.kms_model.specs.Machine.Steps.{lacks_space, may_refuse, may_test, space_used}
use Rattle.kms_model.specs.Report.RightAnswers.{commits_of, is_refused_late_at, is_told, last_touch, may_be_refused_late}
use Rattle.kms_model.specs.Request.Flags.{is_nonblock, is_test, wants_event}
use Rattle.kms_model.specs.Request.Touched.{touches}
use Rattle.kms_model.specs.Request.Verdict.{verdict}
use Rattle.kms_model.proofs.Guards.{IsRefusing, refuse_guards, test_guards}
use Rattle.kms_model.proofs.Guards.IsRefusing.{Busy, Early, Full, Late}
use Rattle.kms_model.proofs.Items.{list_any-has}
use Rattle.kms_model.proofs.SoundKept.{accepted-parts}
use Rattle.kms_model.proofs.ThingLemmas.{find-holds, find-in}
use Rattle.kms_laws.proofs.Basics.{both_bools}
use Rattle.kms_laws.proofs.EventRoom.{HasRoom}

-- the reply of the device of one thread to a command after a journal
abbrev pub executed_after : Script → List Entry → ℕ → Command → Reply
executed_after s journal client c = (execute s.topology (serial s journal) client c).reply

-- it is the reply, and not accepted
pub record IsDenied (s : Script) (journal : List Entry) (client : ℕ) (r : Reply) (c : Command) : Type 0 where
  pub reply_is : r ≡ executed_after s journal client c
  pub denied : is_accepted r ≡ false

-- a reply that enters no journal, after one
abbrev pub StandsAlone : Script → List Entry → ℕ → Reply → Option Command → Type 0
StandsAlone s journal client r None = ⊥
StandsAlone s journal client r (Some command.Wait) = is_told r ≡ true
StandsAlone s journal client r (Some (command.Signal label)) = r ≡ executed_after s journal client (command.Signal label)
StandsAlone s journal client r (Some (command.Atomic q)) = IsDenied s journal client r (command.Atomic q)
    ⊎ (is_refused_late_at s journal q r ≡ true)
StandsAlone s journal client r (Some c) = IsDenied s journal client r c

-- Commands that are no requests

pub denied-alone : (s : Script) (journal : List Entry) (client : ℕ) (r : Reply) (c : Command) → is_making c ≡ true
    → IsDenied s journal client r c
    → StandsAlone s journal client r (Some c)
denied-alone s journal client r (command.Signal label) making d = absurd (false≢true making)
denied-alone s journal client r (command.Atomic q) making d = absurd (false≢true making)
denied-alone s journal client r command.Wait making d = absurd (false≢true making)
denied-alone s journal client r c making d = d

pub signal-alone : (s : Script) (journal : List Entry) (client : ℕ) (r : Reply) (c : Command) → is_signal c ≡ true
    → r ≡ executed_after s journal client c
    → StandsAlone s journal client r (Some c)
signal-alone s journal client r (command.Signal label) is e = e
signal-alone s journal client r _ is e = absurd (false≢true is)

pub wait-alone : (s : Script) (journal : List Entry) (client : ℕ) (r : Reply) (c : Command) → is_wait c ≡ true → is_told r ≡ true
    → StandsAlone s journal client r (Some c)
wait-alone s journal client r command.Wait is told = told
wait-alone s journal client r _ is told = absurd (false≢true is)

-- Requests

multiple : (n : ℕ) → (32 * n % 32 == 0) ≡ true
multiple n = let e : 32 * n ≡ n * 32 + 0 = omega arith in eq-eqb (32 * n % 32) 0 (ap (λ k. k % 32) e ∙ mod-mul-add n 32 0 (omega arith))

module _ (s : Script) (m : Machine) (client : ℕ) (r : Request) where
  late-space : (journal : List Entry) → HasRoom m.events → lacks_space s.topology m client r ≡ true
      → may_be_refused_late s journal m.device.world r (reply.Space (space_used m.events client)) ≡ true
  unfolding lacks_space
  late-space journal room lacks =
      let two = and_parts (wants_event r.flags) _ lacks in
      let few = room client in
      and_from (wants_event r.flags) _ two.0
      (and_from (space_used m.events client % 32 == 0) _ (multiple (reserved_at m.events client + length (unread_at m.events client)))
      (and_from (nat_le (space_used m.events client) 4096) _ (le-leb (space_used m.events client) 4096 (omega (arith, few))) two.1))

  pending-some : (object : ℕ) → is_pending s.topology m object ≡ true
      → (k : ℕ) × (previous s.topology m.device.commits (length m.device.commits) object ≡ Some k)
  unfolding is_pending
  pending-some object h = go (previous s.topology m.device.commits (length m.device.commits) object) refl
    where
      go : (o : Option ℕ) → previous s.topology m.device.commits (length m.device.commits) object ≡ o
          → (k : ℕ) × (previous s.topology m.device.commits (length m.device.commits) object ≡ Some k)
      go None e = let g = rw e at h in absurd (false≢true g)
      go (Some k) e = (k, e)

  last-touch : (journal : List Entry) (object : ℕ) → commits_of s journal ≡ m.device.commits
      → last_touch s journal object ≡ previous s.topology m.device.commits (length m.device.commits) object
  unfolding last_touch
  last-touch journal object commits = ap (λ (z : List Commit). previous s.topology z (length z) object) commits

  late-busy : (journal : List Entry) (object : ℕ) → commits_of s journal ≡ m.device.commits → is_nonblock r.flags ≡ true
      → first_pending s.topology m r ≡ Some object
      → may_be_refused_late s journal m.device.world r (busy_reply s.topology m (Some object)) ≡ true
  unfolding first_pending
  late-busy journal object commits nonblock first =
      let test = λ (o : ℕ). touches s.topology m.device.world r o && is_pending s.topology m o in
      let two = and_parts (touches s.topology m.device.world r object) _ (find-holds test (lockable s.topology) object first) in
      let some = pending-some object two.1 in
      let number = ap commit_numbered some.1 in
      let k = commit_numbered (previous s.topology m.device.commits (length m.device.commits) object) in
      let touched : has_value k (last_touch s journal object) ≡ true =
      ap (has_value k) (last-touch journal object commits ∙ some.1) ∙ eq-eqb some.0 k (sym number) in
      and_from (is_nonblock r.flags) _ nonblock
      (and_from (has_number (lockable s.topology) object) _
      (list_any-has (λ n. n == object) (lockable s.topology) object (find-in test (lockable s.topology) object first)
      (eq-eqb object object refl))
      (and_from (touches s.topology m.device.world r object) _ two.0 touched))

  pub committed-now : verdict s.topology m.device.world r ≡ None → is_test r.flags ≡ false
      → reply.Commit m.device.world.commits ≡ (execute s.topology m.device.world client (command.Atomic r)).reply
  unfolding execute
  committed-now none no_test =
      sym (ap (λ o. (commit s.topology m.device.world client r o).reply) none
      ∙ ap (λ (e : Executed). e.reply)
      (cond-false (is_test r.flags) (answer m.device.world reply.Tested) (committed s.topology m.device.world client r) no_test))

  module _ (journal : List Entry) (is : serial s journal ≡ m.device.world) where
    late-at : (a : Reply) → verdict s.topology m.device.world r ≡ None → is_test r.flags ≡ false
        → may_be_refused_late s journal m.device.world r a ≡ true → is_refused_late_at s journal r a ≡ true
    late-at a none no_test may =
        subst (λ (v : World). (is_none (verdict s.topology v r) && (not (is_test r.flags) && may_be_refused_late s journal v r a)) ≡ true)
        (sym is)
        (and_from (is_none (verdict s.topology m.device.world r)) _ (ap is_none none)
        (and_from (not (is_test r.flags)) _ (ap not no_test) may))

    pub executed-now : (c : Command) → (execute s.topology m.device.world client c).reply ≡ executed_after s journal client c
    executed-now c = ap (λ (v : World). (execute s.topology v client c).reply) (sym is)

    refused-now : (n : ℕ) → verdict s.topology m.device.world r ≡ Some n
        → reply.Refused (record { 0 = n }) ≡ (execute s.topology m.device.world client (command.Atomic r)).reply
    unfolding execute
    refused-now n e = sym (ap (λ o. (commit s.topology m.device.world client r o).reply) e)

    tested-now : verdict s.topology m.device.world r ≡ None → is_test r.flags ≡ true
        → reply.Tested ≡ (execute s.topology m.device.world client (command.Atomic r)).reply
    unfolding execute
    tested-now none test =
        sym (ap (λ o. (commit s.topology m.device.world client r o).reply) none
        ∙ ap (λ (e : Executed). e.reply) (cond-true (is_test r.flags) (answer m.device.world reply.Tested)
        (committed s.topology m.device.world client r) test))

    pub refusal-alone : commits_of s journal ≡ m.device.commits → HasRoom m.events → may_refuse s.topology m client r ≡ true
        → StandsAlone s journal client (refusal_reply s.topology m client r (verdict s.topology m.device.world r)) (Some (command.Atomic r))
    refusal-alone commits room h = with_verdict (verdict s.topology m.device.world r) refl
      where
        busy : (o : Option ℕ) → first_pending s.topology m r ≡ o → is_some o ≡ true → is_nonblock r.flags ≡ true
            → may_be_refused_late s journal m.device.world r (busy_reply s.topology m o) ≡ true
        busy None e some nonblock = absurd (false≢true some)
        busy (Some object) e some nonblock = late-busy journal object commits nonblock e

        without : (b : Bool) → lacks_space s.topology m client r ≡ b → is_nonblock r.flags ≡ true → is_some (first_pending s.topology m r)
            ≡ true → may_be_refused_late s journal m.device.world r
            (if b then reply.Space (space_used m.events client) else busy_reply s.topology m (first_pending s.topology m r)) ≡ true
        without true space nonblock pending = late-space journal room space
        without false space nonblock pending = busy (first_pending s.topology m r) refl pending nonblock

        accepted : verdict s.topology m.device.world r ≡ None → IsRefusing s.topology m client r
            → StandsAlone s journal client (refusal_reply s.topology m client r None) (Some (command.Atomic r))
        accepted e (Early early) =
            absurd (both_bools _ early (ap is_some (accepted-parts s.topology m.device.world r e).first_none))
        accepted e (Late held late) =
            absurd (both_bools _ late (ap is_some (accepted-parts s.topology m.device.world r e).second_none))
        accepted e (Full held no_test full) = inr (late-at _ e no_test (rw full (late-space journal room full)))
        accepted e (Busy held no_test nonblock pending) =
            inr (late-at _ e no_test (without (lacks_space s.topology m client r) refl nonblock pending))

        with_verdict : (o : Option ℕ) → verdict s.topology m.device.world r ≡ o
            → StandsAlone s journal client (refusal_reply s.topology m client r o) (Some (command.Atomic r))
        with_verdict (Some n) e = inl (record { reply_is = refused-now n e ∙ executed-now (command.Atomic r); denied = refl })
        with_verdict None e = accepted e (refuse_guards s.topology m client r h)

    pub tested-alone : may_test s.topology m client r ≡ true → StandsAlone s journal client reply.Tested (Some (command.Atomic r))
    tested-alone h =
        let g = test_guards s.topology m client r h in
        inl (record { reply_is = tested-now g.accepted g.test ∙ executed-now (command.Atomic r); denied = refl })
