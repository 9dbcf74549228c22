-- The commits of the machine are those of its journal's requests: each is set up by the step that enters it.
use Rattle.std.proofs.Common.{◌≡◌, true, false, List, [], ◌∷◌, ◌++◌, Some, None, refl, sym, ap, ◌∙◌, append_assoc, append-nil}
use Rattle.std.specs.Prelude.{reverse}
use Rattle.std.proofs.lemmas.Bool.{false≢true}
use Rattle.std.proofs.lemmas.List.{reverse-append}
use Rattle.kms_model.specs.declared.replies.Step.{Step}
use Rattle.kms_model.specs.declared.scripts.Command.{Command}
use Rattle.kms_model.specs.declared.scripts.Command.TheVariants as command
use Rattle.kms_model.specs.declared.scripts.Script.{Script}
use Rattle.kms_model.specs.declared.worlds.World.{World}
use Rattle.kms_model.specs.Device.Execution.{execute}
use Rattle.kms_model.specs.Device.Serial.{Entry, command_of, execute_in, serial, serial_from}
use Rattle.kms_model.specs.Device.World.{start}
use Rattle.kms_model.specs.Machine.Effects.{answers, goes_on, next, signals}
use Rattle.kms_model.specs.Machine.Histories.{at, is_history, legal}
use Rattle.kms_model.specs.Machine.State.{Commit, Machine, entry_at, first_machine, request_in}
use Rattle.kms_model.specs.Machine.Steps.{is_atomic}
use Rattle.kms_model.specs.Report.RightAnswers.{commit_of_request, commits_from, commits_of}
use Rattle.kms_laws.proofs.EachStep.{Carries, by_bool, by_fence, by_two, each_step, locks_leave, made_as, swapped_as, tails_leave}
use Rattle.kms_laws.proofs.Present.{reverse_more}
use Rattle.kms_laws.proofs.Steps.{Holds, IsPlainScript, along, first_kept, not_atomic, step_kept}

-- An entry more

pub commits-pushed : (s : Script) (w : World) (es : List Entry) (e : Entry)
    → commits_from s w (es ++ e ∷ []) ≡ commits_from s w es ++ commit_of_request (serial_from s w es) e (request_in (command_of s e))
unfolding commits_from serial_from
commits-pushed s w [] e = append-nil (commit_of_request w e (request_in (command_of s e)))
commits-pushed s w (x ∷ es) e =
    let v = execute_in s.topology w x.client (command_of s x) in
    let here = commit_of_request w x (request_in (command_of s x)) in
    ap (λ z. here ++ z) (commits-pushed s v es e)
    ∙ sym (append_assoc here (commits_from s v es) (commit_of_request (serial_from s v es) e (request_in (command_of s e))))

commits-more : (s : Script) (w : World) (journal : List Entry) (cs : List Commit) (e : Entry) (c : Command) → serial s (reverse journal) ≡ w
    → command_of s e ≡ Some c → commits_of s (reverse journal) ≡ cs
    → commits_of s (reverse (e ∷ journal)) ≡ reverse (commit_of_request w e (request_in (Some c))) ++ cs
commits-more s w journal cs e c is_serial is before =
    ap (commits_of s) (reverse_more e journal)
    ∙ ap reverse (commits-pushed s (start s.topology) (reverse journal) e)
    ∙ reverse-append (commits_from s (start s.topology) (reverse journal))
    (commit_of_request (serial s (reverse journal)) e (request_in (command_of s e)))
    ∙ (λ i. reverse (commit_of_request (is_serial i) e (request_in (is i))) ++ before i)

request-none : (c : Command) → is_atomic c ≡ false → request_in (Some c) ≡ None
request-none (command.Atomic r) other = absurd (false≢true (sym other))
request-none c other = refl

-- Steps

abbrev pub HasCommits : Script → Machine → Type 0
HasCommits s m = commits_of s (reverse m.records.journal) ≡ m.device.commits

module _ (s : Script) (m : Machine) (H : Holds s m) (p : HasCommits s m) where
  carries_commits : Carries s m (λ step n. HasCommits s n)
  carries_commits = record {
    locks = locks_leave s m (λ step n. HasCommits s n) (λ step contexts. p);
    answers = record {
      refuses = λ client r e taking may. p;
      tests = λ client r e taking may. p;
      swaps = λ client r e taking may b w eb ew.
          let now = commits-more s m.device.world m.records.journal m.device.commits (entry_at m client)
          (command.Atomic r) H.present.is_serial e p in
          by_two (λ b w. HasCommits s (swapped_as s.topology b w m client r)) now now now now b w;
      makes = λ client c e making idle b eb.
          let other = request-none c (not_atomic c making) in
          let now = commits-more s m.device.world m.records.journal m.device.commits (entry_at m client) c H.present.is_serial e p
          ∙ ap (λ o. reverse (commit_of_request m.device.world (entry_at m client) o) ++ m.device.commits) other in
          by_bool (λ b. HasCommits s (made_as b m client (execute s.topology m.device.world client c))) now p b;
      signalled = λ client c e is_signal idle o.
          by_fence (λ o. HasCommits s (goes_on (signals (answers m client (execute s.topology m.device.world client c).reply) o) client))
          p (λ fence. p) o;
      read_none = λ client c e is_wait idle none. p;
      read_one = λ client c e is_wait idle event events some. p;
    };
    tails = tails_leave s m (λ step left. commits_of s (reverse left.journal) ≡ left.commits) (λ step. p);
    stalled = λ h. p;
  }

  pub step_commits : (step : Step) → legal s m step ≡ true → HasCommits s (next s m step)
  step_commits step h = each_step s m (λ step n. HasCommits s n) carries_commits step h

pub first_commits : (s : Script) → HasCommits s (first_machine s.topology)
unfolding commits_from
first_commits s = refl

pub history_commits : (s : Script) (h : List Step) → IsPlainScript s → is_history s h ≡ true → HasCommits s (at s h)
history_commits s h plain is =
    (along s (λ m. Holds s m × HasCommits s m)
    (λ m step both legal_step. (step_kept s m step plain both.0 legal_step, step_commits s m both.0 both.1 step legal_step))
    h (first_machine s.topology) (first_kept s plain, first_commits s) is).1
