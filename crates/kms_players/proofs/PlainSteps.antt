-- The step of a client that is at no request: when it may be made, and what is found where it was made or was not.
use Rattle.std.proofs.Common.{◌≡◌, ℕ, zero, suc, List, [], ◌∷◌, ◌++◌, length, append-nil, Bool, true, false, Option, Some, None, refl, sym}
use Rattle.std.proofs.Common.{ap, ◌∙◌, arith}
use Rattle.std.specs.Prelude.{◌&&◌, ◌||◌, ◌==◌, not, nat_lt}
use Rattle.std.proofs.lemmas.Bool.{and_from, and_parts, false≢true}
use Rattle.std.proofs.lemmas.Bool.Decides.{nat_tests}
use Rattle.kms_model.specs.declared.replies.Event.{Event}
use Rattle.kms_model.specs.declared.replies.Step.{Step}
use Rattle.kms_model.specs.declared.replies.Step.TheVariants as step
use Rattle.kms_model.specs.declared.runs.Doing.{Doing}
use Rattle.kms_model.specs.declared.runs.Doing.TheVariants as doing
use Rattle.kms_model.specs.declared.scripts.Command.{Command}
use Rattle.kms_model.specs.declared.scripts.Command.TheVariants as command
use Rattle.kms_model.specs.declared.scripts.Script.{Script}
use Rattle.kms_model.specs.Machine.Histories.{are_legal, legal}
use Rattle.kms_model.specs.Machine.State.{Machine, command_at, doing_at, first_machine, request_in, reserved_at, unread_at}
use Rattle.kms_model.specs.Machine.Steps.{idle_at, is_idle, is_making, is_signal, is_wait, may, returning_of}
use Rattle.kms_core.specs.Calls.{MayMake, MayRead, MaySignal, MayReturn, idle_command_at, is_over_at, only_if, read_reply_at, read_reply}
use Rattle.kms_core.specs.Calls.{unless_ended}
use Rattle.kms_core.specs.Run.{Run, machine}
use Rattle.kms_core.proofs.Places.{idle_is}
use Rattle.kms_device.specs.Steps.{is_legal}
use Rattle.kms_device.specs.Turns.{DevicePass, IsOpen, MayBeFound, DeviceTurn, run_seen}
use Rattle.kms_device.proofs.Found.{going-found, may_read, may_return}
use Rattle.kms_device.proofs.Runs.{legal-behind, open-at}
use Rattle.kms_players.specs.PlayerTurns.{LacksStep, MakesStep, plain_step, step_of_command, step_of_place}

-- Where it may be made

only_if-some : (b : Bool) (o : Option Command) (c : Command) → only_if b o ≡ Some c → (b ≡ true) × (o ≡ Some c)
only_if-some true o c e = (refl, e)
only_if-some false o c e = absurd cc

idle_passes : (r : Run) (client : ℕ) (c : Command) (test : Command → Bool) → idle_command_at r client ≡ Some c → test c ≡ true
    → idle_at r.script (machine r) client test ≡ true
idle_passes r client c test e h =
    let both = only_if-some (is_idle (doing_at (machine r) client)) (command_at r.script (machine r) client) c e in
    and_from (is_idle (doing_at (machine r) client)) _ both.0 (rw both.1 h)

going : (r : Run) → IsOpen r → not (machine r).stalled ≡ true
going r is_open = ap not (open-at r.script r.steps is_open.history is_open.goes_on)

pub may_make_it : (r : Run) (client : ℕ) (c : Command) → IsOpen r → idle_command_at r client ≡ Some c → is_making c ≡ true
    → MayMake r client
unfolding legal may
may_make_it r client c is_open e h = and_from (not (machine r).stalled) _ (going r is_open) (idle_passes r client c is_making e h)

pub may_signal_it : (r : Run) (client : ℕ) (c : Command) → IsOpen r → idle_command_at r client ≡ Some c → is_signal c ≡ true
    → MaySignal r client
unfolding legal may
may_signal_it r client c is_open e h = and_from (not (machine r).stalled) _ (going r is_open) (idle_passes r client c is_signal e h)

pub may_read_it : (r : Run) (client : ℕ) (c : Command) → idle_command_at r client ≡ Some c → is_wait c ≡ true → MayRead r client
may_read_it r client c e h = idle_passes r client c is_wait e h

pub making_of : (c : Command) → request_in (Some c) ≡ None → ((label : ℕ) → c ≡ command.Signal label → ⊥) → (c ≡ command.Wait → ⊥)
    → is_making c ≡ true
making_of (command.Atomic r) none signals waits = absurd cc
making_of (command.Signal label) none signals waits = absurd (signals label refl)
making_of command.Wait none signals waits = absurd (waits refl)
making_of c none signals waits = refl

-- Where it comes next

comes_idle : (s : Script) (m : Machine) (client : ℕ) (test : Command → Bool) (next : Step)
    → ((c : Command) → test c ≡ true → step_of_command client c ≡ Some next) → idle_at s m client test ≡ true
    → step_of_place client (doing_at m client) (command_at s m client) ≡ Some next
comes_idle s m client test next told h = by_command (command_at s m client) refl where
  both : (is_idle (doing_at m client) ≡ true) × Bool
  both = ((and_parts (is_idle (doing_at m client)) _ h).0, true)

  by_command : (o : Option Command) → command_at s m client ≡ o → step_of_place client (doing_at m client) (command_at s m client)
      ≡ Some next
  by_command None is = (let g = rw is at (and_parts (is_idle (doing_at m client)) _ h).1 in absurd (false≢true g))
  by_command (Some c) is =
      let g : test c ≡ true = rw is at (and_parts (is_idle (doing_at m client)) _ h).1 in
      ap (λ d. step_of_place client d (command_at s m client)) (idle_is (doing_at m client) both.0)
      ∙ ap (step_of_place client doing.Idle) is ∙ told c g

making_step : (client : ℕ) (c : Command) → is_making c ≡ true → step_of_command client c ≡ Some (step.Make client)
making_step client (command.Atomic r) h = absurd (false≢true h)
making_step client (command.Signal l) h = absurd (false≢true h)
making_step client command.Wait h = absurd (false≢true h)
making_step client c h = refl

signal_step : (client : ℕ) (c : Command) → is_signal c ≡ true → step_of_command client c ≡ Some (step.Signal client)
signal_step client (command.Signal l) h = refl
signal_step client c h = absurd (false≢true h)

wait_step : (client : ℕ) (c : Command) → is_wait c ≡ true → step_of_command client c ≡ Some (step.Read client)
wait_step client command.Wait h = refl
wait_step client c h = absurd (false≢true h)

return_comes : (client : ℕ) (d : Doing) (o : Option Command) (k : ℕ) → returning_of d ≡ Some k → step_of_place client d o
    ≡ Some (step.Return client)
return_comes client (doing.Returning j) o k e = refl
return_comes client doing.Idle o k e = absurd cc
return_comes client (doing.Taking t) o k e = absurd cc
return_comes client (doing.MustBackOff t object) o k e = absurd cc
return_comes client (doing.BackedOff t object) o k e = absurd cc

-- What was made was legal

legal_there : (r : Run) (x : Step) → IsOpen (record r { steps = r.steps ++ x ∷ [] }) → is_legal r x ≡ true
unfolding are_legal
legal_there r x left = (and_parts (is_legal r x) true
    (legal-behind r.script (first_machine r.script.topology) r.steps (x ∷ []) left.history)).0

comes_make : (found : Run) (client : ℕ) → is_legal found (step.Make client) ≡ true → plain_step found client ≡ Some (step.Make client)
unfolding legal may
comes_make found client h = comes_idle found.script (machine found) client is_making (step.Make client) (making_step client)
    (and_parts (not (machine found).stalled) _ h).1

comes_signal : (found : Run) (client : ℕ) → is_legal found (step.Signal client) ≡ true → plain_step found client ≡ Some (step.Signal client)
unfolding legal may
comes_signal found client h = comes_idle found.script (machine found) client is_signal (step.Signal client) (signal_step client)
    (and_parts (not (machine found).stalled) _ h).1

module _ (script : Script) (says : Run → Type 0) (client : ℕ) (before after : DevicePass) where
  makes : (next : Step) → ((found : Run) → is_legal found next ≡ true → MayBeFound script before found → plain_step found client
      ≡ Some next)
      → DeviceTurn script says (next ∷ []) before after → MakesStep script client before after next
  makes next comes t =
      let legal_next = legal_there t.found next t.left in
      record { found = t.found; finds = t.finds; said = (comes t.found legal_next t.finds, legal_next); now = t.now; left = t.left }

  pub made_it : DeviceTurn script says (step.Make client ∷ []) before after → MakesStep script client before after (step.Make client)
  made_it t = makes (step.Make client) (λ found h finds. comes_make found client h) t

  pub signalled_it : DeviceTurn script says (step.Signal client ∷ []) before after
      → MakesStep script client before after (step.Signal client)
  signalled_it t = makes (step.Signal client) (λ found h finds. comes_signal found client h) t

  module _ (whose : before.rank ≡ client) where
    -- the client waits for an event, or for its commit, in what it found, as in what it had seen

    comes_read : MayRead (run_seen script before) client → (found : Run) → MayBeFound script before found → plain_step found client
        ≡ Some (step.Read client)
    comes_read h found finds = comes_idle found.script (machine found) client is_wait (step.Read client) (wait_step client)
        (may_read script before found finds client whose h)

    comes_return : MayReturn (run_seen script before) client → (found : Run) → MayBeFound script before found → plain_step found client
        ≡ Some (step.Return client)
    comes_return h found finds =
        let there = may_return script before found finds client whose h in
        return_comes client (doing_at (machine found) client) (command_at found.script (machine found) client) there.commit there.returning

    pub read_it : MayRead (run_seen script before) client → DeviceTurn script says (step.Read client ∷ []) before after
        → MakesStep script client before after (step.Read client)
    read_it h t = makes (step.Read client) (λ found is_legal finds. comes_read h found finds) t

    pub returned_it : MayReturn (run_seen script before) client → DeviceTurn script says (step.Return client ∷ []) before after
        → MakesStep script client before after (step.Return client)
    returned_it h t = makes (step.Return client) (λ found is_legal finds. comes_return h found finds) t

    lacks : (next : Step) (n : ℕ) → ((found : Run) → MayBeFound script before found → says found → (plain_step found client ≡ Some next)
        × (is_legal found next ≡ false))
        → n ≡ length after.seen → DeviceTurn script says [] before after → LacksStep script client n before after next
    lacks next n tells long t =
        let told = tells t.found t.finds t.said in
        let size : length after.seen ≡ length t.found.steps = ap length (ap (λ p. p.seen) t.now ∙ append-nil t.found.steps) in
        record { found = t.found; finds = t.finds; said = (told.0, told.1, sym (long ∙ size)); now = t.now; left = t.left }

-- what is not there yet is not legal

nothing_read : (ended : Bool) (xs : List Event) (n : ℕ) → ended ≡ false → unless_ended ended (read_reply xs n) ≡ None
    → (nat_lt 0 (length xs) || (n == 0)) ≡ false
nothing_read true xs n e h = absurd (false≢true (sym e))
nothing_read false [] zero e h = absurd cc
nothing_read false [] (suc n) e h = grind (arith, nat_tests)
nothing_read false (x ∷ xs) n e h = absurd cc

both_false : (a b x : Bool) → x ≡ false → (a && (b && x)) ≡ false
both_false true true x e = e
both_false true false x e = refl
both_false false b x e = refl

read_illegal : (r : Run) (client : ℕ) → (machine r).stalled ≡ false → read_reply_at r client ≡ None → is_legal r (step.Read client) ≡ false
unfolding legal may
read_illegal r client goes_on none =
    both_false (not (machine r).stalled) (idle_at r.script (machine r) client is_wait) _
    (nothing_read (machine r).stalled (unread_at (machine r).events client) (reserved_at (machine r).events client) goes_on none)

return_same : (r : Run) (client k : ℕ) → returning_of (doing_at (machine r) client) ≡ Some k → is_legal r (step.Return client)
    ≡ is_over_at r client
unfolding legal may
return_same r client k e = rw e refl

module _ (script : Script) (client n : ℕ) (before after : DevicePass) (whose : before.rank ≡ client) (long : n ≡ length after.seen) where
  pub unread_yet : MayRead (run_seen script before) client → DeviceTurn script (λ found. None ≡ read_reply_at found client) [] before after
      → LacksStep script client n before after (step.Read client)
  unread_yet h t =
      lacks script (λ found. None ≡ read_reply_at found client) client before after whose (step.Read client) n
      (λ found finds none. (
        comes_read script (λ found. None ≡ read_reply_at found client) client before after whose h found finds,
        read_illegal found client (going-found script before found finds) (sym none),
      )) long t

  pub kept_waiting : MayReturn (run_seen script before) client
      → DeviceTurn script (λ found. false ≡ is_over_at found client) [] before after
      → LacksStep script client n before after (step.Return client)
  kept_waiting h t =
      lacks script (λ found. false ≡ is_over_at found client) client before after whose (step.Return client) n
      (λ found finds none. (
        comes_return script (λ found. false ≡ is_over_at found client) client before after whose h found finds,
        (let there = may_return script before found finds client whose h
            in return_same found client there.commit there.returning ∙ sym none),
      )) long t
