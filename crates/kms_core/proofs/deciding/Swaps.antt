-- What a swap leaves of a machine, part by part.
use Rattle.std.proofs.Common.{◌≡◌, ℕ, Bool, true, false, ◌∷◌, length, inl, inr, refl}
use Rattle.std.specs.Prelude.{if◌then◌else◌}
use Rattle.std.proofs.lemmas.Bool.{cases_Bool}
use Rattle.kms_model.specs.declared.replies.Reply.TheVariants as reply
use Rattle.kms_model.specs.declared.replies.Step.TheVariants as step
use Rattle.kms_model.specs.declared.scripts.Request.{Request}
use Rattle.kms_model.specs.declared.scripts.Script.{Script}
use Rattle.kms_model.specs.Device.Execution.{committed}
use Rattle.kms_model.specs.Machine.Effects.{next, swapped_state}
use Rattle.kms_model.specs.Machine.State.{Machine, entry_at, place_at, request_at}
use Rattle.kms_model.specs.Request.Flags.{is_nonblock, wants_event}
use Rattle.kms_wwlock.specs.InStep.{AreClientsOf, after_decision, after_swap}
use Rattle.kms_wwlock.specs.Standing.{Standing}
use Rattle.kms_signal.specs.StepLaws.{new_commit}
use Rattle.kms_core.specs.Calls.{answered}
use Rattle.std.specs.Prelude.{Some}

either_machine : (P : Machine → Type 0) (b : Bool) (x y : Machine) → P x → P y → P (if b then x else y)
either_machine P true x y one other = one
either_machine P false x y one other = other

-- the parts that stay, the world, and what is recorded
pub record SwapLeaves (s : Script) (old : Machine) (client : ℕ) (r : Request) (new : Machine) : Type 0 where
  pub world : new.device.world ≡ (committed s.topology old.device.world client r).world
  pub commits : new.device.commits ≡ new_commit old client r ∷ old.device.commits
  pub go : new.device.go ≡ old.device.go
  pub signalled : new.device.signalled ≡ old.device.signalled
  pub marks : new.device.marks ≡ old.device.marks
  pub latches : new.records.latches ≡ old.records.latches
  pub journal : new.records.journal ≡ entry_at old client ∷ old.records.journal
  pub replies : new.records.replies ≡ answered client (place_at old client).command (length old.records.journal)
      (reply.Commit (length old.device.commits)) ∷ old.records.replies
  pub stalled : new.stalled ≡ old.stalled

pub swap_leaves : (s : Script) (m : Machine) (client : ℕ) (r : Request) → request_at s m client ≡ Some r
    → SwapLeaves s m client r (next s m (step.Swap client))
unfolding next swapped_state
swap_leaves s m client r is =
    rw is (elim (cases_Bool (wants_event r.flags)) [
      | inl event ↦ rw event (
          either_machine (SwapLeaves s m client r) (is_nonblock r.flags) _ _
          (record {
            world = refl;
            commits = refl;
            go = refl;
            signalled = refl;
            marks = refl;
            latches = refl;
            journal = refl;
            replies = refl;
            stalled = refl;
          })
          (record {
            world = refl;
            commits = refl;
            go = refl;
            signalled = refl;
            marks = refl;
            latches = refl;
            journal = refl;
            replies = refl;
            stalled = refl;
          }))
      | inr none ↦ rw none (
          either_machine (SwapLeaves s m client r) (is_nonblock r.flags) _ _
          (record {
            world = refl;
            commits = refl;
            go = refl;
            signalled = refl;
            marks = refl;
            latches = refl;
            journal = refl;
            replies = refl;
            stalled = refl;
          })
          (record {
            world = refl;
            commits = refl;
            go = refl;
            signalled = refl;
            marks = refl;
            latches = refl;
            journal = refl;
            replies = refl;
            stalled = refl;
          }))
    ])

-- the client goes on, or waits for its commit
pub clients_swapped : (s : Script) (m : Machine) (client : ℕ) (r : Request) (clients : Standing) → request_at s m client ≡ Some r
    → (is_nonblock r.flags ≡ true → AreClientsOf (after_decision m client) clients)
    → (is_nonblock r.flags ≡ false → AreClientsOf (after_swap m client (length m.device.commits)) clients)
    → AreClientsOf (next s m (step.Swap client)).contexts clients
unfolding next swapped_state
clients_swapped s m client r clients is goes waits =
    rw is (elim (cases_Bool (wants_event r.flags)) [
      | inl event ↦ rw event (elim (cases_Bool (is_nonblock r.flags))
          [ inl nonblock ↦ rw nonblock (goes nonblock) | inr blocks ↦ rw blocks (waits blocks) ])
      | inr none ↦ rw none (elim (cases_Bool (is_nonblock r.flags))
          [ inl nonblock ↦ rw nonblock (goes nonblock) | inr blocks ↦ rw blocks (waits blocks) ])
    ])
