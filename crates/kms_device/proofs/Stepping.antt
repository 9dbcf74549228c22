-- What a turn leaves: the machine after it, and where the client of the pass stands.
use Rattle.std.proofs.Common.{◌≡◌, ℕ, List, [], ◌∷◌, ◌++◌, append-nil, append_assoc, true, None, sym, ap, ◌∙◌, subst}
use Rattle.kms_model.specs.declared.replies.Step.{Step}
use Rattle.kms_model.specs.declared.scripts.Script.{Script}
use Rattle.kms_model.specs.Device.Serial.{command_of}
use Rattle.kms_model.specs.Machine.Effects.{next}
use Rattle.kms_model.specs.Machine.Histories.{at, is_history, legal, run_steps}
use Rattle.kms_model.specs.Machine.State.{Machine, doing_at, first_machine, place_at, request_at, request_in}
use Rattle.kms_model.specs.Machine.Steps.{returning_of}
use Rattle.kms_core.specs.Run.{Run, machine}
use Rattle.kms_histlock.specs.Rules.{IsStart}
use Rattle.kms_device.specs.Attempts.{MayAttempt}
use Rattle.kms_device.specs.Turns.{DevicePass, IsOpen, DeviceTurn, run_seen}
use Rattle.kms_model.proofs.Guards.{legal_parts}
use Rattle.kms_device.proofs.Found.{place-found}
use Rattle.kms_device.proofs.Runs.{legal-behind, run-append}

-- a client that stands at the same command has the same request
pub request-same : (s : Script) (m m2 : Machine) (client : ℕ) → (place_at m2 client).command ≡ (place_at m client).command
    → request_at s m2 client ≡ request_at s m client
request-same s m m2 client same = ap (λ n. request_in (command_of s (record { client = client; command = n }))) same

-- a client that stands at its request still, and awake, may try again
pub may_again : (r r2 : Run) (client : ℕ) → r2.script ≡ r.script → (place_at (machine r2) client).command
    ≡ (place_at (machine r) client).command → returning_of (doing_at (machine r2) client) ≡ None
    → MayAttempt r client → MayAttempt r2 client
may_again r r2 client scripts same awake may = record {
  request = may.request;
  at = ap (λ s. request_at s (machine r2) client) scripts ∙ (request-same r.script (machine r) (machine r2) client same ∙ may.at);
  awake = awake;
}

pub start_refl : {A : Type 0} (xs : List A) → IsStart xs xs
start_refl xs = ([], sym (append-nil xs))

pub start_trans : {A : Type 0} (xs ys zs : List A) → IsStart xs ys → IsStart ys zs → IsStart xs zs
start_trans xs ys zs a b = (a.0 ++ b.0, b.1 ∙ (ap (λ us. us ++ b.0) a.1 ∙ append_assoc xs a.0 b.0))

module _ (script : Script) (says : Run → Type 0) (xs : List Step) (p q : DevicePass) (t : DeviceTurn script says xs p q) where
  pub seen-after : q.seen ≡ t.found.steps ++ xs
  seen-after = ap (λ (z : DevicePass). z.seen) t.now

  pub rank-after : q.rank ≡ p.rank
  rank-after = ap (λ (z : DevicePass). z.rank) t.now

  pub found-place : place_at (machine t.found) p.rank ≡ place_at (at script p.seen) p.rank
  found-place = place-found script p t.found t.finds

  -- the machine after the turn
  pub machine-after : machine (run_seen script q) ≡ run_steps script (machine t.found) xs
  machine-after =
      ap (at script) seen-after
      ∙ (run-append script (first_machine script.topology) t.found.steps xs ∙ ap (λ m. run_steps script m xs)
      (ap (λ s. at s t.found.steps) (sym t.finds.same)))

  pub open-after : IsOpen (run_seen script q)
  open-after = subst IsOpen (ap {B = Run} (λ s. record { script = s; steps = t.found.steps ++ xs }) t.finds.same ∙ ap {B = Run}
      (λ h. record { script = script; steps = h }) (sym seen-after)) t.left

-- a turn that added nothing
module _ (script : Script) (says : Run → Type 0) (p q : DevicePass) (t : DeviceTurn script says [] p q) where
  pub found-is : run_seen script q ≡ t.found
  found-is =
      ap {B = Run} (λ h. record { script = script; steps = h }) (seen-after script says [] p q t ∙ append-nil t.found.steps)
      ∙ ap {B = Run} (λ s. record { script = s; steps = t.found.steps }) (sym t.finds.same)

-- a turn that added one step
module _ (script : Script) (says : Run → Type 0) (x : Step) (p q : DevicePass) (t : DeviceTurn script says (x ∷ []) p q) where
  whole : is_history script (t.found.steps ++ x ∷ []) ≡ true
  whole = subst (λ s. is_history s (t.found.steps ++ x ∷ []) ≡ true) t.finds.same t.left.history

  pub legal-found : legal script (machine t.found) x ≡ true
  legal-found =
      subst (λ m. legal script m x ≡ true) (ap (λ s. at s t.found.steps) (sym t.finds.same))
      (legal_parts script _ x [] (legal-behind script (first_machine script.topology) t.found.steps (x ∷ []) whole)).first

  pub next-after : machine (run_seen script q) ≡ next script (machine t.found) x
  unfolding run_steps
  next-after = machine-after script says (x ∷ []) p q t
