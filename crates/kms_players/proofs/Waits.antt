-- Turns of a pass, one after the other.
use Rattle.std.proofs.Common.{◌≡◌, ℕ, List, [], ◌++◌, append-nil, refl, sym, ap, ◌∙◌, subst}
use Rattle.kms_model.specs.declared.replies.Step.{Step}
use Rattle.kms_model.specs.declared.scripts.Script.{Script}
use Rattle.kms_core.specs.Run.{Run}
use Rattle.kms_device.specs.declared.attempt.Attempt.{Attempt}
use Rattle.kms_device.specs.Attempts.{Went}
use Rattle.kms_device.specs.Turns.{DevicePass, DeviceTurn, IsOpen, MayBeFound, SharedDevice, run_seen}
use Rattle.kms_device.proofs.Went.{went_turn}
use Rattle.kms_players.specs.Players.{name_of_pass}
use Rattle.kms_players.specs.Took.{Reads}
use Rattle.kms_players.specs.UnderWay.{IsAtDevice, Knows}
use Rattle.kms_players.specs.declared.site.Standing.{Standing}

-- a turn tells what follows of what it found
pub turn_says : (script : Script) (says tells : Run → Type 0) (steps : List Step) (before after : DevicePass)
    → ((found : Run) → MayBeFound script before found → IsOpen (record found { steps = found.steps ++ steps }) → says found → tells found)
    → DeviceTurn script says steps before after → DeviceTurn script tells steps before after
turn_says script says tells steps before after f t =
    record { found = t.found; finds = t.finds; said = f t.found t.finds t.left t.said; now = t.now; left = t.left }

-- the pass is that of the same player
pub turn_name : (script : Script) (says : Run → Type 0) (steps : List Step) (before after : DevicePass)
    → DeviceTurn script says steps before after → name_of_pass after ≡ name_of_pass before
turn_name script says steps before after t = ap name_of_pass t.now

pub went_name : (steps : List Step) (before after : DevicePass) → Went steps before after → name_of_pass after ≡ name_of_pass before
went_name steps before after w = λ i. record { lock = w.lock i; rank = w.rank i }

-- where a turn made no step, the pass has seen what was found
pub seen-found : (script : Script) (says : Run → Type 0) (before after : DevicePass) → (t : DeviceTurn script says [] before after)
    → run_seen script after ≡ t.found
seen-found script says before after t =
    let steps : after.seen ≡ t.found.steps = ap (λ p. p.seen) t.now ∙ append-nil t.found.steps in
    λ i. record { script = sym t.finds.same i; steps = steps i }

pub went_none : (script : Script) (says : Run → Type 0) (before after : DevicePass) → DeviceTurn script says [] before after
    → Went [] before after
went_none script says before after t = went_turn script says [] before after refl t

-- a turn leaves whose pass it is
pub at_told : (device : SharedDevice) (client : ℕ) (before told : DevicePass) (says : Run → Type 0) {steps : List Step}
    → IsAtDevice device client before
    → DeviceTurn device.script says steps before told → IsAtDevice device client told
at_told device client before told says at t = record {
  own = ap (λ p. p.lock) t.now ∙ at.own;
  whose = ap (λ p. p.rank) t.now ∙ at.whose;
  low = at.low;
  high = at.high;
}

-- a look at the history's length leaves what the pass has seen, and so what a client keeps true of itself
pub look_keeps : (device : SharedDevice) (client : ℕ) (kept : Attempt) (standing : Standing) (old new : DevicePass) {told : ℕ}
    → Reads old new told
    → IsAtDevice device client old × Knows (run_seen device.script old) client kept standing
    → IsAtDevice device client new × Knows (run_seen device.script new) client kept standing
look_keeps device client kept standing old new r both =
    subst (λ p. IsAtDevice device client p × Knows (run_seen device.script p) client kept standing) (sym r.now)
    (record { own = both.0.own; whose = both.0.whose; low = both.0.low; high = both.0.high }, both.1)
