-- No history is both drained and dead.
use Rattle.std.proofs.Common.{◌≡◌, List, true, false, not, ◌&&◌, ◌||◌, refl, sym, ap, ◌∙◌, ⊎_elim}
use Rattle.std.proofs.lemmas.Bool.{false≢true}
use Rattle.kms_model.specs.declared.replies.Step.{Step}
use Rattle.kms_model.specs.declared.scripts.Script.{Script}
use Rattle.kms_model.specs.Machine.Histories.{at, is_dead, is_drained, is_enabled, is_history}
use Rattle.kms_model.specs.Machine.State.{Machine}
use Rattle.kms_model.specs.Script.WellFormed.{IsWellFormed}
use Rattle.kms_laws.proofs.Modes.{plain-from}
use Rattle.kms_laws.proofs.NeverStuck.{WasEnded, history_along}

-- whether a history is drained does not read whether it was ended
drained_ended : (s : Script) (m : Machine) → is_drained s (record m { stalled = true }) ≡ is_drained s m
unfolding is_drained
drained_ended s m = refl

going_alive : (s : Script) (m : Machine) → m.stalled ≡ false → is_drained s m ≡ true → is_dead s m ≡ false
unfolding is_dead
going_alive s m going drained = λ i. going i || (not (drained i) && not (is_enabled s m))

pub drained_alive : (s : Script) (h : List Step) → IsWellFormed s → is_history s h ≡ true → is_drained s (at s h) ≡ true
    → is_dead s (at s h) ≡ false
drained_alive s h formed is drained =
    ⊎_elim
    (λ going. going_alive s (at s h) going drained)
    (λ (w : WasEnded s (at s h)). absurd (false≢true
    (sym w.stuck.undrained ∙ sym (drained_ended s w.before) ∙ ap (is_drained s) (sym w.same) ∙ drained)))
    (history_along s h (plain-from s formed) is).end
