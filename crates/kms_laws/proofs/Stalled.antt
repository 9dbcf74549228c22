-- Nothing but the end of a dead history ends a history.
use Rattle.std.proofs.Common.{◌≡◌, true, refl, inl, inr, ◌⊎◌}
use Rattle.kms_model.specs.declared.replies.Step.{Step}
use Rattle.kms_model.specs.declared.replies.Step.TheVariants.{Swap, Make, Signal}
use Rattle.kms_model.specs.declared.replies.Step.TheVariants.{Stall}
use Rattle.kms_model.specs.declared.scripts.Script.{Script}
use Rattle.kms_model.specs.Device.Execution.{execute}
use Rattle.kms_model.specs.Machine.Effects.{answers, goes_on, next, signals}
use Rattle.kms_model.specs.Machine.Histories.{legal}
use Rattle.kms_model.specs.Machine.State.{Machine}
use Rattle.kms_laws.proofs.EachStep.{Carries, by_bool, by_fence, by_two, each_step, locks_leave, made_as, swapped_as, tails_leave}

-- a step is the end, or it leaves the end as it was
abbrev pub Ending : Machine → Step → Machine → Type 0
Ending m step m2 = (step ≡ Stall) ⊎ (m2.stalled ≡ m.stalled)

module _ (s : Script) (m : Machine) where
  carries_ending : Carries s m (Ending m)
  carries_ending = record {
    locks = locks_leave s m (Ending m) (λ step contexts. inr refl);
    answers = record {
      refuses = λ client r e taking may. inr refl;
      tests = λ client r e taking may. inr refl;
      swaps = λ client r e taking may b w eb ew. by_two (λ b w. Ending m (Swap client) (swapped_as s.topology b w m client r)) (inr refl)
          (inr refl) (inr refl) (inr refl) b w;
      makes = λ client c e making idle b eb. by_bool
          (λ b. Ending m (Make client) (made_as b m client (execute s.topology m.device.world client c))) (inr refl) (inr refl) b;
      signalled = λ client c e is_signal idle o. by_fence
          (λ o. Ending m (Signal client) (goes_on (signals (answers m client (execute s.topology m.device.world client c).reply) o) client))
          (inr refl) (λ fence. inr refl) o;
      read_none = λ client c e is_wait idle none. inr refl;
      read_one = λ client c e is_wait idle event events some. inr refl;
    };
    tails = tails_leave s m (λ step left. (step ≡ Stall) ⊎ (left.stalled ≡ m.stalled)) (λ step. inr refl);
    stalled = λ h. inl refl;
  }

  pub ending : (step : Step) → legal s m step ≡ true → Ending m step (next s m step)
  ending step h = each_step s m (Ending m) carries_ending step h
