-- What a client's context holds stays, and so do the states of it, while others make steps.
use Rattle.std.proofs.Common.{◌≡◌, ◌≢◌, ℕ, ◌∷◌, true, Some, None, refl, sym, ap, ◌∙◌}
use Rattle.std.proofs.lemmas.Bool.{eq-eqb}
use Rattle.kms_model.specs.declared.replies.Step.{Step}
use Rattle.kms_model.specs.declared.scripts.Script.{Script}
use Rattle.kms_model.specs.declared.worlds.World.{World}
use Rattle.kms_model.specs.Device.Execution.{execute}
use Rattle.kms_model.specs.Device.Objects.{object_id}
use Rattle.kms_model.specs.Machine.Effects.{answers, dropped, goes_on, next, signals}
use Rattle.kms_model.specs.Machine.Histories.{legal}
use Rattle.kms_model.specs.Machine.Registers.{read}
use Rattle.kms_model.specs.Machine.State.{Machine, has_value, holder_at, holds}
use Rattle.kms_model.specs.Promises.{HasSameState, client_of_step}
use Rattle.kms_laws.proofs.Basics.{read_other}
use Rattle.kms_laws.proofs.Contexts.{dropped-keeps}
use Rattle.kms_laws.proofs.EachStep.{Carries, by_bool, by_fence, by_two, each_step, made_as, swapped_as, tails_leave}
use Rattle.kms_laws.proofs.HeldFrames.{held_same}
use Rattle.kms_laws.proofs.NeverStuck.{Along, step_along}
use Rattle.kms_laws.proofs.Steps.{IsPlainScript}

module _ (s : Script) (m : Machine) (client object : ℕ) (held : holder_at m object ≡ Some client) where
  abbrev Held : Machine → Type 0
  Held m2 = holder_at m2 object ≡ Some client

  abbrev Others : ℕ → Type 0
  Others c = Some c ≢ Some client

  -- an object that is free is another one
  takes : (c o : ℕ) → holder_at m o ≡ None → holder_at
      (record m { contexts = record m.contexts { locks = (o, Some c) ∷ m.contexts.locks } }) object ≡ Some client
  takes c o free =
      read_other None m.contexts.locks o object (Some c)
      (λ e. (let both : Some client ≡ None = sym held ∙ (ap (holder_at m) (sym e) ∙ free) in absurd cc)) ∙ held

  drops : (c : ℕ) → Others c → holder_at (record m { contexts = record m.contexts { locks = dropped c m.contexts.locks } }) object
      ≡ Some client
  drops c others = dropped-keeps c m.contexts.locks object client (λ e. others (ap Some e)) held

  carries_held : Carries s m (λ step m2. client_of_step step ≢ Some client → Held m2)
  carries_held = record {
    locks = record {
      begins = λ c command e atomic idle others. held;
      takes = λ c kind index is_there lock free others. takes c (object_id kind index) free;
      meets = λ c kind index holder is_there lock taken others. held;
      backs = λ c back others. drops c others;
      relocks = λ c o asked free others. takes c o free;
      returned = λ c k e clean others. held;
    };
    answers = record {
      refuses = λ c r e taking may others. drops c others;
      tests = λ c r e taking may others. drops c others;
      swaps = λ c r e taking may b w eb ew others.
          by_two (λ b w. Held (swapped_as s.topology b w m c r)) (drops c others) (drops c others) (drops c others) (drops c others) b w;
      makes = λ c command e making idle b eb others.
          by_bool (λ b. Held (made_as b m c (execute s.topology m.device.world c command))) held held b;
      signalled = λ c command e is_signal idle o others.
          by_fence (λ o. Held (goes_on (signals (answers m c (execute s.topology m.device.world c command).reply) o) c)) held
          (λ fence. held) o;
      read_none = λ c command e is_wait idle none others. held;
      read_one = λ c command e is_wait idle event events some others. held;
    };
    tails = tails_leave s m (λ step left. client_of_step step ≢ Some client → read None left.contexts.locks object ≡ Some client)
        (λ step others. held);
    stalled = λ h others. held;
  }

  pub same_holder : (step : Step) → legal s m step ≡ true → client_of_step step ≢ Some client → holder_at (next s m step) object
      ≡ Some client
  same_holder step h others = each_step s m (λ step m2. client_of_step step ≢ Some client → Held m2) carries_held step h others

-- a client holds an object still, which has the state that it had in a world
pub record Keeps (s : Script) (w : World) (client object : ℕ) (m : Machine) : Type 0 where
  pub along : Along s m
  pub held : holder_at m object ≡ Some client
  pub same : HasSameState s.topology w m.device.world object

pub keeps_step : (s : Script) (w : World) (client object : ℕ) (m : Machine) (x : Step) → IsPlainScript s → legal s m x ≡ true
    → client_of_step x ≢ Some client → Keeps s w client object m → Keeps s w client object (next s m x)
keeps_step s w client object m x plain h others k =
    let step = held_same s m plain k.along.facts.holds k.along.facts.locks client object
    (ap (has_value client) k.held ∙ eq-eqb client client refl) x others h in
    record {
      along = step_along s m x plain k.along h;
      held = same_holder s m client object k.held x h others;
      same = record {
        plane = λ e. step.plane e ∙ k.same.plane e;
        connector = λ e. step.connector e ∙ k.same.connector e;
        crtc = λ e. step.crtc e ∙ k.same.crtc e;
      };
    }

pub holds-is : (m : Machine) (client object : ℕ) → holder_at m object ≡ Some client → holds m client object ≡ true
holds-is m client object e = ap (has_value client) e ∙ eq-eqb client client refl
