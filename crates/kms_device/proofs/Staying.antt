-- What steps of others leave of a client.
use Rattle.std.proofs.Common.{◌≡◌, ◌≢◌, ℕ, ◌∷◌, true, Some, refl, ap}
use Rattle.kms_model.specs.declared.replies.Step.{Step}
use Rattle.kms_model.specs.declared.runs.Place.{Place}
use Rattle.kms_model.specs.declared.scripts.Script.{Script}
use Rattle.kms_model.specs.Device.Execution.{execute}
use Rattle.kms_model.specs.Machine.Effects.{answers, goes_on, next, signals}
use Rattle.kms_model.specs.Machine.Histories.{legal}
use Rattle.kms_model.specs.Machine.Registers.{read}
use Rattle.kms_model.specs.Machine.State.{Machine, place_at}
use Rattle.kms_model.specs.Promises.{client_of_step}
use Rattle.kms_wwlock.specs.Standing.{first_place}
use Rattle.kms_laws.proofs.Basics.{read_other}
use Rattle.kms_laws.proofs.EachStep.{Carries, by_bool, by_fence, by_two, each_step, made_as, swapped_as, tails_leave}

module _ (s : Script) (m : Machine) (client : ℕ) where
  abbrev Same : Machine → Type 0
  Same m2 = place_at m2 client ≡ place_at m client

  abbrev Others : ℕ → Type 0
  Others c = Some c ≢ Some client

  moves : (c : ℕ) (place : Place) → Others c → place_at
      (record m { contexts = record m.contexts { places = (c, place) ∷ m.contexts.places } }) client ≡ place_at m client
  moves c place others = read_other _ m.contexts.places c client place (λ e. others (ap Some e))

  carries_place : Carries s m (λ step m2. client_of_step step ≢ Some client → Same m2)
  carries_place = record {
    locks = record {
      begins = λ c command e atomic idle others. moves c _ others;
      takes = λ c kind index is_there lock free others. refl;
      meets = λ c kind index holder is_there lock held others. moves c _ others;
      backs = λ c back others. moves c _ others;
      relocks = λ c object asked free others. moves c _ others;
      returned = λ c k e clean others. moves c _ others;
    };
    answers = record {
      refuses = λ c r e taking may others. moves c _ others;
      tests = λ c r e taking may others. moves c _ others;
      swaps = λ c r e taking may b w eb ew others.
          by_two (λ b w. Same (swapped_as s.topology b w m c r)) (moves c _ others) (moves c _ others) (moves c _ others) (moves c _ others)
          b w;
      makes = λ c command e making idle b eb others.
          by_bool (λ b. Same (made_as b m c (execute s.topology m.device.world c command))) (moves c _ others) (moves c _ others) b;
      signalled = λ c command e is_signal idle o others.
          by_fence (λ o. Same (goes_on (signals (answers m c (execute s.topology m.device.world c command).reply) o) c)) (moves c _ others)
          (λ fence. moves c _ others) o;
      read_none = λ c command e is_wait idle none others. moves c _ others;
      read_one = λ c command e is_wait idle event events some others. moves c _ others;
    };
    tails = tails_leave s m (λ step left. client_of_step step ≢ Some client → read first_place left.contexts.places client
        ≡ place_at m client) (λ step others. refl);
    stalled = λ h others. refl;
  }

  -- a client stays where it is while others make steps
  pub same_place : (step : Step) → legal s m step ≡ true → client_of_step step ≢ Some client → place_at (next s m step) client
      ≡ place_at m client
  same_place step h others = each_step s m (λ step m2. client_of_step step ≢ Some client → Same m2) carries_place step h others
