-- Numbers that the script has no client for: such a client is idle at its first command, after any steps.
use Rattle.std.proofs.Common.{◌≡◌, ℕ, true, List, ◌∷◌, Some, None, refl, sym, ap, ◌∙◌, subst, ⊎_elim}
use Rattle.std.proofs.lemmas.Bool.{cases_eq, false≢true}
use Rattle.kms_model.specs.declared.replies.Step.{Step}
use Rattle.kms_model.specs.declared.runs.Doing.{Doing}
use Rattle.kms_model.specs.declared.runs.Doing.TheVariants as doing
use Rattle.kms_model.specs.declared.runs.Place.{Place}
use Rattle.kms_model.specs.declared.scripts.Command.{Command}
use Rattle.kms_model.specs.declared.scripts.Script.{Script}
use Rattle.kms_model.specs.Device.Execution.{execute}
use Rattle.kms_model.specs.Device.Objects.{object_id}
use Rattle.kms_model.specs.Machine.Effects.{answers, goes_on, signals}
use Rattle.kms_model.specs.Machine.Histories.{at, is_history}
use Rattle.kms_model.specs.Machine.Registers.{read}
use Rattle.kms_model.specs.Machine.State.{Machine, command_at, doing_at, first_machine, place_at}
use Rattle.kms_model.specs.Machine.Steps.{contended, is_taking, must_back_off, returning_of}
use Rattle.kms_wwlock.specs.Standing.{first_place}
use Rattle.kms_model.proofs.Guards.{lock_guards}
use Rattle.kms_laws.proofs.Basics.{read_other}
use Rattle.kms_laws.proofs.EachStep.{Carries, by_bool, by_fence, by_two, each_step, made_as, swapped_as, tails_leave}
use Rattle.kms_laws.proofs.Steps.{along}
use Rattle.kms_core.specs.Next.{IsOutside}
use Rattle.kms_core.proofs.Places.{client_there}

abbrev AreOutside : Script → List (ℕ × Place) → Type 0
AreOutside s places = (client : ℕ) → IsOutside s client → read first_place places client ≡ first_place

-- another client moves
moved : (s : Script) (places : List (ℕ × Place)) (x : ℕ) (p : Place) → (IsOutside s x → ⊥) → AreOutside s places
    → AreOutside s ((x, p) ∷ places)
moved s places x p inside all client away =
    ⊎_elim (λ (same : x ≡ client). absurd (inside (subst (λ n. IsOutside s n) (sym same) away)))
    (λ apart. read_other first_place places x client p apart ∙ all client away) (cases_eq x client)

taking_busy : (d : Doing) → is_taking d ≡ true → d ≡ doing.Idle → ⊥
taking_busy d taking idle = false≢true (ap is_taking (sym idle) ∙ taking)

back_busy : (d : Doing) → must_back_off d ≡ true → d ≡ doing.Idle → ⊥
back_busy d back idle = false≢true (ap must_back_off (sym idle) ∙ back)

contended_busy : (d : Doing) (object : ℕ) → contended d ≡ Some object → d ≡ doing.Idle → ⊥
contended_busy d object asked idle = let none : None ≡ Some object = ap contended (sym idle) ∙ asked in cc

returning_busy : (d : Doing) (k : ℕ) → returning_of d ≡ Some k → d ≡ doing.Idle → ⊥
returning_busy d k asked idle = let none : None ≡ Some k = ap returning_of (sym idle) ∙ asked in cc

module _ (s : Script) (m : Machine) (all : AreOutside s m.contexts.places) where
  by_command : (client : ℕ) {c : Command} → command_at s m client ≡ Some c → (p : Place) → AreOutside s ((client, p) ∷ m.contexts.places)
  by_command client {c} is p = moved s m.contexts.places client p (λ away. away (client_there s m client c is)) all

  by_doing : (client : ℕ) → (doing_at m client ≡ doing.Idle → ⊥) → (p : Place) → AreOutside s ((client, p) ∷ m.contexts.places)
  by_doing client busy p = moved s m.contexts.places client p (λ away. busy (ap (λ (q : Place). q.doing) (all client away))) all

  carries_outside : Carries s m (λ step n. AreOutside s n.contexts.places)
  carries_outside = record {
    locks = record {
      begins = λ client c e atomic idle. by_command client e _;
      takes = λ client kind index is_there lock free. all;
      meets = λ client kind index holder is_there lock held. by_doing client
          (taking_busy _ (lock_guards s m client (object_id kind index) lock).reaching.taking) _;
      backs = λ client back. by_doing client (back_busy _ back) _;
      relocks = λ client object asked free. by_doing client (contended_busy _ object asked) _;
      returned = λ client k e clean. by_doing client (returning_busy _ k e) _;
    };
    answers = record {
      refuses = λ client r e taking may. by_command client e _;
      tests = λ client r e taking may. by_command client e _;
      swaps = λ client r e taking may b w eb ew.
          by_two (λ b w. AreOutside s (swapped_as s.topology b w m client r).contexts.places) (by_command client e _)
          (by_command client e _) (by_command client e _) (by_command client e _) b w;
      makes = λ client c e making idle b eb.
          by_bool (λ b. AreOutside s (made_as b m client (execute s.topology m.device.world client c)).contexts.places)
          (by_command client e _) (by_command client e _) b;
      signalled = λ client c e is_signal idle o.
          by_fence (λ o. AreOutside s (goes_on (signals (answers m client (execute s.topology m.device.world client c).reply) o)
          client).contexts.places) (by_command client e _) (λ fence. by_command client e _) o;
      read_none = λ client c e is_wait idle none. by_command client e _;
      read_one = λ client c e is_wait idle event events some. by_command client e _;
    };
    tails = tails_leave s m (λ step left. AreOutside s left.contexts.places) (λ step. all);
    stalled = λ h. all;
  }

pub outside : (s : Script) (h : List Step) → is_history s h ≡ true → (client : ℕ) → IsOutside s client → place_at (at s h) client
    ≡ first_place
unfolding read
outside s h is =
    along s (λ m. AreOutside s m.contexts.places)
    (λ m step all legal. each_step s m (λ step n. AreOutside s n.contexts.places) (carries_outside s m all) step legal) h
    (first_machine s.topology)
    (λ client away. refl) is
