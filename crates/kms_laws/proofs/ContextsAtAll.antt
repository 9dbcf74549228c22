-- What each history's contexts are.
use Rattle.std.proofs.Common.{◌≡◌, ℕ, ◌||◌, ◌==◌, List, true, Some, refl, ap}
use Rattle.std.proofs.lemmas.Bool.{eq-eqb, false≢true}
use Rattle.kms_model.specs.declared.replies.Step.{Step}
use Rattle.kms_model.specs.declared.runs.Doing.{Doing}
use Rattle.kms_model.specs.declared.runs.Doing.TheVariants as doing
use Rattle.kms_model.specs.declared.scripts.Script.{Script}
use Rattle.kms_model.specs.Machine.Commits.{has_number, lockable}
use Rattle.kms_model.specs.Machine.Histories.{at, is_history}
use Rattle.kms_model.specs.Machine.State.{doing_at, holder_at}
use Rattle.kms_model.specs.Machine.Steps.{is_taking, must_back_off, returning_of}
use Rattle.kms_model.proofs.Facts.{value-is}
use Rattle.kms_model.proofs.Items.{IsIn, list_any-has}
use Rattle.kms_laws.specs.Laws.{ContextsStand}
use Rattle.kms_laws.proofs.Contexts.{may_hold}
use Rattle.kms_laws.proofs.LockSteps.{contended-asked}
use Rattle.kms_laws.proofs.NeverStuck.{history_facts}
use Rattle.kms_laws.proofs.Steps.{IsPlainScript}

pub in-number : (xs : List ℕ) (o : ℕ) → IsIn o xs → has_number xs o ≡ true
in-number xs o is = list_any-has (λ m. m == o) xs o is (eq-eqb o o refl)

holder-is : (d : Doing) → may_hold d ≡ true → (is_taking d || must_back_off d) ≡ true
holder-is (doing.Taking ticket) h = refl
holder-is (doing.MustBackOff ticket object) h = refl
holder-is doing.Idle h = absurd (false≢true h)
holder-is (doing.BackedOff ticket object) h = absurd (false≢true h)
holder-is (doing.Returning k) h = absurd (false≢true h)

pub returning-is : (d : Doing) (k : ℕ) → returning_of d ≡ Some k → d ≡ doing.Returning k
returning-is (doing.Returning j) k e = (let same : j ≡ k = cc in ap doing.Returning same)
returning-is (doing.Taking ticket) k e = absurd cc
returning-is (doing.MustBackOff ticket object) k e = absurd cc
returning-is (doing.BackedOff ticket object) k e = absurd cc
returning-is doing.Idle k e = absurd cc

pub contexts-stand : (s : Script) (h : List Step) → IsPlainScript s → is_history s h ≡ true → ContextsStand s (at s h)
contexts-stand s h plain is =
    let m = at s h in
    let L = (history_facts s h plain is).locks in
    record {
      held = λ client object held. in-number (lockable s.topology) object
          (L.held_there object client (value-is client (holder_at m object) held));
      holders = λ client object held. holder-is (doing_at m client) (L.holders object client (value-is client (holder_at m object) held));
      taken_first = λ client object e. in-number (lockable s.topology) object
          (L.asked_there client object (contended-asked (doing_at m client) object e));
      tickets = λ a b ta tb e. L.unique a b ta tb e;
      commits = λ client k e. L.returning client k (returning-is (doing_at m client) k e);
    }
