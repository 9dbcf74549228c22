-- A commit of several attempts.
use Rattle.std.proofs.Common.{◌≡◌, ◌≢◌, ℕ, false, List, [], ◌∷◌, ◌++◌, refl, sym, ap, ◌∙◌, subst, inl, inr}
use Rattle.std.specs.Prelude.{IfSome}
use Rattle.kms_model.specs.declared.replies.Reply.{Reply}
use Rattle.kms_model.specs.declared.replies.Step.{Step}
use Rattle.kms_model.specs.declared.runs.Place.{Place}
use Rattle.kms_model.specs.declared.scripts.Script.{Script}
use Rattle.kms_model.specs.Machine.Steps.{returning_of}
use Rattle.kms_core.specs.Run.{machine}
use Rattle.kms_device.specs.declared.attempt.Attempt.{Attempt}
use Rattle.kms_device.specs.declared.attempt.Findings.{Findings}
use Rattle.kms_device.specs.declared.attempt.Attempted.{Attempted}
use Rattle.kms_device.specs.declared.attempt.Attempted.TheVariants as attempted
use Rattle.kms_device.specs.Attempts.{AnsweredBy, BrokenOff, Committed, GoesOnAt, IsAttempt, MayAttempt, IsLastReply, Serves, StandsAt}
use Rattle.kms_device.specs.Attempts.{StaysAt, Went, gives_reply, new_attempt}
use Rattle.kms_device.specs.Committing.{GoesOnWith}
use Rattle.kms_device.specs.Turns.{DevicePass, run_seen}
use Rattle.kms_device.proofs.Serving.{serves_new}
use Rattle.kms_device.proofs.Stepping.{may_again}
use Rattle.kms_device.proofs.Went.{went_before, went_both, went_not}

-- before the first attempt
pub made_none : (script : Script) (client : ℕ) (p : DevicePass) (work : Attempt) → work ≡ new_attempt
    → MayAttempt (run_seen script p) client
    → GoesOnWith script client p p work
made_none script client p work is_new may = subst (GoesOnWith script client p p) (sym is_new) (record {
  steps = [];
  went = went_not p;
  stays = record { may = may; command = refl };
  attempts = [];
  are_attempts = (refl, refl);
  serves = serves_new (run_seen script p) client;
  stands = tt;
})

module _ (script : Script) (client : ℕ) (p m q : DevicePass) (work : Attempt) (on : GoesOnWith script client p m work) where
  -- an attempt that made some steps, or none
  further : (xs : List Step) (did : Attempted) (keeps : Attempt) → Went xs m q → IsAttempt script client m work.kept q keeps.kept did
      → gives_reply did ≡ false → StaysAt (run_seen script m) (run_seen script q) client → Serves (run_seen script q) client keeps.kept
      → IfSome keeps.place (StandsAt (run_seen script q) client) → GoesOnWith script client p q keeps
  further xs did keeps went is silent stays serves stands = record {
    steps = on.steps ++ xs;
    went = went_both on.steps xs p m q on.went went;
    stays = record { may = stays.may; command = stays.command ∙ on.stays.command };
    attempts = record { pass = m; kept = work.kept; did = did } ∷ on.attempts;
    are_attempts = (on.are_attempts, (is, silent));
    serves = serves;
    stands = stands;
  }

  -- an attempt that gave no reply
  pub made_more : (did : Attempted) (keeps : Attempt) → ((r : Reply) → did ≢ attempted.Answered r)
      → IsAttempt script client m work.kept q keeps.kept did → GoesOnAt (run_seen script m) (run_seen script q) client did
      → Serves (run_seen script q) client keeps.kept → IfSome keeps.place (StandsAt (run_seen script q) client)
      → GoesOnWith script client p q keeps
  made_more attempted.Did keeps other is stays serves stands = elim is [
    | inl stepped ↦ further (stepped.stepped.next ∷ []) attempted.Did keeps stepped.stepped.went (inl stepped) refl stays serves stands
    | inr none ↦ elim none [
      | inl took ↦ further [] attempted.Did keeps took.went (inr (inl took)) refl stays serves stands
      | inr looked ↦ further [] attempted.Did keeps looked.went (inr (inr looked)) refl stays serves stands
    ]
  ]
  made_more (attempted.NotYet n) keeps other is stays serves stands = further [] (attempted.NotYet n) keeps is.went is refl stays serves
      stands
  made_more (attempted.Answered r) keeps other is stays serves stands = absurd (other r refl)

  -- one that gave the reply
  pub made_all : (did : Attempted) (keeps : Findings) (r : Reply) → did ≡ attempted.Answered r
      → IsAttempt script client m work.kept q keeps did → Committed script client r p q
  made_all did keeps r is_reply is =
      let by = subst (IsAttempt script client m work.kept q keeps) is_reply is in record {
        steps = on.steps;
        last = by.stepped.next;
        went = went_both on.steps (by.stepped.next ∷ []) p m q on.went by.stepped.went;
        found = by.stepped.found;
        same = by.stepped.finds.same;
        left = by.stepped.left;
        stays = record {
          may = may_again (run_seen script m) by.stepped.found client by.stepped.finds.same
              (ap (λ (x : Place). x.command) by.stepped.finds.place)
              (ap (λ (x : Place). returning_of x.doing) by.stepped.finds.place ∙ on.stays.may.awake) on.stays.may;
          command = ap (λ (x : Place). x.command) by.stepped.finds.place ∙ on.stays.command;
        };
        records = subst (λ n. IsLastReply (machine (run_seen script q)) client n r) on.stays.command by.records;
        attempts = on.attempts;
        until = m;
        kept = work.kept;
        are_attempts = on.are_attempts;
        answers = subst (AnsweredBy script client r m q work.kept) by.anew by;
      }

  -- no memory
  pub broken : Went [] m q → StaysAt (run_seen script m) (run_seen script q) client → BrokenOff script client p q
  broken went stays = record {
    steps = on.steps;
    went = went_before on.steps p m q on.went went;
    again = record { may = stays.may; command = stays.command ∙ on.stays.command };
    attempts = on.attempts;
    until = m;
    kept = work.kept;
    are_attempts = on.are_attempts;
    last = went;
  }
