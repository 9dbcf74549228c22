-- What is said of a step, of how many commits there are and of the counts of vblanks.
use Rattle.std.proofs.Common.{◌≡◌, ℕ, suc, ◌+◌, List, length, Bool, true, false, refl}
use Rattle.kms_model.specs.declared.objects.Kind.{Kind}
use Rattle.kms_model.specs.declared.replies.Step.{Step}
use Rattle.kms_model.specs.declared.replies.Step.TheVariants.{Begin, BackOff, Claim, Cleanup, Flush, HwDone, Lock, Make, Read, Refuse}
use Rattle.kms_model.specs.declared.replies.Step.TheVariants.{Relock, Return, Signal, Stall, Swap, Test, Vblank, Write}
use Rattle.kms_model.specs.declared.scripts.Script.{Script}
use Rattle.kms_model.specs.Device.Execution.{execute}
use Rattle.kms_model.specs.Device.Objects.{object_id}
use Rattle.kms_model.specs.Machine.Effects.{answers, counts_vblank, goes_on, signals}
use Rattle.kms_model.specs.Machine.State.{Machine, count_at}
use Rattle.kms_laws.specs.TailsLeft.{is_swap}
use Rattle.kms_laws.proofs.EachStep.{Carries, by_bool, by_fence, by_latch, by_two, latched_as, made_as, swapped_as}
use Rattle.kms_laws.proofs.Steps.{flushed_at}

abbrev pub is_vblank : Step → Bool
is_vblank (Vblank kind index) = true
is_vblank _ = false

-- it holds of each step where it holds of swaps, of vblanks and of steps that leave both as they are
module _ (s : Script) (m : Machine) (Q : Step → ℕ → List (ℕ × ℕ) → Type 0) where
  abbrev Told : Step → Machine → Type 0
  Told step m2 = Q step (length m2.device.commits) m2.device.counts

  pub counts_carried : ((step : Step) → is_swap step ≡ false → is_vblank step ≡ false → Told step m)
      → ((client : ℕ) → Q (Swap client) (suc (length m.device.commits)) m.device.counts)
      → ((kind : Kind) (index : ℕ) → Told (Vblank kind index) (counts_vblank m (object_id kind index))) → Carries s m Told
  counts_carried same swap blank = record {
    locks = record {
      begins = λ client c e atomic idle. same (Begin client) refl refl;
      takes = λ client kind index is_there lock free. same (Lock client kind index) refl refl;
      meets = λ client kind index holder is_there lock held. same (Lock client kind index) refl refl;
      backs = λ client back. same (BackOff client) refl refl;
      relocks = λ client object asked free. same (Relock client) refl refl;
      returned = λ client k e clean. same (Return client) refl refl;
    };
    answers = record {
      refuses = λ client r e taking may. same (Refuse client) refl refl;
      tests = λ client r e taking may. same (Test client) refl refl;
      swaps = λ client r e taking may b w eb ew. by_two (λ b w. Told (Swap client) (swapped_as s.topology b w m client r)) (swap client)
          (swap client) (swap client) (swap client) b w;
      makes = λ client c e making idle b eb. by_bool
          (λ b. Told (Make client) (made_as b m client (execute s.topology m.device.world client c))) (same (Make client) refl refl)
          (same (Make client) refl refl) b;
      signalled = λ client c e is_signal idle o.
          by_fence (λ o. Told (Signal client) (goes_on (signals (answers m client (execute s.topology m.device.world client c).reply) o)
          client)) (same (Signal client) refl refl) (λ fence. same (Signal client) refl refl) o;
      read_none = λ client c e is_wait idle none. same (Read client) refl refl;
      read_one = λ client c e is_wait idle event events some. same (Read client) refl refl;
    };
    tails = record {
      claimed = λ k h. same (Claim k) refl refl;
      written = λ k kind index found. same (Write k kind index) refl refl;
      waits = λ k kind index written found. same (Flush k kind index) refl refl;
      flushed = λ k kind index written found b o eb eo.
          let one = same (Flush k kind index) refl refl in
          by_latch (λ b o. Told (Flush k kind index) (latched_as s.topology b o (flushed_at m k (object_id kind index)) k
          (object_id kind index) (count_at m.device (object_id kind index)))) one (λ fence. one) one (λ fence. one) b o;
      done = λ k a b c d. same (HwDone k) refl refl;
      counted = λ kind index is none. blank kind index;
      blanked = λ kind index k is some b o eb eo.
          let one = blank kind index in
          by_latch (λ b o. Told (Vblank kind index) (latched_as s.topology b o (counts_vblank m (object_id kind index)) k
          (object_id kind index) (count_at m.device (object_id kind index) + 1))) one (λ fence. one) one (λ fence. one) b o;
      cleaned = λ k a b c. same (Cleanup k) refl refl;
    };
    stalled = λ h. same Stall refl refl;
  }
