-- The steps of a history name objects of the device, whose indices are small.
use Rattle.std.proofs.Common.{◌≡◌, ℕ, ◌<◌, ◌≤◌, true, List, [], ◌∷◌, Some, None, arith}
use Rattle.std.specs.List.{All}
use Rattle.std.proofs.lemmas.Bool.{and_parts, false≢true, ltb-true}
use Rattle.std.proofs.lemmas.List.Elements.{All-cons, All-nil}
use Rattle.kms_model.specs.declared.objects.Kind.{Kind}
use Rattle.kms_model.specs.declared.objects.Kind.TheVariants.{Crtc, Plane, Conn, Enc}
use Rattle.kms_model.specs.declared.objects.Topology.{Topology}
use Rattle.kms_model.specs.declared.replies.Step.{Step}
use Rattle.kms_model.specs.declared.replies.Step.TheVariants.{Lock, Write, Flush, Vblank, Stall}
use Rattle.kms_model.specs.declared.scripts.Script.{Script}
use Rattle.kms_model.specs.Device.Objects.{count_of, exists}
use Rattle.kms_model.specs.Device.Sound.{IsDevice}
use Rattle.kms_model.specs.Machine.Commits.{is_all_written, is_claimed}
use Rattle.kms_model.specs.Machine.Effects.{next}
use Rattle.kms_model.specs.Machine.Histories.{are_legal, is_history, legal}
use Rattle.kms_model.specs.Machine.State.{Machine, first_machine}
use Rattle.kms_model.specs.Machine.Steps.{is_crtc_of, is_lockable, may}
use Rattle.kms_model.proofs.TouchedLemmas.{few_objects, few_of}
use Rattle.kms_laws.proofs.Steps.{IsLegal, legal-cases}
use Rattle.kms_laws.proofs.Steps.IsLegal.{Ends, May}
use Rattle.kms_report.specs.Telling.{HasSmallIndex}

no_index : (n : ℕ) → None ≡ Some n → n ≤ 255
no_index n e = absurd cc

module _ (t : Topology) (device : IsDevice t) where
  -- the index of an object that there is
  small : (kind : Kind) (index : ℕ) → exists t kind index ≡ true → (n : ℕ) → Some index ≡ Some n → n ≤ 255
  small kind index there n e =
      let below : index < count_of t kind = ltb-true index (count_of t kind) there in
      let few = few_of t kind (few_objects t device) in
      let same : index ≡ n = cc in omega (arith, below, few, same)

  lockable-there : (kind : Kind) (index : ℕ) → is_lockable t kind index ≡ true → exists t kind index ≡ true
  lockable-there Crtc index h = h
  lockable-there Plane index h = h
  lockable-there Conn index h = h
  lockable-there Enc index h = absurd (false≢true h)

  crtc-there : (kind : Kind) (index : ℕ) → is_crtc_of t kind index ≡ true → exists t kind index ≡ true
  crtc-there Crtc index h = h
  crtc-there Plane index h = absurd (false≢true h)
  crtc-there Conn index h = absurd (false≢true h)
  crtc-there Enc index h = absurd (false≢true h)

module _ (s : Script) (device : IsDevice s.topology) (m : Machine) where
  may-small : (step : Step) → may s m step ≡ true → HasSmallIndex step
  unfolding may
  may-small (Lock client kind index) h = small s.topology device kind index
      (lockable-there s.topology device kind index (and_parts (is_lockable s.topology kind index) _ h).0)
  may-small (Write k kind index) h = small s.topology device kind index
      (and_parts (exists s.topology kind index) _ (and_parts (is_claimed m.device k) _ h).1).0
  may-small (Flush k kind index) h = small s.topology device kind index
      (and_parts (exists s.topology kind index) _ (and_parts (is_all_written s.topology m.device k) _ h).1).0
  may-small (Vblank kind index) h = small s.topology device kind index
      (crtc-there s.topology device kind index (and_parts (is_crtc_of s.topology kind index) _ h).0)
  may-small _ h = no_index

  legal-small : (step : Step) → legal s m step ≡ true → HasSmallIndex step
  legal-small step h = by_case step (legal-cases s m step h) where
    by_case : (step : Step) → IsLegal s m step → HasSmallIndex step
    by_case Stall Ends = no_index
    by_case step (May may_step) = may-small step may_step

steps-small : (s : Script) → IsDevice s.topology → (m : Machine) (steps : List Step) → are_legal s m steps ≡ true → All HasSmallIndex steps
unfolding are_legal
steps-small s device m [] h = All-nil HasSmallIndex
steps-small s device m (step ∷ steps) h =
    let both = and_parts (legal s m step) _ h in
    All-cons HasSmallIndex step steps (legal-small s device m step both.0) (steps-small s device (next s m step) steps both.1)

pub history-small : (s : Script) (h : List Step) → IsDevice s.topology → is_history s h ≡ true → All HasSmallIndex h
history-small s h device is = steps-small s device (first_machine s.topology) h is
