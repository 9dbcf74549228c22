-- A commit behind others: which commit has a number, and what it touches, concerns and waits for.
use Rattle.std.proofs.Common.{◌≡◌, ℕ, ◌<◌, List, ◌∷◌, length, false, None, refl, arith}
use Rattle.std.specs.Prelude.{◌==◌}
use Rattle.std.proofs.lemmas.Bool.{eq-eqb, ne_eqb}
use Rattle.kms_model.specs.declared.objects.Topology.{Topology}
use Rattle.kms_model.specs.declared.runs.Doing.{Doing}
use Rattle.kms_model.specs.declared.runs.Doing.TheVariants as doing
use Rattle.kms_model.specs.Device.Objects.{kind_of}
use Rattle.kms_model.specs.Machine.Commits.{commit_at, commit_concerns, commit_touches, is_on_before_or_after, waited_fences}
use Rattle.kms_model.specs.Machine.State.{Commit}
use Rattle.kms_model.specs.Machine.Steps.{returning_of}
use Rattle.kms_model.specs.Request.Touched.{touches}

pub commit_old : (t : Topology) (c : Commit) (cs : List Commit) (k : ℕ) → k < length cs → commit_at t (c ∷ cs) k ≡ commit_at t cs k
unfolding commit_at
commit_old t c cs k within = (let apart : (length cs == k) ≡ false = ne_eqb (length cs) k (λ e. absurd (omega (arith, e, within)))
    in rw apart refl)

pub commit_new : (t : Topology) (c : Commit) (cs : List Commit) → commit_at t (c ∷ cs) (length cs) ≡ c
unfolding commit_at
commit_new t c cs = rw (eq-eqb (length cs) (length cs) refl) refl

pub touches_old : (t : Topology) (c : Commit) (cs : List Commit) (k object : ℕ) → k < length cs → commit_touches t (c ∷ cs) k object
    ≡ commit_touches t cs k object
unfolding commit_touches
touches_old t c cs k object within = rw (commit_old t c cs k within) refl

pub touches_new : (t : Topology) (c : Commit) (cs : List Commit) (object : ℕ) → commit_touches t (c ∷ cs) (length cs) object
    ≡ touches t c.world c.request object
unfolding commit_touches
touches_new t c cs object = rw (commit_new t c cs) refl

pub concerns_old : (t : Topology) (c : Commit) (cs : List Commit) (k object crtc : ℕ) → k < length cs
    → commit_concerns t (c ∷ cs) k object crtc ≡ commit_concerns t cs k object crtc
unfolding commit_concerns
concerns_old t c cs k object crtc within = rw (commit_old t c cs k within) refl

pub concerns_new : (t : Topology) (c : Commit) (cs : List Commit) (object crtc : ℕ) → commit_concerns t (c ∷ cs) (length cs) object crtc
    ≡ is_on_before_or_after (kind_of object) c object crtc
unfolding commit_concerns
concerns_new t c cs object crtc = rw (commit_new t c cs) refl

pub waited_old : (t : Topology) (c : Commit) (cs : List Commit) (k : ℕ) → k < length cs → waited_fences t (c ∷ cs) k ≡ waited_fences t cs k
unfolding waited_fences
waited_old t c cs k within = rw (commit_old t c cs k within) refl

-- Whose answer is to come

pub returning_not : (d : Doing) → ((k : ℕ) → d ≡ doing.Returning k → ⊥) → returning_of d ≡ None
returning_not (doing.Returning k) awake = absurd (awake k refl)
returning_not d awake = refl
