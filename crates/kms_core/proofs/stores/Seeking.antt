-- The first commit that may be claimed is found.
use Rattle.std.proofs.Common.{◌≡◌, ℕ, zero, suc, ◌+◌, ◌-◌, ◌<◌, ◌≤◌, Bool, true, false, List, length, Option, Some, None, inl, inr, ⊎_elim}
use Rattle.std.proofs.Common.{refl, sym, ap, ◌∙◌, subst, arith}
use Rattle.std.specs.Prelude.{find, not, nat_lt, ◌&&◌}
use Rattle.std.specs.List.{range_with_len}
use Rattle.std.proofs.lemmas.Bool.{cases_lt, false≢true}
use Rattle.kms_model.specs.declared.objects.Kind.TheVariants.{Crtc}
use Rattle.kms_model.specs.declared.objects.Topology.{Topology}
use Rattle.kms_model.specs.declared.replies.Step.TheVariants as step
use Rattle.kms_model.specs.declared.runs.Latch.{Latch}
use Rattle.kms_model.specs.declared.worlds.Content.TheVariants as content
use Rattle.kms_model.specs.Device.Objects.{index_of}
use Rattle.kms_model.specs.Machine.Commits.{has_number, is_claimed, out_fence_of, waited_fences}
use Rattle.kms_model.specs.Machine.Histories.{legal}
use Rattle.kms_model.specs.Machine.State.{Commit, Marks}
use Rattle.kms_model.specs.Machine.Steps.{may, may_claim}
use Rattle.kms_model.proofs.Items.{IsIn, IsObject, ids-in}
use Rattle.kms_model.proofs.KindsOfIds.{index_of-object}
use Rattle.kms_model.proofs.TouchedLemmas.{HasFewObjects, few_objects}
use Rattle.kms_laws.proofs.Fences.{IsOutFence, IsWaited}
use Rattle.kms_laws.proofs.Objects.{crtc_index}
use Rattle.kms_laws.proofs.SmallNumbers.{numbers_fit}
use Rattle.kms_signal.specs.FenceSets.{is_made}
use Rattle.kms_track.specs.InStep.{IsTrackerOf}
use Rattle.kms_track.specs.MachineLaws.{FindsFirst}
use Rattle.kms_track.specs.Tracking.{Tracking, ready_of}
use Rattle.kms_track.proofs.CheckedLemmas.{device_within}
use Rattle.kms_track.proofs.MachineAnswers.{ready_machine}
use Rattle.kms_core.specs.Run.{Run, machine}
use Rattle.kms_core.specs.Stands.{Stores, Stands, is_fence}
use Rattle.kms_core.specs.Work.{AreFewCommits, FindsFirstWhere, IsFirstOf, IsGoing, IsPassedBy, first_claim}
use Rattle.kms_core.proofs.stores.CommitStates.{facts}
use Rattle.kms_core.proofs.stores.Fencing.{thing_made}
use Rattle.kms_core.proofs.stores.FirstTails.{before_first, of_all, up_to_first}

-- The loop

-- the commits below a number are cleaned, or fail a test
abbrev pub ArePassed : Tracking → (ℕ → Bool) → ℕ → Type 0
ArePassed v test from =
    (t : Topology) (commits : List Commit) (marks : Marks) (latches : List Latch) → IsTrackerOf t commits marks latches v → (j : ℕ)
    → j < from → j < length commits → IsPassedBy marks test j

pub one_passed : {v : Tracking} {test : ℕ → Bool} {from : ℕ} (k : ℕ) → ArePassed v test from → FindsFirst v from (Some k) → test k ≡ false
    → ArePassed v test (k + 1)
one_passed {v} {test} {from} k passed first fails t commits marks latches stand =
    up_to_first t commits marks latches v stand (λ j. j < length commits → IsPassedBy marks test j) (λ j cleaned within. inl cleaned) from k
    first (λ within. inr fails) (passed t commits marks latches stand)

pub one_found : {v : Tracking} {test : ℕ → Bool} {from : ℕ} (k : ℕ) → ArePassed v test from → FindsFirst v from (Some k) → test k ≡ true
    → FindsFirstWhere v test (Some k)
one_found {v} {test} {from} k passed first passes t commits marks latches stand =
    let within : k < length commits = (first t commits marks latches stand).1 in (
      within,
      passes,
      λ j before. before_first t commits marks latches v stand (λ i. i < length commits → IsPassedBy marks test i)
          (λ i cleaned inside. inl cleaned) from k first (passed t commits marks latches stand) j before (omega (arith, before, within)),
    )

pub none_found : {v : Tracking} {test : ℕ → Bool} {from : ℕ} → ArePassed v test from → FindsFirst v from None → FindsFirstWhere v test None
none_found {v} {test} {from} passed first t commits marks latches stand j within =
    of_all t commits marks latches v stand (λ i. i < length commits → IsPassedBy marks test i) (λ i cleaned inside. inl cleaned) from first
    (passed t commits marks latches stand) j within within

-- the number found is not below the one that was sought from, and there is a number above it
pub record GoesUp (from k : ℕ) : Type 0 where
  pub up : from ≤ k
  pub fits : k < 4294967295

pub goes_up : {v : Tracking} (from k : ℕ) → AreFewCommits v → FindsFirst v from (Some k) → GoesUp from k
goes_up from k few first =
    let found = first few.topology few.commits few.marks few.latches few.stand in
    let up = found.0 in
    let within = found.1 in
    let bound = few.few in
    record { up = up; fits = omega (arith, within, bound) }

-- so less is left to seek above it
pub less_left : {v : Tracking} (from k : ℕ) → AreFewCommits v → FindsFirst v from (Some k) → 4294967296 - (k + 1) < 4294967296 - from
less_left {v} from k few first =
    let up = goes_up from k few first in
    let low = up.up in
    let fits = up.fits in
    omega (arith, low, fits)

-- What is found is the answer

pub both_off : (a b : Bool) → (a && (b && false)) ≡ false
both_off true true = refl
both_off true false = refl
both_off false b = refl

crtc_low : {t : Topology} {crtc : ℕ} → HasFewObjects t → IsObject t Crtc crtc → index_of crtc < 4
crtc_low {crtc} few object =
    let within = object.within in
    let at : index_of crtc ≡ object.index = ap index_of object.same ∙ index_of-object Crtc object.index (omega (arith, within, few.crtcs))
    in
    omega (arith, at, within, few.crtcs)

going_only : (ended may : Bool) → ended ≡ false → (not ended && may) ≡ may
going_only true may off = absurd (false≢true (sym off))
going_only false may off = refl

find_none : (p : ℕ → Bool) (a n : ℕ) → ((j : ℕ) → a ≤ j → j < a + n → p j ≡ false) → find p (range_with_len a n) ≡ None
find_none p a zero fails = refl
find_none p a (suc n) fails = rw (fails a (omega arith) (omega arith))
    (find_none p (a + 1) n (λ j low high. fails j (omega (arith, low)) (omega (arith, high))))

find_first : (p : ℕ → Bool) (a n k : ℕ) → a ≤ k → k < a + n → p k ≡ true → ((j : ℕ) → a ≤ j → j < k → p j ≡ false)
    → find p (range_with_len a n) ≡ Some k
find_first p a zero k low high passes fails = absurd (omega (arith, low, high))
find_first p a (suc n) k low high passes fails =
    elim (cases_lt a k) [
      | inl before ↦ rw (fails a (omega arith) before)
          (find_first p (a + 1) n k (omega (arith, before)) (omega (arith, high)) passes
          (λ j above below. fails j (omega (arith, above)) below))
      | inr behind ↦ (let same : a ≡ k = omega (arith, low, behind) in rw (ap p same ∙ passes) (ap (λ (n : ℕ). Some n) same))
    ]

pub few_tails : {r : Run} {st : Stores} → Stands r st → AreFewCommits st.tracker
few_tails {r} stands =
    let fit = (numbers_fit r.script r.steps stands.formed stands.history).commits in
    record {
      topology = r.script.topology;
      commits = (machine r).device.commits;
      marks = (machine r).device.marks;
      latches = (machine r).records.latches;
      stand = stands.stores.tracker;
      few = omega (arith, fit);
    }

-- the fences that a commit waits for were made
pub waited_made : {r : Run} {st : Stores} (k id : ℕ) → Stands r st → k < length (machine r).device.commits
    → IsIn id (waited_fences r.script.topology (machine r).device.commits k) → is_made st.fences id ≡ true
waited_made {r} {st} k id stands within is =
    let t = r.script.topology in
    let d = (machine r).device in
    let w : IsWaited t d.world.things d.commits k id = (facts stands).fences.waits k id within is in
    ⊎_elim
    (λ (fence : w.thing.content ≡ content.Fence). subst (λ n. is_made st.fences n ≡ true) w.same_id
    (thing_made st.fences d.world.things w.label w.thing stands.stores.fenced.made w.found (ap is_fence fence)))
    (λ (out : IsOutFence t d.commits k id). (
    let few = few_objects t stands.formed.device in
    let object : IsObject t Crtc out.crtc = ids-in t Crtc out.crtc out.is_crtc in
    let before = out.before in
    stands.stores.out_fenced out.commit (index_of out.crtc) id (omega (arith, before, within)) (crtc_low few object)
    (ap (λ o. out_fence_of t d.commits out.commit o) (crtc_index t out.crtc few out.is_crtc) ∙ out.fence)))
    w.kind

-- a commit's claim is legal where the tracker says that the commit is ready
claim_is : {r : Run} {st : Stores} (k : ℕ) → Stands r st → IsGoing r → k < length (machine r).device.commits
    → legal r.script (machine r) (step.Claim k) ≡ ready_of st.tracker st.fences k
unfolding legal may
claim_is {r} {st} k stands going within =
    going_only (machine r).stalled (may_claim r.script.topology (machine r) k) going
    ∙ sym (ready_machine r.script.topology (machine r) st.tracker stands.stores.tracker
    (device_within r.script.topology stands.formed.device) st.fences k
    (λ id is. stands.stores.fences.same id (waited_made k id stands within is)))

-- the claim of a commit that is cleaned is not
claim_over : {r : Run} {st : Stores} (k : ℕ) → Stands r st → has_number (machine r).device.marks.cleaned k ≡ true
    → legal r.script (machine r) (step.Claim k) ≡ false
unfolding legal may may_claim
claim_over {r} k stands cleaned =
    let marks = (facts stands).holds.tail.marks in
    let claimed : is_claimed (machine r).device k ≡ true = (marks.done k (marks.clean_done k cleaned)).0 in
    rw claimed (both_off (not (machine r).stalled) (nat_lt k (length (machine r).device.commits)))

passed_by : {r : Run} {st : Stores} (k : ℕ) → Stands r st → IsGoing r → k < length (machine r).device.commits
    → IsPassedBy (machine r).device.marks (ready_of st.tracker st.fences) k → legal r.script (machine r) (step.Claim k) ≡ false
passed_by {r} {st} k stands going within passed = ⊎_elim (λ cleaned. claim_over k stands cleaned)
    (λ fails. claim_is k stands going within ∙ fails) passed

answered : {r : Run} {st : Stores} (found : Option ℕ) → Stands r st → IsGoing r
    → IsFirstOf (machine r).device.marks (length (machine r).device.commits) (ready_of st.tracker st.fences) found → found ≡ first_claim r
answered {r} {st} None stands going first = sym (find_none (λ k. legal r.script (machine r) (step.Claim k)) 0
    (length (machine r).device.commits) (λ j low high. passed_by j stands going (omega (arith, high)) (first j (omega (arith, high)))))
answered {r} {st} (Some k) stands going first =
    let within = first.0 in
    sym (find_first (λ k. legal r.script (machine r) (step.Claim k)) 0 (length (machine r).device.commits) k (omega arith)
    (omega (arith, within)) (claim_is k stands going within ∙ first.1)
    (λ j low before. passed_by j stands going (omega (arith, before, within)) (first.2 j before)))

pub claim_found : {r : Run} {st : Stores} (found : Option ℕ) → Stands r st → st.stalled ≡ false
    → FindsFirstWhere st.tracker (ready_of st.tracker st.fences) found → found ≡ first_claim r
claim_found {r} {st} found stands going first =
    answered found stands (stands.stores.ended ∙ going)
    (first r.script.topology (machine r).device.commits (machine r).device.marks (machine r).records.latches stands.stores.tracker)

pub claim_legal : {r : Run} {st : Stores} (k : ℕ) → Stands r st → st.stalled ≡ false
    → FindsFirstWhere st.tracker (ready_of st.tracker st.fences) (Some k) → legal r.script (machine r) (step.Claim k) ≡ true
claim_legal {r} {st} k stands going first =
    let found = first r.script.topology (machine r).device.commits (machine r).device.marks
    (machine r).records.latches stands.stores.tracker in
    claim_is k stands (stands.stores.ended ∙ going) found.0 ∙ found.1

-- none is after the end of the history
pub claim_none : {r : Run} {st : Stores} → Stands r st → st.stalled ≡ true → None ≡ first_claim r
unfolding legal
claim_none {r} stands ended =
    sym (find_none (λ k. legal r.script (machine r) (step.Claim k)) 0 (length (machine r).device.commits)
    (λ j low high. ap (λ b. not b && may r.script (machine r) (step.Claim j)) (stands.stores.ended ∙ ended)))
