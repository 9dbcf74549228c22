-- Memory for the steps that tails have left.
use Rattle.std.proofs.Common.{◌≡◌, ℕ, zero, suc, ◌+◌, ◌*◌, ◌<◌, ◌≤◌, true, false, List, [], ◌∷◌, ◌++◌, length, Option, Some, None, inl, inr}
use Rattle.std.proofs.Common.{refl, sym, ap, ◌∙◌, subst, arith}
use Rattle.std.specs.Prelude.{◌==◌, is_some, if◌then◌else◌}
use Rattle.std.proofs.lemmas.Bool.{cases_Bool, cases_eq, eq-eqb, ne_eqb}
use Rattle.kms_model.specs.Firsts.{one_if}
use Rattle.kms_model.specs.declared.replies.Reply.{Reply}
use Rattle.kms_model.specs.declared.replies.Step.{Step}
use Rattle.kms_model.specs.declared.runs.Latch.{Latch}
use Rattle.kms_model.specs.declared.tables.Slot.{Slot}
use Rattle.kms_model.specs.Machine.Histories.{legal}
use Rattle.kms_model.specs.Machine.State.{Machine}
use Rattle.kms_model.specs.Things.Tables.{value_with_id}
use Rattle.kms_model.proofs.TouchedLemmas.{few_objects}
use Rattle.kms_laws.specs.TailsLeft.{LeavesLessInAll, all_left, commit_of_step, is_swap, sum, tail_left}
use Rattle.kms_laws.proofs.LeftInAll.{all_shorter, cleaned_over, commits_counted}
use Rattle.kms_laws.proofs.ShorterTails.{tails_short}
use Rattle.kms_laws.proofs.Sizes.{sum-more}
use Rattle.kms_laws.proofs.Turning.{run-more}
use Rattle.kms_track.specs.declared.tail.Tail.{Tail}
use Rattle.kms_track.specs.InStep.{IsKept}
use Rattle.kms_track.specs.StepLaws.{commit_of_tail_step}
use Rattle.kms_track.proofs.StepLemmas.{legal_below}
use Rattle.kms_core.specs.Decisions.{Decides}
use Rattle.kms_core.specs.Logs.{Logged}
use Rattle.kms_core.specs.Run.{Run, gains, machine}
use Rattle.kms_core.specs.Stands.{HasSpare, StandsWithSpare, Stands, Stores}
use Rattle.kms_core.proofs.stores.CommitStates.{facts}
use Rattle.kms_core.proofs.stores.Histories.{legal_last, told_anew}

-- Each commit that has steps left has a tail

sum_both : (f g : ℕ → ℕ) (from n : ℕ) → sum (λ k. f k + g k) from n ≡ sum f from n + sum g from n
sum_both f g from zero = refl
sum_both f g from (suc n) = (let rest = sum_both f g (from + 1) n in omega (arith, rest))

sum_none : (f : ℕ → ℕ) (from n : ℕ) → ((k : ℕ) → from ≤ k → f k ≡ 0) → sum f from n ≡ 0
sum_none f from zero fails = refl
sum_none f from (suc n) fails = (let one = fails from (omega arith)
    in let rest = sum_none f (from + 1) n (λ k l. fails k (omega (arith, l))) in omega (arith, one, rest))

-- 31 for one number
abbrev at_number : ℕ → ℕ → ℕ
at_number id k = 31 * one_if (id == k)

sum_at : (id from n : ℕ) → sum (at_number id) from n ≤ 31
sum_at id from zero = omega arith
sum_at id from (suc n) =
    elim (cases_eq id from) [
      | inl same ↦
          (let one : at_number id from ≡ 31 = ap (λ b. 31 * one_if b) (eq-eqb id from same) in
          let rest = sum_none (at_number id) (from + 1) n
          (λ k l. ap (λ b. 31 * one_if b) (ne_eqb id k (λ e. absurd (omega (arith, e, same, l))))) in
          omega (arith, one, rest))
      | inr apart ↦
          (let none : at_number id from ≡ 0 = ap (λ b. 31 * one_if b) (ne_eqb id from apart) in
          let rest = sum_at id (from + 1) n in omega (arith, none, rest))
    ]

-- 31 for each number that a table has
abbrev in_table : List (Slot Tail) → ℕ → ℕ
in_table slots k = 31 * one_if (is_some (value_with_id slots k))

one_slot : (s : Slot Tail) (slots : List (Slot Tail)) (k : ℕ) → in_table (s ∷ slots) k ≤ at_number s.id k + in_table slots k
one_slot s slots k = elim (cases_Bool (s.id == k)) [ inl here ↦ rw here (omega arith) | inr away ↦ rw away (omega arith) ]

sum_table : (slots : List (Slot Tail)) (from n : ℕ) → sum (in_table slots) from n ≤ 31 * length slots
sum_table [] from n = (let none = sum_none (in_table []) from n (λ k l. refl) in omega (arith, none))
sum_table (s ∷ slots) from n =
    let more = sum-more (in_table (s ∷ slots)) (λ k. at_number s.id k + in_table slots k) from n (λ k a b. one_slot s slots k) in
    let both = sum_both (at_number s.id) (in_table slots) from n in
    let one = sum_at s.id from n in
    let rest = sum_table slots from n in
    omega (arith, more, both, one, rest)

-- at most 31 steps are left for each tail that is kept
pub few_left : {r : Run} {st : Stores} → Stands r st → all_left r.script.topology (machine r) ≤ 31 * length st.tracker.tails.slots
few_left {r} {st} stands =
    let t = r.script.topology in
    let d = (machine r).device in
    let each = sum-more (tail_left t (machine r)) (in_table st.tracker.tails.slots) 0 (length d.commits)
    (λ k a b. of_commit k (value_with_id st.tracker.tails.slots k) refl (stands.stores.tracker.kept k (omega (arith, b)))) in
    let all = sum_table st.tracker.tails.slots 0 (length d.commits) in
    omega (arith, each, all)
  where
    of_commit : (k : ℕ) (o : Option Tail) → value_with_id st.tracker.tails.slots k ≡ o → IsKept r.script.topology (machine r).device.commits
        (machine r).device.marks (machine r).records.latches k o
        → tail_left r.script.topology (machine r) k ≤ in_table st.tracker.tails.slots k
    of_commit k None is kept = (let none = cleaned_over r.script (machine r) k (facts stands).holds kept.0 in omega (arith, none))
    of_commit k (Some x) is kept =
        let most = tails_short r.script.topology (machine r) k (few_objects r.script.topology stands.formed.device) in
        let full : in_table st.tracker.tails.slots k ≡ 31 = ap (λ o. 31 * one_if (is_some o)) is in
        omega (arith, most, full)

-- Steps

-- the run after one more step
abbrev pub with_steps : Run → List Step → Run
with_steps r steps = record { script = r.script; steps = steps }

-- a step that tells its commit
pub record IsOwn (r : Run) (step : Step) (k : ℕ) : Type 0 where
  pub is_legal : legal r.script (machine r) step ≡ true
  pub within : k < length (machine r).device.commits
  pub of : commit_of_step (machine r) step ≡ Some k

pub own_step : {r : Run} {st : Stores} (step : Step) (k : ℕ) → Stands r st → commit_of_tail_step step ≡ Some k
    → commit_of_step (machine r) step ≡ Some k → legal r.script (machine r) step ≡ true → IsOwn r step k
own_step {r} {st} step k stands told of is =
    record { is_legal = is; within = legal_below r.script (machine r) step k st.tracker told is stands.stores.tracker; of = of }

-- all holds after a step, where there is memory for what the tails have left then
step_holds : {r w : Run} {old new : Stores} {was room : ℕ} (step : Step) → StandsWithSpare r old was → Stands w new
    → w ≡ gains r (step ∷ []) → (LeavesLessInAll r.script.topology (machine r) (machine (gains r (step ∷ []))) step
    → HasSpare (gains r (step ∷ [])) room new.latches.room) → StandsWithSpare w new room
step_holds {r} {new = new} {room = room} step holds after more spared =
    let later : Stands (gains r (step ∷ [])) new = subst (λ (x : Run). Stands x new) more after in
    let allowed = legal_last r.script r.steps (r.steps ++ step ∷ []) step refl later.history in
    let less = subst (λ (m : Machine). LeavesLessInAll r.script.topology (machine r) m step) (sym (run-more r.script _ r.steps step))
    (all_shorter r.script (machine r) (facts holds.stands).holds step allowed) in
    subst (λ (x : Run). StandsWithSpare x new room) (sym more) (record { stands = later; spare = spared less })

-- a step that is of no tail
pub other_holds : {r w : Run} {old new : Stores} {was room : ℕ} (step : Step) (made : ℕ) → StandsWithSpare r old was → Stands w new
    → w ≡ gains r (step ∷ []) → is_swap step ≡ false → new.latches.room ≡ old.latches.room
    → 31 * length old.tracker.tails.slots < made → made ≤ room + 1 → StandsWithSpare w new room
other_holds {r} {old = old} step made holds after more other same enough pushed = step_holds step holds after more (λ leaves.
    let less = leaves.of_others other in
    let few = few_left holds.stands in
    let l = holds.spare.latches in
    record { steps = omega (arith, less, few, enough, pushed); latches = omega (arith, less, l, same) })

-- a step of a tail, with or without a latch
pub own_holds : {r w : Run} {old new : Stores} {made room : ℕ} {step : Step} {k : ℕ} → StandsWithSpare r old made → Stands w new
    → w ≡ gains r (step ∷ []) → IsOwn r step k → made ≤ room + 1 → old.latches.room ≤ new.latches.room + 1 → StandsWithSpare w new room
own_holds {step} {k} holds after more own pushed recorded = step_holds step holds after more (λ leaves.
    let less = leaves.of_tail k own.within own.of in
    let s = holds.spare.steps in
    let l = holds.spare.latches in
    record { steps = omega (arith, less, s, pushed); latches = omega (arith, less, l, recorded) })

-- a swap
pub swap_holds : {r w : Run} {old new : Stores} {was room : ℕ} (step : Step) (made : ℕ) → StandsWithSpare r old was → Stands w new
    → w ≡ gains r (step ∷ []) → 31 * length old.tracker.tails.slots + 32 ≤ made → made ≤ room + 1
    → 31 * length old.tracker.tails.slots + 31 ≤ new.latches.room → StandsWithSpare w new room
swap_holds {r} {old = old} step made holds after more enough pushed shown = step_holds step holds after more (λ leaves.
    let less = leaves.of_swap in
    let few = few_left holds.stands in
    record { steps = omega (arith, less, few, enough, pushed); latches = omega (arith, less, few, shown) })

-- no step, with more memory
pub still_spared : {r : Run} {steps : List Step} {was room shown latches : ℕ} → steps ≡ r.steps → HasSpare r was shown → was ≤ room
    → shown ≤ latches → HasSpare (with_steps r steps) room latches
still_spared {r} {room = room} {latches = latches} same spare more longer =
    subst (λ h. HasSpare (with_steps r h) room latches) (sym same)
    (let s = spare.steps in let l = spare.latches in record { steps = omega (arith, s, more); latches = omega (arith, l, longer) })

pub same_le : (n : ℕ) → n ≤ n
same_le n = omega arith

-- the stores stand where latches have other memory
pub with_latches : {r : Run} {st : Stores} (shown : Logged Latch) → Stands r st → shown.items ≡ st.latches.items
    → Stands r (record st { latches = shown })
with_latches {r} {st} shown stands is = record {
  formed = stands.formed;
  history = stands.history;
  stores = told_anew (machine r).records.replies (machine r).stalled st.replies
      shown st.freed st.stalled stands.stores.clients
      (record {
        accepted = stands.stores.recorded.accepted;
        answered = stands.stores.recorded.answered;
        latched = is ∙
            stands.stores.recorded.latched;
      }) stands.stores.ended stands.stores;
  freed = stands.freed;
  stored = stands.stored;
}

-- there is memory for a step of a tail that is legal, and for its latch
pub record HasRoom (room latches : ℕ) : Type 0 where
  pub step : 0 < room
  pub latch : 0 < latches

pub own_room : {r : Run} {st : Stores} {room : ℕ} {step : Step} {k : ℕ} → StandsWithSpare r st room → IsOwn r step k
    → HasRoom room st.latches.room
own_room {r} {step} {k} holds own =
    let less = (all_shorter r.script (machine r) (facts holds.stands).holds step own.is_legal).of_tail k own.within own.of in
    let s = holds.spare.steps in
    let l = holds.spare.latches in
    record { step = omega (arith, less, s); latch = omega (arith, less, l) }

-- a decision is no swap: it leaves the commits
pub decision_other : {r : Run} {client : ℕ} {step : Step} {reply : Reply} → Decides r client step reply → is_swap step ≡ false
decision_other {r} {step = step} decides =
    let many : length (machine r).device.commits ≡ (if is_swap step then suc (length (machine r).device.commits)
    else length (machine r).device.commits) =
    sym (ap (λ (m : Machine). length m.device.commits) decides.does) ∙ commits_counted r.script (machine r) step decides.legal in
    elim (cases_Bool (is_swap step)) [
      | inl swaps ↦ (let more : length (machine r).device.commits ≡ suc (length (machine r).device.commits) = rw swaps at many
          in absurd (omega (arith, more)))
      | inr other ↦ other
    ]
