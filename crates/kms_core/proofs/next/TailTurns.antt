-- The next step of a tail in the order of one thread.
use Rattle.std.proofs.Common.{◌≡◌, ℕ, zero, suc, ◌+◌, ◌<◌, ◌≤◌, Bool, true, false, [], ◌∷◌, ◌++◌, map, cond, Option, Some, None, inl, inr}
use Rattle.std.proofs.Common.{refl, sym, ap, ◌∙◌, arith}
use Rattle.std.specs.Prelude.{◌&&◌, filter, find, is_some, not}
use Rattle.std.specs.List.{range_with_len}
use Rattle.std.specs.Option.{option_map}
use Rattle.std.proofs.lemmas.Bool.{cases_lt, or_left}
use Rattle.kms_model.specs.declared.objects.Kind.TheVariants.{Crtc, Plane}
use Rattle.kms_model.specs.declared.replies.Step.{Step}
use Rattle.kms_model.specs.declared.replies.Step.TheVariants as step
use Rattle.kms_model.specs.declared.objects.Topology.{Topology}
use Rattle.kms_model.specs.Device.Objects.{count_of, object_id}
use Rattle.kms_model.specs.Firsts.{first_some, or_else}
use Rattle.kms_model.specs.Machine.Commits.{has_number}
use Rattle.kms_model.specs.Machine.Histories.{commit_numbers, for_each, is_dead, legal, steps_of_commit, steps_with_go}
use Rattle.kms_model.specs.Machine.State.{go_at}
use Rattle.kms_model.specs.Order.Turns.{tail_step}
use Rattle.kms_laws.specs.Laws.{can_move}
use Rattle.kms_laws.proofs.Drained.{no_step}
use Rattle.kms_laws.proofs.Modes.{plain-from}
use Rattle.kms_laws.proofs.NeverStuck.{history_along}
use Rattle.kms_laws.proofs.Quiet.{find-none, unable-quiet}
use Rattle.kms_laws.proofs.Resting.{over-unable}
use Rattle.kms_core.specs.Run.{Run, machine}
use Rattle.kms_core.specs.Stands.{Stores, Stands}
use Rattle.kms_core.proofs.stores.CommitStates.{facts}
use Rattle.kms_core.proofs.next.Finding.{found_both, found_mapped}
use Rattle.kms_core.proofs.next.Movers.{able, goes_able}

-- Where the history was ended

-- no step that moves may be done
pub ended_unable : {r : Run} {st : Stores} → Stands r st → (machine r).stalled ≡ true → can_move r.script (machine r) ≡ false
unfolding is_dead
ended_unable {r} stands ended =
    over-unable r.script (machine r) (history_along r.script r.steps (plain-from r.script stands.formed) stands.history)
    (inr (or_left (machine r).stalled _ ended))

pub settle_ended : {r : Run} {st : Stores} → Stands r st → st.stalled ≡ true → None ≡ tail_step r.script (machine r)
settle_ended {r} {st} stands ended =
    sym (unable-quiet r.script (machine r) (ended_unable stands (stands.stores.ended ∙ ended))).tails

-- Tails

-- the first step of a commit
abbrev pub first_of : Run → ℕ → Option Step
first_of r k = find (able r) (steps_of_commit r.script.topology k)

pub cleaned_none : {r : Run} {st : Stores} → Stands r st → (k : ℕ) → has_number (machine r).device.marks.cleaned k ≡ true
    → first_of r k ≡ None
cleaned_none {r} stands k clean =
    (find-none (able r) (steps_of_commit r.script.topology k)
    (λ step is. no_step r.script (machine r) (facts stands).holds k clean step is))

-- a test's first steps of a commit, kind by kind
abbrev by_kinds : (Step → Bool) → Topology → ℕ → Option Step
by_kinds p t k =
    cond (p (step.Claim k)) (Some (step.Claim k))
    (or_else (option_map (step.Write k Crtc) (find (λ i. p (step.Write k Crtc i)) (range_with_len 0 (count_of t Crtc))))
    (or_else (option_map (step.Write k Plane) (find (λ i. p (step.Write k Plane i)) (range_with_len 0 (count_of t Plane))))
    (or_else (option_map (step.Flush k Crtc) (find (λ i. p (step.Flush k Crtc i)) (range_with_len 0 (count_of t Crtc))))
    (find p (step.HwDone k ∷ step.Cleanup k ∷ [])))))

found_by_kinds : (p : Step → Bool) (t : Topology) (k : ℕ) → find p (steps_of_commit t k) ≡ by_kinds p t k
found_by_kinds p t k =
    let writes = for_each t Crtc (λ kind index. step.Write k kind index) in
    let planes = for_each t Plane (λ kind index. step.Write k kind index) in
    let flushes = for_each t Crtc (λ kind index. step.Flush k kind index) in
    let ends = step.HwDone k ∷ step.Cleanup k ∷ [] in
    ap (λ o. cond (p (step.Claim k)) (Some (step.Claim k)) o)
    (found_both p writes (planes ++ (flushes ++ ends))
    ∙ (λ i. or_else (found_mapped p (step.Write k Crtc) (range_with_len 0 (count_of t Crtc)) i) (found_both p planes (flushes ++ ends) i))
    ∙ (λ i. or_else (option_map (step.Write k Crtc) (find (λ i. p (step.Write k Crtc i)) (range_with_len 0 (count_of t Crtc))))
    (or_else (found_mapped p (step.Write k Plane) (range_with_len 0 (count_of t Plane)) i) (found_both p flushes ends i)))
    ∙ (λ i. or_else (option_map (step.Write k Crtc) (find (λ i. p (step.Write k Crtc i)) (range_with_len 0 (count_of t Crtc))))
    (or_else (option_map (step.Write k Plane) (find (λ i. p (step.Write k Plane i)) (range_with_len 0 (count_of t Plane))))
    (or_else (found_mapped p (step.Flush k Crtc) (range_with_len 0 (count_of t Crtc)) i) (find p ends)))))

-- what is found of each kind of steps of a commit
pub record FoundOf (r : Run) (k : ℕ) (may_claim : Bool) (of_crtcs of_planes of_flushes : Option ℕ) (at_end : Option Step) : Type 0 where
  pub claim : may_claim ≡ able r (step.Claim k)
  pub crtc : of_crtcs ≡ find (λ i. able r (step.Write k Crtc i)) (range_with_len 0 (count_of r.script.topology Crtc))
  pub plane : of_planes ≡ find (λ i. able r (step.Write k Plane i)) (range_with_len 0 (count_of r.script.topology Plane))
  pub flush : of_flushes ≡ find (λ i. able r (step.Flush k Crtc i)) (range_with_len 0 (count_of r.script.topology Crtc))
  pub last : at_end ≡ find (able r) (step.HwDone k ∷ step.Cleanup k ∷ [])

pub first_told : (r : Run) (k : ℕ) (claim : Bool) (crtc plane flush : Option ℕ) (last : Option Step)
    → FoundOf r k claim crtc plane flush last
    → cond claim (Some (step.Claim k)) (or_else (option_map (step.Write k Crtc) crtc)
    (or_else (option_map (step.Write k Plane) plane) (or_else (option_map (step.Flush k Crtc) flush) last))) ≡ first_of r k
first_told r k claim crtc plane flush last found =
    (λ i.
    cond (found.claim i) (Some (step.Claim k))
    (or_else (option_map (step.Write k Crtc) (found.crtc i))
    (or_else (option_map (step.Write k Plane) (found.plane i))
    (or_else (option_map (step.Flush k Crtc) (found.flush i)) (found.last i)))))
    ∙ sym (found_by_kinds (able r) r.script.topology k)

-- CRTCs that go

abbrev pub has_go : Run → ℕ → Bool
has_go r index = is_some (go_at (machine r).device (object_id Crtc index))

module _ (r : Run) where
  pub no_blanking : ((index : ℕ) → index < count_of r.script.topology Crtc → has_go r index ≡ false) → None
      ≡ find (able r) (steps_with_go r.script.topology (machine r))
  no_blanking rests = sym (none_of 0 (count_of r.script.topology Crtc) (λ j low high. rests j (omega (arith, high)))) where
    none_of : (a n : ℕ) → ((j : ℕ) → a ≤ j → j < a + n → has_go r j ≡ false)
        → find (able r) (map (step.Vblank Crtc) (filter (has_go r) (range_with_len a n))) ≡ None
    none_of a zero rests = refl
    none_of a (suc n) rests = rw (rests a (omega arith) (omega arith))
        (none_of (a + 1) n (λ j low high. rests j (omega (arith, low)) (omega (arith, high))))

  pub one_blanking : (index : ℕ) → index < count_of r.script.topology Crtc → has_go r index ≡ true
      → ((j : ℕ) → j < index → has_go r j ≡ false) → Some (step.Vblank Crtc index)
      ≡ find (able r) (steps_with_go r.script.topology (machine r))
  one_blanking index within goes rests =
      sym (one_of 0 (count_of r.script.topology Crtc) (omega arith) (omega (arith, within)) (λ j low before. rests j before)) where
        one_of : (a n : ℕ) → a ≤ index → index < a + n → ((j : ℕ) → a ≤ j → j < index → has_go r j ≡ false)
            → find (able r) (map (step.Vblank Crtc) (filter (has_go r) (range_with_len a n))) ≡ Some (step.Vblank Crtc index)
        one_of a zero low high rests = absurd (omega (arith, low, high))
        one_of a (suc n) low high rests =
            elim (cases_lt a index) [
              | inl before ↦ rw (rests a (omega arith) before)
                  (one_of (a + 1) n (omega (arith, before)) (omega (arith, high)) (λ j above below. rests j (omega (arith, above)) below))
              | inr behind ↦ (let e : a ≡ index = omega (arith, low, behind) in rw (e, goes, goes_able r index within goes) refl)
            ]

-- All together

legal_steps : (v : Run) → (machine v).stalled ≡ false → (k : ℕ) → first_of v k
    ≡ find (legal v.script (machine v)) (steps_of_commit v.script.topology k)
unfolding legal
legal_steps v going k =
    found_by_kinds (able v) v.script.topology k
    ∙ ap (λ (z : Bool). by_kinds (λ x. not z && able v x) v.script.topology k) (sym going)
    ∙ sym (found_by_kinds (legal v.script (machine v)) v.script.topology k)

legal_blankings : (v : Run) → (machine v).stalled ≡ false → find (able v) (steps_with_go v.script.topology (machine v))
    ≡ find (legal v.script (machine v)) (steps_with_go v.script.topology (machine v))
unfolding legal
legal_blankings v going =
    let goes = filter (has_go v) (range_with_len 0 (count_of v.script.topology Crtc)) in
    found_mapped (able v) (step.Vblank Crtc) goes
    ∙ ap (λ (z : Bool). option_map (step.Vblank Crtc) (find (λ i. not z && able v (step.Vblank Crtc i)) goes)) (sym going)
    ∙ sym (found_mapped (legal v.script (machine v)) (step.Vblank Crtc) goes)

pub settle_told : {r : Run} {st : Stores} (tail blanking : Option Step) → Stands r st → st.stalled ≡ false → tail
    ≡ first_some (first_of r) (commit_numbers (machine r))
    → blanking ≡ find (able r) (steps_with_go r.script.topology (machine r)) → or_else tail blanking ≡ tail_step r.script (machine r)
unfolding tail_step
settle_told {r} tail blanking stands going tail_is blanking_is =
    let rests : (machine r).stalled ≡ false = stands.stores.ended ∙ going in
    (λ i. or_else (tail_is i) (blanking_is i)) ∙ (λ i. or_else (first_some (λ k. legal_steps r rests k i) (commit_numbers (machine r)))
    (legal_blankings r rests i))
