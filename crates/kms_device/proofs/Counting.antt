-- What the lock keeps of the machine, as its history goes on.
use Rattle.std.proofs.Common.{◌≡◌, ℕ, ◌+◌, ◌<◌, ◌≤◌, List, [], ◌∷◌, ◌++◌, length, Bool, true, false, refl, sym, ap, ◌∙◌, subst, arith}
use Rattle.std.proofs.Common.{⊎_elim, All}
use Rattle.std.specs.Prelude.{slice_index_or, slice_set}
use Rattle.std.proofs.lemmas.Bool.{eq-eqb, false≢true, ne_eqb, cases_eq}
use Rattle.std.proofs.lemmas.List.{get_or-set_other, get_or-set_same}
use Rattle.std.proofs.lemmas.List.Elements.{All-append, All-head, All-nil, All-cons, All-tail}
use Rattle.kms_model.specs.declared.objects.Kind.TheVariants.{Crtc}
use Rattle.kms_model.specs.declared.replies.Step.{Step}
use Rattle.kms_model.specs.declared.replies.Step.TheVariants.{Vblank, Stall}
use Rattle.kms_core.specs.Run.{Run}
use Rattle.kms_device.specs.Kernels.{AddsPlain, AreBlankingCounts, is_plain}
use Rattle.kms_laws.specs.Blankings.{blankings, is_blanking, one_more_if}
use Rattle.kms_device.specs.Steps.{NeverEnds, is_stall}

abbrev IsPlain : Step → Type 0
IsPlain x = is_plain x ≡ true

abbrev IsNoEnd : Step → Type 0
IsNoEnd x = is_stall x ≡ false

-- a plain step is no end, and no vblank
pub plain-end : (x : Step) → is_plain x ≡ true → is_stall x ≡ false
plain-end Stall h = absurd (false≢true h)
plain-end _ h = refl

pub plain-count : (crtc : ℕ) (x : Step) → is_plain x ≡ true → is_blanking crtc x ≡ false
plain-count crtc (Vblank kind index) h = absurd (false≢true h)
plain-count crtc _ h = refl

none-ends : (xs : List Step) → All (λ x. is_plain x ≡ true) xs → NeverEnds xs
none-ends [] h = All-nil IsNoEnd
none-ends (x ∷ xs) h = All-cons IsNoEnd x xs (plain-end x (All-head IsPlain x xs h)) (none-ends xs (All-tail IsPlain x xs h))

none-counted : (crtc : ℕ) (xs : List Step) → All (λ x. is_plain x ≡ true) xs → blankings crtc xs ≡ 0
none-counted crtc [] h = refl
none-counted crtc (x ∷ xs) h = ap (λ b. one_more_if b (blankings crtc xs)) (plain-count crtc x (All-head IsPlain x xs h)) ∙ none-counted
    crtc xs (All-tail IsPlain x xs h)

one_more-add : (b : Bool) (m n : ℕ) → one_more_if b (m + n) ≡ one_more_if b m + n
one_more-add true m n = omega arith
one_more-add false m n = refl

pub blankings-append : (crtc : ℕ) (xs ys : List Step) → blankings crtc (xs ++ ys) ≡ blankings crtc xs + blankings crtc ys
blankings-append crtc [] ys = omega arith
blankings-append crtc (x ∷ xs) ys = ap (one_more_if (is_blanking crtc x)) (blankings-append crtc xs ys) ∙ one_more-add (is_blanking crtc x)
    (blankings crtc xs) (blankings crtc ys)

one_more-few : (b : Bool) (m n : ℕ) → m ≤ n → one_more_if b m ≤ n + 1
one_more-few true m n l = omega (arith, l)
one_more-few false m n l = omega (arith, l)

-- there are no more vblanks than steps
pub blankings-few : (crtc : ℕ) (xs : List Step) → blankings crtc xs ≤ length xs
blankings-few crtc [] = omega arith
blankings-few crtc (x ∷ xs) = let l = one_more-few (is_blanking crtc x) (blankings crtc xs) (length xs) (blankings-few crtc xs)
    in omega (arith, l)

-- plain steps keep what the lock keeps
pub plain-keeps : (counts : List ℕ) (old new : Run) → NeverEnds old.steps × AreBlankingCounts counts old.steps → AddsPlain old new
    → NeverEnds new.steps × AreBlankingCounts counts new.steps
plain-keeps counts old new kept adds =
    let steps : new.steps ≡ old.steps ++ adds.steps = ap (λ (r : Run). r.steps) adds.now in (
      subst NeverEnds (sym steps) (All-append IsNoEnd old.steps adds.steps kept.0 (none-ends adds.steps adds.plain)),
      λ crtc. counted crtc ∙ ap (blankings crtc) (sym steps),
    )
  where
    counted : (crtc : ℕ) → slice_index_or counts crtc 0 ≡ blankings crtc (old.steps ++ adds.steps)
    counted crtc = let none = none-counted crtc adds.steps adds.plain in let more = blankings-append crtc old.steps adds.steps
        in let is = kept.1 crtc in omega arith

-- a vblank is counted
pub blank-keeps : (counts : List ℕ) (old new : Run) (crtc : ℕ) → crtc < length counts → NeverEnds old.steps
    × AreBlankingCounts counts old.steps → new.steps ≡ old.steps ++ Vblank Crtc crtc ∷ []
    → NeverEnds new.steps × AreBlankingCounts (slice_set counts crtc (slice_index_or counts crtc 0 + 1)) new.steps
blank-keeps counts old new crtc few kept steps = (
  subst NeverEnds (sym steps) (All-append IsNoEnd old.steps (Vblank Crtc crtc ∷ []) kept.0
      (All-cons IsNoEnd (Vblank Crtc crtc) [] refl (All-nil IsNoEnd))),
  λ k. at k ∙ ap (blankings k) (sym steps),
)
  where
    at : (k : ℕ) → slice_index_or (slice_set counts crtc (slice_index_or counts crtc 0 + 1)) k 0
        ≡ blankings k (old.steps ++ Vblank Crtc crtc ∷ [])
    at k =
        let more = blankings-append k old.steps (Vblank Crtc crtc ∷ []) in
        let is = kept.1 k in
        ⊎_elim
        (λ (same : crtc ≡ k).
        let now : slice_index_or (slice_set counts crtc (slice_index_or counts crtc 0 + 1)) k 0 ≡ slice_index_or counts k 0
        + 1 = subst (λ j. slice_index_or (slice_set counts crtc (slice_index_or counts crtc 0 + 1)) j 0 ≡ slice_index_or counts j 0 + 1)
        same (get_or-set_same counts crtc (slice_index_or counts crtc 0 + 1) 0 few) in
        let one : blankings k (Vblank Crtc crtc ∷ []) ≡ 1 = ap (λ b. one_more_if b 0) (eq-eqb crtc k same) in omega arith)
        (λ ne.
        let now : slice_index_or (slice_set counts crtc (slice_index_or counts crtc 0 + 1)) k 0
        ≡ slice_index_or counts k 0 = get_or-set_other counts crtc k (slice_index_or counts crtc 0 + 1) 0 (λ e. ne (sym e)) in
        let none : blankings k (Vblank Crtc crtc ∷ []) ≡ 0 = ap (λ b. one_more_if b 0) (ne_eqb crtc k ne) in omega arith)
        (cases_eq crtc k)
