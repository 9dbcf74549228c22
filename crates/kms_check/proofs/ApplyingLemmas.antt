-- Sets applied one after the other.
use Rattle.std.proofs.Common.{◌≡◌, ℕ, ◌+◌, ◌<◌, List, [], ◌∷◌, ◌++◌, length, get_or, take, refl, sym, ap, ◌∙◌, subst, arith}
use Rattle.std.specs.Prelude.{ℤ, All, IsTrue}
use Rattle.std.proofs.lemmas.List.{take_more, take_all}
use Rattle.kms_model.specs.declared.objects.Topology.{Topology}
use Rattle.kms_model.specs.declared.sets.Set.{Set}
use Rattle.kms_model.specs.declared.states.Duplicates.{Duplicates}
use Rattle.kms_model.specs.declared.worlds.Setting.{Setting}
use Rattle.kms_model.specs.declared.worlds.Thing.{Thing}
use Rattle.kms_model.specs.Request.Agreement.{AgreesNew}
use Rattle.kms_model.specs.Request.Sets.{set_in}
use Rattle.kms_state.specs.Changes.{Sets}
use Rattle.kms_state.specs.Places.{is_duplicated, old_states}
use Rattle.kms_state.proofs.Slots.{same_duplicated}
use Rattle.kms_check.specs.Applying.{set_all, IsApplicable, IsNumberedBy, SetsAll}

-- New states that agree with values before sets agree, after the first of them, with the values after those.
abbrev pub SetsFirst : Duplicates → List Set → ℕ → Duplicates → Type 0
SetsFirst before sets k after = (t : Topology) (things : List Thing) (values : List Setting) (number : Set → ℤ)
    → All (IsNumberedBy t things number) sets → AgreesNew t things values before
    → AgreesNew t things (set_all values number (take k sets)) after

set_all-push : (values : List Setting) (number : Set → ℤ) (sets : List Set) (s : Set) → set_all values number (sets ++ s ∷ [])
    ≡ set_in (set_all values number sets) s (number s)
set_all-push values number [] s = refl
set_all-push values number (x ∷ xs) s = set_all-push (set_in values x (number x)) number xs s

-- one set more
pub sets-more : (before now after : Duplicates) (sets : List Set) (k : ℕ) (d : Set) → k < length sets → Sets now (get_or sets k d) after
    → SetsFirst before sets k now → SetsFirst before sets (k + 1) after
sets-more before now after sets k d within step first = λ t things values number numbered agrees.
    let s : Set = get_or sets k d in
    let here : IsNumberedBy t things number (get_or sets k d) = numbered k d within in
    let next : AgreesNew t things (set_in (set_all values number (take k sets)) s (number s)) after = step t things
    (set_all values number (take k sets)) (number s) here.object (first t things values number numbered agrees) here.number_is in
    let list : take (k + 1) sets ≡ take k sets ++ s ∷ [] = take_more sets k d within in
    subst (λ vs. AgreesNew t things vs after) (sym (ap (set_all values number) list ∙ set_all-push values number (take k sets) s)) next

-- all sets
pub sets-all : (before after : Duplicates) (sets : List Set) (k : ℕ) → length sets ≡ k → SetsFirst before sets k after
    → SetsAll before sets after
sets-all before after sets k all first = λ t things values number numbered agrees.
    subst (λ xs. AgreesNew t things (set_all values number xs) after) (take_all k sets (omega arith))
    (first t things values number numbered agrees)

-- a set is ready while old states stay
pub ready-later : (before now : Duplicates) (sets : List Set) (k : ℕ) (d : Set) → k < length sets → All (IsApplicable before) sets
    → old_states now ≡ old_states before → IsTrue (is_duplicated now (get_or sets k d).object.0)
ready-later before now sets k d within ready same =
    let here : IsApplicable before (get_or sets k d) = ready k d within in
    same_duplicated before now (get_or sets k d).object.0 same ∙ here.object
