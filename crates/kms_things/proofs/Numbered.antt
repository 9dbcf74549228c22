-- Things that are numbered in the order of making stand at the places that their ids say.
use Rattle.std.proofs.Common.{◌≡◌, ℕ, zero, suc, ◌+◌, ◌-◌, ◌≤◌, ◌<◌, Bool, true, false, cond, List, [], ◌∷◌, ◌++◌, length, Option, Some}
use Rattle.std.proofs.Common.{None, eqb, refl, sym, ap, ◌∙◌, subst, inl, inr, arith, Bor, set}
use Rattle.std.specs.Prelude.{slice_get, MatchOption, IfSome, option_copied}
use Rattle.std.specs.Option.{option_map}
use Rattle.std.proofs.Math.ListN.{get_or}
use Rattle.std.proofs.lemmas.Bool.Decides.{nat_tests, eqb_tells}
use Rattle.std.proofs.lemmas.Option.{slice_get_past, slice_get_read}
use Rattle.std.proofs.lemmas.List.{length-append}
use Rattle.kms_model.specs.declared.worlds.Thing.{Thing}
use Rattle.kms_model.specs.Device.World.{thing_labelled, thing_with_id}
use Rattle.kms_model.specs.Device.Closing.{closed_in}
use Rattle.kms_model.specs.Firsts.{or_else}
use Rattle.kms_model.specs.Device.Sound.{AreNumbered}
use Rattle.kms_model.proofs.FramedLemmas.{labelled_with_id}
use Rattle.kms_things.specs.Index.{Ids, IsIndex, id_labelled, id_under}
use Rattle.kms_things.proofs.Images.{apart_below}

not_same : (a b : ℕ) → a < b → eqb b a ≡ false
not_same a b lt = grind (arith, nat_tests)

same : (a : ℕ) → eqb a a ≡ true
same a = grind (arith, nat_tests)

-- no thing has a lower id
pub none_below : (n id : ℕ) (ts : List Thing) → AreNumbered n ts → id < n → thing_with_id ts id ≡ None
none_below n id [] h lt = refl
none_below n id (t ∷ ts) h lt = rw (h.0, not_same id n lt) (none_below (n + 1) id ts h.1 (omega arith))

not_first : (n k : ℕ) → eqb n (n + suc k) ≡ false
not_first n k = grind (arith, nat_tests)

next_id : (n k : ℕ) → n + suc k ≡ n + 1 + k
next_id n k = omega arith

found_at : (n k : ℕ) (ts : List Thing) → AreNumbered n ts → thing_with_id ts (n + k) ≡ slice_get ts k
found_at n k [] h = sym (slice_get_past [] k (omega arith))
found_at n zero (t ∷ ts) h = let e : n + zero ≡ n = omega arith in rw (e, h.0, same n) refl
found_at n (suc k) (t ∷ ts) h =
    rw (h.0, not_first n k) (ap (thing_with_id ts) (next_id n k) ∙ found_at (n + 1) k ts h.1)

-- a thing stands at the place that its id says
pub found : (id : ℕ) (ts : List Thing) → AreNumbered 1000 ts → 1000 ≤ id → thing_with_id ts id ≡ slice_get ts (id - 1000)
found id ts h le = let e : 1000 + (id - 1000) ≡ id = omega arith in ap (thing_with_id ts) (sym e) ∙ found_at 1000 (id - 1000) ts h

-- one thing more
pub length_more : (n : ℕ) (ts : List Thing) (t : Thing) → n ≡ 1000 + length ts → n + 1 ≡ 1000 + length (ts ++ t ∷ [])
length_more n ts t e = let l : length (ts ++ t ∷ []) ≡ length ts + 1 = length-append ts (t ∷ []) in omega (arith, e, l)

-- what a look-up by place answers
pub looked_up : (ts : List Thing) (k : ℕ) (Q : Bor Thing → Type 0) (o : Option (Bor Thing))
    → MatchOption o (length ts ≤ k) (λ x. (k < length ts) × Q x) → IfSome o (λ x. x.now ≡ get_or ts k x.now)
    → option_copied o ≡ slice_get ts k
looked_up ts k Q None past at = sym (slice_get_past ts k past)
looked_up ts k Q (Some x) within at = sym (slice_get_read ts (length ts) k x.now refl within.0 at)

first_apart : (n a b : ℕ) → a ≡ n → n < b → eqb a b ≡ false
first_apart n a b e lt = grind (arith, nat_tests)

first_same : (n a b : ℕ) → a ≡ n → b ≡ n → eqb a b ≡ true
first_same n a b e lt = grind (arith, nat_tests)

by_id : (label id : ℕ) (ts : List Thing) (o : Option Thing) → AreNumbered 1000 ts → thing_labelled ts label ≡ o
    → Some id ≡ option_map (λ t. t.id) o → thing_with_id ts id ≡ o
by_id label id ts None h found e = absurd cc
by_id label id ts (Some t) h found e =
    let v : t.id ≡ id = cc e in
    let P : ℕ → Type 0 = λ n. thing_with_id ts n ≡ Some t in
    subst P v (labelled_with_id 1000 label ts t h found)

-- the thing with the id of a label is the thing that was made under it
pub labelled_by_id : (label id : ℕ) (ts : List Thing) → AreNumbered 1000 ts → Some id ≡ id_labelled ts label
    → thing_with_id ts id ≡ thing_labelled ts label
labelled_by_id label id ts h e = by_id label id ts (thing_labelled ts label) h refl e

labelled_more : (label : ℕ) (ts : List Thing) (t : Thing)
    → thing_labelled (ts ++ t ∷ []) label ≡ or_else (thing_labelled ts label) (cond (eqb t.label label) (Some t) None)
labelled_more label [] t = refl
labelled_more label (u ∷ ts) t =
    elim (eqb_tells u.label label) [ inl here ↦ rw here.0 refl | inr away ↦ rw away.0 (labelled_more label ts t) ]

mapped_else : (o : Option Thing) (b : Bool) (t : Thing)
    → or_else (option_map (λ u. u.id) o) (cond b (Some t.id) None) ≡ option_map (λ u. u.id) (or_else o (cond b (Some t) None))
mapped_else (Some u) b t = refl
mapped_else None true t = refl
mapped_else None false t = refl

-- the index with one thing more
pub indexed_more : (ids more : Ids) (ts : List Thing) (t : Thing) → IsIndex ids ts
    → ((q : ℕ) → id_under more q ≡ or_else (id_under ids q) (cond (eqb t.label q) (Some t.id) None)) → IsIndex more (ts ++ t ∷ [])
indexed_more ids more ts t indexed noted =
    λ q. noted q ∙ ap (λ o. or_else o (cond (eqb t.label q) (Some t.id) None)) (indexed q) ∙ mapped_else (thing_labelled ts q)
    (eqb t.label q) t ∙ ap (option_map (λ (u : Thing). u.id)) (sym (labelled_more q ts t))

-- no thing has a lower id, and so none is closed
pub closed_below : (n id : ℕ) (ts : List Thing) → AreNumbered n ts → id < n → ts ≡ closed_in ts id
closed_below n id [] h lt = refl
closed_below n id (t ∷ ts) h lt =
    let apart : eqb t.id id ≡ false = apart_below n t.id id h.0 lt in
    rw apart (ap (λ us. t ∷ us) (closed_below (n + 1) id ts h.1 (omega arith)))

-- no thing has a higher id
pub closed_past : (n id : ℕ) (ts : List Thing) → AreNumbered n ts → n + length ts ≤ id → ts ≡ closed_in ts id
closed_past n id [] h le = refl
closed_past n id (t ∷ ts) h le =
    let apart : eqb t.id id ≡ false = first_apart n t.id id h.0 (omega arith) in
    rw apart (ap (λ us. t ∷ us) (closed_past (n + 1) id ts h.1 (omega arith)))

-- the thing at a place is closed, and no other
pub closed_at : (n k id : ℕ) (ts : List Thing) (t : Thing) → AreNumbered n ts → id ≡ n + k → k < length ts → t ≡ get_or ts k t
    → set ts k (record t { is_open = false }) ≡ closed_in ts id
closed_at n k id [] t h is lt e = absurd (omega arith)
closed_at n zero id (u ∷ ts) t h is lt e =
    let here : eqb u.id id ≡ true = first_same n u.id id h.0 (omega arith) in
    let tail : ts ≡ closed_in ts id = closed_below (n + 1) id ts h.1 (omega arith) in
    rw (here, e) (ap (λ us. record u { is_open = false } ∷ us) tail)
closed_at n (suc k) id (u ∷ ts) t h is lt e =
    let apart : eqb u.id id ≡ false = first_apart n u.id id h.0 (omega arith) in
    rw apart (ap (λ us. u ∷ us) (closed_at (n + 1) k id ts t h.1 (omega arith) (omega arith) e))

-- what is found by its label is found by its own id
pub labelled_own : (label : ℕ) (ts : List Thing) (o : Option (Bor Thing)) → AreNumbered 1000 ts → option_copied o ≡ thing_labelled ts label
    → IfSome o (λ t. thing_with_id ts t.now.id ≡ Some t.now)
labelled_own label ts None numbered e = tt
labelled_own label ts (Some x) numbered e = labelled_with_id 1000 label ts x.now numbered (sym e)
