-- Things by their ids and labels, as they are made and closed.
use Rattle.std.proofs.Common.{◌≡◌, ◌≢◌, ℕ, ◌+◌, ◌<◌, ◌≤◌, Bool, true, false, List, [], ◌∷◌, ◌++◌, length, Option, Some, inl, inr, arith}
use Rattle.std.proofs.Common.{refl, sym, ap, ◌∙◌}
use Rattle.std.specs.Prelude.{◌==◌, ℤ, pos, if◌then◌else◌, find}
use Rattle.std.specs.Ordering.{int_eq}
use Rattle.std.proofs.lemmas.Bool.{cases_Bool, cond-true, cond-false, eq-eqb, eqb-true, false_from_ne_true, false≢true}
use Rattle.std.proofs.lemmas.Bool.Decides.{Decides-int_eq}
use Rattle.kms_model.specs.declared.worlds.Content.{Content}
use Rattle.kms_model.specs.declared.worlds.Thing.{Thing}
use Rattle.kms_model.specs.Device.World.{thing_labelled, thing_numbered, thing_with_id}
use Rattle.kms_model.specs.Device.States.{framebuffer_of, framebuffer_in, gamma_of, gamma_in, mode_of, mode_in}
use Rattle.kms_model.specs.Device.Sound.{AreNumbered}
use Rattle.kms_model.specs.Device.Closing.{closed_if, closed_in}
use Rattle.kms_model.proofs.Items.{IsIn}

-- a thing's id is a number of the count
pub record IsNumberedIn (n : ℕ) (things : List Thing) (id : ℕ) : Type 0 where
  pub low : n ≤ id
  pub high : id < n + length things

numbered_further : (n : ℕ) (t : Thing) (ts : List Thing) (id : ℕ) → IsNumberedIn (n + 1) ts id → IsNumberedIn n (t ∷ ts) id
numbered_further n t ts id is = record { low = omega (arith, is.low); high = omega (arith, is.high) }

pub ids-numbered : (n : ℕ) (things : List Thing) (t : Thing) → AreNumbered n things → IsIn t things → IsNumberedIn n things t.id
ids-numbered n [] t numbered is = absurd is
ids-numbered n (u ∷ us) t numbered (inl same) =
    let e : t.id ≡ n = ap (λ x. x.id) (sym same) ∙ numbered.0 in record { low = omega arith; high = omega arith }
ids-numbered n (u ∷ us) t numbered (inr rest) = numbered_further n u us t.id (ids-numbered (n + 1) us t numbered.1 rest)

int_eq-same : (n : ℕ) → int_eq (pos n) (pos n) ≡ true
int_eq-same n = (Decides-int_eq (pos n) (pos n)).1 refl

int_eq-other : (m n : ℕ) → m ≢ n → int_eq (pos m) (pos n) ≡ false
int_eq-other m n other = false_from_ne_true (int_eq (pos m) (pos n)) (λ e. let same = (Decides-int_eq (pos m) (pos n)).0 e in other cc)

-- the tests of an id and of a value that is that id tell the same
same_test : (m n : ℕ) → int_eq (pos m) (pos n) ≡ (m == n)
same_test m n =
    elim (cases_Bool (m == n)) [
      | inl is ↦ (let e : m ≡ n = eqb-true m n is in ap (λ k. int_eq (pos m) (pos k)) (sym e) ∙ int_eq-same m ∙ sym is)
      | inr other ↦ int_eq-other m n (λ e. false≢true (sym other ∙ eq-eqb m n e)) ∙ sym other
    ]

-- a thing is found by its id
pub thing_numbered-id : (n : ℕ) (things : List Thing) (t : Thing) → AreNumbered n things → IsIn t things → thing_numbered things (pos t.id)
    ≡ Some t
thing_numbered-id n [] t numbered is = absurd is
thing_numbered-id n (u ∷ us) t numbered (inl same) =
    let e : int_eq (pos u.id) (pos t.id) ≡ true = rw same (int_eq-same t.id) in
    cond-true (int_eq (pos u.id) (pos t.id)) (Some u) (thing_numbered us (pos t.id)) e ∙ ap Some same
thing_numbered-id n (u ∷ us) t numbered (inr rest) =
    let later : IsNumberedIn (n + 1) us t.id = ids-numbered (n + 1) us t numbered.1 rest in
    let first : u.id ≡ n = numbered.0 in
    cond-false (int_eq (pos u.id) (pos t.id)) (Some u) (thing_numbered us (pos t.id))
    (int_eq-other u.id t.id (λ e. omega (arith, e, first, later.low)))
    ∙ thing_numbered-id (n + 1) us t numbered.1 rest

-- what a search finds is an item
pub find-in : {A : Type 0} (p : A → Bool) (xs : List A) (x : A) → find p xs ≡ Some x → IsIn x xs
find-in p [] x found = absurd cc
find-in {A} p (y ∷ ys) x found =
    elim (cases_Bool (p y)) [
      | inl is ↦ inl (let e : Some y ≡ Some x = sym (cond-true (p y) (Some y) (find p ys) is) ∙ found in cc)
      | inr other ↦ inr (find-in p ys x (sym (cond-false (p y) (Some y) (find p ys) other) ∙ found))
    ]

-- and it passes the test
pub find-holds : {A : Type 0} (p : A → Bool) (xs : List A) (x : A) → find p xs ≡ Some x → p x ≡ true
find-holds p [] x e = absurd cc
find-holds {A} p (y ∷ ys) x e =
    elim (cases_Bool (p y)) [
      | inl is ↦ (let same : Some y ≡ Some x = sym (cond-true (p y) (Some y) (find p ys) is) ∙ e in let yx : y ≡ x = cc
          in ap p (sym yx) ∙ is)
      | inr other ↦ find-holds p ys x (sym (cond-false (p y) (Some y) (find p ys) other) ∙ e)
    ]

same_find : (things : List Thing) (id : ℕ) → thing_numbered things (pos id) ≡ thing_with_id things id
same_find [] id = refl
same_find (u ∷ us) id = ap (λ b. if b then Some u else thing_numbered us (pos id)) (same_test u.id id) ∙ ap
    (λ o. if u.id == id then Some u else o) (same_find us id)

-- what a property's value finds is found by its id
pub found_with_id : (things : List Thing) (number : ℤ) (t : Thing) → thing_numbered things number ≡ Some t → thing_with_id things t.id
    ≡ Some t
found_with_id things number t found =
    let is : pos t.id ≡ number = (Decides-int_eq (pos t.id) number).0 (find-holds (λ u. int_eq (pos u.id) number) things t found) in
    sym (same_find things t.id) ∙ ap (thing_numbered things) is ∙ found

-- the thing under a label is found by its id
pub thing_numbered-labelled : (things : List Thing) (label : ℕ) (t : Thing) → AreNumbered 1000 things → thing_labelled things label ≡ Some t
    → thing_numbered things (pos t.id) ≡ Some t
thing_numbered-labelled things label t numbered found =
    thing_numbered-id 1000 things t numbered (find-in (λ u. u.label == label) things t found)

-- a thing more, with the next id
pub numbered-push : (n : ℕ) (things : List Thing) (t : Thing) → AreNumbered n things → t.id ≡ n + length things
    → AreNumbered n (things ++ t ∷ [])
numbered-push n [] t numbered next = (next ∙ omega arith, tt)
numbered-push n (u ∷ us) t numbered next = (numbered.0, numbered-push (n + 1) us t numbered.1 (next ∙ omega arith))

closed_id : (id : ℕ) (t : Thing) → (closed_if id t).id ≡ t.id
closed_id id t = elim (cases_Bool (t.id == id)) [ inl is ↦ rw is refl | inr other ↦ rw other refl ]

closed_content : (id : ℕ) (t : Thing) → (closed_if id t).content ≡ t.content
closed_content id t = elim (cases_Bool (t.id == id)) [ inl is ↦ rw is refl | inr other ↦ rw other refl ]

pub numbered-closed : (n : ℕ) (things : List Thing) (id : ℕ) → AreNumbered n things → AreNumbered n (closed_in things id)
numbered-closed n [] id numbered = tt
numbered-closed n (u ∷ us) id numbered = (closed_id id u ∙ numbered.0, numbered-closed (n + 1) us id numbered.1)

-- Things that are seen alike

-- two lists of things show the same framebuffer, the same mode and the same gamma table under a number
pub record IsSeenAlike (xs ys : List Thing) (number : ℤ) : Type 0 where
  pub fb : framebuffer_of (thing_numbered xs number) ≡ framebuffer_of (thing_numbered ys number)
  pub mode : mode_of (thing_numbered xs number) ≡ mode_of (thing_numbered ys number)
  pub gamma : gamma_of (thing_numbered xs number) ≡ gamma_of (thing_numbered ys number)

pub seen-same : (xs ys : List Thing) (number : ℤ) → thing_numbered xs number ≡ thing_numbered ys number → IsSeenAlike xs ys number
seen-same xs ys number same = record { fb = ap framebuffer_of same; mode = ap mode_of same; gamma = ap gamma_of same }

module _ {A : Type 0} (of_thing : Option Thing → Option A) (of_content : Content → Option A)
    (reads : (t : Thing) → of_thing (Some t) ≡ of_content t.content) where
  closed-cond : (b : Bool) (t u : Thing) (xs ys : List Thing) (number : ℤ) → t.content ≡ u.content → of_thing (thing_numbered xs number)
      ≡ of_thing (thing_numbered ys number)
      → of_thing (if b then Some t else thing_numbered xs number) ≡ of_thing (if b then Some u else thing_numbered ys number)
  closed-cond true t u xs ys number content rest = reads t ∙ ap of_content content ∙ sym (reads u)
  closed-cond false t u xs ys number content rest = rest

  closed-reads : (things : List Thing) (id : ℕ) (number : ℤ) → of_thing (thing_numbered things number)
      ≡ of_thing (thing_numbered (closed_in things id) number)
  closed-reads [] id number = refl
  closed-reads (t ∷ ts) id number =
      let same : (closed_if id t).id ≡ t.id = closed_id id t in
      rw same (closed-cond (int_eq (pos t.id) number) t (closed_if id t) ts (closed_in ts id) number (sym (closed_content id t))
      (closed-reads ts id number))

-- closing a thing changes nothing that is seen of things
pub seen-closed : (things : List Thing) (id : ℕ) (number : ℤ) → IsSeenAlike things (closed_in things id) number
seen-closed things id number = record {
  fb = closed-reads framebuffer_of framebuffer_in (λ t. refl) things id number;
  mode = closed-reads mode_of mode_in (λ t. refl) things id number;
  gamma = closed-reads gamma_of gamma_in (λ t. refl) things id number;
}

find-push : (things : List Thing) (t : Thing) (number : ℤ) → int_eq (pos t.id) number ≡ false → thing_numbered things number
    ≡ thing_numbered (things ++ t ∷ []) number
find-push [] t number other = rw other refl
find-push (u ∷ us) t number other = ap (λ o. if int_eq (pos u.id) number then Some u else o) (find-push us t number other)

-- a thing more changes nothing that is seen under other numbers than its id
pub seen-push : (things : List Thing) (t : Thing) (number : ℤ) → number ≢ pos t.id → IsSeenAlike things (things ++ t ∷ []) number
seen-push things t number other =
    seen-same things (things ++ t ∷ []) number
    (find-push things t number (false_from_ne_true (int_eq (pos t.id) number) (λ e. other (sym ((Decides-int_eq (pos t.id) number).0 e)))))
