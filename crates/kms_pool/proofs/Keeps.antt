-- Each step keeps the rule of the queue.
use Rattle.std.proofs.Common.{◌≡◌, ◌≢◌, ℕ, zero, suc, ◌+◌, ◌-◌, ◌<◌, List, [], ◌∷◌, ◌++◌, length, map, set, sym, ap, ◌∙◌, subst, refl}
use Rattle.std.proofs.Common.{⊎_elim, arith, append_assoc}
use Rattle.std.specs.List.{flat_map}
use Rattle.std.specs.Prelude.{IsPermutation}
use Rattle.std.proofs.lemmas.List.{map-append}
use Rattle.std.proofs.lemmas.List.Sorted.{IsPermutation-refl, IsPermutation-cons, IsPermutation-middle, IsPermutation-append_right}
use Rattle.std.proofs.lemmas.List.Sorted.{IsPermutation-sym, IsPermutation-to_front, IsPermutation-trans}
use mathlib.Core.Option.{some, some-ne-none}
use lib.ListN.{get_elem?}
use Rattle.crossbeam_queue.specs.Fifo.{Pushes, Pops, Forks, Merges, Learns}
use Rattle.crossbeam_queue.proofs.Lists.{at_snoc}
use Rattle.kms_pool.specs.declared.rules.Hand.{Hand}
use Rattle.kms_pool.specs.Rules.{hand, IsBalanced, Tells}
use Rattle.std.proofs.lemmas.List.Sums.{sum_by_push}
use Rattle.kms_model.proofs.SumLemmas.{sum_put, sum_two}
use Rattle.kms_pool.proofs.Lists.{around, flat_same, flat_snoc, flat_only, each_put, no_items}

module _ {S N : Type 0} (name : S → N) where
  abbrev Rule : List S → List (Hand N) → Type 0
  Rule = IsBalanced name

  -- a pass without parts has nothing
  abbrev IsSpent : Hand N → Type 0
  IsSpent v = v.parts ≡ 0 → (v.brought ≡ []) × (v.held ≡ [])

  brought : Hand N → List N
  brought v = v.brought

  held : Hand N → List N
  held v = v.held

  -- the lists of one view, and the others', before and after a step that moves one player
  moves : (items more : List S) (views : List (Hand N)) (pass : ℕ) (v w : Hand N) → get_elem? views pass ≡ some v
      → IsPermutation (flat_map (λ u. u.brought) views) (map name items ++ flat_map (λ u. u.held) views)
      → ((b h : List N) → IsPermutation (v.brought ++ b) (map name items ++ (v.held ++ h))
      → IsPermutation (w.brought ++ b) (map name more ++ (w.held ++ h)))
      → IsPermutation (flat_map (λ u. u.brought) (set views pass w)) (map name more ++ flat_map (λ u. u.held) (set views pass w))
  moves items more views pass v w at all step =
      let b = around (λ (u : Hand N). u.brought) views pass v at in
      let h = around (λ (u : Hand N). u.held) views pass v at in
      let old : IsPermutation (v.brought ++ b.others) (map name items ++ (v.held ++ h.others)) =
      IsPermutation-trans _ _ _ (IsPermutation-sym _ _ b.before)
      (IsPermutation-trans _ _ _ all (IsPermutation-append_right (map name items) _ _ h.before)) in
      IsPermutation-trans _ _ _ (b.after w) (IsPermutation-trans _ _ _ (step b.others h.others old)
      (IsPermutation-append_right (map name more) _ _ (IsPermutation-sym _ _ (h.after w))))

  pub begins : Rule [] (hand 32 [] [] ∷ [])
  begins = record {
    parts = refl;
    all = IsPermutation-refl [];
    spent = each_put IsSpent (hand 32 [] [] ∷ []) 0 (hand 32 [] []) (λ z. (refl, refl)) (λ j d ne e. absurd (none j d ne e));
  }
    where
      none : (j : ℕ) (d : Hand N) → j ≢ 0 → get_elem? (hand 32 [] [] ∷ []) j ≡ some d → ⊥
      none zero d ne e = ne refl
      none (suc j) d ne e = some-ne-none d (sym e)

  -- names with one more at the back, before others
  snoc_names : (items : List S) (x : S) (h : List N) → map name (items ++ x ∷ []) ++ h ≡ map name items ++ name x ∷ h
  snoc_names items x h = ap (λ l. l ++ h) (map-append name items (x ∷ [])) ∙ append_assoc (map name items) (name x ∷ []) h

  pub brings : (n pass : ℕ) (v : Hand N) (x : S) → 0 < v.parts → Pushes Rule n pass v x (λ w. w ≡ hand v.parts (name x ∷ v.brought) v.held)
  brings n pass v x live items views room r at = let w : Hand N = hand v.parts (name x ∷ v.brought) v.held in (
    w,
    record {
      parts = let p = sum_put (λ u. u.parts) views pass v w at in let q = r.parts in omega arith;
      all = moves items (items ++ x ∷ []) views pass v w at r.all (λ b h old.
          subst (IsPermutation (name x ∷ (v.brought ++ b))) (sym (snoc_names items x (v.held ++ h)))
          (IsPermutation-trans _ _ _ (IsPermutation-cons (name x) _ _ old)
          (IsPermutation-sym _ _ (IsPermutation-middle (map name items) (name x) (v.held ++ h)))));
      spent = each_put IsSpent views pass w (λ z. absurd (omega arith)) (λ j d _ e. r.spent j d e);
    },
    refl,
  )

  pub takes : (pass : ℕ) (v : Hand N) → 0 < v.parts → Pops Rule pass v (λ x w. w ≡ hand v.parts v.brought (name x ∷ v.held))
  takes pass v live x items views r at = let w : Hand N = hand v.parts v.brought (name x ∷ v.held) in (
    w,
    record {
      parts = let p = sum_put (λ u. u.parts) views pass v w at in let q = r.parts in omega arith;
      all = moves (x ∷ items) items views pass v w at r.all (λ b h old.
          IsPermutation-trans _ _ _ old (IsPermutation-sym _ _ (IsPermutation-middle (map name items) (name x) (v.held ++ h))));
      spent = each_put IsSpent views pass w (λ z. absurd (omega arith)) (λ j d _ e. r.spent j d e);
    },
    refl,
  )

  pub puts_back : (n pass : ℕ) (v : Hand N) (x : S) → 0 < v.parts → v.held ≡ name x ∷ []
      → Pushes Rule n pass v x (λ w. w ≡ hand v.parts v.brought [])
  puts_back n pass v x live one items views room r at = let w : Hand N = hand v.parts v.brought [] in (
    w,
    record {
      parts = let p = sum_put (λ u. u.parts) views pass v w at in let q = r.parts in omega arith;
      all = moves items (items ++ x ∷ []) views pass v w at r.all (λ b h old.
          subst (IsPermutation (v.brought ++ b)) (ap (λ l. map name items ++ (l ++ h)) one ∙ sym (snoc_names items x h)) old);
      spent = each_put IsSpent views pass w (λ z. absurd (omega arith)) (λ j d _ e. r.spent j d e);
    },
    refl,
  )

  pub forks : (pass : ℕ) (v : Hand N) → 1 < v.parts → Forks Rule pass v (hand (v.parts - 1) v.brought v.held) (hand 1 [] [])
  forks pass v more items views r at =
      let w : Hand N = hand (v.parts - 1) v.brought v.held in
      let u : Hand N = hand 1 [] [] in
      let vs : List (Hand N) = set views pass w in
      let same_brought = flat_snoc (λ (z : Hand N). z.brought) vs u refl ∙ flat_same (λ (z : Hand N). z.brought) views pass v w at refl in
      let same_held = flat_snoc (λ (z : Hand N). z.held) vs u refl ∙ flat_same (λ (z : Hand N). z.held) views pass v w at refl in record {
        parts = let p = sum_put (λ z. z.parts) views pass v w at in let s = sum_by_push (λ z. z.parts) vs u in let q = r.parts
            in omega arith;
        all = subst (λ (l : List N × List N). IsPermutation l.0 (map name items ++ l.1)) (λ i. (sym same_brought i, sym same_held i)) r.all;
        spent = λ j d e. ⊎_elim (each_put IsSpent views pass w (λ z. absurd (omega arith)) (λ j d _ e. r.spent j d e) j d)
            (λ (is : u ≡ d) (z : d.parts ≡ 0). let p : u.parts ≡ d.parts = ap (λ (y : Hand N). y.parts) is in absurd (omega arith))
            (at_snoc vs u d j e);
      }

  pub merges : (pass : ℕ) (v : Hand N) (other : ℕ) (u : Hand N) → 0 < v.parts → u.brought ≡ [] → u.held ≡ []
      → Merges Rule pass v other u (hand (v.parts + u.parts) v.brought v.held) (hand 0 [] [])
  merges pass v other u live none empty items views r at two there =
      let w : Hand N = hand (v.parts + u.parts) v.brought v.held in
      let vs : List (Hand N) = set views pass w in
      let gone : Hand N = hand 0 [] [] in
      let same_brought = flat_same (λ (z : Hand N). z.brought) vs other u gone there (sym none) ∙ flat_same (λ (z : Hand N). z.brought)
      views pass v w at refl in
      let same_held = flat_same (λ (z : Hand N). z.held) vs other u gone there (sym empty) ∙ flat_same (λ (z : Hand N). z.held) views pass v
      w at refl in record {
        parts = let p = sum_put (λ z. z.parts) views pass v w at in let s = sum_put (λ z. z.parts) vs other u gone there in let q = r.parts
            in omega arith;
        all = subst (λ (l : List N × List N). IsPermutation l.0 (map name items ++ l.1)) (λ i. (sym same_brought i, sym same_held i)) r.all;
        spent = each_put IsSpent vs other gone (λ _. (refl, refl))
            (λ j d _ e. each_put IsSpent views pass w (λ z. absurd (omega arith)) (λ j d _ e. r.spent j d e) j d e);
      }

  -- who has all parts knows that no other pass has anything
  pub learns : (pass : ℕ) (v : Hand N) → Learns Rule pass v (Tells name v)
  learns pass v items views r at whole =
      let idle : (j : ℕ) (d : Hand N) → j ≢ pass → get_elem? views j ≡ some d → d.parts
      ≡ 0 = λ j d ne e. let s = sum_two (λ z. z.parts) views j pass d v ne e at in let q = r.parts in omega arith in
      let own_brought = flat_only (λ (z : Hand N). z.brought) views pass v at (λ j d ne e. (r.spent j d e (idle j d ne e)).0) in
      let own_held = flat_only (λ (z : Hand N). z.held) views pass v at (λ j d ne e. (r.spent j d e (idle j d ne e)).1) in
      subst (λ (l : List N × List N). IsPermutation l.0 (map name items ++ l.1)) (λ i. (own_brought i, own_held i)) r.all

  -- one more player in the hand, and among those that were taken out
  pub one_more : (names : List N) (taken : List S) (x : S) → IsPermutation names (map name taken)
      → IsPermutation (name x ∷ names) (map name (taken ++ x ∷ []))
  one_more names taken x all =
      subst (IsPermutation (name x ∷ names)) (sym (map-append name taken (x ∷ [])))
      (IsPermutation-trans _ _ _ (IsPermutation-cons (name x) _ _ all)
      (IsPermutation-sym _ _ (IsPermutation-to_front (map name taken) (name x))))

  -- one more player who was brought, and one less to bring
  pub one_less : (all names : List N) (x : S) (rest : List S) → IsPermutation all (names ++ map name (x ∷ rest))
      → IsPermutation all ((name x ∷ names) ++ map name rest)
  one_less all names x rest h = IsPermutation-trans _ _ _ h (IsPermutation-middle names (name x) (map name rest))

  -- all players are out of the queue
  pub none_left : (v : Hand N) (names : List N) (items taken : List S) → length items ≡ 0
      → IsPermutation v.brought (map name items ++ v.held) → v.brought ≡ names → IsPermutation v.held (map name taken)
      → IsPermutation names (map name taken)
  none_left v names items taken empty all same out =
      subst (λ l. IsPermutation l (map name taken)) same
      (IsPermutation-trans _ _ _ (subst (λ l. IsPermutation v.brought (l ++ v.held)) (no_items name items empty) all) out)
