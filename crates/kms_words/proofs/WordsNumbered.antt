-- Words with numbers, beside a map that finds them.
use Rattle.std.proofs.Common.{◌≡◌, ℕ, ◌+◌, Bool, true, false, suc, List, [], ◌∷◌, ◌++◌, length, cond, Option, Some, None, refl, sym, subst}
use Rattle.std.proofs.Common.{◌∙◌, arith}
use Rattle.std.specs.Prelude.{option_map}
use Rattle.std.specs.BTreeMap as tree
use Rattle.std.specs.BTreeMap.{BTreeMap}
use Rattle.std.specs.Cmp.{eq_by_cmp_equiv}
use Rattle.std.specs.Cmp.Lexicographic.{slice_cmp, nat_list_cmp_total, nat_list_eq_equiv}
use Rattle.std.specs.List.{AllByRecursion, IsDistinct}
use Rattle.std.specs.Map.{lookup, IsKeyTest, AreApart, KeepsOthers}
use Rattle.std.specs.Ordering.{is_eq, nat_cmp}
use Rattle.std.specs.Str.{bytes_eq}
use Rattle.std.specs.declared.alloc.Global.{Global}
use Rattle.std.specs.declared.vec.Vec.{Vec}
use Rattle.std.proofs.lemmas.Map.Text.{is_eq-slice_cmp}
use Rattle.std.proofs.lemmas.Slice.Eq.{bytes_eq-Decides}
use Rattle.kms_words.specs.Numbered.{AreFound, has_bytes, place_among}

abbrev Key : Type 0
Key = Vec ℕ Global

other_entries : (eq : Key → Key → Bool) (test : Key → Bool) (old new : List (Key × ℕ)) → KeepsOthers eq test old new → (other : Key → Bool)
    → IsKeyTest eq other → AreApart test other → lookup other new ≡ lookup other old
unfolding KeepsOthers
other_entries eq test old new h = h

apart : (bs cs ks : List ℕ) → bytes_eq bs cs ≡ false → is_eq (slice_cmp nat_cmp bs ks) ≡ true → is_eq (slice_cmp nat_cmp cs ks) ≡ false
apart bs cs ks n y =
    is_eq-slice_cmp cs ks ∙ (nat_list_eq_equiv.symm cs ks ∙ sym (nat_list_eq_equiv.congr bs ks cs (sym (is_eq-slice_cmp bs ks) ∙ y)) ∙ n)

by_bytes : (t : Bool) (f g : List ℕ → Option ℕ) (bs cs : List ℕ) (w : Option ℕ) → bytes_eq bs cs ≡ t → g bs ≡ w
    → (bytes_eq bs cs ≡ false → g cs ≡ f cs) → g cs ≡ cond t w (f cs)
by_bytes true f g bs cs w e here other = subst (λ (l : List ℕ). g l ≡ w) ((bytes_eq-Decides bs cs).0 e) here
by_bytes false f g bs cs w e here other = other e

-- what the map has at any bytes after a change at some
pub found_after : (bs : List ℕ) (m n : BTreeMap Key ℕ) (w : Option ℕ)
    → tree.UpdatesBy (λ x y. slice_cmp nat_cmp x.items y.items) (λ k. slice_cmp nat_cmp bs k.items) m n w
    → (cs : List ℕ) → lookup (has_bytes cs) n.entries ≡ cond (bytes_eq bs cs) w (lookup (has_bytes cs) m.entries)
found_after bs m n w h cs =
    by_bytes (bytes_eq bs cs) (λ ds. lookup (has_bytes ds) m.entries) (λ ds. lookup (has_bytes ds) n.entries) bs cs w refl h.1
    (λ e. other_entries _ _ _ _ h.3 _ (λ x y. (eq_by_cmp_equiv nat_list_cmp_total).congr cs x.items y.items) (λ k. apart bs cs k.items e))

-- A word behind the others

last_alone : (w v : List ℕ) → place_among v (w ∷ []) ≡ cond (bytes_eq w v) (Some 0) None
last_alone w v = rw (nat_list_eq_equiv.symm v w) refl

pub absent_head : (t : Bool) (o : Option ℕ) → cond t (Some 0) (option_map (λ n. n + 1) o) ≡ None → (t ≡ false) × (o ≡ None)
absent_head true o e = absurd cc
absent_head false None e = (refl, refl)
absent_head false (Some n) e = absurd cc

last_step : (s t : Bool) (count : ℕ) (o after : Option ℕ) → (s ≡ true → t ≡ false) → after ≡ cond s (Some count) o
    → cond t (Some 0) (option_map (λ n. n + 1) after) ≡ cond s (Some (count + 1)) (cond t (Some 0) (option_map (λ n. n + 1) o))
last_step true true count o after apart e = absurd (false_not_true (apart refl))
  where
    false_not_true : true ≡ false → ⊥
    false_not_true e = cc
last_step true false count o after apart e = rw e refl
last_step false true count o after apart e = refl
last_step false false count o after apart e = rw e refl

-- what is found where a new word is put behind the others
pub number_last : (ws : List (List ℕ)) (w v : List ℕ) → place_among w ws ≡ None
    → place_among v (ws ++ w ∷ []) ≡ cond (bytes_eq w v) (Some (length ws)) (place_among v ws)
number_last [] w v none = last_alone w v
number_last (x ∷ ws) w v none =
    let head : (bytes_eq w x ≡ false) × (place_among w ws ≡ None) = absent_head (bytes_eq w x) (place_among w ws) none in
    let apart : bytes_eq w v ≡ true → bytes_eq v x
    ≡ false = λ e. subst (λ (u : List ℕ). bytes_eq u x ≡ false) ((bytes_eq-Decides w v).0 e) head.0 in
    rw (add_one (length ws)) (last_step (bytes_eq w v) (bytes_eq v x) (length ws) (place_among v ws) (place_among v (ws ++ w ∷ [])) apart
    (number_last ws w v head.1))
  where
    add_one : (n : ℕ) → suc n ≡ n + 1
    add_one n = omega arith

all_but : (v w : List ℕ) (ws : List (List ℕ)) → AllByRecursion (λ y. bytes_eq v y ≡ false) ws → bytes_eq v w ≡ false
    → AllByRecursion (λ y. bytes_eq v y ≡ false) (ws ++ w ∷ [])
all_but v w [] all e = (e, tt)
all_but v w (x ∷ ws) all e = (all.0, all_but v w ws all.1 e)

pub differ_last : (ws : List (List ℕ)) (w : List ℕ) → IsDistinct bytes_eq ws → place_among w ws ≡ None → IsDistinct bytes_eq (ws ++ w ∷ [])
unfolding IsDistinct
differ_last [] w d none = (tt, tt)
differ_last (x ∷ ws) w d none =
    let head : (bytes_eq w x ≡ false) × (place_among w ws ≡ None) = absent_head (bytes_eq w x) (place_among w ws) none in
    (all_but x w ws d.0 (nat_list_eq_equiv.symm x w ∙ head.0), differ_last ws w d.1 head.1)

front_but : (v w : List ℕ) (ws : List (List ℕ)) → AllByRecursion (λ y. bytes_eq v y ≡ false) (ws ++ w ∷ [])
    → AllByRecursion (λ y. bytes_eq v y ≡ false) ws × (bytes_eq v w ≡ false)
front_but v w [] all = (tt, all.0)
front_but v w (x ∷ ws) all = ((all.0, (front_but v w ws all.1).0), (front_but v w ws all.1).1)

-- of words that differ the last is not among those before it
pub differ_front : (ws : List (List ℕ)) (w : List ℕ) → IsDistinct bytes_eq (ws ++ w ∷ [])
    → IsDistinct bytes_eq ws × (place_among w ws ≡ None)
unfolding IsDistinct
differ_front [] w d = (tt, refl)
differ_front (x ∷ ws) w d =
    let f : AllByRecursion (λ y. bytes_eq x y ≡ false) ws × (bytes_eq x w ≡ false) = front_but x w ws d.0 in
    let more : IsDistinct bytes_eq ws × (place_among w ws ≡ None) = differ_front ws w d.1 in
    ((f.0, more.0), rw (nat_list_eq_equiv.symm w x ∙ f.1, more.1) refl)

-- Changes of the map

-- a new word put behind the others
pub numbered_last : (ws : List (List ℕ)) (key : Key) (word : List ℕ) (m n : BTreeMap Key ℕ) → AreFound ws m.entries → key.items ≡ word
    → place_among word ws ≡ None
    → tree.UpdatesBy (λ x y. slice_cmp nat_cmp x.items y.items) (λ k. slice_cmp nat_cmp key.items k.items) m n (Some (length ws))
    → AreFound (ws ++ word ∷ []) n.entries
numbered_last ws key word m n is same none h = record {
  differ = differ_last ws word is.differ none;
  found = λ v. found_after key.items m n (Some (length ws)) h v ∙ rw (same, is.found v) (sym (number_last ws word v none));
}

taken_back : (s : Bool) (count : ℕ) (o : Option ℕ) → (s ≡ true → o ≡ None) → cond s None (cond s (Some count) o) ≡ o
taken_back true count o none = sym (none refl)
taken_back false count o none = refl

-- the last word taken away
pub numbered_front : (ws : List (List ℕ)) (word : List ℕ) (m n : BTreeMap Key ℕ) → AreFound (ws ++ word ∷ []) m.entries
    → tree.UpdatesBy (λ x y. slice_cmp nat_cmp x.items y.items) (λ k. slice_cmp nat_cmp word k.items) m n None → AreFound ws n.entries
numbered_front ws word m n is h =
    let front : IsDistinct bytes_eq ws × (place_among word ws ≡ None) = differ_front ws word is.differ in
    record {
      differ = front.0;
      found = λ v.
          let gone : bytes_eq word v ≡ true → place_among v ws
          ≡ None = λ e. subst (λ (u : List ℕ). place_among u ws ≡ None) ((bytes_eq-Decides word v).0 e) front.1 in
          found_after word m n None h v ∙ rw (is.found v, number_last ws word v front.1)
          (taken_back (bytes_eq word v) (length ws) (place_among v ws) gone);
    }

-- no words
pub none_numbered : AreFound [] []
unfolding IsDistinct
none_numbered = record { differ = tt; found = λ w. refl }
