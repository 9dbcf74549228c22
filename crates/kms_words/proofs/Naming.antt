-- Words with numbers, as names in order of first occurrence.
use Rattle.std.proofs.Common.{◌≡◌, ℕ, ◌+◌, ◌<◌, ◌≤◌, ◌^◌, Bool, true, false, zero, suc, List, [], ◌∷◌, ◌++◌, map, length, take, length-take}
use Rattle.std.proofs.Common.{cond, not, Option, Some, None, refl, sym, ap, subst, ◌∙◌, arith}
use Rattle.std.specs.Prelude.{◌||◌, option_map, slice_get}
use Rattle.std.specs.Cmp.Lexicographic.{nat_list_eq_equiv}
use Rattle.std.specs.List.{AllByRecursion, IsDistinct, position_or_len}
use Rattle.std.specs.Ordering.{is_eq, nat_cmp}
use Rattle.std.specs.Str.{bytes_eq}
use Rattle.kms_model.specs.Script.CommandLines.{Name, Names, place, said, made, was_made, making, saying, unmade, words_in}
use Rattle.std.proofs.lemmas.Bool.Decides.{nat_tests}
use Rattle.std.proofs.lemmas.List.{length-map}
use Rattle.kms_words.specs.Named.{held, is_in_numbers, kept, marked_names, HasRoomForNames, NamesGrow}
use Rattle.kms_words.specs.Numbered.{place_among}
use Rattle.kms_words.proofs.WordsNumbered.{absent_head}

abbrev is : List ℕ → Name → Bool
is w n = bytes_eq w n.word

abbrev named : List ℕ → Bool → Name
named w made = record { word = w; is_made = made }

pub marked_length : (f : ℕ → Bool) (k : ℕ) (ws : List (List ℕ)) → length (marked_names f k ws) ≡ length ws
marked_length f k [] = refl
marked_length f k (w ∷ ws) = ap suc (marked_length f (k + 1) ws)

pub marked_words : (f : ℕ → Bool) (k : ℕ) (ws : List (List ℕ)) → map (λ (n : Name). n.word) (marked_names f k ws) ≡ ws
marked_words f k [] = refl
marked_words f k (w ∷ ws) = ap (λ (vs : List (List ℕ)). w ∷ vs) (marked_words f (k + 1) ws)

pub marked_same : (f g : ℕ → Bool) (k : ℕ) (ws : List (List ℕ)) → ((n : ℕ) → k ≤ n → f n ≡ g n) → marked_names f k ws ≡ marked_names g k ws
marked_same f g k [] same = refl
marked_same f g k (w ∷ ws) same = rw (same k (omega arith), marked_same f g (k + 1) ws (λ n le. same n (omega arith))) refl

-- Places

some_step : (t : Bool) (o : Option ℕ) (n p : ℕ) → cond t (Some 0) (option_map (λ n. n + 1) o) ≡ Some n → ((m : ℕ) → o ≡ Some m → p ≡ m)
    → cond (not t) (1 + p) 0 ≡ n
some_step true o n p e ih = cc
some_step false None n p e ih = absurd cc
some_step false (Some m) n p e ih = let same : m + 1 ≡ n = cc in omega (arith, ih m refl, same)

pub place_found : (f : ℕ → Bool) (w : List ℕ) (k : ℕ) (ws : List (List ℕ)) (n : ℕ) → place_among w ws ≡ Some n
    → position_or_len (is w) (marked_names f k ws) ≡ n
place_found f w k [] n e = absurd cc
place_found f w k (x ∷ ws) n e = some_step (bytes_eq w x) (place_among w ws) n _ e (λ m is. place_found f w (k + 1) ws m is)

none_step : (t : Bool) (p len : ℕ) → t ≡ false → p ≡ len → cond (not t) (1 + p) 0 ≡ suc len
none_step true p len e same = absurd cc
none_step false p len e same = omega (arith, same)

pub place_new : (f : ℕ → Bool) (w : List ℕ) (k : ℕ) (ws : List (List ℕ)) → place_among w ws ≡ None
    → position_or_len (is w) (marked_names f k ws) ≡ length ws
place_new f w k [] e = refl
place_new f w k (x ∷ ws) e =
    let head : (bytes_eq w x ≡ false) × (place_among w ws ≡ None) = absent_head (bytes_eq w x) (place_among w ws) e in
    none_step (bytes_eq w x) _ (length ws) head.0 (place_new f w (k + 1) ws head.1)

-- A name that is said

there_step : (t : Bool) (o : Option ℕ) (n : ℕ) (x : Name) (ns after : List Name) → cond t (Some 0) (option_map (λ n. n + 1) o) ≡ Some n
    → ((m : ℕ) → o ≡ Some m → after ≡ ns) → cond t (x ∷ ns) (x ∷ after) ≡ x ∷ ns
there_step true o n x ns after e ih = refl
there_step false None n x ns after e ih = absurd cc
there_step false (Some m) n x ns after e ih = rw (ih m refl) refl

pub said_there : (f : ℕ → Bool) (w : List ℕ) (k : ℕ) (ws : List (List ℕ)) (n : ℕ) → place_among w ws ≡ Some n
    → said w (marked_names f k ws) ≡ marked_names f k ws
said_there f w k [] n e = absurd cc
said_there f w k (x ∷ ws) n e = there_step (bytes_eq w x) (place_among w ws) n (named x (f k)) (marked_names f (k + 1) ws)
    (said w (marked_names f (k + 1) ws)) e (λ m is. said_there f w (k + 1) ws m is)

new_step : (t : Bool) (x : Name) (ns after : List Name) → t ≡ false → cond t (x ∷ ns) (x ∷ after) ≡ x ∷ after
new_step true x ns after e = absurd cc
new_step false x ns after e = refl

pub said_new : (f : ℕ → Bool) (w : List ℕ) (k : ℕ) (ws : List (List ℕ)) → place_among w ws ≡ None → f (k + length ws) ≡ false
    → said w (marked_names f k ws) ≡ marked_names f k (ws ++ w ∷ [])
said_new f w k [] e off = let here : f k ≡ false = subst (λ (n : ℕ). f n ≡ false) (nothing_more k) off in rw here refl
  where
    nothing_more : (n : ℕ) → n + 0 ≡ n
    nothing_more n = omega arith
said_new f w k (x ∷ ws) e off =
    let head : (bytes_eq w x ≡ false) × (place_among w ws ≡ None) = absent_head (bytes_eq w x) (place_among w ws) e in
    let there : f (k + 1 + length ws) ≡ false = subst (λ (n : ℕ). f n ≡ false) (moved k (length ws)) off in
    new_step (bytes_eq w x) (named x (f k)) (marked_names f (k + 1) ws) (said w (marked_names f (k + 1) ws)) head.0 ∙ ap
    (λ (ns : List Name). named x (f k) ∷ ns) (said_new f w (k + 1) ws head.1 there)
  where
    moved : (n m : ℕ) → n + suc m ≡ n + 1 + m
    moved n m = omega arith

-- A label that is made

same_number : (n : ℕ) → is_eq (nat_cmp n n) ≡ true
same_number n = grind (arith, nat_tests)

other_number : (n m : ℕ) → (m ≡ n → ⊥) → is_eq (nat_cmp n m) ≡ false
other_number n m apart = grind (arith, nat_tests)

-- marks g are f and a number more
record Marks (f g : ℕ → Bool) (n : ℕ) : Type 0 where
  here : g n ≡ true
  others : (m : ℕ) → (m ≡ n → ⊥) → g m ≡ f m

made_step : (t : Bool) (o : Option ℕ) (n k : ℕ) (f g : ℕ → Bool) (x : List ℕ) (ws : List (List ℕ)) (after : List Name)
    → cond t (Some 0) (option_map (λ n. n + 1) o) ≡ Some n → Marks f g (k + n)
    → ((m : ℕ) → o ≡ Some m → Marks f g (k + 1 + m) → after ≡ marked_names g (k + 1) ws)
    → cond t (named x true ∷ marked_names f (k + 1) ws) (named x (f k) ∷ after) ≡ named x (g k) ∷ marked_names g (k + 1) ws
made_step true o n k f g x ws after e marks ih =
    let none : 0 ≡ n = cc in
    let at : k + n ≡ k = omega (arith, none) in
    let here : g k ≡ true = subst (λ (m : ℕ). g m ≡ true) at marks.here in
    let rest : marked_names f (k + 1) ws ≡ marked_names g (k + 1) ws = marked_same f g (k + 1) ws
    (λ m le. sym (marks.others m (λ same. absurd (omega (arith, le, same, at))))) in
    rw (here, rest) refl
made_step false None n k f g x ws after e marks ih = absurd cc
made_step false (Some m) n k f g x ws after e marks ih =
    let more : m + 1 ≡ n = cc in
    let at : k + n ≡ k + 1 + m = omega (arith, more) in
    let there : Marks f g (k + 1 + m) = subst (λ (i : ℕ). Marks f g i) at marks in
    let off : g k ≡ f k = marks.others k (λ same. absurd (omega (arith, same, more))) in
    rw (off, ih m refl there) refl

made_at : (f g : ℕ → Bool) (w : List ℕ) (k : ℕ) (ws : List (List ℕ)) (n : ℕ) → place_among w ws ≡ Some n → Marks f g (k + n)
    → made w (marked_names f k ws) ≡ marked_names g k ws
made_at f g w k [] n e marks = absurd cc
made_at f g w k (x ∷ ws) n e marks = made_step (bytes_eq w x) (place_among w ws) n k f g x ws (made w (marked_names f (k + 1) ws)) e marks
    (λ m is more. made_at f g w (k + 1) ws m is more)

was_step : (t : Bool) (o : Option ℕ) (n k : ℕ) (f : ℕ → Bool) (after : Bool) → cond t (Some 0) (option_map (λ n. n + 1) o) ≡ Some n
    → ((m : ℕ) → o ≡ Some m → after ≡ f (k + 1 + m)) → cond t (f k) after ≡ f (k + n)
was_step true o n k f after e ih = let none : 0 ≡ n = cc in ap f (omega (arith, none))
was_step false None n k f after e ih = absurd cc
was_step false (Some m) n k f after e ih = let more : m + 1 ≡ n = cc in ih m refl ∙ ap f (omega (arith, more))

was_at : (f : ℕ → Bool) (w : List ℕ) (k : ℕ) (ws : List (List ℕ)) (n : ℕ) → place_among w ws ≡ Some n
    → was_made w (marked_names f k ws) ≡ f (k + n)
was_at f w k [] n e = absurd cc
was_at f w k (x ∷ ws) n e =
    was_step (bytes_eq w x) (place_among w ws) n k f (was_made w (marked_names f (k + 1) ws)) e (λ m is. was_at f w (k + 1) ws m is)

found_step : (t : Bool) (n : Name) (ns after : List Name) (p : ℕ) (o : Option ℕ) (w : List ℕ) → bytes_eq w n.word ≡ t → o ≡ Some p
    → place_among w (map (λ n. n.word) after) ≡ o
    → place_among w (map (λ n. n.word) (cond t (n ∷ ns) (n ∷ after))) ≡ Some (cond (not t) (1 + p) 0)
found_step true n ns after p o w e there is = rw e refl
found_step false n ns after p o w e there is = rw (e, is, there) (ap Some (one_more p))
  where
    one_more : (n : ℕ) → n + 1 ≡ 1 + n
    one_more n = omega arith

alone : (w : List ℕ) → place_among w (w ∷ []) ≡ Some 0
alone w = rw (nat_list_eq_equiv.refl w) refl

-- a name that was said is found at its place
said_found : (w : List ℕ) (ns : List Name) → place_among w (map (λ n. n.word) (said w ns)) ≡ Some (position_or_len (is w) ns)
said_found w [] = alone w
said_found w (n ∷ ns) = found_step (is w n) n ns (said w ns) (position_or_len (is w) ns) _ w refl (said_found w ns) refl

again_step : (t : Bool) (w : List ℕ) (n : Name) (ns : List Name) → bytes_eq w n.word ≡ t → made w (said w ns) ≡ made w ns
    → made w (cond t (n ∷ ns) (n ∷ said w ns)) ≡ cond t (named n.word true ∷ ns) (n ∷ made w ns)
again_step true w n ns e ih = rw e refl
again_step false w n ns e ih = rw (e, ih) refl

made_again : (w : List ℕ) (ns : List Name) → made w (said w ns) ≡ made w ns
made_again w [] = rw (nat_list_eq_equiv.refl w) refl
made_again w (n ∷ ns) = again_step (is w n) w n ns refl (made_again w ns)

was_again_step : (t : Bool) (w : List ℕ) (n : Name) (ns : List Name) → bytes_eq w n.word ≡ t → was_made w (said w ns) ≡ was_made w ns
    → was_made w (cond t (n ∷ ns) (n ∷ said w ns)) ≡ cond t n.is_made (was_made w ns)
was_again_step true w n ns e ih = rw e refl
was_again_step false w n ns e ih = rw (e, ih) refl

was_again : (w : List ℕ) (ns : List Name) → was_made w (said w ns) ≡ was_made w ns
was_again w [] = rw (nat_list_eq_equiv.refl w) refl
was_again w (n ∷ ns) = was_again_step (is w n) w n ns refl (was_again w ns)

-- Names

abbrev pub names_of : ℕ → List (List ℕ) → List ℕ → ℕ → Bool → Names
names_of profile ws numbers count twice =
    record { profile = profile; all = marked_names (is_in_numbers numbers) 0 ws; made = count; is_twice = twice }

-- a name that is there
pub saying_there : (profile : ℕ) (w : List ℕ) (ws : List (List ℕ)) (numbers : List ℕ) (count : ℕ) (twice : Bool) (n : ℕ)
    → place_among w ws ≡ Some n → names_of profile ws numbers count twice ≡ saying w (names_of profile ws numbers count twice)
unfolding saying
saying_there profile w ws numbers count twice n e = rw (said_there (is_in_numbers numbers) w 0 ws n e) refl

-- a name that is not
pub saying_new : (profile : ℕ) (w : List ℕ) (ws : List (List ℕ)) (numbers : List ℕ) (count : ℕ) (twice : Bool) → place_among w ws ≡ None
    → ((n : ℕ) → is_in_numbers numbers n ≡ true → n < length ws)
    → names_of profile (ws ++ w ∷ []) numbers count twice ≡ saying w (names_of profile ws numbers count twice)
unfolding saying
saying_new profile w ws numbers count twice e below =
    rw (said_new (is_in_numbers numbers) w 0 ws e (past (is_in_numbers numbers (0 + length ws)) (length ws) refl below)) refl
  where
    past : (b : Bool) (len : ℕ) → is_in_numbers numbers (0 + len) ≡ b → ((n : ℕ) → is_in_numbers numbers n ≡ true → n < len)
        → is_in_numbers numbers (0 + len) ≡ false
    past true len e below = absurd (omega (arith, below (0 + len) e))
    past false len e below = e

-- a label that is made, once its name is said
pub making_said : (profile : ℕ) (w : List ℕ) (old : Names) (ws : List (List ℕ)) (numbers after : List ℕ) (count : ℕ) (twice new : Bool)
    → names_of profile ws numbers count twice ≡ saying w old
    → new ≡ not (is_in_numbers numbers (place w old))
    → ((m : ℕ) → is_in_numbers after m ≡ cond (is_eq (nat_cmp (place w old) m)) true (is_in_numbers numbers m))
    → names_of profile ws after (count + 1) (twice || not new) ≡ making w old
unfolding saying making
making_said profile w old ws numbers after count twice new said_is new_is after_is =
    let all : marked_names (is_in_numbers numbers) 0 ws ≡ said w old.all = ap (λ (n : Names). n.all) said_is in
    let words : ws ≡ map (λ (n : Name). n.word) (said w old.all) = sym (marked_words (is_in_numbers numbers) 0 ws) ∙ ap
    (λ (ns : List Name). map (λ (n : Name). n.word) ns) all in
    let found : place_among w ws ≡ Some (place w old) = rw words (said_found w old.all) in
    let now : made w old.all ≡ marked_names (is_in_numbers after) 0 ws = sym (made_again w old.all) ∙
    (ap (made w) (sym all) ∙ made_at (is_in_numbers numbers) (is_in_numbers after) w 0 ws (place w old) found
    (marks_of (place w old) after_is)) in
    let was : was_made w old.all ≡ is_in_numbers numbers (place w old) = sym (was_again w old.all) ∙
    (ap (was_made w) (sym all) ∙ (was_at (is_in_numbers numbers) w 0 ws (place w old) found ∙ ap (is_in_numbers numbers)
    (from_none (place w old)))) in
    let profiles : profile ≡ old.profile = ap (λ (n : Names). n.profile) said_is in
    let counts : count ≡ old.made = ap (λ (n : Names). n.made) said_is in
    let twices : twice ≡ old.is_twice = ap (λ (n : Names). n.is_twice) said_is in
    rw (now, was, profiles, counts, twices, new_is, not_not (is_in_numbers numbers (place w old))) refl
  where
    marks_of : (n : ℕ) → ((m : ℕ) → is_in_numbers after m ≡ cond (is_eq (nat_cmp n m)) true (is_in_numbers numbers m))
        → Marks (is_in_numbers numbers) (is_in_numbers after) (0 + n)
    marks_of n e =
        let marks : Marks (is_in_numbers numbers) (is_in_numbers after) n =
        record { here = e n ∙ rw (same_number n) refl; others = λ m apart. e m ∙ rw (other_number n m apart) refl } in
        let at : n ≡ 0 + n = omega arith in
        subst (λ (i : ℕ). Marks (is_in_numbers numbers) (is_in_numbers after) i) at marks

    from_none : (n : ℕ) → 0 + n ≡ n
    from_none n = omega arith

    not_not : (b : Bool) → not (not b) ≡ b
    not_not true = refl
    not_not false = refl

-- a name that was said has its place as its number
pub found_said : (profile : ℕ) (w : List ℕ) (old : Names) (ws : List (List ℕ)) (numbers : List ℕ) (count : ℕ) (twice : Bool)
    → names_of profile ws numbers count twice ≡ saying w old → place_among w ws ≡ Some (place w old)
unfolding saying
found_said profile w old ws numbers count twice said_is =
    let words : ws ≡ map (λ (n : Name). n.word) (said w old.all) = sym (marked_words (is_in_numbers numbers) 0 ws) ∙ ap
    (λ (n : Names). words_in n) said_is in
    rw words (said_found w old.all)

below_step : (t : Bool) (o : Option ℕ) (n len : ℕ) → cond t (Some 0) (option_map (λ n. n + 1) o) ≡ Some n → ((m : ℕ) → o ≡ Some m → m < len)
    → n < suc len
below_step true o n len e ih = let none : 0 ≡ n = cc in omega (arith, none)
below_step false None n len e ih = absurd cc
below_step false (Some m) n len e ih = let more : m + 1 ≡ n = cc in omega (arith, more, ih m refl)

pub number_below : (w : List ℕ) (ws : List (List ℕ)) (n : ℕ) → place_among w ws ≡ Some n → n < length ws
number_below w [] n e = absurd cc
number_below w (x ∷ ws) n e = below_step (bytes_eq w x) (place_among w ws) n (length ws) e (λ m is. number_below w ws m is)

equal_numbers : (n m : ℕ) → is_eq (nat_cmp n m) ≡ true → m ≡ n
equal_numbers n m e = grind (arith, nat_tests)

-- numbers after one more, all of them those of words
pub made_below : (ws : List (List ℕ)) (n : ℕ) (numbers after : List ℕ) → n < length ws
    → ((m : ℕ) → is_in_numbers numbers m ≡ true → m < length ws)
    → ((m : ℕ) → is_in_numbers after m ≡ cond (is_eq (nat_cmp n m)) true (is_in_numbers numbers m)) → (m : ℕ) → is_in_numbers after m ≡ true
    → m < length ws
made_below ws n numbers after at below is m e = step (is_eq (nat_cmp n m)) refl (sym (is m) ∙ e)
  where
    step : (t : Bool) → is_eq (nat_cmp n m) ≡ t → cond t true (is_in_numbers numbers m) ≡ true → m < length ws
    step true eq e = let same : m ≡ n = equal_numbers n m eq in omega (arith, same, at)
    step false eq e = below m e

-- How many names there are

length_step : (t : Bool) (n : Name) (ns after : List Name) → length after ≤ length ns + 1
    → length (cond t (n ∷ ns) (n ∷ after)) ≤ suc (length ns) + 1
length_step true n ns after ih = omega arith
length_step false n ns after ih = omega (arith, ih)

said_length : (w : List ℕ) (ns : List Name) → length (said w ns) ≤ length ns + 1
said_length w [] = omega arith
said_length w (n ∷ ns) = length_step (is w n) n ns (said w ns) (said_length w ns)

made_step_length : (t : Bool) (n m : Name) (ns after : List Name) → length after ≤ length ns + 1
    → length (cond t (m ∷ ns) (n ∷ after)) ≤ suc (length ns) + 1
made_step_length true n m ns after ih = omega arith
made_step_length false n m ns after ih = omega (arith, ih)

made_length : (w : List ℕ) (ns : List Name) → length (made w ns) ≤ length ns + 1
made_length w [] = omega arith
made_length w (n ∷ ns) = made_step_length (is w n) n (named n.word true) ns (made w ns) (made_length w ns)

pub saying_grows : (w : List ℕ) (names : Names) → NamesGrow names (saying w names) 1
unfolding saying
saying_grows w names = record { all = said_length w names.all; made = omega arith }

pub making_grows : (w : List ℕ) (names : Names) → NamesGrow names (making w names) 1
unfolding making
making_grows w names = record { all = made_length w names.all; made = omega arith }

-- Names that stay

none_marked : (k : ℕ) (ws : List (List ℕ)) → marked_names (is_in_numbers []) k ws ≡ map (λ w. record { word = w; is_made = false }) ws
none_marked k [] = refl
none_marked k (w ∷ ws) = ap (λ (ns : List Name). named w false ∷ ns) (none_marked (k + 1) ws)

take_again : (n : ℕ) (ws : List (List ℕ)) → take n (take n ws) ≡ take n ws
take_again zero ws = refl
take_again (suc n) [] = refl
take_again (suc n) (w ∷ ws) = ap (λ (vs : List (List ℕ)). w ∷ vs) (take_again n ws)

pub held_kept : (profile n : ℕ) (ws : List (List ℕ)) → held profile (take n ws) n [] 0 false ≡ kept profile (take n ws)
held_kept profile n ws = rw (none_marked 0 (take n ws), take_again n ws) refl

pub words_unmade : (profile : ℕ) (ws : List (List ℕ)) → words_in (unmade profile ws) ≡ ws
words_unmade profile [] = refl
words_unmade profile (w ∷ ws) = ap (λ (vs : List (List ℕ)). w ∷ vs) (words_unmade profile ws)

-- Words said one after the other

abbrev fresh : List (List ℕ) → List Name
fresh ws = map (λ w. record { word = w; is_made = false }) ws

-- a word differs from each that is equal to none of these
apart_from : (x w : List ℕ) (ws : List (List ℕ)) (i : ℕ) → slice_get ws i ≡ Some w → AllByRecursion (λ v. bytes_eq x v ≡ false) ws
    → bytes_eq x w ≡ false
apart_from x w [] i e all = absurd cc
apart_from x w (v ∷ ws) zero e all = let same : v ≡ w = cc in rw (← same) all.0
apart_from x w (v ∷ ws) (suc i) e all = apart_from x w ws i e all.1

-- a word that differs from all before it goes last
said_last : (ws : List (List ℕ)) (i : ℕ) (w : List ℕ) → slice_get ws i ≡ Some w → IsDistinct bytes_eq ws
    → said w (fresh (take i ws)) ≡ fresh (take (i + 1) ws)
unfolding IsDistinct
said_last [] i w e d = absurd cc
said_last (v ∷ ws) zero w e d = let same : v ≡ w = cc in rw (← same) refl
said_last (v ∷ ws) (suc i) w e d =
    let apart : bytes_eq w v ≡ false = nat_list_eq_equiv.symm w v ∙ apart_from v w ws i e d.0 in
    let more : suc i + 1 ≡ suc (i + 1) = omega arith in
    rw (apart, more, said_last ws i w e d.1) refl

pub next_unmade : (profile : ℕ) (ws : List (List ℕ)) (i : ℕ) (w : List ℕ) → slice_get ws i ≡ Some w → IsDistinct bytes_eq ws
    → saying w (unmade profile (take i ws)) ≡ unmade profile (take (i + 1) ws)
unfolding saying
next_unmade profile ws i w e d = rw (said_last ws i w e d) refl

pub room_for_one : (profile : ℕ) (ws : List (List ℕ)) (i : ℕ) → i < length ws → length ws ≤ 2 ^ 32
    → HasRoomForNames (unmade profile (take i ws)) 1
room_for_one profile ws i lt few = record { all = rw (length-map, length-take) (omega arith); made = omega arith }

-- Words as they stand, without marks

pub position_found : (w : List ℕ) (ws : List (List ℕ)) (n : ℕ) → place_among w ws ≡ Some n → position_or_len (bytes_eq w) ws ≡ n
position_found w [] n e = absurd cc
position_found w (x ∷ ws) n e = some_step (bytes_eq w x) (place_among w ws) n _ e (λ m is. position_found w ws m is)

pub position_new : (w : List ℕ) (ws : List (List ℕ)) → place_among w ws ≡ None → position_or_len (bytes_eq w) ws ≡ length ws
position_new w [] e = refl
position_new w (x ∷ ws) e =
    let head : (bytes_eq w x ≡ false) × (place_among w ws ≡ None) = absent_head (bytes_eq w x) (place_among w ws) e in
    none_step (bytes_eq w x) _ (length ws) head.0 (position_new w ws head.1)
