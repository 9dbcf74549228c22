-- Names so far are a front of all names of a script, so that a name's number gives its word back.
use Rattle.std.proofs.Common.{◌≡◌, ℕ, ◌+◌, Bool, true, false, not, cond, get_or, List, [], ◌∷◌, ◌++◌, map, append-nil, append_assoc}
use Rattle.std.proofs.Common.{one-add, refl, sym, ap, ◌∙◌}
use Rattle.std.specs.List.{position_or_len}
use Rattle.std.specs.Str.{bytes_eq}
use Rattle.std.proofs.lemmas.Slice.Eq.{bytes_eq-Decides}
use Rattle.kms_model.specs.Script.CommandLines.{Name, Names, words_in, place, said, made, saying, making}
use Rattle.kms_model.specs.Script.Spelling.{name_word}

pub record Begins (names : Names) (all : List (List ℕ)) : Type 0 where
  pub more : List (List ℕ)
  pub whole : all ≡ words_in names ++ more

-- the words of names
abbrev pub words : List Name → List (List ℕ)
words ns = map (λ n. n.word) ns

-- whether a name has a word
abbrev pub is : List ℕ → Name → Bool
is w n = bytes_eq w n.word

-- a list is another with more behind it
record Longer (shorter longer : List (List ℕ)) : Type 0 where
  tail : List (List ℕ)
  grown : longer ≡ shorter ++ tail

grows_step : (t : Bool) (w : List ℕ) (n : Name) (ns : List Name) → Longer (words ns) (words (said w ns))
    → Longer (words (n ∷ ns)) (words (cond t (n ∷ ns) (n ∷ said w ns)))
grows_step true w n ns ih = record { tail = []; grown = sym (append-nil (words (n ∷ ns))) }
grows_step false w n ns ih = record { tail = ih.tail; grown = ap (λ (vs : List (List ℕ)). n.word ∷ vs) ih.grown }

-- a name that is said goes behind the others, if it is not among them
grows : (w : List ℕ) (ns : List Name) → Longer (words ns) (words (said w ns))
grows w [] = record { tail = w ∷ []; grown = refl }
grows w (n ∷ ns) = grows_step (is w n) w n ns (grows w ns)

-- all names before a name is said are among those after it
pub before_saying : (all : List (List ℕ)) (w : List ℕ) (names : Names) → Begins (saying w names) all → Begins names all
unfolding saying
before_saying all w names b =
    let g : Longer (words names.all) (words (said w names.all)) = grows w names.all in
    record {
      more = g.tail ++ b.more;
      whole = b.whole ∙ ap (λ (vs : List (List ℕ)). vs ++ b.more) g.grown ∙ append_assoc (words names.all)
          g.tail b.more;
    }

at_step : (t : Bool) (w : List ℕ) (n : Name) (ns : List Name) (more : List (List ℕ)) → (t ≡ true → w ≡ n.word)
    → get_or (words (said w ns) ++ more) (position_or_len (is w) ns) [] ≡ w
    → get_or (words (cond t (n ∷ ns) (n ∷ said w ns)) ++ more) (cond (not t) (1 + position_or_len (is w) ns) 0) [] ≡ w
at_step true w n ns more same ih = sym (same refl)
at_step false w n ns more same ih = rw one-add ih

-- the word stands at its number
at_place : (w : List ℕ) (ns : List Name) (more : List (List ℕ)) → get_or (words (said w ns) ++ more) (position_or_len (is w) ns) [] ≡ w
at_place w [] more = refl
at_place w (n ∷ ns) more = at_step (is w n) w n ns more (bytes_eq-Decides w n.word).0 (at_place w ns more)

-- a name that was said stands at its number
pub said_word : (all : List (List ℕ)) (w : List ℕ) (names : Names) → Begins (saying w names) all → name_word all (place w names) ≡ w
unfolding saying
said_word all w names b = rw b.whole (at_place w names.all b.more)

made_step : (t : Bool) (w : List ℕ) (n : Name) (ns : List Name) → words (made w ns) ≡ words (said w ns)
    → words (cond t (record { word = n.word; is_made = true } ∷ ns) (n ∷ made w ns)) ≡ words (cond t (n ∷ ns) (n ∷ said w ns))
made_step true w n ns ih = refl
made_step false w n ns ih = ap (λ (vs : List (List ℕ)). n.word ∷ vs) ih

-- a label that is made leaves the words that it would leave if it were said
made_words : (w : List ℕ) (ns : List Name) → words (made w ns) ≡ words (said w ns)
made_words w [] = refl
made_words w (n ∷ ns) = made_step (is w n) w n ns (made_words w ns)

-- a label that is made is said
pub making_says : (all : List (List ℕ)) (w : List ℕ) (names : Names) → Begins (making w names) all → Begins (saying w names) all
unfolding saying making
making_says all w names b = record { more = b.more; whole = b.whole ∙ ap (λ (vs : List (List ℕ)). vs ++ b.more) (made_words w names.all) }
