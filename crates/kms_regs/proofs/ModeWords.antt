-- Words and their bytes.
use Rattle.std.proofs.Common.{◌≡◌, ℕ, suc, ◌+◌, ◌*◌, ◌<◌, ◌≤◌, List, [], ◌∷◌, ◌++◌, length, take, drop, get_or, arith, refl, sym, ap, ◌∙◌}
use Rattle.std.specs.Int.{w32, from_le_bytes}
use Rattle.std.proofs.lemmas.List.{take_all, drop_all, append-nil}
use Rattle.std.proofs.lemmas.List.{append_assoc}
use Rattle.std.proofs.lemmas.Grind.{take-set_at}
use Rattle.std.proofs.Math.Seq.{drop-cons}
use Rattle.std.specs.Prelude.{slice_set}
use Rattle.kms_model.specs.Machine.Registers.{bytes_of_words, words_of_bytes}

-- the bytes of all words are all bytes
pub all_bytes : (i : ℕ) (bytes words : List ℕ) → i ≡ length words → length bytes ≡ 4 * length words
    → take (4 * i) bytes ≡ bytes_of_words (take i words) → bytes ≡ bytes_of_words words
all_bytes i bytes words last long so_far =
    sym (take_all (4 * i) bytes (omega (arith, last, long))) ∙ so_far ∙ ap bytes_of_words (take_all i words (omega (arith, last)))

-- the number of four bytes from a place on
abbrev pub word_at : List ℕ → ℕ → ℕ
word_at bytes at = from_le_bytes w32 (get_or bytes at 0 ∷ get_or bytes (at + 1) 0 ∷ get_or bytes (at + 2) 0 ∷ get_or bytes (at + 3) 0 ∷ [])

one_byte : (bytes : List ℕ) (at next : ℕ) → next ≡ at + 1 → at < length bytes → drop at bytes ≡ get_or bytes at 0 ∷ drop next bytes
one_byte bytes at next is low = let e : suc at ≡ next = omega arith
    in drop-cons bytes at 0 low ∙ ap (λ (k : ℕ). get_or bytes at 0 ∷ drop k bytes) e

-- four bytes in front are a word in front
one_word : (bytes : List ℕ) (at next : ℕ) → next ≡ at + 4 → at + 4 ≤ length bytes
    → words_of_bytes (drop at bytes) ≡ word_at bytes at ∷ words_of_bytes (drop next bytes)
unfolding words_of_bytes
one_word bytes at next is within =
    rw (
      one_byte bytes at (at + 1) refl (omega arith),
      one_byte bytes (at + 1) (at + 2) (omega arith) (omega arith),
      one_byte bytes (at + 2) (at + 3) (omega arith) (omega arith),
      one_byte bytes (at + 3) next (omega arith) (omega arith),
    ) refl

-- one word more
pub more_words : (bytes words : List ℕ) (i w : ℕ) → length bytes ≡ 4 * length words → i < length words → w ≡ word_at bytes (4 * i)
    → take i words ++ words_of_bytes (drop (4 * i) bytes) ≡ words_of_bytes bytes
    → take (i + 1) (slice_set words i w) ++ words_of_bytes (drop (4 * (i + 1)) bytes) ≡ words_of_bytes bytes
more_words bytes words i w long low is so_far =
    let front : take (i + 1) (slice_set words i w) ≡ take i words ++ w ∷ [] = take-set_at words i (i + 1) w refl (omega (arith, low)) in
    let next : words_of_bytes (drop (4 * i) bytes) ≡ word_at bytes (4 * i)
    ∷ words_of_bytes (drop (4 * (i + 1)) bytes) = one_word bytes (4 * i) (4 * (i + 1)) (omega arith) (omega (arith, long, low)) in
    let rest : List ℕ = words_of_bytes (drop (4 * (i + 1)) bytes) in
    ap (λ (xs : List ℕ). xs ++ rest) front ∙ append_assoc (take i words) (w ∷ []) rest ∙ ap (λ (v : ℕ). take i words ++ v ∷ rest) is
    ∙ ap (λ (xs : List ℕ). take i words ++ xs) (sym next) ∙ so_far

-- the words of all bytes are all words
pub all_words : (i : ℕ) (bytes words : List ℕ) → i ≡ length words → length bytes ≡ 4 * length words
    → take i words ++ words_of_bytes (drop (4 * i) bytes) ≡ words_of_bytes bytes → words ≡ words_of_bytes bytes
unfolding words_of_bytes
all_words i bytes words last long so_far =
    let none : drop (4 * i) bytes ≡ [] = drop_all (4 * i) bytes (omega (arith, last, long)) in
    sym (take_all i words (omega (arith, last))) ∙ sym (append-nil (take i words)) ∙ ap (λ (xs : List ℕ). take i words ++ words_of_bytes xs)
    (sym none) ∙ so_far
