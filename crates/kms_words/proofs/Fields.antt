-- The fields of a line's bytes, one after the other, and the assignments that they spell.
use Rattle.std.proofs.Common.{◌≡◌, ℕ, ◌≤◌, Bool, true, false, List, [], ◌∷◌, ◌++◌, length, cond, Option, Some, None, refl, sym, ap, arith}
use Rattle.std.specs.Prelude.{◌==◌, option_map}
use Rattle.std.specs.Option.{option_map_or}
use Rattle.std.proofs.lemmas.List.{append_assoc}
use Rattle.kms_model.specs.declared.scripts.Assign.{Assign}
use Rattle.kms_model.specs.Script.CommandLines.{Names, assign_read, assigns_read}
use Rattle.kms_model.specs.Script.Grammar.{parted, field_words}
use Rattle.kms_model.specs.Script.Words.{◌>>=◌, until, from, field_at}
use Rattle.kms_words.specs.Named.{assigns_at}
use Rattle.kms_words.proofs.Parts.{later_parts, first_part}

next_step : (t : Bool) (b : ℕ) (bs : List ℕ) → (b == 32) ≡ t → field_words (from 32 bs) ≡ Some (later_parts 32 (from 32 bs))
    → field_words (cond t (b ∷ bs) (from 32 bs)) ≡ Some (later_parts 32 (cond t (b ∷ bs) (from 32 bs)))
next_step true b bs e ih = rw e refl
next_step false b bs e ih = ih

-- the words from the next blank on
next_words : (bs : List ℕ) → field_words (from 32 bs) ≡ Some (later_parts 32 (from 32 bs))
next_words [] = refl
next_words (b ∷ bs) = next_step (b == 32) b bs refl (next_words bs)

-- the words with one more before them
abbrev behind : List ℕ → Option (List (List ℕ)) → Option (List (List ℕ))
behind word o = option_map (λ ws. word ∷ ws) o

abbrev pub Pair : Type 0
Pair = List ℕ × List ℕ

-- the field that bytes begin with
abbrev field : List ℕ → Pair
field bs = (until 32 bs, from 32 bs)

abbrev pub pair : List ℕ → List ℕ → Option Pair
pair word after = Some (word, after)

abbrev word_of : Option Pair → List ℕ
word_of o = option_map_or (λ p. p.0) o []

abbrev rest_of : Option Pair → List ℕ
rest_of o = option_map_or (λ p. p.1) o []

field_step : (t : Bool) (bs word after : List ℕ) → pair word after ≡ cond t (Some (field bs)) None
    → cond t (Some (parted 32 bs)) None ≡ behind word (field_words after)
field_step true bs word after e =
    let front : word ≡ until 32 bs = ap word_of e in
    let back : after ≡ from 32 bs = ap rest_of e in
    rw (front, back, next_words bs, first_part 32 bs) refl
field_step false bs word after e = absurd cc

-- the words of bytes whose first field is known
pub first_word : (bytes word after : List ℕ) → pair word after ≡ field_at bytes → field_words bytes ≡ behind word (field_words after)
unfolding field_at
first_word [] word after e = absurd cc
first_word (b ∷ bs) word after e = field_step (b == 32) bs word after e

no_field : (t : Bool) (bs : List ℕ) → None ≡ cond t (Some (field bs)) None → cond t (Some (parted 32 bs)) None ≡ None
no_field true bs e = absurd cc
no_field false bs e = refl

pub no_word : (bytes : List ℕ) → 1 ≤ length bytes → None ≡ field_at bytes → field_words bytes ≡ None
unfolding field_at
no_word [] long e = absurd (omega arith)
no_word (b ∷ bs) long e = no_field (b == 32) bs e

-- assignments read so far, and those to come
abbrev pub with_sets : List Assign → Option (List Assign × Names) → Option (List Assign × Names)
with_sets sets o = option_map (λ m. (sets ++ m.0, m.1)) o

more_sets : (sets : List Assign) (a : Assign) (o : Option (List Assign × Names))
    → with_sets sets (o >>= (λ more. Some (a ∷ more.0, more.1))) ≡ with_sets (sets ++ a ∷ []) o
more_sets sets a None = refl
more_sets sets a (Some m) = ap (λ (xs : List Assign). Some (xs, m.1)) (sym (append_assoc sets (a ∷ []) m.0))

-- what follows a first assignment
abbrev then_sets : Option (Assign × Names) → List (List ℕ) → Option (List Assign × Names)
then_sets o ws = o >>= (λ a. assigns_read a.1 ws >>= (λ more. Some (a.0 ∷ more.0, more.1)))

behind_first : (names : Names) (word : List ℕ) (o : Option (List (List ℕ)))
    → (behind word o >>= assigns_read names) ≡ (o >>= then_sets (assign_read names word))
behind_first names word None = refl
behind_first names word (Some ws) = refl

counted : (sets : List Assign) (a : Assign) (after : Names) (o : Option (List (List ℕ)))
    → with_sets sets (o >>= then_sets (Some (a, after))) ≡ with_sets (sets ++ a ∷ []) (o >>= assigns_read after)
counted sets a after None = refl
counted sets a after (Some ws) = more_sets sets a (assigns_read after ws)

unread : (o : Option (List (List ℕ))) → (o >>= then_sets None) ≡ None
unread None = refl
unread (Some ws) = refl

pub next_set : (sets : List Assign) (names after : Names) (bytes word rest : List ℕ) (a : Assign) → pair word rest ≡ field_at bytes
    → Some (a, after) ≡ assign_read names word
    → with_sets sets (assigns_at names bytes) ≡ with_sets (sets ++ a ∷ []) (assigns_at after rest)
next_set sets names after bytes word rest a f e =
    rw (first_word bytes word rest f, behind_first names word (field_words rest), ← e) (counted sets a after (field_words rest))

pub bad_set : (names : Names) (bytes word rest : List ℕ) → pair word rest ≡ field_at bytes → None ≡ assign_read names word
    → assigns_at names bytes ≡ None
bad_set names bytes word rest f e =
    rw (first_word bytes word rest f, behind_first names word (field_words rest), ← e) (unread (field_words rest))

pub bad_field : (names : Names) (bytes : List ℕ) → 1 ≤ length bytes → None ≡ field_at bytes → assigns_at names bytes ≡ None
bad_field names bytes long e = rw (no_word bytes long e) refl
