-- How many blanks a line has, and how many fields.
use Rattle.std.proofs.Common.{◌≡◌, ℕ, ◌+◌, suc, Bool, true, false, List, [], ◌∷◌, length, cond, Some, refl, sym, ap, ◌∙◌, arith}
use Rattle.std.specs.Prelude.{◌==◌}
use Rattle.std.specs.List.{onto_first}
use Rattle.kms_model.specs.declared.scripts.Assign.{Assign}
use Rattle.kms_model.specs.Script.CommandLines.{Names, assign_read, assigns_read}
use Rattle.kms_model.specs.Script.Grammar.{field_words, hex, hex_at, parted}
use Rattle.kms_model.specs.Script.Words.{until, from, dec, dec_at, field_at}
use Rattle.kms_script.specs.Overlong.{blank_count}
use Rattle.kms_script.proofs.Inverted.{bind_some, if_some, some_same}
use Rattle.kms_words.proofs.Parts.{later_parts, first_part}

-- one for a blank
abbrev pub one_if : Bool → ℕ
one_if b = cond b 1 0

pub blanks_step : (b : ℕ) (bs : List ℕ) → blank_count (b ∷ bs) ≡ one_if (b == 32) + blank_count bs
blanks_step b bs = step (b == 32) bs refl
  where
    step : (t : Bool) (bs : List ℕ) → (b == 32) ≡ t → blank_count (b ∷ bs) ≡ one_if t + blank_count bs
    step true bs e = rw e (omega arith)
    step false bs e = rw e (omega arith)

rest_step : (t : Bool) (b : ℕ) (bs : List ℕ) → (b == 32) ≡ t → blank_count bs ≡ blank_count (from 32 bs)
    → blank_count (b ∷ bs) ≡ blank_count (cond t (b ∷ bs) (from 32 bs))
rest_step true b bs e ih = refl
rest_step false b bs e ih = blanks_step b bs ∙ rw e (omega (arith, ih))

-- a word has no blanks
blanks_from : (bs : List ℕ) → blank_count bs ≡ blank_count (from 32 bs)
blanks_from [] = refl
blanks_from (b ∷ bs) = rest_step (b == 32) b bs refl (blanks_from bs)

-- one field has one blank
pub field_blanks : (bytes : List ℕ) (f : List ℕ × List ℕ) → field_at bytes ≡ Some f → blank_count bytes ≡ 1 + blank_count f.1
unfolding field_at
field_blanks [] f e = absurd cc
field_blanks (b ∷ bs) f e =
    let read = if_some (b == 32) (Some (until 32 bs, from 32 bs)) f e in
    let after : from 32 bs ≡ f.1 = ap (λ (p : List ℕ × List ℕ). p.1) (some_same (until 32 bs, from 32 bs) f read.1) in
    blanks_step b bs ∙ rw (read.0, ← after) (ap (λ (n : ℕ). 1 + n) (blanks_from bs))

onto_length : (b : ℕ) (w : List ℕ) (ws : List (List ℕ)) → length (onto_first b (w ∷ ws)) ≡ length (w ∷ ws)
onto_length b w ws = refl

parted_step : (t : Bool) (b : ℕ) (bs : List ℕ) → (b == 32) ≡ t → length (parted 32 bs) ≡ 1 + blank_count bs
    → length (cond t ([] ∷ parted 32 bs) (onto_first b (parted 32 bs))) ≡ 1 + blank_count (b ∷ bs)
parted_step true b bs e ih = rw (blanks_step b bs, e) (omega (arith, ih))
parted_step false b bs e ih =
    let first : length (until 32 bs ∷ later_parts 32 (from 32 bs)) ≡ 1 + blank_count bs = rw first_part at ih in
    rw (blanks_step b bs, e, first_part 32 bs) (onto_length b (until 32 bs) (later_parts 32 (from 32 bs)) ∙
    (first ∙ none_more (blank_count bs)))
  where
    none_more : (n : ℕ) → 1 + n ≡ 1 + (0 + n)
    none_more n = omega arith

-- the parts between blanks
parted_blanks : (bs : List ℕ) → length (parted 32 bs) ≡ 1 + blank_count bs
parted_blanks [] = refl
parted_blanks (b ∷ bs) = parted_step (b == 32) b bs refl (parted_blanks bs)

-- a blank for each word
pub words_blanks : (bytes : List ℕ) (ws : List (List ℕ)) → field_words bytes ≡ Some ws → length ws ≡ blank_count bytes
words_blanks [] ws e = rw (← some_same [] ws e) refl
words_blanks (b ∷ bs) ws e =
    let read = if_some (b == 32) (Some (parted 32 bs)) ws e in
    rw (← some_same (parted 32 bs) ws read.1) (parted_blanks bs ∙ sym (blanks_step b bs ∙ rw read.0 refl))

-- an assignment for each word
pub assigns_count : (ws : List (List ℕ)) (names : Names) (r : List Assign × Names) → assigns_read names ws ≡ Some r → length r.0 ≡ length ws
assigns_count [] names r e = rw (← some_same _ r e) refl
assigns_count (w ∷ ws) names r e =
    let a = bind_some (assign_read names w) _ r e in
    let more = bind_some (assigns_read a.value.1 ws) _ r a.then in
    rw (← some_same _ r more.then) (ap suc (assigns_count ws a.value.1 more.value more.given))

-- a blank before the flags, and one before the user data
pub request_blanks : (bytes : List ℕ) (flags user : ℕ × List ℕ) → hex_at bytes ≡ Some flags
    → dec_at 18446744073709551615 flags.1 ≡ Some user → blank_count bytes ≡ 2 + blank_count user.1
unfolding dec_at
request_blanks bytes flags user f u =
    let first = bind_some (field_at bytes) _ flags f in
    let flag = bind_some (hex first.value.0) (λ n. Some (n, first.value.1)) flags first.then in
    let behind : first.value.1 ≡ flags.1 = ap (λ (p : ℕ × List ℕ). p.1) (some_same _ flags flag.then) in
    let one : blank_count bytes ≡ 1 + blank_count flags.1 = field_blanks bytes first.value first.given ∙ rw behind refl in
    let second = bind_some (field_at flags.1) _ user u in
    let number = bind_some (dec 18446744073709551615 second.value.0) (λ n. Some (n, second.value.1)) user second.then in
    let rest : second.value.1 ≡ user.1 = ap (λ (p : ℕ × List ℕ). p.1) (some_same _ user number.then) in
    let two : blank_count flags.1 ≡ 1 + blank_count user.1 = field_blanks flags.1 second.value second.given ∙ rw rest refl in
    omega (arith, one, two)
