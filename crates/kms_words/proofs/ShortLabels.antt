-- A label has at most 16 bytes.
use Rattle.std.proofs.Common.{◌≡◌, ℕ, ◌≤◌, suc, true, List, [], ◌∷◌, length, arith}
use Rattle.std.specs.Prelude.{◌&&◌, nat_le}
use Rattle.std.specs.List.{list_all}
use Rattle.std.proofs.lemmas.Bool.{and_parts}
use Rattle.std.proofs.lemmas.Bool.Decides.{nat_tests}
use Rattle.kms_model.specs.Script.Words.{is_label, is_label_rest, is_letter}

pub label_short : (w : List ℕ) → is_label w ≡ true → length w ≤ 16
unfolding is_label
label_short [] e = absurd cc
label_short (b ∷ bs) e =
    let p = and_parts (is_letter b) (nat_le (length bs) 15 && list_all is_label_rest bs) e in
    let q = and_parts (nat_le (length bs) 15) (list_all is_label_rest bs) p.1 in
    short (length bs) q.0
  where
    short : (n : ℕ) → nat_le n 15 ≡ true → suc n ≤ 16
    short n le = grind (arith, nat_tests)
