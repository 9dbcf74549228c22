-- Rounds that have come to a still one stay there, so a history is continued to one end.
use Rattle.std.proofs.Common.{◌≡◌, ℕ, zero, suc, true, inl, inr, refl, sym, ap, ◌∙◌}
use Rattle.std.specs.Prelude.{reverse}
use Rattle.std.proofs.lemmas.Bool.{cases_Bool, cond-false, cond-true}
use Rattle.kms_model.specs.declared.scripts.Script.{Script}
use Rattle.kms_model.specs.Order.Rounds.{ends, is_still, round, rounds, run_of}
use Rattle.kms_model.specs.Order.Turns.{Progress}
use Rattle.kms_laws.specs.Ends.{FinishedIsOne}

stays : (s : Script) (most : ℕ) (run : Progress) → is_still s run ≡ true → rounds s most run ≡ run
unfolding rounds
stays s zero run still = refl
stays s (suc most) run still = cond-true (is_still s run) run (rounds s most (round s run)) still

same_end : (s : Script) (m n : ℕ) (run : Progress) → is_still s (rounds s m run) ≡ true → is_still s (rounds s n run) ≡ true
    → rounds s m run ≡ rounds s n run
unfolding rounds
same_end s zero n run here there = sym (stays s n run here)
same_end s (suc m) zero run here there = stays s (suc m) run there
same_end s (suc m) (suc n) run here there = elim (cases_Bool (is_still s run)) [
  | inl still ↦ stays s (suc m) run still ∙ sym (stays s (suc n) run still)
  | inr moving ↦ (
      let one = cond-false (is_still s run) run (rounds s m (round s run)) moving in
      let two = cond-false (is_still s run) run (rounds s n (round s run)) moving in
      one ∙ (same_end s m n (round s run) (sym (ap (is_still s) one) ∙ here) (sym (ap (is_still s) two) ∙ there) ∙ sym two))
]

pub finished_once : FinishedIsOne
finished_once s h finished other one two =
    one.steps ∙ (ap (λ run. reverse (ends s run).steps) (same_end s one.most two.most (run_of s h) one.still two.still) ∙ sym two.steps)
