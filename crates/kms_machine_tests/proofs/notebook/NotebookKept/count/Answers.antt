use Rattle.std.proofs.Common.{◌≡◌, ℕ, zero, suc, ◌-◌, List, [], ◌∷◌, length, arith}
use Rattle.kms_machine_tests.specs.Beyond.{beyond}
use Rattle.kms_machine_tests.proofs.notebook.NotebookKept.count.Goals as goal

beyond-length : {X : Type 0} (k : ℕ) (xs : List X) → beyond k xs ≡ length xs - k
beyond-length zero xs = omega arith
beyond-length (suc k) [] = omega arith
beyond-length (suc k) (x ∷ xs) = let h = beyond-length k xs in omega arith

pub returns : goal.returns
returns c = let behind = beyond-length c.args.k c.args.self.now.notes in omega arith
