use Rattle.std.proofs.Common.{List, ℕ, replicate, ap, refl, ◌∙◌, ◌++◌, take, drop, rules}
use Rattle.kms_regs.proofs.TableBytes.{three_parts}
use Rattle.kms_regs.proofs.words.join.Goals as goal

pub returns : goal.returns
returns c =
    let red = c.args.red.now in
    let green = c.args.green.now in
    let blue = c.args.blue.now in
    c.put_values-3.ensures
    ∙ ap (λ (xs : List ℕ). take 512 xs ++ (blue ++ drop 768 xs))
    (c.put_values-2.ensures ∙ ap (λ (xs : List ℕ). take 256 xs ++ (green ++ drop 512 xs)) c.put_values.ensures)
    ∙ three_parts (replicate 768 0) red green blue refl (search rules) (search rules) (search rules)
