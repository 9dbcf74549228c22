use Rattle.std.proofs.Common.{◌≡◌, ℕ, suc, ◌+◌, ◌-◌, ◌*◌, List, ◌++◌, length, take, drop, map, ap, sym, ◌∙◌, append_assoc, arith, rules}
use Rattle.std.specs.Fmt.{decimal}
use Rattle.kms_model.specs.Report.TextLines.{line}
use Rattle.kms_model.specs.Frames.Ppm.{number_lines}
use Rattle.kms_report.proofs.pixmaps.push_rows.Goals as goal

-- one line more
line_added : (old new numbers row below whole : List ℕ) (size left k : ℕ) → left ≡ suc k → new ≡ old ++ line (map decimal row)
    → row ≡ take size numbers → below ≡ drop size numbers
    → old ++ number_lines left size numbers ≡ whole → new ++ number_lines k size below ≡ whole
line_added old new numbers row below whole size left k e now front back before =
    rw (now, front, back) (append_assoc old (line (map decimal (take size numbers))) (number_lines k size (drop size numbers)))
    ∙ ap (λ (n : ℕ). old ++ number_lines n size numbers) (sym e) ∙ before

numbers_left : (size left k rest below : ℕ) → left ≡ suc k → rest ≡ size * left → below + size ≡ rest → below ≡ size * k
numbers_left size left k rest below e all part = let product : size * left ≡ size * suc k = ap (λ (n : ℕ). size * n) e in omega arith

pub loop-preserved : goal.loop-preserved
loop-preserved c =
    let left : c.args.count - c.loop.counter ≡ suc (c.args.count - (c.loop.counter + 1)) = omega arith in
    let now : c.push_row.new.text.items ≡ c.loop.text.items ++ line (map decimal c.split_at.result.0.now) = search rules in record {
      lines =
          line_added _ _ c.loop.rest.now _ _ _ c.args.size _ _ left now c.split_at.ensures.front c.split_at.ensures.back
          c.loop.invariant.lines;
      left = numbers_left c.args.size _ _ (length c.loop.rest.now) _ left c.loop.invariant.left c.split_at.ensures.back_len;
    }
