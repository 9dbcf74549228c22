use Rattle.std.proofs.Common.{◌≡◌, ℕ, List, [], ◌∷◌, ◌++◌, map, Result, Ok, Err, ap, ◌∙◌, append_assoc, rules}
use Rattle.std.specs.Prelude.{OnOk}
use Rattle.std.specs.Fmt.{decimal}
use Rattle.std.proofs.lemmas.List.{take_all}
use Rattle.kms_model.specs.declared.copying.NoMemory.{NoMemory}
use Rattle.kms_model.specs.Report.TextLines.{line}
use Rattle.kms_report.proofs.Decimals.{line-push, spaced}
use Rattle.kms_report.proofs.pixmaps.push_row.Goals as goal

row_done : (r : Result (Unit {0}) NoMemory) (old now new others numbers : List ℕ) (last : ℕ) → numbers ≡ others ++ last ∷ []
    → now ≡ old ++ spaced others
    → OnOk r (new ≡ now ++ decimal last ++ 10 ∷ []) → OnOk r (new ≡ old ++ line (map decimal numbers))
row_done (Ok done) old now new others numbers last split before last_added =
    last_added ∙ rw (before, split, line-push others last) (simp append_assoc)
row_done (Err e) old now new others numbers last split before last_added = last_added

pub returns : goal.returns
returns c =
    let split : c.args.numbers.now ≡ c.in-Some.others.now ++ c.in-Some.last.now ∷ [] = search rules in
    let whole = take_all c.loop-number.number-index c.in-Some.others.now c.loop-number-test.false in
    row_done c.push_number-2.result c.args.text.now.items c.loop-number.text.items _ c.in-Some.others.now _ _ split
    (c.loop-number.invariant ∙ ap (λ (ns : List ℕ). c.args.text.now.items ++ spaced ns) whole) c.push_number-2.ensures
