use Rattle.std.proofs.Common.{◌≡◌, ◌+◌, ◌/◌, ◌%◌, [], ◌∷◌, ◌++◌, ◌∙◌, arith, rules}
use Rattle.kms_report.proofs.Decimals.{one_digit, two_digits, three_digits}
use Rattle.kms_report.proofs.pixmaps.push_number.Goals as goal

pub returns-in_ok-extend_from_slice : goal.returns-in_ok-extend_from_slice
returns-in_ok-extend_from_slice c =
    let now : c.extend_from_slice.new.self.items ≡ c.args.text.now.items ++ ((48 + c.args.number % 10) ∷ c.args.mark ∷ []) = search rules in
    now ∙ one_digit c.args.text.now.items c.args.number c.args.mark (omega arith)

pub returns-in_ok-extend_from_slice-2 : goal.returns-in_ok-extend_from_slice-2
returns-in_ok-extend_from_slice-2 c =
    let now : c.extend_from_slice-then-number-lt100.new.self.items
    ≡ c.args.text.now.items
    ++ ((48 + c.args.number / 10 % 10) ∷ (48 + c.args.number % 10) ∷ c.args.mark ∷ []) =
    search rules in
    now ∙ two_digits c.args.text.now.items c.args.number c.args.mark (omega arith) (omega arith)

pub returns-in_ok-extend_from_slice-3 : goal.returns-in_ok-extend_from_slice-3
returns-in_ok-extend_from_slice-3 c =
    let now : c.extend_from_slice-else-number-lt100.new.self.items
    ≡ c.args.text.now.items
    ++ ((48 + c.args.number / 100) ∷ (48 + c.args.number / 10 % 10) ∷ (48 + c.args.number % 10) ∷ c.args.mark ∷ []) =
    search rules in
    now ∙ three_digits c.args.text.now.items c.args.number c.args.mark (omega arith) (omega arith)
