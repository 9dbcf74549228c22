-- R lines, compared as far as they stand in their order: the first whose reply is not right.
use Rattle.std.proofs.Common.{◌≡◌, ℕ, ◌+◌, ◌<◌, ◌≤◌, Bool, true, false, [], length, Option, Some, None, sym, ap, ◌∙◌, arith, inl, inr}
use Rattle.std.proofs.lemmas.Bool.{cases_lt}
use Rattle.std.specs.Prelude.{nat_le, slice_get, if◌then◌else◌}
use Rattle.kms_audit.proofs.Apart.{cut-apart}
use Rattle.kms_audit.proofs.Leasts.{found-first, front-right}
use Rattle.kms_audit.proofs.Turns.{placed-at}
use Rattle.kms_audit.specs.declared.compared.Compared.{Compared}
use Rattle.kms_audit.specs.declared.order.Ordered.{Ordered}
use Rattle.kms_audit.specs.Compared.{AreCompared}
use Rattle.kms_audit.specs.Ordered.{IsOrdered, block_at, ordered_lines}
use Rattle.kms_audit.specs.Sections.{comes_behind, earliest, is_replied, stands_in_order}
use Rattle.kms_model.specs.declared.replies.Answered.{Answered}
use Rattle.kms_model.specs.declared.reports.Report.{Report}
use Rattle.kms_model.specs.declared.scripts.Script.{Script}
use Rattle.kms_model.specs.Report.RightAnswers.{answer_is_right, answers_in, entries_in, first_off, reply_is_right}

-- the lines that stand in their order do
pub ordered-right : (s : Script) (r : Report) (o : Ordered) → IsOrdered s r o
    → first_off (stands_in_order s r) [] (ordered_lines r o) ≡ None
ordered-right s r o is = front-right (stands_in_order s r) (answers_in r) o.cut is.cut

least_place : (b : Bool) (p q : ℕ) → (if b then p + 1 else p) ≤ q → p ≤ q
least_place true p q l = omega arith
least_place false p q l = l

-- behind the whole journal each of them is compared
module _ (s : Script) (r : Report) (c : Compared) (are : AreCompared s r (length (entries_in r) + 1) c) where
  passed_line : (at : ℕ) (a : Answered) → slice_get (ordered_lines r are.order) at ≡ Some a → at < (block_at c.blocks a.client).next
  passed_line at a g =
      elim (cases_lt at (block_at c.blocks a.client).next) [
        | inl before ↦ before
        | inr behind ↦ (
            let late = least_place (nat_le a.client 0) (length (entries_in r) + 1) a.place (are.later at a g behind) in
            let placed = placed-at s r (ordered_lines r are.order) (ordered-right s r are.order are.is_ordered) at a g in
            absurd (omega (arith, late, placed)))
      ]

  pub all-compared : c.differing ≡ first_off (is_replied s r) [] (ordered_lines r are.order)
  all-compared =
      found-first (reply_is_right s r) [] (ordered_lines r are.order) c.differing
      (λ k e. let it = are.found k e in (it.line, (it.is_line, it.wrong)))
      (λ at a g e. are.wrong at a g (passed_line at a g) e)

-- so the first R line that is not right is the earliest of three
pub first-answer : (s : Script) (r : Report) (o : Ordered) (c : Compared) (behind : Option ℕ) → IsOrdered s r o
    → AreCompared s r (length (entries_in r) + 1) c → behind ≡ first_off (comes_behind r) [] (answers_in r)
    → earliest o.cut (earliest behind c.differing) ≡ first_off (answer_is_right s r) [] (answers_in r)
first-answer s r o c behind is are e =
    let cut : are.order.cut ≡ o.cut = are.is_ordered.cut ∙ sym is.cut in
    ap (λ d. earliest o.cut (earliest behind d)) (all-compared s r c are)
    ∙ (ap (λ k. earliest k (earliest behind (first_off (is_replied s r) [] (ordered_lines r are.order)))) (sym cut)
    ∙ cut-apart s r (answers_in r) are.order.cut behind are.is_ordered.cut e)
