-- R lines, compared one after the other, and client by client.
use Rattle.std.proofs.Common.{◌≡◌, ℕ, ◌+◌, ◌-◌, ◌<◌, ◌≤◌, Bool, true, false, List, [], length, get_or, take, drop, Option, Some, sym, ap}
use Rattle.std.proofs.Common.{◌∙◌, subst, arith}
use Rattle.std.proofs.lemmas.Bool.{cond-false, cond-true}
use Rattle.std.proofs.lemmas.List.{get_or_default}
use Rattle.std.proofs.lemmas.Option.{same_Some, slice_get-get_or, slice_get-map}
use Rattle.std.specs.Prelude.{map, option_map, slice_get, slice_index_or, slice_set}
use Rattle.kms_audit.proofs.Blockwise.{all-clients, client-compared, differing-more}
use Rattle.kms_audit.proofs.Firsts.{earliest-none}
use Rattle.kms_audit.proofs.Parted.{blocks-within}
use Rattle.kms_audit.specs.declared.compared.Compared.{Compared}
use Rattle.kms_audit.specs.declared.order.Block.{Block}
use Rattle.kms_audit.specs.declared.touches.Touches.{Touches}
use Rattle.kms_audit.specs.Compared.{AreCompared, AreComparedUpTo, BlockIsCompared, differing_with, wrong_between}
use Rattle.kms_audit.specs.Eventing.{ReplyFields}
use Rattle.kms_audit.specs.Judged.{IsAt}
use Rattle.kms_audit.specs.Ordered.{block_at, no_block}
use Rattle.kms_audit.specs.Sections.{earliest, is_replied}
use Rattle.kms_model.specs.declared.replies.Answered.{Answered}
use Rattle.kms_model.specs.declared.reports.Report.{Report}
use Rattle.kms_model.specs.declared.scripts.Script.{Script}
use Rattle.kms_model.specs.Report.Right.{number_at}
use Rattle.kms_model.specs.Report.RightAnswers.{answer_from, answers_in, first_off, reply_is_right}
use Rattle.kms_serial.specs.Device.{Device}

-- One line

module _ (s : Script) (r : Report) (d : Device) (t : Touches) (line : ReplyFields) (a : Answered)
    (same : a ≡ answer_from line) (right : Bool)
    (is : IsAt s r a.place d t → right ≡ reply_is_right s r a) (at : IsAt s r (answer_from line).place d t) (place : ℕ)
    (differing : Option ℕ) where
  told_right : right ≡ reply_is_right s r (answer_from line)
  told_right = subst (λ x. right ≡ reply_is_right s r x) same (is (subst (λ (x : Answered). IsAt s r x.place d t) (sym same) at))

  pub with-right : right ≡ true → differing ≡ differing_with s r (answer_from line) place differing
  with-right on = sym (cond-true (reply_is_right s r (answer_from line)) differing (earliest differing (Some place)) (sym told_right ∙ on))

  pub with-wrong : right ≡ false → (first : Option ℕ) → first ≡ earliest differing (Some place)
      → first ≡ differing_with s r (answer_from line) place differing
  with-wrong off first e = e ∙ sym
      (cond-false (reply_is_right s r (answer_from line)) differing (earliest differing (Some place)) (sym told_right ∙ off))

-- The lines of a block

pub nothing-compared : (s : Script) (r : Report) (from : ℕ) (before : Option ℕ) → before ≡ earliest before (wrong_between s r from from)
unfolding first_off
nothing-compared s r from before =
    let none : from - from ≡ 0 = omega arith in
    sym (ap (λ n. earliest before (number_at from (first_off (is_replied s r) [] (take n (drop from (answers_in r)))))) none
    ∙ earliest-none before)

module _ (s : Script) (r : Report) (replies : List ReplyFields) (same : r.replies ≡ replies) (to : ℕ) (d : ReplyFields)
    (within : to < length replies) where
  line_is : slice_get (answers_in r) to ≡ Some (answer_from (get_or replies to d))
  line_is =
      ap (λ xs. slice_get (map answer_from xs) to) same
      ∙ (slice_get-map answer_from replies to ∙ ap (option_map answer_from) (slice_get-get_or replies to d within))

  line_place : (a : Answered) → slice_get (answers_in r) to ≡ Some a → a.place ≡ (get_or replies to d).2
  line_place a g = ap (λ (x : Answered). x.place) (same_Some a (answer_from (get_or replies to d)) (sym g ∙ line_is))

  -- a line of another place is not compared here
  pub line-stops : (place : ℕ) → ((get_or replies to d).2 ≡ place → ⊥) → (a : Answered) → slice_get (answers_in r) to ≡ Some a
      → a.place ≡ place → ⊥
  line-stops place off a g here = off (sym (line_place a g) ∙ here)

  pub block-more : (from : ℕ) → from ≤ to → (before first now : Option ℕ) → first ≡ earliest before (wrong_between s r from to)
      → now ≡ differing_with s r (answer_from (get_or replies to d)) to first → now ≡ earliest before (wrong_between s r from (to + 1))
  block-more from up before first now told more =
      more
      ∙ (ap (differing_with s r (answer_from (get_or replies to d)) to) told
      ∙ sym (differing-more s r from to (answer_from (get_or replies to d)) up line_is before))

-- Client by client

module _ (s : Script) (r : Report) (place k : ℕ) (c : Compared) (d : Block) (few : k < 16) (are : AreComparedUpTo s r place k c) where
  own_block : block_at c.blocks (k + 1) ≡ get_or c.blocks k d
  own_block =
      let at : k + 1 - 1 ≡ k = omega arith in
      ap (λ n. slice_index_or c.blocks n no_block) at ∙ get_or_default c.blocks k no_block d (omega (arith, are.size, few))

  pub own-within : (get_or c.blocks k d).end ≤ length r.replies
  own-within =
      let at : k + 1 - 1 ≡ k = omega arith in
      let ordered = ap (λ n. (slice_index_or are.order.blocks n no_block).end) at in
      let most = (blocks-within s r are.order are.is_ordered).within k few in
      omega (arith, ap (λ (b : Block). b.end) own_block, are.ends (k + 1) (omega arith) (omega arith), ordered, most)

  pub next-client : (new : Block) (after : Option ℕ) → BlockIsCompared s r place (get_or c.blocks k d) new c.differing after
      → (next : Compared) → next ≡ record c { blocks = slice_set c.blocks k new; differing = after }
      → AreComparedUpTo s r place (k + 1) next
  next-client new after is next same =
      subst (AreComparedUpTo s r place (k + 1)) (sym same)
      (client-compared s r place k c new after few are (subst (λ b. BlockIsCompared s r place b new c.differing after) (sym own_block) is))

pub last-client : (s : Script) (r : Report) (place k : ℕ) (c : Compared) → 16 ≤ k → k ≤ 16 → AreComparedUpTo s r place k c
    → AreCompared s r (place + 1) c
last-client s r place k c most few are =
    let all : k ≡ 16 = omega (arith, most, few) in all-clients s r place c (subst (λ n. AreComparedUpTo s r place n c) all are)
