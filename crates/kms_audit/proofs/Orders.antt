-- How far R lines stand in their order: the loop that finds it.
use Rattle.std.proofs.Common.{◌≡◌, ℕ, ◌+◌, ◌<◌, ◌≤◌, Bool, true, false, List, [], ◌∷◌, ◌++◌, length, get_or, take, drop, Option, Some, None}
use Rattle.std.proofs.Common.{refl, sym, ap, ◌∙◌, subst, arith}
use Rattle.std.proofs.lemmas.List.{length-map, length-take-le, take_all}
use Rattle.std.specs.Prelude.{◌&&◌, is_some, replicate, slice_get}
use Rattle.std.specs.List.{last_or}
use Rattle.kms_audit.proofs.Borders.{front-more, last-more}
use Rattle.kms_audit.proofs.Executions.{of-script}
use Rattle.kms_audit.proofs.Firsts.{at-0, off-done, off-here-map, off-push, off-step-map}
use Rattle.kms_audit.proofs.Turns.{blocks-none, blocks-push, named-at, order_guards}
use Rattle.kms_audit.specs.declared.order.Block.{Block}
use Rattle.kms_audit.specs.Eventing.{ReplyFields}
use Rattle.kms_audit.specs.Ordered.{AreBlocks, IsOrdered, no_block, with_line}
use Rattle.kms_audit.specs.Sections.{has_command, stands_in_order}
use Rattle.kms_model.specs.declared.replies.Answered.{Answered}
use Rattle.kms_model.specs.declared.reports.Report.{Report}
use Rattle.kms_model.specs.declared.scripts.Command.{Command}
use Rattle.kms_model.specs.declared.scripts.Script.{Script}
use Rattle.kms_model.specs.Device.Serial.{command_of}
use Rattle.kms_model.specs.Headline.{entry_answered}
use Rattle.kms_model.specs.Report.Right.{number_at}
use Rattle.kms_model.specs.Report.RightAnswers.{answer_from, answers_in, first_off, has_place, is_in_turn}
use Rattle.kms_model.specs.Script.WellFormed.{IsWellFormed}

-- a reply to a command of a script is of one of 16 clients
pub client-of : (s : Script) (a : Answered) → IsWellFormed s → has_command s a ≡ true → (1 ≤ a.client) × (a.client ≤ 16)
client-of s a formed has = found (command_of s (entry_answered a)) refl has where
  found : (o : Option Command) → command_of s (entry_answered a) ≡ o → is_some o ≡ true → (1 ≤ a.client) × (a.client ≤ 16)
  found None is e = absurd cc
  found (Some c) is e = let own = of-script s (entry_answered a) c formed is in (own.some, own.few)

clients_of : (s : Script) (r : Report) (xs : List Answered) → IsWellFormed s → first_off (stands_in_order s r) [] xs ≡ None
    → (at : ℕ) (a : Answered) → slice_get xs at ≡ Some a → (1 ≤ a.client) × (a.client ≤ 16)
clients_of s r xs formed right at a g = client-of s a formed (named-at s r xs right at a g)

-- what the loop knows of the lines before a place
pub record IsOrderedTo (s : Script) (r : Report) (place : ℕ) (before : Option Answered) (blocks : List Block) : Type 0 where
  pub rest : number_at place (first_off (stands_in_order s r) (take place (answers_in r)) (drop place (answers_in r))) ≡ first_off
      (stands_in_order s r) [] (answers_in r)
  pub right : first_off (stands_in_order s r) [] (take place (answers_in r)) ≡ None
  pub before_is : before ≡ last_or None (take place (answers_in r))
  pub are_blocks : AreBlocks (take place (answers_in r)) blocks

module _ (s : Script) (r : Report) (place : ℕ) (before : Option Answered) (blocks : List Block) (formed : IsWellFormed s)
    (to : IsOrderedTo s r place before blocks) where
  module _ (xs : List ReplyFields) (same : xs ≡ r.replies) (d : ReplyFields) (a : Answered) (result : Bool) (among : place < length xs)
      (said : a ≡ answer_from (get_or xs place d)) (is : result ≡ (is_in_turn r before a && (has_place r a && has_command s a))) where
    within : place < length r.replies
    within = omega (arith, ap length same)

    line : a ≡ answer_from (get_or r.replies place d)
    line = said ∙ ap (λ ys. answer_from (get_or ys place d)) same

    tested : stands_in_order s r (take place (answers_in r)) (answer_from (get_or r.replies place d)) ≡ result
    tested =
        sym (is
        ∙ (ap (λ b. is_in_turn r b a && (has_place r a && has_command s a)) to.before_is
        ∙ ap (λ x. is_in_turn r (last_or None (take place (answers_in r))) x && (has_place r x && has_command s x)) line))

    pub order-here : result ≡ false → IsOrdered s r (record { cut = Some place; blocks = blocks })
    order-here e = record {
      cut = sym (off-here-map answer_from (stands_in_order s r) r.replies place d within (tested ∙ e)) ∙ to.rest;
      clients = clients_of s r (take place (answers_in r)) formed to.right;
      blocks = to.are_blocks;
    }

    more : take (place + 1) (answers_in r) ≡ take place (answers_in r) ++ a ∷ []
    more = front-more answer_from r.replies place d within ∙ ap (λ x. take place (answers_in r) ++ x ∷ []) (sym line)

    right_more : result ≡ true → first_off (stands_in_order s r) [] (take place (answers_in r) ++ a ∷ []) ≡ None
    right_more e =
        off-push (stands_in_order s r) [] (take place (answers_in r)) a to.right
        (ap (stands_in_order s r (take place (answers_in r))) line ∙ (tested ∙ e))

    pub own-client : result ≡ true → (1 ≤ a.client) × (a.client ≤ 16)
    own-client e =
        let t = ap (stands_in_order s r (take place (answers_in r))) line ∙ (tested ∙ e) in
        client-of s a formed
        (order_guards s r (take place (answers_in r)) a t).named

    pub order-step : result ≡ true → (after : Option Answered) → after ≡ Some a → (new : List Block) → new ≡ with_line blocks a.client place
        → IsOrderedTo s r (place + 1) after new
    order-step e after is_after new is_new =
        let own = own-client e in
        let size : length (take place (answers_in r)) ≡ place = length-take-le place (answers_in r)
        (omega (arith, within, length-map r.replies answer_from)) in
        record {
          rest = off-step-map answer_from (stands_in_order s r) r.replies place d within (tested ∙ e) ∙ to.rest;
          right = subst (λ xs. first_off (stands_in_order s r) [] xs ≡ None) (sym more) (right_more e);
          before_is = is_after ∙ (ap Some line ∙ sym (last-more answer_from r.replies place d within));
          are_blocks =
              subst (λ xs. AreBlocks xs new) (sym more)
              (subst (AreBlocks (take place (answers_in r) ++ a ∷ [])) (sym (is_new ∙ ap (with_line blocks a.client) (sym size)))
              (blocks-push s r (take place (answers_in r)) a (right_more e) blocks own.0 own.1 to.are_blocks));
        }

  pub order-none : length r.replies ≤ place → IsOrdered s r (record { cut = None; blocks = blocks })
  order-none past =
      let all : take place (answers_in r) ≡ answers_in r = take_all place (answers_in r)
      (omega (arith, length-map r.replies answer_from)) in
      record {
        cut = sym (off-done (stands_in_order s r) (answers_in r) place (omega (arith, length-map r.replies answer_from))) ∙ to.rest;
        clients = subst (λ xs. (at : ℕ) (a : Answered) → slice_get xs at ≡ Some a → (1 ≤ a.client) × (a.client ≤ 16)) all
            (clients_of s r (take place (answers_in r)) formed to.right);
        blocks = subst (λ xs. AreBlocks xs blocks) all to.are_blocks;
      }

-- before the first line
pub order-first : (s : Script) (r : Report) → IsOrderedTo s r 0 None (replicate 16 no_block)
unfolding first_off
order-first s r = record {
  rest = at-0 (first_off (stands_in_order s r) [] (answers_in r));
  right = refl;
  before_is = refl;
  are_blocks = blocks-none;
}
