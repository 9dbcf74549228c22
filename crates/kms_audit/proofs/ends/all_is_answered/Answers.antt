use Rattle.std.proofs.Common.{◌≡◌, ◌-◌, List, ap, arith, false, get_or, length, rules, sym, true, ◌∙◌}
use Rattle.std.proofs.lemmas.Option.{unwrap_or-slice_get}
use Rattle.std.specs.Prelude.{◌==◌, slice_index_or}
use Rattle.kms_audit.proofs.Ending.{answered-all, answered-rest, answered-wrong}
use Rattle.kms_audit.specs.Ordered.{no_block}
use Rattle.kms_model.specs.declared.scripts.Command.{Command}
use Rattle.kms_audit.proofs.ends.all_is_answered.Goals as goal

pub returns-then-not-same : goal.returns-then-not-same
returns-then-not-same c = λ r whole.
    let s = c.args.script.now in
    let at = c.loop-at.at in
    let d = c.commands-item.result in
    let is : d ≡ get_or s.clients at d =
    c.commands-item.is ∙ ap (λ (xs : List (List Command)). get_or xs at d) c.as_slice-commands-items.ensures.value in
    let block = slice_index_or c.args.blocks.now at no_block in
    let here : (block.end - block.next == length d) ≡ false = search (rules, unwrap_or-slice_get) in
    let off = ap (λ (x : List Command). block.end - block.next == length x) (sym is) ∙ here in
    answered-wrong s r c.args.blocks.now whole c.requires at d (omega (arith, ap length c.as_slice-commands-items.ensures.value))
    (c.loop-at.invariant r whole) off

pub loop-at-preserved : goal.loop-at-preserved
loop-at-preserved c = λ r whole.
    let s = c.args.script.now in
    let at = c.loop-at.at in
    let d = c.commands-item.result in
    let is : d ≡ get_or s.clients at d =
    c.commands-item.is ∙ ap (λ (xs : List (List Command)). get_or xs at d) c.as_slice-commands-items.ensures.value in
    let block = slice_index_or c.args.blocks.now at no_block in
    let here : (block.end - block.next == length d) ≡ true = search (rules, unwrap_or-slice_get) in
    let on = ap (λ (x : List Command). block.end - block.next == length x) (sym is) ∙ here in
    answered-rest s r c.args.blocks.now whole c.requires at d (omega (arith, ap length c.as_slice-commands-items.ensures.value))
    (c.loop-at.invariant r whole) on

pub returns : goal.returns
returns c = λ r whole.
    answered-all c.args.script.now r c.args.blocks.now whole c.loop-at.at (omega (arith, ap length c.as_slice-commands-items.ensures.value))
    (c.loop-at.invariant r whole)
