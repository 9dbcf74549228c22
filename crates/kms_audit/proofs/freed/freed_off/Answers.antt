use Rattle.std.proofs.Common.{◌≡◌, [], ap, arith, cond, get_or, not, rules, true, ◌∙◌}
use Rattle.std.specs.BTreeMap.{is_at}
use Rattle.std.specs.BTreeSet as sorted
use Rattle.std.specs.Ordering.{nat_cmp}
use Rattle.kms_audit.proofs.Firsts.{at-0}
use Rattle.kms_audit.proofs.Freeing.{FreedFields, freed-again, freed-none, freed-off, freed-rest, named-next}
use Rattle.kms_model.specs.Device.World.{thing_with_id}
use Rattle.kms_model.specs.Report.Right.{freed_is_right, is_closed_framebuffer}
use Rattle.kms_model.specs.Report.RightAnswers.{first_off}
use Rattle.kms_audit.proofs.freed.freed_off.Goals as goal
use Rattle.kms_audit.proofs.freed.freed_off.Goals.{After-is_closed_framebuffer-closed, In_ok-added}

-- the id was none before
added : (c : In_ok-added) → c.in_ok-added.added
    ≡ not (sorted.contains nat_cmp c.loop-place.named (get_or c.args.lines.now c.loop-place.place c.index-lines-place.result).1)
added c =
    c.in_ok-added.ensures.added ∙ ap (λ (y : FreedFields). not (sorted.contains nat_cmp c.loop-place.named y.1)) c.index-lines-place.is

-- the thing is a closed framebuffer
closed : (c : After-is_closed_framebuffer-closed) → c.is_closed_framebuffer-closed.result
    ≡ is_closed_framebuffer c.args.script.now.names (get_or c.args.lines.now c.loop-place.place c.index-lines-place.result).0
    (thing_with_id c.args.serial.now.world.things (get_or c.args.lines.now c.loop-place.place c.index-lines-place.result).1)
closed c =
    let names = c.args.script.now.names in
    let things = c.args.serial.now.world.things in
    let x = c.index-lines-place.result in
    c.is_closed_framebuffer-closed.ensures
    ∙ (ap (λ label. is_closed_framebuffer names label (thing_with_id things x.1)) c.as_slice.ensures.value
    ∙ ap (λ (y : FreedFields). is_closed_framebuffer names y.0 (thing_with_id things y.1)) c.index-lines-place.is)

pub loop-place-init : goal.loop-place-init
loop-place-init c = record {
  rest = λ r behind. at-0 (first_off (freed_is_right c.args.script.now r) [] c.args.lines.now);
  ids = λ id. search rules;
}

pub returns-then-not-added : goal.returns-then-not-added
returns-then-not-added c = λ r behind same.
    let x = c.index-lines-place.result in
    let is = added (goal.at.returns-then-not-added c).In_ok-added in
    freed-again c.args.script.now r c.args.serial.now behind c.args.lines.now c.loop-place.place
    (c.loop-place.invariant.rest r behind) x c.loop-place.named
    (omega arith) c.loop-place.invariant.ids c.in_ok-added.added is same c.if-not-added.true

pub returns-then-not-closed : goal.returns-then-not-closed
returns-then-not-closed c = λ r behind same.
    let x = c.index-lines-place.result in
    let is = added (goal.at.returns-then-not-closed c).In_ok-added in
    let told = closed (goal.at.returns-then-not-closed c).After-is_closed_framebuffer-closed in
    freed-off c.args.script.now r c.args.serial.now behind c.args.lines.now c.loop-place.place
    (c.loop-place.invariant.rest r behind) x c.loop-place.named
    (omega arith) c.loop-place.invariant.ids c.in_ok-added.added is c.if-not-added.false c.is_closed_framebuffer-closed.result told
    same c.if-not-closed.true

pub loop-place-preserved : goal.loop-place-preserved
loop-place-preserved c =
    let x = c.index-lines-place.result in
    let is = added (goal.at.loop-place-preserved c).In_ok-added in
    let told = closed (goal.at.loop-place-preserved c).After-is_closed_framebuffer-closed in
    record {
      rest = λ r behind.
          freed-rest c.args.script.now r c.args.serial.now behind c.args.lines.now c.loop-place.place
          (c.loop-place.invariant.rest r behind) x
          c.loop-place.named (omega arith) c.loop-place.invariant.ids c.in_ok-added.added is c.if-not-added.false
          c.is_closed_framebuffer-closed.result told
          c.if-not-closed.false;
      ids =
          named-next c.args.lines.now c.loop-place.place x c.loop-place.named c.insert.new.self (omega arith) c.loop-place.invariant.ids
          (λ id. c.in_ok-added.ensures.updates.0 id
          ∙ ap (λ (y : FreedFields). cond (is_at (nat_cmp y.1) id) true (sorted.contains nat_cmp c.loop-place.named id))
          c.index-lines-place.is);
    }

pub returns : goal.returns
returns c = λ r behind same.
    freed-none c.args.script.now r c.args.serial.now behind c.args.lines.now c.loop-place.place
    (c.loop-place.invariant.rest r behind) same (omega arith)
