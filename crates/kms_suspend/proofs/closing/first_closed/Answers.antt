use Rattle.std.proofs.Common.{◌<◌, Some, ◌∙◌, sym, ap, arith}
use Rattle.std.specs.Prelude.{option_map}
use Rattle.kms_model.specs.declared.scripts.Script.{Script}
use Rattle.kms_model.specs.Device.Objects.{count_of}
use Rattle.kms_model.specs.Request.Sets.{obj_id}
use Rattle.kms_core.specs.Decisions.{world}
use Rattle.kms_suspend.specs.Parts.{id_of, lacks_label}
use Rattle.kms_suspend.proofs.Searching.{found-here, found-more}
use Rattle.kms_suspend.proofs.closing.first_closed.Goals as goal
use Rattle.kms_suspend.proofs.closing.first_closed.Goals.{After-lacks_label}

-- the index is that of an object of the device
there : (c : After-lacks_label) → c.loop-index.index < count_of c.args.core.now.script.topology c.args.kind
there c =
    let below = c.loop-index-test.true in
    let count = c.count_of-index-end.ensures.count ∙ ap (λ (x : Script). count_of x.topology c.args.kind) c.script.ensures in
    omega (arith, below, count)

pub returns-then-lacks_label : goal.returns-then-lacks_label
returns-then-lacks_label c =
    let found = found-here (lacks_label (world c.args.core.now) c.args.kind) c.loop-index.index
    (count_of c.args.core.now.script.topology c.args.kind) (there (goal.at.returns-then-lacks_label c).After-lacks_label)
    (sym c.lacks_label.ensures ∙ c.if-lacks_label.true) in
    ap (λ id. Some (obj_id id)) c.of.ensures ∙ ap (option_map (id_of c.args.kind)) (sym found ∙ c.loop-index.invariant)

pub loop-index-preserved : goal.loop-index-preserved
loop-index-preserved c =
    found-more (lacks_label (world c.args.core.now) c.args.kind) c.loop-index.index (count_of c.args.core.now.script.topology c.args.kind)
    (there (goal.at.loop-index-preserved c).After-lacks_label) (sym c.lacks_label.ensures ∙ c.if-lacks_label.false)
    ∙ c.loop-index.invariant
