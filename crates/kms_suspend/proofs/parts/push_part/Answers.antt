use Rattle.std.proofs.Common.{◌≡◌, ◌+◌, ◌-◌, suc, ◌∙◌, ap, arith}
use Rattle.kms_model.specs.declared.scripts.Script.{Script}
use Rattle.kms_model.specs.Device.Objects.{count_of}
use Rattle.kms_core.specs.Decisions.{world}
use Rattle.kms_suspend.proofs.Adding.{part_more, part_none}
use Rattle.kms_suspend.proofs.parts.push_part.Goals as goal

pub loop-index-preserved : goal.loop-index-preserved
loop-index-preserved c =
    let i = c.loop-index.index in
    let n = count_of c.args.core.now.script.topology c.args.kind in
    let below = c.loop-index-test.true in
    let count = c.count_of-index-end.ensures.count ∙ ap (λ (x : Script). count_of x.topology c.args.kind) c.script.ensures in
    let less : n - i ≡ suc (n - (i + 1)) = omega (arith, below, count) in
    part_more c.args.way (world c.args.core.now) c.args.kind i (n - (i + 1)) (n - i) c.loop-index.assigns _ less c.in_ok-push_object.ensures
    ∙ c.loop-index.invariant

pub returns : goal.returns
returns c =
    let i = c.loop-index.index in
    let n = count_of c.args.core.now.script.topology c.args.kind in
    let end = c.loop-index-test.false in
    let bound = c.loop-index.auto in
    let count = c.count_of-index-end.ensures.count ∙ ap (λ (x : Script). count_of x.topology c.args.kind) c.script.ensures in
    let none : n - i ≡ 0 = omega (arith, end, bound, count) in
    part_none c.args.way (world c.args.core.now) c.args.kind i (n - i) c.loop-index.assigns none ∙ c.loop-index.invariant
