use Rattle.std.proofs.Common.{ap, ◌∙◌, length, arith}
use Rattle.kms_model.specs.declared.scripts.Script.{Script}
use Rattle.kms_one_thread.proofs.Turned.{few_steps}
use Rattle.kms_one_thread.proofs.turns.most_of_turn.Goals as goal

pub returns : goal.returns
returns c =
    let crtcs = ap (λ (s : Script). s.topology.crtcs) c.script.ensures in
    let planes = c.len.ensures ∙ ap (λ (s : Script). length s.topology.planes) c.script.ensures in
    let conns = c.len-2.ensures ∙ ap (λ (s : Script). length s.topology.conns) c.script.ensures in
    let few = few_steps c.args.core.now.script.topology in
    omega (arith, crtcs, planes, conns, few)
