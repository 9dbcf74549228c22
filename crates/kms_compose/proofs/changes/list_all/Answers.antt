use Rattle.std.proofs.Common.{List, subst, arith}
use Rattle.std.proofs.lemmas.List.{take_all}
use Rattle.kms_model.specs.declared.pictures.Layer.{Layer}
use Rattle.kms_compose.specs.Changes.{Lists}
use Rattle.kms_compose.proofs.Differing.{lists_more, lists_none}
use Rattle.kms_compose.proofs.changes.list_all.Goals as goal

pub loop-layer-init : goal.loop-layer-init
loop-layer-init c = lists_none c.args.listed.now.items

pub loop-layer-preserved : goal.loop-layer-preserved
loop-layer-preserved c = lists_more c.args.listed.now.items c.args.layers.now c.loop-layer.listed.items c.list.new.listed.items
    c.loop-layer.layer-index _ (omega arith) c.loop-layer.invariant c.in_ok-list.ensures

pub returns : goal.returns
returns c = subst (λ (ls : List Layer). Lists c.args.listed.now.items ls c.loop-layer.listed.items)
    (take_all c.loop-layer.layer-index c.args.layers.now (omega arith)) c.loop-layer.invariant
