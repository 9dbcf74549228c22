use Rattle.std.proofs.Common.{List, take, sym, ap, ◌∙◌, arith}
use Rattle.std.proofs.lemmas.List.{take_all, take_more}
use Rattle.kms_model.specs.declared.pictures.Layer.{Layer}
use Rattle.kms_compose.specs.Changes.{covered_by}
use Rattle.kms_compose.proofs.Recomposed.{covered_none}
use Rattle.kms_compose.proofs.recomposing.first_row.Goals as goal

pub loop-layer-preserved : goal.loop-layer-preserved
loop-layer-preserved c = record {
  within = omega (arith, c.least_row-first.ensures.within, c.loop-layer.invariant.within);
  above = λ x y high.
      ap (λ (ls : List Layer). covered_by ls x y) (take_more c.args.layers.now c.loop-layer.layer-index _ (omega arith))
      ∙ covered_none (take c.loop-layer.layer-index c.args.layers.now) _ x y
      (c.loop-layer.invariant.above x y (omega (arith, high, c.least_row-first.ensures.within)))
      (c.least_row-first.ensures.above x y high);
}

pub returns-clause-above : goal.returns-clause-above
returns-clause-above c = λ x y high.
    ap (λ (ls : List Layer). covered_by ls x y) (sym (take_all c.loop-layer.layer-index c.args.layers.now (omega arith))) ∙
    c.loop-layer.invariant.above x y high
