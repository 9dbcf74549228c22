use Rattle.std.proofs.Common.{ℕ, List, take, slice_index_or, sym, ap, ◌∙◌, arith}
use Rattle.std.proofs.lemmas.List.{take_all, take_more}
use Rattle.kms_model.specs.declared.pictures.Layer.{Layer}
use Rattle.kms_model.specs.Frames.FrameBytes.{black, through}
use Rattle.kms_compose.specs.Areas.{canvas, drawn}
use Rattle.kms_compose.specs.Changes.{covered_by}
use Rattle.kms_compose.specs.Parts.{parts_over}
use Rattle.kms_compose.proofs.Recomposed.{layer_more, layers_none}
use Rattle.kms_compose.proofs.recomposing.draw_layers.Goals as goal

pub loop-layer-init : goal.loop-layer-init
loop-layer-init g c = record {
  size = omega arith;
  drawn = λ before now. now ∙ layers_none (λ x y. through c.args.gamma.now (parts_over x y black c.args.parts.now)) before
      c.args.mode.now.hdisplay c.args.mode.now.vdisplay;
}

pub loop-layer-preserved : goal.loop-layer-preserved
loop-layer-preserved g c = record {
  size = omega arith;
  drawn = λ before now.
      let width : ℕ = c.args.mode.now.hdisplay in
      let height : ℕ = c.args.mode.now.vdisplay in
      let new = λ (x y : ℕ). through c.args.gamma.now (parts_over x y black c.args.parts.now) in
      let so_far : List Layer = take c.loop-layer.layer-index c.args.layers.now in
      c.draw_layer.ensures (drawn (covered_by so_far) new before) (c.loop-layer.invariant.drawn before now)
      ∙ layer_more new before width height so_far (slice_index_or c.args.layers.now c.loop-layer.layer-index _)
      ∙ ap (λ (ls : List Layer). canvas width height (drawn (covered_by ls) new before))
      (sym (take_more c.args.layers.now c.loop-layer.layer-index _ (omega arith)));
}

pub returns : goal.returns
returns g c = λ before now.
    let new = λ (x y : ℕ). through c.args.gamma.now (parts_over x y black c.args.parts.now) in
    c.loop-layer.invariant.drawn before now
    ∙ ap (λ (ls : List Layer). canvas c.args.mode.now.hdisplay c.args.mode.now.vdisplay (drawn (covered_by ls) new before))
    (take_all c.loop-layer.layer-index c.args.layers.now (omega arith))
