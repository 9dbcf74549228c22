use Rattle.std.proofs.Common.{◌∙◌, arith}
use Rattle.std.proofs.lemmas.List.{take_at}
use Rattle.kms_compose.proofs.recomposing.draw_changed.Goals as goal

pub returns : goal.returns
returns g c = λ before now.
    c.from_vec.ensures
    ∙ take_at c.draw_layers.new.bytes _ c.into_vec-bytes.result.len (omega arith)
    ∙ c.draw_layers.ensures before (c.as_mut_slice.ensures.value ∙ c.into_vec-bytes.ensures ∙ c.replace.ensures.value ∙ now)
