use Rattle.std.proofs.Common.{◌≡◌, ◌∙◌, arith, rules}
use Rattle.std.proofs.lemmas.List.{take_at}
use Rattle.kms_compose.proofs.recomposing.draw_each.Goals as goal

pub returns : goal.returns
returns g c =
    let width : c.from-width.result ≡ c.args.shown.now.mode.hdisplay = search rules in
    let height : c.from-height.result ≡ c.args.shown.now.mode.vdisplay = search rules in
    rw (← width, ← height) (λ before now.
    c.from_vec.ensures
    ∙ take_at c.draw_whole.new.bytes _ c.into_vec-bytes.result.len (omega arith)
    ∙ c.draw_whole.ensures before (c.as_mut_slice.ensures.value ∙ c.into_vec-bytes.ensures ∙ c.replace.ensures.value ∙ now))
