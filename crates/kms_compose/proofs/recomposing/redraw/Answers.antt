use Rattle.std.proofs.Common.{◌≡◌, ℕ, ◌*◌, List, sym, ap, ◌∙◌, arith, rules}
use Rattle.kms_model.specs.declared.pictures.Layer.{Layer}
use Rattle.kms_model.specs.Frames.FrameBytes.{black}
use Rattle.kms_compose.specs.Changes.{covered_by}
use Rattle.kms_compose.specs.Images.{word_under}
use Rattle.kms_compose.specs.Parts.{parts_over}
use Rattle.kms_compose.proofs.Recomposed.{differ_in, drawn_each, frame-length, frame-size, front_stays, new_on, old_on, recomposed}
use Rattle.kms_compose.proofs.Recomposed.{colour_shown}
use Rattle.kms_compose.proofs.recomposing.redraw.Goals as goal

pub draw_changed-requires-clause-changed : goal.draw_changed-requires-clause-changed
draw_changed-requires-clause-changed g c =
    rw c.as_slice-then-is_same_table-2.ensures.value
    (c.in_ok-changed.ensures.fit c.args.new.now.mode
    (old_on c.args.images.now c.args.old.now c.args.new.now c.as_slice.result.now c.requires.size c.requires.old c.as_slice.ensures)
    (new_on c.args.images.now c.args.new.now c.as_slice-then-is_same_table.result.now c.requires.new c.as_slice-then-is_same_table.ensures))

pub draw_changed-requires-clause-long : goal.draw_changed-requires-clause-long
draw_changed-requires-clause-long g c = frame-length (word_under c.args.images.now) c.args.old.now c.args.new.now c.args.frame.now
    c.requires.size c.requires.frame

pub first_row-requires : goal.first_row-requires
first_row-requires g c = (
  c.args.new.now.mode,
  rw c.as_slice-then-is_same_table-3.ensures.value
      (c.in_ok-changed.ensures.fit c.args.new.now.mode
      (old_on c.args.images.now c.args.old.now c.args.new.now c.as_slice.result.now c.requires.size c.requires.old c.as_slice.ensures)
      (new_on c.args.images.now c.args.new.now c.as_slice-then-is_same_table.result.now c.requires.new
      c.as_slice-then-is_same_table.ensures)),
)

pub returns-then-is_same_table-clause-exact : goal.returns-then-is_same_table-clause-exact
returns-then-is_same_table-clause-exact g c =
    recomposed (word_under c.args.images.now) c.args.old.now c.args.new.now c.as_slice-then-is_same_table-2.result.now c.deref.result.now
    c.args.frame.now c.draw_changed.new.frame c.requires.size c.requires.frame
    c.draw_changed.ensures (c.is_same_table.ensures.0 (search rules))
    (differ_in _ _ _ c.as_slice-then-is_same_table-2.result.now c.args.old.now.layers c.args.new.now.layers
    c.as_slice-then-is_same_table-2.ensures.value c.as_slice.ensures c.as_slice-then-is_same_table.ensures c.in_ok-changed.ensures)
    (λ x y. ap (parts_over x y black) c.deref.ensures.value ∙ c.in_ok-parts.ensures.colours x y)

pub returns-then-is_same_table-clause-kept : goal.returns-then-is_same_table-clause-kept
returns-then-is_same_table-clause-kept g c =
    let width : c.from-width.result ≡ c.args.new.now.mode.hdisplay = search rules in
    let height : c.from-height.result ≡ c.args.new.now.mode.vdisplay = search rules in
    front_stays (word_under c.args.images.now) c.args.old.now c.args.new.now c.as_slice-then-is_same_table-2.result.now c.deref.result.now
    c.args.frame.now c.draw_changed.new.frame
    c.requires.size c.requires.frame c.draw_changed.ensures c.first_row.result (3 * c.from-width.result * c.first_row.result)
    (omega (arith, c.first_row.ensures.within, height)) (ap (λ (w : ℕ). 3 * w * c.first_row.result) width)
    (λ x y high. ap (λ (ls : List Layer). covered_by ls x y)
    (c.as_slice-then-is_same_table-2.ensures.value ∙ sym c.as_slice-then-is_same_table-3.ensures.value) ∙ c.first_row.ensures.above x y
    high)

pub draw_each-requires-clause-long : goal.draw_each-requires-clause-long
draw_each-requires-clause-long g c = frame-length (word_under c.args.images.now) c.args.old.now c.args.new.now c.args.frame.now
    c.requires.size c.requires.frame

pub returns-clause-exact : goal.returns-clause-exact
returns-clause-exact g c =
    drawn_each (word_under c.args.images.now) c.args.new.now c.deref-else-is_same_table.result.now c.draw_each.new.frame
    (λ x y. ap (parts_over x y black) c.deref-else-is_same_table.ensures.value ∙ c.in_ok-parts.ensures.colours x y)
    (c.draw_each.ensures (colour_shown (word_under c.args.images.now) c.args.old.now)
    (frame-size (word_under c.args.images.now) c.args.old.now c.args.new.now c.args.frame.now c.requires.size c.requires.frame))
