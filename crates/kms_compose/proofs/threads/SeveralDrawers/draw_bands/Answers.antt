use Rattle.std.proofs.Common.{◌+◌, ◌*◌, refl, arith}
use Rattle.kms_model.specs.Frames.FrameBytes.{black, through}
use Rattle.kms_compose.specs.Areas.{drawn, in_columns}
use Rattle.kms_compose.specs.Parts.{is_within, parts_over}
use Rattle.kms_compose.proofs.Bands.{bands_are, chunk_rows, no_bytes}
use Rattle.kms_compose.proofs.Canvas.{canvas-length}
use Rattle.kms_compose.proofs.threads.SeveralDrawers.draw_bands.Goals as goal

pub returns : goal.returns
returns g c = λ before now.
    bands_are c.args.width (3 * c.args.width) c.args.area.now.height c.args.height c.args.area.now.top
    (c.args.height * (3 * c.args.width)) refl (omega (arith, c.if-width-eq0.false)) refl c.requires.some
    (is_within c.args.area.now.left c.args.area.now.width) (λ x y. through c.args.gamma.now (parts_over x y black c.args.parts.now)) before
    c.args.rows.now c.par_chunks_mut_for_each.new.s c.requires.long (omega arith) now (λ n low.
    let at = c.par_chunks_mut_for_each.ensures.chunks n low in record {
      given = at.argument.now;
      left = at.after_call.now;
      given_is = at.argument_is;
      left_is = at.left;
      drew = at.call;
    })

pub returns-then-width-eq0 : goal.returns-then-width-eq0
returns-then-width-eq0 g c = λ before now.
    no_bytes c.args.rows.now _ c.args.width c.args.area.now.height (omega (arith, c.if-width-eq0.true)) c.requires.long
    (canvas-length c.args.width c.args.area.now.height
    (drawn (in_columns c.args.area.now) (λ x y. through c.args.gamma.now (parts_over x (c.args.area.now.top + y) black c.args.parts.now))
    before))

pub par_chunks_mut_for_each-requires-clause-accepts : goal.par_chunks_mut_for_each-requires-clause-accepts
par_chunks_mut_for_each-requires-clause-accepts g c κs within = λ start p is. (
  c.requires.parts,
  omega (arith, c.if-width-eq0.false),
  refl,
  c.requires.narrow,
  c.requires.across,
  c.requires.low,
  chunk_rows c.args.width (3 * c.args.width) c.args.area.now.height c.args.height
      (c.args.height * (3 * c.args.width)) start c.args.rows.now p.now
      refl (omega (arith, c.if-width-eq0.false)) refl c.requires.long is,
)
