use Rattle.std.proofs.Common.{arith, refl}
use Rattle.std.specs.Int.{w32, cast_unsigned}
use Rattle.std.proofs.lemmas.Int.{ints}
use Rattle.kms_model.specs.Device.States.{natural}
use Rattle.kms_model.specs.Machine.Registers.{plane_words}
use Rattle.kms_regs.proofs.Signed.{passed}
use Rattle.kms_regs.proofs.words.PlaneWords.of.Goals as goal

pub returns : goal.returns
unfolding plane_words
returns c =
    let s = c.args.state.now in
    rw (
      c.fb_words-fb.ensures.id,
      c.fb_words-fb.ensures.width,
      c.fb_words-fb.ensures.height,
      c.fb_words-fb.ensures.format,
      passed (cast_unsigned w32) s.dst.x c.requires.x.low (omega (arith, ints, c.requires.x.high))
          c.signed_word.ensures,
      passed (cast_unsigned w32) s.dst.y c.requires.y.low (omega (arith, ints, c.requires.y.high))
          c.signed_word-2.ensures,
      passed natural s.dst.w (omega (arith, ints, c.requires.w.low)) (omega (arith, ints, c.requires.w.high))
          c.natural_word.ensures,
      passed natural s.dst.h (omega (arith, ints, c.requires.h.low)) (omega (arith, ints, c.requires.h.high))
          c.natural_word-2.ensures,
      passed natural s.src.x (omega (arith, ints, c.requires.src_x.low)) c.requires.src_x.high
          c.natural_word-3.ensures,
      passed natural s.src.y (omega (arith, ints, c.requires.src_y.low)) c.requires.src_y.high
          c.natural_word-4.ensures,
      passed natural s.src.w (omega (arith, ints, c.requires.src_w.low)) c.requires.src_w.high
          c.natural_word-5.ensures,
      passed natural s.src.h (omega (arith, ints, c.requires.src_h.low)) c.requires.src_h.high
          c.natural_word-6.ensures,
    ) refl
