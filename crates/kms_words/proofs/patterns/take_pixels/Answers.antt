use Rattle.std.proofs.Common.{sym, ◌∙◌, length-append, arith}
use Rattle.kms_words.proofs.Loops.{next_pixel}
use Rattle.kms_words.proofs.patterns.take_pixels.Goals as goal

pub reading-preserved : goal.reading-preserved
reading-preserved c = record {
  read = rw c.in_ok-push.ensures.ok (sym (next_pixel c.reading.words c.args.format c.args.count c.reading.counter c.reading.rest.now
      c.in-Some.after.now c.in-Some.word c.reading-test.true c.in-Some.ensures) ∙ c.reading.invariant.read);
  all = rw (c.in_ok-push.ensures.ok, length-append) (omega (arith, c.reading.invariant.all));
}
