use Rattle.std.proofs.Common.{arith, rules}
use Rattle.kms_report.specs.Images.{things_of}
use Rattle.kms_report.proofs.StrandLemmas.{all_told, one_more, one_passed}
use Rattle.kms_report.proofs.strands.digests_of_strand.Goals as goal

pub loop-place-preserved-then-not-is : goal.loop-place-preserved-then-not-is
loop-place-preserved-then-not-is g c = record {
  told = one_passed (things_of c.args.told.now.core.now) c.args.told.now.crtc c.args.strand c.args.told.now.latches.now c.args.strands.now
      c.loop-place.place c.index-latches-place.result _ (omega (arith, c.loop-place-test.true))
      (omega (arith, c.requires.strands, c.loop-place-test.true))
      c.loop-place.digests.items _ c.is.result c.loop-place.invariant.told c.is.ensures (search rules);
  stands = c.loop-place.invariant.stands;
}

pub loop-place-preserved : goal.loop-place-preserved
loop-place-preserved g c = record {
  told = one_more (things_of c.args.told.now.core.now) c.args.told.now.crtc c.args.strand c.args.told.now.latches.now c.args.strands.now
      c.loop-place.place c.index-latches-place.result _ (omega (arith, c.loop-place-test.true))
      (omega (arith, c.requires.strands, c.loop-place-test.true))
      c.loop-place.digests.items c.push_digest.new.digests.items _ c.is.result c.index-latches-place.result
      c.loop-place.invariant.told c.is.ensures (search rules) (search rules) c.in_ok-own.ensures.digests;
  stands = c.in_ok-own.ensures.screen;
}

pub returns : goal.returns
returns g c =
    all_told (things_of c.args.told.now.core.now) c.args.told.now.crtc c.args.strand c.args.told.now.latches.now c.args.strands.now
    c.loop-place.place (omega (arith, c.loop-place-test.false)) c.loop-place.digests.items _ c.loop-place.invariant.told
