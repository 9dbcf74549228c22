use Rattle.std.proofs.Common.{◌+◌, length, ap, ◌∙◌, arith}
use Rattle.std.proofs.lemmas.List.{length_push}
use Rattle.kms_kept_frames.proofs.FrontLemmas.{one_step}
use Rattle.kms_kept_frames.proofs.digests.digest_of_frame.Goals as goal

pub loop-place-preserved : goal.loop-place-preserved
loop-place-preserved c =
    let at = c.loop-place.invariant.at in
    let cut = c.split_at-in-loop-place.ensures in
    record {
      at = one_step c.loop-place.fronts c.add.new.self c.loop-place.hasher c.update.new.self c.loop-place.rest.now
          c.split_at-in-loop-place.result.0.now c.split_at-in-loop-place.result.1.now c.args.frame.now at
          c.add.ensures.step c.add.ensures.states (omega (arith, c.if-rest-fronts.false)) cut.front cut.back c.update.ensures;
      count = ap length c.add.ensures.states ∙ length_push c.loop-place.fronts.states.items c.update.new.self ∙ ap (λ n. n + 1)
          c.loop-place.invariant.count;
    }
