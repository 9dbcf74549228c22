use Rattle.std.proofs.Common.{arith, refl, subst}
use Rattle.kms_audit.proofs.Comparing.{block-more, line-stops, nothing-compared}
use Rattle.kms_audit.specs.Judged.{IsAt}
use Rattle.kms_audit.proofs.compared.compare_block.Goals as goal

pub lines-init : goal.lines-init
lines-init c = record {
  end = refl;
  least = omega arith;
  most = λ proper. proper;
  told = λ r index same at. nothing-compared c.args.standing.now.script.now r c.args.block.now.next c.args.differing;
}

pub lines-preserved : goal.lines-preserved
lines-preserved c =
    let inv = c.lines.invariant in
    record {
      end = inv.end;
      least = omega (arith, inv.least);
      most = λ proper. omega arith;
      told = λ r index same at.
          block-more c.args.standing.now.script.now r c.args.replies.now same c.lines.block.next _
          (omega arith) c.args.block.now.next inv.least c.args.differing c.lines.first
          c.with_line-first.result (inv.told r index same at)
          (c.with_line-first.ensures r index
          (subst (λ p. IsAt c.args.standing.now.script.now r p c.args.standing.now.serial.now c.args.standing.now.touches.now)
          (omega arith) at));
    }

pub returns-else-replies-block : goal.returns-else-replies-block
returns-else-replies-block c = λ r index same at.
    let inv = c.lines.invariant in
    record {
      end = inv.end;
      least = inv.least;
      most = inv.most;
      stops = λ a opened g here.
          line-stops c.args.standing.now.script.now r c.args.replies.now same c.lines.block.next _ (omega arith) c.args.place
          c.if-replies-block.false a g here;
      differing = inv.told r index same at;
    }

pub returns-after-lines : goal.returns-after-lines
returns-after-lines c = λ r index same at.
    let inv = c.lines.invariant in
    record {
      end = inv.end;
      least = inv.least;
      most = inv.most;
      stops = λ a opened g here. absurd (omega (arith, opened));
      differing = inv.told r index same at;
    }
