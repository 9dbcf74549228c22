use Rattle.std.proofs.Common.{ℕ, List, subst, arith}
use Rattle.kms_legacy.specs.Translating.{IsPassed}
use Rattle.kms_legacy.proofs.LinesLed.{one_passed}
use Rattle.kms_legacy.proofs.Saying.{next_over}
use Rattle.kms_legacy.proofs.script.pass_all.Goals as goal

pub loop-command-preserved : goal.loop-command-preserved
loop-command-preserved c =
    let script = c.args.script.now in
    let goes = c.in_ok-pass.ensures.goes in
    let passed = subst (λ (old : List (List ℕ)). IsPassed old script.base.topology c.command-item.result c.loop-command.going
    c.pass.new.going) c.as_slice-old.ensures.value c.in_ok-pass.ensures.passed in
    record {
      passed =
          one_passed script.base.names script.base.topology c.as_slice-command-items.result.now script.commands c.loop-command.command-index
          c.command-item.result c.args.going.now c.loop-command.going c.pass.new.going
          c.as_slice-command-items.ensures.value c.loop-command-test.true c.command-item.is c.loop-command.invariant.passed passed;
      over = next_over script.base.topology c.loop-command.going c.pass.new.going goes c.loop-command.invariant.over;
      all = omega (arith, goes.grown.all, c.loop-command.invariant.all);
      made = omega (arith, goes.grown.made, c.loop-command.invariant.made);
      ids = omega (arith, goes.ids, c.loop-command.invariant.ids);
      commits = omega (arith, goes.commits, c.loop-command.invariant.commits);
    }
