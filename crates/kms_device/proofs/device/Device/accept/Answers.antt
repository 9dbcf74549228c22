use Rattle.std.proofs.Common.{sym, subst, ◌∙◌}
use Rattle.kms_model.specs.declared.replies.Step.TheVariants as step
use Rattle.kms_device.specs.Asking.{MayBeTested}
use Rattle.kms_device.specs.Trying.{with_looks}
use Rattle.kms_device.specs.Turns.{run_seen}
use Rattle.kms_device.proofs.Moved.{may_swap_by, may_test_by}
use Rattle.kms_device.proofs.Places.{concluded_at, stands_err}
use Rattle.kms_device.proofs.TriedCases.{swapped_so, takes_for, tested_so, tried_err}
use Rattle.kms_device.proofs.TurnsTried.{nothing_done}
use Rattle.kms_device.proofs.device.Device.accept.Goals as goal

pub test-requires-clause-may : goal.test-requires-clause-may
test-requires-clause-may g c =
    subst (λ checked. MayBeTested (run_seen c.args.self.now.script c.args.pass.now) c.args.pass.now.rank c.args.work.taking.t
    c.args.work.looks checked) (sym c.deref-checked.ensures)
    (may_test_by c.args.self.now.script c.args.pass.now (with_looks c.args.work.looks c.args.kept.now.states) c.args.work.taking.t
    c.args.work.taking.request.now c.args.work.looks
    (takes_for c.args.self.now.script c.args.pass.now c.args.work.taking.t c.args.work.taking.request.now c.args.work.looks
    c.args.kept.now.states c.requires.works.ready c.requires.works.takes)
    c.args.accepted.now.checked.value c.args.accepted.now.resolved c.requires.accepted (sym c.is_test.ensures ∙ c.if-is_test.true))

pub returns-in_err-answer-clause-tried : goal.returns-in_err-answer-clause-tried
returns-in_err-answer-clause-tried g c =
    tried_err _ _ _ _ _ c.from_residual.result c.from_residual.ensures.0 (nothing_done _ _ _ _
    (with_looks c.args.work.looks c.args.kept.now.states) c.requires.works.ready c.in_err-answer.ensures)

pub returns-then-is_test-clause-tried : goal.returns-then-is_test-clause-tried
returns-then-is_test-clause-tried g c =
    tested_so c.args.self.now.script c.args.pass.now c.args.work.taking.t c.args.work.taking.request.now c.args.work.looks
    c.args.kept.now.states c.requires.works.ready c.requires.works.takes
    c.test.new.pass c.conclude.new.pass c.in_ok-answer.answer c.conclude.new.kept c.conclude.result c.conclude.ensures.did
    c.conclude.ensures.vain
    c.args.accepted.now.checked c.args.accepted.now.resolved c.requires.accepted (sym c.is_test.ensures ∙ c.if-is_test.true)
    c.in_ok-answer.ensures

pub swap-requires-clause-may : goal.swap-requires-clause-may
swap-requires-clause-may g c =
    may_swap_by c.args.self.now.script c.args.pass.now (with_looks c.args.work.looks c.args.kept.now.states) c.args.work.taking.t
    c.args.work.taking.request.now c.args.work.looks
    (takes_for c.args.self.now.script c.args.pass.now c.args.work.taking.t c.args.work.taking.request.now c.args.work.looks
    c.args.kept.now.states c.requires.works.ready c.requires.works.takes)
    c.args.accepted.now.checked.value c.args.accepted.now.resolved c.requires.accepted (sym c.is_test.ensures ∙ c.if-is_test.false)

pub returns-in_err-answer-2-clause-tried : goal.returns-in_err-answer-2-clause-tried
returns-in_err-answer-2-clause-tried g c =
    tried_err _ _ _ _ _ c.from_residual-in_err-answer-2.result c.from_residual-in_err-answer-2.ensures.0
    (nothing_done _ _ _ _ (with_looks c.args.work.looks c.args.kept.now.states) c.requires.works.ready c.in_err-answer-2.ensures)

pub returns-clause-tried : goal.returns-clause-tried
returns-clause-tried g c =
    swapped_so c.args.self.now.script c.args.pass.now c.args.work.taking.t c.args.work.taking.request.now c.args.work.looks
    c.args.kept.now.states c.requires.works.ready c.requires.works.takes
    c.swap.new.pass c.conclude-2.new.pass c.in_ok-answer-2.answer c.conclude-2.new.kept c.conclude-2.result c.conclude-2.ensures.did
    c.conclude-2.ensures.vain
    c.args.accepted.now.checked c.args.accepted.now.resolved c.requires.accepted (sym c.is_test.ensures ∙ c.if-is_test.false)
    c.in_ok-answer-2.ensures

pub returns-in_err-answer-clause-stands : goal.returns-in_err-answer-clause-stands
returns-in_err-answer-clause-stands g c = λ place stands. stands_err _ _ c.from_residual.result place c.from_residual.ensures.0

pub returns-in_err-answer-2-clause-stands : goal.returns-in_err-answer-2-clause-stands
returns-in_err-answer-2-clause-stands g c = λ place stands. stands_err _ _ c.from_residual-in_err-answer-2.result place
    c.from_residual-in_err-answer-2.ensures.0

pub returns-then-is_test-clause-stands : goal.returns-then-is_test-clause-stands
returns-then-is_test-clause-stands g c = λ place stands.
    concluded_at _ c.args.self.now.script _ c.args.pass.now c.test.new.pass c.conclude.new.pass place stands c.args.work.taking.request.now
    (with_looks c.args.work.looks c.args.kept.now.states) c.conclude.new.kept (step.Test c.args.pass.now.rank)
    c.in_ok-answer.answer c.conclude.result c.in_ok-answer.ensures c.conclude.ensures.did

pub returns-clause-stands : goal.returns-clause-stands
returns-clause-stands g c = λ place stands.
    concluded_at _ c.args.self.now.script _ c.args.pass.now c.swap.new.pass c.conclude-2.new.pass place stands
    c.args.work.taking.request.now
    (with_looks c.args.work.looks c.args.kept.now.states) c.conclude-2.new.kept (step.Swap c.args.pass.now.rank)
    c.in_ok-answer-2.answer c.conclude-2.result c.in_ok-answer-2.ensures c.conclude-2.ensures.did
