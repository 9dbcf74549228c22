use Rattle.kms_model.specs.declared.replies.Step.TheVariants as step
use Rattle.kms_device.proofs.Moved.{may_refuse_by}
use Rattle.kms_device.specs.Trying.{with_looks}
use Rattle.kms_device.proofs.Places.{concluded_at, stands_err}
use Rattle.kms_device.proofs.TriedCases.{refused_so, takes_for, tried_err}
use Rattle.kms_device.proofs.TurnsTried.{nothing_done}
use Rattle.kms_device.proofs.device.Device.turn_down.Goals as goal

pub refuse-requires-clause-may : goal.refuse-requires-clause-may
refuse-requires-clause-may g c =
    may_refuse_by c.args.self.now.script c.args.pass.now (with_looks c.args.work.looks c.args.kept.now.states) c.args.work.taking.t
    c.args.work.taking.request.now c.args.work.looks
    (takes_for c.args.self.now.script c.args.pass.now c.args.work.taking.t c.args.work.taking.request.now c.args.work.looks
    c.args.kept.now.states c.requires.works.ready c.requires.works.takes) c.args.why c.requires.refused

pub returns-in_err-answer-clause-tried : goal.returns-in_err-answer-clause-tried
returns-in_err-answer-clause-tried g c =
    tried_err _ _ _ _ _ c.from_residual.result c.from_residual.ensures.0 (nothing_done _ _ _ _
    (with_looks c.args.work.looks c.args.kept.now.states) c.requires.works.ready c.in_err-answer.ensures)

pub returns-clause-tried : goal.returns-clause-tried
returns-clause-tried g c =
    refused_so c.args.self.now.script c.args.pass.now c.args.work.taking.t c.args.work.taking.request.now c.args.work.looks
    c.args.kept.now.states c.requires.works.ready c.requires.works.takes
    c.refuse.new.pass c.conclude.new.pass c.in_ok-answer.answer c.conclude.new.kept c.conclude.result c.conclude.ensures.did
    c.conclude.ensures.vain c.args.why
    c.requires.refused c.in_ok-answer.ensures

pub returns-in_err-answer-clause-stands : goal.returns-in_err-answer-clause-stands
returns-in_err-answer-clause-stands g c = λ place stands. stands_err _ _ c.from_residual.result place c.from_residual.ensures.0

pub returns-clause-stands : goal.returns-clause-stands
returns-clause-stands g c = λ place stands.
    concluded_at _ c.args.self.now.script _ c.args.pass.now c.refuse.new.pass c.conclude.new.pass place stands
    c.args.work.taking.request.now
    (with_looks c.args.work.looks c.args.kept.now.states) c.conclude.new.kept (step.Refuse c.args.pass.now.rank)
    c.in_ok-answer.answer c.conclude.result c.in_ok-answer.ensures c.conclude.ensures.did
