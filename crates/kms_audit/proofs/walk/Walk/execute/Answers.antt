use Rattle.std.proofs.Common.{Some, ap, refl, subst, sym}
use Rattle.std.specs.Prelude.{IfOk}
use Rattle.kms_audit.proofs.Committing.{making-of, not-entered}
use Rattle.kms_audit.specs.Walked.{IsEntered}
use Rattle.kms_model.specs.declared.scripts.Command.{Command}
use Rattle.kms_model.specs.Report.RightAnswers.{is_entered_in}
use Rattle.kms_audit.proofs.walk.Walk.execute.Goals as goal

pub returns-in-Wait : goal.returns-in-Wait
returns-in-Wait c =
    let old = c.args.self.now in
    not-entered c.args.report.now c.args.client c.args.command.now old old
    (sym (ap (λ (x : Command). is_entered_in old.serial.topology old.serial.world c.args.client (Some x)) c.in-Wait.is)) refl refl refl

pub returns-in-Signal : goal.returns-in-Signal
returns-in-Signal c =
    let old = c.args.self.now in
    not-entered c.args.report.now c.args.client c.args.command.now old old
    (sym (ap (λ (x : Command). is_entered_in old.serial.topology old.serial.world c.args.client (Some x)) c.in-Signal.is)) refl refl refl

pub returns-in-Atomic : goal.returns-in-Atomic
returns-in-Atomic c =
    subst (λ (x : Command). IfOk c.commit.result
    (λ entered. IsEntered c.args.report.now c.args.client x c.args.self.now c.commit.new.self entered))
    (sym c.in-Atomic.is) c.commit.ensures

pub make-requires-clause-room : goal.make-requires-clause-room
make-requires-clause-room c = c.requires.can.room

pub make-requires-clause-making : goal.make-requires-clause-making
make-requires-clause-making c = making-of c.args.command.now c.in_default.not-Atomic c.in_default.not-Signal c.in_default.not-Wait

pub returns-in_default : goal.returns-in_default
returns-in_default c = c.make.ensures c.args.report.now
