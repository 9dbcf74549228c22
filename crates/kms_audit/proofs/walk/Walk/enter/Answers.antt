use Rattle.std.proofs.Common.{ap, arith, subst, sym}
use Rattle.kms_audit.proofs.Begun.{can-enter}
use Rattle.kms_audit.proofs.Entered.{is-next, no-command, not-above, not-accepted, of-client}
use Rattle.kms_audit.specs.Walked.{IsEntered}
use Rattle.kms_audit.proofs.Executions.{IsOfScript}
use Rattle.kms_audit.proofs.walk.Walk.enter.Goals as goal
use Rattle.kms_audit.proofs.walk.Walk.enter.Goals.{In-Some}

own : (c : In-Some) → IsOfScript c.args.entry.now.0 c.in-Some.command.now
own c =
    of-client c.args.script.now c.args.report.now c.args.place c.args.self.now c.args.entry.now c.requires.formed
    c.requires.walk c.requires.entry
    c.in-Some.command.now (sym c.in-Some.ensures)

pub returns-in_default : goal.returns-in_default
returns-in_default c =
    no-command c.args.script.now c.args.report.now c.args.place c.args.self.now c.args.entry.now c.requires.formed c.requires.walk
    c.requires.entry c.args.self.now
    (sym c.in_default.ensures)

pub is_above-requires-clause-some : goal.is_above-requires-clause-some
is_above-requires-clause-some c = (own (goal.at.is_above-requires-clause-some c).In-Some).some

pub is_above-requires-clause-few : goal.is_above-requires-clause-few
is_above-requires-clause-few c = (own (goal.at.is_above-requires-clause-few c).In-Some).few

pub returns-then-not-is_above : goal.returns-then-not-is_above
returns-then-not-is_above c =
    not-above c.args.script.now c.args.report.now c.args.place c.args.self.now c.args.entry.now c.requires.formed
    c.requires.walk c.requires.entry
    c.in-Some.command.now (sym c.in-Some.ensures) c.args.self.now c.is_above.result c.is_above.ensures c.if-not-is_above.true

pub execute-requires-clause-can : goal.execute-requires-clause-can
execute-requires-clause-can c =
    can-enter c.args.script.now c.args.report.now c.args.place c.args.self.now c.requires.formed
    (omega (arith, c.requires.few)) c.requires.walk.kept

pub execute-requires-clause-fit : goal.execute-requires-clause-fit
execute-requires-clause-fit c = (own (goal.at.execute-requires-clause-fit c).In-Some).fit

pub returns-then-not-entered : goal.returns-then-not-entered
returns-then-not-entered c =
    not-accepted c.args.script.now c.args.report.now c.args.place c.args.self.now c.args.entry.now c.requires.formed
    c.requires.walk c.requires.entry
    c.in-Some.command.now (sym c.in-Some.ensures) c.is_above.result c.is_above.ensures c.if-not-is_above.false
    c.execute.new.self c.execute.new.self
    (subst (IsEntered c.args.report.now c.args.entry.now.0 c.in-Some.command.now c.args.self.now c.execute.new.self)
    c.if-not-entered.true c.in_ok-entered.ensures)

pub note_number-requires-clause-some : goal.note_number-requires-clause-some
note_number-requires-clause-some c = (own (goal.at.note_number-requires-clause-some c).In-Some).some

pub note_number-requires-clause-few : goal.note_number-requires-clause-few
note_number-requires-clause-few c = (own (goal.at.note_number-requires-clause-few c).In-Some).few

pub returns : goal.returns
returns c =
    is-next c.args.script.now c.args.report.now c.args.place c.args.self.now c.args.entry.now c.requires.formed
    c.requires.walk c.requires.entry
    c.in-Some.command.now (sym c.in-Some.ensures) c.is_above.result c.is_above.ensures c.if-not-is_above.false c.execute.new.self _
    (subst (IsEntered c.args.report.now c.args.entry.now.0 c.in-Some.command.now c.args.self.now c.execute.new.self)
    c.if-not-entered.false c.in_ok-entered.ensures)
    (ap (λ h. record c.execute.new.self { highest = h }) c.note_number.ensures)
