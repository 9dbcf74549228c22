use Rattle.std.proofs.Common.{ap, arith, length, subst}
use Rattle.kms_audit.proofs.Entered.{all-walked, at-last, next-is, none-off, off-at-entry}
use Rattle.kms_audit.specs.Walked.{IsNextWalk}
use Rattle.kms_audit.proofs.walk.Walk.through.Goals as goal

pub loop-place-init : goal.loop-place-init
loop-place-init c = c.requires.walk

pub compare-requires-clause-few : goal.compare-requires-clause-few
compare-requires-clause-few c = omega (arith, c.requires.few, ap length c.as_slice-journal.ensures.value)

pub enter-requires-clause-few : goal.enter-requires-clause-few
enter-requires-clause-few c = omega (arith, c.requires.few, ap length c.as_slice-journal.ensures.value)

pub enter-requires-clause-entry : goal.enter-requires-clause-entry
enter-requires-clause-entry c = next-is c.args.report.now.journal c.as_slice-journal.result.now c.loop-place.place _
    c.as_slice-journal.ensures.value (omega arith)

pub returns-then-not-right-clause-off : goal.returns-then-not-right-clause-off
returns-then-not-right-clause-off c =
    off-at-entry c.args.script.now c.args.report.now c.loop-place.place c.compare.new.self c.enter.new.self c.compare.ensures.kept
    (subst (IsNextWalk c.args.script.now c.args.report.now c.loop-place.place c.enter.new.self) c.if-not-right.true c.in_ok-right.ensures)

pub returns-then-not-right-clause-walked : goal.returns-then-not-right-clause-walked
returns-then-not-right-clause-walked c = λ none. absurd cc

pub loop-place-preserved : goal.loop-place-preserved
loop-place-preserved c = c.in_ok-right.ensures.walk c.if-not-right.false

pub compare-requires-2-clause-walk : goal.compare-requires-2-clause-walk
compare-requires-2-clause-walk c =
    at-last c.args.script.now c.args.report.now (length c.as_slice-journal.result.now)
    (ap length c.as_slice-journal.ensures.value) c.loop-place.place c.loop-place.self c.loop-place.invariant (omega arith)

pub returns-clause-off : goal.returns-clause-off
returns-clause-off c = none-off c.args.script.now c.args.report.now (length c.as_slice-journal.result.now)
    (ap length c.as_slice-journal.ensures.value) c.compare-2.new.self c.compare-2.ensures

pub returns-clause-walked : goal.returns-clause-walked
returns-clause-walked c = λ none. all-walked c.args.script.now c.args.report.now (length c.as_slice-journal.result.now)
    (ap length c.as_slice-journal.ensures.value) c.compare-2.new.self c.compare-2.ensures
