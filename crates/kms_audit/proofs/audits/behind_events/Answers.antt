use Rattle.std.proofs.Common.{◌≡◌, ◌+◌, [], false, arith, ap, length, sym, ◌∙◌}
use Rattle.std.specs.Prelude.{not}
use Rattle.kms_audit.proofs.Parted.{all-told, clients-few, ended-as, events-left, freed-wrong, off-few, whole-order}
use Rattle.kms_audit.proofs.Spelt.{spelt-few}
use Rattle.kms_model.specs.Firsts.{number_if}
use Rattle.kms_model.specs.Report.Right.{end_is_right, events_are_whole, freed_is_right}
use Rattle.kms_model.specs.Report.RightAnswers.{first_off}
use Rattle.kms_audit.proofs.audits.behind_events.Goals as goal
use Rattle.kms_audit.proofs.audits.behind_events.Goals.{After-end_is_right, After-events_are_whole, In_ok-off}

whole : (c : After-events_are_whole) → c.events_are_whole.result ≡ events_are_whole c.args.report.now
whole c =
    let s = c.args.script.now in
    let right = c.requires.right in
    c.events_are_whole.ensures s right.events
    (clients-few s c.args.report.now c.args.of.now.ordered c.requires.audited.ordered right.before.answers)

-- the first X line that is not right
off : (c : In_ok-off) → c.in_ok-off.off ≡ first_off (freed_is_right c.args.script.now c.args.report.now) [] c.args.report.now.freed
off c = c.in_ok-off.ensures c.args.report.now c.requires.walked.kept.at.stands (sym c.as_slice-freed.ensures.value)

end : (c : After-end_is_right) → c.end_is_right.result ≡ end_is_right c.args.script.now c.args.report.now
end c =
    let s = c.args.script.now in
    let r = c.args.report.now in
    let before = c.requires.right.before in
    c.end_is_right.ensures c.requires.walked.kept.at.stands
    (whole-order s r c.args.of.now.ordered c.requires.audited.ordered before.answers)
    (all-told s r c.args.walk.now c.requires.walked before.latches)

pub returns-then-not-events_are_whole : goal.returns-then-not-events_are_whole
returns-then-not-events_are_whole c =
    let s = c.args.script.now in
    let r = c.args.report.now in
    let all = whole (goal.at.returns-then-not-events_are_whole c).After-events_are_whole in
    events-left s r c.args.first (sym all ∙ c.if-not-events_are_whole.true)

pub overflow_add-line : goal.overflow_add-line
overflow_add-line c =
    let few = off-few _ _ c.in-Some.place (sym c.in-Some.is ∙ off (goal.at.overflow_add-line c).In_ok-off) in
    omega (arith, c.requires.few, spelt-few c.args.report.now c.requires.spelt, few)

pub returns-in-Some : goal.returns-in-Some
returns-in-Some c =
    let s = c.args.script.now in
    let r = c.args.report.now in
    let all = whole (goal.at.returns-in-Some c).After-events_are_whole in
    let first = off (goal.at.returns-in-Some c).In_ok-off in
    freed-wrong s r c.args.first (sym all ∙ c.if-not-events_are_whole.false) c.in-Some.place (sym c.in-Some.is ∙ first)

pub returns-then-end_is_right : goal.returns-then-end_is_right
returns-then-end_is_right c =
    let s = c.args.script.now in
    let r = c.args.report.now in
    let all = whole (goal.at.returns-then-end_is_right c).After-events_are_whole in
    let first = off (goal.at.returns-then-end_is_right c).In_ok-off in
    let ends = end (goal.at.returns-then-end_is_right c).After-end_is_right in
    ap (λ b. number_if (c.args.first + length r.freed) (not b)) (sym c.if-end_is_right.true)
    ∙ ended-as s r c.args.first (sym all ∙ c.if-not-events_are_whole.false) (sym c.in-None.is ∙ first) c.end_is_right.result ends

pub overflow_add-last : goal.overflow_add-last
overflow_add-last c = omega (arith, c.requires.few, spelt-few c.args.report.now c.requires.spelt, ap length c.as_slice-freed.ensures.value)

pub returns-else-end_is_right : goal.returns-else-end_is_right
returns-else-end_is_right c =
    let s = c.args.script.now in
    let r = c.args.report.now in
    let all = whole (goal.at.returns-else-end_is_right c).After-events_are_whole in
    let first = off (goal.at.returns-else-end_is_right c).In_ok-off in
    let ends = end (goal.at.returns-else-end_is_right c).After-end_is_right in
    ap (λ n. number_if (c.args.first + n) (not false)) (ap length c.as_slice-freed.ensures.value)
    ∙ (ap (λ b. number_if (c.args.first + length r.freed) (not b)) (sym c.if-end_is_right.false)
    ∙ ended-as s r c.args.first (sym all ∙ c.if-not-events_are_whole.false) (sym c.in-None.is ∙ first) c.end_is_right.result ends)
