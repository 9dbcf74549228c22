use Rattle.std.proofs.Common.{◌≡◌, ◌+◌, [], ap, arith, sym, ◌∙◌}
use Rattle.kms_audit.proofs.Parted.{blocks-within, event-wrong, events-right, latches-short, off-few, owners-whole, right-before}
use Rattle.kms_audit.proofs.Spelt.{spelt-few}
use Rattle.kms_audit.specs.Sections.{behind_events, behind_latches}
use Rattle.kms_model.specs.Report.Right.{event_is_right}
use Rattle.kms_things.proofs.MadeLemmas.{if_ok}
use Rattle.kms_model.specs.Report.RightAnswers.{first_off}
use Rattle.kms_audit.proofs.audits.behind_latches.Goals as goal
use Rattle.kms_audit.proofs.audits.behind_latches.Goals.{In_ok-off}

-- the first E line that is not right
off : (c : In_ok-off)
    → c.in_ok-off.off ≡ first_off (event_is_right c.args.script.now c.args.report.now) [] c.args.report.now.events
off c =
    let s = c.args.script.now in
    let r = c.args.report.now in
    let owners = owners-whole s r c.args.walk.now c.as_slice-owners.result.now c.requires.walked c.as_slice-owners.ensures.value in
    c.in_ok-off.ensures s
    (right-before s r c.args.of.now.ordered c.as_slice-owners.result.now c.requires.formed c.requires.audited.ordered
    c.requires.right owners)

pub events_off-requires-clause-blocks : goal.events_off-requires-clause-blocks
events_off-requires-clause-blocks c = blocks-within c.args.script.now c.args.report.now c.args.of.now.ordered c.requires.audited.ordered

pub events_off-requires-clause-crtcs : goal.events_off-requires-clause-crtcs
events_off-requires-clause-crtcs c = latches-short c.args.script.now c.args.report.now c.requires.formed c.requires.right.latches

pub events_off-requires-clause-few : goal.events_off-requires-clause-few
events_off-requires-clause-few c = omega (arith, spelt-few c.args.report.now c.requires.spelt)

pub events_off-requires-clause-replies : goal.events_off-requires-clause-replies
events_off-requires-clause-replies c = omega (arith, spelt-few c.args.report.now c.requires.spelt)

pub overflow_add-line : goal.overflow_add-line
overflow_add-line c =
    let few = off-few _ _ c.in-Some.place (sym c.in-Some.is ∙ off (goal.at.overflow_add-line c).In_ok-off) in
    omega (arith, c.requires.few, spelt-few c.args.report.now c.requires.spelt, few)

pub returns-in-Some : goal.returns-in-Some
returns-in-Some c =
    let s = c.args.script.now in
    let r = c.args.report.now in
    event-wrong s r c.args.first c.in-Some.place (sym c.in-Some.is ∙ off (goal.at.returns-in-Some c).In_ok-off)

pub overflow_add-after : goal.overflow_add-after
overflow_add-after c = omega (arith, c.requires.few, spelt-few c.args.report.now c.requires.spelt, c.len.ensures)

pub behind_events-requires-clause-few : goal.behind_events-requires-clause-few
behind_events-requires-clause-few c = omega (arith, c.requires.few, spelt-few c.args.report.now c.requires.spelt, c.len.ensures)

pub behind_events-requires-clause-right : goal.behind_events-requires-clause-right
behind_events-requires-clause-right c =
    let s = c.args.script.now in
    let r = c.args.report.now in
    record { before = c.requires.right; events = sym (sym c.in-None.is ∙ off (goal.at.behind_events-requires-clause-right c).In_ok-off) }

pub returns-in-None : goal.returns-in-None
returns-in-None c =
    let s = c.args.script.now in
    let r = c.args.report.now in
    if_ok c.behind_events.result (λ line. line ≡ behind_events s r (c.args.first + c.len.result))
    (λ line. line ≡ behind_latches s r c.args.first)
    (λ line e. events-right s r c.args.first (sym c.in-None.is ∙ off (goal.at.returns-in-None c).In_ok-off) line
    (e ∙ ap (λ n. behind_events s r (c.args.first + n)) c.len.ensures))
    c.behind_events.ensures
