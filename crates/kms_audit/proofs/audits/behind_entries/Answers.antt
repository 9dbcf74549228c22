use Rattle.std.proofs.Common.{◌≡◌, ◌+◌, Some, length, ap, arith, sym, ◌∙◌}
use Rattle.kms_audit.proofs.Parted.{answer-wrong, answers-right, off-few}
use Rattle.kms_audit.proofs.Spelt.{spelt-few}
use Rattle.kms_audit.specs.Sections.{behind_answers}
use Rattle.kms_model.specs.Report.Right.{first_wrong}
use Rattle.kms_model.specs.Report.RightAnswers.{answer_from}
use Rattle.kms_things.proofs.MadeLemmas.{if_ok}
use Rattle.std.proofs.lemmas.List.{length-map}
use Rattle.kms_audit.proofs.audits.behind_entries.Goals as goal

pub overflow_add-first : goal.overflow_add-first
overflow_add-first c = omega (arith, spelt-few c.args.report.now c.requires.spelt, c.len-first.ensures)

pub overflow_add-line : goal.overflow_add-line
overflow_add-line c =
    let r = c.args.report.now in
    let off = c.answers_off-off.ensures c.args.script.now c.requires.audited c.requires.walked in
    let few = off-few _ _ c.in-Some.place (sym c.in-Some.is ∙ off) in
    omega (arith, spelt-few r c.requires.spelt, c.len-first.ensures, length-map r.replies answer_from, few)

pub returns-in-Some : goal.returns-in-Some
returns-in-Some c =
    let s = c.args.script.now in
    let r = c.args.report.now in
    let off = c.answers_off-off.ensures s c.requires.audited c.requires.walked in
    ap (λ n. Some (1 + n + c.in-Some.place)) c.len-first.ensures
    ∙ answer-wrong s r (sym c.requires.right) c.in-Some.place (sym c.in-Some.is ∙ off)

pub overflow_add-after : goal.overflow_add-after
overflow_add-after c = omega (arith, spelt-few c.args.report.now c.requires.spelt, c.len-first.ensures, c.len.ensures)

pub behind_answers-requires-clause-few : goal.behind_answers-requires-clause-few
behind_answers-requires-clause-few c = omega (arith, spelt-few c.args.report.now c.requires.spelt, c.len-first.ensures, c.len.ensures)

pub behind_answers-requires-clause-right : goal.behind_answers-requires-clause-right
behind_answers-requires-clause-right c = sym
    (sym c.in-None.is ∙ c.answers_off-off.ensures c.args.script.now c.requires.audited c.requires.walked)

pub returns-in-None : goal.returns-in-None
returns-in-None c =
    let s = c.args.script.now in
    let r = c.args.report.now in
    let off = c.answers_off-off.ensures s c.requires.audited c.requires.walked in
    if_ok c.behind_answers.result (λ line. line ≡ behind_answers s r (1 + c.len-first.result + c.len.result))
    (λ line. line ≡ first_wrong s r)
    (λ line e. answers-right s r (sym c.requires.right) (sym c.in-None.is ∙ off) line
    (e ∙ (ap (λ n. behind_answers s r (1 + n + c.len.result)) c.len-first.ensures
    ∙ ap (λ n. behind_answers s r (1 + length r.journal + n)) c.len.ensures)))
    c.behind_answers.ensures
