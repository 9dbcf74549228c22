use Rattle.std.proofs.Common.{◌≡◌, ◌+◌, ap, arith, sym, ◌∙◌}
use Rattle.kms_audit.proofs.Parted.{answers-left, latch-wrong, latches-right, off-few}
use Rattle.kms_audit.proofs.Spelt.{spelt-few}
use Rattle.kms_audit.specs.Sections.{behind_answers, behind_latches}
use Rattle.kms_model.specs.Report.Right.{latch_from}
use Rattle.kms_things.proofs.MadeLemmas.{if_ok}
use Rattle.std.proofs.lemmas.List.{length-map}
use Rattle.kms_audit.proofs.audits.behind_answers.Goals as goal

pub returns-then-not-is_nothing : goal.returns-then-not-is_nothing
returns-then-not-is_nothing c =
    answers-left c.args.script.now c.args.report.now c.args.first
    (sym (c.is_nothing.ensures c.args.report.now c.requires.audited.lacking) ∙ c.if-not-is_nothing.true)

pub overflow_add-line : goal.overflow_add-line
overflow_add-line c =
    let r = c.args.report.now in
    let few = off-few _ _ c.in-Some.place (sym c.in-Some.is ∙ c.latches_off-latch.ensures) in
    omega (arith, c.requires.few, spelt-few r c.requires.spelt, length-map r.latches latch_from, few)

pub returns-in-Some : goal.returns-in-Some
returns-in-Some c =
    latch-wrong c.args.script.now c.args.report.now c.args.first
    (sym (c.is_nothing.ensures c.args.report.now c.requires.audited.lacking) ∙ c.if-not-is_nothing.false) c.in-Some.place
    (sym c.in-Some.is ∙ c.latches_off-latch.ensures)

pub overflow_add-after : goal.overflow_add-after
overflow_add-after c = omega (arith, c.requires.few, spelt-few c.args.report.now c.requires.spelt, c.len.ensures)

pub behind_latches-requires-clause-few : goal.behind_latches-requires-clause-few
behind_latches-requires-clause-few c = omega (arith, c.requires.few, spelt-few c.args.report.now c.requires.spelt, c.len.ensures)

pub behind_latches-requires-clause-right : goal.behind_latches-requires-clause-right
behind_latches-requires-clause-right c = record {
  entries = c.requires.entries;
  answers = c.requires.right;
  whole = sym (c.is_nothing.ensures c.args.report.now c.requires.audited.lacking) ∙ c.if-not-is_nothing.false;
  latches = sym (sym c.in-None.is ∙ c.latches_off-latch.ensures);
}

pub returns-in-None : goal.returns-in-None
returns-in-None c =
    let s = c.args.script.now in
    let r = c.args.report.now in
    let whole = sym (c.is_nothing.ensures r c.requires.audited.lacking) ∙ c.if-not-is_nothing.false in
    if_ok c.behind_latches.result (λ line. line ≡ behind_latches s r (c.args.first + c.len.result))
    (λ line. line ≡ behind_answers s r c.args.first)
    (λ line e. latches-right s r c.args.first whole (sym c.in-None.is ∙ c.latches_off-latch.ensures) line
    (e ∙ ap (λ n. behind_latches s r (c.args.first + n)) c.len.ensures))
    c.behind_latches.ensures
