use Rattle.std.proofs.Common.{arith, sym, ◌∙◌}
use Rattle.kms_audit.proofs.Parted.{entry-wrong, off-few}
use Rattle.kms_audit.proofs.Spelt.{spelt-few}
use Rattle.kms_model.specs.Report.RightAnswers.{entry_from}
use Rattle.std.proofs.lemmas.List.{length-map}
use Rattle.kms_audit.proofs.audits.first_wrong.Goals as goal

pub through-requires-clause-index : goal.through-requires-clause-index
through-requires-clause-index c = c.requires.audited.index

pub through-requires-clause-few : goal.through-requires-clause-few
through-requires-clause-few c = omega (arith, spelt-few c.args.report.now c.requires.spelt)

pub overflow_add-line : goal.overflow_add-line
overflow_add-line c =
    let r = c.args.report.now in
    let few = off-few _ _ c.in-Some.place (sym c.in-Some.is ∙ c.in_ok-off.ensures.off) in
    omega (arith, spelt-few r c.requires.spelt, length-map r.journal entry_from, few)

pub returns-in-Some : goal.returns-in-Some
returns-in-Some c = entry-wrong c.args.script.now c.args.report.now c.in-Some.place (sym c.in-Some.is ∙ c.in_ok-off.ensures.off)

pub behind_entries-requires-clause-walked : goal.behind_entries-requires-clause-walked
behind_entries-requires-clause-walked c = c.in_ok-off.ensures.walked c.in-None.is

pub behind_entries-requires-clause-right : goal.behind_entries-requires-clause-right
behind_entries-requires-clause-right c = sym (sym c.in-None.is ∙ c.in_ok-off.ensures.off)
