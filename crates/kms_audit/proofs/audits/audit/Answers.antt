use Rattle.std.proofs.Common.{arith, sym, ◌∙◌}
use Rattle.kms_audit.proofs.Parted.{number-most}
use Rattle.kms_audit.proofs.Spelt.{spelt-few}
use Rattle.kms_audit.proofs.audits.audit.Goals as goal

pub new-requires-clause-ordered : goal.new-requires-clause-ordered
new-requires-clause-ordered c = c.in_ok-of.ensures.ordered

pub overflow_cast-result : goal.overflow_cast-result
overflow_cast-result c =
    omega (
      arith,
      spelt-few c.args.report.now c.requires.spelt,
      number-most c.args.script.now c.args.report.now c.in-Some.line (sym c.in_ok-wrong.ensures ∙ c.in-Some.is),
    )

pub returns-in-Some : goal.returns-in-Some
returns-in-Some c = sym c.in-Some.is ∙ c.in_ok-wrong.ensures

pub returns : goal.returns
returns c = sym c.in-None.is ∙ c.in_ok-wrong.ensures
