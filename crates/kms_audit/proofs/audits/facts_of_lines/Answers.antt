use Rattle.std.proofs.Common.{arith, sym}
use Rattle.kms_audit.proofs.Spelt.{spelt-few}
use Rattle.kms_audit.proofs.audits.facts_of_lines.Goals as goal

pub of-requires : goal.of-requires
of-requires c = omega (arith, spelt-few c.args.report.now c.requires.spelt)

pub order_of-ordered-requires-clause-few : goal.order_of-ordered-requires-clause-few
order_of-ordered-requires-clause-few c = omega (arith, spelt-few c.args.report.now c.requires.spelt)

pub returns : goal.returns
returns c = record {
  index = c.in_ok-index.ensures;
  lacking = c.in_ok-lacking.ensures c.args.report.now c.in_ok-index.ensures (sym c.as_slice.ensures.value);
  ordered = c.order_of-ordered.ensures;
}
