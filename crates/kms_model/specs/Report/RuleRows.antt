-- What a rule of the code's table says, in the words of the definitions.
use Rattle.kms_model.specs.Report.Rules.{RuleRow}
use Rattle.kms_model.specs.declared.refusals.Rule.{Rule}

abbrev pub row_of : Rule → RuleRow
row_of r = record { number = r.number; name = r.name.now; errno = r.errno.now; text = r.rule.now; source = r.source.now }
