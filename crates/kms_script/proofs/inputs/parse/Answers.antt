use Rattle.std.proofs.Common.{subst}
use Rattle.kms_script.specs.Stated.{Gives, parts_in}
use Rattle.kms_script.proofs.Alone.{read_alone, spells_alone}
use Rattle.kms_script.proofs.FewerLines.{input_same}
use Rattle.kms_script.proofs.SchedulesSpelt.{read_text}
use Rattle.kms_script.proofs.inputs.parse.Goals as goal

pub returns-clause-value : goal.returns-clause-value
returns-clause-value c = subst (Gives parts_in c.parse_within.result) (input_same c.args.part c.args.bytes.now) c.parse_within.ensures.value

pub returns-clause-alone : goal.returns-clause-alone
returns-clause-alone c = read_alone c.args.part c.args.bytes.now c.parse_within.result
    (subst (Gives parts_in c.parse_within.result) (input_same c.args.part c.args.bytes.now) c.parse_within.ensures.value)

pub returns-clause-spells : goal.returns-clause-spells
returns-clause-spells c = spells_alone c.args.part c.args.bytes.now c.parse_within.result
    (subst (Gives parts_in c.parse_within.result) (input_same c.args.part c.args.bytes.now) c.parse_within.ensures.value)

pub returns-clause-text : goal.returns-clause-text
returns-clause-text c = read_text c.args.part c.args.bytes.now c.parse_within.result
    (subst (Gives parts_in c.parse_within.result) (input_same c.args.part c.args.bytes.now) c.parse_within.ensures.value)
