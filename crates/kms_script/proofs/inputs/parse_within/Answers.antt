use Rattle.std.proofs.Common.{rules}
use Rattle.kms_model.specs.declared.scripts.Why.TheVariants.{Limit}
use Rattle.kms_script.specs.declared.faults.ParseError.TheVariants as errors
use Rattle.kms_script.specs.Stated.{Gives, parts_in}
use Rattle.kms_script.specs.Within.{input_within_of}
use Rattle.kms_script.proofs.Drafts.{failed}
use Rattle.kms_script.proofs.FewerLines.{alone_within, well_within}
use Rattle.kms_script.proofs.inputs.parse_within.Goals as goal

pub returns-then-bytes-gt-MAX_INPUT-clause-alone : goal.returns-then-bytes-gt-MAX_INPUT-clause-alone
unfolding input_within_of
returns-then-bytes-gt-MAX_INPUT-clause-alone c = alone_within c.args.most c.args.part c.args.bytes.now
    (failed (errors.Fault 0 Limit)) (search rules)

pub returns-clause-formed : goal.returns-clause-formed
unfolding input_within_of
returns-clause-formed c =
    let value : Gives parts_in c.read_lines.result (input_within_of c.args.most c.args.part c.args.bytes.now) = search rules in
    well_within c.args.most c.args.part c.args.bytes.now c.read_lines.result value c.read_lines.ensures.limits

pub returns-clause-alone : goal.returns-clause-alone
unfolding input_within_of
returns-clause-alone c =
    let value : Gives parts_in c.read_lines.result (input_within_of c.args.most c.args.part c.args.bytes.now) = search rules in
    alone_within c.args.most c.args.part c.args.bytes.now c.read_lines.result value
