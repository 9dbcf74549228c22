use Rattle.std.proofs.Common.{◌≡◌, true, false, Some, ◌∙◌, rules}
use Rattle.std.specs.Prelude.{◌&&◌, codes}
use Rattle.std.specs.Str.{bytes_eq}
use Rattle.kms_model.specs.Script.CommandLines.{command_read}
use Rattle.kms_model.specs.Script.Words.{from, until}
use Rattle.kms_words.specs.Fitting.{HasFilled}
use Rattle.kms_script.specs.Overlong.{has_many}
use Rattle.kms_script.proofs.LineFaults.{atomic_line, fit_command, line_read_well}
use Rattle.kms_script.proofs.lines.read_line.Goals as goal

pub returns-then-has_many-clause-value : goal.returns-then-has_many-clause-value
returns-then-has_many-clause-value c =
    let front : bytes_eq (until 32 c.args.line.now) (codes "atomic") ≡ true = search rules in
    atomic_line c.args.names.now.names c.args.line.now front ∙ rw c.split_at_byte.ensures.back at c.in_ok-fault_of_many.ensures

pub returns-clause-value : goal.returns-clause-value
returns-clause-value c =
    let few : (bytes_eq (until 32 c.args.line.now) (codes "atomic") && has_many (from 32 c.args.line.now)) ≡ false = search rules in
    let once : c.command_of.new.names.names.is_twice ≡ false = search rules in
    let read : command_read c.args.names.now.names c.args.line.now ≡ Some (c.in-Some.command, c.command_of.new.names.names) = search rules
    in
    line_read_well c.args.names.now.names c.command_of.new.names.names c.args.line.now c.in-Some.command few read once

pub returns-clause-fit : goal.returns-clause-fit
returns-clause-fit c =
    let few : (bytes_eq (until 32 c.args.line.now) (codes "atomic") && has_many (from 32 c.args.line.now)) ≡ false = search rules in
    let read : command_read c.args.names.now.names c.args.line.now ≡ Some (c.in-Some.command, c.command_of.new.names.names) = search rules
    in
    let filled : HasFilled c.in-Some.command = search rules in
    fit_command c.args.names.now.names c.command_of.new.names.names c.args.line.now c.in-Some.command few read filled
