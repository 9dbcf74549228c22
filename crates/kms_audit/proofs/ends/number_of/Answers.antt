use Rattle.std.proofs.Common.{◌≡◌, ◌∙◌, arith, false, get_or, rules, sym, true}
use Rattle.std.specs.Str.{bytes_eq}
use Rattle.kms_audit.proofs.Positions.{pos-done, pos-here, pos-step}
use Rattle.kms_audit.proofs.ends.number_of.Goals as goal

pub returns-then-same : goal.returns-then-same
returns-then-same c =
    let name = c.index-names-number.result in
    let on : bytes_eq c.args.label.now (get_or c.args.names.now c.loop-number.number name) ≡ true = search rules in
    sym (pos-here (bytes_eq c.args.label.now) c.args.names.now c.loop-number.number name (omega arith) on) ∙ c.loop-number.invariant

pub loop-number-preserved : goal.loop-number-preserved
loop-number-preserved c =
    let name = c.index-names-number.result in
    let off : bytes_eq c.args.label.now (get_or c.args.names.now c.loop-number.number name) ≡ false = search rules in
    pos-step (bytes_eq c.args.label.now) c.args.names.now c.loop-number.number name (omega arith) off ∙ c.loop-number.invariant

pub returns : goal.returns
returns c = sym (pos-done (bytes_eq c.args.label.now) c.args.names.now c.loop-number.number (omega arith)) ∙ c.loop-number.invariant
