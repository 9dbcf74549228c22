use Rattle.std.proofs.Common.{ap, arith, ◌∙◌}
use Rattle.std.specs.List.{position}
use Rattle.std.specs.Str.{bytes_eq}
use Rattle.kms_audit.proofs.Ending.{label-none, label-small, label-there}
use Rattle.kms_audit.proofs.ends.label_is_of_fence.Goals as goal

pub overflow_cast-number : goal.overflow_cast-number
overflow_cast-number c =
    let found = c.in-Some.ensures ∙ ap (position (bytes_eq c.args.label.now)) c.as_slice.ensures.value in
    omega (arith, label-small c.args.script.now c.args.label.now c.in-Some.number c.requires found)

pub returns-in-Some : goal.returns-in-Some
returns-in-Some c = λ r behind.
    let found = c.in-Some.ensures ∙ ap (position (bytes_eq c.args.label.now)) c.as_slice.ensures.value in
    label-there c.args.script.now r c.args.serial.now behind c.args.label.now c.in-Some.number c.is_fence.result found c.is_fence.ensures

pub returns-in-None : goal.returns-in-None
returns-in-None c = λ r behind.
    let found = c.in-None.ensures ∙ ap (position (bytes_eq c.args.label.now)) c.as_slice.ensures.value in
    label-none c.args.script.now r c.args.serial.now behind c.args.label.now found
