use Rattle.std.proofs.Common.{rules}
use Rattle.kms_script.proofs.ManyAssigns.{no_field_there, no_label_there, one_label_more}
use Rattle.kms_script.proofs.overlong.push_labels.Goals as goal

pub returns-in_default : goal.returns-in_default
returns-in_default c = no_field_there c.args.fields.now c.reading.rest.now c.args.numbers.now.items c.reading.numbers.items
    c.reading.invariant (search rules) c.in_default.ensures.value

pub returns-in_default-assign_label : goal.returns-in_default-assign_label
returns-in_default-assign_label c = no_label_there c.args.fields.now c.reading.rest.now c.args.numbers.now.items c.reading.numbers.items
    c.in-Some.word.now c.in-Some.after.now c.reading.invariant c.in-Some.ensures.value c.in_default-assign_label.ensures

pub reading-preserved : goal.reading-preserved
reading-preserved c = one_label_more c.args.fields.now c.reading.rest.now c.args.numbers.now.items c.reading.numbers.items
    c.in-Some.word.now c.in-Some.after.now c.in-Some-assign_label.label.now c.push_packed.new.numbers.items c.reading.invariant
    c.in-Some.ensures.value c.in-Some-assign_label.ensures c.in_ok-push_packed.ensures
