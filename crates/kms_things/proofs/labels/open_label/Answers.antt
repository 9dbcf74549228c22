use Rattle.std.proofs.Common.{◌∙◌, sym}
use Rattle.kms_things.proofs.OpenLabels.{open_one}
use Rattle.kms_things.proofs.labels.open_label.Goals as goal

pub returns : goal.returns
returns c = c.label_if_open.ensures ∙ sym (open_one 1000 c.args.id c.args.things.now c.requires)
