use Rattle.std.proofs.Common.{◌∙◌}
use Rattle.kms_core.proofs.stores.FreedIds.{present_same}
use Rattle.kms_core.proofs.freeing.freed.values_name.Goals as goal

pub returns : goal.returns
returns c = λ t d is. c.any_names.ensures ∙ present_same d c.args.id is
