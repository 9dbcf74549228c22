use Rattle.std.proofs.Common.{◌≡◌, true, rules}
use Rattle.kms_model.specs.Script.Words.{is_label}
use Rattle.kms_words.proofs.ShortLabels.{label_short}
use Rattle.kms_words.proofs.packing.push_packed.Goals as goal

pub pack-requires : goal.pack-requires
pack-requires c = let label : is_label c.args.word.now ≡ true = search rules in label_short c.args.word.now label
