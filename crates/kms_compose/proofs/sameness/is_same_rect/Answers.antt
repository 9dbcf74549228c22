use Rattle.std.proofs.Common.{rules}
use Rattle.std.specs.Cmp.Rules.{hashing}
use Rattle.kms_compose.proofs.sameness.is_same_rect.Goals as goal

pub returns : goal.returns
returns c = search (hashing, rules)
