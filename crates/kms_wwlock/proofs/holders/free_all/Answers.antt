use Rattle.std.proofs.Common.{arith}
use Rattle.std.proofs.lemmas.Grind.{common_steps}
use Rattle.std.proofs.lemmas.List.Edits.{map_over_more}
use Rattle.kms_wwlock.specs.Calls.{holder_without}
use Rattle.kms_wwlock.proofs.holders.free_all.Goals as goal

pub loop-holder-preserved : goal.loop-holder-preserved
loop-holder-preserved c = grind (arith, common_steps, map_over_more (holder_without c.args.t))
