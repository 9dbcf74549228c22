use Rattle.std.proofs.Common.{arith}
use Rattle.std.proofs.lemmas.Grind.{common_steps}
use Rattle.std.proofs.lemmas.List.Edits.{map_over_more}
use Rattle.kms_wwlock.specs.Calls.{with_doing}
use Rattle.kms_wwlock.proofs.contexts.set_doing.Goals as goal

pub loop-context-preserved : goal.loop-context-preserved
loop-context-preserved c = grind (arith, common_steps, map_over_more (with_doing c.args.t c.args.doing))
