use Rattle.std.proofs.Common.{arith, ap}
use Rattle.kms_pool.proofs.Keeps.{forks}
use Rattle.kms_pool.proofs.rounds.hire.Goals as goal

pub another-requires-clause-rule : goal.another-requires-clause-rule
another-requires-clause-rule g c = let i = c.loop.invariant in let p = ap (λ v. v.parts) i.split in let w = i.within in let f = i.few
    in forks (λ x. g.P.Player.name x.player.value) _ _ (omega arith)
