use Rattle.std.proofs.Common.{[], ◌∷◌, arith, ap, sym, ◌∙◌}
use Rattle.kms_pool.proofs.Keeps.{takes, learns, puts_back}
use Rattle.kms_pool.proofs.work.step.Goals as goal

pub pop_as-requires-clause-rule : goal.pop_as-requires-clause-rule
pop_as-requires-clause-rule g c = let p = ap (λ v. v.parts) c.requires.idle
    in (takes (λ x. g.P.Player.name x.player.value) _ _ (omega arith), learns (λ x. g.P.Player.name x.player.value) _ _)

pub put-requires-clause-rule : goal.put-requires-clause-rule
put-requires-clause-rule g c =
    let took = c.in_ok-participant.ensures.rule in let p = ap (λ v. v.parts) c.requires.idle in let q = ap (λ v. v.parts) took in
    puts_back (λ x. g.P.Player.name x.player.value) _ _ _ _ (omega arith)
    (ap (λ v. v.held) took ∙ ap (λ v. g.P.Player.name c.in_ok-participant.participant.player.value ∷ v.held) c.requires.idle ∙ ap
    (λ n. n ∷ []) (sym c.give_turns-had.ensures.name))
