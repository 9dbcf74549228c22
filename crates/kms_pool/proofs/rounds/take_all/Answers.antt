use Rattle.std.proofs.Common.{◌∷◌, arith, ap, sym, ◌∙◌, subst, IsPermutation, map}
use Rattle.crossbeam_queue.specs.Passes.{view}
use Rattle.kms_pool.specs.declared.participant.Participant.{Participant}
use Rattle.kms_pool.proofs.Keeps.{takes, learns, none_left, one_more}
use Rattle.kms_pool.proofs.rounds.take_all.Goals as goal

pub pop_as-requires-clause-rule : goal.pop_as-requires-clause-rule
pop_as-requires-clause-rule g c = let p = c.loop.invariant.parts
    in (takes (λ x. g.P.Player.name x.player.value) _ _ (omega arith), learns (λ x. g.P.Player.name x.player.value) _ _)

pub loop-preserved : goal.loop-preserved
loop-preserved g c =
    let i = c.loop.invariant in
    let own = c.in-Some-pop_as.ensures.queue in
    let now = c.in-Some-pop_as.ensures.rule in
    let name : Participant g.row.P.Denot g.row.P-Name.Denot g.P.Player → g.row.P-Name.Denot = λ x. g.P.Player.name x.player.value
    in record {
      own = (own.0 ∙ i.own.0, own.2 ∙ i.own.1);
      parts = ap (λ v. v.parts) now ∙ i.parts;
      brought = ap (λ v. v.brought) now ∙ i.brought;
      held =
          subst (λ h. IsPermutation h (map name c.push.new.self.items)) (sym (ap (λ v. v.held) now))
          (subst (λ xs. IsPermutation (name c.in-Some-pop_as.participant ∷ (view c.loop.pass).held) (map name xs))
          (sym c.in_ok-push.ensures.items)
          (one_more name (view c.loop.pass).held c.loop.participants.items c.in-Some-pop_as.participant i.held));
    }

pub returns-in_default : goal.returns-in_default
returns-in_default g c =
    let i = c.loop.invariant in
    let told = c.in_default.ensures.rule.1 in
    none_left (λ x. g.P.Player.name x.player.value) (view c.loop.pass) _ told.0 c.loop.participants.items told.1 (told.2 i.parts) i.brought
    i.held
