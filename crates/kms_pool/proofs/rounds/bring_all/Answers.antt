use Rattle.std.proofs.Common.{◌++◌, length, map, IsPermutation, arith, ap, sym, ◌∙◌, subst}
use Rattle.std.specs.Vec.Iter.{into_iter_items}
use Rattle.crossbeam_queue.specs.Passes.{view}
use Rattle.kms_pool.specs.declared.participant.Participant.{Participant}
use Rattle.kms_pool.proofs.Keeps.{brings, one_less}
use Rattle.kms_pool.proofs.rounds.bring_all.Goals as goal

pub put-requires-clause-rule : goal.put-requires-clause-rule
put-requires-clause-rule g c = let p = c.loop-participant.invariant.parts
    in brings (λ x. g.P.Player.name x.player.value) _ _ _ _ (omega arith)

pub loop-participant-preserved : goal.loop-participant-preserved
loop-participant-preserved g c =
    let i = c.loop-participant.invariant in
    let steps = c.in-Some.ensures.steps.0 in
    let own = c.put.ensures.own in
    let now = c.put.ensures.rule in
    let name : Participant g.row.P.Denot g.row.P-Name.Denot g.P.Player → g.row.P-Name.Denot = λ x. g.P.Player.name x.player.value
    in record {
      own = (own.0 ∙ i.own.0, own.2 ∙ i.own.1);
      same = (own.0 ∙ i.same.0, own.1 ∙ i.same.1, own.2 ∙ i.same.2);
      parts = ap (λ v. v.parts) now ∙ i.parts;
      empty = ap (λ v. v.held) now ∙ i.empty;
      brought =
          subst (λ b. IsPermutation (map name c.args.participants.items) (b ++ map name (into_iter_items c.next.new.self)))
          (sym (ap (λ v. v.brought) now))
          (one_less name (map name c.args.participants.items) (view c.loop-participant.pass).brought c.in-Some.participant
          (into_iter_items c.next.new.self)
          (subst (λ xs. IsPermutation (map name c.args.participants.items) ((view c.loop-participant.pass).brought ++ map name xs)) steps
          i.brought));
      rest = let r = i.rest in let long = ap length steps in let gone = c.in-Some.ensures.steps.1 in omega arith;
    }
