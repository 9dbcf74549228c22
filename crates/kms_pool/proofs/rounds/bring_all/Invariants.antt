use Rattle.std.proofs.Common.{◌≡◌, ◌++◌, [], length, map, IsPermutation}
use Rattle.std.specs.Vec.Iter.{into_iter_items, into_iter_len}
use Rattle.crossbeam_queue.specs.Passes.{view, IsPassOf, IsSamePass}
use Rattle.kms_pool.proofs.rounds.bring_all.Given as goal

abbrev pub invariant-loop-participant : goal.invariant-loop-participant
invariant-loop-participant g l = record {
  own : IsPassOf l.queue l.pass;
  same : IsSamePass l.fn.pass l.pass;
  parts : (view l.pass).parts ≡ 32;
  empty : (view l.pass).held ≡ [];
  brought : IsPermutation (map (λ x. g.P.Player.name x.player.value) l.fn.participants.items)
      ((view l.pass).brought ++ map (λ x. g.P.Player.name x.player.value) (into_iter_items l.participant-iterator));
  rest : into_iter_len l.participant-iterator ≡ length (into_iter_items l.participant-iterator);
}
