use Rattle.std.proofs.Common.{◌≡◌, map, IsPermutation}
use Rattle.crossbeam_queue.specs.Passes.{view, IsPassOf}
use Rattle.kms_pool.proofs.rounds.take_all.Given as goal

abbrev pub invariant-loop : goal.invariant-loop
invariant-loop g l = record {
  own : IsPassOf l.queue l.pass;
  parts : (view l.pass).parts ≡ 32;
  brought : (view l.pass).brought ≡ (view l.fn.pass).brought;
  held : IsPermutation (view l.pass).held (map (λ x. g.P.Player.name x.player.value) l.participants.items);
}
