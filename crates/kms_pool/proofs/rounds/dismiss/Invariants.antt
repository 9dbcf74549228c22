use Rattle.std.proofs.Common.{◌≡◌, ◌+◌, ◌<◌, [], length, All}
use Rattle.std.specs.Vec.Iter.{into_iter_items, into_iter_len}
use Rattle.crossbeam_queue.specs.Passes.{view, IsPassOf, IsSamePass}
use Rattle.kms_pool.specs.Rules.{hand}
use Rattle.kms_pool.proofs.rounds.dismiss.Given as goal

abbrev pub invariant-loop-worker : goal.invariant-loop-worker
invariant-loop-worker g l = record {
  own : IsPassOf l.queue l.pass;
  same : IsSamePass l.fn.pass l.pass;
  some : 0 < (view l.pass).parts;
  parts : (view l.pass).parts + length (into_iter_items l.worker-iterator) ≡ (view l.fn.pass).parts + length l.fn.workers.items;
  view_is : view l.pass ≡ hand (view l.pass).parts (view l.fn.pass).brought (view l.fn.pass).held;
  ready : All (λ w. IsPassOf l.queue w.pass × (view w.pass ≡ hand 1 [] [])) (into_iter_items l.worker-iterator);
  rest : into_iter_len l.worker-iterator ≡ length (into_iter_items l.worker-iterator);
}
