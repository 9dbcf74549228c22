use Rattle.std.proofs.Common.{◌≡◌, ◌≤◌, ◌-◌, [], length, All}
use Rattle.crossbeam_queue.specs.Passes.{view, IsPassOf, IsSamePass}
use Rattle.kms_pool.specs.Rules.{hand}
use Rattle.kms_pool.proofs.rounds.hire.Given as goal

abbrev pub invariant-loop : goal.invariant-loop
invariant-loop g l = record {
  own : IsPassOf l.queue l.pass;
  same : IsSamePass l.fn.pass l.pass;
  split : view l.pass ≡ hand (32 - l.counter) (view l.fn.pass).brought (view l.fn.pass).held;
  many : length l.workers.items ≡ l.counter;
  within : l.counter ≤ l.threads;
  few : l.threads ≤ 16;
  all : l.threads ≡ l.fn.threads;
  ready : All (λ w. IsPassOf l.queue w.pass × (view w.pass ≡ hand 1 [] [])) l.workers.items;
}
