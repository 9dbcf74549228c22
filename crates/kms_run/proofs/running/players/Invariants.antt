use Rattle.std.proofs.Common.{◌≡◌, ◌++◌, length, map}
use Rattle.std.specs.Prelude.{All}
use Rattle.std.specs.Vec.Iter.{into_iter_items, into_iter_len}
use Rattle.kms_run.specs.Running.{IsSeat, player_of}
use Rattle.kms_run.proofs.running.players.Given as goal

abbrev pub invariant-loop-pass : goal.invariant-loop-pass
invariant-loop-pass g l = record {
  made : l.players.items ++ map (player_of l.device) (into_iter_items l.pass-iterator) ≡ map (player_of l.device) l.fn.passes;
  seats : All (IsSeat l.device) (into_iter_items l.pass-iterator);
  left : into_iter_len l.pass-iterator ≡ length (into_iter_items l.pass-iterator);
}
