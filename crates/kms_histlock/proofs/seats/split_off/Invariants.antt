use Rattle.std.proofs.Common.{◌≡◌, ◌+◌, [], ◌∷◌}
use Rattle.kms_histlock.specs.declared.view.Stage.TheVariants.{Idle}
use Rattle.kms_histlock.specs.Passes.{lock_name, pass_state, new_pass, new_passes}
use Rattle.kms_histlock.proofs.seats.split_off.Given as goal

abbrev pub invariant-loop-made : goal.invariant-loop-made
invariant-loop-made g l = record {
  own : l.first.table_id ≡ l.words.table_id;
  bare : l.first.me.1 ≡ [];
  idle : l.first.me.0.stage ≡ Idle;
  top : l.first.me.0.top ≡ l.made;
  parts : l.first.me.0.parts + l.made ≡ l.seats + 1;
  fresh : pass_state l.first ≡ new_pass (lock_name l.words.table_id (g.T.Kept.fixed l.words.key.1.value)) 1;
  passes : new_pass (lock_name l.words.table_id (g.T.Kept.fixed l.words.key.1.value)) 1 ∷ l.passes.items
      ≡ new_passes (lock_name l.words.table_id (g.T.Kept.fixed l.words.key.1.value)) l.made;
}
