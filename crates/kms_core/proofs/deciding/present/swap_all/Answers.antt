use Rattle.std.proofs.Common.{◌<◌, None, get_or, length, arith, refl, ◌∙◌, length-set}
use Rattle.kms_track.proofs.Writes.{each_below, each_behind}
use Rattle.kms_core.specs.SwappedIn.{swapped_in}
use Rattle.kms_core.proofs.stores.AfterCommit.{swapped_all, swapped_here}
use Rattle.kms_core.proofs.deciding.present.swap_all.Goals as goal

pub loop-index-init : goal.loop-index-init
loop-index-init g c = record { size = refl; done = λ p low. absurd (omega (arith, low)); left = λ p low. refl }

pub loop-index-preserved : goal.loop-index-preserved
loop-index-preserved g c =
    let within : c.loop-index.index < length c.loop-index.states = omega (arith, c.loop-index.invariant.size, c.loop-index-test.true) in
    let there : c.loop-index.index < length c.args.checked.now = omega (arith, c.requires, c.loop-index-test.true) in
    record {
      size = length-set _ _ _ ∙ c.loop-index.invariant.size;
      done = each_below (λ p. swapped_in (get_or c.args.states.now p None) (get_or c.args.checked.now p None)) c.loop-index.states
          c.loop-index.index c.swap_one.result None within c.loop-index.invariant.done
          (swapped_here c.loop-index.states c.args.states.now c.args.checked.now c.loop-index.index within there c.swap_one.ensures
          c.index-states-index.is c.index-checked-index.is (c.loop-index.invariant.left c.loop-index.index (omega arith)));
      left = each_behind (λ p. get_or c.args.states.now p None) c.loop-index.states c.loop-index.index c.swap_one.result None
          c.loop-index.invariant.left;
    }

pub returns : goal.returns
returns g c = swapped_all c.loop-index.states c.args.states.now c.args.checked.now c.loop-index.index c.loop-index.invariant.size
    c.loop-index-test.false c.loop-index.invariant.done
