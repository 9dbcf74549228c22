use Rattle.std.specs.Prelude.{◌==◌}
use Rattle.kms_model.specs.Device.Objects.{most_of, object_id}
use Rattle.kms_request.proofs.GroupLemmas.{none_yet, items-more}
use Rattle.kms_request.proofs.groups.set_of_kind.Goals as goal

pub loop-set-init : goal.loop-set-init
loop-set-init c = none_yet (most_of c.args.kind)

pub loop-set-preserved : goal.loop-set-preserved
loop-set-preserved c =
    rw (c.loop-set.invariant, c.only_of-set_so_far.ensures)
    (items-more (λ i s. s.object.0 == object_id c.args.kind i) c.args.sets.now c.loop-set.set-index (most_of c.args.kind) _
    c.loop-set-test.true)
