use Rattle.std.proofs.Common.{◌∙◌, ap}
use Rattle.kms_model.specs.Machine.Commits.{has_number}
use Rattle.kms_core.specs.Freeing.{both_ids}
use Rattle.kms_core.proofs.stores.FreedIds.{first_ids, tail_end, tail_here, tail_on}
use Rattle.kms_core.proofs.freeing.freed.tail_names.Goals as goal

pub loop-index-init : goal.loop-index-init
loop-index-init c = ap (λ xs. has_number xs c.args.id) (first_ids c.args.tail.now)

pub returns-then-both_name : goal.returns-then-both_name
returns-then-both_name c =
    tail_here c.args.tail.now c.loop-index.index c.args.id c.loop-index-test.true c.loop-index.invariant
    (c.both_name.ensures ∙ ap (λ o. has_number (both_ids o) c.args.id) c.touched_plane.ensures) c.if-both_name.true

pub loop-index-preserved : goal.loop-index-preserved
loop-index-preserved c =
    tail_on c.args.tail.now c.loop-index.index c.args.id c.loop-index-test.true c.loop-index.invariant
    (c.both_name.ensures ∙ ap (λ o. has_number (both_ids o) c.args.id) c.touched_plane.ensures) c.if-both_name.false

pub returns : goal.returns
returns c = tail_end c.args.tail.now c.loop-index.index c.args.id c.loop-index-test.false c.loop-index.invariant
