use Rattle.std.proofs.Common.{◌<◌, ◌+◌, ◌-◌, ◌/◌, arith, ℕ}
use Rattle.kms_model.proofs.TableLemmas.{narrowed_above, narrowed_below, id_at}
use Rattle.kms_model.proofs.tables.place_in.Goals as goal

pub loop-low-preserved-then-found-id-2 : goal.loop-low-preserved-then-found-id-2
loop-low-preserved-then-found-id-2 g c =
    let middle : ℕ = c.loop-low.low + (c.loop-low.high - c.loop-low.low) / 2 in
    narrowed_above c.args.slots.now c.args.id c.loop-low.low c.loop-low.high middle c.requires c.loop-low.invariant (omega arith)
    (id_at c.args.slots.now middle c.index-slots-middle.result (omega arith) (λ n. n < c.args.id) c.if-found-id-2.true)

pub loop-low-preserved : goal.loop-low-preserved
loop-low-preserved g c =
    let middle : ℕ = c.loop-low.low + (c.loop-low.high - c.loop-low.low) / 2 in
    narrowed_below c.args.slots.now c.args.id c.loop-low.low c.loop-low.high middle c.requires c.loop-low.invariant (omega arith)
    (omega arith)
    (id_at c.args.slots.now middle c.index-slots-middle.result (omega arith) (λ n. c.args.id < n) (omega arith))
