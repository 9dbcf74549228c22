use Rattle.std.proofs.Common.{◌∙◌, ◌+◌, drop, None, refl, ap, arith, length-drop}
use Rattle.std.proofs.lemmas.List.{at_drop_more}
use Rattle.kms_model.specs.declared.worlds.World.{World}
use Rattle.kms_things.specs.OutFences.{fences_made}
use Rattle.kms_things.proofs.index.put_fences.Goals as goal

pub loop-label-preserved : goal.loop-label-preserved
loop-label-preserved c =
    let i = c.loop-label.label-index in
    let labels = c.args.labels.now in
    let old = c.loop-label.invariant in
    let left = length-drop i labels in
    let less = length-drop (i + 1) labels in
    record {
      small = omega (arith, old.small, c.put_fence-next.ensures.next);
      room = omega (
        arith,
        old.room,
        left,
        less,
        c.loop-label-test.true,
        c.put_fence-next.ensures.length,
        c.put_fence-next.ensures.capacity,
      );
      spare = omega (arith, old.spare, left, less, c.loop-label-test.true, c.put_fence-next.ensures.spare);
      indexed = c.put_fence-next.ensures.indexed;
      made = λ w things next. (
          let before : World = record w { things = c.loop-label.things.items; next_id = c.loop-label.next } in
          old.made w things next
          ∙ at_drop_more (fences_made c.args.client before) labels i None c.loop-label-test.true
          ∙ ap (λ (v : World). fences_made c.args.client v (drop (i + 1) labels)) (c.put_fence-next.ensures.made before refl refl));
      kept = λ buffers kept. c.put_fence-next.ensures.kept buffers (old.kept buffers kept);
      referred = λ fbs referred. c.put_fence-next.ensures.referred fbs (old.referred fbs referred);
    }
