use Rattle.std.proofs.Common.{◌∙◌, ◌++◌, ◌+◌, drop, None, ap, sym, arith, length-drop}
use Rattle.std.proofs.lemmas.List.{at_drop_more}
use Rattle.kms_core.specs.SwappedIn.{fences_for}
use Rattle.kms_core.proofs.deciding.OutFences.{one_made}
use Rattle.kms_core.proofs.deciding.committing.make_fences.Goals as goal

pub make_one-next-requires-clause-room : goal.make_one-next-requires-clause-room
make_one-next-requires-clause-room c = omega (
  arith,
  c.loop-label.invariant.room,
  length-drop c.loop-label.label-index c.args.labels.now,
  c.loop-label-test.true,
)

pub make_one-next-requires-clause-small : goal.make_one-next-requires-clause-small
make_one-next-requires-clause-small c = omega (
  arith,
  c.loop-label.invariant.small,
  c.requires.small,
  c.requires.few,
  c.loop-label-test.true,
)

pub loop-label-preserved : goal.loop-label-preserved
loop-label-preserved c =
    let i = c.loop-label.label-index in
    let labels = c.args.labels.now in
    let old = c.loop-label.invariant in
    record {
      small = omega (arith, old.small, c.make_one-next.ensures.most);
      room = omega (
        arith,
        old.room,
        length-drop i labels,
        length-drop (i + 1) labels,
        c.loop-label-test.true,
        c.make_one-next.ensures.room,
      );
      below = c.make_one-next.ensures.below;
      made =
          rw (c.make_one-next.ensures.made, c.make_one-next.ensures.next) (
          one_made c.loop-label.fences.slots c.loop-label.next _ (drop (i + 1) labels)
          ∙ ap (λ xs. c.loop-label.fences.slots ++ fences_for c.loop-label.next xs)
          (sym (at_drop_more (λ xs. xs) labels i None c.loop-label-test.true))
          ∙ old.made);
    }
