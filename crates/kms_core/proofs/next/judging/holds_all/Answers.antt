use Rattle.kms_core.specs.Decisions.{held_at}
use Rattle.kms_core.proofs.next.JudgedRequests.{all_first, no_more, one_more}
use Rattle.kms_core.proofs.next.judging.holds_all.Goals.{then-held, else-held}
use Rattle.kms_core.proofs.next.judging.holds_all.Goals as goal

pub loop-place-init : goal.loop-place-init
loop-place-init c = λ m stand. all_first (held_at m c.args.client c.args.objects.now)

pub loop-place-preserved : goal.loop-place-preserved
loop-place-preserved c = λ m stand.
    elim c.if-held.branch [
      | then-held w ↦ (rw w.held-is (one_more (held_at m c.args.client c.args.objects.now) c.loop-place.place c.loop-place.held
          w.holds_at-held.result (c.loop-place.invariant m stand) w.if-held.true (w.holds_at-held.ensures m stand)))
      | else-held w ↦ (no_more (held_at m c.args.client c.args.objects.now) c.loop-place.place
          (c.loop-place.invariant m stand) w.if-held.false w.held-is)
    ]
