use Rattle.std.proofs.Common.{refl}
use Rattle.kms_core.proofs.next.NextLocks.{needs_at}
use Rattle.kms_core.proofs.next.lacking.lock_step.Goals as goal

pub next_lock-requires : goal.next_lock-requires
next_lock-requires c =
    needs_at c.args.core.now c.args.client _ c.is_a_history.ensures.formed
    c.is_a_history.ensures.history c.requires.taken c.requires.none c.check_request-checked.ensures.checked
    c.check_request-checked.ensures.states c.only_crtcs.ensures c.affected.ensures refl
