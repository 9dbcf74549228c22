use Rattle.std.proofs.Common.{◌∙◌}
use Rattle.kms_core.proofs.next.Refusing.{commits_now, swap_early_none, swap_taken}
use Rattle.kms_core.proofs.applying.do_swap.Goals as goal

pub unreachable-requires : goal.unreachable-requires
unreachable-requires c = swap_taken c.args.core.now c.args.client c.requires c.in_default.ensures

pub check_request-checked-requires : goal.check_request-checked-requires
check_request-checked-requires c = swap_early_none c.args.core.now c.args.client c.requires c.in-Some.ensures

pub resolve_request-requires : goal.resolve_request-requires
resolve_request-requires c = swap_early_none c.args.core.now c.args.client c.requires c.in-Some.ensures

pub commit-requires : goal.commit-requires
commit-requires c =
    rw (c.deref_mut.ensures.value ∙ c.core.view_is)
    (commits_now c.args.core.now c.args.client
    c.is_a_history.ensures.formed c.requires c.in-Some.ensures c.check_request-checked.ensures.checked
    c.check_request-checked.ensures.states c.in_ok-resolved.ensures)
