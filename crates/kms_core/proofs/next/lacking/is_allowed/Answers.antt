use Rattle.std.proofs.Common.{ap, false, refl, sym, true, ◌∙◌}
use Rattle.kms_model.specs.Machine.State.{doing_at, holder_at}
use Rattle.kms_model.specs.Machine.Steps.{is_free_or_older, ticket_of}
use Rattle.kms_core.specs.Run.{Run, machine}
use Rattle.kms_core.specs.Insides.{run_in}
use Rattle.kms_core.proofs.next.NextLocks.{allowed_told, touched_told}
use Rattle.kms_core.proofs.next.lacking.is_allowed.Goals as goal

pub returns-then-is_member : goal.returns-then-is_member
returns-then-is_member c =
    let v = c.args.core.now in
    allowed_told v.script (machine v) c.args.client c.args.needs.now.request.now c.args.kind c.args.index true c.is_free_or_older.result
    c.requires.needs.taken c.requires.needs.none
    (sym c.if-is_member.true ∙ c.is_member.ensures ∙ touched_told c.args.kind c.args.index
    c.requires.needs.needs c.requires.needs.device c.requires.lockable)
    (c.is_free_or_older.ensures (machine (run_in c.stores.inside)) c.stores.invariant.stands.stores.clients
    ∙ ap (λ (w : Run). is_free_or_older (machine w) (ticket_of (doing_at (machine w) c.args.client))
    (holder_at (machine w) c.of.result.0)) (c.stores.view_is ∙ c.deref-stores.ensures ∙ c.core.view_is)
    ∙ ap (λ o. is_free_or_older (machine v) (ticket_of (doing_at (machine v) c.args.client)) (holder_at (machine v) o)) c.of.ensures)

pub returns-else-is_member : goal.returns-else-is_member
returns-else-is_member c =
    let v = c.args.core.now in
    c.if-is_member.false
    ∙ allowed_told v.script (machine v) c.args.client c.args.needs.now.request.now c.args.kind c.args.index false _ c.requires.needs.taken
    c.requires.needs.none
    (sym c.if-is_member.false ∙ c.is_member.ensures ∙ touched_told c.args.kind c.args.index
    c.requires.needs.needs c.requires.needs.device c.requires.lockable) refl
