use Rattle.std.proofs.Common.{◌∙◌, ◌&&◌, [], ◌∷◌, ap, not, sym, refl}
use Rattle.kms_model.specs.declared.replies.Step.TheVariants.{Return}
use Rattle.kms_model.specs.declared.runs.Place.{Place}
use Rattle.kms_core.specs.Run.{machine}
use Rattle.kms_core.proofs.calls.Returned.{returns, tells_over, waits_for}
use Rattle.kms_core.proofs.stores.Histories.{gained, seen}
use Rattle.kms_core.proofs.stores.Spared.{other_holds}
use Rattle.kms_core.proofs.machine.Core.return_from.Goals as goal

pub go_on-requires-clause-command : goal.go_on-requires-clause-command
go_on-requires-clause-command c =
    (waits_for (seen c.stores.invariant (c.stores.view_is ∙ c.deref_mut-stores.ensures.value ∙ c.self.view_is)).stands
    c.args.client c.requires).command_fits

pub invariant_of-stores-2 : goal.invariant_of-stores-2
invariant_of-stores-2 c =
    let same = c.stores.view_is ∙ c.deref_mut-stores.ensures.value ∙ c.self.view_is in
    let here = seen c.stores.invariant same in
    let more = gained (Return c.args.client ∷ []) same c.in_ok-make_step_room.ensures.items c.push.ensures.items in
    other_holds _ _ here
    (returns here.stands c.args.client c.requires
    (sym (tells_over here.stands c.args.client c.requires (ap (λ (p : Place). p.doing) (sym c.place.ensures) ∙ c.in-Returning.is))
    ∙ ap (λ b. not c.stores.inside.stalled && b) (sym c.is_cleaned.ensures) ∙ ap (λ b. not b && c.is_cleaned.result) c.if-stores.false ∙
    c.if-not-is_cleaned.false)
    more (c.go_on.ensures (machine c.args.self.now) here.stands.stores.clients))
    more refl refl c.in_ok-make_step_room.ensures.room c.push.ensures.room
