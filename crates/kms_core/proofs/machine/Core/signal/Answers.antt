use Rattle.std.proofs.Common.{◌∙◌, [], ◌∷◌, ap, sym, refl}
use Rattle.std.specs.Option.{option_copied}
use Rattle.kms_model.specs.declared.replies.Step.TheVariants.{Signal}
use Rattle.kms_model.specs.declared.runs.Place.{Place}
use Rattle.kms_model.specs.Machine.Steps.{is_signal}
use Rattle.kms_model.specs.Device.Serial.{command_of}
use Rattle.kms_laws.proofs.Steps.{signal-other}
use Rattle.kms_core.specs.Insides.{stores_of}
use Rattle.kms_core.specs.Run.{Run, machine}
use Rattle.kms_core.proofs.calls.Executed.{IsFound, is_found, never_absent, no_request}
use Rattle.kms_core.proofs.calls.Signalled.{idle_signaller, signals_one, tells_signal}
use Rattle.kms_core.proofs.stores.Histories.{gained, seen}
use Rattle.kms_core.proofs.stores.Spared.{other_holds}
use Rattle.kms_core.proofs.machine.Core.signal.Goals.{In-Some}
use Rattle.kms_core.proofs.machine.Core.signal.Goals as goal

found : (c : In-Some) → IsFound c.args.self.now (stores_of c.stores.inside) c.args.client is_signal c.in-Some.command.now
found c =
    let same = c.stores.view_is ∙ c.deref_mut-stores.ensures.value ∙ c.self.view_is in
    let here = seen c.stores.invariant same in
    is_found here.stands (idle_signaller c.args.client here.stands c.requires) (ap (λ (p : Place). p.command) c.place-number.ensures)
    (ap option_copied (sym c.in-Some.is) ∙ c.command_of.ensures
    ∙ ap (λ (w : Run). command_of w.script (record { client = c.args.client; command = c.place-number.result.command })) same)

pub place-number-requires : goal.place-number-requires
place-number-requires c =
    (idle_signaller c.args.client (seen c.stores.invariant (c.stores.view_is ∙ c.deref_mut-stores.ensures.value ∙ c.self.view_is)).stands
    c.requires).is_client

pub unreachable-requires : goal.unreachable-requires
unreachable-requires c =
    let same = c.stores.view_is ∙ c.deref_mut-stores.ensures.value ∙ c.self.view_is in
    let here = seen c.stores.invariant same in
    never_absent (idle_signaller c.args.client here.stands c.requires) (ap (λ (p : Place). p.command) c.place-number.ensures)
    (ap option_copied (sym c.in_default.is) ∙ c.command_of.ensures
    ∙ ap (λ (w : Run). command_of w.script (record { client = c.args.client; command = c.place-number.result.command })) same)

pub preview-reply-requires : goal.preview-reply-requires
preview-reply-requires c = no_request c.in-Some.command.now
    (signal-other c.in-Some.command.now (found (goal.at.preview-reply-requires c).In-Some).passes)

pub go_on-requires : goal.go_on-requires
go_on-requires c =
    let here = seen c.stores.invariant (c.stores.view_is ∙ c.deref_mut-stores.ensures.value ∙ c.self.view_is) in
    let there = idle_signaller c.args.client here.stands c.requires in
    record { client = there.is_client; no_context = there.no_context; command = there.command_fits }

pub returns-clause-reply : goal.returns-clause-reply
returns-clause-reply c =
    tells_signal c.args.client c.in-Some.command.now c.preview-reply.result
    (seen c.stores.invariant (c.stores.view_is ∙ c.deref_mut-stores.ensures.value ∙ c.self.view_is)).stands
    (found (goal.at.returns-clause-reply c).In-Some).at (λ t w. c.preview-reply.ensures t w)

pub invariant_of-stores-2 : goal.invariant_of-stores-2
invariant_of-stores-2 c =
    let same = c.stores.view_is ∙ c.deref_mut-stores.ensures.value ∙ c.self.view_is in
    let here = seen c.stores.invariant same in
    let more = gained (Signal c.args.client ∷ []) same c.in_ok-make_room.ensures.steps c.push.ensures.items in
    other_holds _ _ here
    (signals_one c.args.client c.in-Some.command.now c.preview-reply.result c.go_on.new.self c.make_room.new.journal c.answer.new.replies
    c.signal_fence.new.fences here.stands c.requires
    (record {
      found = found (goal.at.invariant_of-stores-2 c).In-Some;
      replied = λ t w. c.preview-reply.ensures t w;
      fences_now = c.signal_fence.ensures ∙ rw c.fence_of.ensures refl;
      clients_stand = c.go_on.ensures (machine c.args.self.now) here.stands.stores.clients;
      journal_kept = c.in_ok-make_room.ensures.journal;
      replies_more = c.answer.ensures ∙ rw (c.in_ok-make_room.ensures.replies, c.place-number.ensures) refl;
    }) more)
    more refl refl c.in_ok-make_room.ensures.steps_room c.push.ensures.room
