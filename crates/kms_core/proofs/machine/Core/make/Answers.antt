use Rattle.std.proofs.Common.{◌∙◌, [], ◌∷◌, ap, sym, refl}
use Rattle.std.specs.Option.{option_copied}
use Rattle.kms_model.specs.declared.replies.Step.TheVariants.{Make}
use Rattle.kms_model.specs.declared.runs.Place.{Place}
use Rattle.kms_model.specs.Machine.Steps.{is_making}
use Rattle.kms_model.specs.Device.Serial.{command_of}
use Rattle.kms_laws.proofs.Steps.{not_atomic}
use Rattle.kms_core.specs.Insides.{stores_of}
use Rattle.kms_core.specs.Run.{Run, machine}
use Rattle.kms_core.proofs.calls.Executed.{IsFound, has_ids, idle_maker, is_found, makes, never_absent, no_request, place_for, stored_for}
use Rattle.kms_core.proofs.calls.Executed.{tells_reply}
use Rattle.kms_core.proofs.stores.Found.{found_some}
use Rattle.kms_core.proofs.stores.Histories.{gained, seen}
use Rattle.kms_core.proofs.stores.WithRoom.{stands_with_room}
use Rattle.kms_core.proofs.stores.Seeking.{few_tails}
use Rattle.kms_core.proofs.stores.Spared.{other_holds, same_le, still_spared}
use Rattle.kms_core.proofs.machine.Core.make.Goals.{After-unwrap-command}
use Rattle.kms_core.proofs.machine.Core.make.Goals as goal

found : (c : After-unwrap-command) → IsFound c.args.self.now (stores_of c.stores.inside) c.args.client is_making c.unwrap-command.result.now
found c =
    let same = c.stores.view_is ∙ c.deref_mut-stores.ensures.value ∙ c.self.view_is in
    let here = seen c.stores.invariant same in
    is_found here.stands (idle_maker c.args.client here.stands c.requires) (ap (λ (p : Place). p.command) c.place-number.ensures)
    (ap option_copied (sym c.unwrap-command.ensures) ∙ c.command_of.ensures
    ∙ ap (λ (w : Run). command_of w.script (record { client = c.args.client; command = c.place-number.result.command })) same)

pub place-number-requires : goal.place-number-requires
place-number-requires c =
    (idle_maker c.args.client (seen c.stores.invariant (c.stores.view_is ∙ c.deref_mut-stores.ensures.value ∙ c.self.view_is)).stands
    c.requires).is_client

pub unwrap-command-requires : goal.unwrap-command-requires
unwrap-command-requires c = found_some c.command_of.result (λ none.
    let same = c.stores.view_is ∙ c.deref_mut-stores.ensures.value ∙ c.self.view_is in
    let here = seen c.stores.invariant same in
    never_absent (idle_maker c.args.client here.stands c.requires) (ap (λ (p : Place). p.command) c.place-number.ensures)
    (ap option_copied none ∙ c.command_of.ensures
    ∙ ap (λ (w : Run). command_of w.script (record { client = c.args.client; command = c.place-number.result.command })) same))

pub execute-requires-clause-fit : goal.execute-requires-clause-fit
execute-requires-clause-fit c = (found (goal.at.execute-requires-clause-fit c).After-unwrap-command).fit

pub execute-requires-clause-ids : goal.execute-requires-clause-ids
execute-requires-clause-ids c = has_ids c.stores.invariant.stands

pub execute-requires-clause-other : goal.execute-requires-clause-other
execute-requires-clause-other c = no_request c.unwrap-command.result.now
    (not_atomic c.unwrap-command.result.now (found (goal.at.execute-requires-clause-other c).After-unwrap-command).passes)

pub invariant_of-stores-in-Break-branch-4 : goal.invariant_of-stores-in-Break-branch-4
invariant_of-stores-in-Break-branch-4 c = record {
  stands = stands_with_room c.make_room.new.journal c.make_room.new.replies
      c.execute.new.self c.make_room-2.new.self c.stores.invariant.stands
      c.in_ok-make_room.ensures.steps c.in_ok-make_room.ensures.journal c.in_ok-make_room.ensures.replies c.in_err-reply.ensures.unchanged
      c.in_ok-make_room-2.ensures.fences c.make_room-3.new.self c.in_ok-make_room-3.ensures.items c.in_ok-make_room-3.ensures.places;
  spare = still_spared c.in_ok-make_room.ensures.steps c.stores.invariant.spare c.in_ok-make_room.ensures.steps_kept (same_le _);
}

pub go_on-requires : goal.go_on-requires
go_on-requires c =
    let here = seen c.stores.invariant (c.stores.view_is ∙ c.deref_mut-stores.ensures.value ∙ c.self.view_is) in
    let there = idle_maker c.args.client here.stands c.requires in
    record { client = there.is_client; no_context = there.no_context; command = there.command_fits }

pub account-requires-clause-place : goal.account-requires-clause-place
account-requires-clause-place c =
    rw c.in_ok-make_room-3.ensures.places
    (place_for c.args.client c.unwrap-command.result.now c.in_ok-reply.reply c.execute.new.self
    (seen c.stores.invariant (c.stores.view_is ∙ c.deref_mut-stores.ensures.value ∙ c.self.view_is)).stands c.requires
    (found (goal.at.account-requires-clause-place c).After-unwrap-command).at (λ t w. c.in_ok-reply.ensures.executed t w))

pub account-requires-clause-stored : goal.account-requires-clause-stored
account-requires-clause-stored c =
    stored_for c.args.client c.unwrap-command.result.now c.in_ok-reply.reply c.execute.new.self
    (seen c.stores.invariant (c.stores.view_is ∙ c.deref_mut-stores.ensures.value ∙ c.self.view_is)).stands c.requires
    (found (goal.at.account-requires-clause-stored c).After-unwrap-command).at (λ t w. c.in_ok-reply.ensures.executed t w)
    c.in_ok-reply.ensures.counted

pub account-requires-clause-few : goal.account-requires-clause-few
account-requires-clause-few c = few_tails c.stores.invariant.stands

pub returns-clause-reply : goal.returns-clause-reply
returns-clause-reply c =
    tells_reply c.args.client c.unwrap-command.result.now c.execute.new.self c.in_ok-reply.reply
    (seen c.stores.invariant (c.stores.view_is ∙ c.deref_mut-stores.ensures.value ∙ c.self.view_is)).stands
    (found (goal.at.returns-clause-reply c).After-unwrap-command).at (λ t w. c.in_ok-reply.ensures.executed t w)

pub invariant_of-stores-2 : goal.invariant_of-stores-2
invariant_of-stores-2 c =
    let same = c.stores.view_is ∙ c.deref_mut-stores.ensures.value ∙ c.self.view_is in
    let here = seen c.stores.invariant same in
    let more = gained (Make c.args.client ∷ []) same c.in_ok-make_room.ensures.steps c.push.ensures.items in
    other_holds _ _ here
    (makes c.args.client c.unwrap-command.result.now c.in_ok-reply.reply c.go_on.new.self c.join.new.journal c.answer.new.replies
    c.execute.new.self c.make_fence.new.fences here.stands c.requires
    (record {
      found = found (goal.at.invariant_of-stores-2 c).After-unwrap-command;
      executed_as = λ t w. c.in_ok-reply.ensures.executed t w;
      fences_now = c.make_fence.ensures ∙ rw (c.next_id-id.ensures, c.in_ok-make_room-2.ensures.fences) refl;
      clients_stand = c.go_on.ensures (machine c.args.self.now) here.stands.stores.clients;
      replies_more = c.answer.ensures ∙ rw (c.in_ok-make_room.ensures.replies, c.in_ok-make_room.ensures.journal, c.place-number.ensures)
          refl;
      journal_more = c.join.ensures ∙ rw (c.in_ok-make_room.ensures.journal, c.place-number.ensures) refl;
    })
    c.in_ok-reply.ensures.counted more c.make_room-3.new.self c.account.new.freed c.account.new.things
    c.in_ok-make_room-3.ensures.items c.in_ok-make_room-3.ensures.places
    (ap (λ (w : Run). w.script.topology.crtcs) same) c.account.ensures)
    more refl refl c.in_ok-make_room.ensures.steps_room c.push.ensures.room
