use Rattle.std.proofs.Common.{rules, ◌∙◌, ◌-◌, [], ◌∷◌, ap, sym, refl}
use Rattle.std.specs.Prelude.{slice_set}
use Rattle.kms_model.specs.declared.replies.Step.TheVariants.{Read}
use Rattle.kms_signal.specs.Queues.{Queue, after_read}
use Rattle.kms_core.specs.Calls.{read_reply}
use Rattle.kms_core.specs.Run.{machine}
use Rattle.kms_core.proofs.calls.Delivered.{found_queue, has_queue, idle_reader, none_told, reads_event, told_reply}
use Rattle.kms_core.proofs.stores.Histories.{gained, seen}
use Rattle.kms_core.proofs.stores.Spared.{other_holds}
use Rattle.kms_core.proofs.machine.Core.read.Goals as goal

pub go_on-requires : goal.go_on-requires
go_on-requires c =
    let here = seen c.stores.invariant (c.stores.view_is ∙ c.deref_mut-stores.ensures.value ∙ c.self.view_is) in
    let there = idle_reader c.args.client here.stands c.requires in
    record { client = there.is_client; no_context = there.no_context; command = there.command_fits }

pub index_mut-requires : goal.index_mut-requires
index_mut-requires c =
    let here = seen c.stores.invariant (c.stores.view_is ∙ c.deref_mut-stores.ensures.value ∙ c.self.view_is) in
    let fits = has_queue c.args.client here.stands c.requires in
    search rules

pub returns-then-stores-clause-reply : goal.returns-then-stores-clause-reply
returns-then-stores-clause-reply c =
    none_told c.args.client (seen c.stores.invariant (c.stores.view_is ∙ c.deref_mut-stores.ensures.value ∙ c.self.view_is)).stands
    c.if-stores.true

pub returns-in_default-clause-reply : goal.returns-in_default-clause-reply
returns-in_default-clause-reply c =
    let here = seen c.stores.invariant (c.stores.view_is ∙ c.deref_mut-stores.ensures.value ∙ c.self.view_is) in
    sym c.in_default.is ∙ c.next_reply.ensures ∙ told_reply c.args.client _ _ here.stands c.requires c.index.ensures c.if-stores.false

pub returns-clause-reply : goal.returns-clause-reply
returns-clause-reply c =
    let here = seen c.stores.invariant (c.stores.view_is ∙ c.deref_mut-stores.ensures.value ∙ c.self.view_is) in
    sym c.in-Some.is ∙ c.next_reply.ensures ∙ told_reply c.args.client _ _ here.stands c.requires c.index.ensures c.if-stores.false

pub invariant_of-stores-2 : goal.invariant_of-stores-2
invariant_of-stores-2 c =
    let same = c.stores.view_is ∙ c.deref_mut-stores.ensures.value ∙ c.self.view_is in
    let here = seen c.stores.invariant same in
    let more = gained (Read c.args.client ∷ []) same c.in_ok-make_room.ensures.steps c.push.ensures.items in
    other_holds _ _ here
    (reads_event c.args.client c.in-Some.reply c.go_on.new.self c.make_room.new.journal c.answer.new.replies
    (slice_set c.stores.inside.queues.items (c.args.client - 1) c.read-event.new.self) here.stands c.requires c.if-stores.false
    (record {
      told = ap (λ (q : Queue). read_reply q.unread q.reserved)
          (sym (found_queue c.args.client _ here.stands c.requires c.index.ensures)) ∙ sym c.next_reply.ensures ∙ c.in-Some.is;
      clients_stand = c.go_on.ensures (machine c.args.self.now) here.stands.stores.clients;
      journal_kept = c.in_ok-make_room.ensures.journal;
      replies_more = c.answer.ensures ∙ rw (c.in_ok-make_room.ensures.replies, c.place-number.ensures) refl;
      queues_after = ap (λ (q : Queue). slice_set c.stores.inside.queues.items (c.args.client - 1) q)
          (c.read-event.ensures.after ∙ ap after_read (found_queue c.args.client _ here.stands c.requires c.index_mut.ensures.value));
    }) more)
    more refl refl c.in_ok-make_room.ensures.steps_room c.push.ensures.room
