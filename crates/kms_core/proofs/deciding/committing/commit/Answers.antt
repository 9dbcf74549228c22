use Rattle.std.proofs.Common.{◌∙◌, ◌+◌, ◌-◌, [], ◌∷◌, map, ap, sym, refl, subst, rules}
use Rattle.std.specs.Prelude.{slice_set}
use Rattle.kms_model.specs.declared.replies.Step.TheVariants.{Swap}
use Rattle.kms_model.specs.declared.runs.Place.{Place}
use Rattle.kms_signal.specs.FenceSets.{FenceSet}
use Rattle.kms_signal.specs.Queues.{Queue, empty_queue}
use Rattle.kms_track.specs.declared.tail.Signals.{Signals}
use Rattle.kms_track.specs.Tracking.{IsSetUp}
use Rattle.kms_core.specs.Run.{machine}
use Rattle.kms_core.specs.SwappedIn.{fences_under, labels_in, signals_for}
use Rattle.kms_core.proofs.deciding.Commits.{again, commits, decider, few_commits, few_waits, found_queue, has_ids, high, may_now, own}
use Rattle.kms_core.proofs.deciding.Commits.{queues_same, roomy, set_up_same, space_again, there}
use Rattle.kms_core.specs.Insides.{run_in, stores_of}
use Rattle.kms_core.proofs.stores.Spared.{still_spared, swap_holds, with_latches}
use Rattle.kms_core.proofs.stores.Histories.{gained}
use Rattle.kms_core.proofs.stores.WithRoom.{stands_with_room}
use Rattle.kms_core.proofs.deciding.committing.commit.Goals as goal

pub invariant_of-stores : goal.invariant_of-stores
invariant_of-stores c =
    let r = run_in c.stores.inside in
    let st = record (stores_of c.stores.inside) { latches = c.make_record_room.new.latches } in
    let room = c.in_err-make_record_room.ensures in
    let stands =
    stands_with_room c.make_record_room.new.journal c.make_record_room.new.replies c.stores.inside.things c.stores.inside.fences
    (with_latches c.make_record_room.new.latches c.stores.invariant.stands room.latches)
    room.steps room.journal room.replies refl refl c.stores.inside.freed refl refl in
    record { stands = stands; spare = still_spared room.steps c.stores.invariant.spare room.steps_kept room.latches_kept }

pub invariant_of-stores-in_err-make_tail_room : goal.invariant_of-stores-in_err-make_tail_room
invariant_of-stores-in_err-make_tail_room c =
    let r = run_in c.stores.inside in
    let can = may_now c.stores.view_is c.requires in
    let room = c.in_ok-make_record_room.ensures in
    let stands =
    roomy c.stores.invariant.stands can
    c.make_record_room.new.journal c.make_record_room.new.replies c.make_record_room.new.latches c.stores.inside.things
    c.make_tail_room.new.fences _ room.steps room.journal room.replies
    room.latches refl refl c.index_mut.ensures.value c.in_err-make_tail_room.ensures.kept in
    record { stands = stands; spare = still_spared room.steps c.stores.invariant.spare room.steps_kept room.latches_kept }

pub make_out_fences-requires-clause-ids : goal.make_out_fences-requires-clause-ids
make_out_fences-requires-clause-ids c =
    has_ids
    c.stores.invariant.stands (may_now c.stores.view_is c.requires)

pub invariant_of-stores-in_err-make_out_fences : goal.invariant_of-stores-in_err-make_out_fences
invariant_of-stores-in_err-make_out_fences c =
    let r = run_in c.stores.inside in
    let can = may_now c.stores.view_is c.requires in
    let room = c.in_ok-make_record_room.ensures in
    let stands =
    roomy c.stores.invariant.stands can
    c.make_record_room.new.journal c.make_record_room.new.replies c.make_record_room.new.latches c.make_out_fences.new.things
    c.make_out_fences.new.fences _ room.steps room.journal room.replies
    room.latches c.in_err-make_out_fences.ensures.same_things
    (ap (λ (f : FenceSet). f.slots) c.in_err-make_out_fences.ensures.same_fences) c.index_mut.ensures.value
    c.in_ok-make_tail_room.ensures.kept in
    record { stands = stands; spare = still_spared room.steps c.stores.invariant.spare room.steps_kept room.latches_kept }

pub index_mut-requires-2 : goal.index_mut-requires-2
index_mut-requires-2 c =
    let fits =
    (own c.stores.invariant.stands
    (may_now c.stores.view_is c.requires)).within
    in search rules

pub set_up-commit-requires-clause-count : goal.set_up-commit-requires-clause-count
set_up-commit-requires-clause-count c =
    rw c.in_ok-make_tail_room.ensures.kept.tracking.count
    (few_commits
    c.stores.invariant.stands (may_now c.stores.view_is c.requires))

pub set_up-commit-requires-clause-fences : goal.set_up-commit-requires-clause-fences
set_up-commit-requires-clause-fences c =
    few_waits
    c.stores.invariant.stands (may_now c.stores.view_is c.requires)

pub leave-requires-clause-command : goal.leave-requires-clause-command
leave-requires-clause-command c =
    (decider
    c.stores.invariant.stands (may_now c.stores.view_is c.requires)).command_fits

pub reserve_events-requires-clause-space : goal.reserve_events-requires-clause-space
reserve_events-requires-clause-space c =
    let r = run_in c.stores.inside in
    let st = stores_of c.stores.inside in
    let can = may_now c.stores.view_is c.requires in
    let first = found_queue c.stores.invariant.stands can _
    c.index_mut.ensures.value in
    let second = again c.stores.invariant.stands can
    c.make_tail_room.new.queue _ _ c.index_mut-2.ensures.value in
    rw second
    (space_again c.stores.invariant.stands can c.make_tail_room.new.queue c.events_asked_for-events.ensures.count
    (c.in_ok-make_tail_room.ensures.kept.reserved ∙ ap (λ (q : Queue). q.reserved) first)
    (c.in_ok-make_tail_room.ensures.kept.unread ∙ ap (λ (q : Queue). q.unread) first))

pub reserve_events-requires-clause-room : goal.reserve_events-requires-clause-room
reserve_events-requires-clause-room c =
    rw (again
    c.stores.invariant.stands (may_now c.stores.view_is c.requires) c.make_tail_room.new.queue _ _ c.index_mut-2.ensures.value)
    c.in_ok-make_tail_room.ensures.events_room

pub signals_of-signals-requires : goal.signals_of-signals-requires
signals_of-signals-requires c =
    there
    c.stores.invariant.stands (may_now c.stores.view_is c.requires)
    _ (ap (λ (p : Place). p.command) c.place-number.ensures)

pub invariant_of-stores-2 : goal.invariant_of-stores-2
invariant_of-stores-2 c =
    let r = run_in c.stores.inside in
    let st = record (stores_of c.stores.inside) { latches = c.make_record_room.new.latches } in
    let before = with_latches c.make_record_room.new.latches c.stores.invariant.stands
    c.in_ok-make_record_room.ensures.latches in
    let m = machine r in
    let can = may_now c.stores.view_is c.requires in
    let mine = own before can in
    let most = high before can in
    let first = found_queue before can _ c.index_mut.ensures.value in
    let second = again before can c.make_tail_room.new.queue _ _
    c.index_mut-2.ensures.value in
    let third = again before can c.make_tail_room.new.queue _ empty_queue refl in
    let more = gained (Swap c.args.client ∷ []) refl c.in_ok-make_record_room.ensures.steps c.push.ensures.items in
    swap_holds _ _ c.stores.invariant
    (commits before can c.set_up-commit.result c.leave.new.clients
    c.reply_commit.new.journal c.reply_commit.new.replies c.make_out_fences.new.things c.present_after-stores-inside.result
    c.make_out_fences.new.fences
    (slice_set c.stores.inside.queues.items (c.args.client - 1) c.make_tail_room.new.queue) c.reserve_events.new.queue
    c.set_up-commit.new.tracker
    (record {
      number = c.set_up-commit.ensures.number ∙ c.in_ok-make_tail_room.ensures.kept.tracking.count;
      goes = λ e. c.leave.ensures.goes e m before.stores.clients;
      waits = λ e. c.leave.ensures.waits e m before.stores.clients;
      replies_more = c.reply_commit.ensures.replies ∙ rw (
        c.in_ok-make_record_room.ensures.replies,
        c.in_ok-make_record_room.ensures.journal,
        c.place-number.ensures,
      ) refl;
      journal_more = c.reply_commit.ensures.journal ∙ rw (c.in_ok-make_record_room.ensures.journal, c.place-number.ensures) refl;
      made_as = λ w assigns crtcs is. c.in_ok-make_out_fences.ensures.made w assigns crtcs
          (rw (c.out_labels-labels.ensures, c.as_slice.ensures.value) is);
      counted = c.in_ok-make_out_fences.ensures.counted;
      present_swapped = c.present_after-stores-inside.ensures;
      fences_more = c.in_ok-make_out_fences.ensures.fences ∙ rw (
        c.in_ok-make_tail_room.ensures.kept.fences,
        c.out_labels-labels.ensures,
        c.as_slice.ensures.value,
      ) refl;
      queues_stand =
          queues_same c.args.client c.make_tail_room.new.queue mine.low most
          (c.in_ok-make_tail_room.ensures.kept.reserved ∙ ap (λ (q : Queue). q.reserved) first)
          (c.in_ok-make_tail_room.ensures.kept.unread ∙ ap (λ (q : Queue). q.unread) first) before.stores.queues;
      reserved = c.reserve_events.ensures.reserved ∙ ap (λ (q : Queue). q.reserved + c.events_asked_for-events.result) (second ∙ sym third)
          ∙ rw c.events_asked_for-events.ensures.count refl;
      unread = c.reserve_events.ensures.unread ∙ ap (λ (q : Queue). q.unread) (second ∙ sym third);
      set_up = λ q is.
          set_up_same
          c.in_ok-make_tail_room.ensures.kept.tracking
          (subst
          (λ (s : Signals). IsSetUp c.make_tail_room.new.tracker c.set_up-commit.new.tracker s c.args.checked.now
          (map (λ f. f.1) c.args.resolved.now.in_fences))
          (c.signals_of-signals.ensures q (rw c.place-number.ensures is)
          ∙ ap (signals_for c.args.client q) (c.made_fences-out_fences.ensures
          ∙ ap (λ xs. fences_under c.make_out_fences.new.things.things xs)
          (c.out_labels-labels.ensures ∙ ap labels_in c.as_slice.ensures.value)))
          c.set_up-commit.ensures.set_up);
    }) more) more
    c.in_ok-make_record_room.ensures.steps_room c.push.ensures.room c.in_ok-make_record_room.ensures.latches_room
