use Rattle.std.proofs.Common.{◌∙◌, [], ◌∷◌, ap, refl, arith}
use Rattle.kms_model.specs.declared.objects.Kind.TheVariants.{Crtc}
use Rattle.kms_model.specs.declared.replies.Step.TheVariants.{Flush}
use Rattle.kms_model.specs.Device.Objects.{object_id}
use Rattle.kms_model.specs.Machine.Framebuffers.{picture_names}
use Rattle.kms_model.specs.Machine.Registers.{decoded_picture}
use Rattle.kms_core.specs.Freeing.{AreAllOf}
use Rattle.kms_core.specs.Insides.{stores_of}
use Rattle.kms_core.specs.Run.{Run, machine}
use Rattle.kms_core.specs.Stands.{StandsWithSpare}
use Rattle.kms_core.proofs.tails.Flushing.{FlushesNext, few_flushed, flush_latches, flushes_next, flushes_off, flushes_on, off_has_picture}
use Rattle.kms_core.proofs.tails.Flushing.{tells_none}
use Rattle.kms_core.proofs.stores.Found.{found_some}
use Rattle.kms_core.proofs.stores.FreedCalls.{live_all, live_few, live_held, live_places}
use Rattle.kms_core.proofs.stores.Histories.{gained, seen}
use Rattle.kms_core.proofs.stores.Spared.{IsOwn, own_holds, own_room, own_step}
use Rattle.kms_core.proofs.machine.Core.flush.Goals.{After-push, After-as_slice-2}
use Rattle.kms_core.proofs.machine.Core.flush.Goals as goal

here : (c : After-push) → StandsWithSpare c.args.self.now (stores_of c.stores.inside) c.stores.inside.steps.room
here c = seen c.stores.invariant (c.stores.view_is ∙ c.deref_mut-stores.ensures.value ∙ c.self.view_is)

next : (c : After-push) → FlushesNext c.args.self.now c.args.commit c.args.crtc
next c = flushes_next c.args.commit c.args.crtc (here c).stands c.requires

own : (c : After-push) → IsOwn c.args.self.now (Flush c.args.commit Crtc c.args.crtc) c.args.commit
own c = own_step _ _ (here c).stands refl refl (next c).is_legal

-- what is freed is what the CRTC showed
live : (c : After-as_slice-2) → AreAllOf c.as_slice-2.result.now
    (λ id. picture_names id (decoded_picture c.args.self.now.script.topology (machine c.args.self.now).device.live
    (object_id Crtc c.args.crtc)))
live c = live_all (object_id Crtc c.args.crtc) c.as_slice.result.now
    (seen c.stores.invariant (c.stores.view_is ∙ c.deref_mut-stores.ensures.value ∙ c.self.view_is)).stands c.shown_ids-ids_before.ensures
    (λ t d stand. c.as_slice.ensures ∙ c.live_layers-before.ensures t d stand) c.as_slice-2.ensures.value

pub push-requires : goal.push-requires
push-requires c =
    let here = seen c.stores.invariant (c.stores.view_is ∙ c.deref_mut-stores.ensures.value ∙ c.self.view_is) in
    let step = Flush c.args.commit Crtc c.args.crtc in
    (own_room here
    (own_step step c.args.commit here.stands refl refl (flushes_next c.args.commit c.args.crtc here.stands c.requires).is_legal)).step

pub mark_flushed-requires : goal.mark_flushed-requires
mark_flushed-requires c = (next (goal.at.mark_flushed-requires c).After-push).low

pub is_on_in_shadow-requires : goal.is_on_in_shadow-requires
is_on_in_shadow-requires c = (next (goal.at.is_on_in_shadow-requires c).After-push).low

pub flush-none-requires : goal.flush-none-requires
flush-none-requires c = (next (goal.at.flush-none-requires c).After-push).low

pub flush-requires : goal.flush-requires
flush-requires c = (next (goal.at.flush-requires c).After-push).low

pub bounds-stores-inside-crtc : goal.bounds-stores-inside-crtc
bounds-stores-inside-crtc c = (next (goal.at.bounds-stores-inside-crtc c).After-push).low

pub invariant_of-stores : goal.invariant_of-stores
invariant_of-stores c =
    let known = (goal.at.invariant_of-stores c).After-push in
    let more = gained (Flush c.args.commit Crtc c.args.crtc ∷ []) (c.stores.view_is ∙ c.deref_mut-stores.ensures.value ∙ c.self.view_is)
    refl
    c.push.ensures.items in
    own_holds (here known)
    (flushes_on c.args.commit c.args.crtc (here known).stands c.requires more refl c.mark_flushed.ensures c.flush-none.ensures.stands
    (tells_none c.stores.inside.registers c.args.crtc (λ t d stand. c.if-is_on_in_shadow.ensures t d stand)))
    more (own known) c.push.ensures.room (omega arith)

pub unwrap-picture-requires : goal.unwrap-picture-requires
unwrap-picture-requires c = found_some c.flush.result (λ none.
    off_has_picture c.args.crtc c.stores.invariant.stands
    (λ t d stand. c.if-is_on_in_shadow.ensures t d stand) (λ t d stand. none ∙ c.flush.ensures.picture t d stand))

pub latch_of-shown-requires : goal.latch_of-shown-requires
latch_of-shown-requires c = (next (goal.at.latch_of-shown-requires c).After-push).low

pub latch-requires-clause-crtc : goal.latch-requires-clause-crtc
latch-requires-clause-crtc c = rw c.latch_of-shown.ensures.shown (next (goal.at.latch-requires-clause-crtc c).After-push).low

pub latch-requires-clause-there : goal.latch-requires-clause-there
latch-requires-clause-there c =
    rw c.latch_of-shown.ensures.shown
    (flush_latches c.args.commit c.args.crtc c.latch_of-shown.result.count c.unwrap-picture.result
    (here (goal.at.latch-requires-clause-there c).After-push).stands c.requires c.mark_flushed.ensures)

pub push-requires-2 : goal.push-requires-2
push-requires-2 c =
    let known = (goal.at.push-requires-2 c).After-push in
    (own_room (here known) (own known)).latch

pub live_layers-before-requires : goal.live_layers-before-requires
live_layers-before-requires c = (next (goal.at.live_layers-before-requires c).After-push).low

pub shown_ids-ids_before-requires : goal.shown_ids-ids_before-requires
shown_ids-ids_before-requires c = live_few (object_id Crtc c.args.crtc) c.as_slice.result.now c.stores.invariant.stands
    (λ t d stand. c.as_slice.ensures ∙ c.live_layers-before.ensures t d stand)

pub free-requires-clause-places : goal.free-requires-clause-places
free-requires-clause-places c =
    let at = goal.at.free-requires-clause-places c in
    live_places _ (here at.After-push).stands (next at.After-push).flush.is_crtc (live at.After-as_slice-2)

pub free-requires-clause-held : goal.free-requires-clause-held
free-requires-clause-held c =
    let at = goal.at.free-requires-clause-held c in
    live_held _ (here at.After-push).stands (next at.After-push).flush.is_crtc (live at.After-as_slice-2)

pub free-requires-clause-rising : goal.free-requires-clause-rising
free-requires-clause-rising c = (live (goal.at.free-requires-clause-rising c).After-as_slice-2).rising

pub free-requires-clause-few : goal.free-requires-clause-few
free-requires-clause-few c =
    rw (c.latch.ensures.tracker, c.latch_of-shown.ensures.shown)
    (few_flushed c.args.commit c.args.crtc c.mark_flushed.new.self (here (goal.at.free-requires-clause-few c).After-push).stands c.requires
    c.mark_flushed.ensures)

pub invariant_of-stores-2 : goal.invariant_of-stores-2
invariant_of-stores-2 c =
    let at = goal.at.invariant_of-stores-2 c in
    let shown = c.latch_of-shown.ensures.shown in
    let same = c.stores.view_is ∙ c.deref_mut-stores.ensures.value ∙ c.self.view_is in
    let more = gained (Flush c.args.commit Crtc c.args.crtc ∷ []) same refl c.push.ensures.items in
    own_holds (here at.After-push)
    (flushes_off c.args.commit c.args.crtc c.latch_of-shown.result.count c.unwrap-picture.result c.flush.new.self c.mark_flushed.new.self
    c.latch.new.tracker c.latch.new.fences c.latch.new.queues.items c.push-2.new.self (here at.After-push).stands c.requires more
    (record {
      flushes = c.flush.ensures.stands;
      tells = rw c.unwrap-picture.ensures at c.flush.ensures.picture;
      latched = rw c.unwrap-picture.ensures at c.flush.ensures.latched;
      counted = c.latch_of-shown.ensures.count;
      marked_as = c.mark_flushed.ensures;
      told = rw shown at c.latch.ensures;
      recorded = rw shown at c.push-2.ensures.items;
    })
    c.as_slice-2.result.now c.free.new.freed c.free.new.things (live at.After-as_slice-2)
    (ap (λ (w : Run). w.script.topology.crtcs) same) c.free.ensures)
    more (own at.After-push) c.push.ensures.room c.push-2.ensures.room
