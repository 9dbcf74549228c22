use Rattle.std.proofs.Common.{◌∙◌, [], ◌∷◌, ap, refl}
use Rattle.std.proofs.lemmas.Bool.{false≢true}
use Rattle.kms_model.specs.declared.objects.Kind.TheVariants.{Crtc}
use Rattle.kms_model.specs.declared.replies.Step.TheVariants.{Vblank}
use Rattle.kms_model.specs.Device.Objects.{object_id}
use Rattle.kms_model.specs.Machine.Framebuffers.{picture_names}
use Rattle.kms_model.specs.Machine.Registers.{decoded_picture}
use Rattle.kms_core.specs.Freeing.{AreAllOf}
use Rattle.kms_core.specs.Insides.{stores_of}
use Rattle.kms_core.specs.Run.{Run, machine}
use Rattle.kms_core.specs.Stands.{StandsWithSpare}
use Rattle.kms_core.proofs.tails.Blanking.{BlanksFor, blank_latches, blanks_for, blanks_low, blanks_with, blanks_without, count_fits}
use Rattle.kms_core.proofs.tails.Blanking.{few_blanked, goes_is, has_picture}
use Rattle.kms_core.proofs.stores.Found.{found_some}
use Rattle.kms_core.proofs.stores.FreedCalls.{live_all, live_few, live_held, live_places}
use Rattle.kms_core.proofs.stores.Histories.{gained, seen}
use Rattle.kms_core.proofs.stores.Spared.{IsOwn, other_holds, own_holds, own_room}
use Rattle.kms_core.proofs.machine.Core.vblank.Goals.{In-Some, After-as_slice-2}
use Rattle.kms_core.proofs.machine.Core.vblank.Goals as goal

here : (c : In-Some) → StandsWithSpare c.args.self.now (stores_of c.stores.inside) c.stores.inside.steps.room
here c = seen c.stores.invariant (c.stores.view_is ∙ c.deref_mut-stores.ensures.value ∙ c.self.view_is)

with_go : (c : In-Some) → BlanksFor c.args.self.now c.in-Some.commit c.args.crtc
with_go c = blanks_for c.args.crtc (here c).stands c.requires c.in-Some.is

own : (c : In-Some) → IsOwn c.args.self.now (Vblank Crtc c.args.crtc) c.in-Some.commit
own c = record { is_legal = c.requires; within = (with_go c).within; of = (with_go c).go }

-- what is freed is what the CRTC showed
live : (c : After-as_slice-2) → AreAllOf c.as_slice-2.result.now
    (λ id. picture_names id (decoded_picture c.args.self.now.script.topology (machine c.args.self.now).device.live
    (object_id Crtc c.args.crtc)))
live c = live_all (object_id Crtc c.args.crtc) c.as_slice.result.now
    (seen c.stores.invariant (c.stores.view_is ∙ c.deref_mut-stores.ensures.value ∙ c.self.view_is)).stands c.shown_ids-ids_before.ensures
    (λ t d stand. c.as_slice.ensures ∙ c.live_layers-before.ensures t d stand) c.as_slice-2.ensures.value

pub bounds : goal.bounds
bounds c =
    blanks_low c.args.crtc (seen c.stores.invariant (c.stores.view_is ∙ c.deref_mut-stores.ensures.value ∙ c.self.view_is)).stands
    c.requires

pub returns-in_err-make_step_room-clause-no_memory : goal.returns-in_err-make_step_room-clause-no_memory
returns-in_err-make_step_room-clause-no_memory c = λ goes.
    let stands = (seen c.stores.invariant (c.stores.view_is ∙ c.deref_mut-stores.ensures.value ∙ c.self.view_is)).stands in
    absurd (false≢true (goes_is c.args.crtc stands (blanks_low c.args.crtc stands c.requires) c.in_default.is ∙ goes))

pub vblank-none-requires-clause-crtc : goal.vblank-none-requires-clause-crtc
vblank-none-requires-clause-crtc c =
    blanks_low c.args.crtc (seen c.stores.invariant (c.stores.view_is ∙ c.deref_mut-stores.ensures.value ∙ c.self.view_is)).stands
    c.requires

pub vblank-none-requires-clause-count : goal.vblank-none-requires-clause-count
vblank-none-requires-clause-count c =
    count_fits c.args.crtc (Vblank Crtc c.args.crtc) c.make_step_room.new.steps.items
    c.push.new.self.items c.stores.invariant.stands c.in_ok-make_step_room.ensures.items c.push.ensures.items c.push.ensures.fits

pub invariant_of-stores-in_default : goal.invariant_of-stores-in_default
invariant_of-stores-in_default c =
    let same = c.stores.view_is ∙ c.deref_mut-stores.ensures.value ∙ c.self.view_is in
    let here = seen c.stores.invariant same in
    let more = gained (Vblank Crtc c.args.crtc ∷ []) same c.in_ok-make_step_room.ensures.items c.push.ensures.items in
    other_holds _ _ here
    (blanks_without c.args.crtc here.stands c.requires more refl c.vblank-none.ensures.stands c.in_default.is)
    more refl refl c.in_ok-make_step_room.ensures.room c.push.ensures.room

pub returns-in_default-clause-answer : goal.returns-in_default-clause-answer
returns-in_default-clause-answer c =
    let stands = (seen c.stores.invariant (c.stores.view_is ∙ c.deref_mut-stores.ensures.value ∙ c.self.view_is)).stands in
    goes_is c.args.crtc stands (blanks_low c.args.crtc stands c.requires) c.in_default.is

pub push-requires-2 : goal.push-requires-2
push-requires-2 c =
    let known = (goal.at.push-requires-2 c).In-Some in
    (own_room (here known) (own known)).step

pub vblank-requires-clause-count : goal.vblank-requires-clause-count
vblank-requires-clause-count c =
    count_fits c.args.crtc (Vblank Crtc c.args.crtc) c.stores.inside.steps.items
    c.push-2.new.self.items c.stores.invariant.stands refl c.push-2.ensures.items c.push-2.ensures.fits

pub unwrap-picture-requires : goal.unwrap-picture-requires
unwrap-picture-requires c = found_some c.vblank.result (λ none.
    let known = (goal.at.unwrap-picture-requires c).In-Some in
    has_picture c.in-Some.commit c.args.crtc (here known).stands (with_go known).low c.in-Some.is
    (λ t d stand. none ∙ c.vblank.ensures.picture t d stand))

pub latch-requires-clause-crtc : goal.latch-requires-clause-crtc
latch-requires-clause-crtc c = rw c.latch_of-shown.ensures.shown (with_go (goal.at.latch-requires-clause-crtc c).In-Some).low

pub latch-requires-clause-there : goal.latch-requires-clause-there
latch-requires-clause-there c =
    rw c.latch_of-shown.ensures.shown
    (blank_latches c.in-Some.commit c.args.crtc c.latch_of-shown.result.count c.unwrap-picture.result
    (here (goal.at.latch-requires-clause-there c).In-Some).stands c.requires c.in-Some.is)

pub push-requires-3 : goal.push-requires-3
push-requires-3 c =
    let known = (goal.at.push-requires-3 c).In-Some in
    (own_room (here known) (own known)).latch

pub returns-clause-answer : goal.returns-clause-answer
returns-clause-answer c =
    let known = (goal.at.returns-clause-answer c).In-Some in
    goes_is c.args.crtc (here known).stands (with_go known).low c.in-Some.is

pub live_layers-before-requires : goal.live_layers-before-requires
live_layers-before-requires c = (with_go (goal.at.live_layers-before-requires c).In-Some).low

pub shown_ids-ids_before-requires : goal.shown_ids-ids_before-requires
shown_ids-ids_before-requires c = live_few (object_id Crtc c.args.crtc) c.as_slice.result.now c.stores.invariant.stands
    (λ t d stand. c.as_slice.ensures ∙ c.live_layers-before.ensures t d stand)

pub free-requires-clause-places : goal.free-requires-clause-places
free-requires-clause-places c =
    let at = goal.at.free-requires-clause-places c in
    live_places _ (here at.In-Some).stands (with_go at.In-Some).is_crtc (live at.After-as_slice-2)

pub free-requires-clause-held : goal.free-requires-clause-held
free-requires-clause-held c =
    let at = goal.at.free-requires-clause-held c in
    live_held _ (here at.In-Some).stands (with_go at.In-Some).is_crtc (live at.After-as_slice-2)

pub free-requires-clause-rising : goal.free-requires-clause-rising
free-requires-clause-rising c = (live (goal.at.free-requires-clause-rising c).After-as_slice-2).rising

pub free-requires-clause-few : goal.free-requires-clause-few
free-requires-clause-few c =
    rw (c.latch.ensures.tracker, c.latch_of-shown.ensures.shown)
    (few_blanked c.in-Some.commit c.args.crtc (here (goal.at.free-requires-clause-few c).In-Some).stands c.requires c.in-Some.is)

pub invariant_of-stores-2 : goal.invariant_of-stores-2
invariant_of-stores-2 c =
    let at = goal.at.invariant_of-stores-2 c in
    let shown = c.latch_of-shown.ensures.shown in
    let same = c.stores.view_is ∙ c.deref_mut-stores.ensures.value ∙ c.self.view_is in
    let more = gained (Vblank Crtc c.args.crtc ∷ []) same refl c.push-2.ensures.items in
    own_holds (here at.In-Some)
    (blanks_with c.in-Some.commit c.args.crtc c.latch_of-shown.result.count c.unwrap-picture.result c.vblank.new.self
    c.latch.new.tracker c.latch.new.fences c.latch.new.queues.items c.push-3.new.self (here at.In-Some).stands c.requires more
    (record {
      go = c.in-Some.is;
      blanks = c.vblank.ensures.stands;
      tells = rw c.unwrap-picture.ensures at c.vblank.ensures.picture;
      counted = c.latch_of-shown.ensures.count;
      told = rw shown at c.latch.ensures;
      recorded = rw shown at c.push-3.ensures.items;
    })
    c.as_slice-2.result.now c.free.new.freed c.free.new.things (live at.After-as_slice-2)
    (ap (λ (w : Run). w.script.topology.crtcs) same) c.free.ensures)
    more (own at.In-Some) c.push-2.ensures.room c.push-3.ensures.room
