-- The present states of a core's device, and what its labels name.
use Rattle.std.proofs.Common.{◌≡◌, List, true, sym, ap}
use Rattle.kms_model.specs.declared.worlds.Thing.{Thing}
use Rattle.kms_model.specs.Device.Sound.{IsSound}
use Rattle.kms_model.specs.Device.World.{thing_labelled}
use Rattle.kms_model.specs.Machine.Histories.{is_history}
use Rattle.kms_model.specs.Request.Lookups.{look_of, look_of_any, look_up, look_up_any}
use Rattle.kms_model.specs.Script.WellFormed.{IsWellFormed}
use Rattle.kms_laws.proofs.Modes.{plain-from}
use Rattle.kms_laws.proofs.Steps.{history_kept}
use Rattle.kms_request.specs.Whole.{ArePresent, ArePresentSomewhere, TellSame}
use Rattle.kms_core.specs.Decisions.{world}
use Rattle.kms_core.specs.Run.{Run}
use Rattle.kms_core.specs.Stands.{Stores, Stands}

-- the world of a history is sound
pub sound_now : (v : Run) → IsWellFormed v.script → is_history v.script v.steps ≡ true → IsSound v.script.topology (world v)
sound_now v formed history = (history_kept v.script v.steps (plain-from v.script formed) history).present.lawful.sound

pub presented : {r : Run} {st : Stores} → Stands r st → ArePresent r.script.topology (world r) st.present
presented {r} stands =
    let states = stands.stores.world.states in
    record {
      device = stands.formed.device;
      sound = sound_now r stands.formed stands.history;
      numbered = (history_kept r.script r.steps (plain-from r.script stands.formed) stands.history).present.lawful.numbered;
      old = states.old;
      new = states.new;
      all = record { crtcs = states.whole.crtcs.there; planes = states.whole.planes.there; conns = states.whole.conns.there };
    }

pub tells_now : {r : Run} {st : Stores} → Stands r st
    → TellSame (λ label. look_of (thing_labelled st.made.things label)) (look_up (world r))
tells_now stands label = ap (λ (things : List Thing). look_of (thing_labelled things label)) (sym stands.stores.world.things)

pub tells_ever : {r : Run} {st : Stores} → Stands r st
    → TellSame (λ label. look_of_any (thing_labelled st.made.things label)) (look_up_any (world r))
tells_ever stands label = ap (λ (things : List Thing). look_of_any (thing_labelled things label)) (sym stands.stores.world.things)

pub somewhere_now : {r : Run} {st : Stores} → Stands r st
    → ArePresentSomewhere look_up r.script.topology (λ label. look_of (thing_labelled st.made.things label)) st.present
somewhere_now {r} {st} stands = record { world = world r; present = presented stands; tells = tells_now stands }

pub somewhere_ever : {r : Run} {st : Stores} → Stands r st
    → ArePresentSomewhere look_up_any r.script.topology (λ label. look_of_any (thing_labelled st.made.things label)) st.present
somewhere_ever {r} {st} stands = record { world = world r; present = presented stands; tells = tells_ever stands }
