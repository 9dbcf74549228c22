-- A request that a check accepts, in the present world.
use Rattle.std.proofs.Common.{◌≡◌, ℕ, ◌<◌, Bool, true, false, List, None, refl, sym, ap, ◌∙◌, subst}
use Rattle.std.specs.Prelude.{◌&&◌, ◌||◌, not, is_none}
use Rattle.std.proofs.lemmas.Bool.{and_from}
use Rattle.kms_model.specs.declared.objects.Topology.{Topology}
use Rattle.kms_model.specs.declared.replies.Reply.TheVariants as reply
use Rattle.kms_model.specs.declared.replies.Step.TheVariants as step
use Rattle.kms_model.specs.declared.scripts.Request.{Request}
use Rattle.kms_model.specs.declared.sets.Resolved.{Resolved}
use Rattle.kms_model.specs.declared.states.Checked.{Checked}
use Rattle.kms_model.specs.declared.states.Mask.{Mask}
use Rattle.kms_model.specs.declared.worlds.Look.{Look}
use Rattle.kms_model.specs.Device.Sound.{IsDevice}
use Rattle.kms_model.specs.Machine.Effects.{next}
use Rattle.kms_model.specs.Machine.Histories.{is_history, legal}
use Rattle.kms_model.specs.Machine.State.{Machine, holds}
use Rattle.kms_model.specs.Machine.Steps.{holds_touched, may, may_test}
use Rattle.kms_model.specs.Request.Deciding.{IsChecked, IsOfRequest}
use Rattle.kms_model.specs.Request.Flags.{is_test}
use Rattle.kms_model.specs.Request.Lookups.{look_up}
use Rattle.kms_model.specs.Request.SameLooks.{TellsLabels}
use Rattle.kms_model.specs.Request.Sets.{look_in}
use Rattle.kms_model.specs.Request.Touched.{touched_by, touches}
use Rattle.kms_model.specs.Request.Verdict.{early_in, late_in, verdict}
use Rattle.kms_model.proofs.Items.{or_else-nones}
use Rattle.kms_model.proofs.Facts.{implied_from}
use Rattle.kms_laws.proofs.ClientProgress.{taking-from}
use Rattle.kms_track.specs.InStep.{is_of_device, is_there}
use Rattle.kms_track.specs.Places.{all_below, mask_has, object_at_place}
use Rattle.kms_track.proofs.CheckedLemmas.{device_within, in_touched}
use Rattle.kms_track.proofs.Lockables.{all_lockable}
use Rattle.kms_track.proofs.PlaceLemmas.{all_same}
use Rattle.kms_track.proofs.There.{on_place}
use Rattle.kms_core.specs.Decisions.{held_at}
use Rattle.kms_core.specs.Decisions.{Decides, HoldsAll, IsAccepted, IsDeciding, IsFirstStale, MayTest, taker, world}
use Rattle.kms_core.specs.Run.{Run, machine}
use Rattle.kms_model.specs.Script.WellFormed.{IsWellFormed}
use Rattle.kms_core.specs.Stands.{Stores, Stands}
use Rattle.kms_wwlock.specs.Standing.{doing_in}
use Rattle.kms_core.specs.Decisions.{taker_in}
use Rattle.kms_core.proofs.stores.Fresh.{tells_now}
use Rattle.kms_core.proofs.Takers.{taker_as}
use Rattle.kms_core.proofs.Verdicts.{Decider, decider, of_request}

-- Locks

each_true : (f : ℕ → Bool) → ((p : ℕ) → p < 28 → f p ≡ true) → all_below f 28 ≡ true
unfolding all_below
each_true f each = all_same f (λ p. true) 28 each

if_on : {on : Bool} (in_mask touched b : Bool) → on ≡ true → (on && touched) ≡ in_mask → (not in_mask || b) ≡ (not touched || b)
if_on in_mask touched b is e = rw (sym e, is) refl

if_off : {on : Bool} (in_mask touched b : Bool) → on ≡ false → (on && touched) ≡ in_mask → (not in_mask || b) ≡ true
if_off in_mask touched b is e = rw (sym e, is) refl

-- a context holds the objects of the set that a request touches where it holds what the request touches
pub mask_holds : {t : Topology} (m : Machine) (client : ℕ) (request : Request) {mask : Mask} → IsDevice t → mask
    ≡ touched_by t m.device.world request → all_below (held_at m client mask) 28 ≡ holds_touched t m client request
unfolding holds_touched
mask_holds {t} m client request {mask} device is =
    all_lockable t (held_at m client mask) (λ object. not (touches t m.device.world request object) || holds m client object)
    (device_within t device) there elsewhere
  where
    has : (p : ℕ) → p < 28 → (is_of_device t (object_at_place p) && touches t m.device.world request (object_at_place p)) ≡ mask_has mask p
    has p below = in_touched t m.device.world request p below ∙ ap (λ (x : Mask). mask_has x p) (sym is)

    there : (p : ℕ) → p < 28 → is_there t p ≡ true → held_at m client mask p
        ≡ (not (touches t m.device.world request (object_at_place p)) || holds m client (object_at_place p))
    there p below on = if_on (mask_has mask p) _ (holds m client (object_at_place p))
        (on_place t p below ∙ on) (has p below)

    elsewhere : (p : ℕ) → p < 28 → is_there t p ≡ false → held_at m client mask p ≡ true
    elsewhere p below off = if_off (mask_has mask p) _ (holds m client (object_at_place p))
        (on_place t p below ∙ off) (has p below)

pub mask_held : (t : Topology) (m : Machine) (client : ℕ) (request : Request) (mask : Mask) → IsDevice t → mask
    ≡ touched_by t m.device.world request → HoldsAll m client mask → holds_touched t m client request ≡ true
mask_held t m client request mask device is held =
    sym (mask_holds m client request device is) ∙ each_true (held_at m client mask)
    (λ p below. implied_from (mask_has mask p) (holds m client (object_at_place p)) (held p below))

-- Acceptance

-- what holds of an accepted request now
pub record AcceptedNow (r : Run) (client : ℕ) (request : Request) (resolved : Resolved) (checked : Checked) : Type 0 where
  pub decider : Decider r client request
  pub none : verdict r.script.topology (world r) request ≡ None
  pub held : holds_touched r.script.topology (machine r) client request ≡ true
  pub checked_as : IsChecked r.script.topology (world r) request checked

pub accepted_now : {r : Run} {t : ℕ} {used : List (ℕ × Look)} {request : Request} {resolved : Resolved} {checked : Checked}
    → IsWellFormed r.script → is_history r.script r.steps ≡ true → IsFirstStale (look_up (world r)) used None
    → IsDeciding r t used request → IsAccepted r t used request resolved checked
    → AcceptedNow r (taker (machine r) t) request resolved checked
unfolding verdict
accepted_now {r} {t} {used} {request} {resolved} {checked} formed history fresh deciding accepted =
    let told : TellsLabels (look_in used) (look_up (world r)) request.assigns = tells_now (world r) request used fresh deciding.labels in
    let of : IsOfRequest r.script.topology (world r) request resolved accepted.duplicates = of_request formed history told accepted.given in
    let is = accepted.gives (world r) of in
    record {
      decider = decider deciding;
      none = or_else-nones (early_in r.script.topology (world r) request) (late_in r.script.topology (world r) request) of.asks.accepted
          (accepted.passes (world r) of);
      held = mask_held r.script.topology (machine r) (taker (machine r) t) request checked.touched formed.device is.touched accepted.holds;
      checked_as = is;
    }

test_by : {r : Run} {client : ℕ} {request : Request} {resolved : Resolved} {checked : Checked}
    → AcceptedNow r client request resolved checked → is_test request.flags ≡ true → Decides r client (step.Test client) reply.Tested
unfolding legal may may_test next
test_by {r} {client} {request} A test = record {
  number = A.decider.takes.number;
  taking = A.decider.takes.taking;
  legal = and_from _ _ (ap not A.decider.going)
      (taking-from r.script (machine r) client (may_test r.script.topology (machine r) client) request A.decider.takes.taking A.decider.at
      (and_from _ _ test (and_from _ _ A.held (ap is_none A.none))));
  does = refl;
}

pub tests : {r : Run} {st : Stores} {t : ℕ} {used : List (ℕ × Look)} {checked : Checked} → Stands r st
    → IsFirstStale (look_up (world r)) used None → MayTest r t used checked
    → Decides r (taker (machine r) t) (step.Test (taker (machine r) t)) reply.Tested
tests {r} {t} {used} {checked} stands fresh asked =
    test_by
    (accepted_now stands.formed stands.history fresh asked.deciding asked.accepted) asked.test

-- as the call finds it
pub tests_as : {r : Run} {st : Stores} {t : ℕ} {used : List (ℕ × Look)} {checked : Checked} {client : ℕ} → Stands r st
    → IsFirstStale (look_up (world r)) used None → MayTest r t used checked
    → client ≡ taker_in (doing_in st.clients.places) t → Decides r client (step.Test client) reply.Tested
tests_as {r} {st} {t} {used} {checked} {client} stands none asked is =
    let done = tests stands none asked in
    subst (λ n. Decides r n (step.Test n) reply.Tested) (sym (taker_as t stands is)) done
