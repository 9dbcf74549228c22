-- What a request's refusals, and its acceptance, are in the present world.
use Rattle.std.proofs.Common.{◌≡◌, ℕ, true, false, List, Some, None, inl, inr, refl, sym, ap, ◌∙◌, ◌⊎◌, subst}
use Rattle.std.specs.Prelude.{◌||◌, ◌==◌, not, is_some}
use Rattle.std.proofs.lemmas.Bool.{and_from, eq-eqb, or_left, or_right}
use Rattle.kms_model.specs.declared.objects.Topology.{Topology}
use Rattle.kms_model.specs.declared.replies.Refusal.{Refusal}
use Rattle.kms_model.specs.declared.replies.Reply.TheVariants as reply
use Rattle.kms_model.specs.declared.replies.Step.TheVariants as step
use Rattle.kms_model.specs.declared.scripts.Request.{Request}
use Rattle.kms_model.specs.declared.sets.Resolved.{Resolved}
use Rattle.kms_model.specs.declared.states.Duplicates.{Duplicates}
use Rattle.kms_model.specs.declared.worlds.Look.{Look}
use Rattle.kms_model.specs.Machine.Commits.{has_number, lockable}
use Rattle.kms_model.specs.Machine.Effects.{next, refused}
use Rattle.kms_model.specs.Machine.Histories.{is_history, legal}
use Rattle.kms_model.specs.Machine.State.{Machine, doing_at, holds, request_at}
use Rattle.kms_model.specs.Machine.Steps.{holds_touched, may, may_refuse}
use Rattle.kms_model.specs.Request.Deciding.{IsOfRequest}
use Rattle.kms_model.specs.Request.Lookups.{look_up}
use Rattle.kms_model.specs.Request.SameLooks.{TellsLabels}
use Rattle.kms_model.specs.Request.Sets.{look_in}
use Rattle.kms_model.specs.Request.Touched.{touches}
use Rattle.kms_model.specs.Request.Verdict.{early_in, late_in, verdict}
use Rattle.kms_model.specs.Script.WellFormed.{IsWellFormed}
use Rattle.kms_model.proofs.Items.{list_all-from, list_any-has}
use Rattle.kms_model.proofs.SameLooks.{early-same, resolved-same}
use Rattle.kms_model.proofs.Facts.{implied_from}
use Rattle.kms_laws.proofs.ClientProgress.{taking-from}
use Rattle.kms_laws.proofs.Modes.{plain-from}
use Rattle.kms_laws.proofs.Steps.{history_kept}
use Rattle.kms_core.specs.Decisions.{Decides, IsDeciding, IsFirstStale, IsGiven, IsRefusedEarly, IsRefusedLate, MayRefuse, taker, world}
use Rattle.kms_core.specs.Run.{Run, machine}
use Rattle.kms_core.specs.Stands.{Stores, Stands}
use Rattle.kms_wwlock.specs.Standing.{doing_in}
use Rattle.kms_core.specs.Decisions.{taker_in}
use Rattle.kms_core.proofs.stores.Fresh.{tells_now}
use Rattle.kms_core.proofs.Takers.{IsTaker, taker_as, takes}

-- what a check was given is of the request in the present world
pub of_request : {r : Run} {used : List (ℕ × Look)} {request : Request} {resolved : Resolved} {duplicates : Duplicates}
    → IsWellFormed r.script → is_history r.script r.steps ≡ true
    → TellsLabels (look_in used) (look_up (world r)) request.assigns → IsGiven r used request resolved duplicates
    → IsOfRequest r.script.topology (world r) request resolved duplicates
of_request {r} {used} {request} {resolved} formed history told given = record {
  device = formed.device;
  sound = (history_kept r.script r.steps (plain-from r.script formed) history).present.lawful.sound;
  numbered = (history_kept r.script r.steps (plain-from r.script formed) history).present.lawful.numbered;
  asks = resolved-same r.script.topology (look_in used) (look_up (world r)) request resolved told given.asks;
  old = given.old;
}

-- what all decisions have in common
pub record Decider (r : Run) (client : ℕ) (request : Request) : Type 0 where
  pub takes : IsTaker (doing_at (machine r)) client
  pub at : request_at r.script (machine r) client ≡ Some request
  pub going : (machine r).stalled ≡ false

pub decider : {r : Run} {t : ℕ} {used : List (ℕ × Look)} {request : Request} → IsDeciding r t used request
    → Decider r (taker (machine r) t) request
decider {r} {t} deciding = record {
  takes = takes (doing_at (machine r)) t deciding.client;
  at = deciding.at;
  going =
      deciding.going;
}

-- Refusals

refuse_by : {r : Run} {client : ℕ} {request : Request} (why : Refusal) → Decider r client request
    → may_refuse r.script.topology (machine r) client request ≡ true
    → verdict r.script.topology (world r) request ≡ Some why.0 → Decides r client (step.Refuse client) (reply.Refused why)
unfolding legal may next refused
refuse_by {r} {client} {request} why D may_be why_is = record {
  number = D.takes.number;
  taking = D.takes.taking;
  legal = and_from _ _ (ap not D.going) (taking-from r.script (machine r) client (may_refuse r.script.topology (machine r) client) request
      D.takes.taking D.at may_be);
  does = rw (D.at, why_is) refl;
}

pub touched_held : (t : Topology) (m : Machine) (client : ℕ) (request : Request)
    → ((object : ℕ) → has_number (lockable t) object ≡ true → touches t m.device.world request object ≡ true → holds m client object ≡ true)
    → holds_touched t m client request ≡ true
unfolding holds_touched
touched_held t m client request held =
    list_all-from (λ object. not (touches t m.device.world request object) || holds m client object) (lockable t)
    (λ object is. implied_from (touches t m.device.world request object) _
    (held object (list_any-has (λ n. n == object) (lockable t) object is (eq-eqb object object refl))))

early_refuses : {r : Run} {client : ℕ} {request : Request} (why : Refusal) → Decider r client request
    → early_in r.script.topology (world r) request ≡ Some why.0 → Decides r client (step.Refuse client) (reply.Refused why)
unfolding may_refuse verdict
early_refuses {r} {client} {request} why D is = refuse_by why D (or_left _ _ (ap is_some is)) (rw is refl)

late_refuses : (r : Run) (client : ℕ) (request : Request) (why : Refusal) → Decider r client request
    → early_in r.script.topology (world r) request ≡ None → late_in r.script.topology (world r) request ≡ Some why.0
    → holds_touched r.script.topology (machine r) client request ≡ true → Decides r client (step.Refuse client) (reply.Refused why)
unfolding may_refuse verdict
late_refuses r client request why D none is held =
    refuse_by why D
    (or_right (is_some (early_in r.script.topology (world r) request)) _ (and_from _ _ held (or_left _ _ (ap is_some is))))
    (rw (none, is) refl)

pub refuses : (r : Run) (t : ℕ) (used : List (ℕ × Look)) (why : Refusal) → IsWellFormed r.script → is_history r.script r.steps ≡ true
    → IsFirstStale (look_up (world r)) used None → MayRefuse r t used why
    → Decides r (taker (machine r) t) (step.Refuse (taker (machine r) t)) (reply.Refused why)
refuses r t used why formed history fresh asked = by_due asked.due where
  told : TellsLabels (look_in used) (look_up (world r)) asked.request.assigns
  told = tells_now (world r) asked.request used fresh asked.deciding.labels

  D : Decider r (taker (machine r) t) asked.request
  D = decider asked.deciding

  by_due : (IsRefusedEarly r used asked.request why ⊎ IsRefusedLate r t used asked.request why)
      → Decides r (taker (machine r) t) (step.Refuse (taker (machine r) t)) (reply.Refused why)
  by_due (inl early) = early_refuses why D
      (sym (early-same r.script.topology (look_in used) (look_up (world r)) asked.request told) ∙ early.first)
  by_due (inr late) =
      let of = of_request formed history told late.given in
      late_refuses r (taker (machine r) t) asked.request why D of.asks.accepted (late.gives (world r) of)
      (touched_held r.script.topology (machine r) (taker (machine r) t) asked.request (late.holds (world r) of))

-- as the call finds it
pub refuses_as : {r : Run} {st : Stores} {t : ℕ} {used : List (ℕ × Look)} {why : Refusal} {client : ℕ} → Stands r st
    → IsFirstStale (look_up (world r)) used None → MayRefuse r t used why
    → client ≡ taker_in (doing_in st.clients.places) t → Decides r client (step.Refuse client) (reply.Refused why)
refuses_as {r} {t} {used} {why} {client} stands none asked is =
    let done = refuses r t used why stands.formed stands.history none asked in
    subst (λ n. Decides r n (step.Refuse n) (reply.Refused why)) (sym (taker_as t stands is)) done
