-- What a request that is decided is told: the reply that refuses it, and what was checked of one that is accepted.
use Rattle.std.proofs.Common.{◌≡◌, ℕ, ◌<◌, List, Bool, true, false, Option, Some, None, refl, sym, ap, ◌∙◌, subst}
use Rattle.std.specs.Prelude.{◌&&◌, ◌||◌, not, is_some, nat_lt}
use Rattle.std.specs.List.{All}
use Rattle.std.proofs.lemmas.Bool.{and_parts, false≢true, ltb-true}
use Rattle.kms_model.specs.declared.objects.Kind.{Kind}
use Rattle.kms_model.specs.declared.objects.Kind.TheVariants.{Conn, Crtc, Plane}
use Rattle.kms_model.specs.declared.objects.Topology.{Topology}
use Rattle.kms_model.specs.declared.replies.Refusal.{Refusal}
use Rattle.kms_model.specs.declared.replies.Reply.{Reply}
use Rattle.kms_model.specs.declared.replies.Reply.TheVariants as reply
use Rattle.kms_model.specs.declared.replies.Step.{Step}
use Rattle.kms_model.specs.declared.replies.Step.TheVariants as step
use Rattle.kms_model.specs.declared.scripts.Command.TheVariants as command
use Rattle.kms_model.specs.declared.scripts.Request.{Request}
use Rattle.kms_model.specs.declared.scripts.Script.{Script}
use Rattle.kms_model.specs.declared.sets.Resolved.{Resolved}
use Rattle.kms_model.specs.declared.states.Checked.{Checked}
use Rattle.kms_model.specs.declared.states.Duplicates.{Duplicates}
use Rattle.kms_model.specs.declared.states.Mask.{Mask}
use Rattle.kms_model.specs.declared.worlds.Look.{Look}
use Rattle.kms_model.specs.declared.worlds.World.{World}
use Rattle.kms_model.specs.Device.Masks.{has_bit}
use Rattle.kms_model.specs.Device.Objects.{count_of}
use Rattle.kms_model.specs.Device.Properties.{keeps_limits}
use Rattle.kms_model.specs.Device.World.{thing_labelled}
use Rattle.kms_model.specs.Machine.Effects.{busy_reply, decided, next, refusal_reply, refused}
use Rattle.kms_model.specs.Machine.Histories.{legal}
use Rattle.kms_model.specs.Machine.State.{Machine, command_at, doing_at, request_at}
use Rattle.kms_model.specs.Machine.Steps.{first_pending, is_busy, is_taking, lacks_space, may, may_refuse, may_swap}
use Rattle.kms_model.specs.Machine.Steps.{may_test, space_used}
use Rattle.kms_model.specs.Request.Deciding.{IsChecked}
use Rattle.kms_model.specs.Request.Flags.{is_test}
use Rattle.kms_model.specs.Request.Lookups.{look_of, look_up, lookups}
use Rattle.kms_model.specs.Request.Refusals.{early_refusal}
use Rattle.kms_model.specs.Request.Resolves.{IsResolved, IsSettable}
use Rattle.kms_model.specs.Request.SameLooks.{TellsLabels}
use Rattle.kms_model.specs.Request.Sets.{look_in}
use Rattle.kms_model.specs.Request.Touched.{named_by, touched_by}
use Rattle.kms_model.specs.Request.Verdict.{early_in, late_in, verdict}
use Rattle.kms_model.specs.Script.WellFormed.{IsWellFormed}
use Rattle.kms_model.proofs.Guards.{IsSwapping, IsTakingAt, legal-going, legal_guards, swap_guards, taking_passes}
use Rattle.kms_model.proofs.Items.{or_else-none}
use Rattle.kms_model.proofs.MaskLemmas.{has_bit-mask_below}
use Rattle.kms_model.proofs.RequestLemmas.{accepted_allowed, all_settable}
use Rattle.kms_model.proofs.SameLooks.{world_tells}
use Rattle.kms_wwlock.specs.Standing.{IsClient}
use Rattle.kms_laws.proofs.Steps.{request-is}
use Rattle.kms_request.specs.declared.errors.RequestError.{RequestError}
use Rattle.kms_request.specs.declared.errors.RequestError.TheVariants.{Of}
use Rattle.kms_request.specs.Answers.{ComesFrom, refusal_number}
use Rattle.kms_request.specs.Whole.{ArePresent, StandBetween, TellSame}
use Rattle.kms_core.specs.declared.next.judgement.Judged.{Judged}
use Rattle.kms_core.specs.Decisions.{Decides, world}
use Rattle.kms_core.specs.Judging.{IsJudgedLate, request_taken}
use Rattle.kms_core.specs.Next.{IsLegal}
use Rattle.kms_core.specs.Run.{Run, machine}
use Rattle.kms_core.specs.Stands.{Stores, Stands}
use Rattle.kms_track.specs.InStep.{HasStates}
use Rattle.kms_core.specs.Swaps.{MayCommit}
use Rattle.kms_core.proofs.stores.Committed.{there_at}
use Rattle.kms_core.proofs.next.JudgedRequests.{no_refuse, no_swap, refuse_late}
use Rattle.kms_core.proofs.Lates.{late_parts}
use Rattle.kms_core.proofs.Places.{client_there, is_client}
use Rattle.kms_core.proofs.next.Presented.{presented, tells_now}
use Rattle.kms_core.proofs.next.Taken.{Takes, taken_parts}

-- The early refusals

early_is : {r : Run} {st : Stores} (request : Request) (o : Option Refusal) → Stands r st
    → refusal_number o ≡ early_refusal r.script.topology (λ label. look_of (thing_labelled st.made.things label)) request
    → early_in r.script.topology (world r) request ≡ refusal_number o
early_is {r} {st} request o stands first =
    let looks : (λ label. look_of (thing_labelled st.made.things label)) ≡ look_up (world r) = λ i label. tells_now stands label i in
    ap (λ g. early_refusal r.script.topology g request) (sym looks) ∙ sym first

early_replied : (s : Script) (m : Machine) (client : ℕ) (request : Request) (why : Refusal) → early_in s.topology m.device.world request
    ≡ Some why.0
    → reply.Refused why ≡ refusal_reply s.topology m client request (verdict s.topology m.device.world request)
unfolding verdict
early_replied s m client request why is = rw is refl

pub refused_early : {r v : Run} {st : Stores} (client : ℕ) (request : Request) (why : Refusal) → Stands r st → r ≡ v
    → refusal_number (Some why) ≡ early_refusal r.script.topology (λ label. look_of (thing_labelled st.made.things label)) request
    → reply.Refused why ≡ refusal_reply v.script.topology (machine v) client request (verdict v.script.topology (world v) request)
refused_early {r} client request why stands same first =
    subst (λ (w : Run). reply.Refused why ≡ refusal_reply w.script.topology (machine w) client request
    (verdict w.script.topology (world w) request)) same
    (early_replied r.script (machine r) client request why (early_is request (Some why) stands first))

-- The others

module _ (s : Script) (m : Machine) (client : ℕ) (request : Request) (j : Judged) (told : IsJudgedLate s.topology m client request j) where
  pub refused_late : (why : Refusal) → j.late ≡ Some why → reply.Refused why
      ≡ refusal_reply s.topology m client request (verdict s.topology m.device.world request)
  unfolding verdict
  refused_late why is =
      let late : late_in s.topology m.device.world request ≡ Some why.0 = sym told.late ∙ ap refusal_number is in
      rw (told.none, late) refl

  pub refused_last : (given : Reply) → j.late ≡ None → j.hindered ≡ Some given → given
      ≡ refusal_reply s.topology m client request (verdict s.topology m.device.world request)
  unfolding verdict
  refused_last given none is =
      let late : late_in s.topology m.device.world request ≡ None = sym told.late ∙ ap refusal_number none in
      let parts = late_parts (lacks_space s.topology m client request) (is_busy s.topology m request)
      (reply.Space (space_used m.events client)) (busy_reply s.topology m (first_pending s.topology m request)) given
      (sym told.hindered ∙ is) in
      rw (told.none, late) (sym parts.1)

  off : (holds test : Bool) → (holds && (false || (not test && false))) ≡ false
  off true true = refl
  off true false = refl
  off false test = refl

  pub refused_never : Some request ≡ request_taken s m client → j.late ≡ None → j.hindered ≡ None → may s m (step.Refuse client) ≡ true → ⊥
  refused_never taken none other is =
      let told_so = refuse_late s m client request taken j told (is_test request.flags) refl in
      let neither : (j.holds && (false || (not (is_test request.flags) && false))) ≡ true =
      ap (λ b. j.holds && (b || (not (is_test request.flags) && false))) (sym (ap (λ (o : Option Refusal). is_some o) none))
      ∙ ap (λ b. j.holds && (is_some j.late || (not (is_test request.flags) && b))) (sym (ap (λ (o : Option Reply). is_some o) other)) ∙
      told_so ∙ is in
      false≢true (sym (off j.holds (is_test request.flags)) ∙ neither)

-- Accepted requests

-- all that is touched is duplicated, where all is
all_states : {t : Topology} {w : World} {request : Request} (checked : Checked) → StandBetween t w request checked.states
    → checked.touched ≡ touched_by t w request → HasStates checked
all_states {t} {w} {request} checked stand touched = record {
  crtcs = λ i few has. there_at checked.states.crtcs i
      (stand.all.crtcs i (within Crtc (λ (m : Mask). m.crtcs) i _ (has_bit-mask_below _ (count_of t Crtc) i) has));
  planes = λ i few has. there_at checked.states.planes i
      (stand.all.planes i (within Plane (λ (m : Mask). m.planes) i _ (has_bit-mask_below _ (count_of t Plane) i) has));
  conns = λ i few has. there_at checked.states.conns i
      (stand.all.conns i (within Conn (λ (m : Mask). m.conns) i _ (has_bit-mask_below _ (count_of t Conn) i) has));
}
  where
    within : (kind : Kind) (part : Mask → ℕ) (i : ℕ) (test : Bool) → has_bit (part (touched_by t w request)) i
        ≡ (nat_lt i (count_of t kind) && test) → has_bit (part checked.touched) i ≡ true → i < count_of t kind
    within kind part i test is has =
        ltb-true i (count_of t kind) (and_parts (nat_lt i (count_of t kind)) test
        (sym is ∙ sym (ap (λ m. has_bit (part m) i) touched) ∙ has)).0

pub settable_now : (r : Run) (request : Request) → IsWellFormed r.script → early_in r.script.topology (world r) request ≡ None
    → All IsSettable request.assigns
settable_now r request formed none =
    let t = r.script.topology in
    all_settable t (look_up (world r)) request.assigns (and_parts (keeps_limits t) _ formed.device.legal).0
    (accepted_allowed t (look_up (world r)) request none)

pub early_at : {r v : Run} (request : Request) → r ≡ v → early_in v.script.topology (world v) request ≡ None
    → early_in r.script.topology (world r) request ≡ None
early_at request same none = subst (λ (w : Run). early_in w.script.topology (world w) request ≡ None) (sym same) none

-- what is given of the states after a request
pub record IsSpanned (r : Run) (request : Request) (checked : Checked) : Type 0 where
  pub stand : StandBetween r.script.topology (world r) request checked.states
  pub named : checked.named ≡ named_by r.script.topology (world r) request
  pub touched : checked.touched ≡ touched_by r.script.topology (world r) request

pub spanned : {r : Run} {st : Stores} (request : Request) (states : Duplicates) (spans : ℕ × Mask) → Stands r st
    → early_in r.script.topology (world r) request ≡ None
    → ((w : World) → ArePresent r.script.topology w st.present
    → TellSame (λ label. look_of (thing_labelled st.made.things label)) (look_up w) → early_in r.script.topology w request ≡ None
    → StandBetween r.script.topology w request states)
    → ((t : Topology) (w : World) → StandBetween t w request states → spans.0 ≡ named_by t w request)
    → ((t : Topology) (w : World) → StandBetween t w request states → spans.1 ≡ touched_by t w request)
    → IsSpanned r request (record { states = states; named = spans.0; touched = spans.1 })
spanned {r} {st} request states spans stands none between named touched =
    let stand = between (world r) (presented stands) (tells_now stands) none in
    record { stand = stand; named = named r.script.topology (world r) stand; touched = touched r.script.topology (world r) stand }

pub checked_now : {r v : Run} {request : Request} {checked : Checked} → r ≡ v → IsSpanned r request checked
    → IsChecked v.script.topology (world v) request checked
checked_now {request} {checked} same spans =
    subst (λ (w : Run). IsChecked w.script.topology (world w) request checked) same
    (record { old = spans.stand.old; new = spans.stand.new; named = spans.named; touched = spans.touched })

pub states_now : {r : Run} {request : Request} {checked : Checked} → IsSpanned r request checked → HasStates checked
states_now {r} {request} {checked} spans = all_states checked spans.stand spans.touched

-- Decisions

-- a client that takes locks for a request
record TakesSome (r : Run) (client : ℕ) : Type 0 where
  request : Request
  taking : is_taking (doing_at (machine r) client) ≡ true
  at : request_at r.script (machine r) client ≡ Some request
  number : IsClient client

takes_some : (r : Run) (client : ℕ) (test : Request → Bool) → IsWellFormed r.script → IsTakingAt r.script (machine r) client test
    → TakesSome r client
takes_some r client test formed g = record {
  request = g.request;
  taking = g.taking;
  at = g.stands;
  number = is_client client formed (client_there r.script (machine r) client (command.Atomic g.request)
      (request-is (command_at r.script (machine r) client) g.request g.stands));
}

may_of : (r : Run) (step : Step) → legal r.script (machine r) step ≡ true → (not (machine r).stalled && may r.script (machine r) step)
    ≡ legal r.script (machine r) step → may r.script (machine r) step ≡ true
may_of r step is same = (and_parts (not (machine r).stalled) (may r.script (machine r) step) (same ∙ is)).1

pub may_refuse_now : (v : Run) (client : ℕ) → IsLegal v (step.Refuse client) → may v.script (machine v) (step.Refuse client) ≡ true
unfolding legal
may_refuse_now v client is = may_of v (step.Refuse client) is refl

pub may_swap_now : (v : Run) (client : ℕ) → IsLegal v (step.Swap client) → may v.script (machine v) (step.Swap client) ≡ true
unfolding legal
may_swap_now v client is = may_of v (step.Swap client) is refl

pub refuse_taken : (v : Run) (client : ℕ) → IsLegal v (step.Refuse client) → None ≡ request_taken v.script (machine v) client → ⊥
refuse_taken v client is none = false≢true (no_refuse v.script (machine v) client none ∙ may_refuse_now v client is)

pub swap_taken : (v : Run) (client : ℕ) → IsLegal v (step.Swap client) → None ≡ request_taken v.script (machine v) client → ⊥
swap_taken v client is none = false≢true (no_swap v.script (machine v) client none ∙ may_swap_now v client is)

pub decides_test : (v : Run) (client : ℕ) → IsWellFormed v.script → IsLegal v (step.Test client)
    → Decides v client (step.Test client) reply.Tested
unfolding next
decides_test v client formed is =
    let takes = takes_some v client (may_test v.script.topology (machine v) client) formed
    (legal_guards v.script (machine v) (step.Test client) is) in
    record { number = takes.number; taking = takes.taking; legal = is; does = refl }

pub decides_refuse : (v : Run) (client : ℕ) {request : Request} {given : Reply} → IsWellFormed v.script → IsLegal v (step.Refuse client)
    → Some request ≡ request_taken v.script (machine v) client
    → given ≡ refusal_reply v.script.topology (machine v) client request (verdict v.script.topology (world v) request)
    → Decides v client (step.Refuse client) given
unfolding next refused
decides_refuse v client {request} formed is taken told =
    let takes = takes_some v client (may_refuse v.script.topology (machine v) client) formed
    (legal_guards v.script (machine v) (step.Refuse client) is) in
    let mine = taken_parts v.script (machine v) client taken in
    record {
      number = takes.number;
      taking = takes.taking;
      legal = is;
      does = rw mine.at (ap (decided (machine v) client) (sym told));
    }

-- what a swap that is legal finds
swap_parts : (v : Run) {client : ℕ} {request : Request} → IsLegal v (step.Swap client) → Takes v.script (machine v) client request
    → IsSwapping v.script.topology (machine v) client request
swap_parts v {client} {request} is takes = swap_guards v.script.topology (machine v) client request
    (taking_passes v.script (machine v) client (may_swap v.script.topology (machine v) client)
    (legal_guards v.script (machine v) (step.Swap client) is) request takes.at)

pub swap_early_none : (v : Run) (client : ℕ) {request : Request} → IsLegal v (step.Swap client) → Some request
    ≡ request_taken v.script (machine v) client → early_in v.script.topology (world v) request ≡ None
unfolding verdict
swap_early_none v client {request} is taken = (or_else-none (early_in v.script.topology (world v) request)
    (late_in v.script.topology (world v) request)
    (swap_parts v is (taken_parts v.script (machine v) client taken)).accepted).first_none

pub commits_now : (v : Run) (client : ℕ) {request : Request} {checked : Checked} {resolved : Resolved} → IsWellFormed v.script
    → IsLegal v (step.Swap client) → Some request ≡ request_taken v.script (machine v) client
    → IsChecked v.script.topology (world v) request checked → HasStates checked
    → IsResolved v.script.topology (look_up (world v)) request resolved → MayCommit v client checked resolved
commits_now v client {request} formed is taken as_checked states asks =
    let takes = taken_parts v.script (machine v) client taken in
    let swap = swap_parts v is takes in
    record {
      ready = record {
        request = request;
        number = is_client client formed
            (client_there v.script (machine v) client (command.Atomic request) (request-is (command_at v.script (machine v) client)
            request takes.at));
        taking = takes.taking;
        at = takes.at;
        going = legal-going v.script (machine v) (step.Swap client) is;
        none = swap.accepted;
        held = swap.held;
        checked_as = as_checked;
        flags_are = asks.flags;
        no_test = swap.no_test;
      };
      states = states;
      asks = asks;
      legal = is;
    }

-- What a request that is accepted asks for

tells_found : (v : Run) (request : Request) {found : List (ℕ × Look)} → found ≡ lookups (world v) request
    → TellsLabels (look_in found) (look_up (world v)) request.assigns
tells_found v request is = subst (λ (l : List (ℕ × Look)). TellsLabels (look_in l) (look_up (world v)) request.assigns) (sym is)
    (world_tells (world v) request)

pub resolved_now : {s : Script} (v : Run) (request : Request) {found : List (ℕ × Look)} (resolved : Resolved) → s ≡ v.script
    → found ≡ lookups (world v) request
    → ((f : ℕ → Look) → TellsLabels (look_in found) f request.assigns → IsResolved s.topology f request resolved)
    → IsResolved v.script.topology (look_up (world v)) request resolved
resolved_now v request {found} resolved same is by =
    subst (λ (u : Script). IsResolved u.topology (look_up (world v)) request resolved) same
    (by (look_up (world v)) (tells_found v request is))

pub resolved_never : {s : Script} (v : Run) (request : Request) {found : List (ℕ × Look)} (why : Refusal) {error : RequestError}
    → s ≡ v.script
    → found ≡ lookups (world v) request → early_in v.script.topology (world v) request ≡ None → error ≡ Of why
    → ((f : ℕ → Look) → TellsLabels (look_in found) f request.assigns → ComesFrom (early_refusal s.topology f request) error) → ⊥
resolved_never {s} v request {found} why same is none of by =
    let here : ComesFrom (early_refusal s.topology (look_up (world v)) request) (Of why) =
    subst (λ (e : RequestError). ComesFrom (early_refusal s.topology (look_up (world v)) request) e) of
    (by (look_up (world v)) (tells_found v request is)) in
    let due : early_in v.script.topology (world v) request ≡ Some why.0 =
    subst (λ (u : Script). early_refusal u.topology (look_up (world v)) request ≡ Some why.0) same here in
    false≢true (ap (λ (n : Option ℕ). is_some n) (sym none ∙ due))
