-- The request for which a client takes locks, and which steps may follow.
use Rattle.std.proofs.Common.{◌≡◌, ℕ, Bool, true, false, length, Option, Some, None, inl, inr, refl, sym, ap, ◌∙◌, arith}
use Rattle.std.specs.Prelude.{◌&&◌}
use Rattle.std.proofs.lemmas.Bool.{ltb-true}
use Rattle.kms_model.specs.declared.objects.Kind.{Kind}
use Rattle.kms_model.specs.declared.objects.Kind.TheVariants.{Crtc, Plane, Conn, Enc}
use Rattle.kms_model.specs.declared.objects.Topology.{Topology}
use Rattle.kms_model.specs.declared.replies.Step.TheVariants as step
use Rattle.kms_model.specs.declared.scripts.Command.{Command}
use Rattle.kms_model.specs.declared.scripts.Command.TheVariants as command
use Rattle.kms_model.specs.declared.scripts.Request.{Request}
use Rattle.kms_model.specs.declared.scripts.Script.{Script}
use Rattle.kms_model.specs.Device.Objects.{exists, object_id}
use Rattle.kms_model.specs.Machine.State.{Machine, command_at, doing_at, holder_at, request_at, request_in}
use Rattle.kms_model.specs.Machine.Steps.{is_free_or_older, is_lockable, is_taking, may, may_lock, taking_at, ticket_of}
use Rattle.kms_model.specs.Request.Reach.{reaches}
use Rattle.kms_model.proofs.TouchedLemmas.{HasFewObjects}
use Rattle.kms_wwlock.specs.Standing.{IsClient}
use Rattle.kms_laws.proofs.Steps.{request-is}
use Rattle.kms_core.specs.Calls.{only_if}
use Rattle.kms_wwlock.specs.Objects.{IsLockable}
use Rattle.kms_model.specs.declared.objects.ObjId.{ObjId}
use Rattle.kms_core.specs.Judging.{request_taken}
use Rattle.kms_core.specs.Next.{IsOutside}
use Rattle.kms_core.specs.Run.{Run, machine}
use Rattle.kms_core.specs.Stands.{Stores, Stands}
use Rattle.kms_core.proofs.Places.{client_there, is_client}

-- What may follow

pub record Takes (s : Script) (m : Machine) (client : ℕ) (request : Request) : Type 0 where
  pub taking : is_taking (doing_at m client) ≡ true
  pub at : request_at s m client ≡ Some request

pub taken_parts : (s : Script) (m : Machine) (client : ℕ) {request : Request} → Some request ≡ request_taken s m client
    → Takes s m client request
taken_parts s m client {request} is = by (is_taking (doing_at m client)) refl is where
  by : (b : Bool) → is_taking (doing_at m client) ≡ b → Some request ≡ only_if b (request_at s m client) → Takes s m client request
  by true taking is = record { taking = taking; at = sym is }
  by false taking is = absurd cc

pub outside_request : (s : Script) (m : Machine) (client : ℕ) → IsOutside s client → None ≡ request_taken s m client
outside_request s m client away = by (is_taking (doing_at m client)) (command_at s m client) refl where
  by : (b : Bool) (o : Option Command) → command_at s m client ≡ o → None ≡ only_if b (request_in o)
  by false o at = refl
  by true None at = refl
  by true (Some c) at = absurd (away (client_there s m client c at))

pub taking-is : {s : Script} {m : Machine} {client : ℕ} (test : Request → Bool) {request : Request} → Takes s m client request
    → taking_at s m client test ≡ test request
taking-is test takes = rw (takes.taking, takes.at) refl

pub taking-none : (s : Script) (m : Machine) (client : ℕ) (test : Request → Bool) → None ≡ request_taken s m client
    → taking_at s m client test ≡ false
taking-none s m client test is = by (is_taking (doing_at m client)) refl is where
  at : (o : Option Request) → request_at s m client ≡ o → None ≡ o → is_taking (doing_at m client) ≡ true → taking_at s m client test
      ≡ false
  at None none is taking = rw (taking, none) refl
  at (Some q) some is taking = absurd cc

  by : (b : Bool) → is_taking (doing_at m client) ≡ b → None ≡ only_if b (request_at s m client) → taking_at s m client test ≡ false
  by false off is = rw off refl
  by true on is = at (request_at s m client) refl is on

-- Locks

pub no_lock : (s : Script) (m : Machine) (client : ℕ) (k : Kind) (index : ℕ) → None ≡ request_taken s m client → false
    ≡ may s m (step.Lock client k index)
unfolding may may_lock
no_lock s m client k index is = rw (taking-none s m client (λ r. reaches s.topology m.device.world r (object_id k index)) is)
    (sym (second_none (is_lockable s.topology k index))) where
      second_none : (b : Bool) → (b && false) ≡ false
      second_none true = refl
      second_none false = refl

pub not_lockable : (s : Script) (m : Machine) (client : ℕ) (k : Kind) (index : ℕ) → is_lockable s.topology k index ≡ false → false
    ≡ may s m (step.Lock client k index)
unfolding may
not_lockable s m client k index off = rw off refl

pub lock_is : (s : Script) (m : Machine) (client : ℕ) (k : Kind) (index : ℕ) (request : Request) (reached free : Bool)
    → Takes s m client request → is_lockable s.topology k index ≡ true
    → reached ≡ reaches s.topology m.device.world request (object_id k index) → free
    ≡ is_free_or_older m (ticket_of (doing_at m client)) (holder_at m (object_id k index))
    → (reached && free) ≡ may s m (step.Lock client k index)
unfolding may may_lock
lock_is s m client k index request reached free takes on reached_is free_is =
    rw (on, reached_is, free_is) (ap (λ b. b && is_free_or_older m (ticket_of (doing_at m client)) (holder_at m (object_id k index)))
    (sym (taking-is (λ r. reaches s.topology m.device.world r (object_id k index)) takes)))

-- an object that has a lock is on the device, and is one of the largest device
pub lockable_exists : (t : Topology) (k : Kind) (index : ℕ) → is_lockable t k index ≡ true → exists t k index ≡ true
lockable_exists t Crtc index on = on
lockable_exists t Plane index on = on
lockable_exists t Conn index on = on
lockable_exists t Enc index on = absurd cc

pub lockable_of : {t : Topology} (k : Kind) (index : ℕ) (id : ObjId) → HasFewObjects t → id.0 ≡ object_id k index → is_lockable t k index
    ≡ true → IsLockable id
lockable_of {t} Crtc index id few is on = let lt = ltb-true index t.crtcs on in inl (omega (arith, is), omega (arith, is, lt, few.crtcs))
lockable_of {t} Plane index id few is on = let lt = ltb-true index (length t.planes) on
    in inr (inl (omega (arith, is), omega (arith, is, lt, few.planes)))
lockable_of {t} Conn index id few is on = let lt = ltb-true index (length t.conns) on
    in inr (inr (omega (arith, is), omega (arith, is, lt, few.conns)))
lockable_of Enc index id few is on = absurd cc

-- As calls find it

pub taker_number : {r v : Run} {st : Stores} (client : ℕ) {request : Request} → Stands r st → r ≡ v → Some request
    ≡ request_taken v.script (machine v) client → IsClient client
taker_number {r} client {request} stands same is =
    let takes = taken_parts r.script (machine r) client
    (is ∙ ap (λ (w : Run). request_taken w.script (machine w) client) (sym same)) in
    is_client client stands.formed (client_there r.script (machine r) client (command.Atomic request)
    (request-is (command_at r.script (machine r) client) request takes.at))

pub lock_found : (r v : Run) (client : ℕ) (k : Kind) (index : ℕ) (request : Request) (reached free : Bool) (id : ObjId) → r ≡ v
    → Some request ≡ request_taken v.script (machine v) client
    → is_lockable r.script.topology k index ≡ true → reached
    ≡ reaches r.script.topology (machine r).device.world request (object_id k index) → id.0 ≡ object_id k index
    → free ≡ is_free_or_older (machine r) (ticket_of (doing_at (machine r) client)) (holder_at (machine r) id.0) → (reached && free)
    ≡ may v.script (machine v) (step.Lock client k index)
lock_found r v client k index request reached free id same is on reached_is id_is free_is =
    let takes = taken_parts r.script (machine r) client
    (is ∙ ap (λ (w : Run). request_taken w.script (machine w) client) (sym same)) in
    lock_is r.script (machine r) client k index request reached free takes on reached_is
    (free_is ∙ ap (λ o. is_free_or_older (machine r) (ticket_of (doing_at (machine r) client)) (holder_at (machine r) o)) id_is)
    ∙ ap (λ (w : Run). may w.script (machine w) (step.Lock client k index)) same

-- it is not reached
pub lock_apart : {r v : Run} (client : ℕ) (k : Kind) (index : ℕ) {request : Request} {reached : Bool} → r ≡ v → Some request
    ≡ request_taken v.script (machine v) client → is_lockable r.script.topology k index ≡ true
    → reached ≡ reaches r.script.topology (machine r).device.world request (object_id k index) → reached ≡ false → reached
    ≡ may v.script (machine v) (step.Lock client k index)
lock_apart {r} {v} client k index {request} {reached} same is on reached_is out =
    let free : Bool = is_free_or_older (machine r) (ticket_of (doing_at (machine r) client)) (holder_at (machine r) (object_id k index)) in
    out ∙ ap (λ b. b && free) (sym out) ∙ lock_found r v client k index request reached free (record { 0 = object_id k index }) same is on
    reached_is refl refl
