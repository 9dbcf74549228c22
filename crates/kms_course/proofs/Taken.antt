-- What a client's context has whose client takes locks, and after the state of an object that it holds was duplicated.
use Rattle.std.proofs.Common.{◌≡◌, ℕ, zero, suc, ◌-◌, Bool, true, false, List, replicate, Some, None, inl, inr, refl, sym, ap, ◌∙◌, subst}
use Rattle.std.specs.Bool.{then_some}
use Rattle.std.specs.Prelude.{◌==◌, ◌&&◌, ◌||◌, is_some, nat_le, if◌then◌else◌}
use Rattle.std.proofs.lemmas.Bool.{and_parts, eqb-true, false≢true, or_cases}
use Rattle.kms_model.specs.Device.Places.{state_at}
use Rattle.kms_model.specs.declared.objects.Kind.{Kind}
use Rattle.kms_model.specs.declared.objects.Kind.TheVariants.{Conn, Crtc, Enc, Plane}
use Rattle.kms_model.specs.declared.objects.ObjId.{ObjId}
use Rattle.kms_model.specs.declared.objects.Ticket.{Ticket}
use Rattle.kms_model.specs.declared.objects.Topology.{Topology}
use Rattle.kms_model.specs.declared.runs.Doing.TheVariants as doing
use Rattle.kms_model.specs.declared.scripts.Request.{Request}
use Rattle.kms_model.specs.declared.states.Duplicates.{Duplicates}
use Rattle.kms_model.specs.declared.states.ObjState.{ObjState}
use Rattle.kms_model.specs.declared.worlds.World.{World}
use Rattle.kms_model.specs.Device.Objects.{first_id, kind_of}
use Rattle.kms_model.specs.Machine.State.{doing_at, holds, request_at}
use Rattle.kms_model.specs.Request.Deciding.{AreFresh}
use Rattle.kms_state.specs.Places.{is_duplicated, is_duplicated_of, none_duplicated, state_of}
use Rattle.kms_state.specs.StandsIn.{Agrees, IsStateOf, KeepsNew, KeepsOld}
use Rattle.kms_core.specs.Locks.{has_lock, held_state, present_state}
use Rattle.kms_core.specs.States.{state_of_kind}
use Rattle.kms_core.specs.Run.{Run, machine}
use Rattle.kms_course.specs.declared.single.contexts.RequestContext.{RequestContext}
use Rattle.kms_course.specs.Taking.{HasTaken, taken_up}

-- Nothing is duplicated at first

none_at : {S : Type 0} (n i : ℕ) → state_at {S = S} (replicate n None) i ≡ None
none_at {S} zero i = refl
none_at {S} (suc n) zero = refl
none_at {S} (suc n) (suc i) = none_at {S = S} n i

never_of : (S : Type 0) (k : Kind) (n id : ℕ) → is_some (state_of {S = S} k (replicate n None) id) ≡ false
never_of S k n id = by (nat_le (first_id k) id) where
  by : (b : Bool) → is_some (if b then state_at {S = S} (replicate n None) (id - first_id k) else None) ≡ false
  by true = ap is_some (none_at {S = S} n (id - first_id k))
  by false = refl

never : (object : ℕ) → is_duplicated none_duplicated object ≡ true → ⊥
never object = of_kind (kind_of object) where
  of_kind : (k : Kind) → is_duplicated_of k none_duplicated object ≡ true → ⊥
  of_kind Crtc is = false≢true (sym (never_of _ Crtc 4 object) ∙ is)
  of_kind Plane is = false≢true (sym (never_of _ Plane 16 object) ∙ is)
  of_kind Conn is = false≢true (sym (never_of _ Conn 8 object) ∙ is)
  of_kind Enc is = false≢true is

-- A context with no states

pub bare_taken : (r : Run) (client : ℕ) (t : Ticket) (request : Request) (states : Duplicates) → request_at r.script (machine r) client
    ≡ Some request → doing_at (machine r) client ≡ doing.Taking t → states ≡ none_duplicated
    → Agrees r.script.topology (machine r).device.world.things (machine r).device.world.values states
    → HasTaken r (record { client = client; ticket = t; request = request; states = states })
bare_taken r client t request states at taking none agrees = record {
  at = at;
  taking = taking;
  agrees = agrees;
  held = λ object there. absurd (never object (ap (λ d. is_duplicated d object) (sym none) ∙ there));
}

-- States of objects that a context holds

is_state : (t : Topology) (w : World) (k : Kind) (object : ℕ) → IsStateOf t w.things w.values object (state_of_kind t w k object)
is_state t w Crtc object = refl
is_state t w Plane object = refl
is_state t w Conn object = refl
is_state t w Enc object = refl

-- what the duplicates are after the state of an object was taken up
pub record IsTakenUp (d : Duplicates) (id : ℕ) (state : ObjState) (n : Duplicates) : Type 0 where
  pub there : (o : ℕ) → is_duplicated n o ≡ ((o == id) || is_duplicated d o)
  pub old : KeepsOld d id state n
  pub new : KeepsNew d id state n

-- an object that is held has its present state
there_of : (b : Bool) (x state : ObjState) → Some state ≡ then_some b x → b ≡ true
there_of true x state is = refl
there_of false x state is = absurd cc

state_is : (b : Bool) (x state : ObjState) → Some state ≡ then_some b x → x ≡ state
state_is true x state is = cc
state_is false x state is = absurd cc

module _ (r : Run) (c : RequestContext) (id : ObjId) where
  abbrev Held : Bool
  Held = has_lock r.script.topology id.0 && holds (machine r) c.client id.0

  module _ (state : ObjState) (is : Some state ≡ held_state r c.client id) where
    held : Held ≡ true
    held = there_of Held (present_state r id) state is

    present : present_state r id ≡ state
    present = state_is Held (present_state r id) state is

    pub with_held : (states : Duplicates) → IsTakenUp c.states id.0 state states → HasTaken r c → HasTaken r (record c { states = states })
    with_held states up takes =
        let own : IsStateOf r.script.topology (machine r).device.world.things (machine r).device.world.values id.0 state =
        subst (IsStateOf r.script.topology (machine r).device.world.things (machine r).device.world.values id.0) present
        (is_state r.script.topology (machine r).device.world (kind_of id.0) id.0) in
        record {
          at = takes.at;
          taking = takes.taking;
          agrees = record {
            old = up.old r.script.topology (machine r).device.world.things (machine r).device.world.values own takes.agrees.old;
            new = up.new r.script.topology (machine r).device.world.things (machine r).device.world.values own takes.agrees.new;
          };
          held = λ o there.
              elim (or_cases (o == id.0) (is_duplicated c.states o) (sym (up.there o) ∙ there)) [
                | inl same ↦ ap (holds (machine r) c.client) (eqb-true o id.0 same) ∙ (and_parts (has_lock r.script.topology id.0) _ held).1
                | inr other ↦ takes.held o other
              ];
        }

-- the states so far are duplicated, and what is left makes the whole
pub record HasTakenUp (r : Run) (begun : RequestContext) (objects : List ObjId) (c : RequestContext) (rest : List ObjId) : Type 0 where
  pub all : taken_up r c rest ≡ taken_up r begun objects
  pub taken : HasTaken r c

-- new and old states are the same
pub fresh : (r : Run) (c : RequestContext) → HasTaken r c → AreFresh c.states
fresh r c takes = record {
  crtcs = λ index both there. takes.agrees.new.crtcs index both there ∙ sym (takes.agrees.old.crtcs index both there);
  planes = λ index both there. takes.agrees.new.planes index both there ∙ sym (takes.agrees.old.planes index both there);
  conns = λ index both there. takes.agrees.new.conns index both there ∙ sym (takes.agrees.old.conns index both there);
}
