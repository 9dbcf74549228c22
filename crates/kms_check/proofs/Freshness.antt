-- Duplicates to which present states are added: each new state stays the old one.
use Rattle.std.proofs.Common.{◌≡◌, ℕ, zero, suc, ◌-◌, ◌<◌, List, length, set, replicate, Some, None, slice_get, inl, inr, arith, sym}
use Rattle.std.proofs.Common.{ap, ◌∙◌}
use Rattle.std.specs.Prelude.{Option}
use Rattle.std.proofs.Math.ListN.{length-set}
use Rattle.std.proofs.lemmas.Bool.{cases_eq}
use Rattle.std.proofs.lemmas.Option.{same_Some, slice_get_within}
use Rattle.kms_model.specs.Device.Places.{alike}
use Rattle.kms_model.specs.declared.objects.Kind.TheVariants.{Crtc, Plane, Conn}
use Rattle.kms_model.specs.declared.states.Both.{Both}
use Rattle.kms_model.specs.declared.states.Duplicates.{Duplicates}
use Rattle.kms_model.specs.declared.states.ObjState.{ObjState}
use Rattle.kms_model.specs.declared.states.ObjState.TheVariants as state
use Rattle.kms_model.specs.Device.Objects.{first_id}
use Rattle.kms_model.specs.Request.Deciding.{AreFresh, AreFreshIn}
use Rattle.kms_state.specs.Places.{duplicated, none_duplicated}
use Rattle.kms_state.proofs.Slots.{slice_get-set_other, slice_get-set_same}
use Rattle.kms_check.proofs.Readiness.{HasRoom}

-- a state that is the same before and after is put in
set_fresh : {S : Type 0} (states : List (Option (Both S))) (i : ℕ) (s : S) → AreFreshIn states → AreFreshIn (set states i (Some (alike s)))
set_fresh {S} states i s fresh index both at = elim (cases_eq index i) [
  | inl same ↦ (
      let within : index < length (set states i (Some (alike s))) = slice_get_within (set states i (Some (alike s))) index (Some both) at in
      let inside : i < length states = omega (arith, within, length-set states i (Some (alike s)), same) in
      let there : Some (Some (alike s)) ≡ Some (Some both) = sym (slice_get-set_same states i (Some (alike s)) inside) ∙ ap
      (slice_get (set states i (Some (alike s)))) (sym same) ∙ at in
      let is : alike s ≡ both = same_Some (alike s) both (same_Some (Some (alike s)) (Some both) there) in
      sym (ap (λ (b : Both S). b.new) is) ∙ ap (λ (b : Both S). b.old) is)
  | inr other ↦ fresh index both (sym (slice_get-set_other states i index (Some (alike s)) other) ∙ at)
]

-- fresh duplicates are fresh after one more state is duplicated
pub fresh-duplicated : (d : Duplicates) (id : ℕ) (s : ObjState) → AreFresh d → AreFresh (duplicated d id s)
fresh-duplicated d id (state.Crtc s) fresh = record {
  crtcs = set_fresh d.crtcs (id - first_id Crtc) s fresh.crtcs;
  planes = fresh.planes;
  conns = fresh.conns;
}
fresh-duplicated d id (state.Plane s) fresh = record {
  crtcs = fresh.crtcs;
  planes = set_fresh d.planes (id - first_id Plane) s
      fresh.planes;
  conns = fresh.conns;
}
fresh-duplicated d id (state.Conn s) fresh = record {
  crtcs = fresh.crtcs;
  planes = fresh.planes;
  conns = set_fresh d.conns
      (id - first_id Conn) s fresh.conns;
}

none_fresh : {S : Type 0} (n : ℕ) → AreFreshIn {S = S} (replicate n None)
none_fresh zero index both at = absurd cc
none_fresh (suc n) zero both at = absurd cc
none_fresh {S} (suc n) (suc index) both at = none_fresh {S = S} n index both at

-- no duplicates are fresh
pub fresh-none : AreFresh none_duplicated
fresh-none = record { crtcs = none_fresh 4; planes = none_fresh 16; conns = none_fresh 8 }

-- the places stay
pub room-duplicated : (d : Duplicates) (id : ℕ) (s : ObjState) → HasRoom d → HasRoom (duplicated d id s)
room-duplicated d id (state.Crtc s) room = record {
  crtcs = length-set d.crtcs (id - first_id Crtc) (Some (alike s)) ∙ room.crtcs;
  planes =
      room.planes;
  conns = room.conns;
}
room-duplicated d id (state.Plane s) room = record {
  crtcs = room.crtcs;
  planes = length-set d.planes (id - first_id Plane) (Some (alike s))
      ∙ room.planes;
  conns = room.conns;
}
room-duplicated d id (state.Conn s) room = record {
  crtcs = room.crtcs;
  planes = room.planes;
  conns = length-set d.conns
      (id - first_id Conn) (Some (alike s)) ∙ room.conns;
}
