-- What is duplicated of a request that a check refuses or accepts: all that it touches.
use Rattle.std.proofs.Common.{◌≡◌, ◌∙◌, ℕ, ◌+◌, ◌-◌, ◌<◌, ◌≤◌, true, false, ◌++◌, List, Option, Some, None, inl, inr, arith, refl, sym, ap}
use Rattle.std.specs.Prelude.{◌&&◌, is_some, nat_lt, slice_get, slice_index_or}
use Rattle.std.specs.Option.{option_flatten}
use Rattle.std.proofs.lemmas.Bool.{and_parts, le-ltb, lt-ltb}
use Rattle.std.proofs.lemmas.Option.{get_or_from_slice_get}
use Rattle.kms_model.specs.Device.Places.{state_at}
use Rattle.kms_model.specs.declared.objects.Kind.{Kind}
use Rattle.kms_model.specs.declared.objects.Kind.TheVariants as kind
use Rattle.kms_model.specs.declared.objects.Topology.{Topology}
use Rattle.kms_model.specs.declared.scripts.Request.{Request}
use Rattle.kms_model.specs.declared.sets.Resolved.{Resolved}
use Rattle.kms_model.specs.declared.states.Checked.{Checked}
use Rattle.kms_model.specs.declared.states.Duplicates.{Duplicates}
use Rattle.kms_model.specs.declared.states.Mask.{Mask}
use Rattle.kms_model.specs.declared.worlds.Look.{Look}
use Rattle.kms_model.specs.declared.worlds.World.{World}
use Rattle.kms_model.specs.Device.Masks.{has_bit}
use Rattle.kms_model.specs.Device.Objects.{count_of, ids_of, kind_of, object_id}
use Rattle.kms_model.specs.Device.Sound.{IsDevice}
use Rattle.kms_model.specs.Machine.Commits.{lockable}
use Rattle.kms_model.specs.Request.Apply.{after}
use Rattle.kms_model.specs.Request.Deciding.{IsOfRequest}
use Rattle.kms_model.specs.Request.Touched.{touched_by, touches, touches_crtc, touches_of_kind, touches_routed}
use Rattle.kms_model.proofs.Items.{IsIn, IsObject, ids-in}
use Rattle.kms_model.proofs.KindsOfIds.{kind_of-object}
use Rattle.kms_model.proofs.MaskLemmas.{has_bit-below}
use Rattle.kms_model.proofs.TouchedLemmas.{few_objects, few_of}
use Rattle.kms_laws.proofs.Basics.{in_either}
use Rattle.kms_state.specs.Places.{is_duplicated}
use Rattle.kms_state.proofs.Slots.{same_duplicated}
use Rattle.kms_track.specs.InStep.{HasStates, is_of_device}
use Rattle.kms_track.specs.Places.{mask_has, object_at_place}
use Rattle.kms_track.proofs.CheckedLemmas.{in_touched}
use Rattle.kms_track.proofs.There.{on_place, place_lockable}
use Rattle.kms_check.specs.Lacking.{first_lacking}
use Rattle.kms_check.proofs.Covered.{touched_covered}
use Rattle.kms_check.proofs.Readiness.{HasRoom, IsCovered, is_duplicated-object, is_kind_duplicated}
use Rattle.kms_check.specs.Moves.{AcceptedAs}

-- an object of a kind that a request touches is duplicated, where what it touches is covered
kind_covered : {t : Topology} (w : World) (r : Request) {d : Duplicates} (k : Kind) (i : ℕ) → IsDevice t → HasRoom d
    → IsCovered d (touched_by t w r) → i < count_of t k → touches_of_kind k t w r (object_id k i) ≡ true → is_kind_duplicated k d i ≡ true
kind_covered {t} w r kind.Crtc i device room covers within touched =
    let few = few_objects t device in
    covers.crtcs i (omega (arith, within, room.crtcs, few.crtcs))
    (has_bit-below (λ j. touches_crtc w.values (after w r) r.assigns (object_id kind.Crtc j)) (count_of t kind.Crtc) i within ∙ touched)
kind_covered {t} w r kind.Plane i device room covers within touched =
    let few = few_objects t device in
    covers.planes i (omega (arith, within, room.planes, few.planes))
    (has_bit-below (λ j. touches_routed t w.things w.values (after w r) r.assigns (object_id kind.Plane j)) (count_of t kind.Plane) i
    within ∙ touched)
kind_covered {t} w r kind.Conn i device room covers within touched =
    let few = few_objects t device in
    covers.conns i (omega (arith, within, room.conns, few.conns))
    (has_bit-below (λ j. touches_routed t w.things w.values (after w r) r.assigns (object_id kind.Conn j)) (count_of t kind.Conn) i
    within ∙ touched)
kind_covered w r kind.Enc i device room covers within touched = absurd cc

object_covered : {t : Topology} (w : World) (r : Request) {d : Duplicates} (k : Kind) (object : ℕ) → IsDevice t → HasRoom d
    → IsCovered d (touched_by t w r) → IsIn object (ids_of t k) → touches t w r object ≡ true → is_duplicated d object ≡ true
unfolding touches
object_covered {t} w r {d} k object device room covers is touched =
    let o : IsObject t k object = ids-in t k object is in
    let few : count_of t k ≤ 16 = few_of t k (few_objects t device) in
    let small : o.index < 16 = omega (arith, few, o.within) in
    let at : touches_of_kind k t w r (object_id k o.index) ≡ true =
    ap (λ j. touches_of_kind j t w r (object_id k o.index)) (sym (kind_of-object k o.index (omega (arith, small)))) ∙ ap
    (λ n. touches_of_kind (kind_of n) t w r n) (sym o.same) ∙ touched in
    ap (is_duplicated d) o.same ∙ is_duplicated-object k d o.index small ∙ kind_covered w r k o.index device room covers o.within at

-- where nothing is lacking, each object of the device that a request touches is duplicated
pub all-duplicated : {t : Topology} (w : World) (r : Request) {d : Duplicates} → IsDevice t → HasRoom d → first_lacking t w r d ≡ None
    → (object : ℕ) → IsIn object (lockable t) → touches t w r object ≡ true → is_duplicated d object ≡ true
all-duplicated {t} w r {d} device room none object is touched =
    let covers : IsCovered d (touched_by t w r) = touched_covered t w r d d room refl none in
    elim (in_either (ids_of t kind.Crtc) (ids_of t kind.Plane ++ ids_of t kind.Conn) object is) [
      | inl crtc ↦ object_covered w r kind.Crtc object device room covers crtc touched
      | inr other ↦ elim (in_either (ids_of t kind.Plane) (ids_of t kind.Conn) object other) [
        | inl plane ↦ object_covered w r kind.Plane object device room covers plane touched
        | inr conn ↦ object_covered w r kind.Conn object device room covers conn touched
      ]
    ]

-- What was checked

-- what an accepted request touches has both states, and was duplicated
pub record HasAll (d : Duplicates) (checked : Checked) : Type 0 where
  pub states : HasStates checked
  pub given : (p : ℕ) → p < 28 → mask_has checked.touched p ≡ true → is_duplicated d (object_at_place p) ≡ true

some_there : {S : Type 0} (states : List (Option S)) (i : ℕ) → is_some (option_flatten (slice_get states i)) ≡ true
    → is_some (slice_index_or states i None) ≡ true
some_there {S} states i there = go (slice_get states i) refl there
  where
    go : (slot : Option (Option S)) → slice_get states i ≡ slot → is_some (option_flatten slot) ≡ true
        → is_some (slice_index_or states i None) ≡ true
    go None is e = absurd cc
    go (Some None) is e = absurd cc
    go (Some (Some s)) is e = ap is_some (get_or_from_slice_get states i (Some s) None is)

module _ (t : Topology) (r : Request) (used : List (ℕ × Look)) (d : Duplicates) (checked : Checked) (resolved : Resolved) (w : World)
    (accepted : AcceptedAs t r used d checked resolved) (is : IsOfRequest t w r resolved d) where
  given_at : (p : ℕ) → p < 28 → mask_has checked.touched p ≡ true → is_duplicated d (object_at_place p) ≡ true
  given_at p place has =
      let here : (is_of_device t (object_at_place p) && touches t w r (object_at_place p))
      ≡ true = in_touched t w r p place ∙ ap (λ (m : Mask). mask_has m p) (sym (accepted.gives w is).touched) ∙ has in
      let both = and_parts (is_of_device t (object_at_place p)) (touches t w r (object_at_place p)) here in
      accepted.covers w is (object_at_place p) (place_lockable t p place (sym (on_place t p place) ∙ both.0)) both.1

  -- a state that was given is among those that were checked
  kept_at : (k : Kind) (i : ℕ) → i < 16 → is_duplicated d (object_id k i) ≡ true → is_kind_duplicated k checked.states i ≡ true
  kept_at k i few there = sym (is_duplicated-object k checked.states i few) ∙ same_duplicated d checked.states (object_id k i) accepted.kept
      ∙ there

  crtc_covered : (i : ℕ) → i < 4 → has_bit checked.touched.crtcs i ≡ true → is_some (state_at checked.states.crtcs i) ≡ true
  crtc_covered i few has =
      let first : nat_lt i 4 ≡ true = lt-ltb i 4 few in
      kept_at kind.Crtc i (omega (arith, few)) (rw first at (given_at i (omega (arith, few)) (rw first has)))

  plane_covered : (i : ℕ) → i < 16 → has_bit checked.touched.planes i ≡ true → is_some (state_at checked.states.planes i) ≡ true
  plane_covered i few has =
      let index : (4 + i) - 4 ≡ i = omega arith in
      let past : nat_lt (4 + i) 4 ≡ false = le-ltb (4 + i) 4 (omega arith) in
      let first : nat_lt (4 + i) 20 ≡ true = lt-ltb (4 + i) 20 (omega (arith, few)) in
      kept_at kind.Plane i few (rw (past, first, index) at (given_at (4 + i) (omega (arith, few)) (rw (past, first, index) has)))

  conn_covered : (i : ℕ) → i < 8 → has_bit checked.touched.conns i ≡ true → is_some (state_at checked.states.conns i) ≡ true
  conn_covered i few has =
      let index : (20 + i) - 20 ≡ i = omega arith in
      let past : nat_lt (20 + i) 4 ≡ false = le-ltb (20 + i) 4 (omega arith) in
      let beyond : nat_lt (20 + i) 20 ≡ false = le-ltb (20 + i) 20 (omega arith) in
      kept_at kind.Conn i (omega (arith, few)) (rw (past, beyond, index) at
      (given_at (20 + i) (omega (arith, few)) (rw (past, beyond, index) has)))

  pub accepted-states : HasAll d checked
  accepted-states = record {
    states = record {
      crtcs = λ i few has. some_there checked.states.crtcs i (crtc_covered i few has);
      planes = λ i few has. some_there checked.states.planes i (plane_covered i few has);
      conns = λ i few has. some_there checked.states.conns i (conn_covered i few has);
    };
    given = given_at;
  }
