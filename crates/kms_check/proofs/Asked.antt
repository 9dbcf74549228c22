-- What holds of an object that is asked for: the request touches it, it has a lock, and it is not duplicated.
use Rattle.std.proofs.Common.{◌≡◌, ◌≢◌, ◌∙◌, ℕ, ◌-◌, ◌<◌, ◌≤◌, true, false, ◌++◌, Option, Some, None, inl, inr, arith, refl, sym, ap, subst}
use Rattle.std.specs.Prelude.{is_none, is_some}
use Rattle.std.specs.Option.{option_and_then}
use Rattle.std.proofs.lemmas.Bool.{cases_lt, le-ltb, lt-ltb}
use Rattle.kms_model.specs.declared.objects.Kind.{Kind}
use Rattle.kms_model.specs.declared.objects.Kind.TheVariants as kind
use Rattle.kms_model.specs.declared.objects.Topology.{Topology}
use Rattle.kms_model.specs.declared.scripts.Request.{Request}
use Rattle.kms_model.specs.declared.states.Duplicates.{Duplicates}
use Rattle.kms_model.specs.declared.states.Mask.{Mask}
use Rattle.kms_model.specs.declared.worlds.World.{World}
use Rattle.kms_model.specs.Device.Masks.{has_bit}
use Rattle.kms_model.specs.Device.Objects.{count_of, first_id, ids_of, index_of, kind_of, object_id}
use Rattle.kms_model.specs.Device.Sound.{IsDevice}
use Rattle.kms_model.specs.Machine.Commits.{lockable}
use Rattle.kms_model.specs.Machine.Steps.{is_lockable}
use Rattle.kms_model.specs.Request.Touched.{touches, touches_of_kind}
use Rattle.kms_model.proofs.Items.{IsIn, ids-has}
use Rattle.kms_model.proofs.KindsOfIds.{index_of-object, kind_of-object}
use Rattle.kms_model.proofs.TouchedLemmas.{few_objects, few_of}
use Rattle.kms_state.specs.Places.{is_duplicated}
use Rattle.kms_track.specs.Places.{mask_has, object_at_place}
use Rattle.kms_track.proofs.There.{in_left, in_right}
use Rattle.kms_check.specs.Lacking.{first_lacking}
use Rattle.kms_check.proofs.Readiness.{is_duplicated-object, is_kind_duplicated}
use Rattle.kms_check.specs.Moves.{least_lacking, least_of}
use Rattle.kms_check.proofs.Masks.{HasLeast, IsLacking, first_lacking-is, least-member, missing}

-- an object that a request touches has a lock, and is not duplicated
pub record IsAsked (t : Topology) (w : World) (r : Request) (d : Duplicates) (id : ℕ) : Type 0 where
  pub touched : touches t w r id ≡ true
  pub is_id : first_id (kind_of id) ≤ id
  pub can_lock : is_lockable t (kind_of id) (index_of id) ≡ true
  pub is_in : IsIn id (lockable t)
  pub absent : is_duplicated d id ≡ false

none_not_some : {A : Type 0} (o : Option A) → is_none o ≡ true → is_some o ≡ false
none_not_some None none = refl
none_not_some (Some x) none = absurd cc

lockable_kind : (t : Topology) (k : Kind) (i : ℕ) → k ≢ kind.Enc → i < count_of t k → is_lockable t k i ≡ true
lockable_kind t kind.Crtc i routed within = lt-ltb i (count_of t kind.Crtc) within
lockable_kind t kind.Plane i routed within = lt-ltb i (count_of t kind.Plane) within
lockable_kind t kind.Conn i routed within = lt-ltb i (count_of t kind.Conn) within
lockable_kind t kind.Enc i routed within = absurd (routed refl)

lockable_in : (t : Topology) (k : Kind) (i : ℕ) → k ≢ kind.Enc → i < count_of t k → IsIn (object_id k i) (lockable t)
lockable_in t kind.Crtc i routed within = in_left (ids_of t kind.Crtc) (ids_of t kind.Plane ++ ids_of t kind.Conn) _
    (ids-has t kind.Crtc i within)
lockable_in t kind.Plane i routed within = in_right (ids_of t kind.Crtc) (ids_of t kind.Plane ++ ids_of t kind.Conn) _
    (in_left (ids_of t kind.Plane) (ids_of t kind.Conn) _ (ids-has t kind.Plane i within))
lockable_in t kind.Conn i routed within = in_right (ids_of t kind.Crtc) (ids_of t kind.Plane ++ ids_of t kind.Conn) _
    (in_right (ids_of t kind.Plane) (ids_of t kind.Conn) _ (ids-has t kind.Conn i within))
lockable_in t kind.Enc i routed within = absurd (routed refl)

-- the object of a kind with an index
asked_object : {t : Topology} (w : World) (r : Request) (d : Duplicates) (k : Kind) (i : ℕ) → IsDevice t → k ≢ kind.Enc → (i < count_of t k)
    × (touches_of_kind k t w r (object_id k i) ≡ true) → is_kind_duplicated k d i ≡ false → IsAsked t w r d (object_id k i)
unfolding touches
asked_object {t} w r d k i device routed touched absent =
    let few : count_of t k ≤ 16 = few_of t k (few_objects t device) in
    let small : i < 16 = omega (arith, few, touched.0) in
    let is_kind : kind_of (object_id k i) ≡ k = kind_of-object k i (omega (arith, small)) in
    let is_index : index_of (object_id k i) ≡ i = index_of-object k i (omega (arith, small)) in
    record {
      touched = ap (λ j. touches_of_kind j t w r (object_id k i)) is_kind ∙ touched.1;
      is_id = subst (λ j. first_id j ≤ object_id k i) (sym is_kind) (omega arith);
      can_lock = ap (λ j. is_lockable t j (index_of (object_id k i))) is_kind ∙ ap (is_lockable t k) is_index ∙ lockable_kind t k i routed
          touched.0;
      is_in = lockable_in t k i routed touched.0;
      absent = is_duplicated-object k d i small ∙ absent;
    }

-- the object at a place of a set that is lacking
asked_at : {t : Topology} {w : World} {r : Request} {d : Duplicates} {m : Mask} (p : ℕ) → IsDevice t → IsLacking t w r d m → p < 28
    → mask_has m p ≡ true → IsAsked t w r d (object_at_place p)
asked_at {t} {w} {r} {d} p device lacks place has =
    elim (cases_lt p 4) [
      | inl crtc ↦ (
          let o = missing lacks.group.crtcs d.crtcs p (ap (λ (x : Mask). has_bit x.crtcs p) (sym lacks.is) ∙ (rw (lt-ltb p 4 crtc) at has))
          in
          rw (lt-ltb p 4 crtc) (asked_object w r d kind.Crtc p device (λ e. cc) (lacks.touched.crtcs p o.0) (none_not_some _ o.1)))
      | inr other ↦ elim (cases_lt p 20) [
        | inl plane ↦ (
            let o = missing lacks.group.planes d.planes (p - 4)
            (ap (λ (x : Mask). has_bit x.planes (p - 4)) (sym lacks.is) ∙ (rw (le-ltb p 4 other, lt-ltb p 20 plane) at has)) in
            rw (le-ltb p 4 other, lt-ltb p 20 plane) (asked_object w r d kind.Plane (p - 4) device (λ e. cc)
            (lacks.touched.planes (p - 4) o.0) (none_not_some _ o.1)))
        | inr conn ↦ (
            let o = missing lacks.group.conns d.conns (p - 20)
            (ap (λ (x : Mask). has_bit x.conns (p - 20)) (sym lacks.is) ∙ (rw (le-ltb p 4 other, le-ltb p 20 conn) at has)) in
            rw (le-ltb p 4 other, le-ltb p 20 conn) (asked_object w r d kind.Conn (p - 20) device (λ e. cc)
            (lacks.touched.conns (p - 20) o.0) (none_not_some _ o.1)))
      ]
    ]

-- the least object that is lacking
pub asked-touches : (t : Topology) (w : World) (r : Request) (d : Duplicates) (id : ℕ) → IsDevice t → least_lacking t w r d ≡ Some id
    → IsAsked t w r d id
asked-touches t w r d id device least = go (first_lacking t w r d) refl least
  where
    go : (first : Option Mask) → first_lacking t w r d ≡ first → option_and_then least_of first ≡ Some id → IsAsked t w r d id
    go None is e = absurd cc
    go (Some m) is e =
        let at : HasLeast m id = least-member m id e in
        subst (IsAsked t w r d) (sym at.same) (asked_at at.place device (first_lacking-is t w r d is) at.within at.member)
