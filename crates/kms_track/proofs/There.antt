-- The objects of a device, at their places.
use Rattle.std.proofs.Common.{◌≡◌, ℕ, ◌-◌, ◌<◌, ◌≤◌, List, [], ◌∷◌, ◌++◌, Bool, true, false, inl, inr, arith, refl, ap, ◌∙◌}
use Rattle.std.specs.Prelude.{nat_lt}
use Rattle.std.proofs.lemmas.Bool.{cases_lt, ltb-true}
use borrow.Author.Tests.{le-ltb, lt-ltb}
use Rattle.kms_model.specs.declared.objects.Kind.{Kind}
use Rattle.kms_model.specs.declared.objects.Kind.TheVariants.{Crtc, Plane, Conn}
use Rattle.kms_model.specs.declared.objects.Topology.{Topology}
use Rattle.kms_model.specs.Device.Objects.{count_of, ids_of, index_of, object_id}
use Rattle.kms_model.specs.Machine.Commits.{lockable}
use Rattle.kms_model.proofs.Items.{IsIn, IsObject, ids-has, ids-in}
use Rattle.kms_model.proofs.KindsOfIds.{index_of-object, kind_of-object}
use Rattle.kms_track.specs.InStep.{IsWithinPlaces, is_of_device, is_there}
use Rattle.kms_track.specs.Places.{object_at_place}

-- what holds of an object that is there, and of one that is not
pub where_there : {A : Type 0} (b : Bool) → (b ≡ true → A) → (b ≡ false → A) → A
where_there true there gone = there refl
where_there false there gone = gone refl

-- an object of an index is on the device
pub on_index : (t : Topology) (kind : Kind) (i : ℕ) → i < 100 → is_of_device t (object_id kind i) ≡ nat_lt i (count_of t kind)
on_index t kind i few = ap (λ (k : Kind). nat_lt (index_of (object_id kind i)) (count_of t k)) (kind_of-object kind i few) ∙ ap
    (λ n. nat_lt n (count_of t kind)) (index_of-object kind i few)

pub on_place : (t : Topology) (p : ℕ) → p < 28 → is_of_device t (object_at_place p) ≡ is_there t p
on_place t p place =
    elim (cases_lt p 4) [
      | inl crtc ↦ rw (lt-ltb p 4 crtc) (on_index t Crtc p (omega arith))
      | inr other ↦ elim (cases_lt p 20) [
        | inl plane ↦ rw (le-ltb p 4 other, lt-ltb p 20 plane) (on_index t Plane (p - 4) (omega arith))
        | inr conn ↦ rw (le-ltb p 4 other, le-ltb p 20 conn) (on_index t Conn (p - 20) (omega arith))
      ]
    ]

-- a CRTC of the device is on it, and one beyond is not
pub crtc_on : (t : Topology) (crtc : ℕ) → IsWithinPlaces t → IsIn crtc (ids_of t Crtc) → is_of_device t crtc ≡ true
crtc_on t crtc limits is =
    let o : IsObject t Crtc crtc = ids-in t Crtc crtc is in
    rw o.same (on_index t Crtc o.index (omega (arith, o.within, limits.crtcs)) ∙ lt-ltb o.index (count_of t Crtc) o.within)

pub crtc_off : (t : Topology) (i : ℕ) → count_of t Crtc ≤ i → i < 4 → is_of_device t (object_id Crtc i) ≡ false
crtc_off t i beyond within = on_index t Crtc i (omega arith) ∙ le-ltb i (count_of t Crtc) beyond

pub in_left : (xs ys : List ℕ) (o : ℕ) → IsIn o xs → IsIn o (xs ++ ys)
in_left [] ys o is = absurd is
in_left (x ∷ xs) ys o (inl same) = inl same
in_left (x ∷ xs) ys o (inr rest) = inr (in_left xs ys o rest)

pub in_right : (xs ys : List ℕ) (o : ℕ) → IsIn o ys → IsIn o (xs ++ ys)
in_right [] ys o is = is
in_right (x ∷ xs) ys o is = inr (in_right xs ys o is)

-- an object that is there has a lock
pub place_lockable : (t : Topology) (p : ℕ) → p < 28 → is_there t p ≡ true → IsIn (object_at_place p) (lockable t)
place_lockable t p place there =
    elim (cases_lt p 4) [
      | inl crtc ↦ (let index : p < count_of t Crtc = ltb-true p (count_of t Crtc) (rw (lt-ltb p 4 crtc) at there) in
          rw (lt-ltb p 4 crtc) (in_left (ids_of t Crtc) (ids_of t Plane ++ ids_of t Conn) _ (ids-has t Crtc p index)))
      | inr other ↦ elim (cases_lt p 20) [
        | inl plane ↦ (let index : p - 4 < count_of t Plane = ltb-true (p - 4) (count_of t Plane)
            (rw (le-ltb p 4 other, lt-ltb p 20 plane) at there) in
            rw (le-ltb p 4 other, lt-ltb p 20 plane) (in_right (ids_of t Crtc) (ids_of t Plane ++ ids_of t Conn) _
            (in_left (ids_of t Plane) (ids_of t Conn) _ (ids-has t Plane (p - 4) index))))
        | inr conn ↦ (let index : p - 20 < count_of t Conn = ltb-true (p - 20) (count_of t Conn)
            (rw (le-ltb p 4 other, le-ltb p 20 conn) at there) in
            rw (le-ltb p 4 other, le-ltb p 20 conn) (in_right (ids_of t Crtc) (ids_of t Plane ++ ids_of t Conn) _
            (in_right (ids_of t Plane) (ids_of t Conn) _ (ids-has t Conn (p - 20) index))))
      ]
    ]
