-- The kinds and the indices of a device's objects.
use Rattle.std.proofs.Common.{◌≡◌, ℕ, ◌+◌, ◌-◌, ◌<◌, List, true, refl, ap, ◌∙◌, arith}
use Rattle.std.specs.Prelude.{nat_lt}
use Rattle.std.proofs.lemmas.Bool.{or_right, eq-eqb, lt-ltb, cond-true}
use Rattle.kms_model.specs.declared.objects.Kind.TheVariants.{Crtc, Plane, Conn}
use Rattle.kms_model.specs.declared.objects.Topology.{Topology}
use Rattle.kms_model.specs.Device.Objects.{first_id, object_id, ids_of, kind_of, index_of}
use Rattle.kms_model.specs.Machine.Commits.{commit_at, commit_names, commit_touches, commit_concerns, is_on_before_or_after, lockable}
use Rattle.kms_model.specs.Machine.Commits.{registered}
use Rattle.kms_model.specs.Machine.State.{Commit}
use Rattle.kms_model.specs.Request.Touched.{touches, touches_of_kind, sets}
use Rattle.kms_model.proofs.Items.{IsIn, IsObject, ids-in}
use Rattle.kms_model.proofs.TouchedLemmas.{HasFewObjects}
use Rattle.kms_model.proofs.KindsOfIds.{kind-plane, kind-conn}
use Rattle.kms_laws.proofs.Basics.{in_left, in_right}

kind_below_plane : (o : ℕ) → o < 200 → kind_of o ≡ Crtc
kind_below_plane o l = cond-true (nat_lt o 200) Crtc _ (lt-ltb o 200 l)

pub crtc_kind : (t : Topology) (o : ℕ) → HasFewObjects t → IsIn o (ids_of t Crtc) → kind_of o ≡ Crtc
crtc_kind t o few is = let i : IsObject t Crtc o = ids-in t Crtc o is in kind_below_plane o (omega (arith, i.within, i.same, few.crtcs))

pub plane_kind : (t : Topology) (o : ℕ) → HasFewObjects t → IsIn o (ids_of t Plane) → kind_of o ≡ Plane
plane_kind t o few is =
    let i : IsObject t Plane o = ids-in t Plane o is in
    kind-plane o (omega (arith, i.same)) (omega (arith, i.within, i.same, few.planes))

pub conn_kind : (t : Topology) (o : ℕ) → HasFewObjects t → IsIn o (ids_of t Conn) → kind_of o ≡ Conn
conn_kind t o few is =
    let i : IsObject t Conn o = ids-in t Conn o is in
    kind-conn o (omega (arith, i.same)) (omega (arith, i.within, i.same, few.conns))

-- the id of a CRTC's index
pub crtc_index : (t : Topology) (o : ℕ) → HasFewObjects t → IsIn o (ids_of t Crtc) → object_id Crtc (index_of o) ≡ o
crtc_index t o few is =
    let i : IsObject t Crtc o = ids-in t Crtc o is in
    ap (λ k. 100 + (o - first_id k)) (crtc_kind t o few is) ∙ omega (arith, i.same)

pub crtc_lockable : (t : Topology) (c : ℕ) → IsIn c (ids_of t Crtc) → IsIn c (lockable t)
crtc_lockable t c is = in_left (ids_of t Crtc) _ c is

pub crtc_registered : (t : Topology) (c : ℕ) → IsIn c (ids_of t Crtc) → IsIn c (registered t)
crtc_registered t c is = in_left (ids_of t Crtc) (ids_of t Plane) c is

pub plane_registered : (t : Topology) (p : ℕ) → IsIn p (ids_of t Plane) → IsIn p (registered t)
plane_registered t p is = in_right (ids_of t Crtc) (ids_of t Plane) p is

-- a CRTC that a commit names is touched by it
pub names-touches : (t : Topology) (cs : List Commit) (k c : ℕ) → HasFewObjects t → IsIn c (ids_of t Crtc) → commit_names t cs k c ≡ true
    → commit_touches t cs k c ≡ true
unfolding commit_names commit_touches touches
names-touches t cs k c few is h =
    ap (λ kind. touches_of_kind kind t (commit_at t cs k).world (commit_at t cs k).request c) (crtc_kind t c few is)
    ∙ or_right (sets (commit_at t cs k).request.assigns c) _ h

-- and it concerns itself
pub concerns_self : (t : Topology) (cs : List Commit) (k c : ℕ) → HasFewObjects t → IsIn c (ids_of t Crtc) → commit_concerns t cs k c c
    ≡ true
unfolding commit_concerns
concerns_self t cs k c few is = ap (λ kind. is_on_before_or_after kind (commit_at t cs k) c c) (crtc_kind t c few is) ∙ eq-eqb c c refl
