-- Which ids are of which kind.
use Rattle.std.proofs.Common.{◌≡◌, ℕ, ◌+◌, ◌<◌, ◌≤◌, arith, inl, inr, refl, subst, sym}
use Rattle.std.proofs.lemmas.Bool.{cases_lt, le-ltb, lt-ltb}
use Rattle.kms_model.specs.declared.objects.Kind.{Kind}
use Rattle.kms_model.specs.declared.objects.Kind.TheVariants.{Crtc, Plane, Conn, Enc}
use Rattle.kms_model.specs.Device.Objects.{index_of, kind_of, object_id}

pub kind-plane : (id : ℕ) → 200 ≤ id → id < 300 → kind_of id ≡ Plane
kind-plane id from below = rw (le-ltb id 200 from, lt-ltb id 300 below) refl

pub kind-conn : (id : ℕ) → 300 ≤ id → id < 400 → kind_of id ≡ Conn
kind-conn id from below =
    let past : 200 ≤ id = omega arith in
    rw (le-ltb id 200 past, le-ltb id 300 from, lt-ltb id 400 below) refl

pub kind-crtc : (id : ℕ) → id < 200 → kind_of id ≡ Crtc
kind-crtc id below = rw (lt-ltb id 200 below) refl

pub kind-enc : (id : ℕ) → 400 ≤ id → kind_of id ≡ Enc
kind-enc id from =
    let past : 200 ≤ id = omega arith in
    let beyond : 300 ≤ id = omega arith in
    rw (le-ltb id 200 past, le-ltb id 300 beyond, le-ltb id 400 from) refl

-- the ids of a kind
abbrev pub HasKind : Kind → ℕ → Type 0
HasKind Crtc id = id < 200
HasKind Plane id = (200 ≤ id) × (id < 300)
HasKind Conn id = (300 ≤ id) × (id < 400)
HasKind Enc id = 400 ≤ id

has_kind_of : (id : ℕ) → HasKind (kind_of id) id
has_kind_of id = elim (cases_lt id 200) [
  | inl below ↦ subst (λ k. HasKind k id) (sym (kind-crtc id below)) below
  | inr from ↦ elim (cases_lt id 300) [
    | inl below ↦ subst (λ k. HasKind k id) (sym (kind-plane id from below)) (from, below)
    | inr past ↦ elim (cases_lt id 400) [
      | inl below ↦ subst (λ k. HasKind k id) (sym (kind-conn id past below)) (past, below)
      | inr beyond ↦ subst (λ k. HasKind k id) (sym (kind-enc id beyond)) beyond
    ]
  ]
]

pub has_kind : (kind : Kind) (id : ℕ) → kind_of id ≡ kind → HasKind kind id
has_kind kind id is = subst (λ k. HasKind k id) is (has_kind_of id)

-- the kind and the index of the object with an id
pub kind_of-object : (kind : Kind) (i : ℕ) → i < 100 → kind_of (object_id kind i) ≡ kind
kind_of-object Crtc i few = kind-crtc (100 + i) (omega arith)
kind_of-object Plane i few = kind-plane (200 + i) (omega arith) (omega arith)
kind_of-object Conn i few = kind-conn (300 + i) (omega arith) (omega arith)
kind_of-object Enc i few = kind-enc (400 + i) (omega arith)

pub index_of-object : (kind : Kind) (i : ℕ) → i < 100 → index_of (object_id kind i) ≡ i
index_of-object kind i few = rw (kind_of-object kind i few) (omega arith)
