-- The objects of a set by their places, and of the groups of a request.
use Rattle.std.proofs.Common.{◌≡◌, ℕ, zero, suc, ◌+◌, ◌-◌, ◌<◌, Bool, true, false, List, length, Option, Some, None, inl, inr, arith, refl}
use Rattle.std.proofs.Common.{sym, ap, ◌∙◌}
use Rattle.std.specs.Prelude.{◌&&◌, ◌==◌, is_none, nat_lt, if◌then◌else◌}
use Rattle.std.proofs.lemmas.Bool.{and_from, and_parts, both_ways, cases_lt, eq-eqb, le-ltb, lt-ltb, ltb-true, or_left, or_right}
use Rattle.std.proofs.lemmas.Nat.{pow_pos}
use Rattle.std.proofs.lemmas.Option.{same_Some}
use Rattle.kms_model.specs.Device.Places.{state_at}
use Rattle.kms_model.specs.declared.objects.Kind.{Kind}
use Rattle.kms_model.specs.declared.objects.Kind.TheVariants as kind
use Rattle.kms_model.specs.declared.objects.Topology.{Topology}
use Rattle.kms_model.specs.declared.scripts.Request.{Request}
use Rattle.kms_model.specs.declared.states.Both.{Both}
use Rattle.kms_model.specs.declared.states.Duplicates.{Duplicates}
use Rattle.kms_model.specs.declared.states.Mask.{Mask}
use Rattle.kms_model.specs.declared.worlds.World.{World}
use Rattle.kms_model.specs.Device.Masks.{has_bit, mask_below}
use Rattle.kms_model.specs.Device.Objects.{count_of, object_id}
use Rattle.kms_model.specs.Firsts.{or_else}
use Rattle.kms_model.specs.Request.Apply.{after}
use Rattle.kms_model.specs.Request.Groups.{affected_group, named_group, set_group}
use Rattle.kms_model.specs.Request.Named.{names}
use Rattle.kms_model.specs.Request.Touched.{is_affected, set_where, sets, touches_of_kind}
use Rattle.kms_model.proofs.Items.{or_else-none}
use Rattle.kms_model.proofs.MaskLemmas.{has_bit-below, has_bit-mask_below, mask_from}
use Rattle.kms_model.proofs.UnionLemmas.{has_bit-zero}
use Rattle.kms_model.proofs.Facts.{or_else-some}
use Rattle.kms_track.specs.Places.{first_below, mask_has, object_at_place}
use Rattle.kms_check.specs.Lacking.{first_lacking, is_empty, lacking, missing_in, not_duplicated}
use Rattle.kms_check.proofs.Readiness.{HasRoom}
use Rattle.kms_check.specs.Moves.{least_of, member_at}

-- The least object

-- the place at which a function gives its first value
pub record IsPlace {A : Type 0} (f : ℕ → Option A) (n : ℕ) (x : A) : Type 0 where
  pub place : ℕ
  pub within : place < n
  pub gives : f place ≡ Some x

pub place_of : {A : Type 0} (f : ℕ → Option A) (n : ℕ) (x : A) → first_below f n ≡ Some x → IsPlace f n x
unfolding first_below
place_of f zero x first = absurd cc
place_of {A} f (suc n) x first = go (first_below f n) refl (place_of f n x) first
  where
    go : (before : Option A) → first_below f n ≡ before → (first_below f n ≡ Some x → IsPlace f n x) → or_else before (f n) ≡ Some x
        → IsPlace f (suc n) x
    go None is earlier here = record { place = n; within = omega arith; gives = here }
    go (Some y) is earlier there =
        let found : IsPlace f n x = earlier (is ∙ there) in
        record { place = found.place; within = omega (arith, found.within); gives = found.gives }

-- the place of the least object of a set
pub record HasLeast (m : Mask) (id : ℕ) : Type 0 where
  pub place : ℕ
  pub within : place < 28
  pub member : mask_has m place ≡ true
  pub same : id ≡ object_at_place place

pub least-member : (m : Mask) (id : ℕ) → least_of m ≡ Some id → HasLeast m id
least-member m id least =
    let at : IsPlace (member_at m) 28 id = place_of (member_at m) 28 id least in
    go at (mask_has m at.place) refl at.gives
  where
    go : (at : IsPlace (member_at m) 28 id) (b : Bool) → mask_has m at.place ≡ b → (if b then Some (object_at_place at.place) else None)
        ≡ Some id → HasLeast m id
    go at true has is = record {
      place = at.place;
      within = at.within;
      member = has;
      same = sym (same_Some (object_at_place at.place) id is);
    }
    go at false has is = absurd cc

-- the object at a place, of a set that has it, and of one that does not
pub member-here : (m : Mask) (p : ℕ) → mask_has m p ≡ true → member_at m p ≡ Some (object_at_place p)
member-here m p has = ap (λ b. if b then Some (object_at_place p) else None) has

pub member-not : (m : Mask) (p : ℕ) → mask_has m p ≡ false → member_at m p ≡ None
member-not m p has = ap (λ b. if b then Some (object_at_place p) else None) has

-- The objects that are lacking of a group

-- each object of a set is one of the device, which a request touches
pub record AreTouched (t : Topology) (w : World) (r : Request) (m : Mask) : Type 0 where
  pub crtcs : (i : ℕ) → has_bit m.crtcs i ≡ true → (i < count_of t kind.Crtc)
      × (touches_of_kind kind.Crtc t w r (object_id kind.Crtc i) ≡ true)
  pub planes : (i : ℕ) → has_bit m.planes i ≡ true → (i < count_of t kind.Plane)
      × (touches_of_kind kind.Plane t w r (object_id kind.Plane i) ≡ true)
  pub conns : (i : ℕ) → has_bit m.conns i ≡ true → (i < count_of t kind.Conn)
      × (touches_of_kind kind.Conn t w r (object_id kind.Conn i) ≡ true)

-- an object of a set of those that pass a test
in_where : (t : Topology) (k : Kind) (test : ℕ → Bool) (i : ℕ) → has_bit (set_where t k test) i ≡ true → (i < count_of t k)
    × (test (object_id k i) ≡ true)
in_where t k test i has =
    let parts = and_parts (nat_lt i (count_of t k)) (test (object_id k i))
    (sym (has_bit-mask_below (λ j. test (object_id k j)) (count_of t k) i) ∙ has) in
    (ltb-true i (count_of t k) parts.0, parts.1)

in_none : {A : Type 0} (i : ℕ) → has_bit 0 i ≡ true → A
in_none i has = absurd (both_ways _ (has_bit-zero i) has)

set_touched : (t : Topology) (w : World) (r : Request) → AreTouched t w r (set_group t r)
set_touched t w r = record {
  crtcs = λ i has. (let o = in_where t kind.Crtc (sets r.assigns) i has in (o.0, or_left _ _ o.1));
  planes = λ i has. (let o = in_where t kind.Plane (sets r.assigns) i has in (o.0, or_left _ _ o.1));
  conns = λ i has. (let o = in_where t kind.Conn (sets r.assigns) i has in (o.0, or_left _ _ o.1));
}

named_touched : (t : Topology) (w : World) (r : Request) → AreTouched t w r (named_group t w r)
named_touched t w r = record {
  crtcs = λ i has. (let o = in_where t kind.Crtc (names w.values (after w r) r.assigns) i has in (o.0, or_right _ _ o.1));
  planes = λ i has. in_none i has;
  conns = λ i has. in_none i has;
}

affected_touched : (t : Topology) (w : World) (r : Request) → AreTouched t w r (affected_group t w r)
affected_touched t w r = record {
  crtcs = λ i has. in_none i has;
  planes = λ i has. (let o = in_where t kind.Plane (is_affected t w.things w.values (after w r)) i has in (o.0, or_right _ _ o.1));
  conns = λ i has. (let o = in_where t kind.Conn (is_affected t w.things w.values (after w r)) i has in (o.0, or_right _ _ o.1));
}

-- what is lacking of a set, of which there is some
record IsLackingOf (d : Duplicates) (g m : Mask) : Type 0 where
  is : m ≡ not_duplicated d g
  has_some : is_empty (not_duplicated d g) ≡ false

lacking-is : (d : Duplicates) (g m : Mask) → lacking d g ≡ Some m → IsLackingOf d g m
lacking-is d g m is = go (is_empty (not_duplicated d g)) refl is
  where
    go : (b : Bool) → is_empty (not_duplicated d g) ≡ b → (if b then None else Some (not_duplicated d g)) ≡ Some m → IsLackingOf d g m
    go true empty e = absurd cc
    go false empty e = record { is = sym (same_Some (not_duplicated d g) m e); has_some = empty }

-- a group of which something is lacking, and what that is
pub record IsLacking (t : Topology) (w : World) (r : Request) (d : Duplicates) (m : Mask) : Type 0 where
  pub group : Mask
  pub touched : AreTouched t w r group
  pub is : m ≡ not_duplicated d group
  pub has_some : is_empty (not_duplicated d group) ≡ false

of_group : {t : Topology} {w : World} {r : Request} {d : Duplicates} {g m : Mask} → AreTouched t w r g → IsLackingOf d g m
    → IsLacking t w r d m
of_group {g} touched lacks = record { group = g; touched = touched; is = lacks.is; has_some = lacks.has_some }

pub first_lacking-is : (t : Topology) (w : World) (r : Request) (d : Duplicates) {m : Mask} → first_lacking t w r d ≡ Some m
    → IsLacking t w r d m
first_lacking-is t w r d {m} first =
    elim (or_else-some (lacking d (set_group t r)) _ m first) [
      | inl is ↦ of_group (set_touched t w r) (lacking-is d (set_group t r) m is)
      | inr rest ↦ elim (or_else-some (lacking d (named_group t w r)) (lacking d (affected_group t w r)) m rest) [
        | inl is ↦ of_group (named_touched t w r) (lacking-is d (named_group t w r) m is)
        | inr is ↦ of_group (affected_touched t w r) (lacking-is d (affected_group t w r) m is)
      ]
    ]

-- an object that is lacking is in the set, and is not duplicated
pub missing : {S : Type 0} (mask : ℕ) (states : List (Option (Both S))) (i : ℕ) → has_bit (missing_in mask states (length states)) i ≡ true
    → (has_bit mask i ≡ true) × (is_none (state_at states i) ≡ true)
missing mask states i has =
    let parts = and_parts (nat_lt i (length states)) (has_bit mask i && is_none (state_at states i))
    (sym (has_bit-mask_below (λ j. has_bit mask j && is_none (state_at states j)) (length states) i) ∙ has) in
    and_parts (has_bit mask i) (is_none (state_at states i)) parts.1

-- Something is lacking

none_at : {A : Type 0} (f : ℕ → Option A) (n p : ℕ) → first_below f n ≡ None → p < n → f p ≡ None
unfolding first_below
none_at f zero p none within = absurd (omega arith)
none_at f (suc n) p none within =
    let both = or_else-none (first_below f n) (f n) none in
    elim (cases_lt p n) [
      | inl less ↦ none_at f n p both.first_none less
      | inr last ↦
          (let same : p ≡ n = omega arith in ap f same ∙ both.second_none)
    ]

-- a set that has no object at any place
not_member : (m : Mask) (p : ℕ) → least_of m ≡ None → p < 28 → mask_has m p ≡ false
not_member m p none place = go (mask_has m p) (none_at (member_at m) 28 p none place)
  where
    go : (b : Bool) → (if b then Some (object_at_place p) else None) ≡ None → b ≡ false
    go true e = absurd cc
    go false e = refl

no_bits : (test : ℕ → Bool) (n : ℕ) → ((i : ℕ) → i < n → has_bit (mask_below test n) i ≡ false) → mask_below test n ≡ 0
no_bits test n none = sym (mask_from 0 test n (pow_pos n)
    (λ i within. has_bit-zero i ∙ sym (none i within) ∙ has_bit-below test n i within))

-- a set of what is not duplicated that has no object is empty
empty-set : (d : Duplicates) (g : Mask) → HasRoom d → least_of (not_duplicated d g) ≡ None → is_empty (not_duplicated d g) ≡ true
empty-set d g room none =
    let m = not_duplicated d g in
    let crtcs : m.crtcs ≡ 0 = no_bits (λ i. has_bit g.crtcs i && is_none (state_at d.crtcs i)) (length d.crtcs) (λ i within.
    (let first : nat_lt i 4 ≡ true = lt-ltb i 4 (omega (arith, within, room.crtcs)) in
    rw first at (not_member m i none (omega (arith, within, room.crtcs))))) in
    let planes : m.planes ≡ 0 = no_bits (λ i. has_bit g.planes i && is_none (state_at d.planes i)) (length d.planes) (λ i within.
    (let index : (4 + i) - 4 ≡ i = omega arith in
    let past : nat_lt (4 + i) 4 ≡ false = le-ltb (4 + i) 4 (omega arith) in
    let first : nat_lt (4 + i) 20 ≡ true = lt-ltb (4 + i) 20 (omega (arith, within, room.planes)) in
    rw (past, first, index) at (not_member m (4 + i) none (omega (arith, within, room.planes))))) in
    let conns : m.conns ≡ 0 = no_bits (λ i. has_bit g.conns i && is_none (state_at d.conns i)) (length d.conns) (λ i within.
    (let index : (20 + i) - 20 ≡ i = omega arith in
    let past : nat_lt (20 + i) 4 ≡ false = le-ltb (20 + i) 4 (omega arith) in
    let beyond : nat_lt (20 + i) 20 ≡ false = le-ltb (20 + i) 20 (omega arith) in
    rw (past, beyond, index) at (not_member m (20 + i) none (omega (arith, within, room.conns))))) in
    and_from (m.crtcs == 0) _ (eq-eqb m.crtcs 0 crtcs) (and_from (m.planes == 0) _ (eq-eqb m.planes 0 planes) (eq-eqb m.conns 0 conns))

-- what is asked for is never an empty set
pub asks-some : {A : Type 0} (t : Topology) (w : World) (r : Request) {d : Duplicates} {m : Mask} → HasRoom d → first_lacking t w r d
    ≡ Some m → least_of m ≡ None → A
asks-some t w r {d} {m} room first none =
    let lacks : IsLacking t w r d m = first_lacking-is t w r d first in
    absurd (both_ways _ lacks.has_some (empty-set d lacks.group room (ap least_of (sym lacks.is) ∙ none)))
