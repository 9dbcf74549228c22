-- Requests that pass the early refusals, and what their assignments set.
use Rattle.std.proofs.Common.{◌≡◌, ℕ, ◌≤◌, List, [], ◌∷◌, Bool, true, false, Option, Some, None, ℤ, pos, negsuc, refl, sym, subst, arith}
use Rattle.std.proofs.Common.{inl, inr, lit<}
use Rattle.std.specs.Prelude.{not, ◌&&◌, int_le, nat_le, find, All, IfSome, length}
use Rattle.std.specs.List.{list_all}
use Rattle.std.proofs.lemmas.Bool.{and_parts, ltb-true, leb-true, not-true}
use Rattle.std.proofs.lemmas.Bool.Decides.{eqb_tells, nat_tests, Decides-int_eq}
use Rattle.std.proofs.lemmas.List.Elements.{All-nil, All-cons, All-weaker}
use Rattle.kms_model.specs.declared.objects.Kind.{Kind}
use Rattle.kms_model.specs.declared.objects.Kind.TheVariants as kind
use Rattle.kms_model.specs.declared.objects.Topology.{Topology}
use Rattle.kms_model.specs.declared.ranges.Range.{Range}
use Rattle.kms_model.specs.declared.ranges.Range.TheVariants.{Numbers, Thing, CrtcName}
use Rattle.kms_model.specs.declared.scripts.Assign.{Assign}
use Rattle.kms_model.specs.declared.scripts.PropRef.{PropRef}
use Rattle.kms_model.specs.declared.scripts.PropRef.TheVariants.{Known, Unknown}
use Rattle.kms_model.specs.declared.scripts.Request.{Request}
use Rattle.kms_model.specs.declared.scripts.Value.{Value}
use Rattle.kms_model.specs.declared.scripts.Value.TheVariants.{Num, Named, New, Crtc}
use Rattle.kms_model.specs.declared.worlds.Look.{Look}
use Rattle.kms_model.specs.Firsts.{or_else, number_if}
use Rattle.kms_model.specs.Device.Objects.{exists, count_of}
use Rattle.kms_model.specs.Device.Properties.{Property, properties, property, has_id, keeps_limits}
use Rattle.kms_model.specs.Script.Words.{between}
use Rattle.kms_model.proofs.Items.{number_if-none}
use Rattle.kms_model.proofs.PropertyTable.{find-list_all, of_kind-in}
use Rattle.kms_model.specs.Request.Refusals.{own_refusal, flags_refusal, assign_refusal, assigns_refusal, early_refusal, has_property}
use Rattle.kms_model.specs.Request.Refusals.{is_immutable, is_value, is_in_range, is_in_range_of, is_of_kind}
use Rattle.kms_model.specs.Request.Apply.{prop_of}
use Rattle.kms_model.specs.Request.Resolves.{IsAllowed, IsSettable, IsSettableNumber, IsSettableValue, HasPlace}

-- the first of several is none where each is
pub none_of_both : {A : Type 0} (first second : Option A) → or_else first second ≡ None → (first ≡ None) × (second ≡ None)
none_of_both None second none = (refl, none)
none_of_both (Some x) second none = absurd (cc)

not_not : (b : Bool) → not b ≡ false → b ≡ true
not_not true h = refl
not_not false h = sym h

-- an assignment that is not refused
pub allowed : (t : Topology) (f : ℕ → Look) (earlier : List Assign) (a : Assign) → assign_refusal t f earlier a ≡ None → IsAllowed t f a
unfolding assign_refusal own_refusal
allowed t f earlier a none =
    let own = (none_of_both (own_refusal t f a) _ none).0 in
    let four = none_of_both (number_if 4 (not (exists t a.kind a.index))) _ own in
    let five = none_of_both (number_if 5 (not (has_property t a.kind a.prop))) _ four.1 in
    let six = none_of_both (number_if 6 (is_immutable a.prop)) _ five.1 in
    record {
      exists = not_not (exists t a.kind a.index) (number_if-none 4 _ four.0);
      has = not_not (has_property t a.kind a.prop) (number_if-none 5 _ five.0);
      mutable = number_if-none 6 (is_immutable a.prop) six.0;
      value = not_not (is_value t f a.prop a.value) (number_if-none 7 _ six.1);
    }

pub all_allowed : (t : Topology) (f : ℕ → Look) (earlier assigns : List Assign) → assigns_refusal t f earlier assigns ≡ None
    → All (IsAllowed t f) assigns
unfolding assigns_refusal
all_allowed t f earlier [] none = All-nil (IsAllowed t f)
all_allowed t f earlier (a ∷ assigns) none =
    let both = none_of_both (assign_refusal t f earlier a) (assigns_refusal t f (a ∷ earlier) assigns) none in
    All-cons (IsAllowed t f) a assigns (allowed t f earlier a both.0) (all_allowed t f (a ∷ earlier) assigns both.1)

-- each assignment of a request that passes the early refusals
pub accepted_allowed : (t : Topology) (f : ℕ → Look) (r : Request) → early_refusal t f r ≡ None → All (IsAllowed t f) r.assigns
unfolding early_refusal
accepted_allowed t f r none = all_allowed t f [] r.assigns (none_of_both (flags_refusal r.flags) _ none).1

-- the numbers of a range are some property's
abbrev is_small_number : ℤ → Bool
is_small_number z = int_le (negsuc 2147483647) z && int_le z (pos 4294967295)

abbrev has_small_range : Range → Bool
has_small_range (Numbers low high) = int_le (negsuc 2147483647) low && int_le high (pos 4294967295)
has_small_range (Thing none) = is_small_number none
has_small_range CrtcName = true

small_ranges : list_all (λ p. has_small_range p.range) properties ≡ true
small_ranges = refl

small_low : (low high z : ℤ) → int_le (negsuc 2147483647) low ≡ true → int_le high (pos 4294967295) ≡ true → int_le low z ≡ true
    → int_le z high ≡ true → IsSettableNumber z
small_low (pos a) (pos b) (pos c) h k l m = grind (arith, nat_tests)
small_low (negsuc a) (pos b) (pos c) h k l m = grind (arith, nat_tests)
small_low (negsuc a) (pos b) (negsuc c) h k l m = grind (arith, nat_tests)
small_low (negsuc a) (negsuc b) (negsuc c) h k l m = grind (arith, nat_tests)
small_low (pos a) (pos b) (negsuc c) h k l m = absurd (cc)
small_low (pos a) (negsuc b) (pos c) h k l m = absurd (cc)
small_low (pos a) (negsuc b) (negsuc c) h k l m = absurd (cc)
small_low (negsuc a) (negsuc b) (pos c) h k l m = absurd (cc)

small_number : (z : ℤ) → int_le (negsuc 2147483647) z ≡ true → int_le z (pos 4294967295) ≡ true → IsSettableNumber z
small_number (pos n) h k = grind (arith, nat_tests)
small_number (negsuc n) h k = grind (arith, nat_tests)

-- the values of a range are within what some property can have
settable_value : (t : Topology) (f : ℕ → Look) (prop : ℕ) (range : Range) (v : Value) → t.crtcs ≤ 4 → has_small_range range ≡ true
    → is_in_range t f prop range v ≡ true → IsSettableValue v
settable_value t f prop (Numbers low high) (Num n) few small within =
    let bounds = and_parts (int_le (negsuc 2147483647) low) (int_le high (pos 4294967295)) small in
    let inside = and_parts (int_le low n) (int_le n high) within in
    small_low low high n bounds.0 bounds.1 inside.0 inside.1
settable_value t f prop (Thing none) (Num n) few small within =
    let same : n ≡ none = (Decides-int_eq n none).0 within in
    let bounds = and_parts (int_le (negsuc 2147483647) none) (int_le none (pos 4294967295)) small in
    subst IsSettableNumber (sym same) (small_number none bounds.0 bounds.1)
settable_value t f prop CrtcName (Num n) few small within =
    let same : n ≡ pos 0 = (Decides-int_eq n (pos 0)).0 within in
    subst IsSettableNumber (sym same) (lit< tt)
settable_value t f prop range (Named label) few small within = tt
settable_value t f prop range (New label) few small within = tt
settable_value t f prop CrtcName (Crtc index) few small within = omega (arith, ltb-true index t.crtcs within)
settable_value t f prop (Numbers low high) (Crtc index) few small within = absurd (cc)
settable_value t f prop (Thing none) (Crtc index) few small within = absurd (cc)

small_row : (id : ℕ) → IfSome (property id) (λ p. has_small_range p.range ≡ true)
small_row id = find-list_all (λ p. has_small_range p.range) (has_id id) properties small_ranges

settable_by_row : (t : Topology) (f : ℕ → Look) (v : Value) (row : Option Property) → t.crtcs ≤ 4
    → IfSome row (λ p. has_small_range p.range ≡ true) → is_in_range_of t f v row ≡ true → IsSettableValue v
settable_by_row t f v None few small within = absurd (cc)
settable_by_row t f v (Some p) few small within = settable_value t f p.id p.range v few small within

-- the limits of a device
pub record HasFew (t : Topology) : Type 0 where
  pub crtcs : t.crtcs ≤ 4
  pub planes : length t.planes ≤ 16
  pub conns : length t.conns ≤ 8

pub has_few : (t : Topology) → keeps_limits t ≡ true → HasFew t
has_few t limits =
    let crtcs = and_parts (between 1 4 t.crtcs) (between 1 16 (length t.planes) && between 1 8 (length t.conns)) limits in
    let rest = and_parts (between 1 16 (length t.planes)) (between 1 8 (length t.conns)) crtcs.1 in
    record {
      crtcs = leb-true t.crtcs 4 (and_parts (nat_le 1 t.crtcs) (nat_le t.crtcs 4) crtcs.0).1;
      planes = leb-true (length t.planes) 16 (and_parts (nat_le 1 (length t.planes)) (nat_le (length t.planes) 16) rest.0).1;
      conns = leb-true (length t.conns) 8 (and_parts (nat_le 1 (length t.conns)) (nat_le (length t.conns) 8) rest.1).1;
    }

few_of_kind : (t : Topology) (k : Kind) → HasFew t → count_of t k ≤ 16
few_of_kind t kind.Crtc few = omega arith
few_of_kind t kind.Plane few = omega arith
few_of_kind t kind.Conn few = omega arith
few_of_kind t kind.Enc few = omega arith

-- an id of the table is at most 19
abbrev is_small_id : Property → Bool
is_small_id p = nat_le p.id 19

small_ids : list_all is_small_id properties ≡ true
small_ids = refl

-- an object with a property is no encoder
abbrev has_no_encoder : Property → Bool
has_no_encoder p = not (is_of_kind kind.Enc (Some p))

no_encoders : list_all has_no_encoder properties ≡ true
no_encoders = refl

find_own : (id : ℕ) (ps : List Property) → IfSome (find (has_id id) ps) (λ p. p.id ≡ id)
find_own id [] = tt
find_own id (p ∷ ps) = elim (eqb_tells p.id id) [ inl same ↦ rw same.0 same.1 | inr other ↦ rw other.0 (find_own id ps) ]

small_id_of : (id : ℕ) (row : Option Property) (k : Kind) → IfSome row (λ p. p.id ≡ id) → IfSome row (λ p. is_small_id p ≡ true)
    → is_of_kind k row ≡ true → id ≤ 19
small_id_of id None k own small has = absurd (cc)
small_id_of id (Some p) k own small has = (let h : p.id ≤ 19 = leb-true p.id 19 small in omega arith)

-- a property that some kind of object has is in the table
pub small_prop : (t : Topology) (k : Kind) (prop : PropRef) → has_property t k prop ≡ true → prop_of prop ≤ 19
small_prop t k (Unknown name) has = omega arith
small_prop t k (Known id) has =
    small_id_of id (property id) k (find_own id properties) (find-list_all is_small_id (has_id id) properties small_ids)
    (of_kind-in t.profile id k has)

no_encoder_of : (row : Option Property) → IfSome row (λ p. has_no_encoder p ≡ true) → is_of_kind kind.Enc row ≡ true → ⊥
no_encoder_of None h has = cc
no_encoder_of (Some p) h has = let no : is_of_kind kind.Enc (Some p) ≡ false = not-true (is_of_kind kind.Enc (Some p)) h in cc

no_encoder : (t : Topology) (prop : PropRef) → has_property t kind.Enc prop ≡ true → ⊥
no_encoder t (Unknown name) has = cc
no_encoder t (Known id) has =
    no_encoder_of (property id) (find-list_all has_no_encoder (has_id id) properties no_encoders) (of_kind-in t.profile id kind.Enc has)

placed : (t : Topology) (k : Kind) (index : ℕ) (prop : PropRef) → HasFew t → exists t k index ≡ true → has_property t k prop ≡ true
    → HasPlace k index
placed t kind.Crtc index prop few is has = omega (arith, ltb-true index t.crtcs is)
placed t kind.Plane index prop few is has = omega (arith, ltb-true index (length t.planes) is)
placed t kind.Conn index prop few is has = omega (arith, ltb-true index (length t.conns) is)
placed t kind.Enc index prop few is has = no_encoder t prop has

-- an allowed assignment is within the limits
pub allowed_settable : (t : Topology) (f : ℕ → Look) (a : Assign) → keeps_limits t ≡ true → IsAllowed t f a → IsSettable a
allowed_settable t f a limits h =
    let few = has_few t limits in
    record {
      place = placed t a.kind a.index a.prop few h.exists h.has;
      prop = small_prop t a.kind a.prop h.has;
      index = omega (arith, few_of_kind t a.kind few, ltb-true a.index (count_of t a.kind) h.exists);
      value = settable_by_row t f a.value (property (prop_of a.prop)) few.crtcs (small_row (prop_of a.prop)) h.value;
    }

pub all_settable : (t : Topology) (f : ℕ → Look) (assigns : List Assign) → keeps_limits t ≡ true → All (IsAllowed t f) assigns
    → All IsSettable assigns
all_settable t f assigns limits h = All-weaker (IsAllowed t f) IsSettable (λ a. allowed_settable t f a limits) assigns h
