-- What is duplicated of the groups of a request, and what that allows.
use Rattle.std.proofs.Common.{◌≡◌, ◌≢◌, ◌∙◌, ℕ, ◌+◌, ◌-◌, ◌<◌, ◌≤◌, Bool, true, false, List, length, Option, Some, None, refl, sym, ap}
use Rattle.std.proofs.Common.{subst, arith}
use Rattle.std.specs.Prelude.{◌&&◌, ◌==◌, All, IsTrue, slice_get, is_some, is_none, if◌then◌else◌}
use Rattle.std.specs.Option.{option_flatten}
use Rattle.std.proofs.lemmas.Bool.{eqb-true, eq-eqb, and_parts, le-leb, ltb-true}
use Rattle.kms_model.specs.Device.Places.{state_at}
use Rattle.kms_model.specs.declared.objects.Kind.{Kind}
use Rattle.kms_model.specs.declared.objects.Kind.TheVariants as kind
use Rattle.kms_model.specs.declared.objects.Topology.{Topology}
use Rattle.kms_model.specs.declared.scripts.Request.{Request}
use Rattle.kms_model.specs.declared.sets.Resolved.{Resolved}
use Rattle.kms_model.specs.declared.sets.Set.{Set}
use Rattle.kms_model.specs.declared.states.Both.{Both}
use Rattle.kms_model.specs.declared.states.Duplicates.{Duplicates}
use Rattle.kms_model.specs.declared.states.Mask.{Mask}
use Rattle.kms_model.specs.declared.worlds.Look.{Look}
use Rattle.kms_model.specs.declared.worlds.World.{World}
use Rattle.kms_model.specs.Request.Apply.{object_of, prop_of}
use Rattle.kms_model.specs.Request.Lookups.{look_up}
use Rattle.kms_model.specs.Device.Masks.{has_bit}
use Rattle.kms_model.specs.Device.Objects.{first_id, object_id, count_of, index_of, kind_of}
use Rattle.kms_model.specs.Device.Properties.{keeps_limits}
use Rattle.kms_model.specs.Request.Resolves.{HasPlace, IsResolved}
use Rattle.kms_model.specs.Request.SetRanges.{may_set}
use Rattle.kms_model.specs.Request.Sets.{set_value}
use Rattle.kms_model.specs.Device.Sound.{IsDevice}
use Rattle.kms_model.specs.Request.Touched.{sets, set_where}
use Rattle.kms_model.proofs.Items as items
use Rattle.kms_model.proofs.LastLemmas.{IsIn}
use Rattle.kms_model.proofs.MaskLemmas.{has_bit-below}
use Rattle.kms_model.proofs.RequestLemmas.{has_few, allowed_settable}
use Rattle.kms_model.proofs.SettingLemmas.{may_set-allowed}
use Rattle.kms_model.proofs.TouchedLemmas.{few_objects, few_of}
use Rattle.kms_model.proofs.UnionLemmas.{has_bit-zero}
use Rattle.kms_model.proofs.KindsOfIds.{index_of-object, kind_of-object}
use Rattle.kms_request.specs.Naming as naming
use Rattle.kms_request.proofs.NamedLemmas.{above, beneath, inside}
use Rattle.kms_state.specs.Places.{is_duplicated, is_duplicated_of, state_of}
use Rattle.kms_model.specs.Request.Deciding.{IsOfRequest}
use Rattle.kms_check.specs.Applying.{IsApplicable}
use Rattle.kms_model.specs.Request.Groups.{set_group}
use Rattle.kms_laws.proofs.Framebuffers.{all_in-from}
use Rattle.kms_check.specs.Lacking.{is_empty, lacking, missing_in, not_duplicated}
use Rattle.kms_check.proofs.RequestFacts.{IsFromAssign, from_assign}

-- Nothing is not_duplicated

some_or_none : {A : Type 0} (o : Option A) → is_none o ≡ false → is_some o ≡ true
some_or_none None none = absurd cc
some_or_none (Some x) none = refl

missing-none : {S : Type 0} (mask : ℕ) (states : List (Option (Both S))) (n i : ℕ) → missing_in mask states n ≡ 0 → i < n → has_bit mask i
    ≡ true → is_some (state_at states i) ≡ true
missing-none mask states n i none within member =
    let out : (has_bit mask i && is_none (state_at states i))
    ≡ false = sym (has_bit-below (λ index. has_bit mask index && is_none (state_at states index)) n i within) ∙ ap (λ m. has_bit m i)
    none ∙ has_bit-zero i in
    some_or_none (state_at states i) (ap (λ b. b && is_none (state_at states i)) (sym member) ∙ out)

-- the objects of a set are all duplicated
pub record IsCovered (d : Duplicates) (m : Mask) : Type 0 where
  pub crtcs : (i : ℕ) → i < length d.crtcs → has_bit m.crtcs i ≡ true → is_some (state_at d.crtcs i) ≡ true
  pub planes : (i : ℕ) → i < length d.planes → has_bit m.planes i ≡ true → is_some (state_at d.planes i) ≡ true
  pub conns : (i : ℕ) → i < length d.conns → has_bit m.conns i ≡ true → is_some (state_at d.conns i) ≡ true

pub covered : (d : Duplicates) (m : Mask) → lacking d m ≡ None → IsCovered d m
covered d m none = go (is_empty (not_duplicated d m)) refl none
  where
    go : (b : Bool) → is_empty (not_duplicated d m) ≡ b → (if b then None else Some (not_duplicated d m)) ≡ None → IsCovered d m
    go false empty is = absurd cc
    go true empty is =
        let crtcs = and_parts ((not_duplicated d m).crtcs == 0) _ empty in
        let rest = and_parts ((not_duplicated d m).planes == 0) ((not_duplicated d m).conns == 0) crtcs.1 in
        record {
          crtcs = λ i within member. missing-none m.crtcs d.crtcs (length d.crtcs) i (eqb-true (not_duplicated d m).crtcs 0 crtcs.0) within
              member;
          planes = λ i within member. missing-none m.planes d.planes (length d.planes) i (eqb-true (not_duplicated d m).planes 0 rest.0)
              within member;
          conns = λ i within member. missing-none m.conns d.conns (length d.conns) i (eqb-true (not_duplicated d m).conns 0 rest.1) within
              member;
        }

-- duplicates have room for every object of a device
pub record HasRoom (d : Duplicates) : Type 0 where
  pub crtcs : length d.crtcs ≡ 4
  pub planes : length d.planes ≡ 16
  pub conns : length d.conns ≡ 8

-- Each object that is set is duplicated

state_of-object : {S : Type 0} (k : Kind) (states : List (Option (Both S))) (i : ℕ) → state_of k states (object_id k i) ≡ state_at states i
state_of-object k states i =
    let index : object_id k i - first_id k ≡ i = omega arith in
    rw (le-leb (first_id k) (object_id k i) (omega arith)) (ap (λ n. option_flatten (slice_get states n)) index)

-- the states of an object of a kind are duplicated
abbrev pub is_kind_duplicated : Kind → Duplicates → ℕ → Bool
is_kind_duplicated kind.Crtc d i = is_some (state_at d.crtcs i)
is_kind_duplicated kind.Plane d i = is_some (state_at d.planes i)
is_kind_duplicated kind.Conn d i = is_some (state_at d.conns i)
is_kind_duplicated kind.Enc d i = false

pub is_duplicated-object : (k : Kind) (d : Duplicates) (i : ℕ) → i < 16 → is_duplicated d (object_id k i) ≡ is_kind_duplicated k d i
is_duplicated-object k d i few = ap (λ j. is_duplicated_of j d (object_id k i)) (kind_of-object k i (omega arith)) ∙ by_kind k
  where
    by_kind : (j : Kind) → is_duplicated_of j d (object_id j i) ≡ is_kind_duplicated j d i
    by_kind kind.Crtc = ap is_some (state_of-object kind.Crtc d.crtcs i)
    by_kind kind.Plane = ap is_some (state_of-object kind.Plane d.planes i)
    by_kind kind.Conn = ap is_some (state_of-object kind.Conn d.conns i)
    by_kind kind.Enc = refl

group_has : (t : Topology) (r : Request) (k : Kind) (i : ℕ) → i < count_of t k → sets r.assigns (object_id k i) ≡ true
    → has_bit (set_where t k (sets r.assigns)) i ≡ true
group_has t r k i within set = has_bit-below (λ j. sets r.assigns (object_id k j)) (count_of t k) i within ∙ set

-- an object of a device that is set is duplicated, where the objects that are set are covered
pub set_duplicated : (t : Topology) (r : Request) {d : Duplicates} (k : Kind) (i : ℕ) → IsCovered d (set_group t r) → HasRoom d
    → IsTrue (keeps_limits t) → i < count_of t k → k ≢ kind.Enc → sets r.assigns (object_id k i) ≡ true → is_kind_duplicated k d i ≡ true
set_duplicated t r kind.Crtc i covers room limits within routed set = let few = has_few t limits
    in covers.crtcs i (omega (arith, room.crtcs, few.crtcs)) (group_has t r kind.Crtc i within set)
set_duplicated t r kind.Plane i covers room limits within routed set = let few = has_few t limits
    in covers.planes i (omega (arith, room.planes, few.planes)) (group_has t r kind.Plane i within set)
set_duplicated t r kind.Conn i covers room limits within routed set = let few = has_few t limits
    in covers.conns i (omega (arith, room.conns, few.conns)) (group_has t r kind.Conn i within set)
set_duplicated t r kind.Enc i covers room limits within routed set = absurd (routed refl)

-- Each set is ready

limits_of : {t : Topology} → IsDevice t → IsTrue (keeps_limits t)
limits_of {t} device = (and_parts (keeps_limits t) _ device.legal).0

not_encoder : (k : Kind) (i : ℕ) → HasPlace k i → k ≢ kind.Enc
not_encoder kind.Crtc i placed = λ e. cc
not_encoder kind.Plane i placed = λ e. cc
not_encoder kind.Conn i placed = λ e. cc
not_encoder kind.Enc i placed = absurd placed

-- the object of an accepted assignment, and that it is duplicated
pub record IsSetObject (t : Topology) (d : Duplicates) (s : Set) : Type 0 where
  pub of_kind : Kind
  pub index : ℕ
  pub same : s.object.0 ≡ object_id of_kind index
  pub within : index < count_of t of_kind
  pub few : index < 16
  pub routed : of_kind ≢ kind.Enc
  pub duplicated : is_kind_duplicated of_kind d index ≡ true

pub set_object : {t : Topology} {f : ℕ → Look} {r : Request} {resolved : Resolved} {d : Duplicates} (s : Set) → IsDevice t
    → IsResolved t f r resolved → HasRoom d → IsCovered d (set_group t r) → IsIn s resolved.sets → IsSetObject t d s
set_object {t} {f} {r} {d} s device asks room covers member =
    let from : IsFromAssign t f r s = from_assign t f r s asks.accepted (subst (IsIn s) asks.sets member) in
    let a = from.assign in
    let within : a.index < count_of t a.kind = ltb-true a.index (count_of t a.kind) from.allowed.exists in
    let small : count_of t a.kind ≤ 16 = few_of t a.kind (few_objects t device) in
    let placed = allowed_settable t f a (limits_of device) from.allowed in
    let routed = not_encoder a.kind a.index placed.place in
    let set : sets r.assigns (object_id a.kind a.index)
    ≡ true = items.list_any-has (λ b. object_of b == object_id a.kind a.index) r.assigns a from.is_in
    (eq-eqb (object_of a) (object_id a.kind a.index) refl) in
    record {
      of_kind = a.kind;
      index = a.index;
      same = ap (λ x. x.object.0) from.set;
      within = within;
      few = omega arith;
      routed = routed;
      duplicated = set_duplicated t r a.kind a.index covers room (limits_of device) within routed set;
    }

pub ready : {t : Topology} {f : ℕ → Look} {r : Request} {resolved : Resolved} {d : Duplicates} → IsDevice t → IsResolved t f r resolved
    → HasRoom d → IsCovered d (set_group t r) → All (IsApplicable d) resolved.sets
ready {t} {f} {r} {resolved} {d} device asks room covers = all_in-from (IsApplicable d) resolved.sets (λ s member.
    let o : IsSetObject t d s = set_object s device asks room covers member in
    let from : IsFromAssign t f r s = from_assign t f r s asks.accepted (subst (IsIn s) asks.sets member) in
    let a = from.assign in
    let within : a.index < count_of t a.kind = ltb-true a.index (count_of t a.kind) from.allowed.exists in
    let small : count_of t a.kind ≤ 16 = few_of t a.kind (few_objects t device) in
    let few : a.index < 16 = omega arith in
    let may : may_set a.kind (prop_of a.prop) (set_value f (prop_of a.prop) a.value) ≡ true = may_set-allowed t f a from.allowed in
    record {
      object = ap (is_duplicated d) o.same ∙ is_duplicated-object o.of_kind d o.index o.few ∙ o.duplicated;
      value = subst (λ x. may_set (kind_of x.object.0) x.prop x.value ≡ true) (sym from.set)
          (ap (λ k. may_set k (prop_of a.prop) (set_value f (prop_of a.prop) a.value)) (kind_of-object a.kind a.index (omega arith)) ∙ may);
    })

-- What the CRTCs that a request names are read from

naming-object : (d : Duplicates) (k : Kind) (i : ℕ) → i < 16 → (k ≡ kind.Conn → i < 8) → is_kind_duplicated k d i ≡ true
    → naming.is_routed_duplicated d (object_id k i) ≡ true
naming-object d kind.Crtc i few conns there = rw (beneath kind.Plane (100 + i) (omega arith), beneath kind.Conn (100 + i) (omega arith))
    refl
naming-object d kind.Plane i few conns there =
    let index : index_of (200 + i) ≡ i = index_of-object kind.Plane i (omega arith) in
    rw (inside kind.Plane (200 + i) (omega arith) (omega arith), index) there
naming-object d kind.Conn i few conns there =
    let small : i < 8 = conns refl in
    let index : index_of (300 + i) ≡ i = index_of-object kind.Conn i (omega arith) in
    rw (above kind.Plane (300 + i) (omega arith), inside kind.Conn (300 + i) (omega arith) (omega arith), index) there
naming-object d kind.Enc i few conns there = absurd cc

few_conns : (t : Topology) (k : Kind) (i : ℕ) → IsDevice t → i < count_of t k → k ≡ kind.Conn → i < 8
few_conns t k i device within same =
    let few = few_objects t device in
    let below : i < count_of t kind.Conn = subst (λ j. i < count_of t j) same within in
    omega (arith, few.conns)

pub named-covers : {t : Topology} {w : World} {r : Request} {resolved : Resolved} {d : Duplicates} → IsOfRequest t w r resolved d
    → HasRoom d → IsCovered d (set_group t r) → naming.Covers t w (look_up w) r resolved d
named-covers {t} {w} {r} {resolved} {d} is room covers = record {
  limits = limits_of is.device;
  sound = is.sound;
  asks = is.asks;
  old = is.old;
  duplicated = all_in-from (λ s. IsTrue (naming.is_routed_duplicated d s.object.0)) resolved.sets (λ s member.
      let o : IsSetObject t d s = set_object s is.device is.asks room covers member in
      ap (naming.is_routed_duplicated d) o.same ∙ naming-object d o.of_kind o.index o.few (few_conns t o.of_kind o.index is.device o.within)
      o.duplicated);
}
