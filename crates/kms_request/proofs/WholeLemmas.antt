-- The plain check of the whole device.
use Rattle.std.proofs.Common.{◌≡◌, ◌∙◌, ℕ, ◌+◌, ◌-◌, ◌^◌, ◌<◌, ◌≤◌, List, Bool, true, false, Option, Some, None, arith, refl, sym, ap}
use Rattle.std.proofs.Common.{subst}
use Rattle.std.specs.Prelude.{◌&&◌, ◌||◌, ◌==◌, All, IfSome, slice_get, is_some, if◌then◌else◌}
use Rattle.std.specs.Option.{option_flatten}
use Rattle.std.specs.List.{list_any}
use Rattle.std.proofs.lemmas.Bool.{and_parts, ltb-true, ne_eqb}
use Rattle.std.proofs.lemmas.Nat.Bits.{bit_at_ones}
use Rattle.kms_model.specs.declared.objects.Kind.{Kind}
use Rattle.kms_model.specs.declared.objects.Kind.TheVariants.{Crtc, Plane, Conn, Enc}
use Rattle.kms_model.specs.declared.objects.Topology.{Topology}
use Rattle.kms_model.specs.declared.scripts.Request.{Request}
use Rattle.kms_model.specs.declared.states.Both.{Both}
use Rattle.kms_model.specs.declared.states.Duplicates.{Duplicates}
use Rattle.kms_model.specs.declared.states.PlaneState.{PlaneState}
use Rattle.kms_model.specs.declared.worlds.Setting.{Setting}
use Rattle.kms_model.specs.declared.worlds.Thing as worlds
use Rattle.kms_model.specs.declared.worlds.World.{World}
use Rattle.kms_model.specs.Request.Agreement.{AgreesNew, AgreesOld}
use Rattle.kms_model.specs.Request.Apply.{after}
use Rattle.kms_model.specs.Request.Checks.{late_refusal}
use Rattle.kms_model.specs.Request.Late.{ArePlanesInRange, late_of_states}
use Rattle.kms_model.specs.Request.Lookups.{look_up}
use Rattle.kms_model.specs.Device.Masks.{has_bit, mask_below}
use Rattle.kms_model.specs.Request.Named.{is_named_by, is_routed, moves_on}
use Rattle.kms_model.specs.Device.Objects.{count_of, index_of, is_id_of, object_id}
use Rattle.kms_model.proofs.KindsOfIds.{index_of-object}
use Rattle.kms_model.specs.Device.Properties.{keeps_limits}
use Rattle.kms_model.specs.Request.Resolves.{IsAllowed, HasPlace, IsSettable}
use Rattle.kms_model.specs.Device.Sound.{IsDevice, IsPlaneInRange}
use Rattle.kms_model.specs.Device.States.{crtc_at}
use Rattle.kms_model.specs.Request.Touched.{is_asked, named_by, out_fence_label}
use Rattle.kms_model.proofs.CrtcLemmas.{all_in}
use Rattle.kms_model.proofs.HeldValues.{plain_held-from}
use Rattle.kms_model.proofs.Items.{ids-has, list_any-same}
use Rattle.kms_model.proofs.LateLemmas.{Covers, fenced_set, late_of_states-is}
use Rattle.kms_model.proofs.MaskLemmas.{has_bit-from, same_masks}
use Rattle.kms_model.proofs.RequestLemmas.{accepted_allowed, all_settable, has_few}
use Rattle.kms_model.proofs.SoundKept.{plain-apply}
use Rattle.kms_model.proofs.StateLemmas.{plane_in_range}
use Rattle.kms_model.proofs.Facts.{or-assoc}
use Rattle.kms_request.specs.Fences.{TellOutFences, has_number_at}
use Rattle.kms_request.specs.Naming.{AreCrtcs, is_routed_duplicated, next_crtc, old_crtc_id}
use Rattle.kms_props.specs.Setting.{AreAllDuplicated}
use Rattle.kms_request.specs.Whole.{StandBetween, is_named_between}
use Rattle.kms_request.proofs.NamedLemmas.{above, crtcs_named, inside, next_is, next_none, old_is, old_none}

pub no_mask : (test : ℕ → Bool) → 0 ≡ mask_below test 0
unfolding mask_below
no_mask test = refl

-- the set of all objects has each
all_bits : (index : ℕ) → index < 32 → has_bit (2 ^ 32 - 1) index ≡ true
all_bits index less = has_bit-from (2 ^ 32 - 1) index true (bit_at_ones 32 index less)

-- each object of a device that is all duplicated is duplicated
duplicated_from : {t : Topology} {d : Duplicates} (k : Kind) (i : ℕ) → AreAllDuplicated t d → is_routed k ≡ true → HasPlace k i → i
    < count_of t k → is_routed_duplicated d (object_id k i) ≡ true
duplicated_from Crtc i all routes placed there = absurd (cc)
duplicated_from Plane i all routes placed there =
    let is : is_id_of Plane (200 + i) ≡ true = inside Plane (200 + i) (omega arith) (omega arith) in
    let place : index_of (200 + i) ≡ i = index_of-object Plane i (omega arith) in
    rw (is, place) (all.planes i there)
duplicated_from Conn i all routes placed there =
    let out : is_id_of Plane (300 + i) ≡ false = above Plane (300 + i) (omega arith) in
    let is : is_id_of Conn (300 + i) ≡ true = inside Conn (300 + i) (omega arith) (omega arith) in
    let place : index_of (300 + i) ≡ i = index_of-object Conn i (omega arith) in
    rw (out, is, place) (all.conns i there)
duplicated_from Enc i all routes placed there = absurd placed

or_false : (a : Bool) → ((a || false) || false) ≡ (a || false)
or_false true = refl
or_false false = refl

-- an assignment names a CRTC by the states where it names it by the values
module _ (t : Topology) (things : List worlds.Thing) (old new : List Setting) (d : Duplicates) (before : AgreesOld t things old d)
    (after : AgreesNew t things new d) (all : AreAllDuplicated t d) where
  named_routed : (k : Kind) (i crtc : ℕ) → is_routed k ≡ true → HasPlace k i → i < count_of t k →
      (((object_id k i == crtc) || (old_crtc_id d (object_id k i) == crtc)) || (next_crtc d (object_id k i) == crtc))
      ≡ ((object_id k i == crtc) || (is_routed k && moves_on old new crtc (object_id k i)))
  named_routed k i crtc routes placed there =
      let known = duplicated_from k i all routes placed there in
      rw (old_is k i before routes placed known, next_is k i after routes placed known, routes)
      (or-assoc (object_id k i == crtc) (crtc_at old (object_id k i) == crtc) (crtc_at new (object_id k i) == crtc))

  named_itself : (i crtc : ℕ) → HasPlace Crtc i → 0 < crtc →
      (((object_id Crtc i == crtc) || (old_crtc_id d (object_id Crtc i) == crtc)) || (next_crtc d (object_id Crtc i) == crtc))
      ≡ ((object_id Crtc i == crtc) || false)
  named_itself i crtc placed some =
      let apart : (0 == crtc) ≡ false = ne_eqb 0 crtc (λ e. omega (arith, e)) in
      rw (old_none d i placed, next_none d i placed, apart) (or_false (object_id Crtc i == crtc))

  named_same : (k : Kind) (i crtc : ℕ) → HasPlace k i → i < count_of t k → 0 < crtc →
      (((object_id k i == crtc) || (old_crtc_id d (object_id k i) == crtc)) || (next_crtc d (object_id k i) == crtc))
      ≡ ((object_id k i == crtc) || (is_routed k && moves_on old new crtc (object_id k i)))
  named_same Crtc i crtc placed there some = named_itself i crtc placed some
  named_same Plane i crtc placed there some = named_routed Plane i crtc refl placed there
  named_same Conn i crtc placed there some = named_routed Conn i crtc refl placed there
  named_same Enc i crtc placed there some = absurd placed

-- the limits of a device
pub limits_of : (t : Topology) → IsDevice t → keeps_limits t ≡ true
limits_of t device = (and_parts (keeps_limits t) _ device.legal).0

-- the assignments of the request
pub settable_between : (t : Topology) (w : World) (r : Request) (d : Duplicates) → StandBetween t w r d → All IsSettable r.assigns
settable_between t w r d stand = all_settable t (look_up w) r.assigns (limits_of t stand.device)
    (accepted_allowed t (look_up w) r stand.early)

-- the CRTCs that the states say are named
pub named_between-is : {t : Topology} {w : World} {r : Request} {d : Duplicates} {mask : ℕ} → StandBetween t w r d
    → AreCrtcs (λ crtc. list_any (λ a. is_named_between d a crtc) r.assigns) mask
    → mask ≡ named_by t w r
named_between-is {t} {w} {r} {d} {mask} stand are =
    let new : List Setting = after w r in
    let allowed = accepted_allowed t (look_up w) r stand.early in
    let settable = settable_between t w r d stand in
    crtcs_named (look_up w) r.assigns
    (has_few t (limits_of t stand.device)) (plain_held-from t w.things w.values stand.sound.held) allowed settable are
    (λ crtc some. list_any-same (λ a. is_named_between d a crtc) (is_named_by w.values new crtc) r.assigns (λ a member.
    let fits = all_in IsSettable r.assigns a settable member in
    let may = all_in (IsAllowed t (look_up w)) r.assigns a allowed member in
    named_same t w.things w.values new d stand.old stand.new stand.all a.kind a.index crtc fits.place
    (ltb-true a.index (count_of t a.kind) may.exists) some))

-- the CRTCs with a label for an out-fence
asked_is : (o : Option ℕ) → is_some o ≡ is_asked o
asked_is None = refl
asked_is (Some label) = refl

pub fenced_is : (t : Topology) (r : Request) (numbers : List (Option ℕ)) → t.crtcs ≤ 4 → TellOutFences r.assigns numbers
    → mask_below (has_number_at numbers) t.crtcs ≡ fenced_set t r
fenced_is t r numbers few tell = same_masks (has_number_at numbers) (λ index. is_asked (out_fence_label r.assigns (object_id Crtc index)))
    t.crtcs
    (λ index less. ap (λ (o : Option ℕ). is_some o) (tell index (omega arith)) ∙ asked_is
    (out_fence_label r.assigns (object_id Crtc index)))

-- the numbers of the planes after the request
in_range_if : (b : Bool) (o : Option (Option (Both PlaneState)))
    → ((both : Both PlaneState) → o ≡ Some (Some both) → IsPlaneInRange both.new)
    → IfSome (if b then option_flatten o else None) (λ both. IsPlaneInRange both.new)
in_range_if false o fits = tt
in_range_if true None fits = tt
in_range_if true (Some None) fits = tt
in_range_if true (Some (Some both)) fits = fits both refl

pub planes_in_range : {t : Topology} {w : World} {r : Request} {d : Duplicates} (planes : ℕ) → StandBetween t w r d
    → ArePlanesInRange t d planes
planes_in_range {t} {w} {r} {d} planes stand index there =
    let new : List Setting = after w r in
    let held = plain-apply t w r stand.sound stand.early in
    in_range_if (has_bit planes index) (slice_get d.planes index) (λ both is.
    subst IsPlaneInRange (sym (stand.new.planes index both is))
    (plane_in_range t w.things new (object_id Plane index) held (ids-has t Plane index there)))

-- all objects cover what the request touches
all_cover : {t : Topology} {w : World} {r : Request} {d : Duplicates} → StandBetween t w r d
    → Covers t w r d (record { crtcs = 2 ^ 32 - 1; planes = 2 ^ 32 - 1; conns = 2 ^ 32 - 1 })
all_cover {t} stand =
    let few = has_few t (limits_of t stand.device) in
    record {
      planes = λ i there _. all_bits i (omega (arith, few.planes));
      crtcs = λ i there _. all_bits i (omega (arith, few.crtcs));
      conns = λ i there _. all_bits i (omega (arith, few.conns));
      has_planes = λ i there _. stand.all.planes i there;
      has_crtcs = λ i there _. stand.all.crtcs i there;
      has_conns = λ i there _. stand.all.conns i there;
      has_crtc_of = λ i j _ _ there _. stand.all.crtcs j there;
    }

-- the refusals of the states of all objects are those of the request
pub whole_is : {t : Topology} {w : World} {r : Request} {d : Duplicates} {named fenced : ℕ} → StandBetween t w r d
    → named ≡ named_by t w r → fenced ≡ fenced_set t r
    → late_of_states t d (record { crtcs = 2 ^ 32 - 1; planes = 2 ^ 32 - 1; conns = 2 ^ 32 - 1 }) r.flags named fenced
    ≡ late_refusal t w.things w.values (after w r) r
whole_is {t} {w} {r} {d} stand named_is fenced_is =
    rw (named_is, fenced_is) (late_of_states-is t w r d (record { crtcs = 2 ^ 32 - 1; planes = 2 ^ 32 - 1; conns = 2 ^ 32 - 1 })
    (record { at = record { device = stand.device; sound = stand.sound; early = stand.early }; old = stand.old; new = stand.new })
    (all_cover stand))
