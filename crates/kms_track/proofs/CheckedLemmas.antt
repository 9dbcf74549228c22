-- What a check gives for an accepted request is what a tracker is told of its commit.
use Rattle.std.proofs.Common.{◌≡◌, ℕ, ◌-◌, ◌<◌, ◌≤◌, List, length, get_or, Bool, true, false, Option, Some, None, inl, inr, arith, refl}
use Rattle.std.proofs.Common.{sym, ap, ◌∙◌}
use Rattle.std.specs.Prelude.{◌==◌, ◌&&◌, ◌||◌, nat_lt, is_some, slice_get}
use Rattle.std.proofs.lemmas.Bool.{and_parts, cases_eq, cases_lt, eq-eqb, false≢true, ltb-true, ne_eqb}
use Rattle.std.proofs.lemmas.Option.{slice_get-get_or}
use Rattle.std.proofs.Math.ListN.{get_or-eq_default}
use borrow.Author.Tests.{le-ltb, lt-ltb}
use Rattle.kms_model.specs.declared.objects.Kind.{Kind}
use Rattle.kms_model.specs.declared.objects.Kind.TheVariants.{Crtc, Plane, Conn}
use Rattle.kms_model.specs.declared.objects.Topology.{Topology}
use Rattle.kms_model.specs.declared.scripts.Request.{Request}
use Rattle.kms_model.specs.declared.states.Both.{Both}
use Rattle.kms_model.specs.declared.states.Checked.{Checked}
use Rattle.kms_model.specs.declared.states.ConnState.{ConnState}
use Rattle.kms_model.specs.declared.states.Mask.{Mask}
use Rattle.kms_model.specs.declared.states.PlaneState.{PlaneState}
use Rattle.kms_model.specs.declared.worlds.Setting.{Setting}
use Rattle.kms_model.specs.declared.worlds.World.{World}
use Rattle.kms_model.specs.Device.Masks.{has_bit, mask_below}
use Rattle.kms_model.specs.Device.Objects.{count_of, kind_of, object_id}
use Rattle.kms_model.specs.Device.Sound.IsCrtcOrNone.{IsCrtc, IsNone}
use Rattle.kms_model.specs.Device.Sound.{IsCrtcOrNone, IsDevice, IsLawful}
use Rattle.kms_model.specs.Device.States.{crtc_at}
use Rattle.kms_model.specs.Machine.Commits.{is_on_before_or_after, new_values, old_values}
use Rattle.kms_model.specs.Machine.State.{Commit}
use Rattle.kms_model.specs.Request.Apply.{after}
use Rattle.kms_model.specs.Request.Deciding.{IsChecked}
use Rattle.kms_model.specs.Request.Named.{moves_on}
use Rattle.kms_model.specs.Request.Touched.{touched_by, touches, touches_crtc, touches_of_kind, touches_routed}
use Rattle.kms_model.specs.Request.Verdict.{verdict}
use Rattle.kms_model.proofs.KindsOfIds.{kind_of-object}
use Rattle.kms_model.proofs.MaskLemmas.{has_bit-mask_below}
use Rattle.kms_model.proofs.SoundKept.{sound-apply}
use Rattle.kms_model.proofs.StateLemmas.{sound-conn_crtc, sound-plane_crtc}
use Rattle.kms_model.proofs.TouchedLemmas.{HasFewObjects, few_objects}
use Rattle.kms_track.specs.declared.places.Sides.{Sides}
use Rattle.kms_track.specs.InStep.{HasStates, IsCheckedFor, IsWithinPlaces, is_of_device}
use Rattle.kms_track.specs.Places.{connector_sides, crtc_id, is_side, mask_has, object_at_place, plane_sides, sides_at}
use Rattle.kms_track.proofs.There.{crtc_off, on_index}

pub device_within : (t : Topology) → IsDevice t → IsWithinPlaces t
device_within t device = let few : HasFewObjects t = few_objects t device
    in record { crtcs = few.crtcs; planes = few.planes; conns = few.conns }

-- What is touched

on_and_touched : (t : Topology) (w : World) (r : Request) (kind : Kind) (j : ℕ) → j < 100
    → (is_of_device t (object_id kind j) && touches t w r (object_id kind j))
    ≡ (nat_lt j (count_of t kind) && touches_of_kind kind t w r (object_id kind j))
unfolding touches
on_and_touched t w r kind j few =
    ap (λ b. b && touches_of_kind (kind_of (object_id kind j)) t w r (object_id kind j)) (on_index t kind j few)
    ∙ ap (λ k. nat_lt j (count_of t kind) && touches_of_kind k t w r (object_id kind j)) (kind_of-object kind j few)

-- the objects of the device that a request touches are those of its set
pub in_touched : (t : Topology) (w : World) (r : Request) (p : ℕ) → p < 28
    → (is_of_device t (object_at_place p) && touches t w r (object_at_place p)) ≡ mask_has (touched_by t w r) p
in_touched t w r p place =
    elim (cases_lt p 4) [
      | inl crtc ↦ rw (lt-ltb p 4 crtc) (on_and_touched t w r Crtc p (omega arith) ∙ sym
          (has_bit-mask_below (λ index. touches_crtc w.values (after w r) r.assigns (object_id Crtc index)) (count_of t Crtc) p))
      | inr other ↦ elim (cases_lt p 20) [
        | inl plane ↦ rw (le-ltb p 4 other, lt-ltb p 20 plane) (
            on_and_touched t w r Plane (p - 4) (omega arith)
            ∙ sym (has_bit-mask_below (λ index. touches_routed t w.things w.values (after w r) r.assigns (object_id Plane index))
            (count_of t Plane) (p - 4)))
        | inr conn ↦ rw (le-ltb p 4 other, le-ltb p 20 conn) (
            on_and_touched t w r Conn (p - 20) (omega arith)
            ∙ sym (has_bit-mask_below (λ index. touches_routed t w.things w.values (after w r) r.assigns (object_id Conn index))
            (count_of t Conn) (p - 20)))
      ]
    ]

-- what was checked as touched is what a commit touches, of the objects of the device
pub mask_on : (t : Topology) (c : Commit) (checked : Checked) (p : ℕ) → IsChecked t c.world c.request checked → p < 28
    → mask_has checked.touched p ≡ (is_of_device t (object_at_place p) && touches t c.world c.request (object_at_place p))
mask_on t c checked p is place = ap (λ (m : Mask). mask_has m p) is.touched ∙ sym (in_touched t c.world c.request p place)

pub touched_here : (t : Topology) (c : Commit) (checked : Checked) (p : ℕ) → IsChecked t c.world c.request checked → p < 28
    → is_of_device t (object_at_place p) ≡ true → mask_has checked.touched p ≡ touches t c.world c.request (object_at_place p)
touched_here t c checked p is place on =
    mask_on t c checked p is place ∙ ap (λ b. b && touches t c.world c.request (object_at_place p)) on

-- a member of a set of objects is on the device
member_there : (test : ℕ → Bool) (n i : ℕ) (mask : ℕ) → has_bit mask i ≡ (nat_lt i n && test i) → has_bit mask i ≡ true → i < n
member_there test n i mask is has = ltb-true i n (and_parts (nat_lt i n) (test i) (sym is ∙ has)).0

-- The CRTCs of what is touched

-- what stands at a place where something stands
pub got : {S : Type 0} (states : List (Option (Both S))) (i : ℕ) (both : Both S) → get_or states i None ≡ Some both
    → slice_get states i ≡ Some (Some both)
got {S} states i both is =
    elim (cases_lt i (length states)) [
      | inl within ↦ slice_get-get_or states i None within ∙ ap (λ (o : Option (Both S)). Some o) is
      | inr past ↦ (let none : None ≡ Some both = sym (get_or-eq_default states None past) ∙ is in absurd cc)
    ]

record Stands {S : Type 0} (states : List (Option (Both S))) (i : ℕ) : Type 0 where
  pub both : Both S
  pub read : get_or states i None ≡ Some both

stands_at : {S : Type 0} (states : List (Option (Both S))) (i : ℕ) (o : Option (Both S)) → get_or states i None ≡ o → is_some o ≡ true
    → Stands states i
stands_at states i None is some = absurd (false≢true some)
stands_at states i (Some both) is some = record { both = both; read = is }

-- no object is on a CRTC beyond the device
not_beyond : (t : Topology) (id i : ℕ) → IsCrtcOrNone t id → count_of t Crtc ≤ i → (id == crtc_id i) ≡ false
not_beyond t id i (IsNone none) beyond = ne_eqb id (crtc_id i) (λ e. absurd (omega (arith, none, e)))
not_beyond t id i (IsCrtc index within is) beyond = ne_eqb id (crtc_id i) (λ e. absurd (omega (arith, within, is, e, beyond)))

sides_same : (t : Topology) (old new : List Setting) (object i : ℕ) (sides : Sides) → i < 4 → IsWithinPlaces t
    → IsCrtcOrNone t (crtc_at old object) → IsCrtcOrNone t (crtc_at new object)
    → sides.old ≡ crtc_at old object → sides.new ≡ crtc_at new object → (is_of_device t (crtc_id i) && moves_on old new (crtc_id i) object)
    ≡ is_side sides (crtc_id i)
sides_same t old new object i sides low limits on_old on_new same_old same_new =
    elim (cases_lt i (count_of t Crtc)) [
      | inl within ↦ ap (λ b. b && moves_on old new (crtc_id i) object)
          (on_index t Crtc i (omega (arith, low)) ∙ lt-ltb i (count_of t Crtc) within) ∙ sides_are
      | inr beyond ↦
          ap (λ b. b && moves_on old new (crtc_id i) object) (crtc_off t i beyond low)
          ∙ (sym (ap (λ b. b || (crtc_at new object == crtc_id i)) (not_beyond t (crtc_at old object) i on_old beyond) ∙ not_beyond t
          (crtc_at new object) i on_new beyond) ∙ sides_are)
    ]
  where
    sides_are : moves_on old new (crtc_id i) object ≡ is_side sides (crtc_id i)
    sides_are = ap (λ n. (n == crtc_id i) || (crtc_at new object == crtc_id i)) (sym same_old) ∙ ap
        (λ n. (sides.old == crtc_id i) || (n == crtc_id i)) (sym same_new)

crtc_is_side : (t : Topology) (p i : ℕ) → p < 4 → i < 4 → is_of_device t (object_id Crtc p) ≡ true
    → (is_of_device t (crtc_id i) && (object_id Crtc p == crtc_id i)) ≡ ((object_id Crtc p == crtc_id i) || (object_id Crtc p == crtc_id i))
crtc_is_side t p i low few on =
    elim (cases_eq p i) [
      | inl same ↦ (let here : (object_id Crtc p == crtc_id i) ≡ true = eq-eqb (object_id Crtc p) (crtc_id i) (ap (object_id Crtc) same) in
          rw here (ap (λ n. is_of_device t n && true) (ap (object_id Crtc) (sym same)) ∙ ap (λ b. b && true) on))
      | inr apart ↦ (let other : (object_id Crtc p == crtc_id i)
          ≡ false = ne_eqb (object_id Crtc p) (crtc_id i) (λ e. apart (omega (arith, e)))
          in rw other (and_off (is_of_device t (crtc_id i))))
    ]
  where
    and_off : (b : Bool) → (b && false) ≡ false
    and_off true = refl
    and_off false = refl

module _ (t : Topology) (c : Commit) (checked : Checked) (device : IsDevice t) (lawful : IsLawful t c.world)
    (accepted : verdict t c.world c.request ≡ None) (is : IsChecked t c.world c.request checked) (states : HasStates checked) where
  limits : IsWithinPlaces t
  limits = device_within t device

  next : IsLawful t (record c.world { values = new_values c; commits = c.world.commits })
  next = sound-apply t c.world c.request c.world.commits lawful accepted

  on_crtc : (p i : ℕ) → p < 4 → i < 4 → has_bit checked.touched.crtcs p ≡ true
      → (is_of_device t (crtc_id i) && is_on_before_or_after (kind_of (object_id Crtc p)) c (object_id Crtc p) (crtc_id i))
      ≡ ((object_id Crtc p == crtc_id i) || (object_id Crtc p == crtc_id i))
  on_crtc p i low few has =
      let same : has_bit checked.touched.crtcs p ≡ (nat_lt p (count_of t Crtc)
      && touches_crtc c.world.values (after c.world c.request) c.request.assigns (object_id Crtc p)) =
      ap (λ (m : Mask). has_bit m.crtcs p) is.touched ∙ has_bit-mask_below
      (λ index. touches_crtc c.world.values (after c.world c.request) c.request.assigns (object_id Crtc index)) (count_of t Crtc) p in
      let there : nat_lt p (count_of t Crtc) ≡ true = (and_parts (nat_lt p (count_of t Crtc)) _ (sym same ∙ has)).0 in
      ap (λ k. is_of_device t (crtc_id i) && is_on_before_or_after k c (object_id Crtc p) (crtc_id i))
      (kind_of-object Crtc p (omega (arith, low)))
      ∙ crtc_is_side t p i low few (on_index t Crtc p (omega (arith, low)) ∙ there)

  -- a member of the objects of a kind that were touched is on the device
  touched_there : (kind : Kind) (j mask : ℕ) → mask
      ≡ mask_below (λ index. touches_routed t c.world.things c.world.values (after c.world c.request) c.request.assigns
      (object_id kind index)) (count_of t kind)
      → has_bit mask j ≡ true → j < count_of t kind
  touched_there kind j mask is has =
      let test : ℕ → Bool = λ index. touches_routed t c.world.things c.world.values (after c.world c.request) c.request.assigns
      (object_id kind index) in
      member_there test (count_of t kind) j mask (ap (λ m. has_bit m j) is ∙ has_bit-mask_below test (count_of t kind) j) has

  -- an object that is on a CRTC or on none is, before and after, on those that its duplicates say
  on_routed : {S : Type 0} (kind : Kind) (j i mask : ℕ) (states : List (Option (Both S))) (crtc_of : S → ℕ)
      (sides : Option (Both S) → Sides) → is_some (get_or states j None) ≡ true → j < 100 → i < 4
      → mask ≡ mask_below (λ index. touches_routed t c.world.things c.world.values (after c.world c.request) c.request.assigns
      (object_id kind index)) (count_of t kind) → has_bit mask j ≡ true
      → ((both : Both S) → sides (Some both) ≡ record { old = crtc_of both.old; new = crtc_of both.new })
      → ((object crtc : ℕ) → is_on_before_or_after kind c object crtc ≡ moves_on (old_values c) (new_values c) crtc object)
      → (j < count_of t kind → IsCrtcOrNone t (crtc_at (old_values c) (object_id kind j)))
      → (j < count_of t kind → IsCrtcOrNone t (crtc_at (new_values c) (object_id kind j)))
      → ((both : Both S) → slice_get states j ≡ Some (Some both) → (crtc_of both.old ≡ crtc_at (old_values c) (object_id kind j))
      × (crtc_of both.new ≡ crtc_at (new_values c) (object_id kind j)))
      → (is_of_device t (crtc_id i) && is_on_before_or_after (kind_of (object_id kind j)) c (object_id kind j) (crtc_id i))
      ≡ is_side (sides (get_or states j None)) (crtc_id i)
  on_routed kind j i mask states crtc_of sides some low few is_mask has sides_are routed on_old on_new say =
      let there : Stands states j = stands_at states j (get_or states j None) refl some in
      let within = touched_there kind j mask is_mask has in
      let says = say there.both (got states j there.both there.read) in
      ap (λ k. is_of_device t (crtc_id i) && is_on_before_or_after k c (object_id kind j) (crtc_id i)) (kind_of-object kind j low)
      ∙ ap (λ b. is_of_device t (crtc_id i) && b) (routed (object_id kind j) (crtc_id i))
      ∙ sides_same t (old_values c) (new_values c) (object_id kind j) i
      (record { old = crtc_of there.both.old; new = crtc_of there.both.new }) few limits (on_old within) (on_new within) says.0 says.1
      ∙ ap (λ (s : Sides). is_side s (crtc_id i)) (sym (sides_are there.both))
      ∙ ap (λ (o : Option (Both _)). is_side (sides o) (crtc_id i)) (sym there.read)

  on_plane : (j i : ℕ) → j < 16 → i < 4 → has_bit checked.touched.planes j ≡ true → is_some (get_or checked.states.planes j None) ≡ true
      → (is_of_device t (crtc_id i) && is_on_before_or_after (kind_of (object_id Plane j)) c (object_id Plane j) (crtc_id i))
      ≡ is_side (plane_sides (get_or checked.states.planes j None)) (crtc_id i)
  on_plane j i low few has some = on_routed Plane j i checked.touched.planes checked.states.planes (λ (s : PlaneState). s.crtc) plane_sides
      some (omega (arith, low)) few (ap (λ (m : Mask). m.planes) is.touched) has
      (λ both. refl) (λ object crtc. refl) (sound-plane_crtc t c.world j lawful.sound) (sound-plane_crtc t _ j next.sound)
      (λ both there. (
        ap (λ (s : PlaneState). s.crtc) (is.old.planes j both there),
        ap (λ (s : PlaneState). s.crtc) (is.new.planes j both there),
      ))

  on_connector : (j i : ℕ) → j < 8 → i < 4 → has_bit checked.touched.conns j ≡ true → is_some (get_or checked.states.conns j None) ≡ true
      → (is_of_device t (crtc_id i) && is_on_before_or_after (kind_of (object_id Conn j)) c (object_id Conn j) (crtc_id i))
      ≡ is_side (connector_sides (get_or checked.states.conns j None)) (crtc_id i)
  on_connector j i low few has some = on_routed Conn j i checked.touched.conns checked.states.conns (λ (s : ConnState). s.crtc)
      connector_sides some (omega (arith, low)) few (ap (λ (m : Mask). m.conns) is.touched) has
      (λ both. refl) (λ object crtc. refl) (sound-conn_crtc t c.world j lawful.sound) (sound-conn_crtc t _ j next.sound)
      (λ both there. (
        ap (λ (s : ConnState). s.crtc) (is.old.conns j both there),
        ap (λ (s : ConnState). s.crtc) (is.new.conns j both there),
      ))

  on_place_side : (p i : ℕ) → p < 28 → i < 4 → mask_has checked.touched p ≡ true
      → (is_of_device t (crtc_id i) && is_on_before_or_after (kind_of (object_at_place p)) c (object_at_place p) (crtc_id i))
      ≡ is_side (sides_at checked.states p) (crtc_id i)
  on_place_side p i place few has =
      elim (cases_lt p 4) [
        | inl crtc ↦ rw (lt-ltb p 4 crtc) (on_crtc p i crtc few (rw (lt-ltb p 4 crtc) at has))
        | inr other ↦ elim (cases_lt p 20) [
          | inl plane ↦ rw (le-ltb p 4 other, lt-ltb p 20 plane)
              (on_plane (p - 4) i (omega (arith, plane, other)) few (rw (le-ltb p 4 other, lt-ltb p 20 plane) at has)
              (states.planes (p - 4) (omega (arith, plane, other)) (rw (le-ltb p 4 other, lt-ltb p 20 plane) at has)))
          | inr conn ↦ rw (le-ltb p 4 other, le-ltb p 20 conn)
              (on_connector (p - 20) i (omega (arith, place, conn)) few (rw (le-ltb p 4 other, le-ltb p 20 conn) at has)
              (states.conns (p - 20) (omega (arith, place, conn)) (rw (le-ltb p 4 other, le-ltb p 20 conn) at has)))
        ]
      ]

  pub checked_for : IsCheckedFor t c checked
  checked_for = record { is = is; states = states; on = on_place_side }
