-- The sets of planes and connectors of CRTCs when one goes from a CRTC to another.
use Rattle.std.proofs.Common.{◌≡◌, ◌≢◌, ℕ, ◌-◌, ◌^◌, ◌<◌, ◌≤◌, length, List, Option, ℤ, pos, Bool, true, false, inl, inr, refl, sym, ap}
use Rattle.std.proofs.Common.{◌∙◌, arith, if◌then◌else◌}
use Rattle.std.specs.Prelude.{◌==◌, not, bit_and, bit_or, ⊤}
use Rattle.std.specs.Ordering.{int_eq}
use Rattle.std.proofs.lemmas.Bool.{cases_eq, eq-eqb, ne_eqb}
use Rattle.std.proofs.lemmas.Nat.{one_shl}
use Rattle.kms_model.specs.declared.objects.Kind.{Kind}
use Rattle.kms_model.specs.declared.objects.Kind.TheVariants.{Crtc, Plane, Conn, Enc}
use Rattle.kms_model.specs.declared.objects.Topology.{Topology}
use Rattle.kms_model.specs.declared.properties.TheConstants.{ACTIVE, GAMMA_LUT, MODE_ID}
use Rattle.kms_model.specs.declared.states.Both.{Both}
use Rattle.kms_model.specs.declared.states.CrtcState.{CrtcState}
use Rattle.kms_model.specs.declared.worlds.Setting.{Setting}
use Rattle.kms_model.specs.declared.worlds.Thing.{Thing}
use Rattle.kms_model.specs.Device.Masks.{mask_below}
use Rattle.kms_model.specs.Device.Objects.{object_id, count_of}
use Rattle.kms_model.specs.Device.World.{thing_numbered}
use Rattle.kms_model.specs.Device.States.{crtc_at, gamma_of, mode_of}
use Rattle.kms_model.specs.Request.Agreement.{AreNew, crtc_state_at, on_crtc}
use Rattle.kms_model.proofs.MaskLemmas.{mask_set, mask_cleared, same_masks}
use Rattle.kms_model.proofs.ValueLemmas.{Puts}
use Rattle.kms_state.specs.Changes.{changed, rerouted, with_member, with_routed}
use Rattle.kms_state.proofs.Slots.{AreNew-changed, length-changed}
use Rattle.kms_state.proofs.Frames.{crtc_at-other, on_crtc-same, same_crtc_state}

pub with_member-set : (before after : ℕ → Bool) (n i : ℕ) → i < n → n ≤ 32 → after i ≡ true → ((k : ℕ) → k < n → k ≢ i → after k ≡ before k)
    → with_member (mask_below before n) i true ≡ mask_below after n
with_member-set before after n i low wide at other =
    ap (bit_or (mask_below before n)) (sym (one_shl i 32 (omega arith))) ∙ mask_set before after n i low wide at other

pub with_member-cleared : (before after : ℕ → Bool) (n i : ℕ) → i < n → n ≤ 32 → after i ≡ false
    → ((k : ℕ) → k < n → k ≢ i → after k ≡ before k) → with_member (mask_below before n) i false ≡ mask_below after n
with_member-cleared before after n i low wide at other =
    ap (λ m. bit_and (mask_below before n) (2 ^ 32 - 1 - m)) (sym (one_shl i 32 (omega arith))) ∙ mask_cleared before after n i low wide at
    other

-- those on a CRTC but one
abbrev pub but : (ℕ → Bool) → ℕ → ℕ → Bool
but test i k = if k == i then false else test k

but-same : (test : ℕ → Bool) (i : ℕ) → but test i i ≡ false
but-same test i = ap (λ b. if b then false else test i) (eq-eqb i i refl)

but-other : (test : ℕ → Bool) (i k : ℕ) → k ≢ i → but test i k ≡ test k
but-other test i k other = ap (λ b. if b then false else test k) (ne_eqb k i other)

-- the mask of a CRTC that one of its objects leaves
pub left : (test : ℕ → Bool) (n i : ℕ) (was : Bool) → i < n → n ≤ 32 → test i ≡ was
    → (if was then with_member (mask_below test n) i false else mask_below test n) ≡ mask_below (but test i) n
left test n i true low wide is = with_member-cleared test (but test i) n i low wide (but-same test i)
    (λ k h other. but-other test i k other)
left test n i false low wide is =
    same_masks test (but test i) n (λ k h. elim (cases_eq k i) [
      | inl same ↦ ap test same ∙ is ∙ sym (but-same test i) ∙ ap (but test i) (sym same)
      | inr other ↦ sym (but-other test i k other)
    ])

-- the mask of a CRTC that an object enters
pub entered : (before after : ℕ → Bool) (n i : ℕ) (is_on : Bool) → i < n → n ≤ 32 → after i ≡ is_on
    → ((k : ℕ) → k < n → k ≢ i → after k ≡ before k)
    → (if is_on then with_member (mask_below (but before i) n) i true else mask_below (but before i) n) ≡ mask_below after n
entered before after n i true low wide at other = with_member-set (but before i) after n i low wide at
    (λ k h apart. other k h apart ∙ sym (but-other before i k apart))
entered before after n i false low wide at other =
    same_masks (but before i) after n (λ k h. elim (cases_eq k i) [
      | inl same ↦ ap (but before i) same ∙ but-same before i ∙ sym at ∙ ap after (sym same)
      | inr apart ↦ but-other before i k apart ∙ sym (other k h apart)
    ])

-- the kinds of object that are on a CRTC
abbrev pub IsRouted : Kind → Type 0
IsRouted Crtc = ⊥
IsRouted Plane = ⊤
IsRouted Conn = ⊤
IsRouted Enc = ⊥

-- a CRTC's set of objects of a kind
abbrev mask_of : Kind → CrtcState → ℕ
mask_of Plane s = s.planes
mask_of Conn s = s.conns
mask_of Crtc s = 0
mask_of Enc s = 0

abbrev with_mask : Kind → ℕ → CrtcState → CrtcState
with_mask Plane mask s = record s { planes = mask }
with_mask Conn mask s = record s { conns = mask }
with_mask Crtc mask s = s
with_mask Enc mask s = s

mask_of-with : (kind : Kind) (mask : ℕ) (s : CrtcState) → IsRouted kind → mask_of kind (with_mask kind mask s) ≡ mask
mask_of-with Crtc mask s routed = absurd routed
mask_of-with Plane mask s routed = refl
mask_of-with Conn mask s routed = refl
mask_of-with Enc mask s routed = absurd routed

with_mask-twice : (kind : Kind) (mask other : ℕ) (s : CrtcState) → with_mask kind mask (with_mask kind other s) ≡ with_mask kind mask s
with_mask-twice Crtc mask other s = refl
with_mask-twice Plane mask other s = refl
with_mask-twice Conn mask other s = refl
with_mask-twice Enc mask other s = refl

-- a state of which the set changes, where a test says so
chosen : (kind : Kind) (b there : Bool) (index : ℕ) (s : CrtcState)
    → with_mask kind (if b then with_member (mask_of kind s) index there else mask_of kind s) s
    ≡ (if b then with_routed kind index there s else s)
chosen Crtc true there index s = refl
chosen Crtc false there index s = refl
chosen Plane true there index s = refl
chosen Plane false there index s = refl
chosen Conn true there index s = refl
chosen Conn false there index s = refl
chosen Enc true there index s = refl
chosen Enc false there index s = refl

mask_of-state : (t : Topology) (things : List Thing) (values : List Setting) (crtc : ℕ) (kind : Kind) → IsRouted kind
    → mask_of kind (crtc_state_at t things values crtc) ≡ on_crtc t values crtc kind
mask_of-state t things values crtc Crtc routed = absurd routed
mask_of-state t things values crtc Plane routed = refl
mask_of-state t things values crtc Conn routed = refl
mask_of-state t things values crtc Enc routed = absurd routed

-- an object that is on a CRTC is none
apart_from_crtc : (kind : Kind) (index c : ℕ) → IsRouted kind → c < 100 → object_id Crtc c ≢ object_id kind index
apart_from_crtc Crtc index c routed low e = absurd routed
apart_from_crtc Plane index c routed low e = omega arith
apart_from_crtc Conn index c routed low e = omega arith
apart_from_crtc Enc index c routed low e = absurd routed

-- a CRTC's state after a set of a plane or a connector: its set of these alone may differ
state_after : (t : Topology) (things : List Thing) (before after : List Setting) (kind : Kind) (index prop c : ℕ) (number : ℤ)
    → IsRouted kind → length t.planes ≤ 16 → index < 100 → c < 100
    → Puts before after (object_id kind index) prop number
    → crtc_state_at t things after (object_id Crtc c)
    ≡ with_mask kind (on_crtc t after (object_id Crtc c) kind) (crtc_state_at t things before (object_id Crtc c))
state_after t things before after Crtc index prop c number routed planes room low puts = absurd routed
state_after t things before after Plane index prop c number routed planes room low puts =
    same_crtc_state (crtc_state_at t things after (object_id Crtc c))
    (with_mask Plane (on_crtc t after (object_id Crtc c) Plane) (crtc_state_at t things before (object_id Crtc c)))
    (ap (λ z. not (int_eq z (pos 0))) (puts.other_object (object_id Crtc c) ACTIVE (apart_from_crtc Plane index c routed low)))
    (ap (λ z. mode_of (thing_numbered things z)) (puts.other_object (object_id Crtc c) MODE_ID (apart_from_crtc Plane index c routed low)))
    (ap (λ z. gamma_of (thing_numbered things z))
    (puts.other_object (object_id Crtc c) GAMMA_LUT (apart_from_crtc Plane index c routed low)))
    refl
    (on_crtc-same t before after (object_id Crtc c) Conn
    (λ k within. crtc_at-other (object_id Conn k) puts (λ e. omega (arith, e))))
state_after t things before after Conn index prop c number routed planes room low puts =
    same_crtc_state (crtc_state_at t things after (object_id Crtc c))
    (with_mask Conn (on_crtc t after (object_id Crtc c) Conn) (crtc_state_at t things before (object_id Crtc c)))
    (ap (λ z. not (int_eq z (pos 0))) (puts.other_object (object_id Crtc c) ACTIVE (apart_from_crtc Conn index c routed low)))
    (ap (λ z. mode_of (thing_numbered things z)) (puts.other_object (object_id Crtc c) MODE_ID (apart_from_crtc Conn index c routed low)))
    (ap (λ z. gamma_of (thing_numbered things z))
    (puts.other_object (object_id Crtc c) GAMMA_LUT (apart_from_crtc Conn index c routed low)))
    (on_crtc-same t before after (object_id Crtc c) Plane
    (λ k within. crtc_at-other (object_id Plane k) puts
    (λ e. omega (arith, e, within))))
    refl
state_after t things before after Enc index prop c number routed planes room low puts = absurd routed

object_apart : (kind : Kind) (k i : ℕ) → k ≢ i → object_id kind k ≢ object_id kind i
object_apart kind k i other e = other (omega (arith, e))

-- the CRTCs after a plane or a connector goes from one to another
pub AreNew-rerouted : (t : Topology) (things : List Thing) (before after : List Setting) (kind : Kind) (index prop : ℕ) (number : ℤ)
    (crtcs : List (Option (Both CrtcState)))
    → IsRouted kind → length t.planes ≤ 16 → index < count_of t kind → count_of t kind ≤ 16 → length crtcs ≤ 4
    → Puts before after (object_id kind index) prop number
    → AreNew (λ c. crtc_state_at t things before (object_id Crtc c)) crtcs
    → AreNew (λ c. crtc_state_at t things after (object_id Crtc c))
    (rerouted crtcs kind index (crtc_at before (object_id kind index)) (crtc_at after (object_id kind index)))
AreNew-rerouted t things before after kind index prop number crtcs routed planes low room few puts agrees =
    let n : ℕ = count_of t kind in
    let from : ℕ = crtc_at before (object_id kind index) in
    let to : ℕ = crtc_at after (object_id kind index) in
    let test : List Setting → ℕ → ℕ → Bool = λ values c k. crtc_at values (object_id kind k) == object_id Crtc c in
    let old : ℕ → CrtcState = λ c. crtc_state_at t things before (object_id Crtc c) in
    let mid : ℕ → CrtcState = λ c. with_mask kind (mask_below (but (test before c) index) n) (old c) in
    let new : ℕ → CrtcState = λ c. crtc_state_at t things after (object_id Crtc c) in
    let leaves : (c : ℕ) → c < length crtcs → mid c
    ≡ (if from == object_id Crtc c then with_routed kind index false (old c) else old c) = λ c h.
    (let is : mask_of kind (old c) ≡ mask_below (test before c) n = mask_of-state t things before (object_id Crtc c) kind routed in
    ap (λ m. with_mask kind m (old c)) (sym (ap (λ m. if test before c index then with_member m index false else m) is ∙ left
    (test before c) n index (test before c index) low (omega arith) refl))
    ∙ chosen kind (test before c index) false index (old c)) in
    let others : (c k : ℕ) → k < n → k ≢ index → test after c k
    ≡ test before c k = λ c k h other. ap (λ x. x == object_id Crtc c)
    (crtc_at-other (object_id kind k) puts (object_apart kind k index other)) in
    let enters : (c : ℕ) → c < length crtcs → new c
    ≡ (if to == object_id Crtc c then with_routed kind index true (mid c) else mid c) = λ c h.
    (let is : mask_of kind (mid c) ≡ mask_below (but (test before c) index) n = mask_of-with kind (mask_below (but (test before c) index) n)
    (old c) routed in
    state_after t things before after kind index prop c number routed planes (omega arith) (omega arith) puts
    ∙ sym (with_mask-twice kind (on_crtc t after (object_id Crtc c) kind) (mask_below (but (test before c) index) n) (old c))
    ∙ ap (λ m. with_mask kind m (mid c)) (sym (ap (λ m. if test after c index then with_member m index true else m) is ∙ entered
    (test before c) (test after c) n index (test after c index) low (omega arith) refl (others c)))
    ∙ chosen kind (test after c index) true index (mid c)) in
    let first : List (Option (Both CrtcState)) = changed Crtc crtcs from (with_routed kind index false) in
    let same : length first ≡ length crtcs = length-changed Crtc crtcs from (with_routed kind index false) in
    AreNew-changed mid new Crtc first to (with_routed kind index true)
    (AreNew-changed old mid Crtc crtcs from (with_routed kind index false) agrees leaves)
    (λ c h. enters c (omega (arith, same, h)))
