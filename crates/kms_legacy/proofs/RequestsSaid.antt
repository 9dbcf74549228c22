-- The request of a call is one that words of the old script's names spell, and it makes no label.
use Rattle.std.proofs.Common.{◌≡◌, ℕ, zero, suc, ◌+◌, ◌*◌, ◌<◌, ◌≤◌, ◌^◌, Bool, true, false, not, List, [], ◌∷◌, ◌++◌, cond, length}
use Rattle.std.proofs.Common.{length-append, map, Option, Some, None, Ok, Err, ℤ, pos, negsuc, refl, ap, subst, ◌∙◌, arith}
use Rattle.std.specs.Prelude.{◌==◌, Result, filter, nat_le, nat_lt}
use Rattle.std.specs.List.{list_all, range_with_len}
use Rattle.std.proofs.lemmas.Bool.{and_from, and_parts, le-leb, leb-true, ltb-true}
use Rattle.std.proofs.lemmas.List.Folds.{list_all-append}
use Rattle.kms_model.specs.declared.flags.TheConstants.{ALLOW_MODESET, NONBLOCK, PAGE_FLIP_EVENT}
use Rattle.kms_model.specs.declared.legacy.LegacyCall.{LegacyCall}
use Rattle.kms_model.specs.declared.legacy.LegacyCall.TheVariants as call
use Rattle.kms_model.specs.declared.objects.Kind.TheVariants.{Crtc, Plane, Conn}
use Rattle.kms_model.specs.declared.objects.Mode.{Mode}
use Rattle.kms_model.specs.declared.objects.Topology.{Topology}
use Rattle.kms_model.specs.declared.pictures.FbInfo.{FbInfo}
use Rattle.kms_model.specs.declared.pictures.Rect.{Rect}
use Rattle.kms_model.specs.declared.properties.TheConstants.{FB_ID, CRTC_ID, CRTC_X, CRTC_Y, CRTC_W, CRTC_H, SRC_X, SRC_Y, SRC_W, SRC_H}
use Rattle.kms_model.specs.declared.scripts.Assign.{Assign}
use Rattle.kms_model.specs.declared.scripts.Request.{Request}
use Rattle.kms_model.specs.declared.scripts.Value.TheVariants as value
use Rattle.kms_model.specs.Device.Objects.{exists, indices_of, object_id}
use Rattle.kms_model.specs.Device.Sound.{IsDevice}
use Rattle.kms_model.specs.Legacy.LegacyCalls.{is_number, is_rect}
use Rattle.kms_model.specs.Legacy.Translation.{Present, asks, call_request, changes_format, conns_now, crtc_on, cursor, fb_size}
use Rattle.kms_model.specs.Legacy.Translation.{flip_request, in_fixed, mode_size, others, plane_on, primary, sized_at, special_plane}
use Rattle.kms_model.specs.Legacy.Translation.{with_plane}
use Rattle.kms_model.specs.Request.Resolves.{IsSettableNumber}
use Rattle.kms_model.specs.Script.Assigning.{conn_off, crtc_off, plane_off}
use Rattle.kms_model.specs.Script.Generated.{assigns_to}
use Rattle.kms_model.specs.Script.WellFormed.{is_assign_in, is_integer, is_label_in, is_word32}
use Rattle.kms_model.proofs.TouchedLemmas.{few_objects}
use Rattle.kms_script.specs.ReadAnew.{IsSaid, makes_nothing}
use Rattle.kms_legacy.specs.Asked.{HasFbSize, HasModeSize}
use Rattle.kms_legacy.specs.Translating.{IsFitCall}
use Rattle.kms_legacy.proofs.Numbers.{narrow}
use Rattle.kms_legacy.proofs.SamePresent.{special_within}

-- Numbers

whole : (n : ℕ) → n ≤ 18446744073709551615 → is_integer (pos n) ≡ true
whole n le = rw (le-leb n 18446744073709551615 le) refl

integer : (z : ℤ) → IsSettableNumber z → is_integer z ≡ true
integer (pos n) small = whole n (omega (arith, small))
integer (negsuc n) small = rw (le-leb n 9223372036854775807 (omega (arith, small))) refl

of_range : (prop : ℕ) (z : ℤ) → is_number prop z ≡ true → is_integer z ≡ true
of_range prop z is = integer z (narrow prop z is)

record HasIntegers (r : Rect) : Type 0 where
  x : is_integer r.x ≡ true
  y : is_integer r.y ≡ true
  w : is_integer r.w ≡ true
  h : is_integer r.h ≡ true

of_rect : (left top width height : ℕ) (r : Rect) → is_rect left top width height r ≡ true → HasIntegers r
of_rect left top width height r is =
    let x = and_parts (is_number left r.x) _ is in
    let y = and_parts (is_number top r.y) _ x.1 in
    let w = and_parts (is_number width r.w) (is_number height r.h) y.1 in
    record { x = of_range left r.x x.0; y = of_range top r.y y.0; w = of_range width r.w w.0; h = of_range height r.h w.1 }

record IsSize (size : ℕ × ℕ) : Type 0 where
  width : size.0 < 2 ^ 32
  height : size.1 < 2 ^ 32

of_mode : (mode : Option Mode) → HasModeSize mode → IsSize (mode_size mode)
of_mode None is = record { width = omega arith; height = omega arith }
of_mode (Some m) is = record { width = omega (arith, is.0); height = omega (arith, is.1) }

of_fb : (fb : Option FbInfo) → HasFbSize fb → IsSize (fb_size fb)
of_fb None is = record { width = omega arith; height = omega arith }
of_fb (Some info) is = record { width = is.0; height = is.1 }

sized : (x y : ℤ) (size : ℕ × ℕ) → is_integer x ≡ true → is_integer y ≡ true → IsSize size → HasIntegers (sized_at x y size)
sized x y size left top is = record
    { x = left; y = top; w = whole size.0 (omega (arith, is.width)); h = whole size.1 (omega (arith, is.height)) }

fixed : (x y : ℕ) (size : ℕ × ℕ) → x ≤ 65535 → y ≤ 65535 → IsSize size → HasIntegers (in_fixed x y size)
fixed x y size left top is = record {
  x = whole (65536 * x) (omega (arith, left));
  y = whole (65536 * y) (omega (arith, top));
  w = whole (65536 * size.0) (omega (arith, is.width));
  h = whole (65536 * size.1) (omega (arith, is.height));
}

-- Assignments

-- assignments that words spell, which make no label, and at most so many
record AreSaid (n profile : ℕ) (names : List (List ℕ)) (assigns : List Assign) : Type 0 where
  spelt : list_all (is_assign_in profile names) assigns ≡ true
  nothing : list_all (λ a. makes_nothing a.value) assigns ≡ true
  few : length assigns ≤ n

both_said : (m n profile : ℕ) (names : List (List ℕ)) (xs ys : List Assign) → AreSaid m profile names xs → AreSaid n profile names ys
    → AreSaid (m + n) profile names (xs ++ ys)
both_said m n profile names xs ys one two = record {
  spelt = list_all-append (is_assign_in profile names) xs ys ∙ and_from _ _ one.spelt two.spelt;
  nothing = list_all-append (λ (a : Assign). makes_nothing a.value) xs ys ∙ and_from _ _ one.nothing two.nothing;
  few = omega (arith, length-append xs ys, one.few, two.few);
}

module _ (profile : ℕ) (names : List (List ℕ)) (some : nat_le 1 profile ≡ true) where
  plane_said : (plane crtc fb : ℕ) (dst src : Rect) → plane ≤ 255 → crtc ≤ 255 → is_label_in names fb ≡ true → HasIntegers dst
      → HasIntegers src → AreSaid 10 profile names (plane_on plane crtc fb dst src)
  plane_said plane crtc fb dst src low few label d s = record {
    spelt = rw (le-leb plane 255 low, le-leb crtc 255 few, some, label, d.x, d.y, d.w, d.h, s.x, s.y, s.w, s.h) refl;
    nothing = refl;
    few = omega arith;
  }

  off_said : (plane : ℕ) → plane ≤ 255 → AreSaid 2 profile names (plane_off plane)
  off_said plane low = record { spelt = rw (le-leb plane 255 low, some) refl; nothing = refl; few = omega arith }

  dark_said : (crtc : ℕ) → crtc ≤ 255 → AreSaid 2 profile names (crtc_off crtc)
  dark_said crtc low = record { spelt = rw (le-leb crtc 255 low, some) refl; nothing = refl; few = omega arith }

  conns_said : (conns : List ℕ) → list_all (λ c. nat_le c 255) conns ≡ true → AreSaid (length conns) profile names (map conn_off conns)
  conns_said [] low = record { spelt = refl; nothing = refl; few = omega arith }
  conns_said (c ∷ cs) low =
      let both = and_parts (nat_le c 255) (list_all (λ x. nat_le x 255) cs) low in
      let more = conns_said cs both.1 in
      record { spelt = rw (both.0, some, more.spelt) refl; nothing = more.nothing; few = omega (arith, more.few) }

  lit_said : (crtc mode conn : ℕ) (conns : List ℕ) → crtc ≤ 255 → conn ≤ 255 → is_label_in names mode ≡ true
      → list_all (λ c. nat_le c 255) (others conn conns) ≡ true
      → AreSaid (length (others conn conns) + 3) profile names (crtc_on crtc mode conn conns)
  lit_said crtc mode conn conns low near label off =
      let more = conns_said (others conn conns) off in
      let last : AreSaid 1 profile names (assigns_to Conn conn CRTC_ID (value.Crtc crtc) ∷ []) =
      record { spelt = rw (le-leb conn 255 near, le-leb crtc 255 low, some) refl; nothing = refl; few = omega arith } in
      let tail = both_said (length (others conn conns)) 1 profile names (map conn_off (others conn conns)) _ more last in
      record { spelt = rw (le-leb crtc 255 low, some, label, tail.spelt) refl; nothing = tail.nothing; few = omega (arith, tail.few) }

-- Connectors

filtered_all : (p q : ℕ → Bool) (xs : List ℕ) → list_all q xs ≡ true → list_all q (filter p xs) ≡ true
filtered_all p q [] all = refl
filtered_all p q (x ∷ xs) all =
    let both = and_parts (q x) (list_all q xs) all in
    step (p x) both.0 (filtered_all p q xs both.1)
  where
    step : (t : Bool) → q x ≡ true → list_all q (filter p xs) ≡ true → list_all q (cond t (x ∷ filter p xs) (filter p xs)) ≡ true
    step true one more = and_from _ _ one more
    step false one more = more

filtered_few : (p : ℕ → Bool) (xs : List ℕ) → length (filter p xs) ≤ length xs
filtered_few p [] = omega arith
filtered_few p (x ∷ xs) = step (p x) (filtered_few p xs)
  where
    step : (t : Bool) → length (filter p xs) ≤ length xs → length (cond t (x ∷ filter p xs) (filter p xs)) ≤ length (x ∷ xs)
    step true le = omega (arith, le)
    step false le = omega (arith, le)

range_low : (from n : ℕ) → from + n ≤ 256 → list_all (λ c. nat_le c 255) (range_with_len from n) ≡ true
range_low from zero le = refl
range_low from (suc n) le = and_from _ _ (le-leb from 255 (omega (arith, le))) (range_low (from + 1) n (omega (arith, le)))

range_few : (from n : ℕ) → length (range_with_len from n) ≡ n
range_few from zero = refl
range_few from (suc n) = ap (λ k. suc k) (range_few (from + 1) n)

-- Requests

-- a request that words spell, with at most 256 assignments
pub record IsAsked (profile : ℕ) (names : List (List ℕ)) (r : Request) : Type 0 where
  pub said : IsSaid profile names r
  pub few : length r.assigns ≤ 256

abbrev pub given : Request → Result Request ℕ
given r = Ok r

pub request_same : (q r : Request) → given q ≡ given r → q ≡ r
request_same q r e = cc

asked_said : (n profile flags user : ℕ) (names : List (List ℕ)) (assigns : List Assign) (r : Request) → n ≤ 256 → is_word32 flags ≡ true
    → nat_lt user (2 ^ 64) ≡ true → AreSaid n profile names assigns → asks flags user assigns ≡ Ok r
    → IsAsked profile names r
asked_said n profile flags user names assigns r le word long are e =
    subst (IsAsked profile names) (request_same (record { flags = flags; user_data = user; assigns = assigns }) r e) (record {
      said = record { spelt = rw (word, long, are.spelt) refl; nothing = are.nothing };
      few = omega (arith, are.few, le);
    })

with_said : (profile : ℕ) (names : List (List ℕ)) (o : Option ℕ) (f : ℕ → Result Request ℕ) (r : Request)
    → ((plane : ℕ) → o ≡ Some plane → f plane ≡ Ok r → IsAsked profile names r) → with_plane o f ≡ Ok r → IsAsked profile names r
with_said profile names None f r more e = absurd cc
with_said profile names (Some plane) f r more e = more plane refl e

flip_said : (profile : ℕ) (names : List (List ℕ)) (now : Present) (plane crtc label user : ℕ) (fb : Option FbInfo) (event : Bool)
    (r : Request) → nat_le 1 profile ≡ true → plane ≤ 255 → is_label_in names label ≡ true → nat_lt user (2 ^ 64) ≡ true
    → flip_request now plane crtc fb label event user ≡ Ok r → IsAsked profile names r
flip_said profile names now plane crtc label user fb event r some low named long e =
    shown (not (now.plane_crtc plane == object_id Crtc crtc)) (changes_format fb (now.plane_fb plane)) e
  where
    assign : List Assign
    assign = assigns_to Plane plane FB_ID (value.Named label) ∷ []

    flags : (event : Bool) → is_word32 (cond event (NONBLOCK + PAGE_FLIP_EVENT) NONBLOCK) ≡ true
    flags true = refl
    flags false = refl

    shown : (a b : Bool) → cond a (Err 41)
        (cond b (Err 42) (asks (cond event (NONBLOCK + PAGE_FLIP_EVENT) NONBLOCK) user
        (assigns_to Plane plane FB_ID (value.Named label) ∷ []))) ≡ Ok r → IsAsked profile names r
    shown true b e = absurd cc
    shown false true e = absurd cc
    shown false false e =
        asked_said 1 profile (cond event (NONBLOCK + PAGE_FLIP_EVENT) NONBLOCK) user names _ r (omega arith) (flags event) long
        (record { spelt = rw (le-leb plane 255 low, some, named) refl; nothing = refl; few = omega arith }) e

-- the connectors on a CRTC, by an index that has few bits, and how many they are
conns_low : (t : Topology) (p : Present) (crtc : ℕ) → length t.conns ≤ 8 → list_all (λ c. nat_le c 255) (conns_now t p crtc) ≡ true
conns_low t p crtc few =
    filtered_all (λ conn. p.conn_crtc conn == object_id Crtc crtc) (λ c. nat_le c 255) (indices_of t Conn)
    (range_low 0 (length t.conns) (omega (arith, few)))

conns_few : (t : Topology) (p : Present) (crtc : ℕ) → length t.conns ≤ 8 → length (conns_now t p crtc) ≤ 8
conns_few t p crtc few =
    omega (arith, filtered_few (λ conn. p.conn_crtc conn == object_id Crtc crtc) (indices_of t Conn), range_few 0 (length t.conns), few)

below_count : (n count : ℕ) → nat_lt n count ≡ true → count ≤ 16 → n ≤ 255
below_count n count is few = omega (arith, ltb-true n count is, few)

profile_low : (t : Topology) → IsDevice t → nat_le 1 t.profile ≡ true
profile_low t device = (and_parts (nat_le 1 t.profile) (nat_le t.profile 2) device.profile).0

pub request_said : (t : Topology) (p : Present) (mode : Option Mode) (fb : Option FbInfo) (names : List (List ℕ)) (c : LegacyCall)
    (r : Request) → IsDevice t → IsFitCall t names c → HasModeSize mode → HasFbSize fb
    → call_request t p mode fb c ≡ Ok r → IsAsked t.profile names r
unfolding call_request
request_said t p mode fb names (call.SetCrtc crtc label x y mode_label conn) r device fit has_mode has_fb e =
    let few = few_objects t device in
    let one = profile_low t device in
    let of_crtc = and_parts (exists t Crtc crtc) _ fit.stands in
    let of_conn = and_parts (exists t Conn conn) _ of_crtc.1 in
    let corner = and_parts (nat_le x 65535) (nat_le y 65535) of_conn.1 in
    let labels = and_parts (is_label_in names label) (is_label_in names mode_label) fit.named in
    let off : List ℕ = others conn (conns_now t p crtc) in
    let count : length off ≤ 8 =
    omega (arith, filtered_few (λ index. not (index == conn)) (conns_now t p crtc), conns_few t p crtc few.conns) in
    let lit = lit_said t.profile names one crtc mode_label conn (conns_now t p crtc)
    (below_count crtc t.crtcs of_crtc.0 (omega (arith, few.crtcs)))
    (below_count conn (length t.conns) of_conn.0 (omega (arith, few.conns))) labels.1
    (filtered_all (λ index. not (index == conn)) (λ c. nat_le c 255) (conns_now t p crtc) (conns_low t p crtc few.conns)) in
    let size = of_mode mode has_mode in
    with_said t.profile names (special_plane t primary crtc) _ r (λ plane is g.
    let put = plane_said t.profile names one plane crtc label (sized_at (pos 0) (pos 0) (mode_size mode)) (in_fixed x y (mode_size mode))
    (omega (arith, special_within t primary crtc plane is, few.planes))
    (below_count crtc t.crtcs of_crtc.0 (omega (arith, few.crtcs))) labels.0 (sized (pos 0) (pos 0) (mode_size mode) refl refl size)
    (fixed x y (mode_size mode) (leb-true x 65535 corner.0) (leb-true y 65535 corner.1) size) in
    asked_said (length off + 3 + 10) t.profile ALLOW_MODESET 0 names _ r (omega (arith, count)) refl refl
    (both_said (length off + 3) 10 t.profile names _ _ lit put) g) e
request_said t p mode fb names (call.CrtcOff crtc) r device fit has_mode has_fb e =
    let few = few_objects t device in
    let one = profile_low t device in
    let on_it : List ℕ = conns_now t p crtc in
    with_said t.profile names (special_plane t primary crtc) _ r (λ plane is g.
    let away = off_said t.profile names one plane (omega (arith, special_within t primary crtc plane is, few.planes)) in
    let tail = both_said (length on_it) 2 t.profile names _ _ (conns_said t.profile names one on_it (conns_low t p crtc few.conns)) away in
    let dark = dark_said t.profile names one crtc (below_count crtc t.crtcs fit.stands (omega (arith, few.crtcs))) in
    asked_said (2 + (length on_it + 2)) t.profile ALLOW_MODESET 0 names _ r (omega (arith, conns_few t p crtc few.conns)) refl refl
    (both_said 2 (length on_it + 2) t.profile names _ _ dark tail) g) e
request_said t p mode fb names (call.SetPlane plane crtc label dst src) r device fit has_mode has_fb e =
    let few = few_objects t device in
    let one = profile_low t device in
    let of_plane = and_parts (exists t Plane plane) _ fit.stands in
    let of_crtc = and_parts (exists t Crtc crtc) _ of_plane.1 in
    let rects = and_parts (is_rect CRTC_X CRTC_Y CRTC_W CRTC_H dst) (is_rect SRC_X SRC_Y SRC_W SRC_H src) of_crtc.1 in
    asked_said 10 t.profile 0 0 names _ r (omega arith) refl refl
    (plane_said t.profile names one plane crtc label dst src (below_count plane (length t.planes) of_plane.0 few.planes)
    (below_count crtc t.crtcs of_crtc.0 (omega (arith, few.crtcs))) fit.named
    (of_rect CRTC_X CRTC_Y CRTC_W CRTC_H dst rects.0) (of_rect SRC_X SRC_Y SRC_W SRC_H src rects.1)) e
request_said t p mode fb names (call.PlaneOff plane) r device fit has_mode has_fb e =
    let few = few_objects t device in
    let one = profile_low t device in
    asked_said 2 t.profile 0 0 names _ r (omega arith) refl refl
    (off_said t.profile names one plane (below_count plane (length t.planes) fit.stands few.planes)) e
request_said t p mode fb names (call.PageFlip crtc label event user) r device fit has_mode has_fb e =
    let few = few_objects t device in
    let one = profile_low t device in
    let named = and_parts (is_label_in names label) (nat_lt user (2 ^ 64)) fit.named in
    with_said t.profile names (special_plane t primary crtc) _ r (λ plane is g.
    flip_said t.profile names p plane crtc label user fb event r one
    (omega (arith, special_within t primary crtc plane is, few.planes)) named.0 named.1 g) e
request_said t p mode fb names (call.Cursor crtc label x y) r device fit has_mode has_fb e =
    let few = few_objects t device in
    let one = profile_low t device in
    let of_crtc = and_parts (exists t Crtc crtc) _ fit.stands in
    let corner = and_parts (is_number CRTC_X x) (is_number CRTC_Y y) of_crtc.1 in
    let size = of_fb fb has_fb in
    with_said t.profile names (special_plane t cursor crtc) _ r (λ plane is g.
    asked_said 10 t.profile 0 0 names _ r (omega arith) refl refl
    (plane_said t.profile names one plane crtc label (sized_at x y (fb_size fb)) (in_fixed 0 0 (fb_size fb))
    (omega (arith, special_within t cursor crtc plane is, few.planes))
    (below_count crtc t.crtcs of_crtc.0 (omega (arith, few.crtcs))) fit.named
    (sized x y (fb_size fb) (of_range CRTC_X x corner.0) (of_range CRTC_Y y corner.1) size)
    (fixed 0 0 (fb_size fb) (omega arith) (omega arith) size)) g) e
request_said t p mode fb names (call.CursorMove crtc x y) r device fit has_mode has_fb e =
    let few = few_objects t device in
    let one = profile_low t device in
    let of_crtc = and_parts (exists t Crtc crtc) _ fit.stands in
    let corner = and_parts (is_number CRTC_X x) (is_number CRTC_Y y) of_crtc.1 in
    with_said t.profile names (special_plane t cursor crtc) _ r (λ plane is g.
    let low : nat_le plane 255 ≡ true = le-leb plane 255 (omega (arith, special_within t cursor crtc plane is, few.planes)) in
    asked_said 2 t.profile 0 0 names _ r (omega arith) refl refl
    (record { spelt = rw (low, one, of_range CRTC_X x corner.0, of_range CRTC_Y y corner.1) refl; nothing = refl; few = omega arith }) g) e
request_said t p mode fb names (call.CursorOff crtc) r device fit has_mode has_fb e =
    let few = few_objects t device in
    let one = profile_low t device in
    with_said t.profile names (special_plane t cursor crtc) _ r (λ plane is g.
    asked_said 2 t.profile 0 0 names _ r (omega arith) refl refl
    (off_said t.profile names one plane (omega (arith, special_within t cursor crtc plane is, few.planes))) g) e

-- No request of a call makes a label.

abbrev pub IsQuiet : Request → Type 0
IsQuiet r = list_all (λ a. makes_nothing a.value) r.assigns ≡ true

quiet_asked : (flags user : ℕ) (assigns : List Assign) (r : Request) → list_all (λ a. makes_nothing a.value) assigns ≡ true
    → asks flags user assigns ≡ Ok r → IsQuiet r
quiet_asked flags user assigns r none e =
    subst IsQuiet (request_same (record { flags = flags; user_data = user; assigns = assigns }) r e) none

quiet_with : (o : Option ℕ) (f : ℕ → Result Request ℕ) (r : Request) → ((plane : ℕ) → f plane ≡ Ok r → IsQuiet r) → with_plane o f ≡ Ok r
    → IsQuiet r
quiet_with None f r more e = absurd cc
quiet_with (Some plane) f r more e = more plane e

quiet_conns : (conns : List ℕ) → list_all (λ a. makes_nothing a.value) (map conn_off conns) ≡ true
quiet_conns [] = refl
quiet_conns (c ∷ cs) = quiet_conns cs

quiet_lit : (crtc mode conn : ℕ) (conns : List ℕ) → list_all (λ a. makes_nothing a.value) (crtc_on crtc mode conn conns) ≡ true
quiet_lit crtc mode conn conns =
    list_all-append (λ (a : Assign). makes_nothing a.value) (map conn_off (others conn conns)) _
    ∙ and_from _ _ (quiet_conns (others conn conns)) refl

quiet_flip : (now : Present) (plane crtc label user : ℕ) (fb : Option FbInfo) (event : Bool) (r : Request)
    → flip_request now plane crtc fb label event user ≡ Ok r → IsQuiet r
quiet_flip now plane crtc label user fb event r e =
    shown (not (now.plane_crtc plane == object_id Crtc crtc)) (changes_format fb (now.plane_fb plane)) e
  where
    shown : (a b : Bool) → cond a (Err 41)
        (cond b (Err 42) (asks (cond event (NONBLOCK + PAGE_FLIP_EVENT) NONBLOCK) user
        (assigns_to Plane plane FB_ID (value.Named label) ∷ []))) ≡ Ok r → IsQuiet r
    shown true b e = absurd cc
    shown false true e = absurd cc
    shown false false e = quiet_asked (cond event (NONBLOCK + PAGE_FLIP_EVENT) NONBLOCK) user _ r refl e

pub request_quiet : (t : Topology) (p : Present) (mode : Option Mode) (fb : Option FbInfo) (c : LegacyCall) (r : Request)
    → call_request t p mode fb c ≡ Ok r → IsQuiet r
unfolding call_request
request_quiet t p mode fb (call.SetCrtc crtc label x y mode_label conn) r e =
    quiet_with (special_plane t primary crtc) _ r (λ plane g. quiet_asked ALLOW_MODESET 0 _ r
    (list_all-append (λ (a : Assign). makes_nothing a.value) (crtc_on crtc mode_label conn (conns_now t p crtc)) _
    ∙ and_from _ _ (quiet_lit crtc mode_label conn (conns_now t p crtc)) refl) g) e
request_quiet t p mode fb (call.CrtcOff crtc) r e =
    quiet_with (special_plane t primary crtc) _ r (λ plane g. quiet_asked ALLOW_MODESET 0 _ r
    (list_all-append (λ (a : Assign). makes_nothing a.value) (map conn_off (conns_now t p crtc)) (plane_off plane)
    ∙ and_from _ _ (quiet_conns (conns_now t p crtc)) refl) g) e
request_quiet t p mode fb (call.SetPlane plane crtc label dst src) r e = quiet_asked 0 0 _ r refl e
request_quiet t p mode fb (call.PlaneOff plane) r e = quiet_asked 0 0 _ r refl e
request_quiet t p mode fb (call.PageFlip crtc label event user) r e =
    quiet_with (special_plane t primary crtc) _ r (λ plane g. quiet_flip p plane crtc label user fb event r g) e
request_quiet t p mode fb (call.Cursor crtc label x y) r e =
    quiet_with (special_plane t cursor crtc) _ r (λ plane g. quiet_asked 0 0 _ r refl g) e
request_quiet t p mode fb (call.CursorMove crtc x y) r e =
    quiet_with (special_plane t cursor crtc) _ r (λ plane g. quiet_asked 0 0 _ r refl g) e
request_quiet t p mode fb (call.CursorOff crtc) r e = quiet_with (special_plane t cursor crtc) _ r (λ plane g. quiet_asked 0 0 _ r refl g) e
