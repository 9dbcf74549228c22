-- The values of a plane before the first command.
use Rattle.std.proofs.Common.{◌≡◌, ℕ, zero, suc, ◌+◌, ◌<◌, ◌≤◌, Bool, true, false, cond, List, [], ◌∷◌, ◌++◌, length, eqb, Some, None, refl}
use Rattle.std.proofs.Common.{ap, ◌∙◌, inl, inr, arith, append_assoc}
use Rattle.std.specs.Prelude.{slice_get, ℤ, pos}
use Rattle.std.specs.List.{flat_map, list_any, range_with_len}
use Rattle.std.proofs.lemmas.Bool.Decides.{nat_tests, eqb_tells}
use Rattle.std.proofs.lemmas.Option.{slice_get_past}
use Rattle.kms_model.specs.declared.objects.PlaneInfo.{PlaneInfo}
use Rattle.kms_model.specs.declared.objects.Topology.{Topology}
use Rattle.kms_model.specs.declared.properties.TheConstants.{TYPE, FB_ID, CRTC_ID, CRTC_X, CRTC_Y, CRTC_W, CRTC_H, SRC_X, SRC_Y, SRC_W}
use Rattle.kms_model.specs.declared.properties.TheConstants.{SRC_H, ALPHA, BLEND, ZPOS}
use Rattle.kms_model.specs.declared.worlds.Setting.{Setting}
use Rattle.kms_model.specs.Device.Sound.{IsDevice}
use Rattle.kms_model.specs.Device.World.{settings, start, start_conn, start_crtc, start_planes, value}
use Rattle.kms_model.proofs.TouchedLemmas.{few_objects}

-- the number of a property among some
abbrev pub number_in : List (ℕ × ℤ) → ℕ → ℤ
number_in [] q = pos 0
number_in (p ∷ ps) q = cond (eqb p.0 q) p.1 (number_in ps q)

abbrev pub has_number : List (ℕ × ℤ) → ℕ → Bool
has_number ps q = list_any (λ p. eqb p.0 q) ps

same : (a : ℕ) → eqb a a ≡ true
same a = grind (arith, nat_tests)

-- an object's own settings
own_value : (o q : ℕ) (ps : List (ℕ × ℤ)) (rest : List Setting) → has_number ps q ≡ true → value (settings o ps ++ rest) o q
    ≡ number_in ps q
own_value o q [] rest has = absurd cc
own_value o q (p ∷ ps) rest has =
    elim (eqb_tells p.0 q) [
      | inl here ↦ rw (same o, here.0) refl
      | inr away ↦ (let left : has_number ps q ≡ true = rw away.0 at has in rw (same o, away.0) (own_value o q ps rest left))
    ]

-- another object's settings
other_value : (o p q : ℕ) (ps : List (ℕ × ℤ)) (rest : List Setting) → eqb p o ≡ false → value (settings p ps ++ rest) o q ≡ value rest o q
other_value o p q [] rest apart = refl
other_value o p q (n ∷ ps) rest apart = rw apart (other_value o p q ps rest apart)

apart_plus : (a b c : ℕ) → a < b → eqb (c + a) (c + b) ≡ false
apart_plus a b c lt = grind (arith, nat_tests)

crtc_apart : (i j : ℕ) → j < 100 → eqb (100 + j) (200 + i) ≡ false
crtc_apart i j lt = grind (arith, nat_tests)

-- a plane has no setting of a CRTC
behind_crtcs : (i q a n : ℕ) (rest : List Setting) → a + n ≤ 100 → value (flat_map start_crtc (range_with_len a n) ++ rest) (200 + i) q
    ≡ value rest (200 + i) q
behind_crtcs i q a zero rest few = refl
behind_crtcs i q a (suc n) rest few =
    let apart = crtc_apart i a (omega arith) in
    rw apart (behind_crtcs i q (a + 1) n rest (omega arith))

-- the numbers of a plane's settings
abbrev pub plane_numbers : ℕ → PlaneInfo → List (ℕ × ℤ)
plane_numbers index info = (TYPE, pos info.kind) ∷ (FB_ID, pos 0) ∷ (CRTC_ID, pos 0)
    ∷ (CRTC_X, pos 0) ∷ (CRTC_Y, pos 0) ∷ (CRTC_W, pos 0) ∷ (CRTC_H, pos 0) ∷ (SRC_X, pos 0) ∷ (SRC_Y, pos 0) ∷ (SRC_W, pos 0)
    ∷ (SRC_H, pos 0)
    ∷ (ALPHA, pos 65535) ∷ (BLEND, pos 0) ∷ (ZPOS, pos index) ∷ []

among_planes : (first i n q : ℕ) (infos : List PlaneInfo) (info : PlaneInfo) (rest : List Setting) → n ≡ first + i → slice_get infos i
    ≡ Some info → has_number (plane_numbers n info) q ≡ true
    → value (start_planes first infos ++ rest) (200 + n) q ≡ number_in (plane_numbers n info) q
among_planes first i n q [] info rest is at has = absurd
    (let e : slice_get {X = PlaneInfo} [] i ≡ None = slice_get_past [] i (omega arith) in cc)
among_planes first zero n q (x ∷ infos) info rest is at has =
    let f : n ≡ first = is ∙ omega arith in
    let v : x ≡ info = cc at in
    rw f (own_value (200 + first) q (plane_numbers first x) (start_planes (first + 1) infos ++ rest) has ∙ ap
    (λ y. number_in (plane_numbers first y) q) v)
among_planes first (suc i) n q (x ∷ infos) info rest is at has =
    let apart : eqb (200 + first) (200 + n) ≡ false = apart_plus first n 200 (omega (arith, is)) in
    other_value (200 + n) (200 + first) q (plane_numbers first x) (start_planes (first + 1) infos ++ rest) apart ∙ among_planes (first + 1)
    i n q infos info rest (is ∙ omega arith) at has

-- a property of a plane
pub plane_value : (t : Topology) (i q : ℕ) (info : PlaneInfo) → IsDevice t → slice_get t.planes i ≡ Some info
    → has_number (plane_numbers i info) q ≡ true → value (start t).values (200 + i) q ≡ number_in (plane_numbers i info) q
plane_value t i q info device at has =
    let conns : List Setting = flat_map start_conn (range_with_len 0 (length t.conns)) in
    ap (λ ss. value ss (200 + i) q) (append_assoc (flat_map start_crtc (range_with_len 0 t.crtcs)) (start_planes 0 t.planes) conns)
    ∙ behind_crtcs i q 0 t.crtcs (start_planes 0 t.planes ++ conns) (omega (arith, (few_objects t device).crtcs))
    ∙ among_planes 0 i i q t.planes info conns (omega arith) at has
