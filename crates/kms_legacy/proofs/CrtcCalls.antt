-- The accepted requests that turn a CRTC on or off keep the screen that has it so.
use Rattle.std.proofs.Common.{◌≡◌, ℕ, ◌<◌, ◌≤◌, ◌⊎◌, Bool, true, false, not, inl, inr, List, [], ◌∷◌, ◌++◌, append_assoc, cond, length, map}
use Rattle.std.proofs.Common.{Option, Some, None, pos, refl, sym, ap, subst, ◌∙◌, arith}
use Rattle.std.specs.Prelude.{◌==◌, ◌&&◌, filter, is_some, nat_lt}
use Rattle.std.proofs.lemmas.Bool.{cases_Bool, eq-eqb, eqb-true}
use Rattle.kms_model.specs.declared.objects.Kind.TheVariants.{Crtc, Plane, Conn}
use Rattle.kms_model.specs.declared.objects.Mode.{Mode}
use Rattle.kms_model.specs.declared.objects.Topology.{Topology}
use Rattle.kms_model.specs.declared.pictures.FbInfo.{FbInfo}
use Rattle.kms_model.specs.declared.pictures.Rect.{Rect}
use Rattle.kms_model.specs.declared.properties.TheConstants.{ACTIVE, CRTC_ID, FB_ID, GAMMA_LUT, MODE_ID}
use Rattle.kms_model.specs.declared.scripts.Assign.{Assign}
use Rattle.kms_model.specs.declared.scripts.Request.{Request}
use Rattle.kms_model.specs.declared.scripts.Value.{Value}
use Rattle.kms_model.specs.declared.scripts.Value.TheVariants as value
use Rattle.kms_model.specs.declared.worlds.Setting.{Setting}
use Rattle.kms_model.specs.declared.worlds.World.{World}
use Rattle.kms_model.specs.Device.Objects.{first_id, ids_of, indices_of, object_id}
use Rattle.kms_model.specs.Device.Sound.{IsLawful, IsSound}
use Rattle.kms_model.specs.Device.States.{crtc_at, gamma_of, mode_at, mode_of, natural, plane_at}
use Rattle.kms_model.specs.Device.World.{thing_numbered}
use Rattle.kms_model.specs.Firsts.{first_some, or_else}
use Rattle.kms_model.specs.Frames.Pictures.{mode_area}
use Rattle.kms_model.specs.Legacy.Screen.{Lit, Placed, Screen, lit_at, lit_in, placed_in_mode, with_lit, with_placed}
use Rattle.kms_model.specs.Legacy.Translation.{conns_now, crtc_on, in_fixed, mode_size, others, plane_on, present_in, sized_at}
use Rattle.kms_model.specs.Machine.Registers.{read}
use Rattle.kms_model.specs.Request.Apply.{after, apply}
use Rattle.kms_model.specs.Request.Checks.{clone_refusal_at, conn_refusal_at, conns_on, crtc_refusal_at, event_refusal, late_refusal}
use Rattle.kms_model.specs.Request.Checks.{plane_refusal_at, route_refusal_at, with_ids}
use Rattle.kms_model.specs.Request.Lookups.{look_up}
use Rattle.kms_model.specs.Request.Named.{differs}
use Rattle.kms_model.specs.Request.Sets.{fb_of_look, mode_of_look}
use Rattle.kms_model.specs.Request.Touched.{last_value, sets, value_if}
use Rattle.kms_model.specs.Request.Verdict.{verdict}
use Rattle.kms_model.specs.Script.Assigning.{conn_off, crtc_off, plane_off, unset}
use Rattle.kms_model.specs.Script.Generated.{assigns_to}
use Rattle.kms_model.proofs.AppliedValues.{value-apply_unset}
use Rattle.kms_model.proofs.Items.{IsIn, first_some-at, ids-has, ids-in, number_if-none, or_else-none}
use Rattle.kms_model.proofs.SoundKept.{accepted-parts}
use Rattle.kms_legacy.proofs.PlaneCalls.{IsPlainList, away_after, changed, conn_crtc_apart, conn_plane_apart, conns_apart, crtc_conn_apart}
use Rattle.kms_legacy.proofs.PlaneCalls.{crtc_plane_apart, crtcs_apart, fb_there, last_behind, mode_named, mode_there, or_none}
use Rattle.kms_legacy.proofs.PlaneCalls.{plain_planes, plane_conn_apart, plane_crtc_apart, planes_after, planes_apart, put_after}
use Rattle.kms_legacy.proofs.PlaneCalls.{read_first, read_other, unset_apart, unset_both, unset_last}
use Rattle.kms_legacy.proofs.OneCall.{IsKeptBy, allowed_at, in_behind, kept_value, off_of, off_plain, put_of, put_plain, set_value_to}
use Rattle.kms_legacy.proofs.ScreenShown.{HasLit, IsLit, IsPlaced, IsScreenOf, no_clones, off_crtc, only_conn}

-- Lists

in_filter : (p : ℕ → Bool) (xs : List ℕ) (x : ℕ) → IsIn x (filter p xs) → (p x ≡ true) × IsIn x xs
in_filter p [] x is = absurd is
in_filter p (y ∷ ys) x is = step (p y) refl is (in_filter p ys x)
  where
    step : (t : Bool) → p y ≡ t → IsIn x (cond t (y ∷ filter p ys) (filter p ys))
        → (IsIn x (filter p ys) → (p x ≡ true) × IsIn x ys) → (p x ≡ true) × IsIn x (y ∷ ys)
    step true own (inl same) again = (ap p (sym same) ∙ own, inl same)
    step true own (inr rest) again = let r = again rest in (r.0, inr r.1)
    step false own rest again = let r = again rest in (r.0, inr r.1)

none_pass : (p : ℕ → Bool) (xs : List ℕ) → ((x : ℕ) → IsIn x xs → p x ≡ false) → filter p xs ≡ []
none_pass p [] each = refl
none_pass p (x ∷ xs) each = rw (each x (inl refl)) (none_pass p xs (λ y is. each y (inr is)))

-- Connectors

-- the connectors that are on a CRTC are there
on_now : (t : Topology) (w : World) (crtc conn : ℕ) → IsIn conn (conns_now t (present_in w) crtc)
    → crtc_at w.values (object_id Conn conn) ≡ object_id Crtc crtc
on_now t w crtc conn is =
    eqb-true (crtc_at w.values (object_id Conn conn)) (object_id Crtc crtc)
    (in_filter (λ c. crtc_at w.values (object_id Conn c) == object_id Crtc crtc) (indices_of t Conn) conn is).0

same_ids : (a b : ℕ) → (a == b) ≡ false → object_id Crtc a ≡ object_id Crtc b → ⊥
same_ids a b apart same = let clash : true ≡ false = sym (eq-eqb (object_id Crtc a) (object_id Crtc b) same) ∙ crtcs_apart a b apart in cc

-- connectors on two CRTCs are two
on_apart : (values : List Setting) (crtc other a b : ℕ) → (crtc == other) ≡ false → crtc_at values (object_id Conn a) ≡ object_id Crtc crtc
    → crtc_at values (object_id Conn b) ≡ object_id Crtc other → (a == b) ≡ false
on_apart values crtc other a b apart one two = elim (cases_Bool (a == b)) [
  | inl same ↦ absurd (same_ids crtc other apart (sym one ∙ (ap (λ n. crtc_at values (object_id Conn n)) (eqb-true a b same) ∙ two)))
  | inr differ ↦ differ
]

-- a CRTC has one connector at most
one_conn : (t : Topology) (w : World) (crtc a b : ℕ) → IsSound t w → crtc < t.crtcs → a < length t.conns → b < length t.conns
    → crtc_at w.values (object_id Conn a) ≡ object_id Crtc crtc
    → crtc_at w.values (object_id Conn b) ≡ object_id Crtc crtc → (a == b) ≡ false → ⊥
one_conn t w crtc a b sound lt la lb one two apart =
    let own = λ (n : ℕ) (ln : n < length t.conns) (on : crtc_at w.values (object_id Conn n) ≡ object_id Crtc crtc).
    only_conn w.values (object_id Crtc crtc) (ids_of t Conn) (object_id Conn n) (ids-has t Conn n ln)
    (eq-eqb (crtc_at w.values (object_id Conn n)) (object_id Crtc crtc) on) (no_clones t w crtc sound lt) in
    let same : object_id Conn a ≡ object_id Conn b = sym (own a la one) ∙ own b lb two in
    let clash : true ≡ false = sym (eq-eqb (object_id Conn a) (object_id Conn b) same) ∙ conns_apart a b apart in
    cc

-- a CRTC that has a mode after an accepted request has a connector there
has_conn : (t : Topology) (w : World) (q : Request) (crtc : ℕ) (m : Mode) → verdict t w q ≡ None → crtc < t.crtcs
    → mode_at w.things (after w q) (object_id Crtc crtc) ≡ Some m
    → ((conn : ℕ) → conn < length t.conns → crtc_at (after w q) (object_id Conn conn) ≡ object_id Crtc crtc → ⊥) → ⊥
unfolding late_refusal
has_conn t w q crtc m none lt mode free =
    let late = (accepted-parts t w q none).second_none in
    let events = or_else-none (event_refusal t w.values (after w q) q) _ late in
    let planes = or_else-none (first_some (plane_refusal_at w.things w.values (after w q)) (with_ids (first_id Plane) t.planes)) _
    events.second_none in
    let crtcs = or_else-none (first_some (crtc_refusal_at w.things w.values (after w q) q) (ids_of t Crtc)) _ planes.second_none in
    let conns = or_else-none (first_some (conn_refusal_at (after w q)) (with_ids (first_id Conn) t.conns)) _ crtcs.second_none in
    let clones = or_else-none (first_some (clone_refusal_at t (after w q)) (ids_of t Crtc)) _ conns.second_none in
    let routes = or_else-none (first_some (route_refusal_at t w.things (after w q)) (ids_of t Crtc)) _ clones.second_none in
    let one = first_some-at (route_refusal_at t w.things (after w q)) (ids_of t Crtc) (object_id Crtc crtc) routes.first_none
    (ids-has t Crtc crtc lt) in
    let empty : conns_on t (after w q) (object_id Crtc crtc) ≡ [] =
    none_pass (λ conn. crtc_at (after w q) conn == object_id Crtc crtc) (ids_of t Conn) each in
    let clash : differs true (nat_lt 0 (length {A = ℕ} [])) ≡ false =
    subst (λ (cs : List ℕ). differs true (nat_lt 0 (length cs)) ≡ false) empty
    (subst (λ (o : Option Mode). differs (is_some o) (nat_lt 0 (length (conns_on t (after w q) (object_id Crtc crtc)))) ≡ false) mode
    (number_if-none 20 _ one)) in
    cc
  where
    each : (x : ℕ) → IsIn x (ids_of t Conn) → (crtc_at (after w q) x == object_id Crtc crtc) ≡ false
    each x is =
        let o = ids-in t Conn x is in
        elim (cases_Bool (crtc_at (after w q) x == object_id Crtc crtc)) [
          | inl on ↦ absurd (free o.index o.within
              (subst (λ n. crtc_at (after w q) n ≡ object_id Crtc crtc) o.same
              (eqb-true (crtc_at (after w q) x) (object_id Crtc crtc) on)))
          | inr off ↦ off
        ]

-- Lists of assignments

-- connectors that go off are not this object
off_apart : (conns : List ℕ) (object : ℕ) → ((conn : ℕ) → IsIn conn conns → (object_id Conn conn == object) ≡ false)
    → sets (map conn_off conns) object ≡ false
off_apart [] object apart = refl
off_apart (conn ∷ conns) object apart = rw (apart conn (inl refl), off_apart conns object (λ c is. apart c (inr is))) refl

-- an object is not set by connectors that go off, or set to no CRTC
off_or_none : (conns : List ℕ) (object : ℕ)
    → (last_value (map conn_off conns) object CRTC_ID ≡ None) ⊎ (last_value (map conn_off conns) object CRTC_ID ≡ Some unset)
off_or_none [] object = inl refl
off_or_none (conn ∷ conns) object =
    step (last_value (map conn_off conns) object CRTC_ID) (object_id Conn conn == object) (off_or_none conns object)
  where
    step : (later : Option Value) (here : Bool) → (later ≡ None) ⊎ (later ≡ Some unset)
        → (or_else later (value_if (here && true) unset) ≡ None) ⊎ (or_else later (value_if (here && true) unset) ≡ Some unset)
    step later true (inl none) = inr (rw none refl)
    step later false (inl none) = inl (rw none refl)
    step later here (inr some) = inr (rw some refl)

-- the first two assignments are of a CRTC, and no later one is
crtc_first : (crtc : ℕ) (v u : Value) (rest : List Assign) (prop : ℕ) → sets rest (object_id Crtc crtc) ≡ false
    → last_value (assigns_to Crtc crtc ACTIVE v ∷ assigns_to Crtc crtc MODE_ID u ∷ rest) (object_id Crtc crtc) prop ≡ or_else
    (value_if (MODE_ID == prop) u) (value_if (ACTIVE == prop) v)
crtc_first crtc v u rest prop none =
    let same : (object_id Crtc crtc == object_id Crtc crtc) ≡ true = eq-eqb (object_id Crtc crtc) (object_id Crtc crtc) refl in
    rw (unset_last rest (object_id Crtc crtc) prop none, same) refl

front_unset : (crtc : ℕ) (v u : Value) (rest : List Assign) (object : ℕ) → (object_id Crtc crtc == object) ≡ false
    → sets rest object ≡ false → sets (assigns_to Crtc crtc ACTIVE v ∷ assigns_to Crtc crtc MODE_ID u ∷ rest) object ≡ false
front_unset crtc v u rest object own none = rw (own, none) refl

plain_behind : (front list : List Assign) (object : ℕ) → sets front object ≡ false → IsPlainList list object
    → IsPlainList (front ++ list) object
plain_behind front list object none is =
    let last = λ (prop : ℕ) (own : last_value list object prop ≡ None). last_behind front list object prop
    ∙ (ap (λ (o : Option Value). or_else o (last_value front object prop)) own ∙ unset_last front object prop none) in
    record { alpha = last _ is.alpha; blend = last _ is.blend; zpos = last _ is.zpos }

-- What the screen has of CRTCs

-- a CRTC that no assignment sets, nor its connector
lit_apart : (t : Topology) (w : World) (assigns : List Assign) (commits crtc : ℕ) (o : Option Lit)
    → sets assigns (object_id Crtc crtc) ≡ false
    → ((l : Lit) → o ≡ Some l → HasLit t w crtc l → sets assigns (object_id Conn l.conn) ≡ false)
    → IsLit t w crtc o → IsLit t (changed w assigns commits) crtc o
lit_apart t w assigns commits crtc None none conns dark =
    value-apply_unset w.things w.values assigns (object_id Crtc crtc) ACTIVE none ∙ dark
lit_apart t w assigns commits crtc (Some l) none conns has = record {
  active = value-apply_unset w.things w.values assigns (object_id Crtc crtc) ACTIVE none ∙ has.active;
  mode =
      ap (λ z. mode_of (thing_numbered w.things z)) (value-apply_unset w.things w.values assigns (object_id Crtc crtc) MODE_ID none)
      ∙ has.mode;
  there = has.there;
  on = ap natural (value-apply_unset w.things w.values assigns (object_id Conn l.conn) CRTC_ID (conns l refl has)) ∙ has.on;
}

-- a request of one CRTC and one plane keeps the screen that has them
lit_kept : (t : Topology) (w : World) (screen : Screen) (assigns : List Assign) (commits crtc plane : ℕ) (l : Option Lit)
    (x : Option Placed) → IsScreenOf t screen w → IsPlainList assigns (object_id Plane plane)
    → ((other : ℕ) → other < length t.planes → (plane == other) ≡ false → sets assigns (object_id Plane other) ≡ false)
    → IsPlaced (plane_at w.things (apply w.things w.values assigns) (object_id Plane plane)) x
    → IsLit t (changed w assigns commits) crtc l
    → ((other : ℕ) → other < t.crtcs → (crtc == other) ≡ false → IsLit t (changed w assigns commits) other (lit_at screen other))
    → ((other : ℕ) → other < t.crtcs → last_value assigns (object_id Crtc other) GAMMA_LUT ≡ None)
    → IsScreenOf t (with_placed plane x (with_lit crtc l screen)) (changed w assigns commits)
lit_kept t w screen assigns commits crtc plane l x is none others put own apart gammas = record {
  plain = plain_planes t w screen assigns plane is none others;
  placed = planes_after t w screen (with_placed plane x (with_lit crtc l screen)) assigns plane x is refl put others;
  lit = λ other lt. by other lt (crtc == other) refl;
  gamma =
      λ other lt. ap (λ z. gamma_of (thing_numbered w.things z))
      (kept_value w assigns (object_id Crtc other) GAMMA_LUT refl (gammas other lt)) ∙ is.gamma other lt;
}
  where
    by : (other : ℕ) → other < t.crtcs → (b : Bool) → (crtc == other) ≡ b
        → IsLit t (changed w assigns commits) other (lit_at (with_placed plane x (with_lit crtc l screen)) other)
    by other lt true same =
        let one : crtc ≡ other = eqb-true crtc other same in
        let at : lit_at (with_placed plane x (with_lit crtc l screen)) other ≡ l =
        ap (λ n. read None ((crtc, l) ∷ screen.lit) n) (sym one) ∙ read_first None l screen.lit crtc in
        subst (IsLit t (changed w assigns commits) other) (sym at) (subst (λ n. IsLit t (changed w assigns commits) n l) one own)
    by other lt false differ =
        let at : lit_at (with_placed plane x (with_lit crtc l screen)) other ≡ lit_at screen other =
        read_other None l screen.lit crtc other differ in
        subst (IsLit t (changed w assigns commits) other) (sym at) (apart other lt differ)

-- A CRTC that goes on

-- its assignments behind the first two
abbrev rest_on : ℕ → ℕ → ℕ → ℕ → List ℕ → Rect → Rect → List Assign
rest_on crtc conn plane label on_it dst src =
    (map conn_off (others conn on_it) ++ assigns_to Conn conn CRTC_ID (value.Crtc crtc) ∷ []) ++ plane_on plane crtc label dst src

abbrev pub all_on : ℕ → ℕ → ℕ → ℕ → ℕ → List ℕ → Rect → Rect → List Assign
all_on crtc mode conn plane label on_it dst src = crtc_on crtc mode conn on_it ++ plane_on plane crtc label dst src

rest_unset : (crtc conn plane label : ℕ) (on_it : List ℕ) (dst src : Rect) (object : ℕ)
    → ((c : ℕ) → IsIn c (others conn on_it) → (object_id Conn c == object) ≡ false) → (object_id Conn conn == object) ≡ false
    → (object_id Plane plane == object) ≡ false → sets (rest_on crtc conn plane label on_it dst src) object ≡ false
rest_unset crtc conn plane label on_it dst src object offs one put =
    unset_both (map conn_off (others conn on_it) ++ assigns_to Conn conn CRTC_ID (value.Crtc crtc) ∷ [])
    (plane_on plane crtc label dst src) object
    (unset_both (map conn_off (others conn on_it)) (assigns_to Conn conn CRTC_ID (value.Crtc crtc) ∷ []) object
    (off_apart (others conn on_it) object offs) (rw one refl))
    (unset_apart (object_id Plane plane) object (plane_on plane crtc label dst src) (put_of plane crtc label dst src) put)

all_unset : (crtc mode conn plane label : ℕ) (on_it : List ℕ) (dst src : Rect) (object : ℕ) → (object_id Crtc crtc == object) ≡ false
    → ((c : ℕ) → IsIn c (others conn on_it) → (object_id Conn c == object) ≡ false)
    → (object_id Conn conn == object) ≡ false → (object_id Plane plane == object) ≡ false
    → sets (all_on crtc mode conn plane label on_it dst src) object ≡ false
all_unset crtc mode conn plane label on_it dst src object own offs one put =
    front_unset crtc (value.Num (pos 1)) (value.Named mode) (rest_on crtc conn plane label on_it dst src) object own
    (rest_unset crtc conn plane label on_it dst src object offs one put)

-- the front of such a request, up to the connector that goes on
abbrev front_on : ℕ → ℕ → ℕ → List ℕ → List Assign
front_on crtc mode conn on_it =
    assigns_to Crtc crtc ACTIVE (value.Num (pos 1)) ∷ assigns_to Crtc crtc MODE_ID (value.Named mode) ∷ map conn_off (others conn on_it)

abbrev back_on : ℕ → ℕ → ℕ → ℕ → Rect → Rect → List Assign
back_on crtc conn plane label dst src = assigns_to Conn conn CRTC_ID (value.Crtc crtc) ∷ plane_on plane crtc label dst src

on_parts : (crtc mode conn plane label : ℕ) (on_it : List ℕ) (dst src : Rect)
    → all_on crtc mode conn plane label on_it dst src ≡ front_on crtc mode conn on_it ++ back_on crtc conn plane label dst src
on_parts crtc mode conn plane label on_it dst src =
    ap (λ (xs : List Assign). assigns_to Crtc crtc ACTIVE (value.Num (pos 1)) ∷ assigns_to Crtc crtc MODE_ID (value.Named mode) ∷ xs)
    (append_assoc (map conn_off (others conn on_it)) (assigns_to Conn conn CRTC_ID (value.Crtc crtc) ∷ [])
    (plane_on plane crtc label dst src))

-- the connector that goes on
conn_last : (crtc mode conn plane label : ℕ) (on_it : List ℕ) (dst src : Rect) → plane < 100
    → last_value (all_on crtc mode conn plane label on_it dst src) (object_id Conn conn) CRTC_ID ≡ Some (value.Crtc crtc)
conn_last crtc mode conn plane label on_it dst src low =
    let none = unset_last (plane_on plane crtc label dst src) (object_id Conn conn) CRTC_ID
    (unset_apart (object_id Plane plane) (object_id Conn conn) (plane_on plane crtc label dst src) (put_of plane crtc label dst src)
    (plane_conn_apart plane conn low)) in
    let same : (object_id Conn conn == object_id Conn conn) ≡ true = eq-eqb (object_id Conn conn) (object_id Conn conn) refl in
    let back : last_value (back_on crtc conn plane label dst src) (object_id Conn conn) CRTC_ID ≡ Some (value.Crtc crtc) =
    rw (none, same) refl in
    ap (λ (xs : List Assign). last_value xs (object_id Conn conn) CRTC_ID) (on_parts crtc mode conn plane label on_it dst src)
    ∙ (last_behind (front_on crtc mode conn on_it) (back_on crtc conn plane label dst src) (object_id Conn conn) CRTC_ID
    ∙ ap (λ (o : Option Value). or_else o (last_value (front_on crtc mode conn on_it) (object_id Conn conn) CRTC_ID)) back)

-- any other one is as the connectors that go off say
other_last : (crtc mode conn plane label other : ℕ) (on_it : List ℕ) (dst src : Rect) → plane < 100 → crtc < 100 → (conn == other) ≡ false
    → last_value (all_on crtc mode conn plane label on_it dst src) (object_id Conn other) CRTC_ID ≡ last_value
    (map conn_off (others conn on_it)) (object_id Conn other) CRTC_ID
other_last crtc mode conn plane label other on_it dst src low small apart =
    let none : sets (back_on crtc conn plane label dst src) (object_id Conn other) ≡ false =
    rw (
      conns_apart conn other apart,
      unset_apart (object_id Plane plane) (object_id Conn other) (plane_on plane crtc label dst src)
          (put_of plane crtc label dst src) (plane_conn_apart plane other low),
    ) refl in
    let front : last_value (front_on crtc mode conn on_it) (object_id Conn other) CRTC_ID ≡ last_value (map conn_off (others conn on_it))
    (object_id Conn other) CRTC_ID =
    rw (crtc_conn_apart crtc other small)
    (or_none (or_else (last_value (map conn_off (others conn on_it)) (object_id Conn other) CRTC_ID) None)
    ∙ or_none (last_value (map conn_off (others conn on_it)) (object_id Conn other) CRTC_ID)) in
    ap (λ (xs : List Assign). last_value xs (object_id Conn other) CRTC_ID) (on_parts crtc mode conn plane label on_it dst src)
    ∙ (last_behind (front_on crtc mode conn on_it) (back_on crtc conn plane label dst src) (object_id Conn other) CRTC_ID
    ∙ (ap (λ (o : Option Value). or_else o (last_value (front_on crtc mode conn on_it) (object_id Conn other) CRTC_ID))
    (unset_last (back_on crtc conn plane label dst src) (object_id Conn other) CRTC_ID none) ∙ front))

module _ (t : Topology) (w : World) (screen : Screen) (commits crtc mode conn plane label : ℕ) (dst src : Rect) (few : t.crtcs ≤ 4)
    (low : plane < 100) (small : crtc < t.crtcs) (lawful : IsLawful t w) (is : IsScreenOf t screen w) where
  abbrev list : List Assign
  list = all_on crtc mode conn plane label (conns_now t (present_in w) crtc) dst src

  abbrev on_it : List ℕ
  on_it = conns_now t (present_in w) crtc

  -- the connector of another CRTC is not taken from it
  stolen : (q : Request) (other : ℕ) (l : Lit) → verdict t w q ≡ None → list ≡ q.assigns → other < t.crtcs → (crtc == other) ≡ false
      → HasLit t w other l → conn ≡ l.conn → ⊥
  stolen q other l none same lt apart has taken =
      has_conn t w q other l.mode none lt
      (subst (λ (xs : List Assign). mode_at w.things (apply w.things w.values xs) (object_id Crtc other) ≡ Some l.mode) same
      (ap (λ z. mode_of (thing_numbered w.things z))
      (value-apply_unset w.things w.values list (object_id Crtc other) MODE_ID (apart_crtc other lt apart)) ∙ has.mode))
      (subst (λ (xs : List Assign). (i : ℕ) → i < length t.conns
      → crtc_at (apply w.things w.values xs) (object_id Conn i) ≡ object_id Crtc other → ⊥) same no_conn)
    where
      apart_crtc : (c : ℕ) → c < t.crtcs → (crtc == c) ≡ false → sets list (object_id Crtc c) ≡ false
      apart_crtc c lc differ =
          all_unset crtc mode conn plane label on_it dst src (object_id Crtc c) (crtcs_apart crtc c differ)
          (λ x at. conn_crtc_apart x c (omega (arith, lc, few))) (conn_crtc_apart conn c (omega (arith, lc, few)))
          (plane_crtc_apart plane c (omega (arith, lc, few)))

      own_conn : crtc_at (apply w.things w.values list) (object_id Conn conn) ≡ object_id Crtc crtc
      own_conn = ap natural (set_value_to w list (object_id Conn conn) CRTC_ID (value.Crtc crtc) refl
          (conn_last crtc mode conn plane label on_it dst src low))

      other_conn : (i : ℕ) → i < length t.conns → (conn == i) ≡ false
          → crtc_at (apply w.things w.values list) (object_id Conn i) ≡ object_id Crtc other → ⊥
      other_conn i li differ on =
          let last = other_last crtc mode conn plane label i on_it dst src low (omega (arith, small, few)) differ in
          elim (off_or_none (others conn on_it) (object_id Conn i)) [
            | inl stays ↦ (let before : crtc_at w.values (object_id Conn i) ≡ object_id Crtc other =
                sym (ap natural (kept_value w list (object_id Conn i) CRTC_ID refl (last ∙ stays))) ∙ on in
                one_conn t w other l.conn i lawful.sound lt has.there li has.on before (ap (λ n. n == i) (sym taken) ∙ differ))
            | inr off ↦ (let zero_id : 0 ≡ object_id Crtc other =
                sym (ap natural (set_value_to w list (object_id Conn i) CRTC_ID unset refl (last ∙ off))) ∙ on in
                let clash : true ≡ false = sym (eq-eqb 0 (object_id Crtc other) zero_id) ∙ off_crtc other in
                cc)
          ]

      no_conn : (i : ℕ) → i < length t.conns → crtc_at (apply w.things w.values list) (object_id Conn i) ≡ object_id Crtc other → ⊥
      no_conn i li on = elim (cases_Bool (conn == i)) [
        | inl here ↦ same_ids crtc other apart
            (sym own_conn ∙ (ap (λ n. crtc_at (apply w.things w.values list) (object_id Conn n)) (eqb-true conn i here) ∙ on))
        | inr away ↦ other_conn i li away on
      ]

  -- what other CRTCs have stays
  others_on : (q : Request) → verdict t w q ≡ None → list ≡ q.assigns → (other : ℕ) → other < t.crtcs → (crtc == other) ≡ false
      → IsLit t (changed w list commits) other (lit_at screen other)
  others_on q none same other lt apart =
      lit_apart t w list commits other (lit_at screen other)
      (all_unset crtc mode conn plane label on_it dst src (object_id Crtc other) (crtcs_apart crtc other apart)
      (λ x at. conn_crtc_apart x other (omega (arith, lt, few))) (conn_crtc_apart conn other (omega (arith, lt, few)))
      (plane_crtc_apart plane other (omega (arith, lt, few))))
      (λ l of has. conn_stays l has) (is.lit other lt)
    where
      conn_stays : (l : Lit) → HasLit t w other l → sets list (object_id Conn l.conn) ≡ false
      conn_stays l has = elim (cases_Bool (conn == l.conn)) [
        | inl taken ↦ absurd (stolen q other l none same lt apart has (eqb-true conn l.conn taken))
        | inr differ ↦
            all_unset crtc mode conn plane label on_it dst src (object_id Conn l.conn)
            (crtc_conn_apart crtc l.conn (omega (arith, small, few)))
            (λ x at. conns_apart x l.conn (on_apart w.values crtc other x l.conn apart
            (on_now t w crtc x (in_filter (λ index. not (index == conn)) on_it x at).1) has.on))
            (conns_apart conn l.conn differ) (plane_conn_apart plane l.conn low)
      ]

  -- the CRTC has its mode and its connector
  own_on : (m : Mode) → conn < length t.conns → mode_of_look (look_up w mode) ≡ Some m
      → HasLit t (changed w list commits) crtc (record { mode = m; conn = conn })
  own_on m there named =
      let none : sets (rest_on crtc conn plane label on_it dst src) (object_id Crtc crtc) ≡ false =
      rest_unset crtc conn plane label on_it dst src (object_id Crtc crtc) (λ x at. conn_crtc_apart x crtc (omega (arith, small, few)))
      (conn_crtc_apart conn crtc (omega (arith, small, few)))
      (plane_crtc_apart plane crtc (omega (arith, small, few))) in
      let first = λ (prop : ℕ). crtc_first crtc (value.Num (pos 1)) (value.Named mode)
      (rest_on crtc conn plane label on_it dst src) prop none in
      record {
        active = set_value_to w list (object_id Crtc crtc) ACTIVE (value.Num (pos 1)) refl (first ACTIVE);
        mode =
            ap (λ z. mode_of (thing_numbered w.things z))
            (set_value_to w list (object_id Crtc crtc) MODE_ID (value.Named mode) refl (first MODE_ID))
            ∙ mode_named w mode m lawful.numbered.things named;
        there = there;
        on = ap natural (set_value_to w list (object_id Conn conn) CRTC_ID (value.Crtc crtc) refl
            (conn_last crtc mode conn plane label on_it dst src low));
      }

  no_gamma : (other : ℕ) → other < t.crtcs → last_value list (object_id Crtc other) GAMMA_LUT ≡ None
  no_gamma other lt = elim (cases_Bool (crtc == other)) [
    | inl same ↦ subst (λ n. last_value list (object_id Crtc n) GAMMA_LUT ≡ None) (eqb-true crtc other same)
        (crtc_first crtc (value.Num (pos 1)) (value.Named mode) (rest_on crtc conn plane label on_it dst src) GAMMA_LUT
        (rest_unset crtc conn plane label on_it dst src (object_id Crtc crtc) (λ x at. conn_crtc_apart x crtc (omega (arith, small, few)))
        (conn_crtc_apart conn crtc (omega (arith, small, few)))
        (plane_crtc_apart plane crtc (omega (arith, small, few)))))
    | inr apart ↦ unset_last list (object_id Crtc other) GAMMA_LUT
        (all_unset crtc mode conn plane label on_it dst src (object_id Crtc other) (crtcs_apart crtc other apart)
        (λ x at. conn_crtc_apart x other (omega (arith, lt, few))) (conn_crtc_apart conn other (omega (arith, lt, few)))
        (plane_crtc_apart plane other (omega (arith, lt, few))))
  ]

  front_plane : (other : ℕ) → other < 100 → sets (crtc_on crtc mode conn on_it) (object_id Plane other) ≡ false
  front_plane other lt =
      front_unset crtc (value.Num (pos 1)) (value.Named mode)
      (map conn_off (others conn on_it) ++ assigns_to Conn conn CRTC_ID (value.Crtc crtc) ∷ []) (object_id Plane other)
      (crtc_plane_apart crtc other (omega (arith, small, few)))
      (unset_both (map conn_off (others conn on_it)) (assigns_to Conn conn CRTC_ID (value.Crtc crtc) ∷ []) (object_id Plane other)
      (off_apart (others conn on_it) (object_id Plane other) (λ x at. conn_plane_apart x other lt))
      (rw (conn_plane_apart conn other lt) refl))

  -- a CRTC that goes on keeps the screen that has it and its plane
  pub on_kept : (m : Mode) (info : FbInfo) (q : Request) → length t.planes ≤ 16 → conn < length t.conns
      → mode_of_look (look_up w mode) ≡ Some m → fb_of_look (look_up w label) ≡ Some info → verdict t w q ≡ None
      → list ≡ q.assigns
      → IsKeptBy t w (with_placed plane (Some (record { crtc = crtc; fb = info; dst = dst; src = src }))
      (with_lit crtc (Some (record { mode = m; conn = conn })) screen)) commits list
  on_kept m info q many there named shown none same =
      lit_kept t w screen list commits crtc plane (Some (record { mode = m; conn = conn }))
      (Some (record { crtc = crtc; fb = info; dst = dst; src = src })) is
      (plain_behind (crtc_on crtc mode conn on_it) (plane_on plane crtc label dst src) (object_id Plane plane) (front_plane plane low)
      (put_plain plane crtc label dst src))
      (λ other lt apart. unset_both (crtc_on crtc mode conn on_it) (plane_on plane crtc label dst src) (object_id Plane other)
      (front_plane other (omega (arith, lt, many)))
      (unset_apart (object_id Plane plane) (object_id Plane other) (plane_on plane crtc label dst src) (put_of plane crtc label dst src)
      (planes_apart plane other apart)))
      (put_after w (crtc_on crtc mode conn on_it) plane crtc label info dst src lawful.numbered.things shown) (own_on m there named)
      (others_on q none same) no_gamma

-- A CRTC that goes off

abbrev pub all_off : ℕ → ℕ → List ℕ → List Assign
all_off crtc plane on_it = crtc_off crtc ++ (map conn_off on_it ++ plane_off plane)

off_unset : (crtc plane : ℕ) (on_it : List ℕ) (object : ℕ) → (object_id Crtc crtc == object) ≡ false
    → ((c : ℕ) → IsIn c on_it → (object_id Conn c == object) ≡ false) → (object_id Plane plane == object) ≡ false
    → sets (all_off crtc plane on_it) object ≡ false
off_unset crtc plane on_it object own offs put =
    front_unset crtc unset unset (map conn_off on_it ++ plane_off plane) object own
    (unset_both (map conn_off on_it) (plane_off plane) object (off_apart on_it object offs)
    (unset_apart (object_id Plane plane) object (plane_off plane) (off_of plane) put))

module _ (t : Topology) (w : World) (screen : Screen) (commits crtc plane : ℕ) (few : t.crtcs ≤ 4) (low : plane < 100)
    (small : crtc < t.crtcs) (is : IsScreenOf t screen w) where
  abbrev went : List ℕ
  went = conns_now t (present_in w) crtc

  abbrev list_off : List Assign
  list_off = all_off crtc plane went

  rest_off : (c : ℕ) → c < t.crtcs → sets (map conn_off went ++ plane_off plane) (object_id Crtc c) ≡ false
  rest_off c lt =
      unset_both (map conn_off went) (plane_off plane) (object_id Crtc c)
      (off_apart went (object_id Crtc c) (λ x at. conn_crtc_apart x c (omega (arith, lt, few))))
      (unset_apart (object_id Plane plane) (object_id Crtc c) (plane_off plane) (off_of plane)
      (plane_crtc_apart plane c (omega (arith, lt, few))))

  dark : IsLit t (changed w list_off commits) crtc None
  dark = set_value_to w list_off (object_id Crtc crtc) ACTIVE unset refl
      (crtc_first crtc unset unset (map conn_off went ++ plane_off plane) ACTIVE (rest_off crtc small))

  others_off : (other : ℕ) → other < t.crtcs → (crtc == other) ≡ false → IsLit t (changed w list_off commits) other (lit_at screen other)
  others_off other lt apart =
      lit_apart t w list_off commits other (lit_at screen other)
      (front_unset crtc unset unset (map conn_off went ++ plane_off plane) (object_id Crtc other) (crtcs_apart crtc other apart)
      (rest_off other lt))
      (λ l of has. off_unset crtc plane went (object_id Conn l.conn) (crtc_conn_apart crtc l.conn (omega (arith, small, few)))
      (λ x at. conns_apart x l.conn (on_apart w.values crtc other x l.conn apart (on_now t w crtc x at) has.on))
      (plane_conn_apart plane l.conn low)) (is.lit other lt)

  no_gamma_off : (other : ℕ) → other < t.crtcs → last_value list_off (object_id Crtc other) GAMMA_LUT ≡ None
  no_gamma_off other lt = elim (cases_Bool (crtc == other)) [
    | inl same ↦ subst (λ n. last_value list_off (object_id Crtc n) GAMMA_LUT ≡ None) (eqb-true crtc other same)
        (crtc_first crtc unset unset (map conn_off went ++ plane_off plane) GAMMA_LUT (rest_off crtc small))
    | inr apart ↦ unset_last list_off (object_id Crtc other) GAMMA_LUT
        (front_unset crtc unset unset (map conn_off went ++ plane_off plane) (object_id Crtc other) (crtcs_apart crtc other apart)
        (rest_off other lt))
  ]

  front_off : (other : ℕ) → other < 100 → sets (crtc_off crtc ++ map conn_off went) (object_id Plane other) ≡ false
  front_off other lt =
      front_unset crtc unset unset (map conn_off went) (object_id Plane other) (crtc_plane_apart crtc other (omega (arith, small, few)))
      (off_apart went (object_id Plane other) (λ x at. conn_plane_apart x other lt))

  pub dark_kept : length t.planes ≤ 16 → IsKeptBy t w (with_placed plane None (with_lit crtc None screen)) commits list_off
  dark_kept many =
      lit_kept t w screen list_off commits crtc plane None None is
      (plain_behind (crtc_off crtc ++ map conn_off went) (plane_off plane) (object_id Plane plane) (front_off plane low) (off_plain plane))
      (λ other lt apart. unset_both (crtc_off crtc ++ map conn_off went) (plane_off plane) (object_id Plane other)
      (front_off other (omega (arith, lt, many)))
      (unset_apart (object_id Plane plane) (object_id Plane other) (plane_off plane) (off_of plane) (planes_apart plane other apart)))
      (away_after w (crtc_off crtc ++ map conn_off went) plane) dark others_off no_gamma_off

-- The calls

-- `setcrtc`
pub setcrtc_kept : (t : Topology) (w : World) (screen : Screen) (commits crtc label x y mode_label conn plane : ℕ) (mode : Option Mode)
    (fb : Option FbInfo) (q : Request) → t.crtcs ≤ 4 → length t.planes ≤ 16 → plane < 100 → crtc < t.crtcs
    → conn < length t.conns → IsLawful t w → IsScreenOf t screen w → mode ≡ mode_of_look (look_up w mode_label)
    → fb ≡ fb_of_look (look_up w label) → verdict t w q ≡ None
    → all_on crtc mode_label conn plane label (conns_now t (present_in w) crtc) (sized_at (pos 0) (pos 0) (mode_size mode))
    (in_fixed x y (mode_size mode)) ≡ q.assigns
    → IsKeptBy t w (with_placed plane (placed_in_mode crtc x y mode fb) (with_lit crtc (lit_in mode conn) screen)) commits q.assigns
setcrtc_kept t w screen commits crtc label x y mode_label conn plane mode fb q few many low small there lawful is of_mode of_fb none same =
    let member : IsIn (assigns_to Crtc crtc MODE_ID (value.Named mode_label)) q.assigns =
    subst (λ (xs : List Assign). IsIn (assigns_to Crtc crtc MODE_ID (value.Named mode_label)) xs) same (inr (inl refl)) in
    let shown : IsIn (assigns_to Plane plane FB_ID (value.Named label)) q.assigns =
    subst (λ (xs : List Assign). IsIn (assigns_to Plane plane FB_ID (value.Named label)) xs) same
    (in_behind (crtc_on crtc mode_label conn (conns_now t (present_in w) crtc))
    (plane_on plane crtc label (sized_at (pos 0) (pos 0) (mode_size mode)) (in_fixed x y (mode_size mode)))
    (assigns_to Plane plane FB_ID (value.Named label)) (inl refl)) in
    let m = mode_there t w crtc mode_label (allowed_at t w q (assigns_to Crtc crtc MODE_ID (value.Named mode_label)) none member) in
    let info = fb_there t w plane label (allowed_at t w q (assigns_to Plane plane FB_ID (value.Named label)) none shown) in
    by mode fb m.value info.value (of_mode ∙ m.is) (of_fb ∙ info.is) m.is info.is same
  where
    by : (a : Option Mode) (b : Option FbInfo) (m : Mode) (info : FbInfo) → a ≡ Some m → b ≡ Some info
        → mode_of_look (look_up w mode_label) ≡ Some m → fb_of_look (look_up w label) ≡ Some info
        → all_on crtc mode_label conn plane label (conns_now t (present_in w) crtc) (sized_at (pos 0) (pos 0) (mode_size a))
        (in_fixed x y (mode_size a)) ≡ q.assigns
        → IsKeptBy t w (with_placed plane (placed_in_mode crtc x y a b) (with_lit crtc (lit_in a conn) screen)) commits q.assigns
    by a b m info is_mode is_fb named held own =
        let list : all_on crtc mode_label conn plane label (conns_now t (present_in w) crtc) (mode_area m)
        (in_fixed x y (m.hdisplay, m.vdisplay)) ≡ q.assigns =
        subst (λ (o : Option Mode). all_on crtc mode_label conn plane label (conns_now t (present_in w) crtc)
        (sized_at (pos 0) (pos 0) (mode_size o)) (in_fixed x y (mode_size o)) ≡ q.assigns) is_mode own in
        subst (λ (o : Option Mode). IsKeptBy t w
        (with_placed plane (placed_in_mode crtc x y o b) (with_lit crtc (lit_in o conn) screen)) commits q.assigns) (sym is_mode)
        (subst (λ (o : Option FbInfo). IsKeptBy t w
        (with_placed plane (placed_in_mode crtc x y (Some m) o) (with_lit crtc (Some (record { mode = m; conn = conn })) screen)) commits
        q.assigns) (sym is_fb)
        (subst (λ (xs : List Assign). IsKeptBy t w
        (with_placed plane (placed_in_mode crtc x y (Some m) (Some info)) (with_lit crtc (Some (record { mode = m; conn = conn })) screen))
        commits xs) list
        (on_kept t w screen commits crtc mode_label conn plane label (mode_area m)
        (in_fixed x y (m.hdisplay, m.vdisplay)) few low small lawful is m info q many there named held none list)))

-- `setcrtc` with `off`
pub crtc_off_kept : (t : Topology) (w : World) (screen : Screen) (commits crtc plane : ℕ) (q : Request) → t.crtcs ≤ 4 → length t.planes ≤ 16
    → plane < 100 → crtc < t.crtcs → IsScreenOf t screen w
    → all_off crtc plane (conns_now t (present_in w) crtc) ≡ q.assigns
    → IsKeptBy t w (with_placed plane None (with_lit crtc None screen)) commits q.assigns
crtc_off_kept t w screen commits crtc plane q few many low small is same =
    subst (λ (xs : List Assign). IsKeptBy t w (with_placed plane None (with_lit crtc None screen)) commits xs) same
    (dark_kept t w screen commits crtc plane few low small is many)
