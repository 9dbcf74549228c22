-- What the accepted requests of calls leave of a plane, and that those of one plane alone keep the screen.
use Rattle.std.proofs.Common.{◌≡◌, ℕ, ◌<◌, ◌≤◌, Bool, true, false, List, [], ◌∷◌, ◌++◌, cond, length, Option, Some, None, pos, refl, sym}
use Rattle.std.proofs.Common.{ap, subst, ◌∙◌, arith}
use Rattle.std.specs.Bool.{⊤}
use Rattle.std.specs.Prelude.{◌==◌, is_some}
use Rattle.std.specs.Result.{result_ok}
use Rattle.std.proofs.lemmas.Bool.{eq-eqb, eqb-true, or_parts}
use Rattle.std.proofs.lemmas.Bool.Decides.{nat_tests}
use Rattle.kms_model.specs.declared.objects.Kind.TheVariants.{Crtc, Plane, Conn}
use Rattle.kms_model.specs.declared.objects.Mode.{Mode}
use Rattle.kms_model.specs.declared.objects.Topology.{Topology}
use Rattle.kms_model.specs.declared.pictures.FbInfo.{FbInfo}
use Rattle.kms_model.specs.declared.pictures.Rect.{Rect}
use Rattle.kms_model.specs.declared.properties.TheConstants.{ACTIVE, ALPHA, BLEND, CRTC_H, CRTC_ID, CRTC_W, CRTC_X, CRTC_Y, FB_ID}
use Rattle.kms_model.specs.declared.properties.TheConstants.{GAMMA_LUT, MODE_ID, SRC_H, SRC_W, SRC_X, SRC_Y, ZPOS}
use Rattle.kms_model.specs.declared.scripts.Assign.{Assign}
use Rattle.kms_model.specs.declared.scripts.Value.{Value}
use Rattle.kms_model.specs.declared.scripts.Value.TheVariants as value
use Rattle.kms_model.specs.declared.states.PlaneState.{PlaneState}
use Rattle.kms_model.specs.declared.objects.Gamma.{Gamma}
use Rattle.kms_model.specs.declared.worlds.Content.{Content}
use Rattle.kms_model.specs.declared.worlds.Content.TheVariants as content
use Rattle.kms_model.specs.declared.worlds.Look.{Look}
use Rattle.kms_model.specs.declared.worlds.Look.TheVariants as look
use Rattle.kms_model.specs.declared.worlds.Setting.{Setting}
use Rattle.kms_model.specs.declared.worlds.Thing.{Thing}
use Rattle.kms_model.specs.declared.worlds.World.{World}
use Rattle.kms_model.specs.Device.GammaBytes.{gamma_of_bytes}
use Rattle.kms_model.specs.Device.ModeBytes.{decoded}
use Rattle.kms_model.specs.Device.Modes.{is_legal_mode}
use Rattle.kms_model.specs.Device.Objects.{object_id}
use Rattle.kms_model.specs.Device.Sound.{AreNumbered}
use Rattle.kms_model.specs.Device.States.{framebuffer_in, framebuffer_of, gamma_at, gamma_of, mode_in, mode_of, natural, plane_at}
use Rattle.kms_model.specs.Device.World.{thing_labelled, thing_numbered, value}
use Rattle.kms_model.specs.Firsts.{or_else}
use Rattle.kms_model.specs.Legacy.Screen.{Lit, Placed, Screen, lit_at, placed_at, with_placed}
use Rattle.kms_model.specs.Legacy.Translation.{plane_on}
use Rattle.kms_model.specs.Machine.Registers.{read}
use Rattle.kms_model.specs.Request.Apply.{apply, id_in, is_kept, number_of, object_of}
use Rattle.kms_model.specs.Request.Lookups.{look_of, look_of_blob, look_of_content, look_up}
use Rattle.kms_model.specs.Request.Refusals.{takes}
use Rattle.kms_model.specs.Request.Resolves.{IsAllowed}
use Rattle.kms_model.specs.Request.Sets.{fb_of_look, mode_of_look}
use Rattle.kms_model.specs.Request.Touched.{last_value, sets}
use Rattle.kms_model.specs.Script.Assigning.{plane_off}
use Rattle.kms_model.specs.Script.Generated.{assigns_to}
use Rattle.kms_model.proofs.AppliedValues.{value-apply_unset}
use Rattle.kms_model.proofs.ApplyLemmas.{number_or, value-apply}
use Rattle.kms_model.proofs.ThingLemmas.{thing_numbered-labelled}
use Rattle.kms_legacy.proofs.ScreenShown.{HasPlaced, IsLit, IsPlaced, IsPlainPlane, IsScreenOf}
use Rattle.kms_model.proofs.Facts.{or_else-assoc}

-- What labels name

no_fb : (m : Option Mode) (g : Option Gamma) (id : ℕ) (info : FbInfo) → fb_of_look (look_of_blob id m g) ≡ Some info → ⊥
no_fb (Some m) g id info e = cc
no_fb None (Some g) id info e = cc
no_fb None None id info e = cc

no_fb_mode : (legal : Bool) (m : Mode) (id : ℕ) (info : FbInfo) → fb_of_look (cond legal (look.Mode m id) (look.Blob id)) ≡ Some info → ⊥
no_fb_mode true m id info e = cc
no_fb_mode false m id info e = cc

-- the thing of a label that names a framebuffer has it
fb_content : (c : Content) (id : ℕ) (info : FbInfo) → fb_of_look (look_of_content id c) ≡ Some info → framebuffer_in c ≡ Some info
fb_content (content.Framebuffer own buffer) id info e = e
fb_content (content.Buffer width height format pattern) id info e = absurd cc
fb_content (content.Mode m) id info e = absurd (no_fb_mode (is_legal_mode m) m id info e)
fb_content (content.Blob bytes) id info e = absurd (no_fb (result_ok (decoded bytes)) (gamma_of_bytes bytes) id info e)
fb_content content.Fence id info e = absurd cc
fb_content content.OutFence id info e = absurd cc

mode_blob : (m : Option Mode) (g : Option Gamma) (id : ℕ) (n : Mode) → mode_of_look (look_of_blob id m g) ≡ Some n → m ≡ Some n
mode_blob (Some m) g id n e = e
mode_blob None (Some g) id n e = absurd cc
mode_blob None None id n e = absurd cc

mode_legal : (legal : Bool) (m : Mode) (id : ℕ) (n : Mode) → mode_of_look (cond legal (look.Mode m id) (look.Blob id)) ≡ Some n
    → Some m ≡ Some n
mode_legal true m id n e = e
mode_legal false m id n e = absurd cc

mode_content : (c : Content) (id : ℕ) (n : Mode) → mode_of_look (look_of_content id c) ≡ Some n → mode_in c ≡ Some n
mode_content (content.Mode m) id n e = mode_legal (is_legal_mode m) m id n e
mode_content (content.Blob bytes) id n e = mode_blob (result_ok (decoded bytes)) (gamma_of_bytes bytes) id n e
mode_content (content.Buffer width height format pattern) id n e = absurd cc
mode_content (content.Framebuffer own buffer) id n e = absurd cc
mode_content content.Fence id n e = absurd cc
mode_content content.OutFence id n e = absurd cc

-- what an open thing holds
open_fb : (held : Bool) (c : Content) (id : ℕ) (info : FbInfo) → fb_of_look (cond held (look_of_content id c) look.Closed) ≡ Some info
    → framebuffer_in c ≡ Some info
open_fb true c id info e = fb_content c id info e
open_fb false c id info e = absurd cc

open_mode : (held : Bool) (c : Content) (id : ℕ) (n : Mode) → mode_of_look (cond held (look_of_content id c) look.Closed) ≡ Some n
    → mode_in c ≡ Some n
open_mode true c id n e = mode_content c id n e
open_mode false c id n e = absurd cc

fb_labelled : (things : List Thing) (o : Option Thing) (info : FbInfo)
    → ((u : Thing) → o ≡ Some u → thing_numbered things (pos u.id) ≡ Some u) → fb_of_look (look_of o) ≡ Some info
    → framebuffer_of (thing_numbered things (id_in o)) ≡ Some info
fb_labelled things None info found e = absurd cc
fb_labelled things (Some u) info found e = ap framebuffer_of (found u refl) ∙ open_fb u.is_open u.content u.id info e

mode_labelled : (things : List Thing) (o : Option Thing) (n : Mode) → ((u : Thing) → o ≡ Some u → thing_numbered things (pos u.id) ≡ Some u)
    → mode_of_look (look_of o) ≡ Some n → mode_of (thing_numbered things (id_in o)) ≡ Some n
mode_labelled things None n found e = absurd cc
mode_labelled things (Some u) n found e = ap mode_of (found u refl) ∙ open_mode u.is_open u.content u.id n e

-- the framebuffer that a plane has whose FB_ID is set to a label, and the mode of a CRTC
pub fb_named : (w : World) (label : ℕ) (info : FbInfo) → AreNumbered 1000 w.things → fb_of_look (look_up w label) ≡ Some info
    → framebuffer_of (thing_numbered w.things (number_of w.things (value.Named label))) ≡ Some info
fb_named w label info numbered e =
    fb_labelled w.things (thing_labelled w.things label) info (λ u found. thing_numbered-labelled w.things label u numbered found) e

pub mode_named : (w : World) (label : ℕ) (n : Mode) → AreNumbered 1000 w.things → mode_of_look (look_up w label) ≡ Some n
    → mode_of (thing_numbered w.things (number_of w.things (value.Named label))) ≡ Some n
mode_named w label n numbered e =
    mode_labelled w.things (thing_labelled w.things label) n (λ u found. thing_numbered-labelled w.things label u numbered found) e

-- A property takes what an accepted assignment names.

fb_taken : (l : Look) → takes FB_ID l ≡ true → is_some (fb_of_look l) ≡ true
fb_taken (look.Fb info) is = refl
fb_taken (look.Mode m id) is = absurd cc
fb_taken (look.Gamma g id) is = absurd cc
fb_taken (look.Fence id) is = absurd cc
fb_taken (look.Blob id) is = absurd cc
fb_taken (look.Buffer id) is = absurd cc
fb_taken look.Missing is = absurd cc
fb_taken look.Closed is = absurd cc

mode_taken : (l : Look) → takes MODE_ID l ≡ true → is_some (mode_of_look l) ≡ true
mode_taken (look.Mode m id) is = refl
mode_taken (look.Fb info) is = absurd cc
mode_taken (look.Gamma g id) is = absurd cc
mode_taken (look.Fence id) is = absurd cc
mode_taken (look.Blob id) is = absurd cc
mode_taken (look.Buffer id) is = absurd cc
mode_taken look.Missing is = absurd cc
mode_taken look.Closed is = absurd cc

-- there is a value
pub record IsThere {A : Type 0} (o : Option A) : Type 0 where
  pub value : A
  pub is : o ≡ Some value

there : {A : Type 0} (o : Option A) → is_some o ≡ true → IsThere o
there None is = absurd cc
there (Some x) is = record { value = x; is = refl }

pub fb_there : (t : Topology) (w : World) (plane label : ℕ) → IsAllowed t (look_up w) (assigns_to Plane plane FB_ID (value.Named label))
    → IsThere (fb_of_look (look_up w label))
fb_there t w plane label allowed = there (fb_of_look (look_up w label)) (fb_taken (look_up w label) allowed.value)

pub mode_there : (t : Topology) (w : World) (crtc label : ℕ) → IsAllowed t (look_up w) (assigns_to Crtc crtc MODE_ID (value.Named label))
    → IsThere (mode_of_look (look_up w label))
mode_there t w crtc label allowed = there (mode_of_look (look_up w label)) (mode_taken (look_up w label) allowed.value)

-- Values after assignments

pub or_none : {A : Type 0} (a : Option A) → or_else a None ≡ a
or_none None = refl
or_none (Some x) = refl

-- the later assignments win
pub last_behind : (xs ys : List Assign) (object prop : ℕ)
    → last_value (xs ++ ys) object prop ≡ or_else (last_value ys object prop) (last_value xs object prop)
last_behind [] ys object prop = sym (or_none (last_value ys object prop))
last_behind (a ∷ xs) ys object prop =
    rw (last_behind xs ys object prop) (or_else-assoc (last_value ys object prop) (last_value xs object prop) _)

-- assignments of one object alone
abbrev pub AreOf : ℕ → List Assign → Type 0
AreOf object [] = ⊤
AreOf object (a ∷ more) = (object_of a ≡ object) × AreOf object more

pub unset_apart : (object other : ℕ) (assigns : List Assign) → AreOf object assigns → (object == other) ≡ false → sets assigns other ≡ false
unset_apart object other [] are apart = refl
unset_apart object other (a ∷ more) are apart = rw (are.0, apart) (unset_apart object other more are.1 apart)

-- an object that no assignment sets has no last value, and neither by one list behind another
pub unset_last : (assigns : List Assign) (object prop : ℕ) → sets assigns object ≡ false → last_value assigns object prop ≡ None
unset_last [] object prop e = refl
unset_last (a ∷ more) object prop e =
    let p = or_parts (object_of a == object) (sets more object) e in
    rw (unset_last more object prop p.1, p.0) refl

pub unset_both : (xs ys : List Assign) (object : ℕ) → sets xs object ≡ false → sets ys object ≡ false → sets (xs ++ ys) object ≡ false
unset_both [] ys object first second = second
unset_both (a ∷ xs) ys object first second =
    let p = or_parts (object_of a == object) (sets xs object) first in
    rw (p.0, unset_both xs ys object p.1 second) refl

-- ids of objects differ
pub crtcs_apart : (a b : ℕ) → (a == b) ≡ false → (object_id Crtc a == object_id Crtc b) ≡ false
crtcs_apart a b apart = grind (arith, nat_tests)

pub conns_apart : (a b : ℕ) → (a == b) ≡ false → (object_id Conn a == object_id Conn b) ≡ false
conns_apart a b apart = grind (arith, nat_tests)

pub crtc_plane_apart : (crtc plane : ℕ) → crtc < 100 → (object_id Crtc crtc == object_id Plane plane) ≡ false
crtc_plane_apart crtc plane lt = grind (arith, nat_tests)

pub crtc_conn_apart : (crtc conn : ℕ) → crtc < 100 → (object_id Crtc crtc == object_id Conn conn) ≡ false
crtc_conn_apart crtc conn lt = grind (arith, nat_tests)

pub conn_crtc_apart : (conn crtc : ℕ) → crtc < 100 → (object_id Conn conn == object_id Crtc crtc) ≡ false
conn_crtc_apart conn crtc lt = grind (arith, nat_tests)

pub conn_plane_apart : (conn plane : ℕ) → plane < 100 → (object_id Conn conn == object_id Plane plane) ≡ false
conn_plane_apart conn plane lt = grind (arith, nat_tests)

pub planes_apart : (a b : ℕ) → (a == b) ≡ false → (object_id Plane a == object_id Plane b) ≡ false
planes_apart a b apart = grind (arith, nat_tests)

pub plane_crtc_apart : (plane crtc : ℕ) → crtc < 100 → (object_id Plane plane == object_id Crtc crtc) ≡ false
plane_crtc_apart plane crtc lt = grind (arith, nat_tests)

pub plane_conn_apart : (plane conn : ℕ) → plane < 100 → (object_id Plane plane == object_id Conn conn) ≡ false
plane_conn_apart plane conn lt = grind (arith, nat_tests)

-- a plane that is not set stays
pub plane_unset : (things : List Thing) (values : List Setting) (assigns : List Assign) (object : ℕ) → sets assigns object ≡ false
    → plane_at things (apply things values assigns) object ≡ plane_at things values object
plane_unset things values assigns object unset =
    let u = λ (q : ℕ). value-apply_unset things values assigns object q unset in
    rw (u FB_ID, u CRTC_ID, u CRTC_X, u CRTC_Y, u CRTC_W, u CRTC_H, u SRC_X, u SRC_Y, u SRC_W, u SRC_H, u ALPHA, u BLEND, u ZPOS) refl

-- The screen

pub read_first : {A : Type 0} (d x : A) (rows : List (ℕ × A)) (id : ℕ) → read d ((id, x) ∷ rows) id ≡ x
unfolding read
read_first d x rows id = let same : (id == id) ≡ true = eq-eqb id id refl in rw same refl

pub read_other : {A : Type 0} (d x : A) (rows : List (ℕ × A)) (id other : ℕ) → (id == other) ≡ false
    → read d ((id, x) ∷ rows) other ≡ read d rows other
unfolding read
read_other d x rows id other apart = rw apart refl

-- the world after accepted assignments
abbrev pub changed : World → List Assign → ℕ → World
changed w assigns commits = record w { values = apply w.things w.values assigns; commits = commits }

-- what a CRTC has that no assignment sets, with its connector
lit_unset : (t : Topology) (w : World) (assigns : List Assign) (commits crtc : ℕ) (o : Option Lit)
    → sets assigns (object_id Crtc crtc) ≡ false → ((conn : ℕ) → conn < length t.conns → sets assigns (object_id Conn conn) ≡ false)
    → IsLit t w crtc o
    → IsLit t (changed w assigns commits) crtc o
lit_unset t w assigns commits crtc None unset conns dark =
    value-apply_unset w.things w.values assigns (object_id Crtc crtc) ACTIVE unset ∙ dark
lit_unset t w assigns commits crtc (Some l) unset conns has = record {
  active = value-apply_unset w.things w.values assigns (object_id Crtc crtc) ACTIVE unset ∙ has.active;
  mode =
      ap (λ z. mode_of (thing_numbered w.things z)) (value-apply_unset w.things w.values assigns (object_id Crtc crtc) MODE_ID unset)
      ∙ has.mode;
  there = has.there;
  on = ap natural (value-apply_unset w.things w.values assigns (object_id Conn l.conn) CRTC_ID (conns l.conn has.there)) ∙ has.on;
}

gamma_unset : (w : World) (assigns : List Assign) (crtc : ℕ) → sets assigns (object_id Crtc crtc) ≡ false
    → gamma_at w.things (apply w.things w.values assigns) (object_id Crtc crtc) ≡ gamma_at w.things w.values (object_id Crtc crtc)
gamma_unset w assigns crtc unset =
    ap (λ z. gamma_of (thing_numbered w.things z)) (value-apply_unset w.things w.values assigns (object_id Crtc crtc) GAMMA_LUT unset)

-- planes: the one that is set has what the screen says, and others stay
pub planes_after : (t : Topology) (w : World) (screen next : Screen) (assigns : List Assign) (plane : ℕ) (x : Option Placed)
    → IsScreenOf t screen w → next.placed ≡ (plane, x) ∷ screen.placed
    → IsPlaced (plane_at w.things (apply w.things w.values assigns) (object_id Plane plane)) x
    → ((other : ℕ) → other < length t.planes → (plane == other) ≡ false → sets assigns (object_id Plane other) ≡ false)
    → (other : ℕ) → other < length t.planes
    → IsPlaced (plane_at w.things (apply w.things w.values assigns) (object_id Plane other)) (placed_at next other)
planes_after t w screen next assigns plane x is of put others other lt = by (plane == other) refl
  where
    by : (b : Bool) → (plane == other) ≡ b
        → IsPlaced (plane_at w.things (apply w.things w.values assigns) (object_id Plane other)) (placed_at next other)
    by true same =
        let one : plane ≡ other = eqb-true plane other same in
        let at : placed_at next other ≡ x =
        ap (λ (rows : List (ℕ × Option Placed)). read None rows other) of
        ∙ (ap (λ n. read None ((plane, x) ∷ screen.placed) n) (sym one) ∙ read_first None x screen.placed plane) in
        subst (IsPlaced (plane_at w.things (apply w.things w.values assigns) (object_id Plane other))) (sym at)
        (subst (λ n. IsPlaced (plane_at w.things (apply w.things w.values assigns) (object_id Plane n)) x) one put)
    by false apart =
        let at : placed_at next other ≡ placed_at screen other =
        ap (λ (rows : List (ℕ × Option Placed)). read None rows other) of ∙ read_other None x screen.placed plane other apart in
        subst (IsPlaced (plane_at w.things (apply w.things w.values assigns) (object_id Plane other))) (sym at)
        (subst (λ (s : PlaneState). IsPlaced s (placed_at screen other))
        (sym (plane_unset w.things w.values assigns (object_id Plane other) (others other lt apart))) (is.placed other lt))

-- no assignment sets alpha, the blend mode and zpos
pub record IsPlainList (assigns : List Assign) (object : ℕ) : Type 0 where
  pub alpha : last_value assigns object ALPHA ≡ None
  pub blend : last_value assigns object BLEND ≡ None
  pub zpos : last_value assigns object ZPOS ≡ None

pub plain_after : (w : World) (assigns : List Assign) (plane : ℕ) → IsPlainList assigns (object_id Plane plane)
    → IsPlainPlane (plane_at w.things w.values (object_id Plane plane)) plane
    → IsPlainPlane (plane_at w.things (apply w.things w.values assigns) (object_id Plane plane)) plane
plain_after w assigns plane none is = record {
  alpha =
      ap natural (value-apply w.things w.values assigns (object_id Plane plane) ALPHA refl
      ∙ ap (λ (o : Option Value). number_or w.things o (value w.values (object_id Plane plane) ALPHA)) none.alpha) ∙ is.alpha;
  blend =
      ap natural (value-apply w.things w.values assigns (object_id Plane plane) BLEND refl
      ∙ ap (λ (o : Option Value). number_or w.things o (value w.values (object_id Plane plane) BLEND)) none.blend) ∙ is.blend;
  zpos =
      ap natural (value-apply w.things w.values assigns (object_id Plane plane) ZPOS refl
      ∙ ap (λ (o : Option Value). number_or w.things o (value w.values (object_id Plane plane) ZPOS)) none.zpos) ∙ is.zpos;
}

-- each plane is a plain one still: the one that is set, and others
pub plain_planes : (t : Topology) (w : World) (screen : Screen) (assigns : List Assign) (plane : ℕ) → IsScreenOf t screen w
    → IsPlainList assigns (object_id Plane plane)
    → ((other : ℕ) → other < length t.planes → (plane == other) ≡ false → sets assigns (object_id Plane other) ≡ false)
    → (other : ℕ) → other < length t.planes
    → IsPlainPlane (plane_at w.things (apply w.things w.values assigns) (object_id Plane other)) other
plain_planes t w screen assigns plane is none others other lt = by (plane == other) refl
  where
    by : (b : Bool) → (plane == other) ≡ b
        → IsPlainPlane (plane_at w.things (apply w.things w.values assigns) (object_id Plane other)) other
    by true same =
        plain_after w assigns other (subst (λ n. IsPlainList assigns (object_id Plane n)) (eqb-true plane other same) none)
        (is.plain other lt)
    by false apart =
        subst (λ (s : PlaneState). IsPlainPlane s other)
        (sym (plane_unset w.things w.values assigns (object_id Plane other) (others other lt apart))) (is.plain other lt)

-- A request of one plane alone keeps the screen of which it is the plane.
pub plane_alone : (t : Topology) (w : World) (screen : Screen) (assigns : List Assign) (commits plane : ℕ) (x : Option Placed) → t.crtcs ≤ 4
    → plane < 100 → IsScreenOf t screen w → AreOf (object_id Plane plane) assigns → IsPlainList assigns (object_id Plane plane)
    → IsPlaced (plane_at w.things (apply w.things w.values assigns) (object_id Plane plane)) x
    → IsScreenOf t (with_placed plane x screen) (changed w assigns commits)
plane_alone t w screen assigns commits plane x few low is are none put =
    let others = λ (other : ℕ) (lt : other < length t.planes) (apart : (plane == other) ≡ false). unset_apart (object_id Plane plane)
    (object_id Plane other) assigns are (planes_apart plane other apart) in
    let crtcs = λ (crtc : ℕ) (lt : crtc < t.crtcs). unset_apart (object_id Plane plane) (object_id Crtc crtc) assigns are
    (plane_crtc_apart plane crtc (omega (arith, lt, few))) in
    let conns = λ (conn : ℕ) (lt : conn < length t.conns). unset_apart (object_id Plane plane) (object_id Conn conn) assigns are
    (plane_conn_apart plane conn low) in
    record {
      plain = plain_planes t w screen assigns plane is none others;
      placed = planes_after t w screen (with_placed plane x screen) assigns plane x is refl put others;
      lit = λ crtc lt. lit_unset t w assigns commits crtc (lit_at screen crtc) (crtcs crtc lt) conns (is.lit crtc lt);
      gamma = λ crtc lt. gamma_unset w assigns crtc (crtcs crtc lt) ∙ is.gamma crtc lt;
    }

-- What the lists of the calls set of their plane

pub same_plane : (plane : ℕ) → (object_id Plane plane == object_id Plane plane) ≡ true
same_plane plane = eq-eqb (object_id Plane plane) (object_id Plane plane) refl

-- a value behind assignments that do not set the object
value_behind : (w : World) (front assigns : List Assign) (object prop : ℕ) (v : Value) → is_kept prop ≡ true
    → last_value assigns object prop ≡ Some v → value (apply w.things w.values (front ++ assigns)) object prop ≡ number_of w.things v
value_behind w front assigns object prop v kept last =
    value-apply w.things w.values (front ++ assigns) object prop kept
    ∙ ap (λ (o : Option Value). number_or w.things o (value w.values object prop))
    (last_behind front assigns object prop ∙ ap (λ (o : Option Value). or_else o (last_value front object prop)) last)

-- a plane that is put on a CRTC, behind assignments of other objects
pub put_after : (w : World) (front : List Assign) (plane crtc label : ℕ) (info : FbInfo) (dst src : Rect) → AreNumbered 1000 w.things
    → fb_of_look (look_up w label) ≡ Some info
    → HasPlaced (plane_at w.things (apply w.things w.values (front ++ plane_on plane crtc label dst src)) (object_id Plane plane))
    (record { crtc = crtc; fb = info; dst = dst; src = src })
put_after w front plane crtc label info dst src numbered named =
    let same : (object_id Plane plane == object_id Plane plane) ≡ true = same_plane plane in
    let v = λ (q : ℕ) (x : Value) (kept : is_kept q ≡ true)
    (last : last_value (plane_on plane crtc label dst src) (object_id Plane plane) q ≡ Some x).
    value_behind w front (plane_on plane crtc label dst src) (object_id Plane plane) q x kept last in
    let fb = v FB_ID (value.Named label) refl (rw same refl) in
    let on = v CRTC_ID (value.Crtc crtc) refl (rw same refl) in
    let dx = v CRTC_X (value.Num dst.x) refl (rw same refl) in
    let dy = v CRTC_Y (value.Num dst.y) refl (rw same refl) in
    let dw = v CRTC_W (value.Num dst.w) refl (rw same refl) in
    let dh = v CRTC_H (value.Num dst.h) refl (rw same refl) in
    let sx = v SRC_X (value.Num src.x) refl (rw same refl) in
    let sy = v SRC_Y (value.Num src.y) refl (rw same refl) in
    let sw = v SRC_W (value.Num src.w) refl (rw same refl) in
    let sh = v SRC_H (value.Num src.h) refl (rw same refl) in
    record {
      crtc = ap natural on;
      fb = ap (λ z. framebuffer_of (thing_numbered w.things z)) fb ∙ fb_named w label info numbered named;
      dst = rw (dx, dy, dw, dh) refl;
      src = rw (sx, sy, sw, sh) refl;
    }

-- a plane that is taken away
pub away_after : (w : World) (front : List Assign) (plane : ℕ)
    → (plane_at w.things (apply w.things w.values (front ++ plane_off plane)) (object_id Plane plane)).crtc ≡ 0
away_after w front plane =
    let same : (object_id Plane plane == object_id Plane plane) ≡ true = same_plane plane in
    ap natural (value_behind w front (plane_off plane) (object_id Plane plane) CRTC_ID (value.Num (pos 0)) refl (rw same refl))
