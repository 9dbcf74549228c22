-- The accepted requests of one plane keep the screen that has it so.
use Rattle.std.proofs.Common.{◌≡◌, ℕ, ◌<◌, ◌≤◌, true, false, inl, inr, List, [], ◌∷◌, ◌++◌, length, Option, Some, None, ℤ, refl, sym, ap}
use Rattle.std.proofs.Common.{subst, ◌∙◌}
use Rattle.std.specs.Prelude.{◌==◌, option_map}
use Rattle.kms_model.specs.declared.objects.Kind.TheVariants.{Plane}
use Rattle.kms_model.specs.declared.objects.Topology.{Topology}
use Rattle.kms_model.specs.declared.pictures.FbInfo.{FbInfo}
use Rattle.kms_model.specs.declared.pictures.Rect.{Rect}
use Rattle.kms_model.specs.declared.properties.TheConstants.{CRTC_H, CRTC_ID, CRTC_W, CRTC_X, CRTC_Y, FB_ID, SRC_H, SRC_W, SRC_X, SRC_Y}
use Rattle.kms_model.specs.declared.scripts.Assign.{Assign}
use Rattle.kms_model.specs.declared.scripts.Request.{Request}
use Rattle.kms_model.specs.declared.scripts.Value.{Value}
use Rattle.kms_model.specs.declared.scripts.Value.TheVariants as value
use Rattle.kms_model.specs.declared.worlds.World.{World}
use Rattle.kms_model.specs.Device.Objects.{object_id}
use Rattle.kms_model.specs.Device.Sound.{AreNumbered, IsLawful}
use Rattle.kms_model.specs.Device.States.{framebuffer_of, natural, plane_at}
use Rattle.kms_model.specs.Device.World.{thing_numbered, value}
use Rattle.kms_model.specs.Legacy.Screen.{Placed, Screen, flipped_to, moved_to, placed_at, placed_part, with_changed, with_placed}
use Rattle.kms_model.specs.Legacy.Translation.{plane_on}
use Rattle.kms_model.specs.Request.Apply.{apply, is_kept, number_of}
use Rattle.kms_model.specs.Request.Lookups.{look_up}
use Rattle.kms_model.specs.Request.Resolves.{IsAllowed}
use Rattle.kms_model.specs.Request.Sets.{fb_of_look}
use Rattle.kms_model.specs.Request.Touched.{last_value}
use Rattle.kms_model.specs.Request.Verdict.{verdict}
use Rattle.kms_model.specs.Script.Assigning.{plane_off}
use Rattle.kms_model.specs.Script.Generated.{assigns_to}
use Rattle.kms_model.proofs.ApplyLemmas.{number_or, value-apply}
use Rattle.kms_model.proofs.CrtcLemmas.{all_in}
use Rattle.kms_model.proofs.Items.{IsIn}
use Rattle.kms_model.proofs.RequestLemmas.{accepted_allowed}
use Rattle.kms_model.proofs.SoundKept.{accepted-parts}
use Rattle.kms_legacy.proofs.PlaneCalls.{AreOf, IsPlainList, away_after, changed, fb_named, fb_there, plane_alone, put_after, same_plane}
use Rattle.kms_legacy.proofs.ScreenShown.{IsPlaced, IsScreenOf}

-- What an accepted request says of its assignments

pub allowed_at : (t : Topology) (w : World) (q : Request) (a : Assign) → verdict t w q ≡ None → IsIn a q.assigns → IsAllowed t (look_up w) a
allowed_at t w q a none is =
    all_in (IsAllowed t (look_up w)) q.assigns a (accepted_allowed t (look_up w) q (accepted-parts t w q none).first_none) is

pub in_behind : {A : Type 0} (xs ys : List A) (x : A) → IsIn x ys → IsIn x (xs ++ ys)
in_behind [] ys x is = is
in_behind (y ∷ xs) ys x is = inr (in_behind xs ys x is)

-- a screen that is kept by a request of these assignments
abbrev pub IsKeptBy : Topology → World → Screen → ℕ → List Assign → Type 0
IsKeptBy t w screen commits assigns = IsScreenOf t screen (changed w assigns commits)

-- Lists of one plane

pub put_of : (plane crtc label : ℕ) (dst src : Rect) → AreOf (object_id Plane plane) (plane_on plane crtc label dst src)
put_of plane crtc label dst src = (refl, (refl, (refl, (refl, (refl, (refl, (refl, (refl, (refl, (refl, tt))))))))))

pub put_plain : (plane crtc label : ℕ) (dst src : Rect) → IsPlainList (plane_on plane crtc label dst src) (object_id Plane plane)
put_plain plane crtc label dst src =
    let same : (object_id Plane plane == object_id Plane plane) ≡ true = same_plane plane in
    record { alpha = rw same refl; blend = rw same refl; zpos = rw same refl }

pub off_of : (plane : ℕ) → AreOf (object_id Plane plane) (plane_off plane)
off_of plane = (refl, (refl, tt))

pub off_plain : (plane : ℕ) → IsPlainList (plane_off plane) (object_id Plane plane)
off_plain plane =
    let same : (object_id Plane plane == object_id Plane plane) ≡ true = same_plane plane in
    record { alpha = rw same refl; blend = rw same refl; zpos = rw same refl }

-- a plane that is put keeps the screen that has it
pub put_kept : (t : Topology) (w : World) (screen : Screen) (commits plane crtc label : ℕ) (dst src : Rect) (fb : Option FbInfo)
    (q : Request) → t.crtcs ≤ 4 → plane < 100 → IsLawful t w → IsScreenOf t screen w → fb ≡ fb_of_look (look_up w label)
    → verdict t w q ≡ None → plane_on plane crtc label dst src ≡ q.assigns
    → IsKeptBy t w (with_placed plane (placed_part crtc dst src fb) screen) commits q.assigns
put_kept t w screen commits plane crtc label dst src fb q few low lawful is of none same =
    let member : IsIn (assigns_to Plane plane FB_ID (value.Named label)) q.assigns =
    subst (λ (xs : List Assign). IsIn (assigns_to Plane plane FB_ID (value.Named label)) xs) same (inl refl) in
    let named = fb_there t w plane label (allowed_at t w q (assigns_to Plane plane FB_ID (value.Named label)) none member) in
    let info : fb ≡ Some named.value = of ∙ named.is in
    subst (λ (xs : List Assign). IsKeptBy t w (with_placed plane (placed_part crtc dst src fb) screen) commits xs) same
    (subst (λ (o : Option FbInfo). IsKeptBy t w (with_placed plane (placed_part crtc dst src o) screen) commits
    (plane_on plane crtc label dst src)) (sym info)
    (plane_alone t w screen (plane_on plane crtc label dst src) commits plane
    (Some (record { crtc = crtc; fb = named.value; dst = dst; src = src })) few low is (put_of plane crtc label dst src)
    (put_plain plane crtc label dst src)
    (put_after w [] plane crtc label named.value dst src lawful.numbered.things named.is)))

-- a plane that is taken away
pub off_kept : (t : Topology) (w : World) (screen : Screen) (commits plane : ℕ) (q : Request) → t.crtcs ≤ 4 → plane < 100
    → IsScreenOf t screen w → plane_off plane ≡ q.assigns → IsKeptBy t w (with_placed plane None screen) commits q.assigns
off_kept t w screen commits plane q few low is same =
    subst (λ (xs : List Assign). IsKeptBy t w (with_placed plane None screen) commits xs) same
    (plane_alone t w screen (plane_off plane) commits plane None few low is (off_of plane) (off_plain plane) (away_after w [] plane))

-- a value that no assignment sets
pub kept_value : (w : World) (assigns : List Assign) (object prop : ℕ) → is_kept prop ≡ true → last_value assigns object prop ≡ None
    → value (apply w.things w.values assigns) object prop ≡ value w.values object prop
kept_value w assigns object prop kept last =
    value-apply w.things w.values assigns object prop kept
    ∙ ap (λ (o : Option Value). number_or w.things o (value w.values object prop)) last

pub set_value_to : (w : World) (assigns : List Assign) (object prop : ℕ) (v : Value) → is_kept prop ≡ true
    → last_value assigns object prop ≡ Some v → value (apply w.things w.values assigns) object prop ≡ number_of w.things v
set_value_to w assigns object prop v kept last =
    value-apply w.things w.values assigns object prop kept
    ∙ ap (λ (o : Option Value). number_or w.things o (value w.values object prop)) last

-- another framebuffer on a plane
flip_placed : (w : World) (plane label : ℕ) (info : FbInfo) (o : Option Placed) → AreNumbered 1000 w.things
    → fb_of_look (look_up w label) ≡ Some info → IsPlaced (plane_at w.things w.values (object_id Plane plane)) o
    → IsPlaced (plane_at w.things (apply w.things w.values (assigns_to Plane plane FB_ID (value.Named label) ∷ [])) (object_id Plane plane))
    (option_map (flipped_to (Some info)) o)
flip_placed w plane label info o numbered named placed = by o placed
  where
    same : (object_id Plane plane == object_id Plane plane) ≡ true
    same = same_plane plane

    stays : (q : ℕ) → is_kept q ≡ true → (FB_ID == q) ≡ false
        → value (apply w.things w.values (assigns_to Plane plane FB_ID (value.Named label) ∷ [])) (object_id Plane plane) q ≡ value w.values
        (object_id Plane plane) q
    stays q kept apart =
        kept_value w (assigns_to Plane plane FB_ID (value.Named label) ∷ []) (object_id Plane plane) q kept
        (rw (same_plane plane, apart) refl)

    fb : framebuffer_of (thing_numbered w.things
        (value (apply w.things w.values (assigns_to Plane plane FB_ID (value.Named label) ∷ [])) (object_id Plane plane) FB_ID)) ≡ Some info
    fb =
        ap (λ z. framebuffer_of (thing_numbered w.things z))
        (set_value_to w (assigns_to Plane plane FB_ID (value.Named label) ∷ []) (object_id Plane plane) FB_ID (value.Named label) refl
        (rw (same_plane plane) refl)) ∙ fb_named w label info numbered named

    by : (p : Option Placed) → IsPlaced (plane_at w.things w.values (object_id Plane plane)) p
        → IsPlaced (plane_at w.things (apply w.things w.values (assigns_to Plane plane FB_ID (value.Named label) ∷ []))
        (object_id Plane plane)) (option_map (flipped_to (Some info)) p)
    by None is = ap natural (stays CRTC_ID refl refl) ∙ is
    by (Some x) has = record {
      crtc = ap natural (stays CRTC_ID refl refl) ∙ has.crtc;
      fb = fb;
      dst = rw (stays CRTC_X refl refl, stays CRTC_Y refl refl, stays CRTC_W refl refl, stays CRTC_H refl refl) has.dst;
      src = rw (stays SRC_X refl refl, stays SRC_Y refl refl, stays SRC_W refl refl, stays SRC_H refl refl) has.src;
    }

-- a plane at another place
move_placed : (w : World) (plane : ℕ) (x y : ℤ) (o : Option Placed) → IsPlaced (plane_at w.things w.values (object_id Plane plane)) o
    → IsPlaced (plane_at w.things (apply w.things w.values
    (assigns_to Plane plane CRTC_X (value.Num x) ∷ assigns_to Plane plane CRTC_Y (value.Num y) ∷ [])) (object_id Plane plane))
    (option_map (moved_to x y) o)
move_placed w plane x y o placed = by o placed
  where
    stays : (q : ℕ) → is_kept q ≡ true → (CRTC_X == q) ≡ false → (CRTC_Y == q) ≡ false
        → value (apply w.things w.values (assigns_to Plane plane CRTC_X (value.Num x) ∷ assigns_to Plane plane CRTC_Y (value.Num y) ∷ []))
        (object_id Plane plane) q ≡ value w.values (object_id Plane plane) q
    stays q kept one two =
        kept_value w (assigns_to Plane plane CRTC_X (value.Num x) ∷ assigns_to Plane plane CRTC_Y (value.Num y) ∷ [])
        (object_id Plane plane) q kept (rw (same_plane plane, one, two) refl)

    left : value (apply w.things w.values (assigns_to Plane plane CRTC_X (value.Num x) ∷ assigns_to Plane plane CRTC_Y (value.Num y) ∷ []))
        (object_id Plane plane) CRTC_X ≡ x
    left =
        set_value_to w (assigns_to Plane plane CRTC_X (value.Num x) ∷ assigns_to Plane plane CRTC_Y (value.Num y) ∷ [])
        (object_id Plane plane) CRTC_X (value.Num x) refl (rw (same_plane plane) refl)

    top : value (apply w.things w.values (assigns_to Plane plane CRTC_X (value.Num x) ∷ assigns_to Plane plane CRTC_Y (value.Num y) ∷ []))
        (object_id Plane plane) CRTC_Y ≡ y
    top =
        set_value_to w (assigns_to Plane plane CRTC_X (value.Num x) ∷ assigns_to Plane plane CRTC_Y (value.Num y) ∷ [])
        (object_id Plane plane) CRTC_Y (value.Num y) refl (rw (same_plane plane) refl)

    moved : (s : Rect) (d : Rect) → s ≡ d → record s { x = x; y = y } ≡ record d { x = x; y = y }
    moved s d e = ap (λ (r : Rect). record r { x = x; y = y }) e

    by : (p : Option Placed) → IsPlaced (plane_at w.things w.values (object_id Plane plane)) p
        → IsPlaced (plane_at w.things (apply w.things w.values
        (assigns_to Plane plane CRTC_X (value.Num x) ∷ assigns_to Plane plane CRTC_Y (value.Num y) ∷ [])) (object_id Plane plane))
        (option_map (moved_to x y) p)
    by None is = ap natural (stays CRTC_ID refl refl refl) ∙ is
    by (Some p) has = record {
      crtc = ap natural (stays CRTC_ID refl refl refl) ∙ has.crtc;
      fb = ap (λ z. framebuffer_of (thing_numbered w.things z)) (stays FB_ID refl refl refl) ∙ has.fb;
      dst = rw (left, top, stays CRTC_W refl refl refl, stays CRTC_H refl refl refl) (moved _ p.dst has.dst);
      src = rw (stays SRC_X refl refl refl, stays SRC_Y refl refl refl, stays SRC_W refl refl refl, stays SRC_H refl refl refl) has.src;
    }

-- the values of a plane that no such list sets
flip_plain : (plane label : ℕ) → IsPlainList (assigns_to Plane plane FB_ID (value.Named label) ∷ []) (object_id Plane plane)
flip_plain plane label =
    let same : (object_id Plane plane == object_id Plane plane) ≡ true = same_plane plane in
    record { alpha = rw same refl; blend = rw same refl; zpos = rw same refl }

move_plain : (plane : ℕ) (x y : ℤ)
    → IsPlainList (assigns_to Plane plane CRTC_X (value.Num x) ∷ assigns_to Plane plane CRTC_Y (value.Num y) ∷ []) (object_id Plane plane)
move_plain plane x y =
    let same : (object_id Plane plane == object_id Plane plane) ≡ true = same_plane plane in
    record { alpha = rw same refl; blend = rw same refl; zpos = rw same refl }

-- `pageflip`
pub flip_kept : (t : Topology) (w : World) (screen : Screen) (commits plane label : ℕ) (fb : Option FbInfo) (q : Request) → t.crtcs ≤ 4
    → plane < length t.planes → plane < 100 → IsLawful t w → IsScreenOf t screen w → fb ≡ fb_of_look (look_up w label)
    → verdict t w q ≡ None → assigns_to Plane plane FB_ID (value.Named label) ∷ [] ≡ q.assigns
    → IsKeptBy t w (with_changed (flipped_to fb) plane screen) commits q.assigns
flip_kept t w screen commits plane label fb q few within low lawful is of none same =
    let member : IsIn (assigns_to Plane plane FB_ID (value.Named label)) q.assigns =
    subst (λ (xs : List Assign). IsIn (assigns_to Plane plane FB_ID (value.Named label)) xs) same (inl refl) in
    let named = fb_there t w plane label (allowed_at t w q (assigns_to Plane plane FB_ID (value.Named label)) none member) in
    let info : fb ≡ Some named.value = of ∙ named.is in
    subst (λ (xs : List Assign). IsKeptBy t w (with_changed (flipped_to fb) plane screen) commits xs) same
    (subst (λ (o : Option FbInfo). IsKeptBy t w (with_changed (flipped_to o) plane screen) commits
    (assigns_to Plane plane FB_ID (value.Named label) ∷ [])) (sym info)
    (plane_alone t w screen (assigns_to Plane plane FB_ID (value.Named label) ∷ []) commits plane
    (option_map (flipped_to (Some named.value)) (placed_at screen plane)) few low is (refl, tt) (flip_plain plane label)
    (flip_placed w plane label named.value (placed_at screen plane) lawful.numbered.things named.is (is.placed plane within))))

-- `cursor` with `move`
pub move_kept : (t : Topology) (w : World) (screen : Screen) (commits plane : ℕ) (x y : ℤ) (q : Request) → t.crtcs ≤ 4
    → plane < length t.planes → plane < 100 → IsScreenOf t screen w
    → assigns_to Plane plane CRTC_X (value.Num x) ∷ assigns_to Plane plane CRTC_Y (value.Num y) ∷ [] ≡ q.assigns
    → IsKeptBy t w (with_changed (moved_to x y) plane screen) commits q.assigns
move_kept t w screen commits plane x y q few within low is same =
    subst (λ (xs : List Assign). IsKeptBy t w (with_changed (moved_to x y) plane screen) commits xs) same
    (plane_alone t w screen (assigns_to Plane plane CRTC_X (value.Num x) ∷ assigns_to Plane plane CRTC_Y (value.Num y) ∷ []) commits plane
    (option_map (moved_to x y) (placed_at screen plane)) few low is (refl, (refl, tt))
    (move_plain plane x y) (move_placed w plane x y (placed_at screen plane) (is.placed plane within)))
