-- The words of a sound world's states, read back.
use Rattle.std.proofs.Common.{◌≡◌, ℕ, ◌≤◌, List, [], ◌∷◌, Bool, true, false, ◌==◌, Option, Some, None, refl, sym, ap, ◌∙◌, subst, arith}
use Rattle.std.proofs.Common.{inl, inr}
use Rattle.std.specs.Prelude.{if◌then◌else◌, not, ℤ, pos, negsuc, is_some}
use Rattle.std.specs.List.{AllByRecursion}
use Rattle.std.specs.Ordering.{int_eq}
use Rattle.std.proofs.lemmas.Bool.{cond-false, ne_eqb}
use Rattle.std.proofs.lemmas.Int.{ints}
use Rattle.kms_model.specs.Firsts.{one_if}
use Rattle.kms_model.specs.declared.objects.Format.{Format}
use Rattle.kms_model.specs.declared.objects.Format.TheVariants.{Xr24, Ar24, Rg16}
use Rattle.kms_model.specs.declared.objects.Kind.TheVariants.{Crtc, Plane, Conn}
use Rattle.kms_model.specs.declared.objects.Gamma.{Gamma}
use Rattle.kms_model.specs.declared.objects.Mode.{Mode}
use Rattle.kms_model.specs.declared.objects.Topology.{Topology}
use Rattle.kms_model.specs.declared.pictures.FbInfo.{FbInfo}
use Rattle.kms_model.specs.declared.pictures.Picture.{Picture}
use Rattle.kms_model.specs.declared.pictures.Picture.TheVariants.{Off, On}
use Rattle.kms_model.specs.declared.properties.TheConstants.{ACTIVE, FB_ID, GAMMA_LUT, MODE_ID}
use Rattle.kms_model.specs.declared.states.PlaneState.{PlaneState}
use Rattle.kms_model.specs.declared.worlds.Content.{Content}
use Rattle.kms_model.specs.declared.worlds.Content.TheVariants as content
use Rattle.kms_model.specs.declared.worlds.Thing.{Thing}
use Rattle.kms_model.specs.declared.worlds.World.{World}
use Rattle.kms_model.specs.Device.ModeBytes.{mode_held}
use Rattle.kms_model.specs.Device.Objects.{ids_of}
use Rattle.kms_model.specs.Device.Sound.{AreNumbered, IsBetween, IsPlaneInRange, IsLawful}
use Rattle.kms_model.specs.Device.States.{connector_on, framebuffer_in, framebuffer_of, gamma_at, gamma_in, gamma_of, mode_at, mode_in}
use Rattle.kms_model.specs.Device.States.{mode_of, natural, plane_at}
use Rattle.kms_model.specs.Device.World.{thing_numbered, value}
use Rattle.kms_model.specs.Frames.Pictures.{layers_with, picture, picture_in, put_plane, seen_on, shown_with}
use Rattle.kms_model.specs.Frames.Shown.{AreFramed, FramesIn}
use Rattle.kms_model.specs.Machine.Registers.{CrtcWords, bytes_of_words, code_of, crtc_words, fb_number, format_in, gamma_in_words}
use Rattle.kms_model.specs.Machine.Registers.{gamma_with, gamma_words, mode_in_words, mode_words, plane_in, plane_words}
use Rattle.kms_model.specs.Request.Checks.{is_active}
use Rattle.kms_model.proofs.HeldValues.{plain_held-from}
use Rattle.kms_model.proofs.Items.{IsIn, IsObject, ids-in}
use Rattle.kms_model.proofs.StateLemmas.{plane_in_range, sound-mode}
use Rattle.kms_model.proofs.ThingLemmas.{IsNumberedIn, find-in, ids-numbered}
use Rattle.kms_model.proofs.Facts.{by_recursion-at, signed_back}
use Rattle.kms_laws.proofs.Invariants.{picture_in_words}
use Rattle.kms_laws.proofs.Requests.{words_at}

-- Items of a list of things

-- the id of a framebuffer that is found under a number
framed_id : (things : List Thing) (id : ℕ) (c : Content) (fb : FbInfo) → FramesIn things id c → framebuffer_in c ≡ Some fb → fb.id ≡ id
framed_id things id (content.Framebuffer info buffer) fb frames e =
    (let same : info ≡ fb = cc in ap (λ (f : FbInfo). f.id) (sym same) ∙ frames.own_id)
framed_id things id (content.Buffer width height format pattern) fb frames e = absurd cc
framed_id things id (content.Mode m) fb frames e = absurd cc
framed_id things id (content.Blob bytes) fb frames e = absurd cc
framed_id things id content.Fence fb frames e = absurd cc
framed_id things id content.OutFence fb frames e = absurd cc

fb_some : (things : List Thing) (number : ℤ) (fb : FbInfo) → AreNumbered 1000 things → AreFramed things
    → framebuffer_of (thing_numbered things number) ≡ Some fb → 1000 ≤ fb.id
fb_some things number fb numbered framed e = go (thing_numbered things number) refl e
  where
    go : (o : Option Thing) → thing_numbered things number ≡ o → framebuffer_of o ≡ Some fb → 1000 ≤ fb.id
    go None found e = absurd cc
    go (Some thing) found e =
        let is : IsIn thing things = find-in (λ u. int_eq (pos u.id) number) things thing found in
        let n : IsNumberedIn 1000 things thing.id = ids-numbered 1000 things thing numbered is in
        let same : fb.id ≡ thing.id = framed_id things thing.id thing.content fb
        (by_recursion-at (λ u. FramesIn things u.id u.content) things thing framed is) e in
        omega (arith, n.low, same)

-- Planes

format_back : (f : Format) → format_in (code_of f) ≡ f
format_back Xr24 = refl
format_back Ar24 = refl
format_back Rg16 = refl

-- a framebuffer, or none, of a plane's words
fb_words : Option FbInfo → Option FbInfo
fb_words fb =
    if fb_number (λ f. f.id) fb == 0 then None
    else Some (record {
      id = fb_number (λ f. f.id) fb;
      width = fb_number (λ f. f.width) fb;
      height = fb_number (λ f. f.height) fb;
      format =
          format_in (fb_number (λ f. code_of f.format) fb);
    })

fb_back : (fb : Option FbInfo) → ((f : FbInfo) → fb ≡ Some f → 1000 ≤ f.id) → fb_words fb ≡ fb
unfolding fb_words
fb_back None known = refl
fb_back (Some f) known =
    cond-false (f.id == 0) None _ (ne_eqb f.id 0 (λ e. absurd (omega (arith, e, known f refl))))
    ∙ ap (λ z. Some (record { id = f.id; width = f.width; height = f.height; format = z })) (format_back f.format)

pos_back : (high : ℕ) (z : ℤ) → IsBetween (pos 0) (pos high) z → pos (natural z) ≡ z
pos_back high (pos n) between = refl
pos_back high (negsuc n) between = absurd (omega (arith, ints, between.low))

plane_with : Option FbInfo → ℤ → ℤ → ℤ → ℤ → ℤ → ℤ → ℤ → ℤ → PlaneState → PlaneState
plane_with fb x y w h src_x src_y src_w src_h s = record s {
  fb = fb;
  dst = record { x = x; y = y; w = w; h = h };
  src = record { x = src_x; y = src_y; w = src_w; h = src_h };
}

state_back : (s : PlaneState) → IsPlaneInRange s → ((f : FbInfo) → s.fb ≡ Some f → 1000 ≤ f.id) → plane_in (plane_words s) ≡ s
unfolding plane_in plane_words plane_with fb_words
state_back s range known = (λ i. plane_with (fb_back s.fb known i) (signed_back s.dst.x range.x i) (signed_back s.dst.y range.y i)
    (pos_back 2147483647 s.dst.w range.w i) (pos_back 2147483647 s.dst.h range.h i)
    (pos_back 4294967295 s.src.x range.src_x i) (pos_back 4294967295 s.src.y range.src_y i) (pos_back 4294967295 s.src.w range.src_w i)
    (pos_back 4294967295 s.src.h range.src_h i) s)

pub plane_back : (t : Topology) (w : World) (p : ℕ) → IsLawful t w → AreFramed w.things → IsIn p (ids_of t Plane)
    → plane_in (plane_words (plane_at w.things w.values p)) ≡ plane_at w.things w.values p
plane_back t w p lawful framed is =
    state_back (plane_at w.things w.values p)
    (plane_in_range t w.things w.values p (plain_held-from t w.things w.values lawful.sound.held) is)
    (λ f e. fb_some w.things (value w.values p FB_ID) f lawful.numbered.things framed e)

-- Modes and gamma tables

-- a mode is what its words hold
abbrev pub IsKeptMode : Mode → Type 0
IsKeptMode m = mode_held (bytes_of_words (mode_words (Some m))) ≡ m

-- a gamma table is what its words hold
abbrev pub IsKeptGamma : Gamma → Type 0
IsKeptGamma g = gamma_with (bytes_of_words (gamma_words (Some g))) ≡ g

-- so is the mode of a content, if it has one, and its gamma table
pub record KeepsMode (c : Content) : Type 0 where
  pub mode : (m : Mode) → mode_in c ≡ Some m → IsKeptMode m
  pub gamma : (g : Gamma) → gamma_in c ≡ Some g → IsKeptGamma g

abbrev pub AreKept : List Thing → Type 0
AreKept things = AllByRecursion (λ thing. KeepsMode thing.content) things

-- what a numbered thing has is kept where each thing keeps it
kept_of : {V : Type 0} (of : Option Thing → Option V) (Q : V → Type 0) → of None ≡ None
    → ((thing : Thing) → KeepsMode thing.content → (v : V) → of (Some thing) ≡ Some v → Q v)
    → (things : List Thing) (number : ℤ) (v : V) → AreKept things → of (thing_numbered things number) ≡ Some v → Q v
kept_of of Q none each things number v kept e = go (thing_numbered things number) refl e
  where
    go : (o : Option Thing) → thing_numbered things number ≡ o → of o ≡ Some v → Q v
    go None found is = let never : None ≡ Some v = sym none ∙ is in absurd cc
    go (Some thing) found is = each thing (by_recursion-at (λ u. KeepsMode u.content) things thing kept
        (find-in (λ u. int_eq (pos u.id) number) things thing found)) v is

kept_mode : (things : List Thing) (number : ℤ) (m : Mode) → AreKept things → mode_of (thing_numbered things number) ≡ Some m → IsKeptMode m
kept_mode = kept_of mode_of IsKeptMode refl (λ thing keeps. keeps.mode)

kept_gamma : (things : List Thing) (number : ℤ) (g : Gamma) → AreKept things → gamma_of (thing_numbered things number) ≡ Some g
    → IsKeptGamma g
kept_gamma = kept_of gamma_of IsKeptGamma refl (λ thing keeps. keeps.gamma)

-- Pictures

layers-alike : (f g : ℕ → PlaneState) (m : Mode) (c : ℕ) (ps : List ℕ) → ((p : ℕ) → IsIn p ps → f p ≡ g p) → layers_with f m c ps
    ≡ layers_with g m c ps
layers-alike f g m c [] h = refl
layers-alike f g m c (p ∷ ps) h = (λ i. put_plane m p (h p (inl refl) i) (seen_on c (h p (inl refl) i))
    (layers-alike f g m c ps (λ q e. h q (inr e)) i))

pub picture-alike : (t : Topology) (w : CrtcWords) (f g : ℕ → PlaneState) (c : ℕ) → ((p : ℕ) → IsIn p (ids_of t Plane) → f p ≡ g p)
    → picture_in_words t w f c ≡ picture_in_words t w g c
picture-alike t w f g c h =
    ap (λ layers. if not (w.active == 0) then On (shown_with (mode_in_words w) w.conn (gamma_in_words w) layers) else Off)
    (layers-alike f g (mode_in_words w) c (ids_of t Plane) h)

-- what a CRTC's words show, where they are those of values, is what the values show
pub words_show : (t : Topology) (w : World) (c : ℕ) → IsLawful t w → AreFramed w.things → AreKept w.things → IsIn c (ids_of t Crtc)
    → picture_in_words t (words_at t w.things w.values c) (λ p. plane_in (plane_words (plane_at w.things w.values p))) c
    ≡ picture t w.things w.values c
unfolding crtc_words picture
words_show t w c lawful framed kept is =
    picture-alike t (words_at t w.things w.values c) _ (plane_at w.things w.values) c (λ p i. plane_back t w p lawful framed i)
    ∙ by_active (int_eq (value w.values c ACTIVE) (pos 0)) refl
  where
    -- the gamma table of the words of one, or of none
    table : Option Gamma → Option Gamma
    table g = if one_if (is_some g) == 1 then Some (gamma_with (bytes_of_words (gamma_words g))) else None

    table-back : (g : Option Gamma) → gamma_at w.things w.values c ≡ g → table g ≡ g
    table-back None e = refl
    table-back (Some g) e = ap Some (kept_gamma w.things (value w.values c GAMMA_LUT) g kept e)

    shows : Option Mode → Picture
    shows m =
        On (shown_with (mode_held (bytes_of_words (mode_words m))) (connector_on w.values c (ids_of t Conn))
        (table (gamma_at w.things w.values c))
        (layers_with (plane_at w.things w.values) (mode_held (bytes_of_words (mode_words m))) c (ids_of t Plane)))

    with_mode : (m : Option Mode) → mode_at w.things w.values c ≡ m → is_some m ≡ true → shows m ≡ picture_in t w.things w.values c m
    with_mode None e some = absurd cc
    with_mode (Some m) e some =
        let mode = kept_mode w.things (value w.values c MODE_ID) m kept e in
        let gamma = table-back (gamma_at w.things w.values c) refl in
        λ i. On (shown_with (mode i) (connector_on w.values c (ids_of t Conn)) (gamma i)
        (layers_with (plane_at w.things w.values) (mode i) c (ids_of t Plane)))

    some_mode : is_active w.values c ≡ true → is_some (mode_at w.things w.values c) ≡ true
    some_mode on =
        let o : IsObject t Crtc c = ids-in t Crtc c is in
        subst (λ z. is_active w.values z ≡ true → is_some (mode_at w.things w.values z) ≡ true) (sym o.same)
        (sound-mode t w o.index lawful.sound o.within) on

    by_active : (off : Bool) → int_eq (value w.values c ACTIVE) (pos 0) ≡ off
        → (if not (one_if (not off) == 0) then shows (mode_at w.things w.values c) else Off)
        ≡ (if off then Off else picture_in t w.things w.values c (mode_at w.things w.values c))
    by_active true e = refl
    by_active false e = with_mode (mode_at w.things w.values c) refl (some_mode (ap not e))
