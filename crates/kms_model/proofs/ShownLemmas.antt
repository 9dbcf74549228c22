-- What the CRTCs of a sound world show can be composed.
use Rattle.std.proofs.Common.{◌≡◌, ℕ, zero, suc, ◌+◌, ◌*◌, ◌<◌, Bool, true, false, cond, List, [], ◌∷◌, length, Option, Some, None, inl}
use Rattle.std.proofs.Common.{inr, arith, refl, sym, ap, ◌∙◌, subst, eqb}
use Rattle.std.specs.Prelude.{nat_le, not, ◌&&◌, ◌==◌, ℤ, pos, slice_get, is_none}
use Rattle.std.specs.List.{AllByRecursion, flat_map, range_with_len}
use Rattle.std.specs.Ordering.{int_eq}
use Rattle.std.proofs.lemmas.Bool.{eqb-true, and_from, and_parts, le-leb}
use Rattle.std.proofs.lemmas.Bool.Decides.{nat_tests}
use Rattle.std.proofs.lemmas.List.{length-append}
use Rattle.std.proofs.lemmas.List.FromFn.{length-map-range_with_len}
use Rattle.kms_model.specs.declared.objects.Format.{Format}
use Rattle.kms_model.specs.declared.objects.Kind.TheVariants as kind
use Rattle.kms_model.specs.declared.objects.Mode.{Mode}
use Rattle.kms_model.specs.declared.objects.PlaneInfo.{PlaneInfo}
use Rattle.kms_model.specs.declared.objects.Topology.{Topology}
use Rattle.kms_model.specs.declared.pictures.FbInfo.{FbInfo}
use Rattle.kms_model.specs.declared.pictures.Layer.{Layer}
use Rattle.kms_model.specs.declared.pictures.Rect.{Rect}
use Rattle.kms_model.specs.declared.pictures.Picture.TheVariants.{Off}
use Rattle.kms_model.specs.declared.properties.TheConstants.{FB_ID, ACTIVE}
use Rattle.kms_model.specs.declared.scripts.Pattern.{Pattern}
use Rattle.kms_model.specs.declared.states.PlaneState.{PlaneState}
use Rattle.kms_model.specs.declared.worlds.Content.{Content}
use Rattle.kms_model.specs.declared.worlds.Content.TheVariants as content
use Rattle.kms_model.specs.declared.worlds.Setting.{Setting}
use Rattle.kms_model.specs.declared.worlds.Thing.{Thing}
use Rattle.kms_model.specs.declared.worlds.World.{World}
use Rattle.kms_model.specs.Request.Checks.{has_sizes, has_start, is_unscaled, placed_refusal, plane_refusal_with, plane_refusal}
use Rattle.kms_model.specs.Request.Checks.{shown_refusal, has_crtc, is_beyond}
use Rattle.kms_model.specs.Device.Execution.{BufferInfo, buffer_info}
use Rattle.kms_model.specs.Firsts.{or_else, number_if}
use Rattle.kms_model.specs.Script.Grammar.{format_bit}
use Rattle.kms_model.specs.Frames.Images.{FitsMode, image_of, seen_in}
use Rattle.kms_model.specs.Device.Masks.{has_bit}
use Rattle.kms_model.specs.Device.Objects.{ids_of}
use Rattle.kms_model.specs.Frames.Pictures.{layer_of, seen_on, put_layer, put_plane, layers_of, picture_in, picture}
use Rattle.kms_model.specs.Frames.Rectangles.{fits_source, is_scaled_little}
use Rattle.kms_model.specs.Device.Sound.{AreNumbered, IsSound, IsPlaneInRange}
use Rattle.kms_model.specs.Device.States.{natural, framebuffer_in, framebuffer_of, mode_at, plane_at}
use Rattle.kms_model.specs.Things.Kept.{Seen, row_words, buffer_words}
use Rattle.kms_model.specs.Device.World.{value, thing_numbered, thing_with_id}
use Rattle.kms_model.proofs.TouchedLemmas.{accepts}
use Rattle.kms_model.proofs.Items.{IsIn, or_else-none, number_if-none, ids-in, with_ids-has}
use Rattle.kms_model.proofs.ThingLemmas.{find-in, found_with_id, ids-numbered}
use Rattle.kms_model.proofs.StateLemmas.{sound-plane_in_range}
use Rattle.kms_model.proofs.Facts.{by_recursion-at, all-from_recursion, all_map}
use Rattle.kms_model.specs.Frames.Shown.{AreFramed, IsFramed, FramesIn, shown_buffer, HasWords, CanBeShown, EachCanBeShown}

-- Layers, each put at its place

put-if : (P : ℕ × Layer → Type 0) (b : Bool) (l m : ℕ × Layer) (ms qs : List (ℕ × Layer)) → P l → P m → AllByRecursion P ms
    → AllByRecursion P qs → AllByRecursion P (cond b (l ∷ m ∷ ms) (m ∷ qs))
put-if P true l m ms qs pl pm pms pqs = (pl, (pm, pms))
put-if P false l m ms qs pl pm pms pqs = (pm, pqs)

put-all : (P : ℕ × Layer → Type 0) (l : ℕ × Layer) (ls : List (ℕ × Layer)) → P l → AllByRecursion P ls → AllByRecursion P (put_layer l ls)
put-all P l [] p h = (p, tt)
put-all P l (m ∷ ms) p h = put-if P (nat_le l.0 m.0) l m ms (put_layer l ms) p h.0 h.1 (put-all P l ms p h.1)

put-plane : (P : Layer → Type 0) (m : Mode) (plane : ℕ) (s : PlaneState) (o : Option FbInfo) (ls : List (ℕ × Layer))
    → ((fb : FbInfo) → o ≡ Some fb → P (layer_of m plane s fb)) → AllByRecursion (λ l. P l.1) ls
    → AllByRecursion (λ l. P l.1) (put_plane m plane s o ls)
put-plane P m plane s None ls each h = h
put-plane P m plane s (Some fb) ls each h = put-all (λ l. P l.1) (s.zpos, layer_of m plane s fb) ls (each fb refl) h

layers-all : (P : Layer → Type 0) (things : List Thing) (values : List Setting) (m : Mode) (crtc : ℕ) (planes : List ℕ)
    → ((plane : ℕ) (fb : FbInfo) → IsIn plane planes → seen_on crtc (plane_at things values plane) ≡ Some fb
    → P (layer_of m plane (plane_at things values plane) fb))
    → AllByRecursion (λ l. P l.1) (layers_of things values m crtc planes)
layers-all P things values m crtc [] each = tt
layers-all P things values m crtc (plane ∷ planes) each =
    put-plane P m plane (plane_at things values plane) (seen_on crtc (plane_at things values plane)) (layers_of things values m crtc planes)
    (λ fb e. each plane fb (inl refl) e)
    (layers-all P things values m crtc planes (λ p fb is e. each p fb (inr is) e))

un-not : (b : Bool) → not b ≡ false → b ≡ true
un-not true e = refl
un-not false e = absurd cc

-- What refusals say of a plane that is shown

record IsOn (s : PlaneState) (crtc : ℕ) (fb : FbInfo) : Type 0 where
  on : s.crtc ≡ crtc
  has : s.fb ≡ Some fb

on-if : (b : Bool) (o : Option FbInfo) (fb : FbInfo) → cond b o None ≡ Some fb → (b ≡ true) × (o ≡ Some fb)
on-if true o fb e = (refl, e)
on-if false o fb e = absurd cc

is-on : (s : PlaneState) (crtc : ℕ) (fb : FbInfo) → seen_on crtc s ≡ Some fb → IsOn s crtc fb
is-on s crtc fb e = let both = on-if (s.crtc == crtc) s.fb fb e in record { on = eqb-true s.crtc crtc both.0; has = both.1 }

-- it is on a CRTC, and its source ends in its framebuffer
record Passes (s : PlaneState) (fb : FbInfo) : Type 0 where
  apart : (s.crtc == 0) ≡ false
  fits : fits_source s.src fb.width fb.height ≡ true

fits-from : (info : PlaneInfo) (fb : FbInfo) (s : PlaneState) → placed_refusal info fb s s ≡ None → fits_source s.src fb.width fb.height
    ≡ true
fits-from info fb s e =
    let a = or_else-none (number_if 11 (not (has_crtc info.crtcs s.crtc))) _ e in
    let b = or_else-none (number_if 12 (not (has_bit info.formats (format_bit fb.format)))) _ a.second_none in
    let c = or_else-none (number_if 13 (is_beyond s.dst)) _ b.second_none in
    let d = or_else-none (number_if 14 (not (fits_source s.src fb.width fb.height))) _ c.second_none in
    un-not _ (number_if-none 14 _ d.first_none)

passes-if : (info : PlaneInfo) (s : PlaneState) (fb : FbInfo) (b : Bool) → (s.crtc == 0) ≡ b → plane_refusal_with info s s (Some fb) b
    ≡ None → Passes s fb
passes-if info s fb true is e = absurd cc
passes-if info s fb false is e = record { apart = is; fits = fits-from info fb s e }

passes : (info : PlaneInfo) (s : PlaneState) (fb : FbInfo) → s.fb ≡ Some fb → plane_refusal info s s ≡ None → Passes s fb
unfolding plane_refusal
passes info s fb is e = passes-if info s fb (s.crtc == 0) refl (ap (λ o. plane_refusal_with info s s o (s.crtc == 0)) (sym is) ∙ e)

sized-if : (profile : ℕ) (mode : Option Mode) (s : PlaneState) (b : Bool) → b ≡ false
    → cond b None (or_else (number_if 21 (is_none mode))
    (or_else (number_if 22 (not (has_sizes profile s.src s.dst))) (number_if 23 (not (has_start profile s.src))))) ≡ None
    → has_sizes profile s.src s.dst ≡ true
sized-if profile mode s true is e = absurd cc
sized-if profile mode s false is e =
    let a = or_else-none (number_if 21 (is_none mode)) _ e in
    let b = or_else-none (number_if 22 (not (has_sizes profile s.src s.dst))) _ a.second_none in
    un-not _ (number_if-none 22 _ b.first_none)

sized : (profile : ℕ) (mode : Option Mode) (s : PlaneState) → (s.crtc == 0) ≡ false → shown_refusal profile mode s ≡ None
    → has_sizes profile s.src s.dst ≡ true
unfolding shown_refusal
sized profile mode s apart e = sized-if profile mode s (s.crtc == 0) apart e

-- an equal size is scaled little
little-from : (a b : ℤ) → (natural a == 65536 * natural b) ≡ true → is_scaled_little a b ≡ true
little-from a b e =
    let same : natural a ≡ 65536 * natural b = eqb-true (natural a) (65536 * natural b) e in
    and_from (nat_le (65536 * natural b) (4 * natural a)) (nat_le (natural a) (262144 * natural b)) (le-leb _ _ (omega arith))
    (le-leb _ _ (omega arith))

-- in each profile the sizes of a source and its destination are scaled little
little-if : (src dst : Rect) (b : Bool) → cond b (is_unscaled src dst) (is_scaled_little src.w dst.w && is_scaled_little src.h dst.h) ≡ true
    → (is_scaled_little src.w dst.w ≡ true) × (is_scaled_little src.h dst.h ≡ true)
little-if src dst true e =
    let sides = and_parts (natural src.w == 65536 * natural dst.w) _ e in (little-from src.w dst.w sides.0, little-from src.h dst.h sides.1)
little-if src dst false e = and_parts (is_scaled_little src.w dst.w) (is_scaled_little src.h dst.h) e

item-at : {A : Type 0} (xs : List A) (i : ℕ) → i < length xs → (x : A) × (slice_get xs i ≡ Some x)
item-at [] i less = absurd (omega arith)
item-at (x ∷ xs) zero less = (x, refl)
item-at (x ∷ xs) (suc i) less = item-at xs i (omega arith)

placed : (t : Topology) (w : World) (m : Mode) (crtc plane : ℕ) (fb : FbInfo) → IsSound t w → IsIn plane (ids_of t kind.Plane)
    → seen_on crtc (plane_at w.things w.values plane) ≡ Some fb → FitsMode m (layer_of m plane (plane_at w.things w.values plane) fb)
placed t w m crtc plane fb sound is seen =
    let all = accepts t w sound in
    let o = ids-in t kind.Plane plane is in
    let s = plane_at w.things w.values plane in
    let on = is-on s crtc fb seen in
    let at = item-at t.planes o.index o.within in
    let here = all.planes (200 + o.index, at.0) (with_ids-has 200 t.planes o.index at.0 at.1) in
    let none : plane_refusal at.0 s s ≡ None = subst
    (λ id. plane_refusal at.0 (plane_at w.things w.values id) (plane_at w.things w.values id) ≡ None) (sym o.same) here in
    let p = passes at.0 s fb on.has none in
    let sides = little-if s.src s.dst (t.profile == 1) (sized t.profile (mode_at w.things w.values s.crtc) s p.apart (all.shown plane is))
    in
    let range : IsPlaneInRange s = subst (λ id. IsPlaneInRange (plane_at w.things w.values id)) (sym o.same)
    (sound-plane_in_range t w o.index sound o.within) in
    record {
      visible = refl;
      alpha = range.alpha;
      blend = range.blend;
      left = range.src_x.low;
      top = range.src_y.low;
      fits = p.fits;
      src_w = range.src_w;
      src_h = range.src_h;
      dst_w = range.w;
      dst_h = range.h;
      width = sides.0;
      height = sides.1;
    }

-- Words

length-rows : (f : ℕ → List ℕ) (width : ℕ) → ((y : ℕ) → length (f y) ≡ width) → (from n : ℕ) → length (flat_map f (range_with_len from n))
    ≡ width * n
length-rows f width each from zero = omega arith
length-rows f width each from (suc n) =
    let rest = length-rows f width each (from + 1) n in
    length-append (f from) (flat_map f (range_with_len (from + 1) n)) ∙ rw (each from, rest) (omega arith)

length-words : (pattern : Pattern) (format : Format) (width height : ℕ) → length (buffer_words pattern format width height) ≡ width * height
length-words pattern format width height = length-rows (row_words pattern format width) width (λ y. length-map-range_with_len _ 0 width) 0
    height

buffer-words : (id : ℕ) (c : Content) (fb : FbInfo) (buffer : ℕ) → buffer_info id c ≡ Some (shown_buffer fb buffer)
    → (seen : Seen) × ((seen_in c ≡ Some seen) × ((seen.width ≡ fb.width)
    × ((seen.height ≡ fb.height) × (length seen.words ≡ fb.width * fb.height))))
buffer-words id (content.Buffer width height format pattern) fb buffer e =
    let same : record { id = id; width = width; height = height; format = format } ≡ shown_buffer fb buffer = cc e in
    let w : width ≡ fb.width = ap (λ (b : BufferInfo). b.width) same in
    let h : height ≡ fb.height = ap (λ (b : BufferInfo). b.height) same in (
      record { width = width; height = height; format = format; words = buffer_words pattern format width height },
      (refl, (w, (h, length-words pattern format width height ∙ rw (w, h) refl))),
    )
buffer-words id (content.Framebuffer info of) fb buffer e = absurd cc
buffer-words id (content.Mode m) fb buffer e = absurd cc
buffer-words id (content.Blob bytes) fb buffer e = absurd cc
buffer-words id content.Fence fb buffer e = absurd cc
buffer-words id content.OutFence fb buffer e = absurd cc

same-id : (a : ℕ) → eqb a a ≡ true
same-id a = grind (arith, nat_tests)

other-id : (a b : ℕ) → a < b → eqb a b ≡ false
other-id a b less = grind (arith, nat_tests)

pub with-id : (n : ℕ) (things : List Thing) (t : Thing) → AreNumbered n things → IsIn t things → thing_with_id things t.id ≡ Some t
with-id n [] t numbered is = absurd is
with-id n (u ∷ us) t numbered (inl same) = subst (λ (v : Thing). thing_with_id (u ∷ us) v.id ≡ Some v) same (rw (same-id u.id) refl)
with-id n (u ∷ us) t numbered (inr rest) =
    let later = ids-numbered (n + 1) us t numbered.1 rest in
    rw (other-id u.id t.id (omega (arith, numbered.0, later.low))) (with-id (n + 1) us t numbered.1 rest)

image-at : (things : List Thing) (f b : Thing) (fb : FbInfo) (buffer : ℕ) → thing_with_id things f.id ≡ Some f → f.content
    ≡ content.Framebuffer fb buffer → thing_with_id things buffer ≡ Some b → image_of things f.id ≡ seen_in b.content
image-at things f b fb buffer found is there = rw (found, is, there) refl

record IsThing (things : List Thing) (fb : FbInfo) : Type 0 where
  thing : Thing
  buffer : ℕ
  found : thing_with_id things thing.id ≡ Some thing
  content : thing.content ≡ content.Framebuffer fb buffer
  there : IsIn thing things

fb-content : (c : Content) (fb : FbInfo) → framebuffer_in c ≡ Some fb → (buffer : ℕ) × (c ≡ content.Framebuffer fb buffer)
fb-content (content.Framebuffer info of) fb e = (of, ap (λ i. content.Framebuffer i of) (cc e))
fb-content (content.Buffer width height format pattern) fb e = absurd cc
fb-content (content.Mode m) fb e = absurd cc
fb-content (content.Blob bytes) fb e = absurd cc
fb-content content.Fence fb e = absurd cc
fb-content content.OutFence fb e = absurd cc

is-thing : (things : List Thing) (number : ℤ) (o : Option Thing) (fb : FbInfo) → thing_numbered things number ≡ o → framebuffer_of o
    ≡ Some fb → IsThing things fb
is-thing things number None fb at e = absurd cc
is-thing things number (Some t) fb at e =
    let c = fb-content t.content fb e in
    let there = find-in (λ u. int_eq (pos u.id) number) things t at in
    record { thing = t; buffer = c.0; found = found_with_id things number t at; content = c.1; there = there }

has-words : (things : List Thing) (fb : FbInfo) → AreFramed things → IsThing things fb → HasWords things fb
has-words things fb framed is =
    let f : IsFramed things is.thing.id fb is.buffer = subst (λ c. FramesIn things is.thing.id c) is.content
    (by_recursion-at (λ t. FramesIn things t.id t.content) things is.thing framed is.there) in
    let b = f.own_buffer in
    let s = buffer-words b.0.id b.0.content fb is.buffer b.1.1 in
    record {
      seen = s.0;
      found = ap (image_of things) f.own_id ∙ image-at things is.thing b.0 fb is.buffer is.found is.content b.1.0 ∙ s.1.0;
      width = s.1.1.0;
      height = s.1.1.1.0;
      words = s.1.1.1.1;
    }

can_be_shown : (t : Topology) (w : World) (m : Mode) (crtc plane : ℕ) (fb : FbInfo) → IsSound t w → AreFramed w.things
    → IsIn plane (ids_of t kind.Plane)
    → seen_on crtc (plane_at w.things w.values plane) ≡ Some fb
    → CanBeShown w.things m (layer_of m plane (plane_at w.things w.values plane) fb)
can_be_shown t w m crtc plane fb sound framed is seen =
    let on = is-on (plane_at w.things w.values plane) crtc fb seen in
    record {
      placed = placed t w m crtc plane fb sound is seen;
      words = has-words w.things fb framed (is-thing w.things (value w.values plane FB_ID)
          (thing_numbered w.things (value w.values plane FB_ID)) fb refl on.has);
    }

each-in : (t : Topology) (w : World) (crtc : ℕ) (o : Option Mode) → IsSound t w → AreFramed w.things
    → EachCanBeShown w.things (picture_in t w.things w.values crtc o)
each-in t w crtc None sound framed = tt
each-in t w crtc (Some m) sound framed =
    all-from_recursion (CanBeShown w.things m) _ (all_map (CanBeShown w.things m) (λ l. l.1)
    (layers_of w.things w.values m crtc (ids_of t kind.Plane))
    (layers-all (CanBeShown w.things m) w.things w.values m crtc (ids_of t kind.Plane)
    (λ plane fb is seen. can_be_shown t w m crtc plane fb sound framed is seen)))

each-if : (t : Topology) (w : World) (crtc : ℕ) (b : Bool) → IsSound t w → AreFramed w.things
    → EachCanBeShown w.things (cond b Off (picture_in t w.things w.values crtc (mode_at w.things w.values crtc)))
each-if t w crtc true sound framed = tt
each-if t w crtc false sound framed = each-in t w crtc (mode_at w.things w.values crtc) sound framed

-- each layer of what a CRTC shows can be shown
pub each_can_be_shown : (t : Topology) (w : World) (crtc : ℕ) → IsSound t w → AreFramed w.things
    → EachCanBeShown w.things (picture t w.things w.values crtc)
unfolding picture
each_can_be_shown t w crtc sound framed = each-if t w crtc (int_eq (value w.values crtc ACTIVE) (pos 0)) sound framed
