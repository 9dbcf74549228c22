-- What labels of modes and framebuffers name, where nothing is closed.
use Rattle.std.proofs.Common.{◌≡◌, ℕ, Bool, true, false, List, [], ◌∷◌, pos, Option, Some, None, refl, sym, ap, ◌∙◌, subst}
use Rattle.std.specs.Prelude.{◌&&◌, ◌==◌, find, is_none, is_some, nat_eq}
use Rattle.std.specs.List.{All}
use Rattle.std.specs.Option.{option_and_then}
use Rattle.std.proofs.lemmas.Bool.{and_parts, cond-true, eqb-true, false≢true}
use Rattle.std.proofs.Math.ListN.{get_or}
use Rattle.kms_model.specs.declared.objects.Kind.TheVariants as kind
use Rattle.kms_model.specs.declared.objects.Mode.{Mode}
use Rattle.kms_model.specs.declared.objects.Topology.{Topology}
use Rattle.kms_model.specs.declared.pictures.FbInfo.{FbInfo}
use Rattle.kms_model.specs.declared.properties.TheConstants.{FB_ID}
use Rattle.kms_model.specs.declared.worlds.Content.{Content}
use Rattle.kms_model.specs.declared.worlds.Content.TheVariants as content
use Rattle.kms_model.specs.declared.worlds.Look.{Look}
use Rattle.kms_model.specs.declared.worlds.Look.TheVariants as look
use Rattle.kms_model.specs.declared.worlds.Thing.{Thing}
use Rattle.kms_model.specs.declared.worlds.World.{World}
use Rattle.kms_model.specs.Device.Modes.{mode_numbers, same_mode, same_numbers}
use Rattle.kms_model.specs.Device.Objects.{ids_of}
use Rattle.kms_model.specs.Device.Sound.{AreNumbered}
use Rattle.kms_model.specs.Device.States.{framebuffer_in, framebuffer_of, mode_at, plane_at}
use Rattle.kms_model.specs.Device.World.{thing_labelled, thing_numbered, value}
use Rattle.kms_model.specs.Frames.Shown.{AreFramed, FramesIn}
use Rattle.kms_model.specs.Machine.Histories.{label_of_thing}
use Rattle.kms_model.specs.Order.Suspending.{closed_object, framebuffer_label, has_crtc_at, has_mode_at, lacks_framebuffer, lacks_mode}
use Rattle.kms_model.specs.Order.Suspending.{mode_label, names_mode, open_label, open_mode_label}
use Rattle.kms_model.specs.Request.Lookups.{look_of, look_of_content, look_up}
use Rattle.kms_model.specs.Request.Sets.{mode_of_look}
use Rattle.kms_model.proofs.CrtcLemmas.{all_in}
use Rattle.kms_model.proofs.Facts.{by_recursion-at}
use Rattle.kms_model.proofs.Items.{IsIn, or_else-none}
use Rattle.kms_model.proofs.ThingLemmas.{find-holds, find-in, thing_numbered-id}
use Rattle.kms_laws.proofs.Quiet.{find-fails}

-- Equal modes

numbers-is : (xs ys : List ℕ) → same_numbers xs ys ≡ true → xs ≡ ys
numbers-is [] [] same = refl
numbers-is [] (y ∷ ys) same = absurd cc
numbers-is (x ∷ xs) [] same = absurd cc
numbers-is (x ∷ xs) (y ∷ ys) same =
    let both = and_parts (nat_eq x y) (same_numbers xs ys) same in
    let head = eqb-true x y both.0 in
    let tail = numbers-is xs ys both.1 in
    λ i. head i ∷ tail i

-- two modes that are the same in all contents are one
pub same_mode-is : (a b : Mode) → same_mode (Some a) (Some b) ≡ true → a ≡ b
same_mode-is a b same =
    let both = and_parts (same_numbers (mode_numbers a) (mode_numbers b)) (same_numbers a.name b.name) same in
    of_numbers (numbers-is (mode_numbers a) (mode_numbers b) both.0) (numbers-is a.name b.name both.1)
  where
    of_numbers : mode_numbers a ≡ mode_numbers b → a.name ≡ b.name → a ≡ b
    of_numbers numbers name = λ i. record {
      clock = get_or (numbers i) 0 0;
      hdisplay = get_or (numbers i) 1 0;
      hsync_start = get_or (numbers i) 2 0;
      hsync_end = get_or (numbers i) 3 0;
      htotal = get_or (numbers i) 4 0;
      hskew = get_or (numbers i) 5 0;
      vdisplay = get_or (numbers i) 6 0;
      vsync_start = get_or (numbers i) 7 0;
      vsync_end = get_or (numbers i) 8 0;
      vtotal = get_or (numbers i) 9 0;
      vscan = get_or (numbers i) 10 0;
      vrefresh = get_or (numbers i) 11 0;
      flags = get_or (numbers i) 12 0;
      kind = get_or (numbers i) 13 0;
      name = name i;
    }

-- a look-up that tells a mode
pub record IsMode (found : Look) (m : Mode) : Type 0 where
  pub id : ℕ
  pub is : found ≡ look.Mode m id

look_is : (found : Look) (m : Mode) → same_mode (mode_of_look found) (Some m) ≡ true → IsMode found m
look_is (look.Mode a id) m same = record { id = id; is = ap (λ b. look.Mode b id) (same_mode-is a m same) }
look_is look.Missing m same = absurd (false≢true same)
look_is look.Closed m same = absurd (false≢true same)
look_is (look.Fb info) m same = absurd (false≢true same)
look_is (look.Blob id) m same = absurd (false≢true same)
look_is (look.Gamma g id) m same = absurd (false≢true same)
look_is (look.Fence id) m same = absurd (false≢true same)
look_is (look.Buffer id) m same = absurd (false≢true same)

-- Searches

label_there : (used : Bool) (o : Option ℕ) → used ≡ true → (used && is_none o) ≡ false → (label : ℕ) × (o ≡ Some label)
label_there true (Some label) is none = (label, refl)
label_there true None is none = absurd cc
label_there false o is none = absurd cc

some_there : {A : Type 0} (o : Option A) → is_some o ≡ true → (x : A) × (o ≡ Some x)
some_there (Some x) is = (x, refl)
some_there None is = absurd cc

record IsLabelled (o : Option Thing) (label : ℕ) : Type 0 where
  thing : Thing
  found : o ≡ Some thing
  same : thing.label ≡ label

thing_there : (o : Option Thing) (label : ℕ) → label_of_thing o ≡ Some label → IsLabelled o label
thing_there (Some thing) label is = record { thing = thing; found = refl; same = cc }
thing_there None label is = absurd cc

module _ (t : Topology) (w : World) (numbered : AreNumbered 1000 w.things) (framed : AreFramed w.things)
    (own : All (λ thing. thing_labelled w.things thing.label ≡ Some thing) w.things) (none_closed : closed_object t w ≡ None) where
  -- a thing's label names it
  pub labelled : (thing : Thing) (label : ℕ) → IsIn thing w.things → thing.label ≡ label → thing_labelled w.things label ≡ Some thing
  labelled thing label is same = ap (thing_labelled w.things) (sym same)
      ∙ all_in (λ x. thing_labelled w.things x.label ≡ Some x) w.things thing own is

  pub record NamesMode (c : ℕ) : Type 0 where
    pub label : ℕ
    pub told : mode_label w c ≡ Some label
    pub mode : Mode
    pub is_mode : mode_at w.things w.values c ≡ Some mode
    pub thing : Thing
    pub is_thing : thing_labelled w.things label ≡ Some thing
    pub is_in : IsIn thing w.things
    pub looks : IsMode (look_up w label) mode

  -- the label of the mode of a CRTC
  pub mode_named : (c : ℕ) → IsIn c (ids_of t kind.Crtc) → has_mode_at w c ≡ true → NamesMode c
  unfolding closed_object open_mode_label
  mode_named c is has =
      let parts = or_else-none (find (lacks_mode w) (ids_of t kind.Crtc)) _ none_closed in
      let lacks = find-fails (lacks_mode w) (ids_of t kind.Crtc) c parts.first_none is in
      let label = label_there (has_mode_at w c) (mode_label w c) has lacks in
      let mode = some_there (mode_at w.things w.values c) has in
      let told : label_of_thing (find (names_mode mode.0) w.things) ≡ Some label.0 = sym
      (λ i. option_and_then (open_mode_label w.things) (mode.1 i)) ∙ label.1 in
      let one = thing_there (find (names_mode mode.0) w.things) label.0 told in
      let in_things = find-in (names_mode mode.0) w.things one.thing one.found in
      let names = labelled one.thing label.0 in_things one.same in
      let found = look_is (look_of (Some one.thing)) mode.0 (find-holds (names_mode mode.0) w.things one.thing one.found) in
      record {
        label = label.0;
        told = label.1;
        mode = mode.0;
        is_mode = mode.1;
        thing = one.thing;
        is_thing = names;
        is_in = in_things;
        looks = record { id = found.id; is = ◌∙◌ {c = look.Mode mode.0 found.id} (ap look_of names) found.is };
      }

  pub record NamesFramebuffer (p : ℕ) : Type 0 where
    pub label : ℕ
    pub told : framebuffer_label w p ≡ Some label
    pub fb : FbInfo
    pub thing : Thing
    pub is_thing : thing_labelled w.things label ≡ Some thing
    -- it is the thing that FB_ID has
    pub same_thing : thing_numbered w.things (value w.values p FB_ID) ≡ Some thing
    pub looks : look_up w label ≡ look.Fb fb

  -- a thing that is a framebuffer
  record IsFramebuffer (o : Option Thing) (fb : FbInfo) : Type 0 where
    thing : Thing
    buffer : ℕ
    found : o ≡ Some thing
    has : thing.content ≡ content.Framebuffer fb buffer

  framebuffer_there : (o : Option Thing) (fb : FbInfo) → framebuffer_of o ≡ Some fb → IsFramebuffer o fb
  framebuffer_there None fb is = absurd cc
  framebuffer_there (Some thing) fb is = by thing.content refl is
    where
      by : (c : Content) → thing.content ≡ c → framebuffer_in c ≡ Some fb → IsFramebuffer (Some thing) fb
      by (content.Framebuffer info buffer) same e =
          record { thing = thing; buffer = buffer; found = refl; has = same ∙ ap (λ x. content.Framebuffer x buffer) cc }
      by (content.Buffer width height format pattern) same e = absurd cc
      by (content.Mode m) same e = absurd cc
      by (content.Blob bytes) same e = absurd cc
      by content.Fence same e = absurd cc
      by content.OutFence same e = absurd cc

  -- what is told of an open framebuffer
  looks_open : (thing : Thing) (fb : FbInfo) (buffer : ℕ) → thing.is_open ≡ true → thing.content ≡ content.Framebuffer fb buffer
      → look_of (Some thing) ≡ look.Fb fb
  looks_open thing fb buffer is has = cond-true thing.is_open (look_of_content thing.id thing.content) look.Closed is
      ∙ ap (look_of_content thing.id) has

  -- the label of the framebuffer of a plane
  pub framebuffer_named : (p : ℕ) → IsIn p (ids_of t kind.Plane) → has_crtc_at w p ≡ true → NamesFramebuffer p
  unfolding closed_object open_label
  framebuffer_named p is has =
      let parts = or_else-none (find (lacks_mode w) (ids_of t kind.Crtc)) _ none_closed in
      let lacks = find-fails (lacks_framebuffer w) (ids_of t kind.Plane) p parts.second_none is in
      let label = label_there (has_crtc_at w p) (framebuffer_label w p) has lacks in
      let fb = fb_there (plane_at w.things w.values p).fb label.0 label.1 in
      let test = λ (x : Thing). (x.id == fb.0.id) && x.is_open in
      let told : label_of_thing (find test w.things) ≡ Some label.0 = sym
      (λ i. option_and_then (λ (x : FbInfo). open_label w.things x.id) (fb.1 i)) ∙ label.1 in
      let one = thing_there (find test w.things) label.0 told in
      let both = and_parts (one.thing.id == fb.0.id) one.thing.is_open (find-holds test w.things one.thing one.found) in
      let in_things = find-in test w.things one.thing one.found in
      let held = framebuffer_there (thing_numbered w.things (value w.values p FB_ID)) fb.0 fb.1 in
      let held_in = find-in _ w.things held.thing held.found in
      let frame = subst (FramesIn w.things held.thing.id) held.has
      (by_recursion-at (λ x. FramesIn w.things x.id x.content) w.things held.thing framed held_in) in
      let ids : held.thing.id ≡ one.thing.id = sym frame.own_id ∙ sym (eqb-true one.thing.id fb.0.id both.0) in
      let same : held.thing ≡ one.thing = some_thing
      (sym (thing_numbered-id 1000 w.things held.thing numbered held_in)
      ∙ (ap (λ n. thing_numbered w.things (pos n)) ids ∙ thing_numbered-id 1000 w.things one.thing numbered in_things)) in
      let names = labelled one.thing label.0 in_things one.same in
      record {
        label = label.0;
        told = label.1;
        fb = fb.0;
        thing = one.thing;
        is_thing = names;
        same_thing = held.found ∙ ap Some same;
        looks = ap look_of names ∙ looks_open one.thing fb.0 held.buffer both.1 (ap (λ (x : Thing). x.content) (sym same) ∙ held.has);
      }
    where
      fb_there : (o : Option FbInfo) (label : ℕ) → option_and_then (λ (x : FbInfo). open_label w.things x.id) o ≡ Some label
          → (fb : FbInfo) × (o ≡ Some fb)
      fb_there (Some fb) label e = (fb, refl)
      fb_there None label e = absurd cc

      some_thing : {a b : Thing} → Some a ≡ Some b → a ≡ b
      some_thing e = cc
