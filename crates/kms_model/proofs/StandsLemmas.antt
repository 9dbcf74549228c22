-- What an accepted assignment sets stands for the number that its value then is.
use Rattle.std.proofs.Common.{◌≡◌, ℕ, ◌+◌, ◌≤◌, Bool, true, false, List, [], ◌∷◌, Option, Some, None, inl, inr, arith, refl, sym, ap, ◌∙◌}
use Rattle.std.proofs.Common.{subst}
use Rattle.std.specs.Prelude.{◌||◌, ◌==◌, not, ℤ, pos, find, IfSome, if◌then◌else◌}
use Rattle.std.specs.List.{list_all}
use Rattle.std.specs.Ordering.{int_eq}
use Rattle.std.specs.Result.{result_ok}
use Rattle.std.proofs.lemmas.Bool.{eqb-true, cases_Bool, false_from_ne_true, false≢true}
use Rattle.std.proofs.lemmas.Bool.Decides.{Decides-int_eq}
use Rattle.kms_model.specs.declared.objects.Gamma.{Gamma}
use Rattle.kms_model.specs.declared.objects.Mode.{Mode}
use Rattle.kms_model.specs.declared.objects.Topology.{Topology}
use Rattle.kms_model.specs.declared.properties.TheConstants.{FB_ID, CRTC_ID, GAMMA_LUT, MODE_ID, OUT_FENCE_PTR}
use Rattle.kms_model.specs.declared.ranges.Range.{Range}
use Rattle.kms_model.specs.declared.ranges.Range.TheVariants.{Numbers, Thing, CrtcName}
use Rattle.kms_model.specs.declared.scripts.Assign.{Assign}
use Rattle.kms_model.specs.declared.scripts.Value.{Value}
use Rattle.kms_model.specs.declared.scripts.Value.TheVariants.{Num, Named, New, Crtc}
use Rattle.kms_model.specs.declared.sets.SetValue.TheVariants as to
use Rattle.kms_model.specs.declared.worlds.Content.{Content}
use Rattle.kms_model.specs.declared.worlds.Content.TheVariants as content
use Rattle.kms_model.specs.declared.worlds.Look.{Look}
use Rattle.kms_model.specs.declared.worlds.Look.TheVariants as look
use Rattle.kms_model.specs.declared.worlds.Thing as worlds
use Rattle.kms_model.specs.declared.worlds.World.{World}
use Rattle.kms_model.specs.Request.Agreement.{StandsFor}
use Rattle.kms_model.specs.Request.Apply.{id_in, number_of, prop_of, is_kept}
use Rattle.kms_model.specs.Request.Lookups.{look_of, look_of_blob, look_of_content, look_up}
use Rattle.kms_model.specs.Device.GammaBytes.{gamma_of_bytes}
use Rattle.kms_model.specs.Device.ModeBytes.{decoded}
use Rattle.kms_model.specs.Device.Modes.{is_legal_mode}
use Rattle.kms_model.specs.Device.Properties.{Property, properties, property, has_id}
use Rattle.kms_model.specs.Request.Refusals.{takes, is_in_range, is_in_range_of}
use Rattle.kms_model.specs.Request.Sets.{fb_of_look, gamma_of_look, mode_of_look, fb_value, gamma_value, mode_value, crtc_value}
use Rattle.kms_model.specs.Request.Sets.{number_value, set_value}
use Rattle.kms_model.specs.Device.Sound.{AreNumbered}
use Rattle.kms_model.specs.Device.States.{framebuffer_of, framebuffer_in, gamma_of, gamma_in, mode_of, mode_in}
use Rattle.kms_model.specs.Device.World.{thing_labelled, thing_numbered}
use Rattle.kms_model.proofs.HeldValues.{IsAccepted}
use Rattle.kms_model.proofs.PropertyTable.{find-list_all}
use Rattle.kms_model.proofs.ThingLemmas.{thing_numbered-labelled}

-- no thing has the number 0
pub thing_numbered-zero : (n : ℕ) (things : List worlds.Thing) → 1 ≤ n → AreNumbered n things → thing_numbered things (pos 0) ≡ None
thing_numbered-zero n [] above numbered = refl
thing_numbered-zero n (u ∷ us) above numbered =
    let other : int_eq (pos u.id) (pos 0) ≡ false = false_from_ne_true (int_eq (pos u.id) (pos 0))
    (λ e. let same = (Decides-int_eq (pos u.id) (pos 0)).0 e in let id : u.id ≡ 0 = cc in omega (arith, id, numbered.0)) in
    rw other (thing_numbered-zero (n + 1) us (omega arith) numbered.1)

fb_content : (id : ℕ) (c : Content) → takes FB_ID (look_of_content id c) ≡ true → framebuffer_in c ≡ fb_of_look (look_of_content id c)
fb_content id (content.Framebuffer info buffer) taken = refl
fb_content id (content.Buffer width height format pattern) taken = absurd cc
fb_content id (content.Mode m) taken = go (is_legal_mode m) taken
  where
    go : (legal : Bool) → takes FB_ID (if legal then look.Mode m id else look.Blob id) ≡ true → None
        ≡ fb_of_look (if legal then look.Mode m id else look.Blob id)
    go true is = absurd cc
    go false is = absurd cc
fb_content id (content.Blob bytes) taken = go (result_ok (decoded bytes)) (gamma_of_bytes bytes) taken
  where
    go : (mode : Option Mode) (gamma : Option Gamma) → takes FB_ID (look_of_blob id mode gamma) ≡ true → None
        ≡ fb_of_look (look_of_blob id mode gamma)
    go (Some m) gamma is = absurd cc
    go None (Some g) is = absurd cc
    go None None is = absurd cc
fb_content id content.Fence taken = absurd cc
fb_content id content.OutFence taken = absurd cc

mode_content : (id : ℕ) (c : Content) → takes MODE_ID (look_of_content id c) ≡ true → mode_in c ≡ mode_of_look (look_of_content id c)
mode_content id (content.Framebuffer info buffer) taken = absurd cc
mode_content id (content.Buffer width height format pattern) taken = absurd cc
mode_content id (content.Mode m) taken = go (is_legal_mode m) taken
  where
    go : (legal : Bool) → takes MODE_ID (if legal then look.Mode m id else look.Blob id) ≡ true → Some m
        ≡ mode_of_look (if legal then look.Mode m id else look.Blob id)
    go true is = refl
    go false is = absurd cc
mode_content id (content.Blob bytes) taken = go (result_ok (decoded bytes)) (gamma_of_bytes bytes) taken
  where
    go : (mode : Option Mode) (gamma : Option Gamma) → takes MODE_ID (look_of_blob id mode gamma) ≡ true → mode
        ≡ mode_of_look (look_of_blob id mode gamma)
    go (Some m) gamma is = refl
    go None (Some g) is = absurd cc
    go None None is = absurd cc
mode_content id content.Fence taken = absurd cc
mode_content id content.OutFence taken = absurd cc

gamma_content : (id : ℕ) (c : Content) → takes GAMMA_LUT (look_of_content id c) ≡ true → gamma_in c ≡ gamma_of_look (look_of_content id c)
gamma_content id (content.Framebuffer info buffer) taken = absurd cc
gamma_content id (content.Buffer width height format pattern) taken = absurd cc
gamma_content id (content.Mode m) taken = go (is_legal_mode m) taken
  where
    go : (legal : Bool) → takes GAMMA_LUT (if legal then look.Mode m id else look.Blob id) ≡ true → None
        ≡ gamma_of_look (if legal then look.Mode m id else look.Blob id)
    go true is = absurd cc
    go false is = absurd cc
gamma_content id (content.Blob bytes) taken = go (result_ok (decoded bytes)) (gamma_of_bytes bytes) taken
  where
    go : (mode : Option Mode) (gamma : Option Gamma) → takes GAMMA_LUT (look_of_blob id mode gamma) ≡ true → gamma
        ≡ gamma_of_look (look_of_blob id mode gamma)
    go (Some m) gamma is = absurd cc
    go None (Some g) is = refl
    go None None is = absurd cc
gamma_content id content.Fence taken = absurd cc
gamma_content id content.OutFence taken = absurd cc

-- What a thing under a label has stands for what its look tells, where it holds of each content that the property takes.
thing_stands : {A : Type 0} (prop : ℕ) (of_thing : Option worlds.Thing → Option A) (of_content : Content → Option A)
    (of_look : Look → Option A)
    → ((u : worlds.Thing) → of_thing (Some u) ≡ of_content u.content)
    → ((id : ℕ) (c : Content) → takes prop (look_of_content id c) ≡ true → of_content c ≡ of_look (look_of_content id c))
    → takes prop (look_of None) ≡ false → takes prop look.Closed ≡ false
    → (things : List worlds.Thing) (o : Option worlds.Thing) → ((u : worlds.Thing) → o ≡ Some u → thing_numbered things (pos u.id) ≡ Some u)
    → takes prop (look_of o) ≡ true
    → of_thing (thing_numbered things (id_in o)) ≡ of_look (look_of o)
thing_stands prop of_thing of_content of_look has stands none closed things None found taken = absurd cc
thing_stands prop of_thing of_content of_look has stands none closed things (Some u) found taken = ap of_thing (found u refl) ∙
    (has u ∙ go u.is_open taken)
  where
    go : (opened : Bool) → takes prop (if opened then look_of_content u.id u.content else look.Closed) ≡ true → of_content u.content
        ≡ of_look (if opened then look_of_content u.id u.content else look.Closed)
    go true is = stands u.id u.content is
    go false is = absurd cc

-- the same of a value of a property that takes things
value_stands : {A : Type 0} (prop : ℕ) (of_thing : Option worlds.Thing → Option A) (of_content : Content → Option A)
    (of_look : Look → Option A) (of_value : Value → Option A) (t : Topology) (w : World)
    → ((u : worlds.Thing) → of_thing (Some u) ≡ of_content u.content)
    → ((id : ℕ) (c : Content) → takes prop (look_of_content id c) ≡ true → of_content c ≡ of_look (look_of_content id c))
    → takes prop (look_of None) ≡ false → takes prop look.Closed ≡ false → (prop == OUT_FENCE_PTR) ≡ false → of_thing None ≡ None
    → ((n : ℤ) → of_value (Num n) ≡ None) → ((label : ℕ) → of_value (Named label) ≡ of_look (look_up w label))
    → (v : Value) → AreNumbered 1000 w.things → is_in_range t (look_up w) prop (Thing (pos 0)) v ≡ true
    → of_thing (thing_numbered w.things (number_of w.things v)) ≡ of_value v
value_stands prop of_thing of_content of_look of_value t w has stands none closed no_fence nothing number named (Num n) numbered is =
    ap (λ z. of_thing (thing_numbered w.things z)) ((Decides-int_eq n (pos 0)).0 is) ∙ ap of_thing
    (thing_numbered-zero 1000 w.things (omega arith) numbered) ∙ nothing ∙ sym (number n)
value_stands prop of_thing of_content of_look of_value t w has stands none closed no_fence nothing number named (Named label) numbered is =
    thing_stands prop of_thing of_content of_look has stands none closed w.things (thing_labelled w.things label)
    (λ u found. thing_numbered-labelled w.things label u numbered found) is ∙ sym (named label)
value_stands prop of_thing of_content of_look of_value t w has stands none closed no_fence nothing number named (New label) numbered is =
    absurd (false≢true (sym no_fence ∙ is))
value_stands prop of_thing of_content of_look of_value t w has stands none closed no_fence nothing number named (Crtc index) numbered is =
    absurd cc

fb-stands : (t : Topology) (w : World) (v : Value) → AreNumbered 1000 w.things → is_in_range t (look_up w) FB_ID (Thing (pos 0)) v ≡ true
    → framebuffer_of (thing_numbered w.things (number_of w.things v)) ≡ fb_value (look_up w) v
fb-stands t w v numbered is = value_stands FB_ID framebuffer_of framebuffer_in fb_of_look (fb_value (look_up w)) t w (λ u. refl) fb_content
    refl refl refl refl (λ n. refl) (λ label. refl) v numbered is

mode-stands : (t : Topology) (w : World) (v : Value) → AreNumbered 1000 w.things → is_in_range t (look_up w) MODE_ID (Thing (pos 0)) v
    ≡ true → mode_of (thing_numbered w.things (number_of w.things v)) ≡ mode_value (look_up w) v
mode-stands t w v numbered is = value_stands MODE_ID mode_of mode_in mode_of_look (mode_value (look_up w)) t w (λ u. refl) mode_content refl
    refl refl refl (λ n. refl) (λ label. refl) v numbered is

gamma-stands : (t : Topology) (w : World) (v : Value) → AreNumbered 1000 w.things → is_in_range t (look_up w) GAMMA_LUT (Thing (pos 0)) v
    ≡ true → gamma_of (thing_numbered w.things (number_of w.things v)) ≡ gamma_value (look_up w) v
gamma-stands t w v numbered is = value_stands GAMMA_LUT gamma_of gamma_in gamma_of_look (gamma_value (look_up w)) t w (λ u. refl)
    gamma_content refl refl refl refl (λ n. refl) (λ label. refl) v numbered is

crtc-stands : (t : Topology) (w : World) (v : Value) → is_in_range t (look_up w) CRTC_ID CrtcName v ≡ true → number_of w.things v
    ≡ pos (crtc_value v)
crtc-stands t w (Num n) is = (Decides-int_eq n (pos 0)).0 is
crtc-stands t w (Crtc index) is = refl
crtc-stands t w (Named label) is = absurd cc
crtc-stands t w (New label) is = absurd cc

-- a property that keeps a value, and takes no thing and no CRTC, takes numbers
abbrev is_numbers : Range → Bool
is_numbers (Numbers low high) = true
is_numbers (Thing none) = false
is_numbers CrtcName = false

abbrev takes_numbers : Property → Bool
takes_numbers p = (p.id == FB_ID) || ((p.id == MODE_ID)
    || ((p.id == GAMMA_LUT) || ((p.id == CRTC_ID) || (not (is_kept p.id) || is_numbers p.range))))

all_take_numbers : list_all takes_numbers properties ≡ true
all_take_numbers = refl

number-stands : (t : Topology) (w : World) (v : Value) (q : ℕ) (r : Range) → is_numbers r ≡ true → is_in_range t (look_up w) q r v ≡ true
    → number_of w.things v ≡ number_value v
number-stands t w (Num n) q (Numbers low high) numbers is = refl
number-stands t w (Named label) q (Numbers low high) numbers is = absurd cc
number-stands t w (New label) q (Numbers low high) numbers is = absurd cc
number-stands t w (Crtc index) q (Numbers low high) numbers is = absurd cc
number-stands t w v q (Thing none) numbers is = absurd cc
number-stands t w v q CrtcName numbers is = absurd cc

id_found : (ps : List Property) (q : ℕ) → IfSome (find (has_id q) ps) (λ p. p.id ≡ q)
id_found [] q = tt
id_found (p ∷ ps) q = elim (cases_Bool (p.id == q)) [ inl is ↦ rw is (eqb-true p.id q is) | inr other ↦ rw other (id_found ps q) ]

row-number : (t : Topology) (w : World) (v : Value) (q : ℕ) (o : Option Property) → IfSome o (λ p. p.id ≡ q)
    → IfSome o (λ p. takes_numbers p ≡ true) → (q == FB_ID) ≡ false → (q == MODE_ID) ≡ false → (q == GAMMA_LUT) ≡ false → (q == CRTC_ID)
    ≡ false → is_kept q ≡ true
    → is_in_range_of t (look_up w) v o ≡ true → number_of w.things v ≡ number_value v
row-number t w v q None id holds fb mode gamma crtc kept is = absurd cc
row-number t w v q (Some p) id holds fb mode gamma crtc kept is =
    let numbers : is_numbers p.range ≡ true = rw (id, fb, mode, gamma, crtc, kept) at holds in
    number-stands t w v p.id p.range numbers is

-- What an accepted assignment sets stands for the number of its value.
pub stands-accepted : (t : Topology) (w : World) (a : Assign) → AreNumbered 1000 w.things → IsAccepted t w a
    → StandsFor w.things (set_value (look_up w) (prop_of a.prop) a.value) (number_of w.things a.value)
stands-accepted t w a numbered ok = by_prop (prop_of a.prop) ok.is_value
  where
    otherwise : (q : ℕ) → (q == FB_ID) ≡ false → (q == MODE_ID) ≡ false → (q == GAMMA_LUT) ≡ false → (q == CRTC_ID) ≡ false → (b : Bool)
        → is_kept q ≡ b → is_in_range_of t (look_up w) a.value (property q) ≡ true
        → StandsFor w.things (if b then to.Num (number_value a.value) else to.Fence) (number_of w.things a.value)
    otherwise q fb mode gamma crtc true kept is = row-number t w a.value q (property q) (id_found properties q)
        (find-list_all takes_numbers (has_id q) properties all_take_numbers) fb mode gamma crtc kept is
    otherwise q fb mode gamma crtc false kept is = tt

    by_prop : (q : ℕ) → is_in_range_of t (look_up w) a.value (property q) ≡ true
        → StandsFor w.things (set_value (look_up w) q a.value) (number_of w.things a.value)
    by_prop q is = elim (cases_Bool (q == FB_ID)) [
      | inl fb ↦ rw fb (fb-stands t w a.value numbered
          (subst (λ p. is_in_range_of t (look_up w) a.value (property p) ≡ true) (eqb-true q FB_ID fb) is))
      | inr not_fb ↦ elim (cases_Bool (q == MODE_ID)) [
        | inl mode ↦ rw (not_fb, mode) (mode-stands t w a.value numbered
            (subst (λ p. is_in_range_of t (look_up w) a.value (property p) ≡ true) (eqb-true q MODE_ID mode) is))
        | inr not_mode ↦ elim (cases_Bool (q == GAMMA_LUT)) [
          | inl gamma ↦ rw (not_fb, not_mode, gamma) (gamma-stands t w a.value numbered
              (subst (λ p. is_in_range_of t (look_up w) a.value (property p) ≡ true) (eqb-true q GAMMA_LUT gamma) is))
          | inr not_gamma ↦ elim (cases_Bool (q == CRTC_ID)) [
            | inl crtc ↦ rw (not_fb, not_mode, not_gamma, crtc)
                (crtc-stands t w a.value (subst (λ p. is_in_range_of t (look_up w) a.value (property p) ≡ true) (eqb-true q CRTC_ID crtc)
                is))
            | inr not_crtc ↦ rw (not_fb, not_mode, not_gamma, not_crtc) (otherwise q not_fb not_mode not_gamma not_crtc (is_kept q) refl is)
          ]
        ]
      ]
    ]
