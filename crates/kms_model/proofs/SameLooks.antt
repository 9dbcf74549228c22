-- Requests whose labels name the same things by two look-ups.
use Rattle.std.proofs.Common.{◌≡◌, ◌∙◌, ℕ, List, [], ◌∷◌, Bool, true, false, Option, Some, None, map, refl, sym, ap, inl, inr}
use Rattle.std.specs.Prelude.{All, IfSome, option_and_then}
use Rattle.std.specs.List.{cons_option, filter_map}
use Rattle.std.proofs.lemmas.Bool.Decides.{eqb_tells}
use Rattle.std.specs.Option.{option_map}
use Rattle.std.proofs.lemmas.List.Elements.{All-cons, All-head, All-nil, All-tail}
use Rattle.kms_model.specs.declared.objects.Kind.TheVariants.{Plane}
use Rattle.kms_model.specs.declared.objects.ObjId.{ObjId}
use Rattle.kms_model.specs.declared.objects.Topology.{Topology}
use Rattle.kms_model.specs.declared.properties.TheConstants.{IN_FENCE_FD}
use Rattle.kms_model.specs.declared.ranges.Range.{Range}
use Rattle.kms_model.specs.declared.ranges.Range.TheVariants.{Numbers, Thing, CrtcName}
use Rattle.kms_model.specs.declared.scripts.Assign.{Assign}
use Rattle.kms_model.specs.declared.scripts.Request.{Request}
use Rattle.kms_model.specs.declared.scripts.Value.{Value}
use Rattle.kms_model.specs.declared.scripts.Value.TheVariants.{Num, Named, New, Crtc}
use Rattle.kms_model.specs.declared.sets.Resolved.{Resolved}
use Rattle.kms_model.specs.declared.worlds.Look.{Look}
use Rattle.kms_model.specs.declared.worlds.World.{World}
use Rattle.kms_model.proofs.Items.{IsIn}
use Rattle.kms_model.specs.Request.Apply.{prop_of}
use Rattle.kms_model.specs.Firsts.{or_else}
use Rattle.kms_model.specs.Request.Lookups.{label_of, look_up, lookups}
use Rattle.kms_model.specs.Device.Objects.{ids_of}
use Rattle.kms_model.specs.Device.Properties.{Property, property}
use Rattle.kms_model.specs.Request.Refusals.{own_refusal, assign_refusal, assigns_refusal, early_refusal, is_in_range, is_in_range_of}
use Rattle.kms_model.specs.Request.Refusals.{takes}
use Rattle.kms_model.specs.Request.Resolves.{IsResolved}
use Rattle.kms_model.specs.Request.SameLooks.{TellsLabel, TellsLabels}
use Rattle.kms_model.specs.Request.Sets.{fb_of_look, fb_value, fence_of_look, gamma_of_look, gamma_value, in_fence, in_fences, last_sets}
use Rattle.kms_model.specs.Request.Sets.{look_in, mode_of_look, mode_value, obj_id, set_of}
use Rattle.kms_model.specs.Request.Touched.{last_value, value_if}

range-same : (t : Topology) (f g : ℕ → Look) (prop : ℕ) (range : Range) (v : Value) → TellsLabel f g v → is_in_range t f prop range v
    ≡ is_in_range t g prop range v
range-same t f g prop (Numbers low high) (Num n) same = refl
range-same t f g prop (Numbers low high) (Named label) same = refl
range-same t f g prop (Numbers low high) (New label) same = refl
range-same t f g prop (Numbers low high) (Crtc index) same = refl
range-same t f g prop CrtcName (Num n) same = refl
range-same t f g prop CrtcName (Named label) same = refl
range-same t f g prop CrtcName (New label) same = refl
range-same t f g prop CrtcName (Crtc index) same = refl
range-same t f g prop (Thing none) (Num n) same = refl
range-same t f g prop (Thing none) (Named label) same = ap (takes prop) same
range-same t f g prop (Thing none) (New label) same = refl
range-same t f g prop (Thing none) (Crtc index) same = refl

row-same : (t : Topology) (f g : ℕ → Look) (v : Value) (row : Option Property) → TellsLabel f g v → is_in_range_of t f v row
    ≡ is_in_range_of t g v row
row-same t f g v None same = refl
row-same t f g v (Some p) same = range-same t f g p.id p.range v same

assign-same : (t : Topology) (f g : ℕ → Look) (earlier : List Assign) (a : Assign) → TellsLabel f g a.value → assign_refusal t f earlier a
    ≡ assign_refusal t g earlier a
unfolding assign_refusal own_refusal
assign-same t f g earlier a same = rw (row-same t f g a.value (property (prop_of a.prop)) same) refl

assigns-same : (t : Topology) (f g : ℕ → Look) (earlier assigns : List Assign) → TellsLabels f g assigns
    → assigns_refusal t f earlier assigns ≡ assigns_refusal t g earlier assigns
unfolding assigns_refusal
assigns-same t f g earlier [] same = refl
assigns-same t f g earlier (a ∷ assigns) same =
    rw (
      assign-same t f g earlier a (All-head (λ b. TellsLabel f g b.value) a assigns same),
      assigns-same t f g (a ∷ earlier) assigns (All-tail (λ b. TellsLabel f g b.value) a assigns same),
    ) refl

pub early-same : (t : Topology) (f g : ℕ → Look) (r : Request) → TellsLabels f g r.assigns → early_refusal t f r ≡ early_refusal t g r
unfolding early_refusal
early-same t f g r same = rw (assigns-same t f g [] r.assigns same) refl

fb-same : (f g : ℕ → Look) (v : Value) → TellsLabel f g v → fb_value f v ≡ fb_value g v
fb-same f g (Num n) same = refl
fb-same f g (Named label) same = ap fb_of_look same
fb-same f g (New label) same = refl
fb-same f g (Crtc index) same = refl

mode-same : (f g : ℕ → Look) (v : Value) → TellsLabel f g v → mode_value f v ≡ mode_value g v
mode-same f g (Num n) same = refl
mode-same f g (Named label) same = ap mode_of_look same
mode-same f g (New label) same = refl
mode-same f g (Crtc index) same = refl

gamma-same : (f g : ℕ → Look) (v : Value) → TellsLabel f g v → gamma_value f v ≡ gamma_value g v
gamma-same f g (Num n) same = refl
gamma-same f g (Named label) same = ap gamma_of_look same
gamma-same f g (New label) same = refl
gamma-same f g (Crtc index) same = refl

set-same : (f g : ℕ → Look) (a : Assign) → TellsLabel f g a.value → set_of f a ≡ set_of g a
set-same f g a same = rw (fb-same f g a.value same, mode-same f g a.value same, gamma-same f g a.value same) refl

sets-same : (f g : ℕ → Look) (assigns : List Assign) → TellsLabels f g assigns → last_sets f assigns ≡ last_sets g assigns
unfolding last_sets
sets-same f g [] same = refl
sets-same f g (a ∷ assigns) same =
    rw (
      set-same f g a (All-head (λ b. TellsLabel f g b.value) a assigns same),
      sets-same f g assigns (All-tail (λ b. TellsLabel f g b.value) a assigns same),
    ) refl

first-has : (P : Value → Type 0) (first second : Option Value) → IfSome first P → IfSome second P → IfSome (or_else first second) P
first-has P None second one other = other
first-has P (Some v) second one other = one

if-has : (P : Value → Type 0) (b : Bool) (v : Value) → P v → IfSome (value_if b v) P
if-has P true v has = has
if-has P false v has = tt

last-has : (P : Value → Type 0) (assigns : List Assign) (object prop : ℕ) → All (λ a. P a.value) assigns
    → IfSome (last_value assigns object prop) P
last-has P [] object prop all = tt
last-has P (a ∷ assigns) object prop all =
    first-has P (last_value assigns object prop) _ (last-has P assigns object prop (All-tail (λ b. P b.value) a assigns all))
    (if-has P _ a.value (All-head (λ b. P b.value) a assigns all))

-- the fence that a value names
abbrev fence_value : (ℕ → Look) → Value → Option ℕ
fence_value f v = option_and_then (λ label. fence_of_look (f label)) (label_of v)

fence-same : (f g : ℕ → Look) (v : Value) → TellsLabel f g v → fence_value f v ≡ fence_value g v
fence-same f g (Num n) same = refl
fence-same f g (Named label) same = ap fence_of_look same
fence-same f g (New label) same = refl
fence-same f g (Crtc index) same = refl

last_fence-same : (f g : ℕ → Look) (last : Option Value) → IfSome last (TellsLabel f g) → option_and_then (fence_value f) last
    ≡ option_and_then (fence_value g) last
last_fence-same f g None same = refl
last_fence-same f g (Some v) same = fence-same f g v same

in_fence-same : (f g : ℕ → Look) (assigns : List Assign) (plane : ℕ) → TellsLabels f g assigns → in_fence f assigns plane
    ≡ in_fence g assigns plane
in_fence-same f g assigns plane same =
    last_fence-same f g (last_value assigns plane IN_FENCE_FD) (last-has (TellsLabel f g) assigns plane IN_FENCE_FD same)

in_fences-same : (t : Topology) (f g : ℕ → Look) (assigns : List Assign) → TellsLabels f g assigns → in_fences t f assigns
    ≡ in_fences t g assigns
unfolding in_fences
in_fences-same t f g assigns same =
    let each : in_fence f assigns ≡ in_fence g assigns = λ i plane. in_fence-same f g assigns plane same i in
    let listed : (ℕ → Option ℕ) → List (ObjId × ℕ) = λ fence. filter_map (λ plane. option_map (λ n. (obj_id plane, n)) (fence plane))
    (ids_of t Plane) in
    ap listed each

pub resolved-same : (t : Topology) (f g : ℕ → Look) (r : Request) (resolved : Resolved) → TellsLabels f g r.assigns
    → IsResolved t f r resolved → IsResolved t g r resolved
resolved-same t f g r resolved same is = record {
  accepted = sym (early-same t f g r same) ∙ is.accepted;
  flags = is.flags;
  user_data = is.user_data;
  sets = is.sets ∙ sets-same f g r.assigns same;
  in_fences = is.in_fences ∙ in_fences-same t f g r.assigns same;
  out_fences = is.out_fences;
}

-- The list of what a request's labels name in a world tells of these labels what the world does.

listed_look : (f : ℕ → Look) (labels : List ℕ) (label : ℕ) → IsIn label labels → look_in (map (λ l. (l, f l)) labels) label ≡ f label
unfolding look_in
listed_look f [] label is = absurd is
listed_look f (l ∷ ls) label (inl here) = elim (eqb_tells l label) [ inl is ↦ rw is.0 (ap f is.1) | inr other ↦ absurd (other.1 here) ]
listed_look f (l ∷ ls) label (inr later) = elim (eqb_tells l label)
    [ inl is ↦ rw is.0 (ap f is.1) | inr other ↦ rw other.0 (listed_look f ls label later) ]

tells_first : (f g : ℕ → Look) (v : Value) (labels : List ℕ)
    → ((label : ℕ) → IsIn label (cons_option (label_of v) labels) → f label ≡ g label) → TellsLabel f g v
tells_first f g (Named label) labels same = same label (inl refl)
tells_first f g (Num n) labels same = tt
tells_first f g (New label) labels same = tt
tells_first f g (Crtc index) labels same = tt

is_later : (v : Value) (labels : List ℕ) (label : ℕ) → IsIn label labels → IsIn label (cons_option (label_of v) labels)
is_later (Named first) labels label is = inr is
is_later (Num n) labels label is = is
is_later (New first) labels label is = is
is_later (Crtc index) labels label is = is

tells_all : (f g : ℕ → Look) (assigns : List Assign)
    → ((label : ℕ) → IsIn label (filter_map (λ a. label_of a.value) assigns) → f label ≡ g label) → TellsLabels f g assigns
tells_all f g [] same = All-nil (λ a. TellsLabel f g a.value)
tells_all f g (a ∷ assigns) same =
    let labels : List ℕ = filter_map (λ b. label_of b.value) assigns in
    All-cons (λ b. TellsLabel f g b.value) a assigns (tells_first f g a.value labels same)
    (tells_all f g assigns (λ label is. same label (is_later a.value labels label is)))

pub world_tells : (w : World) (r : Request) → TellsLabels (look_in (lookups w r)) (look_up w) r.assigns
world_tells w r =
    tells_all (look_in (lookups w r)) (look_up w) r.assigns
    (λ label is. listed_look (look_up w) (filter_map (λ a. label_of a.value) r.assigns) label is)
