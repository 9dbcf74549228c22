-- Both requests set nothing but framebuffers, CRTCs, modes and ACTIVE, and want nothing else.
use Rattle.std.proofs.Common.{◌≡◌, ℕ, Bool, true, false, List, [], ◌∷◌, ◌++◌, Option, None, inl, inr, refl, sym, ap, ◌∙◌}
use Rattle.std.specs.Prelude.{◌&&◌, ◌||◌, ◌==◌, map}
use Rattle.std.specs.List.{filter_map, flat_map, list_all}
use Rattle.std.specs.Option.{option_map}
use Rattle.std.proofs.lemmas.Bool.{and_from, and_parts, false≢true}
use Rattle.std.proofs.lemmas.Bool.Decides.{eqb_tells}
use Rattle.std.proofs.lemmas.List.Folds.{list_all-append}
use Rattle.kms_model.specs.declared.objects.Kind.TheVariants as kind
use Rattle.kms_model.specs.declared.objects.ObjId.{ObjId}
use Rattle.kms_model.specs.declared.objects.Topology.{Topology}
use Rattle.kms_model.specs.declared.properties.TheConstants.{ACTIVE, CRTC_ID, FB_ID, IN_FENCE_FD, MODE_ID, OUT_FENCE_PTR}
use Rattle.kms_model.specs.declared.scripts.Assign.{Assign}
use Rattle.kms_model.specs.declared.scripts.Request.{Request}
use Rattle.kms_model.specs.declared.worlds.Look.{Look}
use Rattle.kms_model.specs.declared.worlds.World.{World}
use Rattle.kms_model.specs.Device.Execution.{make_out_fence, make_out_fences}
use Rattle.kms_model.specs.Device.Objects.{ids_of}
use Rattle.kms_model.specs.Firsts.{or_else}
use Rattle.kms_model.specs.Order.Suspending.{conn_back, crtc_back, has_crtc_at, has_mode_at, indices_where, off_request, on_request}
use Rattle.kms_model.specs.Order.Suspending.{plane_back}
use Rattle.kms_model.specs.Request.Apply.{object_of, prop_of}
use Rattle.kms_model.specs.Machine.State.{Commit}
use Rattle.kms_model.specs.Request.Lookups.{look_up}
use Rattle.kms_model.specs.Request.Sets.{in_fence, in_fences, obj_id}
use Rattle.kms_model.specs.Request.Touched.{last_value, new_label, out_fence_label, value_if}
use Rattle.kms_model.specs.Script.Assigning.{conn_off, crtc_off, plane_off}

-- a property of what is shown
abbrev pub is_shown_prop : ℕ → Bool
is_shown_prop p = (p == FB_ID) || ((p == CRTC_ID) || ((p == ACTIVE) || (p == MODE_ID)))

abbrev sets_shown : Assign → Bool
sets_shown a = is_shown_prop (prop_of a.prop)

-- a request sets these alone
abbrev pub SetsShown : Request → Type 0
SetsShown r = list_all sets_shown r.assigns ≡ true

all_of : (f : ℕ → List Assign) → ((i : ℕ) → list_all sets_shown (f i) ≡ true) → (xs : List ℕ) → list_all sets_shown (flat_map f xs) ≡ true
all_of f each [] = refl
all_of f each (x ∷ xs) = list_all-append sets_shown (f x) (flat_map f xs) ∙ and_from _ _ (each x) (all_of f each xs)

all_mapped : (f : ℕ → Assign) → ((i : ℕ) → sets_shown (f i) ≡ true) → (xs : List ℕ) → list_all sets_shown (map f xs) ≡ true
all_mapped f each [] = refl
all_mapped f each (x ∷ xs) = and_from _ _ (each x) (all_mapped f each xs)

all_three : (xs ys zs : List Assign) → list_all sets_shown xs ≡ true → list_all sets_shown ys ≡ true → list_all sets_shown zs ≡ true
    → list_all sets_shown (xs ++ (ys ++ zs)) ≡ true
all_three xs ys zs x y z = list_all-append sets_shown xs (ys ++ zs) ∙ and_from _ _ x (list_all-append sets_shown ys zs ∙ and_from _ _ y z)

pub off-shown : (t : Topology) (w : World) → SetsShown (off_request t w)
unfolding off_request
off-shown t w =
    all_three (flat_map plane_off (indices_where t kind.Plane (has_crtc_at w))) (map conn_off (indices_where t kind.Conn (has_crtc_at w)))
    (flat_map crtc_off (indices_where t kind.Crtc (has_mode_at w)))
    (all_of plane_off (λ i. refl) (indices_where t kind.Plane (has_crtc_at w)))
    (all_mapped conn_off (λ i. refl) (indices_where t kind.Conn (has_crtc_at w)))
    (all_of crtc_off (λ i. refl) (indices_where t kind.Crtc (has_mode_at w)))

pub on-shown : (t : Topology) (w : World) → SetsShown (on_request t w)
unfolding on_request
on-shown t w =
    all_three (flat_map (crtc_back w) (indices_where t kind.Crtc (has_mode_at w)))
    (map (conn_back w) (indices_where t kind.Conn (has_crtc_at w)))
    (flat_map (plane_back w) (indices_where t kind.Plane (has_crtc_at w)))
    (all_of (crtc_back w) (λ i. refl) (indices_where t kind.Crtc (has_mode_at w)))
    (all_mapped (conn_back w) (λ i. refl) (indices_where t kind.Conn (has_crtc_at w)))
    (all_of (plane_back w) (λ i. refl) (indices_where t kind.Plane (has_crtc_at w)))

-- Nothing else is set

other_value : (a : Assign) (o p : ℕ) → sets_shown a ≡ true → is_shown_prop p ≡ false
    → value_if ((object_of a == o) && (prop_of a.prop == p)) a.value ≡ None
other_value a o p shown other = elim (eqb_tells (prop_of a.prop) p) [
  | inl same ↦ absurd (false≢true (sym other ∙ ap is_shown_prop (sym same.1) ∙ shown))
  | inr apart ↦ passed (object_of a == o) (prop_of a.prop == p) apart.0
] where
  passed : (first second : Bool) → second ≡ false → value_if (first && second) a.value ≡ None
  passed true true off = absurd cc
  passed true false off = refl
  passed false second off = refl

pub no_last : (assigns : List Assign) (o p : ℕ) → list_all sets_shown assigns ≡ true → is_shown_prop p ≡ false
    → last_value assigns o p ≡ None
no_last [] o p all other = refl
no_last (a ∷ assigns) o p all other =
    let both = and_parts (sets_shown a) _ all in
    ap (λ v. or_else v (value_if ((object_of a == o) && (prop_of a.prop == p)) a.value)) (no_last assigns o p both.1 other)
    ∙ other_value a o p both.0 other

-- no out-fence is asked for, so none is made
pub no_out : (r : Request) (crtc : ℕ) → SetsShown r → out_fence_label r.assigns crtc ≡ None
no_out r crtc shown = ap new_label (no_last r.assigns crtc OUT_FENCE_PTR shown refl)

pub no_out_fences : (client : ℕ) (r : Request) → SetsShown r → (w : World) (crtcs : List ℕ) → make_out_fences client r.assigns w crtcs ≡ w
no_out_fences client r shown w [] = refl
no_out_fences client r shown w (crtc ∷ crtcs) =
    ap (λ o. make_out_fences client r.assigns (make_out_fence client w o) crtcs) (no_out r crtc shown)
    ∙ no_out_fences client r shown w crtcs

-- the fence that is waited for on behalf of a plane, with the plane
abbrev fence_at : (ℕ → Look) → List Assign → ℕ → Option (ObjId × ℕ)
fence_at look assigns plane = option_map (λ fence. (obj_id plane, fence)) (in_fence look assigns plane)

-- and no fence is waited for
pub no_in_fences : (t : Topology) (look : ℕ → Look) (r : Request) → SetsShown r → in_fences t look r.assigns ≡ []
unfolding in_fences
no_in_fences t look r shown = none (ids_of t kind.Plane)
  where
    none : (planes : List ℕ) → filter_map (fence_at look r.assigns) planes ≡ []
    none [] = refl
    none (plane ∷ planes) = rw (no_last r.assigns plane IN_FENCE_FD shown refl) (none planes)

-- the fences that a commit waits for
abbrev pub waited_by : Topology → Commit → List ℕ
waited_by t c = map (λ f. f.1) (in_fences t (look_up c.world) c.request.assigns)

pub no_waited : (t : Topology) (c : Commit) → SetsShown c.request → waited_by t c ≡ []
no_waited t c shown = ap (map (λ f. f.1)) (no_in_fences t (look_up c.world) c.request shown)
