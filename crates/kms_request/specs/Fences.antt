-- The fences that assignments name and ask for, in place.
use Rattle.std.specs.Prelude.{◌≡◌, ℕ, ◌<◌, false, Bool, List, map, slice_index_or, Option, None, is_some, option_and_then}
use Rattle.std.specs.List.{filter_map, list_any, range_with_len}
use Rattle.std.specs.Option.{option_map}
use Rattle.kms_model.specs.declared.objects.Kind.{Kind}
use Rattle.kms_model.specs.declared.objects.Kind.TheVariants.{Crtc, Plane}
use Rattle.kms_model.specs.declared.objects.ObjId.{ObjId}
use Rattle.kms_model.specs.declared.properties.TheConstants.{IN_FENCE_FD, OUT_FENCE_PTR}
use Rattle.kms_model.specs.declared.scripts.Assign.{Assign}
use Rattle.kms_model.specs.declared.scripts.Value.{Value}
use Rattle.kms_model.specs.declared.worlds.Look.{Look}
use Rattle.kms_model.specs.Request.Apply.{prop_of}
use Rattle.kms_model.specs.Request.Lookups.{label_of}
use Rattle.kms_model.specs.Device.Objects.{object_id}
use Rattle.kms_model.specs.Request.Refusals.{names_fence}
use Rattle.kms_model.specs.Request.Sets.{fence_of_look, obj_id}
use Rattle.kms_model.specs.Request.Touched.{last_value, new_label}

-- for each plane index, whether one of the earlier assignments named a fence for that plane
abbrev pub TellFences : List Assign → List Bool → Type 0
TellFences earlier fenced =
    (index : ℕ) → index < 16
    → slice_index_or fenced index false ≡ list_any (names_fence (object_id Plane index)) earlier

-- an assignment whose object is within the limits, and is a plane where it sets IN_FENCE_FD
pub record SetsFenceOfPlane (a : Assign) : Type 0 where
  pub index : a.index < 16
  pub plane : prop_of a.prop ≡ IN_FENCE_FD → a.kind ≡ Plane

-- the fence that a value names
abbrev pub fence_value : (ℕ → Look) → Value → Option ℕ
fence_value f v = option_and_then (λ label. fence_of_look (f label)) (label_of v)

-- For each index, what a function makes of the last value of a property of the object of a kind with that index.
abbrev pub TellLast : Kind → ℕ → (Option Value → Option ℕ) → List Assign → List (Option ℕ) → Type 0
TellLast kind prop number assigns numbers =
    (index : ℕ) → index < 16
    → slice_index_or numbers index None ≡ number (last_value assigns (object_id kind index) prop)

-- for each plane index, the fence that the commit waits for on behalf of that plane
abbrev pub TellInFences : (ℕ → Look) → List Assign → List (Option ℕ) → Type 0
TellInFences f assigns fences =
    TellLast Plane IN_FENCE_FD (option_and_then (fence_value f)) assigns fences

-- for each CRTC index, the label of the out-fence that is asked for that CRTC
abbrev pub TellOutFences : List Assign → List (Option ℕ) → Type 0
TellOutFences assigns labels = TellLast Crtc OUT_FENCE_PTR new_label assigns labels

-- objects with the numbers that a function gives for them
abbrev pub numbered : (ℕ → Option ℕ) → List ℕ → List (ObjId × ℕ)
numbered number objects =
    filter_map (λ object. option_map (λ n. (obj_id object, n)) (number object)) objects

-- for the first indices, what a function gives for the objects of a kind
abbrev pub TellNumbers : Kind → (ℕ → Option ℕ) → ℕ → List (Option ℕ) → Type 0
TellNumbers kind number count numbers =
    (index : ℕ) → index < count → slice_index_or numbers index None ≡ number (object_id kind index)

-- what is listed of numbers is that of the first objects of a kind
abbrev pub ListsNumbers : Kind → ℕ → List (Option ℕ) → List (ObjId × ℕ) → Type 0
ListsNumbers kind count numbers listed =
    (number : ℕ → Option ℕ) → TellNumbers kind number count numbers
    → listed ≡ numbered number (map (object_id kind) (range_with_len 0 count))

-- there is a number at an index
abbrev pub has_number_at : List (Option ℕ) → ℕ → Bool
has_number_at numbers index = is_some (slice_index_or numbers index None)
