-- Where each plane's zpos is its index, the layers of a CRTC are those of its planes by index.
use Rattle.std.proofs.Common.{◌≡◌, ℕ, zero, suc, ◌+◌, ◌<◌, ◌≤◌, List, [], ◌∷◌, map, Option, Some, None, refl, ap, arith}
use Rattle.std.specs.Bool.{⊤}
use Rattle.std.specs.Prelude.{option_map}
use Rattle.std.specs.List.{cons_option, filter_map, range_with_len}
use Rattle.std.proofs.lemmas.Bool.{le-leb}
use Rattle.kms_model.specs.declared.objects.Kind.TheVariants.{Plane}
use Rattle.kms_model.specs.declared.objects.Mode.{Mode}
use Rattle.kms_model.specs.declared.pictures.FbInfo.{FbInfo}
use Rattle.kms_model.specs.declared.pictures.Layer.{Layer}
use Rattle.kms_model.specs.declared.states.PlaneState.{PlaneState}
use Rattle.kms_model.specs.Device.Objects.{object_id}
use Rattle.kms_model.specs.Frames.Pictures.{layer_of, layers_with, put_layer, put_plane, seen_on}

-- the layer of a plane on a CRTC, where it is there
abbrev pub seen_layer : (ℕ → PlaneState) → Mode → ℕ → ℕ → Option Layer
seen_layer state m crtc plane = option_map (layer_of m plane (state plane)) (seen_on crtc (state plane))

abbrev layers : List (ℕ × Layer) → List Layer
layers ls = map (λ l. l.1) ls

-- the first of these layers has at least this zpos
abbrev AreFrom : ℕ → List (ℕ × Layer) → Type 0
AreFrom n [] = ⊤
AreFrom n (l ∷ ls) = n ≤ l.0

lower : (n : ℕ) (ls : List (ℕ × Layer)) → AreFrom (n + 1) ls → AreFrom n ls
lower n [] above = tt
lower n (l ∷ ls) above = omega (arith, above)

put_first : (l : ℕ × Layer) (ls : List (ℕ × Layer)) (n : ℕ) → l.0 ≡ n → AreFrom (n + 1) ls → put_layer l ls ≡ l ∷ ls
put_first l [] n is above = refl
put_first l (m ∷ ms) n is above = rw (le-leb l.0 m.0 (omega (arith, is, above))) refl

-- layers of planes from an index on
record AreOrdered (n : ℕ) (ls : List (ℕ × Layer)) (are : List Layer) : Type 0 where
  above : AreFrom n ls
  same : layers ls ≡ are

one_more : (m : Mode) (plane n : ℕ) (s : PlaneState) (o : Option FbInfo) (ls : List (ℕ × Layer)) (are : List Layer) → s.zpos ≡ n
    → AreOrdered (n + 1) ls are
    → AreOrdered n (put_plane m plane s o ls) (cons_option (option_map (layer_of m plane s) o) are)
one_more m plane n s None ls are is later = record { above = lower n ls later.above; same = later.same }
one_more m plane n s (Some fb) ls are is later =
    rw (put_first (s.zpos, layer_of m plane s fb) ls n is later.above)
    (record { above = omega (arith, is); same = ap (λ (xs : List Layer). layer_of m plane s fb ∷ xs) later.same })

ordered : (state : ℕ → PlaneState) (m : Mode) (crtc from n : ℕ)
    → ((index : ℕ) → from ≤ index → index < from + n → (state (object_id Plane index)).zpos ≡ index)
    → AreOrdered from (layers_with state m crtc (map (object_id Plane) (range_with_len from n)))
    (filter_map (λ index. seen_layer state m crtc (object_id Plane index)) (range_with_len from n))
ordered state m crtc from zero z = record { above = tt; same = refl }
ordered state m crtc from (suc n) z =
    one_more m (object_id Plane from) from (state (object_id Plane from)) (seen_on crtc (state (object_id Plane from))) _ _
    (z from (omega arith) (omega arith))
    (ordered state m crtc (from + 1) n (λ index low high. z index (omega (arith, low)) (omega (arith, high))))

pub layers_by_index : (state : ℕ → PlaneState) (m : Mode) (crtc n : ℕ)
    → ((index : ℕ) → index < n → (state (object_id Plane index)).zpos ≡ index)
    → map (λ l. l.1) (layers_with state m crtc (map (object_id Plane) (range_with_len 0 n))) ≡ filter_map
    (λ index. seen_layer state m crtc (object_id Plane index)) (range_with_len 0 n)
layers_by_index state m crtc n z = (ordered state m crtc 0 n (λ index low high. z index (omega (arith, high)))).same
