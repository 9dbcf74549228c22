-- The images of a picture's framebuffers.
use Rattle.std.proofs.Common.{◌≡◌, ℕ, ◌+◌, ◌<◌, Bool, true, false, cond, eqb, List, [], ◌∷◌, ◌++◌, length, get_or, take, Option, Some, None}
use Rattle.std.proofs.Common.{refl, sym, ap, ◌∙◌, subst}
use Rattle.std.proofs.lemmas.Bool.{eq-eqb, cond-true, cond-false, eqb-true}
use Rattle.std.proofs.lemmas.List.Elements.{All-push, All-head, All-tail, All-more, All-weaker}
use Rattle.kms_model.specs.declared.pictures.Layer.{Layer}
use Rattle.kms_model.specs.declared.worlds.Thing.{Thing}
use Rattle.kms_model.specs.Frames.Images.{image_of}
use Rattle.kms_model.specs.Things.Kept.{Seen}
use Rattle.kms_compose.specs.Images.{AreImagesIn, AreSeen, IsPushed, image_seen, seen_under}
use Rattle.kms_compose.specs.declared.images.FbImage.{FbImage}

-- One image more

abbrev IsImageIn : List Thing → FbImage → Type 0
IsImageIn things i = image_of things i.fb ≡ Some (image_seen i.image)

pushed_found : (things : List Thing) (fb : ℕ) (old new : List FbImage) (p : IsPushed things fb old new) → IsImageIn things p.image
pushed_found things fb old new p = ap (image_of things) p.id ∙ p.found

pub pushed-images : (things : List Thing) (fb : ℕ) (old new : List FbImage) → IsPushed things fb old new
    → AreImagesIn things old → AreImagesIn things new
pushed-images things fb old new p images =
    subst (AreImagesIn things) (sym p.pushed) (All-push (IsImageIn things) old p.image images (pushed_found things fb old new p))

-- which image is seen, by whether it is the first one
here_or_behind : (b : Bool) (x y z : Option Seen) → (b ≡ true → x ≡ z) → (b ≡ false → y ≡ z) → cond b x y ≡ z
here_or_behind true x y z one other = one refl
here_or_behind false x y z one other = other refl

seen_last : (things : List Thing) (old : List FbImage) (i : FbImage) → AreImagesIn things old → IsImageIn things i
    → seen_under (old ++ i ∷ []) i.fb ≡ image_of things i.fb
seen_last things [] i images found = here_or_behind (eqb i.fb i.fb) (Some (image_seen i.image)) None (image_of things i.fb)
    (λ is. sym found) (λ other. absurd (let same : eqb i.fb i.fb ≡ true = eq-eqb i.fb i.fb refl in cc))
seen_last things (j ∷ js) i images found =
    here_or_behind (eqb j.fb i.fb) (Some (image_seen j.image)) (seen_under (js ++ i ∷ []) i.fb) (image_of things i.fb)
    (λ is. sym (All-head (IsImageIn things) j js images) ∙ ap (image_of things) (eqb-true j.fb i.fb is))
    (λ other. seen_last things js i (All-tail (IsImageIn things) j js images) found)

seen_kept : (things : List Thing) (old : List FbImage) (i : FbImage) (fb : ℕ) → IsImageIn things i → seen_under old fb ≡ image_of things fb
    → seen_under (old ++ i ∷ []) fb ≡ image_of things fb
seen_kept things [] i fb found before =
    here_or_behind (eqb i.fb fb) (Some (image_seen i.image)) None (image_of things fb)
    (λ is. sym found ∙ ap (image_of things) (eqb-true i.fb fb is)) (λ other. before)
seen_kept things (j ∷ js) i fb found before =
    here_or_behind (eqb j.fb fb) (Some (image_seen j.image)) (seen_under (js ++ i ∷ []) fb) (image_of things fb)
    (λ is. sym (cond-true (eqb j.fb fb) (Some (image_seen j.image)) (seen_under js fb) is) ∙ before)
    (λ other. seen_kept things js i fb found (sym (cond-false (eqb j.fb fb) (Some (image_seen j.image)) (seen_under js fb) other) ∙ before))

pushed_seen : (things : List Thing) (fb : ℕ) (old new : List FbImage) → IsPushed things fb old new → AreImagesIn things old
    → seen_under new fb ≡ image_of things fb
pushed_seen things fb old new p images =
    ap (λ (is : List FbImage). seen_under is fb) p.pushed
    ∙ subst (λ (k : ℕ). seen_under (old ++ p.image ∷ []) k ≡ image_of things k) p.id
    (seen_last things old p.image images (pushed_found things fb old new p))

abbrev IsSeen : List Thing → List FbImage → Layer → Type 0
IsSeen things images l = seen_under images l.fb.id ≡ image_of things l.fb.id

pushed_kept : (things : List Thing) (fb : ℕ) (old new : List FbImage) → IsPushed things fb old new → (l : Layer)
    → IsSeen things old l → IsSeen things new l
pushed_kept things fb old new p l before =
    ap (λ (is : List FbImage). seen_under is l.fb.id) p.pushed
    ∙ seen_kept things old p.image l.fb.id (pushed_found things fb old new p) before

-- the layers up to one more are seen
pub pushed-more : (things : List Thing) (layers : List Layer) (i : ℕ) (d : Layer) (old new : List FbImage) → i < length layers
    → IsPushed things (get_or layers i d).fb.id old new → AreImagesIn things old → AreSeen things old (take i layers)
    → AreSeen things new (take (i + 1) layers)
pushed-more things layers i d old new within p images before =
    All-more (IsSeen things new) layers i d within
    (All-weaker (IsSeen things old) (IsSeen things new) (pushed_kept things (get_or layers i d).fb.id old new p) (take i layers) before)
    (pushed_seen things (get_or layers i d).fb.id old new p images)
