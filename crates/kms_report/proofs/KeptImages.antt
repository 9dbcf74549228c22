-- Images to which more are added, and what is kept over images and over the things of a machine.
use Rattle.std.proofs.Common.{◌≡◌, ◌⊎◌, inl, inr, ℕ, Bool, true, false, cond, eqb, List, [], ◌∷◌, ◌++◌, Option, Some, Result, Ok, Err, refl}
use Rattle.std.proofs.Common.{sym, ap, ◌∙◌, subst}
use Rattle.std.specs.Prelude.{IfOk}
use Rattle.std.proofs.lemmas.Bool.{cond-true, cond-false, eqb-true}
use Rattle.std.proofs.lemmas.List.Elements.{All-head, All-tail}
use Rattle.kms_model.specs.declared.copying.NoMemory.{NoMemory}
use Rattle.kms_model.specs.declared.pictures.Picture.{Picture}
use Rattle.kms_model.specs.declared.pictures.Picture.TheVariants.{Off, On}
use Rattle.kms_model.specs.declared.worlds.Thing.{Thing}
use Rattle.kms_model.specs.Frames.Images.{image_of}
use Rattle.kms_model.specs.Frames.Shown.{EachCanBeShown}
use Rattle.kms_model.specs.Things.Kept.{Seen}
use Rattle.kms_compose.specs.Images.{AreImagesIn, CanShow, IsPushed, image_seen, seen_under}
use Rattle.kms_compose.specs.declared.images.FbImage.{FbImage}
use Rattle.kms_compose.proofs.SameFrames.{frame_same}
use Rattle.kms_kept_frames.specs.declared.kept.KeptFrame.{KeptFrame}
use Rattle.kms_kept_frames.specs.declared.screen.Screen.{Screen}
use Rattle.kms_kept_frames.specs.Screens.{Has, IsKeptFrameOf, IsKeptFrameOver, AreKeptFramesOf, AreKeptFramesOver}
use Rattle.kms_report.specs.Images.{KeepsImages, ShowsKept}

-- what a choice comes to, by its test
choice : (b : Bool) (x y : Option Seen) (s : Seen) (Z : Type 0) → (b ≡ true → x ≡ Some s → Z) → (b ≡ false → y ≡ Some s → Z)
    → cond b x y ≡ Some s → Z
choice true x y s Z one other h = one refl h
choice false x y s Z one other h = other refl h

-- More images

behind : (old more : List FbImage) → KeepsImages old (old ++ more)
behind [] more fb s h = cc
behind (j ∷ js) more fb s h =
    choice (eqb j.fb fb) (Some (image_seen j.image)) (seen_under js fb) s (seen_under ((j ∷ js) ++ more) fb ≡ Some s)
    (λ is first. cond-true (eqb j.fb fb) (Some (image_seen j.image)) (seen_under (js ++ more) fb) is ∙ first)
    (λ is rest. cond-false (eqb j.fb fb) (Some (image_seen j.image)) (seen_under (js ++ more) fb) is ∙ behind js more fb s rest)
    h

pub pushed-keeps : (things : List Thing) (fb : ℕ) (old new : List FbImage) → IsPushed things fb old new → KeepsImages old new
pushed-keeps things fb old new p = subst (KeepsImages old) (sym p.pushed) (behind old (p.image ∷ []))

pub keeps-then : (one two three : List FbImage) → KeepsImages one two → KeepsImages two three → KeepsImages one three
keeps-then one two three first second fb s h = second fb s (first fb s h)

pub shown-still : (old new : List FbImage) (p : Picture) → KeepsImages old new → CanShow old p → CanShow new p
shown-still old new Off keeps can = tt
shown-still old new (On p) keeps can = λ k d within.
    let one = can k d within in
    record {
      placed = one.placed;
      image = record {
        seen = one.image.seen;
        found = keeps _ one.image.seen one.image.found;
        width = one.image.width;
        height = one.image.height;
        words = one.image.words;
      };
    }

pub kept-still : (old new : List FbImage) (s : Screen) → KeepsImages old new → ShowsKept old s → ShowsKept new s
kept-still old new s keeps shows =
    record {
      one = shown-still old new s.first.drawn.picture keeps shows.one;
      other = shown-still old new s.second.drawn.picture keeps
          shows.other;
    }

-- Over images and over things

abbrev IsImageIn : List Thing → FbImage → Type 0
IsImageIn things i = image_of things i.fb ≡ Some (image_seen i.image)

among : (things : List Thing) (images : List FbImage) (fb : ℕ) (s : Seen) → AreImagesIn things images → seen_under images fb ≡ Some s
    → image_of things fb ≡ Some s
among things [] fb s are h = cc
among things (j ∷ js) fb s are h =
    choice (eqb j.fb fb) (Some (image_seen j.image)) (seen_under js fb) s (image_of things fb ≡ Some s)
    (λ is first. ap (image_of things) (sym (eqb-true j.fb fb is)) ∙ All-head (IsImageIn things) j js are ∙ first)
    (λ is rest. among things js fb s (All-tail (IsImageIn things) j js are) rest)
    h

can-be-shown : (things : List Thing) (images : List FbImage) (p : Picture) → AreImagesIn things images → CanShow images p
    → EachCanBeShown things p
can-be-shown things images Off are can = tt
can-be-shown things images (On p) are can = λ k d within.
    let one = can k d within in
    record {
      placed = one.placed;
      words = record {
        seen = one.image.seen;
        found = among things images _ one.image.seen are one.image.found;
        width = one.image.width;
        height = one.image.height;
        words = one.image.words;
      };
    }

module _ (things : List Thing) (images : List FbImage) (are : AreImagesIn things images) where
  kept_over : (k : KeptFrame) → CanShow images k.drawn.picture → IsKeptFrameOf things k → IsKeptFrameOver images k
  kept_over k can kept =
      record {
        drawn = record {
          can = can;
          exact = kept.drawn.exact ∙ sym (frame_same things images k.drawn.picture can are);
          fronts =
              kept.drawn.fronts;
        };
        digest = kept.digest;
      }

  kept_of : (k : KeptFrame) → IsKeptFrameOver images k → IsKeptFrameOf things k
  kept_of k kept =
      record {
        drawn = record {
          can = can-be-shown things images k.drawn.picture are kept.drawn.can;
          exact = kept.drawn.exact ∙ frame_same things images k.drawn.picture kept.drawn.can are;
          fronts = kept.drawn.fronts;
        };
        digest = kept.digest;
      }

  pub over-images : (s : Screen) → ShowsKept images s → AreKeptFramesOf things s → AreKeptFramesOver images s
  over-images s shows stands = record {
    first = kept_over s.first shows.one stands.first;
    second = kept_over s.second shows.other
        stands.second;
  }

  of_things : (s : Screen) → AreKeptFramesOver images s → AreKeptFramesOf things s
  of_things s stands = record { first = kept_of s.first stands.first; second = kept_of s.second stands.second }

  pub showing-of : (r : Result Screen NoMemory) (p : Picture) → IfOk r (λ s. AreKeptFramesOver images s × Has s p)
      → IfOk r (λ s. AreKeptFramesOf things s × Has s p)
  showing-of (Ok s) p both = (of_things s both.0, both.1)
  showing-of (Err e) p both = both

-- either of the two stands
pub kept-stands : (things : List Thing) (s : Screen) (k : KeptFrame) → AreKeptFramesOf things s → (k ≡ s.first) ⊎ (k ≡ s.second)
    → IsKeptFrameOf things k
kept-stands things s k stands (inl is) = subst (IsKeptFrameOf things) (sym is) stands.first
kept-stands things s k stands (inr is) = subst (IsKeptFrameOf things) (sym is) stands.second
