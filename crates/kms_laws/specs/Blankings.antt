-- The count of a CRTC is how many vblanks it had. From: `drm_vblank.c`, drm_crtc_vblank_count.
use Rattle.std.specs.Prelude.{◌≡◌, ◌<◌, ◌==◌, ℕ, suc, Bool, true, false, List, [], ◌∷◌}
use Rattle.kms_model.specs.declared.objects.Kind.TheVariants.{Crtc}
use Rattle.kms_model.specs.declared.replies.Step.{Step}
use Rattle.kms_model.specs.declared.replies.Step.TheVariants.{Vblank}
use Rattle.kms_model.specs.Device.Objects.{object_id}
use Rattle.kms_model.specs.Machine.Histories.{at}
use Rattle.kms_model.specs.Machine.State.{count_at}
use Rattle.kms_model.specs.Promises.{InEachHistory}

-- a vblank of the CRTC with an index
abbrev pub is_blanking : ℕ → Step → Bool
is_blanking crtc (Vblank Crtc index) = index == crtc
is_blanking crtc _ = false

abbrev pub one_more_if : Bool → ℕ → ℕ
one_more_if true n = suc n
one_more_if false n = n

-- how many of them stand in a history
abbrev pub blankings : ℕ → List Step → ℕ
blankings crtc [] = 0
blankings crtc (step ∷ steps) = one_more_if (is_blanking crtc step) (blankings crtc steps)

-- after each history the count of each CRTC is the number of its vblanks
abbrev pub CountsAreBlankings : Type 0
CountsAreBlankings = InEachHistory (λ s h. (crtc : ℕ) → crtc < 4 → count_at (at s h).device (object_id Crtc crtc) ≡ blankings crtc h)
