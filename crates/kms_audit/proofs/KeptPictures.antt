-- Pictures that are kept with the digests of their frames.
use Rattle.std.proofs.Common.{◌≡◌, ℕ, List, Option, Some, None, refl, sym, ap, ◌∙◌, subst}
use Rattle.kms_audit.specs.declared.frames.KeptDigest.{KeptDigest}
use Rattle.kms_audit.specs.declared.frames.LastTwo.{LastTwo}
use Rattle.kms_audit.specs.Framed.{AreKept, IsKept}
use Rattle.kms_model.specs.declared.pictures.Picture.{Picture}
use Rattle.kms_model.specs.declared.pictures.Picture.TheVariants.{Off, On}
use Rattle.kms_model.specs.declared.pictures.Shown.{Shown}
use Rattle.kms_model.specs.declared.worlds.Thing.{Thing}
use Rattle.kms_model.specs.Frames.FrameBytes.{frame_bytes}
use Rattle.kms_model.specs.Frames.Shown.{EachCanBeShown}
use Rattle.kms_model.specs.Report.SeenReport.{digest_shown}

-- the digest of a picture that is the kept one
pub kept-same : (things : List Thing) (k : KeptDigest) (p : Picture) → IsKept things k → k.picture ≡ p
    → k.digest ≡ digest_shown p (frame_bytes things p)
kept-same things k p kept same = kept.digest ∙ ap (λ x. digest_shown x (frame_bytes things x)) same

-- a CRTC that is off has no digest
pub kept-dark : (things : List Thing) (k : KeptDigest) → k.picture ≡ Off → k.digest ≡ None → IsKept things k
kept-dark things k off none = record {
  can = subst (EachCanBeShown things) (sym off) tt;
  digest = none ∙ ap (λ p. digest_shown p (frame_bytes things p)) (sym off);
}

pub dark-digest : (p : Picture) → ((x : Shown) → p ≡ On x → ⊥) → (bytes : List ℕ) → None ≡ digest_shown p bytes
dark-digest Off apart bytes = refl
dark-digest (On x) apart bytes = absurd (apart x refl)

-- another picture is kept beside the later of the two
pub kept-other : (things : List Thing) (old new : LastTwo) (p : Picture) (digest : Option (List ℕ)) → AreKept things old
    → EachCanBeShown things p
    → digest ≡ digest_shown p (frame_bytes things p)
    → new ≡ record { later = record { picture = p; digest = digest }; earlier = old.later } → AreKept things new
kept-other things old new p digest kept can is same =
    subst (AreKept things) (sym same) (record { later = record { can = can; digest = is }; earlier = kept.later })

-- a frame that is made, and its digest
pub digest-as : (p : Picture) (x : Shown) → p ≡ On x → (bytes frame : List ℕ) → bytes ≡ frame → (digest : List ℕ)
    → Some digest ≡ digest_shown (On x) bytes
    → Some digest ≡ digest_shown p frame
digest-as p x is bytes frame same digest e = e ∙ (ap (digest_shown (On x)) same ∙ ap (λ q. digest_shown q frame) (sym is))
