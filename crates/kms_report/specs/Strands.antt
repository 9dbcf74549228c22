-- The digests of a CRTC's frames, by the strands in which they are made.
use Rattle.std.specs.Prelude.{◌≡◌, ℕ, ◌&&◌, Bool, true, List, [], ◌∷◌, ◌++◌, if◌then◌else◌}
use Rattle.sha2.specs.Sha256.{sha256}
use Rattle.kms_model.specs.declared.runs.Latch.{Latch}
use Rattle.kms_model.specs.declared.worlds.Thing.{Thing}
use Rattle.kms_model.specs.Frames.FrameBytes.{frame_bytes}
use Rattle.kms_kept_frames.specs.declared.strands.Strand.{Strand}
use Rattle.kms_kept_frames.specs.Strands.{is_lit, is_strand}

-- the digest of a latch's frame, where the latch is one of a CRTC, on, and of the strand that is meant
abbrev pub latch_digests : List Thing → ℕ → Bool → Latch → List (List ℕ)
latch_digests things crtc is_own l = if is_own && is_lit crtc l then sha256 (frame_bytes things l.picture) ∷ [] else []

-- the digests of a strand, in order of time, of latches that each have a strand
unfoldable pub strand_digests : List Thing → ℕ → Strand → List Latch → List Strand → List (List ℕ)
strand_digests things crtc strand [] strands = []
strand_digests things crtc strand (l ∷ latches) [] = []
strand_digests things crtc strand (l ∷ latches) (m ∷ strands) =
    latch_digests things crtc (is_strand strand m) l ++ strand_digests things crtc strand latches strands

-- the digests that are still to be told begin with that of a latch, where the latch is one of a CRTC and on, and then others
abbrev pub Begins : List Thing → ℕ → Latch → List (List ℕ) → List (List ℕ) → Type 0
Begins things crtc l digests others = digests ≡ latch_digests things crtc true l ++ others
