-- The frames of what a history latches are those of what the device of one thread shows, where the pictures are.
use Rattle.std.proofs.Common.{◌≡◌, ℕ, List, [], ◌∷◌, ◌++◌, map, refl, sym, ap, ◌∙◌, subst}
use Rattle.std.proofs.lemmas.List.{map-append}
use Rattle.kms_model.specs.declared.objects.Kind.TheVariants.{Crtc}
use Rattle.kms_model.specs.declared.replies.Step.{Step}
use Rattle.kms_model.specs.declared.runs.Latch.{Latch}
use Rattle.kms_model.specs.declared.scripts.Script.{Script}
use Rattle.kms_model.specs.declared.worlds.Thing.{Thing}
use Rattle.kms_model.specs.declared.worlds.World.{World}
use Rattle.kms_model.specs.Device.Objects.{object_id}
use Rattle.kms_model.specs.Device.Serial.{Pictured, serial, show}
use Rattle.kms_model.specs.Device.World.{start}
use Rattle.kms_model.specs.Frames.FrameBytes.{frame_bytes}
use Rattle.kms_model.specs.Headline.{CommitFrame, CommitPicture, frame_or_off, history_journal, latched_frames, latched_pictures}
use Rattle.kms_model.specs.Headline.{shown_frames, shown_pictures}
use Rattle.kms_model.specs.Machine.Histories.{at, latched}
use Rattle.kms_laws.specs.Laws.{HasSerialWorld}
use Rattle.kms_laws.proofs.Composed.{CanEach, IsShowing, show-can}

-- the frame of a picture over some things
abbrev frame_over : List Thing → CommitPicture → CommitFrame
frame_over things p = record { commit = p.commit; frame = frame_or_off p.picture (frame_bytes things p.picture) }

abbrev pair_shown : Pictured → CommitPicture
pair_shown p = record { commit = p.commit; picture = p.picture }

abbrev frame_told : Pictured → CommitFrame
frame_told p = record { commit = p.commit; frame = frame_or_off p.picture p.frame }

told-over : (things : List Thing) (ps : List Pictured) → CanEach things ps → map frame_told ps ≡ map (frame_over things) (map pair_shown ps)
told-over things [] can = refl
told-over things (p ∷ ps) can = λ i. record { commit = p.commit; frame = frame_or_off p.picture (can.0.frame i) }
    ∷ told-over things ps can.1 i

latched-over : (things : List Thing) (ls : List Latch)
    → map (λ l. record { commit = l.commit; frame = frame_or_off l.picture (frame_bytes things l.picture) }) ls
    ≡ map (frame_over things) (map (λ l. record { commit = l.commit; picture = l.picture }) ls)
latched-over things [] = refl
latched-over things (l ∷ ls) = ap (λ fs. record { commit = l.commit; frame = frame_or_off l.picture (frame_bytes things l.picture) } ∷ fs)
    (latched-over things ls)

module _ (s : Script) (h : List Step) (starts : IsShowing s.topology (start s.topology)) (world : HasSerialWorld s h) (crtc : ℕ) where
  told : shown_frames s (history_journal s h) crtc
      ≡ map (frame_over (at s h).device.world.things) (shown_pictures s (history_journal s h) crtc)
  told =
      let es = history_journal s h in
      let can : CanEach (serial s es).things (show s es (object_id Crtc crtc)) = show-can s (object_id Crtc crtc) (start s.topology) es
      starts in
      told-over (at s h).device.world.things (show s es (object_id Crtc crtc))
      (subst (λ (w : World). CanEach w.things (show s es (object_id Crtc crtc))) world.is_serial can)

  -- frames follow where pictures do
  pub frames-follow : (rest : List CommitPicture) → shown_pictures s (history_journal s h) crtc ≡ latched_pictures s h crtc ++ rest
      → shown_frames s (history_journal s h) crtc ≡ latched_frames s h crtc ++ map (frame_over (at s h).device.world.things) rest
  frames-follow rest e =
      told
      ∙ ap (map (frame_over (at s h).device.world.things)) e
      ∙ map-append (frame_over (at s h).device.world.things) (latched_pictures s h crtc) rest
      ∙ ap (λ fs. fs ++ map (frame_over (at s h).device.world.things) rest)
      (sym (latched-over (at s h).device.world.things (latched (at s h) crtc)))

  pub frames-same : latched_pictures s h crtc ≡ shown_pictures s (history_journal s h) crtc → latched_frames s h crtc
      ≡ shown_frames s (history_journal s h) crtc
  frames-same e =
      latched-over (at s h).device.world.things (latched (at s h) crtc)
      ∙ ap (map (frame_over (at s h).device.world.things)) e
      ∙ sym told
