-- The headline: for every script and every interleaving of clients, workers, fences and vblanks, the pictures that
-- each CRTC latches are, in order, a prefix of those that the device of one thread shows when it executes the journal's
-- commands one by one, and all of them once the run has drained; every verdict on a request is that device's at its place
-- in the journal. The frames of those pictures, byte by byte, are that device's too.
use Rattle.std.specs.Prelude.{◌≡◌, ℕ, ◌≤◌, ◌<◌, true, List, ◌++◌, length, map, take, Option, Some, None, ⊤}
use Rattle.std.specs.List.{All}
use Rattle.kms_model.specs.declared.objects.Kind.TheVariants.{Crtc}
use Rattle.kms_model.specs.declared.pictures.Picture.{Picture}
use Rattle.kms_model.specs.declared.pictures.Picture.TheVariants.{Off, On}
use Rattle.kms_model.specs.declared.replies.Answered.{Answered}
use Rattle.kms_model.specs.declared.replies.Reply.{Reply}
use Rattle.kms_model.specs.declared.replies.Reply.TheVariants as reply
use Rattle.kms_model.specs.declared.replies.Step.{Step}
use Rattle.kms_model.specs.declared.scripts.Command.{Command}
use Rattle.kms_model.specs.declared.scripts.Command.TheVariants as command
use Rattle.kms_model.specs.declared.scripts.Request.{Request}
use Rattle.kms_model.specs.declared.scripts.Script.{Script}
use Rattle.kms_model.specs.declared.worlds.World.{World}
use Rattle.kms_model.specs.Device.Objects.{object_id}
use Rattle.kms_model.specs.Device.Serial.{Entry, command_of, serial, show}
use Rattle.kms_model.specs.Frames.FrameBytes.{frame_bytes}
use Rattle.kms_model.specs.Request.Verdict.{verdict}
use Rattle.kms_model.specs.Machine.Histories.{at, is_drained, is_history, journal, latched, replies}
use Rattle.kms_model.specs.Script.WellFormed.{IsWellFormed}

-- A commit and a picture of a CRTC.
pub record CommitPicture : Type 0 where
  pub commit : ℕ
  pub picture : Picture

-- what a CRTC, by its index, latches in a history
abbrev pub latched_pictures : Script → List Step → ℕ → List CommitPicture
latched_pictures s h crtc = map (λ l. record { commit = l.commit; picture = l.picture }) (latched (at s h) crtc)

-- what the device of one thread shows on a CRTC when it executes a journal
abbrev pub shown_pictures : Script → List Entry → ℕ → List CommitPicture
shown_pictures s entries crtc = map (λ p. record { commit = p.commit; picture = p.picture }) (show s entries (object_id Crtc crtc))

abbrev pub history_journal : Script → List Step → List Entry
history_journal s h = journal (at s h)

-- A commit and the bytes of a frame of a CRTC, three for each pixel; none where the CRTC is off.
pub record CommitFrame : Type 0 where
  pub commit : ℕ
  pub frame : Option (List ℕ)

-- the frame of a picture that has these bytes
abbrev pub frame_or_off : Picture → List ℕ → Option (List ℕ)
frame_or_off Off bytes = None
frame_or_off (On shown) bytes = Some bytes

-- the frames of what a CRTC latches in a history, over the things at its end: a report tells their digests
abbrev pub latched_frames : Script → List Step → ℕ → List CommitFrame
latched_frames s h crtc = map (λ l. record {
  commit = l.commit;
  frame = frame_or_off l.picture
      (frame_bytes (at s h).device.world.things l.picture);
}) (latched (at s h) crtc)

-- the frames of what the device of one thread shows on a CRTC, each over the things that there are at its entry of the journal
abbrev pub shown_frames : Script → List Entry → ℕ → List CommitFrame
shown_frames s entries crtc = map (λ p. record { commit = p.commit; frame = frame_or_off p.picture p.frame })
    (show s entries (object_id Crtc crtc))

-- one list begins with another
abbrev pub IsPrefixOf : {A : Type 0} → List A → List A → Type 0
IsPrefixOf {A} some all = (rest : List A) × (all ≡ some ++ rest)

-- The verdict of the device of one thread on a request in a world, by what was answered: the number that refused it, or
-- none; a commit has the number of the commits before it. Nothing else is answered to a request.
abbrev pub IsVerdictOnRequest : Script → World → Request → Reply → Type 0
IsVerdictOnRequest s w r (reply.Refused n) = verdict s.topology w r ≡ Some n.0
IsVerdictOnRequest s w r (reply.Commit k) = (verdict s.topology w r ≡ None) × (k ≡ w.commits)
IsVerdictOnRequest s w r reply.Tested = verdict s.topology w r ≡ None
IsVerdictOnRequest s w r (reply.Space used) = verdict s.topology w r ≡ None
IsVerdictOnRequest s w r (reply.Busy object k) = verdict s.topology w r ≡ None
IsVerdictOnRequest s w r _ = ⊥

abbrev pub IsVerdict : Script → World → Reply → Option Command → Type 0
IsVerdict s w r None = ⊥
IsVerdict s w r (Some (command.Atomic q)) = IsVerdictOnRequest s w q r
IsVerdict s w r (Some _) = ⊤

abbrev pub entry_answered : Answered → Entry
entry_answered a = record { client = a.client; command = a.command }

-- A reply has a place in the journal, and its verdict is that of the device of one thread after so many entries.
pub record StandsAtPlace (s : Script) (entries : List Entry) (a : Answered) : Type 0 where
  pub place : a.place ≤ length entries
  pub is_verdict : IsVerdict s (serial s (take a.place entries)) a.reply (command_of s (entry_answered a))

pub record Headline (s : Script) (h : List Step) : Type 0 where
  pub in_order : (crtc : ℕ) → crtc < s.topology.crtcs → IsPrefixOf (latched_pictures s h crtc) (shown_pictures s (history_journal s h) crtc)
  pub all_of_them : is_drained s (at s h) ≡ true → (crtc : ℕ) → crtc < s.topology.crtcs → latched_pictures s h crtc
      ≡ shown_pictures s (history_journal s h) crtc
  pub frames_in_order : (crtc : ℕ) → crtc < s.topology.crtcs
      → IsPrefixOf (latched_frames s h crtc) (shown_frames s (history_journal s h) crtc)
  pub all_frames : is_drained s (at s h) ≡ true → (crtc : ℕ) → crtc < s.topology.crtcs → latched_frames s h crtc
      ≡ shown_frames s (history_journal s h) crtc
  pub verdicts : All (StandsAtPlace s (history_journal s h)) (replies (at s h))

abbrev pub HeadlineHolds : Type 0
HeadlineHolds = (s : Script) (h : List Step) → IsWellFormed s → is_history s h ≡ true → Headline s h
