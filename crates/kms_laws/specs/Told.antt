-- What holds of a history for those who tell of it. From: "Frame Buffer Abstraction", drm_framebuffer_get: a framebuffer that is
-- shown stays, open or closed; `drm_read`: what is read is what was delivered.
use Rattle.std.specs.Prelude.{◌≡◌, ◌≤◌, ℕ, ◌+◌, List, [], ◌∷◌, ◌++◌, reverse, ⊤}
use Rattle.std.specs.List.{All}
use Rattle.kms_model.specs.declared.replies.Answered.{Answered}
use Rattle.kms_model.specs.declared.scripts.Script.{Script}
use Rattle.kms_model.specs.Device.Serial.{Entry, serial, show}
use Rattle.kms_model.specs.Device.Sound.{IsDevice}
use Rattle.kms_model.specs.Frames.FrameBytes.{frame_bytes}
use Rattle.kms_model.specs.Frames.Shown.{EachCanBeShown}
use Rattle.kms_model.specs.Machine.Histories.{at, read_by, replies}
use Rattle.kms_model.specs.Promises.{InEachHistory}
use Rattle.kms_model.specs.Report.History.{answers_to}
use Rattle.kms_model.specs.Report.Right.{events_told}

-- each picture that was latched can be composed over the present things
abbrev pub LatchesCanBeShown : Type 0
LatchesCanBeShown = InEachHistory (λ s h. All (λ l. EachCanBeShown (at s h).device.world.things l.picture)
    (reverse (at s h).records.latches))

-- What a CRTC showed, by its id, has the same frame over the things of each later moment, whatever entries come between.
abbrev pub FramesStay : Type 0
FramesStay = (s : Script) (entries later : List Entry) (crtc : ℕ) → IsDevice s.topology
    → All (λ p. frame_bytes (serial s (entries ++ later)).things p.picture ≡ p.frame) (show s entries crtc)

-- what each client has read is what its replies tell
abbrev pub EventsAreTold : Type 0
EventsAreTold = InEachHistory (λ s h. (client : ℕ) → read_by (at s h) client ≡ events_told client (replies (at s h)))

-- replies whose commands are numbered on from a number, and whose places do not fall
abbrev pub AreInOrder : ℕ → ℕ → List Answered → Type 0
AreInOrder command least [] = ⊤
AreInOrder command least (a ∷ later) = (a.command ≡ command) × ((least ≤ a.place) × AreInOrder (command + 1) a.place later)

-- The replies to each client are to its commands from the first on, none left out, and no place is before that of an earlier one:
-- a report, which has a client's replies by command, has them in order of time.
abbrev pub AnswersFollow : Type 0
AnswersFollow = InEachHistory (λ s h. (client : ℕ) → AreInOrder 1 0 (answers_to (at s h) client))
