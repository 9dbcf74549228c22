-- The report of a history. From: this device's own; digests are those of FIPS 180-4, pixmaps those of the Netpbm manual.
use Rattle.std.specs.Prelude.{ℕ, ◌==◌, Bool, List, [], ◌∷◌, ◌++◌, length, filter, codes, slice_index_or, Option, Some, None, if◌then◌else◌}
use Rattle.std.specs.List.{flat_map, range_with_len}
use Rattle.std.specs.Fmt.{decimal}
use Rattle.sha2.specs.Sha256.{sha256}
use Rattle.hex.specs.Hex.{encode_lower}
use Rattle.kms_model.specs.declared.objects.Kind.{Kind}
use Rattle.kms_model.specs.declared.pictures.Picture.{Picture}
use Rattle.kms_model.specs.declared.pictures.Picture.TheVariants.{Off, On}
use Rattle.kms_model.specs.declared.replies.Answered.{Answered}
use Rattle.kms_model.specs.declared.replies.Event.{Event}
use Rattle.kms_model.specs.declared.replies.Step.{Step}
use Rattle.kms_model.specs.declared.replies.Step.TheVariants.{Begin, Lock, BackOff, Relock, Refuse, Test, Swap, Make, Signal, Claim, Write}
use Rattle.kms_model.specs.declared.replies.Step.TheVariants.{Flush, HwDone, Vblank, Cleanup, Read, Return, Stall}
use Rattle.kms_model.specs.declared.runs.Latch.{Latch}
use Rattle.kms_model.specs.declared.scripts.Script.{Script}
use Rattle.kms_model.specs.declared.worlds.Thing.{Thing}
use Rattle.kms_model.specs.Device.Serial.{Entry}
use Rattle.kms_model.specs.Frames.FrameBytes.{frame_bytes}
use Rattle.kms_model.specs.Frames.Ppm.{ppm}
use Rattle.kms_model.specs.Machine.Framebuffers.{freed}
use Rattle.kms_model.specs.Machine.Histories.{at, client_numbers, is_dead, is_drained, journal, latched, read_by, replies, stalled_on}
use Rattle.kms_model.specs.Machine.State.{Machine}
use Rattle.kms_model.specs.Report.Replies.{kind_name, reply_words}
use Rattle.kms_model.specs.Report.TextLines.{line}

-- what a report has besides its lines: the steps, and each frame as a pixmap
pub record Options : Type 0 where
  pub trace : Bool
  pub ppm : Bool

abbrev pub if_wanted : Bool → List ℕ → List ℕ
if_wanted b text = if b then text else []

-- `J CLIENT COMMAND`
abbrev pub entry_line : Entry → List ℕ
entry_line e = line (codes "J" ∷ decimal e.client ∷ decimal e.command ∷ [])

-- `R CLIENT COMMAND PLACE REPLY`
abbrev pub answer_line : Answered → List ℕ
answer_line a = line (codes "R" ∷ decimal a.client ∷ decimal a.command ∷ decimal a.place ∷ reply_words a.reply)

-- the SHA-256 of a frame's bytes (FIPS 180-4) in lower-case hexadecimal
abbrev pub digest_of : List ℕ → List ℕ
digest_of frame = encode_lower (sha256 frame)

-- the replies to a client, whose commands are answered in order
abbrev pub answers_to : Machine → ℕ → List Answered
answers_to m client = filter (λ a. a.client == client) (replies m)

-- `L CRTC COMMIT COUNT DIGEST`, with `off` where the CRTC is off, and the frame as a pixmap after it where that is wanted
abbrev pub shown_line : Machine → Bool → Latch → Picture → List ℕ
shown_line m pixmap l Off = line (codes "L" ∷ decimal l.crtc ∷ decimal l.commit ∷ decimal l.count ∷ codes "off" ∷ [])
shown_line m pixmap l (On shown) =
    let frame = frame_bytes m.device.world.things (On shown) in
    line (codes "L" ∷ decimal l.crtc ∷ decimal l.commit ∷ decimal l.count ∷ digest_of frame ∷ [])
    ++ if_wanted pixmap (ppm frame shown.mode.hdisplay shown.mode.vdisplay)

abbrev pub latch_line : Machine → Bool → Latch → List ℕ
latch_line m pixmap l = shown_line m pixmap l l.picture

-- `E CLIENT USERDATA SEQUENCE CRTCID`
abbrev pub event_line : ℕ → Event → List ℕ
event_line client e = line (codes "E" ∷ decimal client ∷ decimal e.user_data ∷ decimal e.sequence ∷ decimal e.crtc ∷ [])

abbrev pub event_lines : Machine → ℕ → List ℕ
event_lines m client = flat_map (event_line client) (read_by m client)

-- `X LABEL ID`
abbrev pub freed_thing_line : List (List ℕ) → Thing → List ℕ
freed_thing_line names thing = line (codes "X" ∷ slice_index_or names thing.label [] ∷ decimal thing.id ∷ [])

abbrev pub stalled_name : List (List ℕ) → Option ℕ → List ℕ
stalled_name names None = []
stalled_name names (Some label) = slice_index_or names label []

-- how a history ended: drained, dead and waiting for a fence, or open after so many steps
abbrev pub end_words : Script → Machine → ℕ → List (List ℕ)
end_words s m count =
    if is_drained s m then codes "drained" ∷ []
    else (if is_dead s m then codes "stalled" ∷ stalled_name s.names (stalled_on s m) ∷ []
    else codes "open" ∷ decimal count ∷ [])

-- a display object by kind and index
abbrev pub named_object : Kind → ℕ → List ℕ
named_object kind index = kind_name kind ++ decimal index

-- the words of a step
abbrev pub step_words : Step → List (List ℕ)
step_words (Begin client) = codes "begin" ∷ decimal client ∷ []
step_words (Lock client kind index) = codes "lock" ∷ decimal client ∷ named_object kind index ∷ []
step_words (BackOff client) = codes "backoff" ∷ decimal client ∷ []
step_words (Relock client) = codes "relock" ∷ decimal client ∷ []
step_words (Refuse client) = codes "refuse" ∷ decimal client ∷ []
step_words (Test client) = codes "test" ∷ decimal client ∷ []
step_words (Swap client) = codes "swap" ∷ decimal client ∷ []
step_words (Make client) = codes "make" ∷ decimal client ∷ []
step_words (Signal client) = codes "signal" ∷ decimal client ∷ []
step_words (Claim k) = codes "claim" ∷ decimal k ∷ []
step_words (Write k kind index) = codes "write" ∷ decimal k ∷ named_object kind index ∷ []
step_words (Flush k kind index) = codes "flush" ∷ decimal k ∷ named_object kind index ∷ []
step_words (HwDone k) = codes "hwdone" ∷ decimal k ∷ []
step_words (Vblank kind index) = codes "vblank" ∷ named_object kind index ∷ []
step_words (Cleanup k) = codes "cleanup" ∷ decimal k ∷ []
step_words (Read client) = codes "read" ∷ decimal client ∷ []
step_words (Return client) = codes "return" ∷ decimal client ∷ []
step_words Stall = codes "stall" ∷ []

-- `T` and the words of a step
abbrev pub step_line : Step → List ℕ
step_line step = line (codes "T" ∷ step_words step)

-- The report of a history, with the machine after it. Lines of a kind stand together, in the order of their letters here.
unfoldable pub report_of : Script → List Step → Machine → Options → List ℕ
report_of s h m options =
    flat_map entry_line (journal m)
    ++ (flat_map (λ client. flat_map answer_line (answers_to m client)) (client_numbers s)
    ++ (flat_map (λ crtc. flat_map (latch_line m options.ppm) (latched m crtc)) (range_with_len 0 s.topology.crtcs)
    ++ (flat_map (event_lines m) (client_numbers s)
    ++ (flat_map (freed_thing_line s.names) (freed s h)
    ++ (line (codes "D" ∷ end_words s m (length h))
    ++ if_wanted options.trace (flat_map step_line h))))))

abbrev pub text : Script → List Step → Options → List ℕ
text s h options = report_of s h (at s h) options
