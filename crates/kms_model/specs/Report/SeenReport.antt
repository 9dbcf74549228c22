-- The report of a history as a value, without steps and pixmaps. From: this device's own; digests are those of FIPS 180-4.
use Rattle.std.specs.Prelude.{ℕ, List, [], map, length, Option, option_map, if◌then◌else◌}
use Rattle.std.specs.List.{flat_map}
use Rattle.sha2.specs.Sha256.{sha256}
use Rattle.kms_model.specs.declared.objects.Kind.TheVariants.{Crtc}
use Rattle.kms_model.specs.declared.pictures.Picture.{Picture}
use Rattle.kms_model.specs.declared.replies.Answered.{Answered}
use Rattle.kms_model.specs.declared.replies.Event.{Event}
use Rattle.kms_model.specs.declared.replies.Reply.{Reply}
use Rattle.kms_model.specs.declared.replies.Step.{Step}
use Rattle.kms_model.specs.declared.reports.End.{End}
use Rattle.kms_model.specs.declared.reports.End.TheVariants.{Drained, Stalled, Open}
use Rattle.kms_model.specs.declared.reports.Report.{Report}
use Rattle.kms_model.specs.declared.runs.Latch.{Latch}
use Rattle.kms_model.specs.declared.scripts.Script.{Script}
use Rattle.kms_model.specs.declared.worlds.Thing.{Thing}
use Rattle.kms_model.specs.Headline.{frame_or_off}
use Rattle.kms_model.specs.Device.Objects.{indices_of}
use Rattle.kms_model.specs.Device.Serial.{Entry}
use Rattle.kms_model.specs.Frames.FrameBytes.{frame_bytes}
use Rattle.kms_model.specs.Machine.Framebuffers.{freed}
use Rattle.kms_model.specs.Machine.Histories.{at, client_numbers, is_dead, is_drained, journal, latched, read_by, stalled_on}
use Rattle.kms_model.specs.Machine.State.{Machine}
use Rattle.kms_model.specs.Report.History.{answers_to, stalled_name}
use Rattle.kms_model.specs.Script.Spelling.{name_word}

-- the SHA-256 of a picture's frame; none where the CRTC is off
abbrev pub digest_shown : Picture → List ℕ → Option (List ℕ)
digest_shown p frame = option_map sha256 (frame_or_off p frame)

abbrev pub seen_entry : Entry → ℕ × ℕ
seen_entry e = (e.client, e.command)

abbrev pub seen_answer : Answered → ℕ × ℕ × ℕ × Reply
seen_answer a = (a.client, a.command, a.place, a.reply)

abbrev pub seen_latch : Machine → Latch → ℕ × ℕ × ℕ × Option (List ℕ)
seen_latch m l = (l.crtc, l.commit, l.count, digest_shown l.picture (frame_bytes m.device.world.things l.picture))

-- the events that a client read
abbrev pub seen_events : Machine → ℕ → List (ℕ × Event)
seen_events m client = map (λ e. (client, e)) (read_by m client)

abbrev pub seen_thing : List (List ℕ) → Thing → List ℕ × ℕ
seen_thing names thing = (name_word names thing.label, thing.id)

-- how a history ended: drained, dead and waiting for a fence, or open after so many steps
abbrev pub seen_end : Script → Machine → ℕ → End
seen_end s m count =
    if is_drained s m then Drained
    else (if is_dead s m then Stalled (stalled_name s.names (stalled_on s m)) else Open count)

-- the report of a history, with the machine after it
unfoldable pub report_seen : Script → List Step → Machine → Report
report_seen s h m = record {
  journal = map seen_entry (journal m);
  replies = flat_map (λ client. map seen_answer (answers_to m client)) (client_numbers s);
  latches = flat_map (λ crtc. map (seen_latch m) (latched m crtc)) (indices_of s.topology Crtc);
  events = flat_map (seen_events m) (client_numbers s);
  freed = map (seen_thing s.names) (freed s h);
  end = seen_end s m (length h);
  steps = [];
}

abbrev pub seen_report : Script → List Step → Report
seen_report s h = report_seen s h (at s h)
