-- What is promised of a device that is turned off and brought back behind the history that one thread makes of a script. From:
-- `drm_modeset_helper.c`, drm_mode_config_helper_suspend, drm_mode_config_helper_resume.
use Rattle.std.specs.Prelude.{◌≡◌, ◌≢◌, ℕ, ◌+◌, ◌<◌, true, false, List, [], ◌∷◌, ◌++◌, length}
use Rattle.kms_model.specs.declared.objects.Kind.TheVariants.{Crtc}
use Rattle.kms_model.specs.declared.objects.Topology.{Topology}
use Rattle.kms_model.specs.declared.pictures.Picture.TheVariants.{Off}
use Rattle.kms_model.specs.declared.properties.TheConstants.{MODE_ID}
use Rattle.kms_model.specs.declared.replies.Answered.{Answered}
use Rattle.kms_model.specs.declared.replies.Reply.TheVariants.{Commit}
use Rattle.kms_model.specs.declared.replies.Step.{Step}
use Rattle.kms_model.specs.declared.scripts.Script.{Script}
use Rattle.kms_model.specs.declared.worlds.World.{World}
use Rattle.kms_model.specs.Device.Objects.{object_id}
use Rattle.kms_model.specs.Device.States.{mode_at}
use Rattle.kms_model.specs.Device.World.{value}
use Rattle.kms_model.specs.Frames.Pictures.{picture}
use Rattle.kms_model.specs.Headline.{CommitPicture, entry_answered, history_journal, latched_pictures}
use Rattle.kms_model.specs.Machine.Histories.{at, is_drained, is_history, replies}
use Rattle.kms_model.specs.Order.Suspending.{has_mode_at}
use Rattle.kms_model.specs.Script.Longer.{HasRoomForTwo, IsSlept, commands_of_last, extended_after, last_client, world_after}
use Rattle.kms_model.specs.Script.WellFormed.{IsWellFormed}

-- the answers to the two requests behind a history of a script: each is the next commit
abbrev pub off_answer : Script → List Step → Answered
off_answer s h = record {
  client = last_client s;
  command = length (commands_of_last s.clients) + 1;
  place = length (history_journal s h);
  reply = Commit (length (at s h).device.commits);
}

abbrev pub on_answer : Script → List Step → Answered
on_answer s h = record {
  client = last_client s;
  command = length (commands_of_last s.clients) + 2;
  place = length (history_journal s h) + 1;
  reply = Commit (length (at s h).device.commits + 1);
}

-- what a CRTC, by its index, latches for both, of which the first commit has a number: nothing, and then what it shows in a world
abbrev pub off_and_back : Topology → World → ℕ → ℕ → List CommitPicture
off_and_back t w k crtc =
    record { commit = k; picture = Off }
    ∷ record { commit = k + 1; picture = picture t w.things w.values (object_id Crtc crtc) }
    ∷ []

-- A device has its values again, with the same things; but MODE_ID of what has a mode may name another blob that holds the same
-- mode. Without a mode it is as before.
pub record IsBack (t : Topology) (before after : World) : Type 0 where
  pub things : after.things ≡ before.things
  pub values : (object prop : ℕ) → prop ≢ MODE_ID → value after.values object prop ≡ value before.values object prop
  pub modeless : (object : ℕ) → has_mode_at before object ≡ false → value after.values object MODE_ID ≡ value before.values object MODE_ID
  pub modes : (crtc : ℕ) → crtc < t.crtcs
      → mode_at after.things after.values (object_id Crtc crtc) ≡ mode_at before.things before.values (object_id Crtc crtc)

-- A history of a longer script goes on behind a history of a script.
pub record SleepsAndWakes (s longer : Script) (h slept : List Step) : Type 0 where
  -- The longer one is a script too, and what goes on is a history of it: what holds of every history holds of this one.
  pub well_formed : IsWellFormed longer
  pub history : is_history longer slept ≡ true
  pub drained : is_drained longer (at longer slept) ≡ true
  -- Both requests are accepted, nothing else is done or answered, and no event is delivered or read.
  pub journal : history_journal longer slept
      ≡ history_journal s h ++ entry_answered (off_answer s h) ∷ entry_answered (on_answer s h) ∷ []
  pub answers : replies (at longer slept) ≡ replies (at s h) ++ off_answer s h ∷ on_answer s h ∷ []
  pub events : (at longer slept).events ≡ (at s h).events
  -- Each CRTC with a mode goes off and shows again what it showed, which is nothing where it was not active. The others latch
  -- nothing.
  pub pictures : (crtc : ℕ) → crtc < s.topology.crtcs → has_mode_at (world_after s h) (object_id Crtc crtc) ≡ true
      → latched_pictures longer slept crtc
      ≡ latched_pictures s h crtc ++ off_and_back s.topology (world_after s h) (length (at s h).device.commits) crtc
  pub others : (crtc : ℕ) → crtc < s.topology.crtcs → has_mode_at (world_after s h) (object_id Crtc crtc) ≡ false
      → latched_pictures longer slept crtc ≡ latched_pictures s h crtc
  pub back : IsBack s.topology (world_after s h) (world_after longer slept)

-- It does so for every script that has room for two commands more, where one thread drains it and nothing that it shows is closed.
abbrev pub SleepAndWake : Type 0
SleepAndWake =
    (s : Script) (h slept : List Step) → IsWellFormed s → HasRoomForTwo s → IsSlept s h slept
    → SleepsAndWakes s (extended_after s h) h slept
