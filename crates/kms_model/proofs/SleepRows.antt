-- Worked histories of devices that are turned off and brought back, computed.
use Rattle.std.proofs.Common.{◌≡◌, ℕ, Bool, true, false, List, [], ◌∷◌, ◌++◌, map, length, refl, codes, Option, Some}
use Rattle.std.specs.List.{flat_map, list_all, range_with_len}
use Rattle.std.specs.Ordering.{int_eq}
use Rattle.std.specs.Str.{bytes_eq}
use Rattle.kms_model.specs.declared.objects.Mode.{Mode}
use Rattle.kms_model.specs.declared.replies.Answered.{Answered}
use Rattle.kms_model.specs.declared.replies.Event.{Event}
use Rattle.kms_model.specs.declared.replies.Step.{Step}
use Rattle.kms_model.specs.declared.scripts.Command.TheVariants as command
use Rattle.kms_model.specs.declared.scripts.Script.{Script}
use Rattle.kms_model.specs.declared.worlds.World.{World}
use Rattle.kms_model.specs.Device.States.{mode_at}
use Rattle.kms_model.specs.Device.World.{value}
use Rattle.kms_model.specs.Frames.FrameBytes.{frame_bytes}
use Rattle.kms_model.specs.Headline.{CommitPicture, entry_answered, history_journal, latched_pictures}
use Rattle.kms_model.specs.Machine.Histories.{at, is_history, replies as recorded}
use Rattle.kms_model.specs.Machine.State.{unread_at}
use Rattle.kms_model.specs.Order.Rounds.{finished_within}
use Rattle.kms_model.specs.Order.SleepAndWake.{off_and_back, off_answer, on_answer}
use Rattle.kms_model.specs.Report.History.{answer_line, entry_line, text}
use Rattle.kms_model.specs.Request.Apply.{after}
use Rattle.kms_model.specs.Script.Longer.{at_last, extended_after, world_after}
use Rattle.kms_model.proofs.MachineInputs.{plain, report_of_script}
use Rattle.kms_model.proofs.OnSuspending.{on_suspending}
use Rattle.kms_model.proofs.Rows.{device, named_tiny, script}
use Rattle.kms_model.proofs.SuspendRows.{dark, first, second_blob}

-- the report of a script that goes on behind a history, in at most 64 rounds
abbrev report_behind : Script → List Step → List ℕ
report_behind longer h = text longer (finished_within longer 64 h) plain

abbrev report_after : Script → List Step → List ℕ
report_after s h = report_behind (extended_after s h) h

abbrev slept_report : Script → List ℕ
slept_report s = report_after s (finished_within s 64 [])

pub first_script_sleeps_and_wakes : slept_report first
    ≡ codes "J 1 1\nJ 1 2\nJ 1 3\nJ 1 4\nJ 1 5\nJ 1 6\nR 1 1 0 made 1000\nR 1 2 1 made 1001\nR 1 3 2 made 1002\nR 1 4 3 commit 0\nR 1 5 4 commit 1\nR 1 6 5 commit 2\nL 0 0 1 ba7816bf8f01cfea414140de5dae2223b00361a396177a9cb410ff61f20015ad\nL 0 1 1 off\nL 0 2 2 ba7816bf8f01cfea414140de5dae2223b00361a396177a9cb410ff61f20015ad\nD drained\n"
unfolding on_suspending
first_script_sleeps_and_wakes = refl

-- no client: one is added, whose requests set nothing
pub empty_device_sleeps_and_wakes : slept_report (record { version = 1; topology = device; names = []; clients = [] })
    ≡ codes "J 1 1\nJ 1 2\nR 1 1 0 commit 0\nR 1 2 1 commit 1\nD drained\n"
unfolding on_suspending
empty_device_sleeps_and_wakes = refl

-- it is named, and latches twice
pub dark_crtc_sleeps_and_wakes : slept_report dark
    ≡ codes "J 1 1\nJ 1 2\nJ 1 3\nJ 1 4\nR 1 1 0 made 1000\nR 1 2 1 commit 0\nR 1 3 2 commit 1\nR 1 4 3 commit 2\nL 0 0 0 off\nL 0 1 0 off\nL 0 2 0 off\nD drained\n"
unfolding on_suspending
dark_crtc_sleeps_and_wakes = refl

-- a second client, which is at its end before the first one lights the CRTC
abbrev with_short_client : Script
with_short_client = record {
  version = 1;
  topology = device;
  names = codes "b" ∷ codes "f" ∷ codes "m" ∷ codes "x" ∷ [];
  clients = first.clients ++ (command.Fence 3 ∷ []) ∷ [];
}

-- it gets both requests, behind all that was done before
pub short_client_sleeps_and_wakes : slept_report with_short_client
    ≡ codes "J 1 1\nJ 2 1\nJ 1 2\nJ 1 3\nJ 1 4\nJ 2 2\nJ 2 3\nR 1 1 0 made 1000\nR 1 2 2 made 1002\nR 1 3 3 made 1003\nR 1 4 4 commit 0\nR 2 1 1 made 1001\nR 2 2 5 commit 1\nR 2 3 6 commit 2\nL 0 0 1 ba7816bf8f01cfea414140de5dae2223b00361a396177a9cb410ff61f20015ad\nL 0 1 1 off\nL 0 2 2 ba7816bf8f01cfea414140de5dae2223b00361a396177a9cb410ff61f20015ad\nD drained\n"
unfolding on_suspending
short_client_sleeps_and_wakes = refl

-- The longer script from the start on has another history: the second client's requests are done before the CRTC is lit.
pub longer_script_from_the_start_is_another :
    bytes_eq (report_of_script plain (extended_after with_short_client (finished_within with_short_client 64 [])))
    (slept_report with_short_client)
    ≡ false
unfolding on_suspending
longer_script_from_the_start_is_another = refl

-- What is promised of both, with all lists as numbers

abbrev all_answers : Script → List Step → List Answered → List ℕ
all_answers s h more = flat_map answer_line (recorded (at s h) ++ more)

abbrev all_entries : Script → List Step → List Answered → List ℕ
all_entries s h more = flat_map entry_line (history_journal s h ++ map entry_answered more)

abbrev shown_and_back : Script → List Step → List CommitPicture
shown_and_back s h = off_and_back s.topology (world_after s h) (length (at s h).device.commits) 0

abbrev all_pictures : Script → List Step → List CommitPicture → List ℕ
all_pictures s h more = flat_map (λ p. p.commit ∷ frame_bytes (world_after s h).things p.picture) (latched_pictures s h 0 ++ more)

abbrev has_value_of : World → World → ℕ → ℕ → Bool
has_value_of before after object prop = int_eq (value before.values object prop) (value after.values object prop)

-- the properties of the three objects of the device
abbrev has_values_of : World → World → Bool
has_values_of before after = list_all (λ object. list_all (has_value_of before after object) (range_with_len 1 19)) (100 ∷ 200 ∷ 300 ∷ [])

abbrev both_answers : Script → List Step → List Answered
both_answers s h = off_answer s h ∷ on_answer s h ∷ []

-- whether what goes on behind a history is one of the longer script, its answers, its journal and its pictures are those promised, and
-- the values those before
abbrev keeps_promises : Script → List Step → Script → List Step → List Bool
keeps_promises s h longer slept =
    is_history longer slept
    ∷ bytes_eq (all_answers longer slept []) (all_answers s h (both_answers s h))
    ∷ bytes_eq (all_entries longer slept []) (all_entries s h (both_answers s h))
    ∷ bytes_eq (all_pictures longer slept []) (all_pictures s h (shown_and_back s h))
    ∷ has_values_of (world_after s h) (world_after longer slept)
    ∷ []

abbrev keeps_behind : Script → List Step → Script → List Bool
keeps_behind s h longer = keeps_promises s h longer (finished_within longer 64 h)

abbrev keeps_after : Script → List Step → List Bool
keeps_after s h = keeps_behind s h (extended_after s h)

pub short_client_keeps_promises : keeps_after with_short_client (finished_within with_short_client 64 []) ≡ true ∷ true ∷ true ∷ true ∷ true
    ∷ []
unfolding on_suspending
short_client_keeps_promises = refl

-- with a second blob MODE_ID has another value
pub second_blob_keeps_all_but_one : keeps_after second_blob (finished_within second_blob 64 []) ≡ true ∷ true ∷ true ∷ true ∷ false ∷ []
unfolding on_suspending
second_blob_keeps_all_but_one = refl

-- the mode of the CRTC before and after
abbrev modes_behind : Script → List Step → List (Option Mode)
modes_behind s h =
    map (λ w. mode_at w.things w.values 100)
    (world_after s h ∷ world_after (extended_after s h) (finished_within (extended_after s h) 64 h) ∷ [])

-- which holds the same mode
pub second_blob_keeps_the_mode : modes_behind second_blob (finished_within second_blob 64 []) ≡ Some named_tiny ∷ Some named_tiny ∷ []
unfolding on_suspending
second_blob_keeps_the_mode = refl

-- an event that was not read stays so
abbrev unread_behind : Script → List Step → List Event
unread_behind longer h = unread_at (at longer (finished_within longer 64 h)).events 1

abbrev unread_after : Script → List Step → List Event
unread_after s h = unread_behind (extended_after s h) h

pub unread_event_stays_unread : unread_after (script 0x401 0) (finished_within (script 0x401 0) 64 [])
    ≡ record { user_data = 0; sequence = 1; crtc = 100 } ∷ []
unfolding on_suspending
unread_event_stays_unread = refl

-- the last client gets the commands, also one that has none
pub last_client_gets_the_commands : at_last (command.Wait ∷ []) ((command.Fence 0 ∷ []) ∷ (command.Fence 1 ∷ []) ∷ [] ∷ [])
    ≡ (command.Fence 0 ∷ []) ∷ (command.Fence 1 ∷ []) ∷ (command.Wait ∷ []) ∷ []
last_client_gets_the_commands = refl
