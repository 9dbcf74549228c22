-- Histories: lists of steps of which each is legal after those before it, and what they tell. From: as for the steps.
use Rattle.std.specs.Prelude.{ℕ, ◌+◌, ◌==◌, ◌&&◌, ◌||◌, not, Bool, true, false, List, [], ◌∷◌, ◌++◌, length, map, filter, find, reverse}
use Rattle.std.specs.Prelude.{is_some, is_none, Option, Some, None, if◌then◌else◌}
use Rattle.std.specs.List.{list_any, list_all, flat_map, range_with_len}
use Rattle.kms_model.specs.declared.objects.Kind.{Kind}
use Rattle.kms_model.specs.declared.objects.Kind.TheVariants.{Crtc, Plane, Conn}
use Rattle.kms_model.specs.declared.objects.Topology.{Topology}
use Rattle.kms_model.specs.declared.pictures.Picture.{Picture}
use Rattle.kms_model.specs.declared.pictures.Picture.TheVariants.{Off}
use Rattle.kms_model.specs.declared.replies.Answered.{Answered}
use Rattle.kms_model.specs.declared.replies.Event.{Event}
use Rattle.kms_model.specs.declared.replies.Step.{Step}
use Rattle.kms_model.specs.declared.replies.Step.TheVariants.{Begin, Lock, BackOff, Relock, Refuse, Test, Swap, Make, Signal, Claim, Write}
use Rattle.kms_model.specs.declared.replies.Step.TheVariants.{Flush, HwDone, Vblank, Cleanup, Read, Return, Stall}
use Rattle.kms_model.specs.declared.runs.Latch.{Latch}
use Rattle.kms_model.specs.declared.scripts.Script.{Script}
use Rattle.kms_model.specs.declared.worlds.Thing.{Thing}
use Rattle.kms_model.specs.Device.Execution.{is_made_fence}
use Rattle.kms_model.specs.Device.Objects.{object_id, count_of}
use Rattle.kms_model.specs.Device.Serial.{Entry}
use Rattle.kms_model.specs.Device.World.{thing_with_id}
use Rattle.kms_model.specs.Firsts.{first_some}
use Rattle.kms_model.specs.Machine.Commits.{has_number, is_claimed, is_cleaned, waited_fences}
use Rattle.kms_model.specs.Machine.Effects.{next}
use Rattle.kms_model.specs.Machine.State.{Machine, first_machine, command_at, doing_at, go_at}
use Rattle.kms_model.specs.Machine.Steps.{may, is_idle}

-- Ends

-- a client is idle and has no command left
abbrev pub is_at_end : Script → Machine → ℕ → Bool
is_at_end s m client = is_idle (doing_at m client) && is_none (command_at s m client)

-- the clients of a script, counted from 1
abbrev pub client_numbers : Script → List ℕ
client_numbers s = range_with_len 1 (length s.clients)

-- the numbers of the commits so far
abbrev pub commit_numbers : Machine → List ℕ
commit_numbers m = range_with_len 0 (length m.device.commits)

-- every client is at its end, and every commit is cleaned
unfoldable pub is_drained : Script → Machine → Bool
is_drained s m = list_all (is_at_end s m) (client_numbers s) && list_all (is_cleaned m.device) (commit_numbers m)

-- The steps that may be legal, but for `stall` and vblanks without GO

-- a step of a kind of object for each object of the kind
abbrev pub for_each : Topology → Kind → (Kind → ℕ → Step) → List Step
for_each t kind step = map (step kind) (range_with_len 0 (count_of t kind))

abbrev pub steps_of_client : Topology → ℕ → List Step
steps_of_client t client =
    Begin client ∷ BackOff client ∷ Relock client ∷ Refuse client ∷ Test client ∷ Swap client ∷ Make client ∷ Signal client ∷ Read client
    ∷ Return client
    ∷ for_each t Crtc (λ kind index. Lock client kind index)
    ++ (for_each t Plane (λ kind index. Lock client kind index) ++ for_each t Conn (λ kind index. Lock client kind index))

abbrev pub steps_of_commit : Topology → ℕ → List Step
steps_of_commit t k =
    Claim k ∷ (for_each t Crtc (λ kind index. Write k kind index) ++ (for_each t Plane (λ kind index. Write k kind index)
    ++ (for_each t Crtc (λ kind index. Flush k kind index) ++ HwDone k ∷ Cleanup k ∷ [])))

-- the vblanks of the CRTCs that have GO
abbrev pub steps_with_go : Topology → Machine → List Step
steps_with_go t m = map (λ index. Vblank Crtc index)
    (filter (λ index. is_some (go_at m.device (object_id Crtc index))) (range_with_len 0 (count_of t Crtc)))

abbrev pub steps_that_move : Script → Machine → List Step
steps_that_move s m =
    flat_map (steps_of_client s.topology) (client_numbers s)
    ++ (flat_map (steps_of_commit s.topology) (commit_numbers m) ++ steps_with_go s.topology m)

-- a step other than `stall` and a vblank without GO is legal
unfoldable pub is_enabled : Script → Machine → Bool
is_enabled s m = not m.stalled && list_any (may s m) (steps_that_move s m)

-- A history is dead where it is not drained and no such step is legal; also after a `stall`.
unfoldable pub is_dead : Script → Machine → Bool
is_dead s m = m.stalled || (not (is_drained s m) && not (is_enabled s m))

-- A step is legal: nothing is after a `stall`, which itself is where the history is dead.
unfoldable pub legal : Script → Machine → Step → Bool
legal s m Stall = not m.stalled && is_dead s m
legal s m step = not m.stalled && may s m step

-- Histories

-- the machine after steps from a machine
unfoldable pub run_steps : Script → Machine → List Step → Machine
run_steps s m [] = m
run_steps s m (step ∷ steps) = run_steps s (next s m step) steps

-- each step is legal after those before it
unfoldable pub are_legal : Script → Machine → List Step → Bool
are_legal s m [] = true
are_legal s m (step ∷ steps) = legal s m step && are_legal s (next s m step) steps

-- the machine after a history
abbrev pub at : Script → List Step → Machine
at s h = run_steps s (first_machine s.topology) h

abbrev pub is_history : Script → List Step → Bool
is_history s h = are_legal s (first_machine s.topology) h

-- the place of the first step, counted from 1, that is not legal; none in a history
unfoldable pub first_illegal : Script → Machine → ℕ → List Step → Option ℕ
first_illegal s m place [] = None
first_illegal s m place (step ∷ steps) = if legal s m step then first_illegal s (next s m step) (place + 1) steps else Some place

abbrev pub illegal_at : Script → List Step → Option ℕ
illegal_at s h = first_illegal s (first_machine s.topology) 1 h

-- What a machine tells, in order of time

-- the accepted commands: those that were committed, and those that made or closed a thing
abbrev pub journal : Machine → List Entry
journal m = reverse m.records.journal

abbrev pub replies : Machine → List Answered
replies m = reverse m.records.replies

-- the latches of a CRTC, by its index
abbrev pub latched : Machine → ℕ → List Latch
latched m crtc = filter (λ l. l.crtc == crtc) (reverse m.records.latches)

-- the events that a client read
abbrev pub read_by : Machine → ℕ → List Event
read_by m client = map (λ e. e.1) (filter (λ e. e.0 == client) (reverse m.events.events_read))

-- The fence that a dead history waits for

abbrev pub is_made_by_command : Option Thing → Bool
is_made_by_command None = false
is_made_by_command (Some thing) = is_made_fence thing.content

abbrev pub label_of_thing : Option Thing → Option ℕ
label_of_thing None = None
label_of_thing (Some thing) = Some thing.label

-- a fence, by its id, that a `fence` command made and that is not signalled
abbrev pub is_awaited : Machine → ℕ → Bool
is_awaited m fence = not (has_number m.device.signalled fence) && is_made_by_command (thing_with_id m.device.world.things fence)

-- the first such fence that a commit which is not claimed waits for
abbrev pub awaited_by : Topology → Machine → ℕ → Option ℕ
awaited_by t m k = if is_claimed m.device k then None else find (is_awaited m) (waited_fences t m.device.commits k)

-- the label of the first such fence of the least commit that has one
unfoldable pub awaited_label : Topology → Machine → Option ℕ
awaited_label t m = label_with (first_some (awaited_by t m) (commit_numbers m)) where
  label_with : Option ℕ → Option ℕ
  label_with None = None
  label_with (Some fence) = label_of_thing (thing_with_id m.device.world.things fence)

-- the label of the fence that a dead history waits for
abbrev pub stalled_on : Script → Machine → Option ℕ
stalled_on s m = if is_dead s m then awaited_label s.topology m else None

-- the picture that a CRTC latched last, by its index; Off before the first
unfoldable pub last_latched : List Latch → ℕ → Picture
last_latched [] crtc = Off
last_latched (l ∷ ls) crtc = if l.crtc == crtc then l.picture else last_latched ls crtc
