-- The order in which one thread does the steps of all actors: what a client does in its turn, and how the tails of commits
-- settle. This device's own.
use Rattle.std.specs.Prelude.{ℕ, zero, suc, ◌+◌, ◌*◌, ◌&&◌, not, Bool, true, false, List, [], ◌∷◌, length, filter, find, Option, Some, None}
use Rattle.std.specs.Prelude.{if◌then◌else◌}
use Rattle.std.specs.Option.{option_map, option_and_then}
use Rattle.kms_model.specs.declared.objects.Topology.{Topology}
use Rattle.kms_model.specs.declared.replies.Step.{Step}
use Rattle.kms_model.specs.declared.replies.Step.TheVariants.{Begin, Lock, BackOff, Relock, Refuse, Test, Swap, Make, Signal, Read, Return}
use Rattle.kms_model.specs.declared.scripts.Request.{Request}
use Rattle.kms_model.specs.declared.scripts.Script.{Script}
use Rattle.kms_model.specs.declared.worlds.World.{World}
use Rattle.kms_model.specs.Device.Objects.{kind_of, index_of}
use Rattle.kms_model.specs.Firsts.{or_else, first_some}
use Rattle.kms_model.specs.Request.Apply.{after}
use Rattle.kms_model.specs.Request.Named.{names, is_routed}
use Rattle.kms_model.specs.Request.Touched.{sets, is_affected}
use Rattle.kms_model.specs.Machine.Commits.{lockable}
use Rattle.kms_model.specs.Machine.Effects.{next}
use Rattle.kms_model.specs.Machine.Histories.{legal, is_at_end, commit_numbers, steps_of_commit, steps_with_go}
use Rattle.kms_model.specs.Machine.State.{Machine, request_at, holds}
use Rattle.kms_model.specs.Machine.Steps.{may_lock}

-- a history, its newest step first, and the machine after it
pub record Progress : Type 0 where
  pub steps : List Step
  pub machine : Machine

abbrev pub does : Script → Progress → Step → Progress
does s run step = record { steps = step ∷ run.steps; machine = next s run.machine step }

-- Locks, by three groups. From: "Atomic Mode Setting", drm_atomic_get_crtc_state, drm_atomic_add_affected_planes,
-- drm_atomic_add_affected_connectors.

-- the objects that a request sets
abbrev pub in_set_group : Request → ℕ → Bool
in_set_group r object = sets r.assigns object

-- the CRTCs that it names
abbrev pub in_named_group : Topology → World → Request → ℕ → Bool
in_named_group t w r object = not (is_routed (kind_of object)) && names w.values (after w r) r.assigns object

-- the planes and connectors of the CRTCs that need a modeset
abbrev pub in_affected_group : Topology → World → Request → ℕ → Bool
in_affected_group t w r object = is_routed (kind_of object) && is_affected t w.things w.values (after w r) object

-- the objects of a group that a client does not hold, in order of id
abbrev pub missing_of : Topology → Machine → ℕ → (ℕ → Bool) → List ℕ
missing_of t m client in_group = filter (λ object. in_group object && not (holds m client object)) (lockable t)

abbrev pub or_those : List ℕ → List ℕ → List ℕ
or_those [] others = others
or_those (object ∷ objects) others = object ∷ objects

-- what is missing of the first group that a client does not hold whole
unfoldable pub first_missing : Topology → Machine → ℕ → Request → List ℕ
first_missing t m client r =
    or_those (missing_of t m client (in_set_group r))
    (or_those (missing_of t m client (in_named_group t m.device.world r))
    (missing_of t m client (in_affected_group t m.device.world r)))

-- The next lock: the first of these that is legal, or else the first legal one of all.
unfoldable pub next_lock : Script → Machine → ℕ → Request → Option ℕ
next_lock s m client r =
    or_else (find (may_lock s m client) (first_missing s.topology m client r)) (find (may_lock s m client) (lockable s.topology))

abbrev pub lock_step : ℕ → ℕ → Step
lock_step client object = Lock client (kind_of object) (index_of object)

-- The next step of a client: a decision where one is legal, what its command is, or else its next lock.
unfoldable pub client_step : Script → Machine → ℕ → Option Step
client_step s m client =
    or_else
    (find (legal s m) (Refuse client ∷ Test client ∷ Swap client ∷ Begin client ∷ Make client ∷ Signal client ∷ Read client ∷ BackOff client
    ∷ Relock client ∷ []))
    (option_map (lock_step client) (option_and_then (next_lock s m client) (request_at s m client)))

-- a step that answers its client's command
abbrev pub is_answering : Step → Bool
is_answering (Refuse client) = true
is_answering (Test client) = true
is_answering (Swap client) = true
is_answering (Make client) = true
is_answering (Signal client) = true
is_answering (Read client) = true
is_answering _ = false

-- a step is done, where there is one, and a function tells what follows it
abbrev pub does_then : Script → (Step → Progress → Progress) → Progress → Option Step → Progress
does_then s further run None = run
does_then s further run (Some step) = further step (does s run step)

-- a client does its steps until its command is answered or it can do none, at most so many
unfoldable pub client_goes : Script → ℕ → ℕ → Progress → Progress
client_goes s zero client run = run
client_goes s (suc most) client run =
    does_then s (λ step done. if is_answering step then done else client_goes s most client done) run (client_step s run.machine client)

-- A turn has at most one begin, one relock, each lock once, one backoff and one answer.
abbrev pub most_of_turn : Topology → ℕ
most_of_turn t = length (lockable t) + 4

-- The next step of a tail: the first that is legal of the least commit that has one, or else the vblank of the
-- first CRTC that has GO.
unfoldable pub tail_step : Script → Machine → Option Step
tail_step s m =
    or_else (first_some (λ k. find (legal s m) (steps_of_commit s.topology k)) (commit_numbers m))
    (find (legal s m) (steps_with_go s.topology m))

-- the tails settle: steps of tails are done as long as there is one, at most so many
unfoldable pub tails_go : Script → ℕ → Progress → Progress
tails_go s zero run = run
tails_go s (suc most) run = does_then s (λ step done. tails_go s most done) run (tail_step s run.machine)

-- the tail of a commit has at most 31 steps
abbrev pub settles : Script → Progress → Progress
settles s run = tails_go s (31 * length run.machine.device.commits) run

-- a client goes on after its blocking commit, where that is cleaned
abbrev pub returns : Script → ℕ → Progress → Progress
returns s client run = if legal s run.machine (Return client) then does s run (Return client) else run

-- The turn of a client that is not at its end.
unfoldable pub turn : Script → Progress → ℕ → Progress
turn s run client =
    if is_at_end s run.machine client then run
    else returns s client (settles s (client_goes s (most_of_turn s.topology) client run))
