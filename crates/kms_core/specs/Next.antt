-- What is told of the next step.
use Rattle.std.specs.Prelude.{◌≡◌, ℕ, ◌≤◌, true, false, ◌&&◌, ◌||◌, Bool, List, [], ◌∷◌, Option, Some, None, if◌then◌else◌, is_none, length}
use Rattle.std.specs.Prelude.{not}
use Rattle.std.specs.List.{flat_map, list_any, range_with_len}
use Rattle.std.specs.Option.{option_map}
use Rattle.kms_model.specs.declared.objects.Kind.{Kind}
use Rattle.kms_model.specs.declared.objects.Kind.TheVariants.{Conn, Crtc, Plane}
use Rattle.kms_model.specs.declared.objects.Topology.{Topology}
use Rattle.kms_model.specs.declared.replies.Step.{Step}
use Rattle.kms_model.specs.declared.replies.Step.TheVariants as step
use Rattle.kms_model.specs.declared.scripts.Script.{Script}
use Rattle.kms_model.specs.Device.Objects.{count_of, exists, object_id}
use Rattle.kms_model.specs.Machine.Histories.{client_numbers, commit_numbers, is_awaited, legal, steps_of_client, steps_of_commit}
use Rattle.kms_model.specs.Machine.Histories.{steps_with_go}
use Rattle.kms_model.specs.Machine.State.{Machine, has_value}
use Rattle.kms_model.specs.Machine.Steps.{may}
use Rattle.kms_track.specs.declared.tail.Tail.{Tail}
use Rattle.kms_track.specs.Tails.{next_flush_of, next_latch_of, next_write_of}
use Rattle.kms_core.specs.Run.{Run, machine}

-- no client of the script has a number
abbrev pub IsOutside : Script → ℕ → Type 0
IsOutside s client = (1 ≤ client) × (client ≤ length s.clients) → ⊥

-- What the tail of a commit tells of its steps

-- the object is written next, or flushed next
abbrev pub writes_next : Topology → Tail → Kind → ℕ → Bool
writes_next t x kind index = x.progress.claimed && (exists t kind index && has_value (object_id kind index) (next_write_of x))

abbrev pub flushes_next : Topology → Tail → Kind → ℕ → Bool
flushes_next t x kind index =
    is_none (next_write_of x) && (exists t kind index && has_value (object_id kind index) (option_map (object_id Crtc) (next_flush_of x)))

-- the end of writing is told next
abbrev pub ends_next : Tail → Bool
ends_next x = x.progress.claimed && (is_none (next_write_of x) && (is_none (next_flush_of x) && not x.progress.done))

-- it is cleaned up next
abbrev pub is_over_tail : Tail → Bool
is_over_tail x = x.progress.done && is_none (next_latch_of x)

-- What moves while a history goes on

-- a client may ask for an object of a kind
abbrev pub locks_some : Script → Machine → ℕ → Kind → Bool
locks_some s m client kind = list_any (λ index. may s m (step.Lock client kind index)) (range_with_len 0 (count_of s.topology kind))

-- a commit may write an object of a kind
abbrev pub writes_some : Script → Machine → ℕ → Kind → Bool
writes_some s m k kind = list_any (λ index. may s m (step.Write k kind index)) (range_with_len 0 (count_of s.topology kind))

-- it may flush a CRTC
abbrev pub flushes_some : Script → Machine → ℕ → Bool
flushes_some s m k = list_any (λ index. may s m (step.Flush k Crtc index)) (range_with_len 0 (count_of s.topology Crtc))

-- the steps of a client but for its locks: in its context, at its request, and without a context
abbrev pub context_steps : ℕ → List Step
context_steps client = step.Begin client ∷ step.BackOff client ∷ step.Relock client ∷ []

abbrev pub decision_steps : ℕ → List Step
decision_steps client = step.Refuse client ∷ step.Test client ∷ step.Swap client ∷ []

abbrev pub other_steps : ℕ → List Step
other_steps client = step.Make client ∷ step.Signal client ∷ step.Read client ∷ step.Return client ∷ []

-- a client may ask for an object
abbrev pub locks_one : Script → Machine → ℕ → Bool
locks_one s m client = locks_some s m client Crtc || (locks_some s m client Plane || locks_some s m client Conn)

-- a client has a step
abbrev pub client_moves : Script → Machine → ℕ → Bool
client_moves s m client =
    list_any (may s m) (context_steps client)
    || (list_any (may s m) (decision_steps client) || (list_any (may s m) (other_steps client) || locks_one s m client))

-- the tail of a commit has a step
abbrev pub tail_moves : Script → Machine → ℕ → Bool
tail_moves s m k =
    may s m (step.Claim k)
    || (writes_some s m k Crtc || (writes_some s m k Plane
    || (flushes_some s m k || (may s m (step.HwDone k) || may s m (step.Cleanup k)))))

-- a client, the tail of a commit or a CRTC that goes has a step
abbrev pub moves : Script → Machine → Bool
moves s m =
    list_any (may s m) (flat_map (steps_of_client s.topology) (client_numbers s))
    || (list_any (may s m) (flat_map (steps_of_commit s.topology) (commit_numbers m)) || list_any (may s m) (steps_with_go s.topology m))

-- What a dead history waits for

-- a fence, if any, that a `fence` command made and that is not signalled
abbrev pub if_awaited : Machine → Option ℕ → Option ℕ
if_awaited m None = None
if_awaited m (Some fence) = if is_awaited m fence then Some fence else None

-- What is done next

-- a step is legal after the history
abbrev pub IsLegal : Run → Step → Type 0
IsLegal r step = legal r.script (machine r) step ≡ true

-- a worker does it, for the tail of a commit
abbrev pub is_of_worker : Step → Bool
is_of_worker (step.Claim k) = true
is_of_worker (step.Write k kind index) = true
is_of_worker (step.Flush k kind index) = true
is_of_worker (step.HwDone k) = true
is_of_worker (step.Cleanup k) = true
is_of_worker _ = false
