-- What a pass knows once it was told where its client stands, and what the labels of its client's request name.
use Rattle.std.proofs.Common.{◌≡◌, ◌∙◌, ℕ, List, [], true, Some, None, refl, sym, ap, subst}
use Rattle.std.specs.Prelude.{◌&&◌, ◌||◌, nat_le, not}
use Rattle.std.proofs.lemmas.Bool.{and_from, and_parts, false≢true, leb-true}
use Rattle.kms_model.specs.declared.objects.Kind.{Kind}
use Rattle.kms_model.specs.declared.objects.Kind.TheVariants.{Conn, Crtc, Enc, Plane}
use Rattle.kms_model.specs.declared.objects.ObjId.{ObjId}
use Rattle.kms_model.specs.declared.objects.Ticket.{Ticket}
use Rattle.kms_model.specs.declared.objects.Topology.{Topology}
use Rattle.kms_model.specs.declared.runs.Doing.TheVariants as doing
use Rattle.kms_model.specs.declared.runs.Place.{Place}
use Rattle.kms_model.specs.declared.scripts.Command.{Command}
use Rattle.kms_model.specs.declared.scripts.Command.TheVariants as command
use Rattle.kms_model.specs.declared.scripts.Request.{Request}
use Rattle.kms_model.specs.declared.scripts.Script.{Script}
use Rattle.kms_model.specs.declared.worlds.Look.{Look}
use Rattle.kms_model.specs.declared.worlds.World.{World}
use Rattle.kms_model.specs.Device.Objects.{first_id, index_of, kind_of}
use Rattle.kms_model.specs.Device.Serial.{command_of}
use Rattle.kms_model.specs.Machine.Histories.{legal}
use Rattle.kms_model.specs.Machine.State.{command_at, doing_at, place_at, request_at, request_in}
use Rattle.kms_model.specs.Machine.Steps.{is_idle, is_lockable, is_making, may, returning_of}
use Rattle.kms_model.specs.Request.Apply.{after}
use Rattle.kms_model.specs.Request.Lookups.{look_up, lookups}
use Rattle.kms_model.specs.Request.Named.{names}
use Rattle.kms_model.specs.Request.SameLooks.{TellsLabels}
use Rattle.kms_model.specs.Request.Sets.{look_in}
use Rattle.kms_model.specs.Request.Touched.{is_affected, sets, touches, touches_of_kind}
use Rattle.kms_model.proofs.SameLooks.{resolved-same, world_tells}
use Rattle.kms_core.specs.Calls.{MayMake}
use Rattle.kms_core.specs.Decisions.{world}
use Rattle.kms_core.specs.Run.{Run, machine}
use Rattle.kms_device.specs.Asking.{MayAskFor, TakesLocks}
use Rattle.kms_device.specs.Attempts.{no_findings}
use Rattle.kms_device.specs.Trying.{IsReady}
use Rattle.kms_device.specs.Turns.{DevicePass, IsOpen, DeviceTurn, run_seen}
use Rattle.kms_device.proofs.Runs.{open-at}
use Rattle.kms_device.proofs.Serving.{serves_new}
use Rattle.kms_device.proofs.Stepping.{found-is, open-after, rank-after, request-same, start_refl}
use Rattle.kms_device.proofs.TurnsTried.{command-after, doing-after}
use Rattle.kms_thread_tests.specs.Resolving.{Resolves}

pub making_of : (c : Command) → ((r : Request) → c ≡ command.Atomic r → ⊥) → ((label : ℕ) → c ≡ command.Signal label → ⊥)
    → (c ≡ command.Wait → ⊥) → is_making c ≡ true
making_of (command.Atomic r) asks signals waits = absurd (asks r refl)
making_of (command.Signal label) asks signals waits = absurd (signals label refl)
making_of command.Wait asks signals waits = absurd (waits refl)
making_of c asks signals waits = refl

-- The client of the pass was told where it stands.
module _ (script : Script) (client : ℕ) (place : Place) (p q : DevicePass) (whose : client ≡ p.rank)
    (t : DeviceTurn script (λ found. place ≡ place_at (machine found) client) [] p q) where
  stands : place_at (machine (run_seen script q)) client ≡ place
  stands = ap (λ (r : Run). place_at (machine r) client) (found-is script (λ found. place ≡ place_at (machine found) client) p q t) ∙ sym
      t.said

  is_open : IsOpen (run_seen script q)
  is_open = open-after script (λ found. place ≡ place_at (machine found) client) [] p q t

  pub rank_told : client ≡ q.rank
  rank_told = whose ∙ sym (rank-after script (λ found. place ≡ place_at (machine found) client) [] p q t)

  pub doing_told : doing_at (machine (run_seen script q)) q.rank ≡ place.doing
  doing_told = subst (λ n. doing_at (machine (run_seen script q)) n ≡ place.doing) rank_told (ap (λ (x : Place). x.doing) stands)

  -- the command at which it stands
  command_told : (its : Script) → its ≡ script → command_at script (machine (run_seen script q)) client
      ≡ command_of its (record { client = client; command = place.command })
  command_told its same =
      ap (λ (x : Place). command_of script (record { client = client; command = x.command })) stands
      ∙ ap (λ (s : Script). command_of s (record { client = client; command = place.command })) (sym same)

  module _ (its : Script) (same : its ≡ script) (request : Request)
      (is : Some request ≡ request_in (command_of its (record { client = client; command = place.command }))) where
    pub request_told : request_at script (machine (run_seen script q)) q.rank ≡ Some request
    request_told = subst (λ n. request_at script (machine (run_seen script q)) n ≡ Some request) rank_told
        (ap request_in (command_told its same) ∙ sym is)

    pub ready_told : returning_of place.doing ≡ None → IsReady script q no_findings
    ready_told awake = record {
      is_open = is_open;
      may = record { request = request; at = request_told; awake = ap returning_of doing_told ∙ awake };
      serves = serves_new (run_seen script q) q.rank;
    }

  pub may_make_told : (its : Script) → its ≡ script → (c : Command) → Some c
      ≡ command_of its (record { client = client; command = place.command }) → place.doing ≡ doing.Idle → is_making c ≡ true
      → MayMake (run_seen script q) client
  unfolding legal may
  may_make_told its same c is idle h =
      let stood : command_at script (machine (run_seen script q)) client ≡ Some c = command_told its same ∙ sym is in
      and_from (not (machine (run_seen script q)).stalled) _ (ap not (open-at script q.seen is_open.history is_open.goes_on))
      (and_from (is_idle (doing_at (machine (run_seen script q)) client)) _ (ap (λ (x : Place). is_idle x.doing) stands ∙ ap is_idle idle)
      (rw stood h))

-- an object that a request sets is touched by it
touched_of : (k : Kind) (t : Topology) (w : World) (r : Request) (index object : ℕ) → is_lockable t k index ≡ true → sets r.assigns object
    ≡ true → touches_of_kind k t w r object ≡ true
touched_of Crtc t w r index object there set = ap (λ b. b || names w.values (after w r) r.assigns object) set
touched_of Plane t w r index object there set = ap (λ b. b || is_affected t w.things w.values (after w r) object) set
touched_of Conn t w r index object there set = ap (λ b. b || is_affected t w.things w.values (after w r) object) set
touched_of Enc t w r index object there set = absurd (false≢true there)

touched_set : (t : Topology) (w : World) (r : Request) (object : ℕ) → is_lockable t (kind_of object) (index_of object) ≡ true
    → sets r.assigns object ≡ true → touches t w r object ≡ true
unfolding touches
touched_set t w r object there set = touched_of (kind_of object) t w r (index_of object) object there set

-- The client was told what the labels of its request name, and then asks for an object that the request sets.
module _ (script : Script) (p q : DevicePass) (request : Request) (used : List (ℕ × Look)) (ready : IsReady script p no_findings)
    (t : DeviceTurn script (λ found. used ≡ lookups (world found) request) [] p q) where
  told : used ≡ lookups (world (run_seen script q)) request
  told = t.said ∙ ap (λ (r : Run). lookups (world r) request) (sym (found-is script (λ found. used ≡ lookups (world found) request) p q t))

  rank_same : p.rank ≡ q.rank
  rank_same = sym (rank-after script (λ found. used ≡ lookups (world found) request) [] p q t)

  pub may_ask_told : (ticket : Ticket) (id : ObjId) → doing_at (machine (run_seen script p)) p.rank ≡ doing.Taking ticket
      → request_at script (machine (run_seen script p)) p.rank ≡ Some request
      → (nat_le (first_id (kind_of id.0)) id.0 && is_lockable script.topology (kind_of id.0) (index_of id.0)) ≡ true
      → sets request.assigns id.0 ≡ true
      → Resolves script.topology (look_in used) request → MayAskFor (run_seen script q) q.rank ticket id
  may_ask_told ticket id taking at there set fine =
      let both = and_parts (nat_le (first_id (kind_of id.0)) id.0) (is_lockable script.topology (kind_of id.0) (index_of id.0)) there in
      let takes : TakesLocks (run_seen script q) q.rank ticket id = record {
        request = request;
        taking = subst (λ n. doing_at (machine (run_seen script q)) n ≡ doing.Taking ticket) rank_same
            (doing-after script (λ found. used ≡ lookups (world found) request) p q no_findings ready t ∙ taking);
        at = subst (λ n. request_at script (machine (run_seen script q)) n ≡ Some request) rank_same
            (request-same script (machine (run_seen script p)) (machine (run_seen script q)) p.rank
            (command-after script (λ found. used ≡ lookups (world found) request) p q no_findings ready t) ∙ at);
        is_id = leb-true (first_id (kind_of id.0)) id.0 both.0;
        lockable = both.1;
      } in record {
        takes = takes;
        early = q.seen;
        begins = start_refl q.seen;
        resolved = fine.resolved;
        asks = resolved-same script.topology (look_in used) (look_up (world (run_seen script q))) request fine.resolved
            (subst (λ looks. TellsLabels (look_in looks) (look_up (world (run_seen script q))) request.assigns) (sym told)
            (world_tells (world (run_seen script q)) request)) fine.asks;
        duplicates = no_findings.states;
        taken = (serves_new (run_seen script q) q.rank).states;
        touched = λ w is. touched_set script.topology w request id.0 both.1 set;
      }
