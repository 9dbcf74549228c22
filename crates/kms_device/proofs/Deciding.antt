-- Decisions: from what a pass has seen to what its turn finds.
use Rattle.std.proofs.Common.{◌≡◌, ℕ, ◌≤◌, List, ◌++◌, append_assoc, Bool, true, Option, Some, None, refl, sym, ap, ◌∙◌, subst, arith, inl}
use Rattle.std.proofs.Common.{inr, ⊎_elim}
use Rattle.std.proofs.lemmas.Bool.{and_from, ltb-true}
use Rattle.kms_model.specs.declared.objects.Kind.{Kind}
use Rattle.kms_model.specs.declared.objects.Kind.TheVariants.{Conn, Crtc, Plane}
use Rattle.kms_model.specs.declared.objects.ObjId.{ObjId}
use Rattle.kms_model.specs.declared.objects.Ticket.{Ticket}
use Rattle.kms_model.specs.declared.replies.Refusal.{Refusal}
use Rattle.kms_model.specs.declared.runs.Doing.TheVariants as doing
use Rattle.kms_model.specs.declared.runs.Place.{Place}
use Rattle.kms_model.specs.declared.scripts.Command.TheVariants as command
use Rattle.kms_model.specs.declared.scripts.Request.{Request}
use Rattle.kms_model.specs.declared.scripts.Script.{Script}
use Rattle.kms_model.specs.declared.sets.Resolved.{Resolved}
use Rattle.kms_model.specs.declared.states.Both.{Both}
use Rattle.kms_model.specs.declared.states.Checked.{Checked}
use Rattle.kms_model.specs.declared.states.ConnState.{ConnState}
use Rattle.kms_model.specs.declared.states.Duplicates.{Duplicates}
use Rattle.kms_model.specs.declared.worlds.Look.{Look}
use Rattle.kms_model.specs.declared.worlds.World.{World}
use Rattle.kms_model.specs.Device.Objects.{count_of, exists, index_of, kind_of, object_id}
use Rattle.kms_model.specs.Device.Serial.{command_of}
use Rattle.kms_model.specs.Machine.Commits.{has_number, lockable}
use Rattle.kms_model.specs.Machine.Histories.{at, is_history, run_steps}
use Rattle.kms_model.specs.Machine.State.{Machine, command_at, doing_at, entry_at, first_machine, holder_at, holds, request_at, request_in}
use Rattle.kms_model.specs.Machine.Steps.{is_lockable, is_taking, taking_at}
use Rattle.kms_model.specs.Request.Agreement.{AgreesOld, crtc_state_at}
use Rattle.kms_model.specs.Request.Deciding.{GivesChecked, GivesRefusal, IsOfRequest}
use Rattle.kms_model.specs.Request.Reach.{reaches}
use Rattle.kms_model.specs.Request.Refusals.{early_refusal}
use Rattle.kms_model.specs.Request.Resolves.{IsResolved}
use Rattle.kms_model.specs.Request.Sets.{look_in}
use Rattle.kms_model.specs.Request.Touched.{touches}
use Rattle.kms_model.specs.Request.Verdict.{late_in}
use Rattle.kms_model.specs.Script.WellFormed.{IsWellFormed}
use Rattle.kms_model.proofs.Facts.{value-is}
use Rattle.kms_model.proofs.KindsOfIds.{kind_of-object}
use Rattle.kms_model.proofs.TouchedLemmas.{few_objects, few_of}
use Rattle.kms_laws.proofs.Modes.{plain-from}
use Rattle.kms_laws.proofs.NeverStuck.{history_along}
use Rattle.kms_laws.proofs.OldLookUps.{ask_within_reach}
use Rattle.kms_laws.proofs.Sizes.{command-there}
use Rattle.kms_laws.proofs.Steps.{IsPlainScript, request-is}
use Rattle.kms_track.specs.Places.{object_at_place}
use Rattle.kms_core.specs.Decisions.{IsAccepted, IsDeciding, IsRefusedLate, MayRefuse, MayTest, taker, world}
use Rattle.kms_core.specs.Locks.{IsTaking, MayLock}
use Rattle.kms_core.specs.Run.{Run, machine}
use Rattle.kms_core.specs.Swaps.{MaySwap}
use Rattle.kms_device.specs.Asking.{AreOfLocks, HoldsEach, IsAcceptedWith, IsDecidingFor, IsRefusedWith, MayAskFor, MayBeRefused}
use Rattle.kms_device.specs.Asking.{MayBeSwapped, MayBeTested, TakesLocks}
use Rattle.kms_device.specs.Turns.{DevicePass, MayBeFound, run_seen}
use Rattle.kms_device.proofs.Found.{going-found, history, place-found, stays-found}
use Rattle.kms_device.proofs.Holding.{Keeps, holds-is, keeps_step}
use Rattle.kms_device.proofs.Runs.{legal-before, legal-behind, run-append}
use Rattle.kms_device.proofs.Takers.{taker-is}

taking_from : (s : Script) (m : Machine) (client : ℕ) (test : Request → Bool) (r : Request) → is_taking (doing_at m client) ≡ true
    → request_at s m client ≡ Some r → test r ≡ true → taking_at s m client test ≡ true
taking_from s m client test r taking at passes = and_from (is_taking (doing_at m client)) _ taking (rw at passes)

module _ (script : Script) (pass : DevicePass) (found : Run) (f : MayBeFound script pass found) where
  pub formed : IsWellFormed script
  formed = subst IsWellFormed f.same f.is_open.formed

  pub plain : IsPlainScript script
  plain = plain-from script formed

  pub seen-history : is_history script pass.seen ≡ true
  seen-history = legal-before script (first_machine script.topology) pass.seen f.history.begins.0
      (subst (λ h. is_history script h ≡ true) f.history.begins.1 (history script pass found f))

  abbrev pub Kept : ℕ → Type 0
  Kept object = Keeps script (at script pass.seen).device.world pass.rank object (machine found)

  -- an object that the client of the pass holds, and its state
  pub kept : (object : ℕ) → holds (at script pass.seen) pass.rank object ≡ true → Kept object
  kept object held =
      stays-found script pass found f (Keeps script (at script pass.seen).device.world pass.rank object)
      (λ m x is others k. keeps_step script (at script pass.seen).device.world pass.rank object m x plain is others k)
      (record {
        along = history_along script pass.seen plain seen-history;
        held = value-is pass.rank (holder_at (at script pass.seen) object) held;
        same = record { plane = λ e. refl; connector = λ e. refl; crtc = λ e. refl };
      })

  pub held-found : (object : ℕ) → holds (at script pass.seen) pass.rank object ≡ true → holds (machine found) pass.rank object ≡ true
  held-found object held = holds-is (machine found) pass.rank object (kept object held).held

  pub kind-is : (kind : Kind) (index : ℕ) → exists script.topology kind index ≡ true → kind_of (object_id kind index) ≡ kind
  kind-is kind index there =
      let few = few_of script.topology kind (few_objects script.topology plain.device) in
      let l = ltb-true index (count_of script.topology kind) there in kind_of-object kind index (omega (arith, few, l))

  holds_each : {S : Type 0} (kind : Kind) (states : List (Option (Both S))) → HoldsEach (run_seen script pass) pass.rank kind states
      → HoldsEach found pass.rank kind states
  holds_each kind states each index both is =
      let one = each index both is in
      (subst (λ (s : Script). exists s.topology kind index ≡ true) (sym f.same) one.0, held-found (object_id kind index) one.1)

  -- duplicates that were of the locks of the client of the pass are so still
  pub of_locks : (d : Duplicates) → AreOfLocks (run_seen script pass) pass.rank d → AreOfLocks found pass.rank d
  of_locks d own = record {
    crtcs = holds_each Crtc d.crtcs own.crtcs;
    planes = holds_each Plane d.planes own.planes;
    conns = holds_each Conn d.conns own.conns;
    old = record {
      crtcs = λ index both is.
          (let one = own.crtcs index both is in
          let same = (kept (object_id Crtc index) one.1).same.crtc (kind-is Crtc index one.0) in
          subst (λ (s : Script). both.old ≡ crtc_state_at s.topology (world found).things (world found).values (object_id Crtc index))
          (sym f.same) (own.old.crtcs index both is ∙ sym same));
      planes = λ index both is.
          (let one = own.planes index both is in
          let same = (kept (object_id Plane index) one.1).same.plane (kind-is Plane index one.0)
          in own.old.planes index both is ∙ sym same);
      conns = λ index both is.
          (let one = own.conns index both is in
          let same = (kept (object_id Conn index) one.1).same.connector (kind-is Conn index one.0) in
          own.old.conns index both is ∙ ap {B = ConnState} (λ n. record { crtc = n }) (sym same));
    };
  }

  pub request-found : request_at found.script (machine found) pass.rank ≡ request_at script (at script pass.seen) pass.rank
  request-found =
      ap (λ (s : Script). request_at s (machine found) pass.rank) f.same
      ∙ ap (λ (p : Place). request_in (command_of script (record { client = pass.rank; command = p.command })))
      (place-found script pass found f)

  -- the client of the pass is the one whose context has the ticket
  module _ (t : Ticket) (used : List (ℕ × Look)) (request : Request) (d : IsDecidingFor (run_seen script pass) pass.rank t used request)
    where
      taking : doing_at (machine found) pass.rank ≡ doing.Taking t
      taking = ap (λ (p : Place). p.doing) (place-found script pass found f) ∙ d.taking

      at-command : command_at script (at script pass.seen) pass.rank ≡ Some (command.Atomic request)
      at-command = request-is (command_at script (at script pass.seen) pass.rank) request d.at

      number : (1 ≤ pass.rank) × (pass.rank ≤ 16)
      number =
          let there = command-there script (entry_at (at script pass.seen) pass.rank) (command.Atomic request) at-command in
          (there.low, omega (arith, there.high, formed.few))

      pub the_taker : taker (machine found) t.0 ≡ pass.rank
      the_taker =
          taker-is (machine found) pass.rank t number.0 number.1 taking
          (λ a b ta tb e. (history_along found.script found.steps (plain-from found.script f.is_open.formed)
          f.is_open.history).facts.locks.unique a b ta tb e)

      pub is_deciding : IsDeciding found t.0 used request
      is_deciding = record {
        client = subst (λ c. 1 ≤ c) (sym the_taker) number.0;
        at = subst (λ c. request_at found.script (machine found) c ≡ Some request) (sym the_taker) (request-found ∙ d.at);
        labels = d.labels;
        going = going-found script pass found f;
      }

      refused_late : (why : Refusal) → IsRefusedWith (run_seen script pass) pass.rank used request why
          → IsRefusedLate found t.0 used request why
      refused_late why r =
          let own = of_locks r.duplicates r.taken in
          record {
            resolved = r.resolved;
            duplicates = r.duplicates;
            given = record {
              asks = subst (λ (s : Script). IsResolved s.topology (look_in used) request r.resolved) (sym f.same) r.asks;
              old =
                  own.old;
            };
            gives = subst (λ (s : Script). GivesRefusal s.topology request r.resolved r.duplicates why) (sym f.same) r.gives;
            holds = λ w is object there touch.
                subst (λ c. holds (machine found) c object ≡ true) (sym the_taker)
                (held-found object
                (r.holds w (subst (λ (s : Script). IsOfRequest s.topology w request r.resolved r.duplicates) f.same is) object
                (subst (λ (s : Script). has_number (lockable s.topology) object ≡ true) f.same there)
                (subst (λ (s : Script). touches s.topology w request object ≡ true) f.same touch)));
          }

      accepted : (resolved : Resolved) (checked : Checked) → IsAcceptedWith (run_seen script pass) pass.rank used request resolved checked
          → IsAccepted found t.0 used request resolved checked
      accepted resolved checked a =
          let own = of_locks a.duplicates a.taken in
          record {
            duplicates = a.duplicates;
            given = record {
              asks = subst (λ (s : Script). IsResolved s.topology (look_in used) request resolved) (sym f.same) a.asks;
              old =
                  own.old;
            };
            gives = subst (λ (s : Script). GivesChecked s.topology request resolved a.duplicates checked) (sym f.same) a.gives;
            passes = subst (λ (s : Script). (w : World) → IsOfRequest s.topology w request resolved a.duplicates
                → late_in s.topology w request ≡ None) (sym f.same) a.passes;
            holds = λ p l has. subst (λ c. holds (machine found) c (object_at_place p) ≡ true) (sym the_taker)
                (held-found (object_at_place p) (a.holds p l has));
          }

  pub may_refuse : (t : Ticket) (used : List (ℕ × Look)) (why : Refusal) → MayBeRefused (run_seen script pass) pass.rank t used why
      → MayRefuse found t.0 used why
  may_refuse t used why h = record {
    request = h.request;
    deciding = is_deciding t used h.request h.deciding;
    due = ⊎_elim
        (λ early. inl (record {
          first = subst (λ (s : Script). early_refusal s.topology (look_in used) h.request ≡ Some why.0) (sym f.same)
              early.first;
        }))
        (λ late. inr (refused_late t used h.request h.deciding why late)) h.due;
  }

  pub may_test : (t : Ticket) (used : List (ℕ × Look)) (checked : Checked) → MayBeTested (run_seen script pass) pass.rank t used checked
      → MayTest found t.0 used checked
  may_test t used checked h = record {
    request = h.request;
    deciding = is_deciding t used h.request h.deciding;
    resolved = h.resolved;
    accepted = accepted t used h.request h.deciding h.resolved checked h.accepted;
    test = h.test;
  }

  pub may_swap : (t : Ticket) (used : List (ℕ × Look)) (checked : Checked) (resolved : Resolved)
      → MayBeSwapped (run_seen script pass) pass.rank t used checked resolved → MaySwap found t.0 used checked resolved
  may_swap t used checked resolved h = record {
    request = h.request;
    deciding = is_deciding t used h.request h.deciding;
    accepted = accepted t used h.request h.deciding resolved checked h.accepted;
    states = h.states;
    no_test = h.no_test;
  }

  -- an object that the request touches wherever it was resolved and checked as it was is in its reach
  reach-found : (t : Ticket) (id : ObjId) (h : MayAskFor (run_seen script pass) pass.rank t id)
      → reaches found.script.topology (world found) h.takes.request id.0 ≡ true
  reach-found t id h =
      let rest = f.history.begins.0 in
      let late = h.begins.0 ++ rest in
      let all : found.steps ≡ h.early ++ late = f.history.begins.1 ∙
      (ap (λ xs. xs ++ rest) h.begins.1 ∙ append_assoc h.early h.begins.0 rest) in
      let whole : is_history script (h.early ++ late) ≡ true = subst (λ xs. is_history script xs ≡ true) all (history script pass found f)
      in
      let first = first_machine script.topology in
      let now : run_steps script (at script h.early) late
      ≡ machine found = sym (run-append script first h.early late) ∙
      (ap (at script) (sym all) ∙ ap (λ s. at s found.steps) (sym f.same)) in
      let own : AgreesOld script.topology (world found).things (world found).values h.duplicates
      = subst (λ (s : Script). AgreesOld s.topology (world found).things (world found).values h.duplicates) f.same
      (of_locks h.duplicates h.taken).old in
      let asks = ask_within_reach script h.early plain (legal-before script first h.early late whole) late
      (legal-behind script first h.early late whole) h.takes.request h.resolved h.duplicates h.asks
      (subst (λ (m : Machine). AgreesOld script.topology m.device.world.things m.device.world.values h.duplicates) (sym now) own) in
      let there = asks.within id.0 (h.touched asks.world asks.of_request) in
      subst (λ (s : Script). reaches s.topology (world found) h.takes.request id.0 ≡ true) (sym f.same)
      (subst (λ (m : Machine). reaches script.topology m.device.world h.takes.request id.0 ≡ true) now there)

  -- an object that is in the reach of the request may be asked for
  pub lock_found : (t : Ticket) (id : ObjId) (h : TakesLocks (run_seen script pass) pass.rank t id)
      → reaches found.script.topology (world found) h.request id.0 ≡ true → MayLock found t id × IsTaking found pass.rank t
  lock_found t id h reach =
      let taking = ap (λ (p : Place). p.doing) (place-found script pass found f) ∙ h.taking in (
        record {
          client = pass.rank;
          taking = taking;
          is_id = h.is_id;
          lockable = subst (λ (s : Script). is_lockable s.topology (kind_of id.0) (index_of id.0) ≡ true) (sym f.same) h.lockable;
          reached = taking_from found.script (machine found) pass.rank (λ q. reaches found.script.topology (world found) q id.0) h.request
              (ap is_taking taking) (request-found ∙ h.at) reach;
          goes_on = going-found script pass found f;
        },
        taking,
      )

  pub may_lock : (t : Ticket) (id : ObjId) → MayAskFor (run_seen script pass) pass.rank t id → MayLock found t id
      × IsTaking found pass.rank t
  may_lock t id h = lock_found t id h.takes (reach-found t id h)
