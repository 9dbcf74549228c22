-- Where a client stands, and which step comes next there.
use Rattle.std.proofs.Common.{◌≡◌, ◌⊎◌, ℕ, [], ◌∷◌, true, false, Some, None, Result, Ok, Err, inl, inr, refl, sym, ap, ◌∙◌, subst}
use Rattle.std.specs.Prelude.{IfOk, IfSome, OnErr, is_none, is_some}
use Rattle.std.proofs.lemmas.Bool.{and_from, false≢true}
use Rattle.kms_model.specs.declared.replies.Reply.{Reply}
use Rattle.kms_model.specs.declared.runs.Doing.{Doing}
use Rattle.kms_model.specs.declared.runs.Doing.TheVariants as doing
use Rattle.kms_model.specs.declared.runs.Place.{Place}
use Rattle.kms_model.specs.declared.scripts.Command.{Command}
use Rattle.kms_model.specs.declared.scripts.Command.TheVariants as command
use Rattle.kms_model.specs.declared.scripts.Request.{Request}
use Rattle.kms_model.specs.declared.scripts.Script.{Script}
use Rattle.kms_model.specs.Device.Serial.{command_of}
use Rattle.kms_model.specs.Machine.Histories.{is_at_end}
use Rattle.kms_model.specs.Machine.State.{command_at, doing_at, place_at, request_at, request_in}
use Rattle.kms_model.specs.Machine.Steps.{is_idle, returning_of}
use Rattle.kms_model.proofs.CommitFacts.{returning_not}
use Rattle.kms_laws.specs.Laws.{has_context}
use Rattle.kms_laws.proofs.Contexts.{HasRequest}
use Rattle.kms_laws.proofs.Modes.{plain-from}
use Rattle.kms_laws.proofs.NeverStuck.{history_facts}
use Rattle.kms_pool.specs.declared.player.Turn as pool
use Rattle.kms_pool.specs.declared.player.Turn.TheVariants.{Did, Ended, NotYet}
use Rattle.kms_core.specs.Calls.{idle_command_at, only_if}
use Rattle.kms_core.specs.Run.{Run, machine}
use Rattle.kms_device.specs.declared.attempt.Attempt.{Attempt}
use Rattle.kms_device.specs.declared.attempt.Attempted.TheVariants as attempted
use Rattle.kms_device.specs.Attempts.{IsAttempt, MayAttempt, Serves, StandsAt, StaysAt, Went, new_attempt}
use Rattle.kms_device.specs.Turns.{DevicePass, IsOpen, DeviceTurn, run_seen}
use Rattle.kms_device.proofs.Serving.{serves_new}
use Rattle.kms_device.proofs.Went.{went_not, went_turn}
use Rattle.kms_players.specs.declared.site.Standing.{Standing}
use Rattle.kms_players.specs.Players.{name_of_pass}
use Rattle.kms_players.specs.PlayerTurns.{AttemptTurn, ClientTurn, PlainTurn, Plays, RequestTurn}
use Rattle.kms_players.specs.UnderWay.{IsAttempting, PlaysAt}
use Rattle.kms_players.proofs.Waits.{seen-found, turn_name, went_name}

-- what is new serves wherever a client stands

-- a client that has a context stands at a request
has_request : (r : Run) (client : ℕ) → IsOpen r → has_context (doing_at (machine r) client) ≡ true
    → HasRequest r.script client (place_at (machine r) client)
has_request r client is_open = (history_facts r.script r.steps (plain-from r.script is_open.formed) is_open.history).locks.atomic client

-- one that is at no request, and does not return, is idle
idle_at_place : (s : Script) (client : ℕ) (place : Place) → (has_context place.doing ≡ true → HasRequest s client place)
    → returning_of place.doing ≡ None
    → request_in (command_of s (record { client = client; command = place.command })) ≡ None → is_idle place.doing ≡ true
idle_at_place s client place request awake none = by_doing place.doing request awake where
  by_doing : (d : Doing) → (has_context d ≡ true → HasRequest s client place) → returning_of d ≡ None → is_idle d ≡ true
  by_doing doing.Idle request awake = refl
  by_doing (doing.Returning k) request awake = absurd cc
  by_doing (doing.Taking t) request awake = (let r = (request refl).at in absurd cc)
  by_doing (doing.MustBackOff t object) request awake = (let r = (request refl).at in absurd cc)
  by_doing (doing.BackedOff t object) request awake = (let r = (request refl).at in absurd cc)

pub idle : (r : Run) (client : ℕ) → IsOpen r → returning_of (doing_at (machine r) client) ≡ None → request_at r.script (machine r) client
    ≡ None → is_idle (doing_at (machine r) client) ≡ true
idle r client is_open awake none = idle_at_place r.script client (place_at (machine r) client) (has_request r client is_open) awake none

-- with no command left it is at its end
pub at_end : (r : Run) (client : ℕ) → IsOpen r → returning_of (doing_at (machine r) client) ≡ None → command_at r.script (machine r) client
    ≡ None → is_at_end r.script (machine r) client ≡ true
at_end r client is_open awake none =
    and_from (is_idle (doing_at (machine r) client)) _
    (idle r client is_open awake (ap request_in none))
    (ap is_none none)

request_not : (c : Command) → ((r : Request) → c ≡ command.Atomic r → ⊥) → request_in (Some c) ≡ None
request_not (command.Atomic r) other = absurd (other r refl)
request_not c other = refl

-- a turn told where a client stands
pub stands_told : (script : Script) (client : ℕ) (place : Place) (before told : DevicePass)
    → DeviceTurn script (λ found. place ≡ place_at (machine found) client) [] before told → StandsAt (run_seen script told) client place
stands_told script client place before told t =
    let is_seen = seen-found script (λ found. place ≡ place_at (machine found) client) before told t in record {
      is_open = subst IsOpen (sym is_seen) t.finds.is_open;
      at = t.said ∙ sym (ap (λ r. place_at (machine r) client) is_seen);
    }

-- A client knows where it stands.
module _ (script : Script) (client : ℕ) (place : Place) (pass : DevicePass) (there : StandsAt (run_seen script pass) client place) where
  commands : command_at script (machine (run_seen script pass)) client
      ≡ command_of script (record { client = client; command = place.command })
  commands = ap (λ (p : Place). command_of script (record { client = client; command = p.command })) (sym there.at)

  pub at_command : (place_at (machine (run_seen script pass)) client).command ≡ place.command
  at_command = ap (λ (p : Place). p.command) (sym there.at)

  module _ (awake : (k : ℕ) → place.doing ≡ doing.Returning k → ⊥) where
    awake_there : returning_of (doing_at (machine (run_seen script pass)) client) ≡ None
    awake_there = ap (λ (p : Place). returning_of p.doing) (sym there.at) ∙ returning_not place.doing awake

    pub may_attempt : (r : Request) → command_of script (record { client = client; command = place.command }) ≡ Some (command.Atomic r)
        → MayAttempt (run_seen script pass) client
    may_attempt r e = record { request = r; at = ap request_in (commands ∙ e); awake = awake_there }

    pub attempting_anew : (r : Request) (work : Attempt) → command_of script (record { client = client; command = place.command })
        ≡ Some (command.Atomic r)
        → work ≡ record new_attempt { place = Some place } → IsAttempting (run_seen script pass) client work place.command
    attempting_anew r work e anew =
        subst (λ w. IsAttempting (run_seen script pass) client w place.command) (sym anew) (record {
          may = may_attempt r e;
          at = at_command;
          serves = serves_new (run_seen script pass) client;
          stands = there;
        })

    pub idle_there : (c : Command) → ((r : Request) → c ≡ command.Atomic r → ⊥)
        → command_of script (record { client = client; command = place.command }) ≡ Some c
        → (idle_command_at (run_seen script pass) client ≡ Some c) × (request_in (Some c) ≡ None)
    idle_there c other e =
        let idles = idle (run_seen script pass) client there.is_open awake_there (ap request_in (commands ∙ e) ∙ request_not c other) in
        (ap (λ b. only_if b (command_at script (machine (run_seen script pass)) client)) idles ∙ (commands ∙ e), request_not c other)

    pub ends : command_of script (record { client = client; command = place.command }) ≡ None
        → is_at_end script (machine (run_seen script pass)) client ≡ true
    ends e = at_end (run_seen script pass) client there.is_open awake_there (commands ∙ e)

-- a client that makes attempts at a request makes them still after one that gave no reply
pub attempting_on : (before after : Run) (client number : ℕ) (old new : Attempt) → IsAttempting before client old number
    → StaysAt before after client
    → Serves after client new.kept → IfSome new.place (StandsAt after client) → IsAttempting after client new number
attempting_on before after client number old new is stays serves stands = record {
  may = stays.may;
  at = stays.command ∙ is.at;
  serves = serves;
  stands = stands;
}

-- an attempt that was begun with nothing but a place is one that was begun with nothing
pub begun_anew : {E : Type 0} (script : Script) (client : ℕ) (before after : DevicePass) (old begun new : Attempt) (place : Place)
    (r : Result (pool.Turn × Standing) E) → old ≡ new_attempt → begun ≡ record new_attempt { place = Some place }
    → IfOk r (λ x. AttemptTurn script client before begun after new x.0) → IfOk r (λ x. AttemptTurn script client before old after new x.0)
begun_anew script client before after old begun new place (Ok x) is_new is h =
    turn_with x.0 (ap (λ (w : Attempt). w.kept) is ∙ sym (ap (λ (w : Attempt). w.kept) is_new)) h
  where
    turn_with : (answer : pool.Turn) → begun.kept ≡ old.kept → AttemptTurn script client before begun after new answer
        → AttemptTurn script client before old after new answer
    turn_with Did same h = subst (λ k. (IsAttempt script client before k after new.kept attempted.Did × (is_some new.place ≡ true))
        ⊎ ((reply : Reply) × (IsAttempt script client before k after new.kept (attempted.Answered reply) × (new ≡ new_attempt)))) same h
    turn_with (NotYet n) same h =
        subst (λ k. IsAttempt script client before k after new.kept (attempted.NotYet n) × (is_some new.place ≡ true)) same h
    turn_with Ended same h = absurd h
begun_anew script client before after old begun new place (Err e) is_new is h = tt

-- a client's turn, after it was told where it stands, or knew

pub plays_attempt : (script : Script) (client : ℕ) (before told after : DevicePass) (old new : Attempt) (answer : pool.Turn)
    → Went [] before told → RequestTurn script client told old after new answer → ClientTurn script client before old after new answer
plays_attempt script client before told after old new Did went did = record { told = told; went = went; did = inr did }
plays_attempt script client before told after old new (NotYet n) went did = record { told = told; went = went; did = inr did }
plays_attempt script client before told after old new Ended went did = absurd did.attempt

-- what it does where it stands

pub plays_plain : (script : Script) (client : ℕ) (before after : DevicePass) (kept : Attempt) (answer : pool.Turn)
    → PlainTurn script client before after answer
    → PlaysAt script client before kept after kept answer
plays_plain script client before after kept Did did = inl (did, refl)
plays_plain script client before after kept (NotYet n) did = inl (did, refl)
plays_plain script client before after kept Ended did = absurd did

plays_request : (script : Script) (client : ℕ) (before after : DevicePass) (old new : Attempt) (answer : pool.Turn)
    → RequestTurn script client before old after new answer
    → PlaysAt script client before old after new answer
plays_request script client before after old new Did did = inr did
plays_request script client before after old new (NotYet n) did = inr did
plays_request script client before after old new Ended did = absurd did.attempt

pub ok_request : {E : Type 0} (script : Script) (client : ℕ) (before after : DevicePass) (old new : Attempt)
    (r : Result (pool.Turn × Standing) E)
    → MayAttempt (run_seen script before) client → IfOk r (λ x. AttemptTurn script client before old after new x.0)
    → IfOk r (λ x. PlaysAt script client before old after new x.0)
ok_request script client before after old new (Ok x) may h = plays_request script client before after old new x.0
    (record { may = may; attempt = h })
ok_request script client before after old new (Err e) may h = tt

-- A client's turn, where it did not know where it stands.
module _ (script : Script) (client : ℕ) (place : Place) (before told after : DevicePass)
    (t : DeviceTurn script (λ found. place ≡ place_at (machine found) client) [] before told) (old new : Attempt) where
  plays_told : (answer : pool.Turn) → PlaysAt script client told old after new answer → ClientTurn script client before old after new answer
  plays_told Did did = record { told = told; went = went_turn script _ [] before told refl t; did = did }
  plays_told (NotYet n) did = record { told = told; went = went_turn script _ [] before told refl t; did = did }
  plays_told Ended did = (
    subst (λ p. DeviceTurn script (λ found. is_at_end found.script (machine found) client ≡ true) [] before p) (sym did.0) (record {
      found = t.found;
      finds = t.finds;
      said = subst (λ r. is_at_end r.script (machine r) client ≡ true)
          (seen-found script (λ found. place ≡ place_at (machine found) client) before told t) did.2;
      now = t.now;
      left = t.left;
    }),
    did.1,
  )

  pub ok_told : {E : Type 0} (r : Result (pool.Turn × Standing) E) → IfOk r (λ x. PlaysAt script client told old after new x.0)
      → IfOk r (λ x. ClientTurn script client before old after new x.0)
  ok_told (Ok x) h = plays_told x.0 h
  ok_told (Err e) h = tt

-- A client's turn, where it knew that, and that it is not at its end.
module _ (script : Script) (client : ℕ) (before after : DevicePass) (old new : Attempt)
    (goes_on : is_at_end script (machine (run_seen script before)) client ≡ false) where
  plays_known : (answer : pool.Turn) → PlaysAt script client before old after new answer
      → ClientTurn script client before old after new answer
  plays_known Did did = record { told = before; went = went_not before; did = did }
  plays_known (NotYet n) did = record { told = before; went = went_not before; did = did }
  plays_known Ended did = absurd (false≢true (sym goes_on ∙ did.2))

  pub ok_known : {E : Type 0} (r : Result (pool.Turn × Standing) E) → IfOk r (λ x. PlaysAt script client before old after new x.0)
      → IfOk r (λ x. ClientTurn script client before old after new x.0)
  ok_known (Ok x) h = plays_known x.0 h
  ok_known (Err e) h = tt

-- the pass is that of the same player

plain_name : (script : Script) (client : ℕ) (before after : DevicePass) (answer : pool.Turn) → PlainTurn script client before after answer
    → name_of_pass after ≡ name_of_pass before
plain_name script client before after Did t = turn_name script _ (t.0 ∷ []) before after t.1
plain_name script client before after (NotYet n) t = turn_name script _ [] before after t.1
plain_name script client before after Ended t = absurd t

attempt_name : (script : Script) (client : ℕ) (before : DevicePass) (old : Attempt) (after : DevicePass) (new : Attempt)
    (answer : pool.Turn) → AttemptTurn script client before old after new answer → name_of_pass after ≡ name_of_pass before
attempt_name script client before old after new Did (inl s) = did s.0 where
  did : IsAttempt script client before old.kept after new.kept attempted.Did → name_of_pass after ≡ name_of_pass before
  did (inl s) = went_name _ before after s.stepped.went
  did (inr (inl s)) = went_name _ before after s.went
  did (inr (inr s)) = went_name _ before after s.went
attempt_name script client before old after new Did (inr s) = went_name _ before after s.1.0.stepped.went
attempt_name script client before old after new (NotYet n) s = went_name _ before after s.0.went
attempt_name script client before old after new Ended s = absurd s

plays_name : (script : Script) (client : ℕ) (before : DevicePass) (old : Attempt) (after : DevicePass) (new : Attempt) (answer : pool.Turn)
    → Plays script client before old after new answer → name_of_pass after ≡ name_of_pass before
plays_name script client before old after new answer t = did t.did ∙ went_name [] before t.told t.went where
  did : (PlainTurn script client t.told after answer × (new ≡ old)) ⊎ RequestTurn script client t.told old after new answer
      → name_of_pass after ≡ name_of_pass t.told
  did (inl s) = plain_name script client t.told after answer s.0
  did (inr s) = attempt_name script client t.told old after new answer s.attempt

pub client_name : (script : Script) (client : ℕ) (before : DevicePass) (old : Attempt) (after : DevicePass) (new : Attempt)
    (answer : pool.Turn) → ClientTurn script client before old after new answer → name_of_pass after ≡ name_of_pass before
client_name script client before old after new Ended t = turn_name script _ [] before after t.0
client_name script client before old after new Did t = plays_name script client before old after new Did t
client_name script client before old after new (NotYet n) t = plays_name script client before old after new (NotYet n) t

-- the same by the whole answer, which may be want of memory

module _ {E : Type 0} (script : Script) (client : ℕ) (before told after : DevicePass) (old new : Attempt)
    (r : Result (pool.Turn × Standing) E) where
  pub ok_attempt : Went [] before told → MayAttempt (run_seen script told) client
      → IfOk r (λ x. AttemptTurn script client told old after new x.0) → IfOk r (λ x. ClientTurn script client before old after new x.0)
  ok_attempt went may h = of r h where
    of : (r : Result (pool.Turn × Standing) E) → IfOk r (λ x. AttemptTurn script client told old after new x.0)
        → IfOk r (λ x. ClientTurn script client before old after new x.0)
    of (Ok x) h = plays_attempt script client before told after old new x.0 went (record { may = may; attempt = h })
    of (Err e) h = tt

pub err_then : {A E P Q : Type 0} (r : Result A E) → (P → Q) → OnErr r P → OnErr r Q
err_then (Ok x) f p = tt
err_then (Err e) f p = f p

pub answer_name : {E : Type 0} (script : Script) (client : ℕ) (before after : DevicePass) (old new : Attempt)
    (r : Result (pool.Turn × Standing) E)
    → IfOk r (λ x. ClientTurn script client before old after new x.0) → OnErr r (Went [] before after) → name_of_pass after
    ≡ name_of_pass before
answer_name script client before after old new (Ok x) h went = client_name script client before old after new x.0 h
answer_name script client before after old new (Err e) h went = went_name [] before after went
