-- Where a client stands behind a turn at no request.
use Rattle.std.proofs.Common.{◌≡◌, ℕ, ◌<◌, ◌+◌, List, [], ◌∷◌, Bool, true, false, Option, Some, None, refl, sym, ap, ◌∙◌, subst, arith}
use Rattle.std.specs.Prelude.{◌&&◌, is_none, is_some}
use Rattle.std.proofs.lemmas.Bool.{and_right}
use Rattle.kms_model.specs.declared.replies.Event.{Event}
use Rattle.kms_model.specs.declared.replies.Reply.{Reply}
use Rattle.kms_model.specs.declared.replies.Reply.TheVariants as reply
use Rattle.kms_model.specs.declared.replies.Step.{Step}
use Rattle.kms_model.specs.declared.replies.Step.TheVariants as step
use Rattle.kms_model.specs.declared.runs.Doing.{Doing}
use Rattle.kms_model.specs.declared.runs.Doing.TheVariants as doing
use Rattle.kms_model.specs.declared.runs.Place.{Place}
use Rattle.kms_model.specs.declared.scripts.Command.{Command}
use Rattle.kms_model.specs.declared.scripts.Command.TheVariants as command
use Rattle.kms_model.specs.declared.scripts.Script.{Script}
use Rattle.kms_model.specs.Device.Execution.{execute}
use Rattle.kms_model.specs.Device.Serial.{command_of, is_accepted}
use Rattle.kms_model.specs.Machine.Effects.{answers, fence_signalled, goes_on, joins_if, made_thing, next, puts_world, reads, signals}
use Rattle.kms_model.specs.Machine.Histories.{is_at_end}
use Rattle.kms_model.specs.Machine.State.{Machine, command_at, doing_at, place_at, unread_at}
use Rattle.kms_model.specs.Machine.Steps.{is_idle}
use Rattle.kms_laws.proofs.Basics.{read_same}
use Rattle.kms_laws.proofs.SmallNumbers.{numbers_fit}
use Rattle.kms_pool.specs.declared.player.Turn as pool
use Rattle.kms_pool.specs.declared.player.Turn.TheVariants.{Did, Ended, NotYet}
use Rattle.kms_core.specs.Run.{Run, machine}
use Rattle.kms_device.specs.declared.attempt.Attempt.{Attempt}
use Rattle.kms_device.specs.Attempts.{StandsAt, new_attempt}
use Rattle.kms_device.specs.Turns.{DevicePass, DeviceTurn, run_seen}
use Rattle.kms_device.proofs.Stepping.{found-is, found-place, next-after, open-after}
use Rattle.kms_players.specs.PlayerTurns.{PlainTurn, plain_step, step_of_command, step_of_place}
use Rattle.kms_players.specs.UnderWay.{IsKnownAt, Knows, known_if, standing_behind}

-- The machine behind a step of a client at no request has it idle at its next command.

abbrev next_place : Machine → ℕ → Place
next_place m client = record { command = (place_at m client).command + 1; doing = doing.Idle }

went_next : (m n : Machine) (client : ℕ) → n.contexts ≡ m.contexts → place_at (goes_on n client) client ≡ next_place m client
went_next m n client same =
    read_same _ n.contexts.places client (next_place n client)
    ∙ ap {B = Place} (λ contexts. record { command = (place_at (record n { contexts = contexts }) client).command + 1; doing = doing.Idle })
    same

joined_same : (b : Bool) (m : Machine) (client : ℕ) → (joins_if b m client).contexts ≡ m.contexts
joined_same true m client = refl
joined_same false m client = refl

signals_same : (m : Machine) (o : Option ℕ) → (signals m o).contexts ≡ m.contexts
signals_same m None = refl
signals_same m (Some fence) = refl

module _ (s : Script) (m : Machine) (client : ℕ) where
  made_next : (c : Command) → command_at s m client ≡ Some c → place_at (next s m (step.Make client)) client ≡ next_place m client
  unfolding next made_thing
  made_next c is =
      let e = execute s.topology m.device.world client c in
      ap (λ o. place_at (made_thing s.topology m client o) client) is
      ∙ went_next m (puts_world (joins_if (is_accepted e.reply) (answers m client e.reply) client) e.world) client
      (joined_same (is_accepted e.reply) (answers m client e.reply) client)

  fence_same : (n : Machine) (label : ℕ) (r : Reply) → (fence_signalled n (Some (command.Signal label)) r).contexts ≡ n.contexts
  fence_same n label reply.Done = signals_same n _
  fence_same n label r = refl

  signalled_next : (label : ℕ) → command_at s m client ≡ Some (command.Signal label) → place_at (next s m (step.Signal client)) client
      ≡ next_place m client
  unfolding next
  signalled_next label is =
      let e = execute s.topology m.device.world client (command.Signal label) in
      rw is (went_next m (fence_signalled (answers m client e.reply) (Some (command.Signal label)) e.reply) client
      (fence_same (answers m client e.reply) label e.reply))

  reads_next : (events : List Event) → place_at (reads m client events) client ≡ next_place m client
  reads_next [] = went_next m (answers m client reply.NoEvent) client refl
  reads_next (event ∷ events) =
      let told = answers m client (reply.Event event) in
      went_next m (record told {
        events = record told.events {
          unread = (client, events) ∷ told.events.unread;
          events_read = (client, event)
              ∷ told.events.events_read;
        };
      }) client refl

  read_next : place_at (next s m (step.Read client)) client ≡ next_place m client
  unfolding next
  read_next = reads_next (unread_at m.events client)

  returned_next : place_at (next s m (step.Return client)) client ≡ next_place m client
  unfolding next
  returned_next = went_next m m client refl

  abbrev Goes : Step → Type 0
  Goes x = place_at (next s m x) client ≡ next_place m client

  by_command : (c : Command) (x : Step) → command_at s m client ≡ Some c → step_of_command client c ≡ Some x → Goes x
  by_command (command.Atomic request) x is e = absurd cc
  by_command (command.Signal label) x is e = (let same : step.Signal client ≡ x = cc in subst Goes same (signalled_next label is))
  by_command command.Wait x is e = (let same : step.Read client ≡ x = cc in subst Goes same read_next)
  by_command c x is e = (let same : step.Make client ≡ x = cc in subst Goes same (made_next c is))

  by_place : (d : Doing) (o : Option Command) (x : Step) → command_at s m client ≡ o → step_of_place client d o ≡ Some x → Goes x
  by_place (doing.Returning k) o x is e = (let same : step.Return client ≡ x = cc in subst Goes same returned_next)
  by_place doing.Idle (Some c) x is e = by_command c x is e
  by_place doing.Idle None x is e = absurd cc
  by_place (doing.Taking t) o x is e = absurd cc
  by_place (doing.MustBackOff t object) o x is e = absurd cc
  by_place (doing.BackedOff t object) o x is e = absurd cc

  moves_on : (x : Step) → step_of_place client (doing_at m client) (command_at s m client) ≡ Some x → Goes x
  moves_on x e = by_place (doing_at m client) (command_at s m client) x refl e

-- a client that has such a step is not at its end
has_step : (client : ℕ) (d : Doing) (o : Option Command) (x : Step) → step_of_place client d o ≡ Some x → (is_idle d && is_none o) ≡ false
has_step client (doing.Returning k) o x e = refl
has_step client doing.Idle (Some c) x e = refl
has_step client doing.Idle None x e = absurd cc
has_step client (doing.Taking t) o x e = refl
has_step client (doing.MustBackOff t object) o x e = refl
has_step client (doing.BackedOff t object) o x e = refl

none_not : (o : Option Command) → is_some o ≡ true → is_none o ≡ false
none_not (Some c) e = refl
none_not None e = absurd cc

-- its number fits
pub number_fits : (r : Run) (client : ℕ) (place : Place) → StandsAt r client place → place.command < 4294967295
number_fits r client place stands =
    let fit = (numbers_fit r.script r.steps stands.is_open.formed stands.is_open.history).commands client in
    omega (arith, fit, ap (λ (p : Place). p.command) stands.at)

module _ (script : Script) (client : ℕ) (before after : DevicePass) (whose : before.rank ≡ client) (place : Place)
    (stands : StandsAt (run_seen script before) client place) where
  module _ (says : Run → Type 0) (xs : List Step) (t : DeviceTurn script says xs before after) where
    found_at : place ≡ place_at (machine t.found) client
    found_at = stands.at ∙ sym (subst (λ n. place_at (machine t.found) n ≡ place_at (machine (run_seen script before)) n) whose
        (found-place script says xs before after t))

  -- with no step it stands where it stood
  still_known : (says : Run → Type 0) (x : Step) (t : DeviceTurn script says [] before after) → plain_step t.found client ≡ Some x
      → IsKnownAt (run_seen script after) client place
  still_known says x t comes =
      let same = found-is script says before after t in record {
        stands = record {
          is_open = open-after script says [] before after t;
          at = found_at says [] t ∙ ap (λ r. place_at (machine r) client) (sym same);
        };
        goes_on = subst (λ r. is_at_end r.script (machine r) client ≡ false) (sym same)
            (has_step client (doing_at (machine t.found) client) (command_at t.found.script (machine t.found) client) x comes);
      }

  -- with its step it is idle at its next command
  next_stands : (says : Run → Type 0) (x : Step) (t : DeviceTurn script says (x ∷ []) before after) → plain_step t.found client ≡ Some x
      → StandsAt (run_seen script after) client (record { command = place.command + 1; doing = doing.Idle })
  next_stands says x t comes = record {
    is_open = open-after script says (x ∷ []) before after t;
    at =
        ap {B = Place} (λ (p : Place). record { command = p.command + 1; doing = doing.Idle }) (found_at says (x ∷ []) t)
        ∙ (sym (moves_on script (machine t.found) client x
        (subst (λ s. step_of_place client (doing_at (machine t.found) client) (command_at s (machine t.found) client) ≡ Some x)
        t.finds.same comes))
        ∙ ap (λ m. place_at m client) (sym (next-after script says x before after t)));
  }

  next_known : (b : Bool) (new : Attempt) → new ≡ new_attempt
      → StandsAt (run_seen script after) client (record { command = place.command + 1; doing = doing.Idle })
      → is_some (command_of script (record { client = client; command = place.command + 1 })) ≡ b
      → Knows (run_seen script after) client new (known_if (place.command + 1) b)
  next_known false new anew there e = anew
  next_known true new anew there e = (
    anew,
    record {
      stands = there;
      goes_on =
          and_right (is_idle (doing_at (machine (run_seen script after)) client)) _
          (none_not _ (subst (λ (p : Place). is_some (command_of script (record { client = client; command = p.command })) ≡ true) there.at
          e));
    },
  )

  pub knows_behind : (new : Attempt) (answer : pool.Turn) → new ≡ new_attempt → PlainTurn script client before after answer
      → Knows (run_seen script after) client new (standing_behind script client answer place)
  knows_behind new Did anew t = next_known _ new anew (next_stands _ t.0 t.1 t.1.said.0) refl
  knows_behind new (NotYet n) anew t = (anew, still_known _ t.0 t.1 t.1.said.0)
  knows_behind new Ended anew t = absurd t
