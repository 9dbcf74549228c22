-- The events that were read are those that replies tell: each step that answers with an event reads it, and no other reads one.
use Rattle.std.proofs.Common.{◌≡◌, ℕ, Bool, true, false, cond, ◌==◌, List, [], ◌∷◌, ◌++◌, length, map, Option, Some, None, refl, sym, ap}
use Rattle.std.proofs.Common.{◌∙◌, append-nil}
use Rattle.std.specs.Prelude.{filter, reverse}
use Rattle.std.specs.List.{cons_option, filter_map}
use Rattle.std.proofs.lemmas.List.Elements.{filter_map-append}
use Rattle.kms_model.specs.declared.objects.Topology.{Topology}
use Rattle.kms_model.specs.declared.replies.Answered.{Answered}
use Rattle.kms_model.specs.declared.replies.Event.{Event}
use Rattle.kms_model.specs.declared.replies.Reply.{Reply}
use Rattle.kms_model.specs.declared.replies.Reply.TheVariants as reply
use Rattle.kms_model.specs.declared.replies.Step.{Step}
use Rattle.kms_model.specs.declared.scripts.Command.{Command}
use Rattle.kms_model.specs.declared.scripts.Command.TheVariants as command
use Rattle.kms_model.specs.declared.scripts.Request.{Request}
use Rattle.kms_model.specs.declared.scripts.Script.{Script}
use Rattle.kms_model.specs.declared.worlds.Content.{Content}
use Rattle.kms_model.specs.declared.worlds.Thing.{Thing}
use Rattle.kms_model.specs.declared.worlds.World.{World}
use Rattle.kms_model.specs.Device.Execution.{BufferInfo, add_fb, answer, buffer_of, close_refusal, close_unless, commit, committed}
use Rattle.kms_model.specs.Device.Execution.{destroy_refusal, execute, make_unless, new_buffer_refusal, signal_refusal, signal_unless}
use Rattle.kms_model.specs.Device.World.{thing_labelled}
use Rattle.kms_model.specs.Machine.Effects.{answers, busy_reply, goes_on, next, refusal_reply, signals}
use Rattle.kms_model.specs.Machine.Histories.{at, is_history, legal, read_by, replies}
use Rattle.kms_model.specs.Machine.State.{Machine, first_machine, place_at}
use Rattle.kms_model.specs.Machine.Steps.{first_pending, lacks_space, space_used}
use Rattle.kms_model.specs.Request.Flags.{is_test}
use Rattle.kms_model.specs.Request.Verdict.{verdict}
use Rattle.kms_laws.proofs.EachStep.{Carries, by_bool, by_fence, by_two, each_step, locks_leave, made_as, swapped_as, tails_leave}
use Rattle.kms_laws.proofs.Present.{reverse_more}
use Rattle.kms_laws.proofs.Steps.{along}
use Rattle.kms_model.specs.Report.Right.{event_in, events_told}

abbrev pair_if : ℕ → Option Event → Option (ℕ × Event)
pair_if client None = None
pair_if client (Some e) = Some (client, e)

-- the event that a reply tells, with its client
abbrev pair_in : Answered → Option (ℕ × Event)
pair_in a = pair_if a.client (event_in a.reply)

-- Replies that tell no event

making-none : (w : World) (owner label : ℕ) (c : Content) (o : Option ℕ) → event_in (make_unless w owner label c o).reply ≡ None
making-none w owner label c None = refl
making-none w owner label c (Some n) = refl

adding-none : (w : World) (client label : ℕ) (o : Option BufferInfo) → event_in (add_fb w client label o).reply ≡ None
adding-none w client label None = refl
adding-none w client label (Some b) = refl

closing-none : (w : World) (t : Option Thing) (o : Option ℕ) → event_in (close_unless w t o).reply ≡ None
closing-none w t None = refl
closing-none w t (Some n) = refl

signal-none : (w : World) (o : Option ℕ) → event_in (signal_unless w o).reply ≡ None
signal-none w None = refl
signal-none w (Some n) = refl

tested-none : (t : Topology) (w : World) (client : ℕ) (r : Request) (test : Bool)
    → event_in (cond test (answer w reply.Tested) (committed t w client r)).reply ≡ None
tested-none t w client r true = refl
tested-none t w client r false = refl

commit-none : (t : Topology) (w : World) (client : ℕ) (r : Request) (o : Option ℕ) → event_in (commit t w client r o).reply ≡ None
commit-none t w client r None = tested-none t w client r (is_test r.flags)
commit-none t w client r (Some n) = refl

-- no command of the device of one thread is answered with an event
execute-none : (t : Topology) (w : World) (client : ℕ) (c : Command) → event_in (execute t w client c).reply ≡ None
unfolding execute
execute-none t w client (command.Buffer label width height format pattern) = making-none w client label _
    (new_buffer_refusal w.things width height format)
execute-none t w client (command.AddFb label buffer) = adding-none w client label (buffer_of w.things client buffer)
execute-none t w client (command.Mode label m) = refl
execute-none t w client (command.Blob label bytes) = refl
execute-none t w client (command.Destroy label) = closing-none w (thing_labelled w.things label)
    (destroy_refusal client (thing_labelled w.things label))
execute-none t w client (command.CloseFb label) = closing-none w (thing_labelled w.things label)
    (close_refusal client (thing_labelled w.things label))
execute-none t w client (command.Fence label) = refl
execute-none t w client (command.Signal label) = signal-none w (signal_refusal (thing_labelled w.things label))
execute-none t w client (command.Atomic r) = commit-none t w client r (verdict t w r)
execute-none t w client command.Wait = refl

busy-none : (t : Topology) (m : Machine) (o : Option ℕ) → event_in (busy_reply t m o) ≡ None
busy-none t m None = refl
busy-none t m (Some object) = refl

late-none : (t : Topology) (m : Machine) (client : ℕ) (o : Option ℕ) (b : Bool)
    → event_in (cond b (reply.Space (space_used m.events client)) (busy_reply t m o)) ≡ None
late-none t m client o true = refl
late-none t m client o false = busy-none t m o

refusal-none : (t : Topology) (m : Machine) (client : ℕ) (r : Request) (o : Option ℕ) → event_in (refusal_reply t m client r o) ≡ None
refusal-none t m client r (Some n) = refl
refusal-none t m client r None = late-none t m client (first_pending t m r) (lacks_space t m client r)

-- Steps

abbrev AreTold : Machine → Type 0
AreTold m = filter_map pair_in m.records.replies ≡ m.events.events_read

-- a reply that tells no event adds none
silent : (a : Answered) (answered : List Answered) → event_in a.reply ≡ None → filter_map pair_in (a ∷ answered)
    ≡ filter_map pair_in answered
silent a answered e = rw e refl

module _ (s : Script) (m : Machine) (T : AreTold m) where
  silently : (client : ℕ) (r : Reply) → event_in r ≡ None → filter_map pair_in (answers m client r).records.replies ≡ m.events.events_read
  silently client r e = silent (record {
    client = client;
    command = (place_at m client).command;
    place = length m.records.journal;
    reply = r;
  }) m.records.replies e ∙ T

  carries_told : Carries s m (λ step m2. AreTold m2)
  carries_told = record {
    locks = locks_leave s m (λ step m2. AreTold m2) (λ step contexts. T);
    answers = record {
      refuses = λ client r e taking may. silently client _ (refusal-none s.topology m client r (verdict s.topology m.device.world r));
      tests = λ client r e taking may. T;
      swaps = λ client r e taking may b w eb ew. by_two (λ b w. AreTold (swapped_as s.topology b w m client r)) T T T T b w;
      makes = λ client c e making idle b eb.
          let now = silently client (execute s.topology m.device.world client c).reply (execute-none s.topology m.device.world client c) in
          by_bool (λ b. AreTold (made_as b m client (execute s.topology m.device.world client c))) now now b;
      signalled = λ client c e is_signal idle q.
          let now = silently client (execute s.topology m.device.world client c).reply (execute-none s.topology m.device.world client c) in
          by_fence (λ q. AreTold (goes_on (signals (answers m client (execute s.topology m.device.world client c).reply) q) client)) now
          (λ fence. now) q;
      read_none = λ client c e is_wait idle none. T;
      read_one = λ client c e is_wait idle event events some. ap (λ (xs : List (ℕ × Event)). (client, event) ∷ xs) T;
    };
    tails = tails_leave s m (λ step left. filter_map pair_in left.replies ≡ left.events_read) (λ step. T);
    stalled = λ h. T;
  }

  step_told : (step : Step) → legal s m step ≡ true → AreTold (next s m step)
  step_told step h = each_step s m (λ step m2. AreTold m2) carries_told step h

history_told : (s : Script) (h : List Step) → is_history s h ≡ true → AreTold (at s h)
history_told s h is = along s AreTold (λ m step T legal_step. step_told s m T step legal_step) h (first_machine s.topology) refl is

-- By client, in order of time

filter_map-reverse : {A B : Type 0} (f : A → Option B) (xs : List A) → filter_map f (reverse xs) ≡ reverse (filter_map f xs)
filter_map-reverse f [] = refl
filter_map-reverse {A} {B} f (x ∷ xs) =
    ap (filter_map f) (reverse_more x xs) ∙ filter_map-append f (reverse xs) (x ∷ []) ∙ ap (λ (ys : List B). ys ++ filter_map f (x ∷ []))
    (filter_map-reverse f xs) ∙ last (f x)
  where
    last : (o : Option B) → reverse (filter_map f xs) ++ cons_option o [] ≡ reverse (cons_option o (filter_map f xs))
    last None = append-nil (reverse (filter_map f xs))
    last (Some y) = sym (reverse_more y (filter_map f xs))

of_client : (client : ℕ) (answered : List Answered) → map (λ e. e.1) (filter (λ e. e.0 == client) (filter_map pair_in answered))
    ≡ events_told client answered
of_client client [] = refl
of_client client (a ∷ answered) = by_case (of_client client answered) (event_in a.reply) (a.client == client) refl refl where
  by_case : map (λ e. e.1) (filter (λ e. e.0 == client) (filter_map pair_in answered)) ≡ events_told client answered
      → (o : Option Event) (b : Bool) → event_in a.reply ≡ o → (a.client == client) ≡ b
      → map (λ e. e.1) (filter (λ e. e.0 == client) (filter_map pair_in (a ∷ answered))) ≡ events_told client (a ∷ answered)
  by_case rest None true e own = rw (own, e) rest
  by_case rest None false e own = rw (own, e) rest
  by_case rest (Some event) true e own = rw (own, e, own) (ap (λ (xs : List Event). event ∷ xs) rest)
  by_case rest (Some event) false e own = rw (own, e, own) rest

pub read-told : (s : Script) (h : List Step) → is_history s h ≡ true → (client : ℕ) → read_by (at s h) client
    ≡ events_told client (replies (at s h))
read-told s h is client =
    ap (λ (es : List (ℕ × Event)). map (λ e. e.1) (filter (λ e. e.0 == client) (reverse es))) (sym (history_told s h is))
    ∙ ap (λ (es : List (ℕ × Event)). map (λ e. e.1) (filter (λ e. e.0 == client) es))
    (sym (filter_map-reverse pair_in (at s h).records.replies))
    ∙ of_client client (reverse (at s h).records.replies)
