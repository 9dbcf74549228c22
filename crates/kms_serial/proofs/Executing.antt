-- What commands leave of a device's present states.
use Rattle.std.proofs.Common.{◌≡◌, ℕ, true, Option, Some, None, Result, Ok, Err, refl, sym, ap, subst, arith}
use Rattle.std.specs.Prelude.{IfOk, OnOk, OnErr}
use Rattle.kms_model.specs.declared.copying.NoMemory.{NoMemory}
use Rattle.kms_model.specs.declared.objects.Topology.{Topology}
use Rattle.kms_model.specs.declared.replies.Reply.{Reply}
use Rattle.kms_model.specs.declared.scripts.Command.{Command}
use Rattle.kms_model.specs.declared.scripts.Command.TheVariants as command
use Rattle.kms_model.specs.declared.states.Duplicates.{Duplicates}
use Rattle.kms_model.specs.declared.worlds.Content.{Content}
use Rattle.kms_model.specs.declared.worlds.Content.TheVariants as content
use Rattle.kms_model.specs.declared.worlds.Thing.{Thing}
use Rattle.kms_model.specs.declared.worlds.World.{World}
use Rattle.kms_model.specs.Device.Execution.{close, close_refusal, close_unless, destroy_refusal, execute, new_buffer_refusal}
use Rattle.kms_model.specs.Device.Execution.{signal_refusal, signal_unless}
use Rattle.kms_model.specs.Device.Execution.{BufferInfo, Executed, add_fb, buffer_of, make, make_unless}
use Rattle.kms_model.specs.Device.Sound.{IsLawful}
use Rattle.kms_model.specs.Device.World.{thing_labelled}
use Rattle.kms_laws.proofs.Executed.{alike-self}
use Rattle.kms_model.proofs.SeenLemmas.{AreSeenAlike, alike-closed, alike-push}
use Rattle.kms_model.proofs.SoundKept.{execution_keeps_lawful}
use Rattle.kms_serial.specs.Commands.{Grows}
use Rattle.kms_serial.specs.Device.{StandsInWorld}
use Rattle.kms_things.specs.Commands.{IsNoRequest}
use Rattle.kms_things.proofs.SeenStates.{present_seen}
use Rattle.kms_model.proofs.FramedLemmas.{execution_keeps_framed}

-- What is seen of a world's things

-- the values stay, and the things that they name are seen alike
pub record IsSeenAfter (t : Topology) (w after : World) : Type 0 where
  pub values : after.values ≡ w.values
  pub alike : AreSeenAlike t w.things after.things w.values
  pub grows : Grows w after

pub seen_same : (t : Topology) (w : World) → IsSeenAfter t w w
seen_same t w = record {
  values = refl;
  alike = alike-self t w.things w.values;
  grows = record { ids = omega arith; commits = omega arith };
}

pub seen_made : {t : Topology} {w : World} (owner label : ℕ) (c : Content) → IsLawful t w → IsSeenAfter t w (make w owner label c).world
seen_made {t} {w} owner label c lawful = record {
  values = refl;
  alike = alike-push t w.things (record { label = label; id = w.next_id; owner = owner; content = c; is_open = true }) w.values
      lawful.numbered.things lawful.numbered.next lawful.sound.held;
  grows = record { ids = omega arith; commits = omega arith };
}

seen_made_unless : {t : Topology} {w : World} (owner label : ℕ) (c : Content) (o : Option ℕ) → IsLawful t w
    → IsSeenAfter t w (make_unless w owner label c o).world
seen_made_unless {t} {w} owner label c None lawful = seen_made owner label c lawful
seen_made_unless {t} {w} owner label c (Some n) lawful = seen_same t w

seen_added : {t : Topology} {w : World} (owner label : ℕ) (b : Option BufferInfo) → IsLawful t w
    → IsSeenAfter t w (add_fb w owner label b).world
seen_added {t} {w} owner label None lawful = seen_same t w
seen_added {t} {w} owner label (Some b) lawful = seen_made owner label _ lawful

seen_closed : (t : Topology) (w : World) (o : Option Thing) → IsSeenAfter t w (close w o)
seen_closed t w None = seen_same t w
seen_closed t w (Some u) = record {
  values = refl;
  alike = alike-closed t w.things u.id w.values;
  grows =
      record { ids = omega arith; commits = omega arith };
}

seen_closed_unless : (t : Topology) (w : World) (u : Option Thing) (o : Option ℕ) → IsSeenAfter t w (close_unless w u o).world
seen_closed_unless t w u None = seen_closed t w u
seen_closed_unless t w u (Some n) = seen_same t w

seen_signalled : (t : Topology) (w : World) (o : Option ℕ) → IsSeenAfter t w (signal_unless w o).world
seen_signalled t w None = seen_same t w
seen_signalled t w (Some n) = seen_same t w

-- a command that is no request leaves what is seen
pub seen_executed : (t : Topology) (w : World) (client : ℕ) (c : Command) → IsLawful t w → IsNoRequest c
    → IsSeenAfter t w (execute t w client c).world
unfolding execute
seen_executed t w client (command.Buffer label width height format pattern) lawful other = seen_made_unless client label
    (content.Buffer width height format pattern) (new_buffer_refusal w.things width height format) lawful
seen_executed t w client (command.AddFb label buffer) lawful other = seen_added client label (buffer_of w.things client buffer) lawful
seen_executed t w client (command.Mode label m) lawful other = seen_made client label (content.Mode m) lawful
seen_executed t w client (command.Blob label bytes) lawful other = seen_made client label (content.Blob bytes) lawful
seen_executed t w client (command.Destroy label) lawful other = seen_closed_unless t w (thing_labelled w.things label)
    (destroy_refusal client (thing_labelled w.things label))
seen_executed t w client (command.CloseFb label) lawful other = seen_closed_unless t w (thing_labelled w.things label)
    (close_refusal client (thing_labelled w.things label))
seen_executed t w client (command.Fence label) lawful other = seen_made client label content.Fence lawful
seen_executed t w client (command.Signal label) lawful other = seen_signalled t w (signal_refusal (thing_labelled w.things label))
seen_executed t w client (command.Atomic r) lawful other = absurd other
seen_executed t w client command.Wait lawful other = seen_same t w

-- a device stands after a command that is no request
stands_executed : (t : Topology) (w after : World) (d : Duplicates) (client : ℕ) (c : Command) → IsNoRequest c
    → (execute t w client c).world ≡ after → StandsInWorld t w d → StandsInWorld t after d
stands_executed t w after d client c other is stands =
    let seen = seen_executed t w client c stands.lawful other in
    subst (λ (v : World). StandsInWorld t v d) is (record {
      device = stands.device;
      lawful = execution_keeps_lawful t w client c stands.lawful;
      framed = execution_keeps_framed t w client c stands.lawful.numbered.things stands.framed;
      present = present_seen t w (execute t w client c).world d seen.values seen.alike stands.present;
    })

abbrev Answers : Topology → World → World → ℕ → Command → Result Reply NoMemory → Type 0
Answers t w after client c R = IfOk R (λ r. execute t w client c ≡ record { world = after; reply = r })

-- the same by what is answered
pub stands_after : (t : Topology) (w after : World) (d : Duplicates) (client : ℕ) (c : Command) (R : Result Reply NoMemory) → IsNoRequest c
    → IfOk R (λ r. (u : Topology) → execute u w client c ≡ record { world = after; reply = r }) → OnErr R (after ≡ w) → StandsInWorld t w d
    → StandsInWorld t after d
stands_after t w after d client c (Ok r) other is same stands = stands_executed t w after d client c other
    (ap (λ (e : Executed). e.world) (is t)) stands
stands_after t w after d client c (Err e) other is same stands = subst (λ (v : World). StandsInWorld t v d) (sym same) stands

pub grows_after : {t : Topology} {w : World} (after : World) (client : ℕ) (c : Command) (R : Result Reply NoMemory) → IsNoRequest c →
    IsLawful t w
    → IfOk R (λ r. (u : Topology) → execute u w client c ≡ record { world = after; reply = r }) → OnOk R (Grows w after)
grows_after {t} {w} after client c (Ok r) other lawful is = subst (λ (v : World). Grows w v) (ap (λ (e : Executed). e.world) (is t))
    (seen_executed t w client c lawful other).grows
grows_after after client c (Err e) other lawful is = tt
