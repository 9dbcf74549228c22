-- The device of one thread executes a journal's commands one after the other.
use Rattle.std.proofs.Common.{◌≡◌, ℕ, Bool, true, false, cond, List, [], ◌∷◌, ◌++◌, Option, Some, None, refl}
use Rattle.kms_model.specs.declared.objects.Topology.{Topology}
use Rattle.kms_model.specs.declared.scripts.Command.{Command}
use Rattle.kms_model.specs.declared.scripts.Command.TheVariants as command
use Rattle.kms_model.specs.declared.objects.Format.{Format}
use Rattle.kms_model.specs.declared.replies.Reply.TheVariants as reply
use Rattle.kms_model.specs.declared.scripts.Pattern.{Pattern}
use Rattle.kms_model.specs.declared.scripts.Request.{Request}
use Rattle.kms_model.specs.declared.worlds.Content.TheVariants as content
use Rattle.kms_model.specs.declared.scripts.Script.{Script}
use Rattle.kms_model.specs.declared.worlds.Thing.{Thing}
use Rattle.kms_model.specs.declared.worlds.World.{World}
use Rattle.kms_model.specs.Device.World.{thing_labelled}
use Rattle.kms_model.specs.Request.Flags.{is_test}
use Rattle.kms_model.specs.Request.Verdict.{verdict}
use Rattle.kms_model.specs.Device.Execution.{Executed, BufferInfo, answer, make_unless, new_buffer_refusal, committed, commit, add_fb}
use Rattle.kms_model.specs.Device.Execution.{buffer_of, close_unless, destroy_refusal, close_refusal, signal_unless, signal_refusal}
use Rattle.kms_model.specs.Device.Execution.{execute}
use Rattle.kms_model.specs.Device.Serial.{Entry, is_accepted, shown_by, command_of, execute_in, serial_from}

-- What is not accepted changes nothing and shows nothing.

abbrev pub ChangesNothing : Topology → ℕ → World → Command → Executed → Type 0
ChangesNothing t crtc w c e = (e.world ≡ w) × (shown_by t crtc w.values c e ≡ None)

tested_request : (t : Topology) (crtc : ℕ) (w : World) (client : ℕ) (r : Request) (b : Bool)
    → is_accepted (cond b (answer w reply.Tested) (committed t w client r)).reply ≡ false
    → ChangesNothing t crtc w (command.Atomic r) (cond b (answer w reply.Tested) (committed t w client r))
tested_request t crtc w client r true e = (refl, refl)
tested_request t crtc w client r false e = absurd cc

denied_thing : (t : Topology) (crtc : ℕ) (w : World) (client label width height : ℕ) (format : Format) (pattern : Pattern) (o : Option ℕ)
    → is_accepted (make_unless w client label (content.Buffer width height format pattern) o).reply ≡ false
    → ChangesNothing t crtc w (command.Buffer label width height format pattern)
    (make_unless w client label (content.Buffer width height format pattern) o)
denied_thing t crtc w client label width height format pattern None e = absurd cc
denied_thing t crtc w client label width height format pattern (Some n) e = (refl, refl)

refused_request : (t : Topology) (crtc : ℕ) (w : World) (client : ℕ) (r : Request) (o : Option ℕ)
    → is_accepted (commit t w client r o).reply ≡ false → ChangesNothing t crtc w (command.Atomic r) (commit t w client r o)
refused_request t crtc w client r None e = tested_request t crtc w client r (is_test r.flags) e
refused_request t crtc w client r (Some n) e = (refl, refl)

denied_framebuffer : (t : Topology) (crtc : ℕ) (w : World) (client label buffer : ℕ) (o : Option BufferInfo)
    → is_accepted (add_fb w client label o).reply ≡ false → ChangesNothing t crtc w (command.AddFb label buffer) (add_fb w client label o)
denied_framebuffer t crtc w client label buffer None e = (refl, refl)
denied_framebuffer t crtc w client label buffer (Some b) e = absurd cc

denied_destroy : (t : Topology) (crtc : ℕ) (w : World) (label : ℕ) (thing : Option Thing) (o : Option ℕ)
    → is_accepted (close_unless w thing o).reply ≡ false → ChangesNothing t crtc w (command.Destroy label) (close_unless w thing o)
denied_destroy t crtc w label thing None e = absurd cc
denied_destroy t crtc w label thing (Some n) e = (refl, refl)

denied_close : (t : Topology) (crtc : ℕ) (w : World) (label : ℕ) (thing : Option Thing) (o : Option ℕ)
    → is_accepted (close_unless w thing o).reply ≡ false → ChangesNothing t crtc w (command.CloseFb label) (close_unless w thing o)
denied_close t crtc w label thing None e = absurd cc
denied_close t crtc w label thing (Some n) e = (refl, refl)

signalled : (t : Topology) (crtc : ℕ) (w : World) (label : ℕ) (o : Option ℕ)
    → ChangesNothing t crtc w (command.Signal label) (signal_unless w o)
signalled t crtc w label None = (refl, refl)
signalled t crtc w label (Some n) = (refl, refl)

pub unaccepted : (t : Topology) (crtc : ℕ) (w : World) (client : ℕ) (c : Command) → is_accepted (execute t w client c).reply ≡ false
    → ChangesNothing t crtc w c (execute t w client c)
unfolding execute
unaccepted t crtc w client (command.Buffer label width height format pattern) e = denied_thing t crtc w client label width height format
    pattern (new_buffer_refusal w.things width height format) e
unaccepted t crtc w client (command.AddFb label buffer) e = denied_framebuffer t crtc w client label buffer
    (buffer_of w.things client buffer) e
unaccepted t crtc w client (command.Mode label m) e = absurd cc
unaccepted t crtc w client (command.Blob label bytes) e = absurd cc
unaccepted t crtc w client (command.Destroy label) e = denied_destroy t crtc w label (thing_labelled w.things label)
    (destroy_refusal client (thing_labelled w.things label)) e
unaccepted t crtc w client (command.CloseFb label) e = denied_close t crtc w label (thing_labelled w.things label)
    (close_refusal client (thing_labelled w.things label)) e
unaccepted t crtc w client (command.Fence label) e = absurd cc
unaccepted t crtc w client (command.Signal label) e = signalled t crtc w label (signal_refusal (thing_labelled w.things label))
unaccepted t crtc w client (command.Atomic r) e = refused_request t crtc w client r (verdict t w r) e
unaccepted t crtc w client command.Wait e = (refl, refl)

pub serial_last : (s : Script) (w : World) (journal : List Entry) (e : Entry) → serial_from s w (journal ++ e ∷ [])
    ≡ execute_in s.topology (serial_from s w journal) e.client (command_of s e)
unfolding serial_from
serial_last s w [] e = refl
serial_last s w (f ∷ fs) e = serial_last s (execute_in s.topology w f.client (command_of s f)) fs e
