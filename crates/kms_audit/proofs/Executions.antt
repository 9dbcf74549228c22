-- What the device of one thread does with a command: when it is accepted, and what stays of the values and of the number of commits.
use Rattle.std.proofs.Common.{◌≡◌, ℕ, ◌+◌, ◌≤◌, Bool, true, false, List, [], ◌∷◌, Option, Some, None, refl, sym, ap, ◌∙◌}
use Rattle.std.proofs.Common.{subst, arith}
use Rattle.std.proofs.lemmas.Bool.{cond-false}
use Rattle.std.specs.Prelude.{◌&&◌, is_none, not}
use Rattle.std.specs.Option.{option_and_then}
use Rattle.kms_laws.proofs.Modes.{from_one-in}
use Rattle.kms_model.proofs.Facts.{by_recursion-at}
use Rattle.kms_model.specs.declared.objects.Topology.{Topology}
use Rattle.kms_model.specs.declared.replies.Reply.TheVariants as reply
use Rattle.kms_model.specs.declared.scripts.Assign.{Assign}
use Rattle.kms_model.specs.declared.scripts.Command.{Command}
use Rattle.kms_model.specs.declared.scripts.Command.TheVariants as command
use Rattle.kms_model.specs.declared.scripts.Request.{Request}
use Rattle.kms_model.specs.declared.scripts.Script.{Script}
use Rattle.kms_model.specs.declared.worlds.World.{World}
use Rattle.kms_model.specs.Device.Execution.{Executed, BufferInfo, add_fb, answer, buffer_of, close_refusal, close_unless, commit}
use Rattle.kms_model.specs.Device.Execution.{committed, destroy_refusal, execute, make_out_fence, make_out_fences, make_unless}
use Rattle.kms_model.specs.Device.Execution.{new_buffer_refusal, signal_refusal, signal_unless}
use Rattle.kms_model.specs.Device.Objects.{ids_of}
use Rattle.kms_model.specs.declared.objects.Kind.TheVariants.{Crtc}
use Rattle.kms_model.specs.Device.Serial.{Entry, command_of, from_one, is_accepted}
use Rattle.kms_model.specs.Device.World.{thing_labelled}
use Rattle.kms_model.specs.declared.worlds.Content.{Content}
use Rattle.kms_model.specs.declared.worlds.Content.TheVariants as content
use Rattle.kms_model.specs.declared.worlds.Thing.{Thing}
use Rattle.kms_model.specs.Machine.State.{request_in}
use Rattle.kms_model.specs.Report.RightAnswers.{is_entered_in}
use Rattle.kms_model.specs.Request.Apply.{after}
use Rattle.kms_model.specs.Request.Flags.{is_test}
use Rattle.kms_model.specs.Request.Touched.{out_fence_label}
use Rattle.kms_model.specs.Request.Verdict.{verdict}
use Rattle.kms_model.specs.Script.WellFormed.{IsFitClient, IsFitCommand, IsWellFormed}
use Rattle.kms_laws.proofs.Sizes.{from_one-within}

-- A request

committed_if : (t : Topology) (w : World) (client : ℕ) (q : Request) (o : Option ℕ)
    → is_accepted (commit t w client q o).reply ≡ (is_none o && not (is_test q.flags))
committed_if t w client q (Some n) = refl
committed_if t w client q None = tested (is_test q.flags) refl where
  tested : (b : Bool) → is_test q.flags ≡ b → is_accepted (commit t w client q None).reply ≡ (true && not b)
  tested true e = rw e refl
  tested false e = rw e refl

pub entered-request : (t : Topology) (w : World) (client : ℕ) (q : Request)
    → is_entered_in t w client (Some (command.Atomic q)) ≡ (is_none (verdict t w q) && not (is_test q.flags))
unfolding execute
entered-request t w client q = committed_if t w client q (verdict t w q)

pub record Fences (w v : World) : Type 0 where
  pub values : v.values ≡ w.values
  pub commits : v.commits ≡ w.commits

one_fence : (client : ℕ) (w : World) (o : Option ℕ) → Fences w (make_out_fence client w o)
one_fence client w None = record { values = refl; commits = refl }
one_fence client w (Some label) = record { values = refl; commits = refl }

fences : (client : ℕ) (assigns : List Assign) (w : World) (crtcs : List ℕ) → Fences w (make_out_fences client assigns w crtcs)
fences client assigns w [] = record { values = refl; commits = refl }
fences client assigns w (crtc ∷ crtcs) =
    let one = one_fence client w (out_fence_label assigns crtc) in
    let rest = fences client assigns (make_out_fence client w (out_fence_label assigns crtc)) crtcs in
    record { values = rest.values ∙ one.values; commits = rest.commits ∙ one.commits }

-- an accepted request that is no test is committed
pub committed-executed : (t : Topology) (w : World) (client : ℕ) (q : Request) → verdict t w q ≡ None → is_test q.flags ≡ false
    → execute t w client (command.Atomic q) ≡ committed t w client q
unfolding execute
committed-executed t w client q none no_test =
    ap (commit t w client q) none ∙ cond-false (is_test q.flags) (answer w reply.Tested) (committed t w client q) no_test

-- an accepted request that is no test sets its values, and is one commit more
pub committed-world : (t : Topology) (w : World) (client : ℕ) (q : Request) → verdict t w q ≡ None → is_test q.flags ≡ false
    → Fences (record w { values = after w q; commits = w.commits + 1 }) (execute t w client (command.Atomic q)).world
committed-world t w client q none no_test =
    subst (λ (x : Executed). Fences (record w { values = after w q; commits = w.commits + 1 }) x.world)
    (sym (committed-executed t w client q none no_test))
    (fences client q.assigns (record w { values = after w q; commits = w.commits + 1 }) (ids_of t Crtc))

-- Another command commits nothing

unless_made : (w : World) (client label : ℕ) (c : Content) (o : Option ℕ) → (make_unless w client label c o).world.commits ≡ w.commits
unless_made w client label c None = refl
unless_made w client label c (Some n) = refl

framed : (w : World) (client label : ℕ) (o : Option BufferInfo) → (add_fb w client label o).world.commits ≡ w.commits
framed w client label None = refl
framed w client label (Some b) = refl

unless_closed : (w : World) (t : Option Thing) (o : Option ℕ) → (close_unless w t o).world.commits ≡ w.commits
unless_closed w None None = refl
unless_closed w (Some t) None = refl
unless_closed w t (Some n) = refl

unless_signalled : (w : World) (o : Option ℕ) → (signal_unless w o).world.commits ≡ w.commits
unless_signalled w None = refl
unless_signalled w (Some n) = refl

pub other-commits : (t : Topology) (w : World) (client : ℕ) (c : Command) → request_in (Some c) ≡ None
    → (execute t w client c).world.commits ≡ w.commits
unfolding execute
other-commits t w client (command.Buffer label width height format pattern) e =
    unless_made w client label (content.Buffer width height format pattern) (new_buffer_refusal w.things width height format)
other-commits t w client (command.AddFb label buffer) e = framed w client label (buffer_of w.things client buffer)
other-commits t w client (command.Mode label m) e = refl
other-commits t w client (command.Blob label bytes) e = refl
other-commits t w client (command.Destroy label) e = unless_closed w (thing_labelled w.things label)
    (destroy_refusal client (thing_labelled w.things label))
other-commits t w client (command.CloseFb label) e = unless_closed w (thing_labelled w.things label)
    (close_refusal client (thing_labelled w.things label))
other-commits t w client (command.Fence label) e = refl
other-commits t w client (command.Signal label) e = unless_signalled w (signal_refusal (thing_labelled w.things label))
other-commits t w client (command.Atomic q) e = absurd cc
other-commits t w client command.Wait e = refl

-- The commands of a script

-- a command of a script is of one of its clients, and may be executed
pub record IsOfScript (client : ℕ) (c : Command) : Type 0 where
  pub some : 1 ≤ client
  pub few : client ≤ 16
  pub fit : IsFitCommand c

pub of-script : (s : Script) (e : Entry) (c : Command) → IsWellFormed s → command_of s e ≡ Some c → IsOfScript e.client c
of-script s e c formed is = found (from_one s.clients e.client) refl is where
  found : (o : Option (List Command)) → from_one s.clients e.client ≡ o
      → option_and_then (λ commands. from_one commands e.command) o ≡ Some c → IsOfScript e.client c
  found None at f = absurd cc
  found (Some commands) at f =
      let place = from_one-within s.clients e.client commands at in
      record {
        some = place.0;
        few = omega (arith, place.1, formed.few);
        fit = by_recursion-at IsFitCommand commands c
            (by_recursion-at IsFitClient s.clients commands formed.clients (from_one-in s.clients e.client commands at)).fit
            (from_one-in commands e.command c f);
      }
