-- Things stay, with their content, under each command; so does what is read of a framebuffer.
use Rattle.std.proofs.Common.{◌≡◌, ℕ, ◌+◌, Bool, true, false, cond, ◌==◌, List, [], ◌∷◌, ◌++◌, Option, Some, None, refl, sym, ap, ◌∙◌, inl}
use Rattle.std.proofs.Common.{inr}
use Rattle.std.specs.Option.{option_map}
use Rattle.std.proofs.lemmas.Bool.{cases_Bool, cond-true, cond-false}
use Rattle.kms_model.specs.declared.objects.Kind.TheVariants.{Crtc}
use Rattle.kms_model.specs.declared.objects.Topology.{Topology}
use Rattle.kms_model.specs.declared.replies.Reply.TheVariants as reply
use Rattle.kms_model.specs.declared.scripts.Assign.{Assign}
use Rattle.kms_model.specs.declared.scripts.Command.{Command}
use Rattle.kms_model.specs.declared.scripts.Command.TheVariants as command
use Rattle.kms_model.specs.declared.scripts.Request.{Request}
use Rattle.kms_model.specs.declared.scripts.Script.{Script}
use Rattle.kms_model.specs.declared.worlds.Content.{Content}
use Rattle.kms_model.specs.declared.worlds.Content.TheVariants as content
use Rattle.kms_model.specs.declared.worlds.Thing.{Thing}
use Rattle.kms_model.specs.declared.worlds.World.{World}
use Rattle.kms_model.specs.Device.Closing.{closed_if, closed_in}
use Rattle.kms_model.specs.Device.Execution.{BufferInfo, add_fb, answer, buffer_of, close, close_refusal, close_unless, commit, committed}
use Rattle.kms_model.specs.Device.Execution.{destroy_refusal, execute, make, make_out_fence, make_out_fences, make_unless}
use Rattle.kms_model.specs.Device.Execution.{new_buffer_refusal, signal_refusal, signal_unless}
use Rattle.kms_model.specs.Device.Objects.{ids_of}
use Rattle.kms_model.specs.Device.Serial.{Entry, command_of, execute_in, serial_from}
use Rattle.kms_model.specs.Device.World.{thing_labelled, thing_with_id}
use Rattle.kms_model.specs.Frames.FrameBytes.{buffer_id_in}
use Rattle.kms_model.specs.Frames.Images.{image_of, seen_in}
use Rattle.kms_model.specs.Request.Apply.{after}
use Rattle.kms_model.specs.Request.Flags.{is_test}
use Rattle.kms_model.specs.Request.Touched.{out_fence_label}
use Rattle.kms_model.specs.Request.Verdict.{verdict}
use Rattle.kms_model.specs.Script.Words.{◌>>=◌}
use Rattle.kms_model.specs.Things.Kept.{Seen}
use Rattle.kms_model.proofs.FramedLemmas.{closed_same}
use Rattle.kms_laws.proofs.Closed.{closed_with_id}

-- there is a thing with an id and a content
pub record HasContent (things : List Thing) (id : ℕ) (c : Content) : Type 0 where
  pub thing : Thing
  pub found : thing_with_id things id ≡ Some thing
  pub same : thing.content ≡ c

-- each thing is still there, with its content
abbrev pub Stay : List Thing → List Thing → Type 0
Stay old new = (id : ℕ) (t : Thing) → thing_with_id old id ≡ Some t → HasContent new id t.content

pub stay-self : (things : List Thing) → Stay things things
stay-self things id t found = record { thing = t; found = found; same = refl }

pub stay-trans : (a b c : List Thing) → Stay a b → Stay b c → Stay a c
stay-trans a b c first second id t found =
    let one = first id t found in
    let other = second id one.thing one.found in
    record { thing = other.thing; found = other.found; same = other.same ∙ one.same }

-- one thing more

found-push : (things : List Thing) (u : Thing) (id : ℕ) (t : Thing) → thing_with_id things id ≡ Some t → thing_with_id (things ++ u ∷ []) id
    ≡ Some t
found-push [] u id t found = absurd cc
found-push (x ∷ xs) u id t found = elim (cases_Bool (x.id == id)) [
  | inl here ↦ cond-true (x.id == id) (Some x) (thing_with_id (xs ++ u ∷ []) id) here ∙ sym
      (cond-true (x.id == id) (Some x) (thing_with_id xs id) here) ∙ found
  | inr away ↦
      cond-false (x.id == id) (Some x) (thing_with_id (xs ++ u ∷ []) id) away
      ∙ found-push xs u id t (sym (cond-false (x.id == id) (Some x) (thing_with_id xs id) away) ∙ found)
]

stay-push : (things : List Thing) (u : Thing) → Stay things (things ++ u ∷ [])
stay-push things u id t found = record { thing = t; found = found-push things u id t found; same = refl }

-- a thing that is closed

stay-closed : (things : List Thing) (at : ℕ) → Stay things (closed_in things at)
stay-closed things at id t found = record {
  thing = closed_if at t;
  found = closed_with_id things at id ∙ ap (option_map (closed_if at))
      found;
  same = (closed_same at t).content;
}

-- Commands

stay-make : (w : World) (owner label : ℕ) (c : Content) → Stay w.things (make w owner label c).world.things
stay-make w owner label c = stay-push w.things (record { label = label; id = w.next_id; owner = owner; content = c; is_open = true })

stay-make_unless : (w : World) (owner label : ℕ) (c : Content) (o : Option ℕ) → Stay w.things (make_unless w owner label c o).world.things
stay-make_unless w owner label c None = stay-make w owner label c
stay-make_unless w owner label c (Some n) = stay-self w.things

stay-add_fb : (w : World) (client label : ℕ) (o : Option BufferInfo) → Stay w.things (add_fb w client label o).world.things
stay-add_fb w client label None = stay-self w.things
stay-add_fb w client label (Some b) = stay-make w client label _

stay-close : (w : World) (o : Option Thing) → Stay w.things (close w o).things
stay-close w None = stay-self w.things
stay-close w (Some t) = stay-closed w.things t.id

stay-close_unless : (w : World) (t : Option Thing) (o : Option ℕ) → Stay w.things (close_unless w t o).world.things
stay-close_unless w t None = stay-close w t
stay-close_unless w t (Some n) = stay-self w.things

stay-signal : (w : World) (o : Option ℕ) → Stay w.things (signal_unless w o).world.things
stay-signal w None = stay-self w.things
stay-signal w (Some n) = stay-self w.things

stay-out_fence : (client : ℕ) (w : World) (label : Option ℕ) → Stay w.things (make_out_fence client w label).things
stay-out_fence client w None = stay-self w.things
stay-out_fence client w (Some label) = stay-make w client label content.OutFence

stay-out_fences : (client : ℕ) (assigns : List Assign) (w : World) (crtcs : List ℕ)
    → Stay w.things (make_out_fences client assigns w crtcs).things
stay-out_fences client assigns w [] = stay-self w.things
stay-out_fences client assigns w (crtc ∷ crtcs) =
    let v = make_out_fence client w (out_fence_label assigns crtc) in
    stay-trans w.things v.things (make_out_fences client assigns v crtcs).things (stay-out_fence client w (out_fence_label assigns crtc))
    (stay-out_fences client assigns v crtcs)

stay-tested : (t : Topology) (w : World) (client : ℕ) (r : Request) (test : Bool)
    → Stay w.things (cond test (answer w reply.Tested) (committed t w client r)).world.things
stay-tested t w client r true = stay-self w.things
stay-tested t w client r false = stay-out_fences client r.assigns (record w { values = after w r; commits = w.commits + 1 }) (ids_of t Crtc)

stay-commit : (t : Topology) (w : World) (client : ℕ) (r : Request) (o : Option ℕ) → Stay w.things (commit t w client r o).world.things
stay-commit t w client r None = stay-tested t w client r (is_test r.flags)
stay-commit t w client r (Some n) = stay-self w.things

pub stay-execute : (t : Topology) (w : World) (client : ℕ) (c : Command) → Stay w.things (execute t w client c).world.things
unfolding execute
stay-execute t w client (command.Buffer label width height format pattern) = stay-make_unless w client label
    (content.Buffer width height format pattern) (new_buffer_refusal w.things width height format)
stay-execute t w client (command.AddFb label buffer) = stay-add_fb w client label (buffer_of w.things client buffer)
stay-execute t w client (command.Mode label m) = stay-make w client label (content.Mode m)
stay-execute t w client (command.Blob label bytes) = stay-make w client label (content.Blob bytes)
stay-execute t w client (command.Destroy label) = stay-close_unless w (thing_labelled w.things label)
    (destroy_refusal client (thing_labelled w.things label))
stay-execute t w client (command.CloseFb label) = stay-close_unless w (thing_labelled w.things label)
    (close_refusal client (thing_labelled w.things label))
stay-execute t w client (command.Fence label) = stay-make w client label content.Fence
stay-execute t w client (command.Signal label) = stay-signal w (signal_refusal (thing_labelled w.things label))
stay-execute t w client (command.Atomic r) = stay-commit t w client r (verdict t w r)
stay-execute t w client command.Wait = stay-self w.things

-- Journals

pub stay-entry : (t : Topology) (w : World) (client : ℕ) (o : Option Command) → Stay w.things (execute_in t w client o).things
stay-entry t w client None = stay-self w.things
stay-entry t w client (Some c) = stay-execute t w client c

pub stay-serial : (s : Script) (w : World) (es : List Entry) → Stay w.things (serial_from s w es).things
unfolding serial_from
stay-serial s w [] = stay-self w.things
stay-serial s w (e ∷ es) =
    let v = execute_in s.topology w e.client (command_of s e) in
    stay-trans w.things v.things (serial_from s v es).things (stay-entry s.topology w e.client (command_of s e)) (stay-serial s v es)

-- Images

module _ (old new : List Thing) (stay : Stay old new) where
  buffer_seen : List Thing → Option ℕ → Option Seen
  buffer_seen things o = do
    id ← o
    b ← thing_with_id things id
    seen_in b.content

  of_thing : (id : ℕ) (seen : Seen) (o : Option Thing) → thing_with_id old id ≡ o → (o >>= (λ b. seen_in b.content)) ≡ Some seen
      → (thing_with_id new id >>= (λ b. seen_in b.content)) ≡ Some seen
  of_thing id seen None found e = absurd cc
  of_thing id seen (Some b) found e = let k = stay id b found in rw k.found (ap seen_in k.same ∙ e)

  of_buffer : (seen : Seen) (o : Option ℕ) → buffer_seen old o ≡ Some seen → buffer_seen new o ≡ Some seen
  unfolding buffer_seen
  of_buffer seen None e = absurd cc
  of_buffer seen (Some id) e = of_thing id seen (thing_with_id old id) refl e

  of_framebuffer : (fb : ℕ) (seen : Seen) (o : Option Thing) → thing_with_id old fb ≡ o
      → (o >>= (λ f. buffer_id_in f.content >>= (λ id. thing_with_id old id >>= (λ b. seen_in b.content)))) ≡ Some seen → image_of new fb
      ≡ Some seen
  unfolding buffer_seen
  of_framebuffer fb seen None found e = absurd cc
  of_framebuffer fb seen (Some f) found e =
      let k = stay fb f found in
      rw k.found (ap (buffer_seen new) (ap buffer_id_in k.same) ∙ of_buffer seen (buffer_id_in f.content) e)

  -- what is read of a framebuffer stays
  pub image-stays : (fb : ℕ) (seen : Seen) → image_of old fb ≡ Some seen → image_of new fb ≡ Some seen
  image-stays fb seen e = of_framebuffer fb seen (thing_with_id old fb) refl e
