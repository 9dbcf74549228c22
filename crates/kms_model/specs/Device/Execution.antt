-- What a command does on the device of one thread, and what is answered to it. From: "Atomic Mode Setting", "KMS
-- Properties", "Dumb Buffer Objects", "Frame Buffer Abstraction", "Explicit Fencing Properties".
use Rattle.std.specs.Prelude.{ℕ, ◌+◌, Bool, true, false, not, ◌&&◌, ◌==◌, nat_lt, List, [], ◌∷◌, ◌++◌, Option, Some, None, if◌then◌else◌}
use Rattle.kms_model.specs.declared.objects.Format.{Format}
use Rattle.kms_model.specs.declared.objects.Kind.TheVariants.{Crtc}
use Rattle.kms_model.specs.declared.objects.Topology.{Topology}
use Rattle.kms_model.specs.declared.replies.Reply.{Reply}
use Rattle.kms_model.specs.declared.replies.Reply.TheVariants as reply
use Rattle.kms_model.specs.declared.scripts.Assign.{Assign}
use Rattle.kms_model.specs.declared.scripts.Command.{Command}
use Rattle.kms_model.specs.declared.scripts.Command.TheVariants as command
use Rattle.kms_model.specs.declared.scripts.Request.{Request}
use Rattle.kms_model.specs.declared.worlds.Content.{Content}
use Rattle.kms_model.specs.declared.worlds.Content.TheVariants as content
use Rattle.kms_model.specs.declared.worlds.Thing.{Thing}
use Rattle.kms_model.specs.declared.worlds.World.{World}
use Rattle.kms_model.specs.declared.replies.TheConstants.Denied.{INVALID_SIZE, NO_BUFFER_SPACE, NOT_FOUND, NOT_OWNER, NOT_SIGNALLABLE}
use Rattle.kms_model.specs.Firsts.{or_else, denied_if}
use Rattle.kms_model.specs.Request.Flags.{is_test}
use Rattle.kms_model.specs.Device.Objects.{ids_of}
use Rattle.kms_model.specs.Device.World.{thing_labelled}
use Rattle.kms_model.specs.Request.Apply.{after}
use Rattle.kms_model.specs.Device.Closing.{closed_in}
use Rattle.kms_model.specs.Script.Words.{◌>>=◌}
use Rattle.kms_model.specs.Things.Kept.{is_bad_size, area_bytes, largest_bytes}
use Rattle.kms_model.specs.Request.Touched.{out_fence_label}
use Rattle.kms_model.specs.Request.Verdict.{verdict}

-- what a command leaves and what is answered to it
pub record Executed : Type 0 where
  pub world : World
  pub reply : Reply

-- one thing more, with the next id
abbrev pub make : World → ℕ → ℕ → Content → Executed
make w owner label content = record {
  world = record w {
    things = w.things ++ record { label = label; id = w.next_id; owner = owner; content = content; is_open = true }
        ∷ [];
    next_id = w.next_id + 1;
  };
  reply = reply.Made w.next_id;
}

-- nothing changes
abbrev pub answer : World → Reply → Executed
answer w r = record { world = w; reply = r }

-- a thing is made, unless a number refuses it
abbrev pub make_unless : World → ℕ → ℕ → Content → Option ℕ → Executed
make_unless w owner label content None = make w owner label content
make_unless w owner label content (Some n) = answer w (reply.Denied n)

-- the id, the width, the height and the format of a buffer
pub record BufferInfo : Type 0 where
  pub id : ℕ
  pub width : ℕ
  pub height : ℕ
  pub format : Format

abbrev pub buffer_info : ℕ → Content → Option BufferInfo
buffer_info id (content.Buffer width height format pattern) = Some (record { id = id; width = width; height = height; format = format })
buffer_info id _ = None

-- the buffer of a client with a label
abbrev pub buffer_of : List Thing → ℕ → ℕ → Option BufferInfo
buffer_of things client label = do
  t ← thing_labelled things label
  if t.owner == client then buffer_info t.id t.content else None

-- A framebuffer of a buffer, in its size and format. 33: the label is no buffer of this client.
abbrev pub add_fb : World → ℕ → ℕ → Option BufferInfo → Executed
add_fb w client label None = answer w (reply.Denied NOT_FOUND.0)
add_fb w client label (Some b) = make w client label
    (content.Framebuffer (record { id = w.next_id; width = b.width; height = b.height; format = b.format }) b.id)

-- the bytes of a thing's words: those of a buffer, 0 of any other thing
abbrev pub buffer_bytes : Content → ℕ
buffer_bytes (content.Buffer width height format pattern) = area_bytes width height format
buffer_bytes (content.Framebuffer info buffer) = 0
buffer_bytes (content.Mode m) = 0
buffer_bytes (content.Blob bytes) = 0
buffer_bytes content.Fence = 0
buffer_bytes content.OutFence = 0

-- the bytes of all buffers that were made: buffers last for the whole run
abbrev pub all_bytes : List Thing → ℕ
all_bytes [] = 0
all_bytes (t ∷ ts) = buffer_bytes t.content + all_bytes ts

-- What is wrong with a new buffer: a side is 0 or above 4096; the bytes of all buffers would pass 268435456.
abbrev pub new_buffer_refusal : List Thing → ℕ → ℕ → Format → Option ℕ
new_buffer_refusal things width height format =
    or_else (denied_if INVALID_SIZE (is_bad_size width height))
    (denied_if NO_BUFFER_SPACE (nat_lt largest_bytes (all_bytes things + area_bytes width height format)))

abbrev pub is_blob : Content → Bool
is_blob (content.Mode m) = true
is_blob (content.Blob bytes) = true
is_blob (content.Buffer width height format pattern) = false
is_blob (content.Framebuffer info buffer) = false
is_blob content.Fence = false
is_blob content.OutFence = false

abbrev pub is_framebuffer : Content → Bool
is_framebuffer (content.Framebuffer info buffer) = true
is_framebuffer (content.Buffer width height format pattern) = false
is_framebuffer (content.Mode m) = false
is_framebuffer (content.Blob bytes) = false
is_framebuffer content.Fence = false
is_framebuffer content.OutFence = false

abbrev pub is_made_fence : Content → Bool
is_made_fence content.Fence = true
is_made_fence content.OutFence = false
is_made_fence (content.Buffer width height format pattern) = false
is_made_fence (content.Framebuffer info buffer) = false
is_made_fence (content.Mode m) = false
is_made_fence (content.Blob bytes) = false

-- What is wrong with destroying a thing: it is no open blob; it is another client's.
abbrev pub destroy_refusal : ℕ → Option Thing → Option ℕ
destroy_refusal client None = Some NOT_FOUND.0
destroy_refusal client (Some t) =
    or_else (denied_if NOT_FOUND (not (is_blob t.content && t.is_open)))
    (denied_if NOT_OWNER (not (t.owner == client)))

-- What is wrong with closing a thing: it is no open framebuffer of this client.
abbrev pub close_refusal : ℕ → Option Thing → Option ℕ
close_refusal client None = Some NOT_FOUND.0
close_refusal client (Some t) = denied_if NOT_FOUND (not (is_framebuffer t.content && (t.is_open && (t.owner == client))))

-- What is wrong with signalling a thing: it is no fence that a `fence` command made.
abbrev pub signal_refusal : Option Thing → Option ℕ
signal_refusal None = Some NOT_SIGNALLABLE.0
signal_refusal (Some t) = denied_if NOT_SIGNALLABLE (not (is_made_fence t.content))

-- a thing is closed, unless a number refuses it
abbrev pub close : World → Option Thing → World
close w None = w
close w (Some t) = record w { things = closed_in w.things t.id }

abbrev pub close_unless : World → Option Thing → Option ℕ → Executed
close_unless w t None = answer (close w t) reply.Done
close_unless w t (Some n) = answer w (reply.Denied n)

abbrev pub destroy : World → ℕ → Option Thing → Executed
destroy w client t = close_unless w t (destroy_refusal client t)

abbrev pub close_fb : World → ℕ → Option Thing → Executed
close_fb w client t = close_unless w t (close_refusal client t)

-- a fence is signalled, which no value and no thing tells, unless a number refuses it
abbrev pub signal_unless : World → Option ℕ → Executed
signal_unless w None = answer w reply.Done
signal_unless w (Some n) = answer w (reply.Denied n)

-- the out-fence of a CRTC, under the label that was asked for, if any
abbrev pub make_out_fence : ℕ → World → Option ℕ → World
make_out_fence client w None = w
make_out_fence client w (Some label) = (make w client label content.OutFence).world

-- the out-fences that a request asks for, in order of CRTC, with the next ids
abbrev pub make_out_fences : ℕ → List Assign → World → List ℕ → World
make_out_fences client assigns w [] = w
make_out_fences client assigns w (crtc ∷ crtcs) = make_out_fences client assigns (make_out_fence client w (out_fence_label assigns crtc))
    crtcs

-- the values of an accepted request hold, its out-fences are made, and the number of commits before it is answered
abbrev pub committed : Topology → World → ℕ → Request → Executed
committed t w client r = record {
  world = make_out_fences client r.assigns (record w { values = after w r; commits = w.commits + 1 }) (ids_of t Crtc);
  reply = reply.Commit w.commits;
}

-- A request that is refused changes nothing, and neither does one that is only tested.
abbrev pub commit : Topology → World → ℕ → Request → Option ℕ → Executed
commit t w client r None = if is_test r.flags then answer w reply.Tested else committed t w client r
commit t w client r (Some n) = answer w (reply.Refused (record { 0 = n }))

-- One command of a client. (`wait` changes nothing, and what is answered to it is not the device's of one thread.)
unfoldable pub execute : Topology → World → ℕ → Command → Executed
execute t w client (command.Buffer label width height format pattern) = make_unless w client label
    (content.Buffer width height format pattern) (new_buffer_refusal w.things width height format)
execute t w client (command.AddFb label buffer) = add_fb w client label (buffer_of w.things client buffer)
execute t w client (command.Mode label m) = make w client label (content.Mode m)
execute t w client (command.Blob label bytes) = make w client label (content.Blob bytes)
execute t w client (command.Destroy label) = destroy w client (thing_labelled w.things label)
execute t w client (command.CloseFb label) = close_fb w client (thing_labelled w.things label)
execute t w client (command.Fence label) = make w client label content.Fence
execute t w client (command.Signal label) = signal_unless w (signal_refusal (thing_labelled w.things label))
execute t w client (command.Atomic r) = commit t w client r (verdict t w r)
execute t w client command.Wait = answer w reply.NoEvent
