-- Worked examples of the requests that turn a device off and bring it back, computed; what cannot be brought back; false neighbours.
use Rattle.std.proofs.Common.{◌≡◌, ℕ, Bool, true, false, List, [], ◌∷◌, ◌++◌, map, length, refl, codes, replicate, Option, Some, None, Ok}
use Rattle.std.specs.Prelude.{reverse, not, ◌+◌, ◌&&◌, ◌==◌}
use Rattle.std.specs.List.{flat_map, range_with_len}
use Rattle.std.specs.Str.{bytes_eq}
use Rattle.kms_model.specs.declared.flags.TheConstants.{ALLOW_MODESET}
use Rattle.kms_model.specs.declared.objects.Kind.TheVariants as kind
use Rattle.kms_model.specs.declared.objects.Topology.{Topology}
use Rattle.kms_model.specs.declared.properties.TheConstants.{ACTIVE, MODE_ID, CRTC_ID, FB_ID}
use Rattle.kms_model.specs.declared.replies.Reply.TheVariants as reply
use Rattle.kms_model.specs.declared.scripts.Command.{Command}
use Rattle.kms_model.specs.declared.scripts.Command.TheVariants as command
use Rattle.kms_model.specs.declared.scripts.Request.{Request}
use Rattle.kms_model.specs.declared.scripts.Script.{Script}
use Rattle.kms_model.specs.declared.scripts.Value.TheVariants as given
use Rattle.kms_model.specs.declared.worlds.Thing.{Thing}
use Rattle.kms_model.specs.declared.worlds.World.{World}
use Rattle.kms_model.specs.Device.Execution.{is_framebuffer}
use Rattle.kms_model.specs.Device.ModeBytes.{mode_bytes}
use Rattle.kms_model.specs.Device.Modes.{plain_mode}
use Rattle.kms_model.specs.Device.Serial.{Entry, serial}
use Rattle.kms_model.specs.Device.World.{start}
use Rattle.kms_model.specs.Order.Suspending.{closed_object, conn_back, crtc_back, has_crtc_at, has_mode_at, indices_where, modeset}
use Rattle.kms_model.specs.Order.Suspending.{off_request, on_request, open_mode_label, plane_back}
use Rattle.kms_model.specs.Report.TextLines.{line}
use Rattle.kms_model.specs.Request.Apply.{after}
use Rattle.kms_model.specs.Script.Generated.{framebuffer_f, generated, generated_device, mode_m}
use Rattle.kms_model.specs.Script.Longer.{commands_of_last, extended, last_client, most_before_two, with_commands}
use Rattle.kms_model.specs.Script.Spelling.{command_words, spelling}
use Rattle.kms_model.specs.Script.WholeInput.{input}
use Rattle.kms_model.proofs.OneThread.{replies}
use Rattle.kms_model.proofs.OnSuspending.{on_suspending}
use Rattle.kms_model.proofs.Rows.{device, head, made, named_tiny, script}
use Rattle.kms_model.proofs.VerdictRows.{number, request, sets, three_made}

-- one client makes a framebuffer and a mode, and lights the CRTC
abbrev pub first : Script
first = script 0x400 0

abbrev entry : ℕ → ℕ → Entry
entry client n = record { client = client; command = n }

-- the world after the commands of a script with one client
abbrev pub world_of : Script → World
world_of s = serial s (map (entry 1) (range_with_len 1 (length (commands_of_last s.clients))))

-- the same script with more commands, and one name more
abbrev pub first_with : List Command → Script
first_with more = with_commands more (record {
  version = 1;
  topology = device;
  names = codes "b" ∷ codes "f" ∷ codes "m" ∷ codes "m2" ∷ [];
  clients = first.clients;
})

-- a request as the line of a command
abbrev request_line : Request → List ℕ
request_line r = line (command_words (first_with []).names (command.Atomic r))

abbrev on_line : Script → List ℕ
on_line s = request_line (on_request device (world_of s))

-- The first script

pub first_script_is_turned_off : off_request device (world_of first) ≡ modeset (
    sets kind.Plane 0 FB_ID (number 0)
    ∷ sets kind.Plane 0 CRTC_ID (number 0)
    ∷ sets kind.Conn 0 CRTC_ID (number 0)
    ∷ sets kind.Crtc 0 ACTIVE (number 0)
    ∷ sets kind.Crtc 0 MODE_ID (number 0)
    ∷ [])
unfolding on_suspending
first_script_is_turned_off = refl

pub first_script_is_brought_back : on_request device (world_of first) ≡ modeset (
    sets kind.Crtc 0 MODE_ID (given.Named 2)
    ∷ sets kind.Crtc 0 ACTIVE (number 1)
    ∷ sets kind.Conn 0 CRTC_ID (given.Crtc 0)
    ∷ sets kind.Plane 0 FB_ID (given.Named 1)
    ∷ sets kind.Plane 0 CRTC_ID (given.Crtc 0)
    ∷ [])
unfolding on_suspending
first_script_is_brought_back = refl

abbrev longer_text : List ℕ
longer_text = head ++ made ++ codes "atomic 0x400 0 crtc0.ACTIVE=1 crtc0.MODE_ID=@m conn0.CRTC_ID=crtc0 plane0.FB_ID=@f plane0.CRTC_ID=crtc0 plane0.CRTC_W=1 plane0.CRTC_H=1 plane0.SRC_W=65536 plane0.SRC_H=65536\natomic 0x400 0 plane0.FB_ID=0 plane0.CRTC_ID=0 conn0.CRTC_ID=0 crtc0.ACTIVE=0 crtc0.MODE_ID=0\natomic 0x400 0 crtc0.MODE_ID=@m crtc0.ACTIVE=1 conn0.CRTC_ID=crtc0 plane0.FB_ID=@f plane0.CRTC_ID=crtc0\n"

pub longer_script_is_spelt : spelling (extended first (world_of first)) ≡ longer_text
unfolding on_suspending
longer_script_is_spelt = refl

pub longer_script_is_read : input longer_text ≡ Ok (extended first (world_of first))
unfolding on_suspending
longer_script_is_read = refl

-- Both requests are accepted on the device of one thread.
pub both_requests_are_accepted : replies device (extended first (world_of first)).clients
    ≡ three_made ++ reply.Commit 0 ∷ reply.Commit 1 ∷ reply.Commit 2 ∷ []
unfolding on_suspending
both_requests_are_accepted = refl

-- a CRTC that has a mode and is not on
abbrev pub dark : Script
dark = record {
  version = 1;
  topology = device;
  names = codes "m" ∷ [];
  clients = (
      command.Mode 0 named_tiny
      ∷ request ALLOW_MODESET (sets kind.Crtc 0 MODE_ID (given.Named 0) ∷ sets kind.Conn 0 CRTC_ID (given.Crtc 0) ∷ [])
      ∷ []) ∷ [];
}

pub dark_crtc_stays_dark : on_request device (world_of dark) ≡ modeset (
    sets kind.Crtc 0 MODE_ID (given.Named 0)
    ∷ sets kind.Crtc 0 ACTIVE (number 0)
    ∷ sets kind.Conn 0 CRTC_ID (given.Crtc 0)
    ∷ [])
unfolding on_suspending
dark_crtc_stays_dark = refl

-- its plane, which is on no CRTC, is not set
pub dark_crtc_is_turned_off : off_request device (world_of dark) ≡ modeset (
    sets kind.Conn 0 CRTC_ID (number 0)
    ∷ sets kind.Crtc 0 ACTIVE (number 0)
    ∷ sets kind.Crtc 0 MODE_ID (number 0)
    ∷ [])
unfolding on_suspending
dark_crtc_is_turned_off = refl

-- a device of which nothing is on a CRTC and no CRTC has a mode
pub dark_device_sets_nothing : off_request device (start device) ∷ on_request device (start device) ∷ [] ≡ modeset [] ∷ modeset [] ∷ []
unfolding on_suspending
dark_device_sets_nothing = refl

-- what shows nothing lacks nothing
pub dark_things_are_not_told : map (closed_object device) (start device ∷ world_of dark ∷ []) ≡ None ∷ None ∷ []
unfolding on_suspending
dark_things_are_not_told = refl

-- a dark CRTC's mode is needed too
pub dark_mode_is_told : closed_object device (world_of (with_commands (command.Destroy 0 ∷ []) dark)) ≡ Some 100
unfolding on_suspending
dark_mode_is_told = refl

-- a client may have 4096 commands
pub two_more_fit : most_before_two + 2 ≡ 4096
two_more_fit = refl

-- the client that gets two more, counted from 1, also where it is added
pub added_client_is_the_first : map last_client (record first { clients = [] } ∷ first ∷ generated 0 0 ∷ []) ≡ 1 ∷ 1 ∷ 2 ∷ []
added_client_is_the_first = refl

-- two clients that light a CRTC each, with equal modes in blobs of their own
abbrev both_lit : World
both_lit = serial (generated 0 0) (flat_map (λ n. entry 1 n ∷ entry 2 n ∷ []) (range_with_len 1 6))

abbrev generated_line : Request → List ℕ
generated_line r = line (command_words (generated 0 0).names (command.Atomic r))

pub objects_go_off_by_kind_and_index : generated_line (off_request generated_device both_lit)
    ≡ codes "atomic 0x400 0 plane0.FB_ID=0 plane0.CRTC_ID=0 plane1.FB_ID=0 plane1.CRTC_ID=0 conn0.CRTC_ID=0 conn1.CRTC_ID=0 crtc0.ACTIVE=0 crtc0.MODE_ID=0 crtc1.ACTIVE=0 crtc1.MODE_ID=0\n"
unfolding on_suspending
objects_go_off_by_kind_and_index = refl

-- the first of the two blobs is named for both
pub objects_come_back_by_kind_and_index : generated_line (on_request generated_device both_lit)
    ≡ codes "atomic 0x400 0 crtc0.MODE_ID=@m1 crtc0.ACTIVE=1 crtc1.MODE_ID=@m1 crtc1.ACTIVE=1 conn0.CRTC_ID=crtc0 conn1.CRTC_ID=crtc1 plane0.FB_ID=@f1 plane0.CRTC_ID=crtc0 plane1.FB_ID=@f2 plane1.CRTC_ID=crtc1\n"
unfolding on_suspending
objects_come_back_by_kind_and_index = refl

-- What cannot be brought back

-- the bytes of the mode with another byte behind the end of its name
abbrev other_bytes : List ℕ
other_bytes = mode_bytes (plain_mode 1 1 1 (codes "tiny" ++ (replicate 27 0 ++ 1 ∷ [])))

abbrev closed_after : List Command → Option ℕ
closed_after more = closed_object device (world_of (first_with more))

pub closed_things_are_told : map closed_after (
    []
    ∷ (command.CloseFb 1 ∷ [])
    ∷ (command.Destroy 2 ∷ [])
    ∷ (command.CloseFb 1 ∷ command.Destroy 2 ∷ [])
    ∷ (command.Mode 3 named_tiny ∷ command.Destroy 2 ∷ [])
    ∷ (command.Blob 3 (mode_bytes named_tiny) ∷ command.Destroy 2 ∷ [])
    ∷ (command.Blob 3 other_bytes ∷ command.Destroy 2 ∷ [])
    ∷ [])
    ≡ None ∷ Some 200 ∷ Some 100 ∷ Some 100 ∷ None ∷ None ∷ Some 100 ∷ []
unfolding on_suspending
closed_things_are_told = refl

-- a thing that is closed where it passes a test
abbrev shut_where : (Thing → Bool) → Thing → Thing
shut_where test thing = record thing { is_open = thing.is_open && not (test thing) }

abbrev shut : (Thing → Bool) → World → World
shut test w = record w { things = map (shut_where test) w.things }

-- everything, all framebuffers, that of the second plane alone; either blob of the mode that both CRTCs have
abbrev shut_ones : List (Thing → Bool)
shut_ones =
    (λ thing. true)
    ∷ (λ thing. is_framebuffer thing.content)
    ∷ (λ thing. thing.label == framebuffer_f 1)
    ∷ (λ thing. thing.label == mode_m 0)
    ∷ (λ thing. thing.label == mode_m 1)
    ∷ []

pub least_object_is_told : map (λ test. closed_object generated_device (shut test both_lit)) shut_ones
    ≡ Some 100 ∷ Some 200 ∷ Some 201 ∷ None ∷ None ∷ []
unfolding on_suspending
least_object_is_told = refl

-- the first script, with a second blob of the same mode, and the first destroyed
abbrev pub second_blob : Script
second_blob = first_with (command.Mode 3 named_tiny ∷ command.Destroy 2 ∷ [])

-- the second blob is named
pub second_blob_is_named : on_line second_blob
    ≡ codes "atomic 0x400 0 crtc0.MODE_ID=@m2 crtc0.ACTIVE=1 conn0.CRTC_ID=crtc0 plane0.FB_ID=@f plane0.CRTC_ID=crtc0\n"
unfolding on_suspending
second_blob_is_named = refl

pub second_blob_is_accepted : replies device (extended second_blob (world_of second_blob)).clients
    ≡ three_made ++ reply.Commit 0 ∷ reply.Made 1003 ∷ reply.Done ∷ reply.Commit 1 ∷ reply.Commit 2 ∷ []
unfolding on_suspending
second_blob_is_accepted = refl

-- the first one is named while it is there, whichever MODE_ID names
abbrev with_second_blob : Script
with_second_blob = first_with (command.Mode 3 named_tiny ∷ request 0x0 (sets kind.Crtc 0 MODE_ID (given.Named 3) ∷ []) ∷ [])

pub first_blob_is_named : on_line with_second_blob
    ≡ codes "atomic 0x400 0 crtc0.MODE_ID=@m crtc0.ACTIVE=1 conn0.CRTC_ID=crtc0 plane0.FB_ID=@f plane0.CRTC_ID=crtc0\n"
unfolding on_suspending
first_blob_is_named = refl

-- False neighbours

-- the last blob that holds a mode has another label
pub last_blob_is_another : map (λ things. open_mode_label things named_tiny)
    (reverse (world_of with_second_blob).things ∷ (world_of with_second_blob).things ∷ [])
    ≡ Some 3 ∷ Some 2 ∷ []
unfolding on_suspending
last_blob_is_another = refl

-- a request that has planes before CRTCs
abbrev planes_first : Topology → World → Request
planes_first t w = modeset (
    flat_map (plane_back w) (indices_where t kind.Plane (has_crtc_at w))
    ++ (map (conn_back w) (indices_where t kind.Conn (has_crtc_at w))
    ++ flat_map (crtc_back w) (indices_where t kind.Crtc (has_mode_at w))))

pub planes_first_is_another : bytes_eq (request_line (planes_first device (world_of first))) (on_line first) ≡ false
unfolding on_suspending
planes_first_is_another = refl

-- a request that is made only after the device was turned off sets nothing
abbrev asleep : World → World
asleep w = record w { values = after w (off_request device w) }

pub request_made_asleep_sets_nothing : on_request device (asleep (world_of first)) ≡ modeset []
unfolding on_suspending
request_made_asleep_sets_nothing = refl
