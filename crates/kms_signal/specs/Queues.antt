-- A client's flip events. From: `drm_file.c`, drm_event_reserve_init, drm_send_event and drm_read: a file has space for
-- 4096 bytes of events, of which a reserved event takes as many as an unread one.
use Rattle.std.specs.Prelude.{◌≡◌, ℕ, ◌+◌, ◌-◌, ◌*◌, ◌≤◌, List, [], ◌∷◌, ◌++◌, length, Option, Some, None}
use Rattle.kms_model.specs.declared.replies.Event.{Event}
use Rattle.kms_model.specs.Report.EventBytes.{event_bytes}

pub record Queue : Type 0 where
  -- how many events are reserved
  pub reserved : ℕ
  -- the events that were delivered and not read, the oldest first
  pub unread : List Event
  -- for how many further events, reserved or unread, memory was taken
  pub room : ℕ

abbrev pub empty_queue : Queue
empty_queue = record { reserved = 0; unread = []; room = 0 }

-- 32 bytes for each event that is reserved or unread
abbrev pub space_used : Queue → ℕ
space_used q = 32 * (q.reserved + length q.unread)

-- there is space for so many events more
abbrev pub HasSpace : Queue → ℕ → Type 0
HasSpace q n = space_used q + 32 * n ≤ 4096

-- the oldest unread event, and its bytes
abbrev pub oldest : List Event → Option Event
oldest [] = None
oldest (e ∷ es) = Some e

abbrev pub oldest_bytes : List Event → Option (List ℕ)
oldest_bytes [] = None
oldest_bytes (e ∷ es) = Some (event_bytes e)

-- the queue after a call

-- so many more events are reserved
abbrev pub reserves : Queue → ℕ → ℕ → Queue
reserves q n room = record { reserved = q.reserved + n; unread = q.unread; room = room }

-- a reserved event becomes the newest unread one
abbrev pub delivers : Queue → Event → Queue
delivers q e = record { reserved = q.reserved - 1; unread = q.unread ++ e ∷ []; room = q.room }

-- the oldest unread event is read, where there is one; its memory is room again
abbrev pub after_read_of : Queue → List Event → Queue
after_read_of q [] = q
after_read_of q (e ∷ es) = record { reserved = q.reserved; unread = es; room = q.room + 1 }

abbrev pub after_read : Queue → Queue
after_read q = after_read_of q q.unread

-- Calls in turn

pub data Call : Type 0 where
  -- room is made, or space is reserved, or neither for want of space or memory
  Reserve : (n room : ℕ) → Call
  Deliver : (event : Event) → Call
  Read : Call

abbrev pub after_call : Queue → Call → Queue
after_call q (Reserve n room) = reserves q n room
after_call q (Deliver event) = delivers q event
after_call q Read = after_read q

abbrev pub after_all : Queue → List Call → Queue
after_all q [] = q
after_all q (call ∷ calls) = after_all (after_call q call) calls

-- what was delivered, the oldest first
abbrev pub delivered_by : List Call → List Event
delivered_by [] = []
delivered_by (Reserve n room ∷ calls) = delivered_by calls
delivered_by (Deliver event ∷ calls) = event ∷ delivered_by calls
delivered_by (Read ∷ calls) = delivered_by calls

abbrev pub first_of : List Event → List Event
first_of [] = []
first_of (e ∷ es) = e ∷ []

-- what was read, the oldest first
abbrev pub read_by : Queue → List Call → List Event
read_by q [] = []
read_by q (Reserve n room ∷ calls) = read_by (reserves q n room) calls
read_by q (Deliver event ∷ calls) = read_by (delivers q event) calls
read_by q (Read ∷ calls) = first_of q.unread ++ read_by (after_read q) calls

-- After every list of calls, what was read and then what is unread is what was delivered.
abbrev pub DeliveredIsReadThenUnread : Type 0
DeliveredIsReadThenUnread =
    (calls : List Call) → read_by empty_queue calls ++ (after_all empty_queue calls).unread ≡ delivered_by calls
