-- E lines: the events that R lines tell a client, and how many L lines are left for each.
use Rattle.std.specs.Prelude.{◌≡◌, ◌≤◌, ◌<◌, ℕ, ◌+◌, ◌-◌, ◌%◌, ◌^◌, Bool, ◌&&◌, ◌==◌, nat_lt, List, [], All, length, take, drop, Option}
use Rattle.std.specs.Prelude.{Some, None, is_some, slice_get, slice_index_or, if◌then◌else◌}
use Rattle.std.specs.List.{count_by, filter_map, last_or, position}
use Rattle.std.specs.Option.{option_map_or}
use Rattle.std.specs.BTreeMap as tree
use Rattle.std.specs.BTreeMap.{BTreeMap}
use Rattle.std.specs.declared.cmp.Ordering.{Ordering}
use Rattle.std.specs.Ordering.{nat_cmp, ordering_then}
use Rattle.kms_audit.specs.declared.events.Reader.{Reader}
use Rattle.kms_audit.specs.declared.order.Block.{Block}
use Rattle.kms_audit.specs.declared.owners.Owner.{Owner}
use Rattle.kms_audit.specs.Latching.{LatchFields}
use Rattle.kms_audit.specs.Ordered.{IsWholeOrder, no_block}
use Rattle.kms_audit.specs.Owned.{AreOwners}
use Rattle.kms_audit.specs.Sections.{answers_wrong}
use Rattle.kms_model.specs.declared.objects.Kind.TheVariants.{Crtc}
use Rattle.kms_model.specs.declared.replies.Event.{Event}
use Rattle.kms_model.specs.declared.replies.Reply.{Reply}
use Rattle.kms_model.specs.declared.reports.Report.{Report}
use Rattle.kms_model.specs.declared.scripts.Script.{Script}
use Rattle.kms_model.specs.Device.Objects.{object_id}
use Rattle.kms_model.specs.Firsts.{one_if}
use Rattle.kms_model.specs.Report.Right.{event_in, events_told, latch_is_right, latches_in, lines_of_client}
use Rattle.kms_model.specs.Report.RightAnswers.{answers_in, entries_in, entry_is_right, first_off, same_event}
use Rattle.kms_model.specs.Script.WellFormed.{IsWellFormed}
use Rattle.kms_model.specs.Script.Words.{◌>>=◌}

-- what an R line and an E line say
abbrev pub ReplyFields : Type 0
ReplyFields = ℕ × ℕ × ℕ × Reply

abbrev pub EventFields : Type 0
EventFields = ℕ × Event

-- L lines

-- client, user data, sequence, and the CRTC's id
abbrev pub EventKey : Type 0
EventKey = ℕ × ℕ × ℕ × ℕ

abbrev pub same_key : EventKey → EventKey → Bool
same_key a b = (a.0 == b.0) && ((a.1 == b.1) && ((a.2 == b.2) && (a.3 == b.3)))

-- the order of keys
abbrev pub key_cmp : EventKey → EventKey → Ordering
key_cmp a b = ordering_then (ordering_then (ordering_then (nat_cmp a.0 b.0) (nat_cmp a.1 b.1)) (nat_cmp a.2 b.2)) (nat_cmp a.3 b.3)

abbrev pub key_of : EventFields → EventKey
key_of e = (e.0, e.1.user_data, e.1.sequence, e.1.crtc)

-- the event of an L line, where its commit asks for one
abbrev pub owed_from : Option Owner → LatchFields → Option EventKey
owed_from None l = None
owed_from (Some o) l = if o.wants_event then Some (o.client, o.user_data, l.2 % 2 ^ 32, object_id Crtc l.0) else None

abbrev pub owed_by : List Owner → LatchFields → Option EventKey
owed_by owners l = owed_from (slice_get owners l.1) l

-- one where an event is this one, else zero
abbrev pub is_owed : Option EventKey → EventKey → ℕ
is_owed None key = 0
is_owed (Some k) key = one_if (same_key k key)

-- how many L lines a map has for an event
abbrev pub owed_at : BTreeMap EventKey ℕ → EventKey → ℕ
owed_at owed key = option_map_or (λ n. n) (tree.get key_cmp owed key) 0

-- a map has as many for each event as there are lines of it
abbrev pub AreOwed : List Owner → List LatchFields → BTreeMap EventKey ℕ → Type 0
AreOwed owners lines owed =
    (key : EventKey) → owed_at owed key ≡ count_by (λ l. nat_lt 0 (is_owed (owed_by owners l) key)) lines

-- each line is of a CRTC of an index to 255
abbrev pub AreShort : List LatchFields → Type 0
AreShort lines = All (λ l. l.0 ≤ 255) lines

-- one of the lines that are left for an event is taken, where there is one
pub record IsTaken (e : EventFields) (old new : BTreeMap EventKey ℕ) (taken : Bool) : Type 0 where
  pub taken_where : taken ≡ nat_lt 0 (owed_at old (key_of e))
  pub others : (key : EventKey) → owed_at new key ≡ owed_at old key - (if taken then one_if (same_key (key_of e) key) else 0)

-- R lines

-- the block of a client, by its number from 1; no line of any other number
abbrev pub block_of : List Block → ℕ → Block
block_of blocks client = if client == 0 then no_block else slice_index_or blocks (client - 1) no_block

-- the reader of an E line of a client: none where its client is below that of the line before
abbrev pub turned : Reader → List Block → ℕ → Option Reader
turned reader blocks client =
    if client == reader.client then Some reader
    else (if nat_lt client reader.client then None else Some (record { client = client; block = block_of blocks client }))

-- an R line tells an event
abbrev pub tells_event : ReplyFields → Bool
tells_event a = is_some (event_in a.3)

-- the reader behind the line at a place
abbrev pub reader_behind : Reader → ℕ → Reader
reader_behind reader place = record { client = reader.client; block = record { next = place + 1; end = reader.block.end } }

-- the next event of the lines of a reader, with the reader behind it
abbrev pub event_at : Reader → List ReplyFields → ℕ → Option (Event × Reader)
event_at reader replies place =
    slice_get replies place >>= (λ a. event_in a.3) >>= (λ e. Some (e, reader_behind reader place))

abbrev pub next_event : Reader → List ReplyFields → Option (Event × Reader)
next_event reader replies =
    position tells_event (take (reader.block.end - reader.block.next) (drop reader.block.next replies))
    >>= (λ p. event_at reader replies (reader.block.next + p))

-- the reader behind an E line that is the next event of its client's lines
abbrev pub reader_if : EventFields → Event × Reader → Option Reader
reader_if e next = if same_event e.1 next.0 then Some next.1 else None

abbrev pub next_reader : Reader → List Block → List ReplyFields → EventFields → Option Reader
next_reader reader blocks replies e = turned reader blocks e.0 >>= (λ at. next_event at replies) >>= reader_if e

-- how many lines tell an event
abbrev pub told_count : List ReplyFields → ℕ
told_count replies = count_by tells_event replies

-- J, R and L lines are right, in these blocks, and their commits are of these owners
pub record AreRightBefore (s : Script) (r : Report) (blocks : List Block) (owners : List Owner) : Type 0 where
  pub formed : IsWellFormed s
  pub entries : first_off (entry_is_right s) [] (entries_in r) ≡ None
  pub answers : answers_wrong s r ≡ None
  pub latches : first_off (latch_is_right s r) [] (latches_in r) ≡ None
  pub order : IsWholeOrder s r blocks
  pub are_owners : AreOwners s (entries_in r) owners

-- each R line is of a client from 1 to 16
abbrev pub AreClientsFew : Report → Type 0
AreClientsFew r = All (λ a. (1 ≤ a.client) × (a.client ≤ 16)) (answers_in r)

-- The reader stands behind some E lines, each the next event of its client: at the client of the last of them, before those of
-- its events that no line has told, while no higher client has a line.
pub record IsReadTo (r : Report) (before : List EventFields) (reader : Reader) : Type 0 where
  pub client : reader.client ≡ option_map_or (λ e. e.0) (last_or None before) 0
  pub left : filter_map (λ a. event_in a.3) (take (reader.block.end - reader.block.next) (drop reader.block.next r.replies))
      ≡ drop (length (lines_of_client reader.client before)) (events_told reader.client (answers_in r))
  pub above : (client : ℕ) → reader.client < client → lines_of_client client before ≡ []

-- a map has as many lines left for each event as there are lines of it, but for those that E lines have taken
abbrev pub AreLeft : List Owner → List LatchFields → List EventFields → BTreeMap EventKey ℕ → Type 0
AreLeft owners lines before owed =
    (key : EventKey) → owed_at owed key + count_by (λ e. same_key (key_of e) key) before
    ≡ count_by (λ l. nat_lt 0 (is_owed (owed_by owners l) key)) lines
