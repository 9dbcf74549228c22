-- The older call that a line spells. The forms of these lines are this project's own; each value has one spelling.
use Rattle.std.specs.Prelude.{ℕ, Bool, true, false, ◌&&◌, ◌||◌, nat_le, ℤ, List, Option, Some, None, option_map, if◌then◌else◌, codes}
use Rattle.std.specs.Option.{option_map_or}
use Rattle.std.specs.Str.{bytes_eq}
use Rattle.kms_model.specs.declared.legacy.LegacyCall.{LegacyCall}
use Rattle.kms_model.specs.declared.legacy.LegacyCall.TheVariants as call
use Rattle.kms_model.specs.declared.legacy.LegacyCommand.{LegacyCommand}
use Rattle.kms_model.specs.declared.legacy.LegacyCommand.TheVariants.{Plain, Call}
use Rattle.kms_model.specs.declared.objects.Kind.{Kind}
use Rattle.kms_model.specs.declared.objects.Kind.TheVariants.{Crtc, Plane, Conn}
use Rattle.kms_model.specs.declared.objects.Topology.{Topology}
use Rattle.kms_model.specs.declared.pictures.Rect.{Rect}
use Rattle.kms_model.specs.declared.properties.TheConstants.{CRTC_X, CRTC_Y, CRTC_W, CRTC_H, SRC_X, SRC_Y, SRC_W, SRC_H}
use Rattle.kms_model.specs.declared.sets.SetValue.TheVariants as to
use Rattle.kms_model.specs.Device.Objects.{exists}
use Rattle.kms_model.specs.Device.Properties.{property}
use Rattle.kms_model.specs.Request.SetRanges.{is_among_row}
use Rattle.kms_model.specs.Script.CommandLines.{Names, command_read, place, saying}
use Rattle.kms_model.specs.Script.Grammar.{int}
use Rattle.kms_model.specs.Script.Words.{◌>>=◌, until, from, strip, is_label, field_at, read_at, dec_at, end_at}

-- Words

-- the index of an object of the device
unfoldable pub index_at : Topology → Kind → List ℕ → Option (ℕ × List ℕ)
index_at t kind bytes = do
  index ← dec_at 255 bytes
  if exists t kind index.0 then Some index else None

-- `@LABEL`: the label
unfoldable pub named_at : List ℕ → Option (List ℕ × List ℕ)
named_at bytes = do
  f ← field_at bytes
  label ← strip (codes "@") f.0
  if is_label label then Some (label, f.1) else None

-- a number is among those of a property
abbrev pub is_number : ℕ → ℤ → Bool
is_number prop z = is_among_row (property prop) (to.Num z)

-- a number of a property
unfoldable pub ranged_at : ℕ → List ℕ → Option (ℤ × List ℕ)
ranged_at prop bytes = do
  z ← read_at int bytes
  if is_number prop z.0 then Some z else None

-- four numbers of these properties, as a rectangle
unfoldable pub rect_at : ℕ → ℕ → ℕ → ℕ → List ℕ → Option (Rect × List ℕ)
rect_at left top width height bytes = do
  x ← ranged_at left bytes
  y ← ranged_at top x.1
  w ← ranged_at width y.1
  h ← ranged_at height w.1
  Some (record { x = x.0; y = y.0; w = w.0; h = h.0 }, h.1)

abbrev pub destination_at : List ℕ → Option (Rect × List ℕ)
destination_at bytes = rect_at CRTC_X CRTC_Y CRTC_W CRTC_H bytes

abbrev pub part_at : List ℕ → Option (Rect × List ℕ)
part_at bytes = rect_at SRC_X SRC_Y SRC_W SRC_H bytes

-- the left and the upper edge of a destination, at the end of the line
unfoldable pub corner_at : List ℕ → Option (ℤ × ℤ)
corner_at bytes = do
  x ← ranged_at CRTC_X bytes
  y ← ranged_at CRTC_Y x.1
  _ ← end_at y.1
  Some (x.0, y.0)

-- `0x1` asks for an event, `0x0` does not
abbrev pub event_word : List ℕ → Option Bool
event_word word = if bytes_eq word (codes "0x0") then Some false else (if bytes_eq word (codes "0x1") then Some true else None)

-- what is left of the line is the word `off`
abbrev pub is_off : List ℕ → Bool
is_off bytes = bytes_eq bytes (codes " off")

-- Calls: each with the names after it, which the line says in the order of its words

-- what is read of a call's line
abbrev pub CallRead : Type 0
CallRead = Option (LegacyCall × Names)

-- `@FB X Y @MODE CONN`, which shows a framebuffer on a CRTC
unfoldable pub setcrtc_fields : Topology → Names → ℕ → List ℕ → CallRead
setcrtc_fields t names crtc bytes = do
  fb ← named_at bytes
  x ← dec_at 65535 fb.1
  y ← dec_at 65535 x.1
  mode ← named_at y.1
  conn ← index_at t Conn mode.1
  _ ← end_at conn.1
  Some (call.SetCrtc crtc (place fb.0 names) x.0 y.0 (place mode.0 (saying fb.0 names)) conn.0, saying mode.0 (saying fb.0 names))

-- `CRTC off`, or `CRTC` and these
unfoldable pub setcrtc_read : Topology → Names → List ℕ → CallRead
setcrtc_read t names bytes = do
  crtc ← index_at t Crtc bytes
  if is_off crtc.1 then Some (call.CrtcOff crtc.0, names) else setcrtc_fields t names crtc.0 crtc.1

-- `CRTC @FB CX CY CW CH SX SY SW SH`, which puts a plane on a CRTC
unfoldable pub setplane_fields : Topology → Names → ℕ → List ℕ → CallRead
setplane_fields t names plane bytes = do
  crtc ← index_at t Crtc bytes
  fb ← named_at crtc.1
  dst ← destination_at fb.1
  src ← part_at dst.1
  _ ← end_at src.1
  Some (call.SetPlane plane crtc.0 (place fb.0 names) dst.0 src.0, saying fb.0 names)

-- `PLANE off`, or `PLANE` and these
unfoldable pub setplane_read : Topology → Names → List ℕ → CallRead
setplane_read t names bytes = do
  plane ← index_at t Plane bytes
  if is_off plane.1 then Some (call.PlaneOff plane.0, names) else setplane_fields t names plane.0 plane.1

-- `CRTC @FB FLAGS USERDATA`
unfoldable pub pageflip_read : Topology → Names → List ℕ → CallRead
pageflip_read t names bytes = do
  crtc ← index_at t Crtc bytes
  fb ← named_at crtc.1
  event ← read_at event_word fb.1
  user ← dec_at 18446744073709551615 event.1
  _ ← end_at user.1
  Some (call.PageFlip crtc.0 (place fb.0 names) event.0 user.0, saying fb.0 names)

-- `@FB X Y`, which shows a framebuffer on a cursor plane
unfoldable pub cursor_fields : Names → ℕ → List ℕ → CallRead
cursor_fields names crtc bytes = do
  fb ← named_at bytes
  corner ← corner_at fb.1
  Some (call.Cursor crtc (place fb.0 names) corner.0 corner.1, saying fb.0 names)

-- `CRTC off`, `CRTC move X Y`, or `CRTC` and these
unfoldable pub cursor_read : Topology → Names → List ℕ → CallRead
cursor_read t names bytes = do
  crtc ← index_at t Crtc bytes
  if is_off crtc.1 then Some (call.CursorOff crtc.0, names)
      else option_map_or (λ rest. option_map (λ corner. (call.CursorMove crtc.0 corner.0 corner.1, names)) (corner_at rest))
      (strip (codes " move") crtc.1)
      (cursor_fields names crtc.0 crtc.1)

-- Lines of a client

abbrev pub is_call_word : List ℕ → Bool
is_call_word word = bytes_eq word (codes "setcrtc")
    || (bytes_eq word (codes "setplane") || (bytes_eq word (codes "pageflip") || bytes_eq word (codes "cursor")))

-- the call that a line spells, on a device: the line's first word says which
unfoldable pub call_read : Topology → Names → List ℕ → CallRead
call_read t names text =
    let keyword = until 32 text in let fields = from 32 text in
    if bytes_eq keyword (codes "setcrtc") then setcrtc_read t names fields
    else (if bytes_eq keyword (codes "setplane") then setplane_read t names fields
    else (if bytes_eq keyword (codes "pageflip") then pageflip_read t names fields
    else (if bytes_eq keyword (codes "cursor") then cursor_read t names fields else None)))

-- the command that a line spells: a call, or one that such scripts share with others, which is any but a request
unfoldable pub legacy_command_read : Topology → Names → List ℕ → Option (LegacyCommand × Names)
legacy_command_read t names text =
    let keyword = until 32 text in
    if is_call_word keyword then option_map (λ c. (Call c.0, c.1)) (call_read t names text)
    else (if bytes_eq keyword (codes "atomic") then None
    else option_map (λ c. (Plain c.0, c.1)) (command_read names text))

-- Calls by themselves

-- the numbers of a rectangle are among those of these properties
abbrev pub is_rect : ℕ → ℕ → ℕ → ℕ → Rect → Bool
is_rect left top width height r = is_number left r.x && (is_number top r.y && (is_number width r.w && is_number height r.h))

-- A call may stand in a script over a device: its objects are there, and its numbers are in their ranges.
abbrev pub call_may_stand : Topology → LegacyCall → Bool
call_may_stand t (call.SetCrtc crtc fb x y mode conn) = exists t Crtc crtc && (exists t Conn conn && (nat_le x 65535 && nat_le y 65535))
call_may_stand t (call.CrtcOff crtc) = exists t Crtc crtc
call_may_stand t (call.SetPlane plane crtc fb dst src) =
    exists t Plane plane && (exists t Crtc crtc && (is_rect CRTC_X CRTC_Y CRTC_W CRTC_H dst && is_rect SRC_X SRC_Y SRC_W SRC_H src))
call_may_stand t (call.PlaneOff plane) = exists t Plane plane
call_may_stand t (call.PageFlip crtc fb event user) = exists t Crtc crtc
call_may_stand t (call.Cursor crtc fb x y) = exists t Crtc crtc && (is_number CRTC_X x && is_number CRTC_Y y)
call_may_stand t (call.CursorMove crtc x y) = exists t Crtc crtc && (is_number CRTC_X x && is_number CRTC_Y y)
call_may_stand t (call.CursorOff crtc) = exists t Crtc crtc
