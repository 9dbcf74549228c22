-- Replies as the words at the end of a line spell them. Each has one spelling, but a busy reply on an object beyond index 99,
-- which none is. This device's own; the names of error numbers are those of `errno.h`.
use Rattle.std.specs.Prelude.{ℕ, nat_lt, List, Option, Some, None, option_map, if◌then◌else◌, codes}
use Rattle.std.specs.Str.{bytes_eq}
use Rattle.kms_model.specs.declared.objects.Kind.{Kind}
use Rattle.kms_model.specs.declared.objects.ObjId.{ObjId}
use Rattle.kms_model.specs.declared.replies.Event.{Event}
use Rattle.kms_model.specs.declared.replies.Reply.{Reply}
use Rattle.kms_model.specs.declared.replies.Reply.TheVariants as reply
use Rattle.kms_model.specs.Device.Objects.{object_id}
use Rattle.kms_model.specs.Report.Rules.{ENOMEM, EBUSY, errno_of}
use Rattle.kms_model.specs.Request.Sets.{obj_id}
use Rattle.kms_model.specs.Script.Grammar.{object}
use Rattle.kms_model.specs.Script.Schedules.{greatest_number}
use Rattle.kms_model.specs.Script.Words.{◌>>=◌, between, strip, field_at, dec_at, end_at}

-- Numbers, in the widths of a report's fields

-- a number below 2^32, and one below 2^64
abbrev pub word32_at : List ℕ → Option (ℕ × List ℕ)
word32_at bytes = dec_at greatest_number bytes

abbrev pub word64_at : List ℕ → Option (ℕ × List ℕ)
word64_at bytes = dec_at 18446744073709551615 bytes

-- a number below 2^32 at the end of a line
unfoldable pub lone_number : List ℕ → Option ℕ
lone_number bytes = do
  n ← word32_at bytes
  _ ← end_at n.1
  Some n.0

-- Replies, by the fields behind the word that begins them

unfoldable pub lone_reply : Reply → List ℕ → Option Reply
lone_reply answer bytes = do
  _ ← end_at bytes
  Some answer

unfoldable pub numbered_reply : (ℕ → Reply) → List ℕ → Option Reply
numbered_reply answer bytes = do
  n ← lone_number bytes
  Some (answer n)

-- `USERDATA SEQUENCE CRTCID`
unfoldable pub event_fields : List ℕ → Option Event
event_fields bytes = do
  user ← word64_at bytes
  sequence ← word32_at user.1
  crtc ← lone_number sequence.1
  Some (record { user_data = user.0; sequence = sequence.0; crtc = crtc })

-- `events 25 USED`, behind the name of the error number
unfoldable pub space_read : List ℕ → Option Reply
space_read bytes = do
  fields ← strip (codes " events 25") bytes
  numbered_reply (λ used. reply.Space used) fields

-- The id of an object that a line names. From index 100 on it would be that of an object of another kind, and no device has
-- so many: the id is 0 then, which no object has.
abbrev pub named_id : Kind → ℕ → ObjId
named_id kind index = obj_id (if nat_lt index 100 then object_id kind index else 0)

-- `26 OBJ COMMIT`, behind the name of the error number; any object of the grammar may stand there
unfoldable pub busy_read : List ℕ → Option Reply
busy_read bytes = do
  fields ← strip (codes " 26") bytes
  word ← field_at fields
  o ← object word.0
  numbered_reply (λ k. reply.Busy (named_id o.0 o.1) k) word.1

-- a refusal by its number alone: 1 to 24 of a request, 31 to 35 of another command
abbrev pub refusal_numbered : ℕ → Option Reply
refusal_numbered n =
    if between 1 24 n then Some (reply.Refused (record { 0 = n }))
    else (if between 31 35 n then Some (reply.Denied n) else None)

-- the number of a refusal, behind the name of its error number and no other
unfoldable pub refusal_read : List ℕ → List ℕ → Option Reply
refusal_read errno bytes = do
  n ← lone_number bytes
  if bytes_eq errno (errno_of n) then refusal_numbered n else None

-- the reply that a word and the fields behind it spell
unfoldable pub reply_of_word : List ℕ → List ℕ → Option Reply
reply_of_word word fields =
    if bytes_eq word (codes "made") then numbered_reply (λ id. reply.Made id) fields
    else (if bytes_eq word (codes "done") then lone_reply reply.Done fields
    else (if bytes_eq word (codes "commit") then numbered_reply (λ k. reply.Commit k) fields
    else (if bytes_eq word (codes "tested") then lone_reply reply.Tested fields
    else (if bytes_eq word (codes "event") then option_map (λ e. reply.Event e) (event_fields fields)
    else (if bytes_eq word (codes "none") then lone_reply reply.NoEvent fields
    else (if bytes_eq word ENOMEM then space_read fields
    else (if bytes_eq word EBUSY then busy_read fields
    else refusal_read word fields)))))))

-- the reply that the fields at the end of a line spell
unfoldable pub reply_read : List ℕ → Option Reply
reply_read bytes = do
  word ← field_at bytes
  reply_of_word word.0 word.1
