-- The stores of blobs, buffers and framebuffers: each the list of what it keeps, under its id.
use Rattle.std.specs.Prelude.{◌≡◌, ◌<◌, length, ⊤, ℕ, ◌+◌, ◌-◌, ◌*◌, Bool, true, false, ◌&&◌, ◌||◌, ◌==◌, nat_lt, List, [], ◌∷◌, map}
use Rattle.std.specs.Prelude.{Option, Some, None, Result, Ok, Err, if◌then◌else◌}
use Rattle.std.specs.Option.{option_map}
use Rattle.std.specs.List.{flat_map, range_with_len, AllByRecursion}
use Rattle.kms_model.specs.declared.objects.Format.{Format}
use Rattle.kms_model.specs.declared.objects.Format.TheVariants.{Xr24, Ar24, Rg16}
use Rattle.kms_model.specs.declared.replies.Denied.{Denied}
use Rattle.kms_model.specs.declared.replies.TheConstants.Denied.{NOT_FOUND, NOT_OWNER}
use Rattle.kms_model.specs.declared.scripts.Pattern.{Pattern}
use Rattle.kms_model.specs.declared.scripts.Pattern.TheVariants.{Solid, Checker, Ramp, Pixels}
use Rattle.kms_model.specs.declared.pictures.FbInfo.{FbInfo}
use Rattle.kms_model.specs.declared.things.Blob.{Blob}
use Rattle.kms_model.specs.declared.things.Buffer.{Buffer}
use Rattle.kms_model.specs.declared.things.Framebuffer.{Framebuffer}
use Rattle.kms_model.specs.Frames.FrameBytes.{word_in}
use Rattle.kms_model.specs.declared.tables.Slot.{Slot}
use Rattle.kms_model.specs.Things.Tables.{value_with_id, with_value, without_id}

-- a client's blob with these bytes
abbrev pub blob : ℕ → List ℕ → Blob
blob owner bytes = record { owner = owner; bytes = bytes }

-- the bytes of the open blob with an id
abbrev pub bytes_with_id : List (Slot Blob) → ℕ → Option (List ℕ)
bytes_with_id blobs id = option_map (λ b. b.bytes) (value_with_id blobs id)

-- what a client is answered that destroys a blob: NOT_FOUND where it is no open blob, NOT_OWNER where it is another
-- client's. From: `drm_property.c`, drm_mode_destroyblob_ioctl.
abbrev pub destroy_answer : ℕ → Option Blob → Result (Unit {0}) Denied
destroy_answer owner None = Err NOT_FOUND
destroy_answer owner (Some b) = if b.owner == owner then Ok tt else Err NOT_OWNER

-- the blobs after that answer
abbrev pub after_destroy : Result (Unit {0}) Denied → List (Slot Blob) → ℕ → List (Slot Blob)
after_destroy (Ok done) blobs id = without_id blobs id
after_destroy (Err why) blobs id = blobs

abbrev pub blobs_destroyed : List (Slot Blob) → ℕ → ℕ → List (Slot Blob)
blobs_destroyed blobs owner id = after_destroy (destroy_answer owner (value_with_id blobs id)) blobs id

-- the largest side of a buffer, in pixels
abbrev pub largest_side : ℕ
largest_side = 4096

-- how many bytes all buffers may have together
abbrev pub largest_bytes : ℕ
largest_bytes = 268435456

-- the bytes of a pixel
abbrev pub pixel_bytes : Format → ℕ
pixel_bytes Xr24 = 4
pixel_bytes Ar24 = 4
pixel_bytes Rg16 = 2

abbrev pub is_bad_side : ℕ → Bool
is_bad_side side = (side == 0) || nat_lt largest_side side

-- INVALID_SIZE: a side is 0 or above 4096
abbrev pub is_bad_size : ℕ → ℕ → Bool
is_bad_size width height = is_bad_side width || is_bad_side height

abbrev pub area_bytes : ℕ → ℕ → Format → ℕ
area_bytes width height format = width * height * pixel_bytes format

-- the bytes of all buffers
abbrev pub bytes_of : List (Slot Buffer) → ℕ
bytes_of [] = 0
bytes_of (b ∷ buffers) = area_bytes b.value.width b.value.height b.value.format + bytes_of buffers

-- the bytes of all buffers with one more
abbrev pub bytes_with : List (Slot Buffer) → ℕ → ℕ → Format → ℕ
bytes_with buffers width height format = bytes_of buffers + area_bytes width height format

-- a pattern that can fill a buffer of this size
abbrev pub Fills : Pattern → ℕ → ℕ → Type 0
Fills (Solid p) width height = ⊤
Fills (Checker p q n) width height = 0 < n
Fills Ramp width height = ⊤
Fills (Pixels words) width height = length words ≡ width * height

-- the words of a row
abbrev pub row_words : Pattern → Format → ℕ → ℕ → List ℕ
row_words pattern format width y = map (λ x. word_in pattern format width x y) (range_with_len 0 width)

-- the words of a pattern, row by row
abbrev pub buffer_words : Pattern → Format → ℕ → ℕ → List ℕ
buffer_words pattern format width height = flat_map (row_words pattern format width) (range_with_len 0 height)

-- a client's buffer of a pattern
abbrev pub buffer : ℕ → ℕ → ℕ → Format → Pattern → Buffer
buffer owner width height format pattern = record {
  owner = owner;
  width = width;
  height = height;
  format = format;
  words = buffer_words pattern format width height;
}

-- a framebuffer that was just added: open, with the reference of being open
abbrev pub framebuffer : ℕ → ℕ → FbInfo → Framebuffer
framebuffer owner buffer info = record { owner = owner; buffer = buffer; info = info; is_open = true; references = 1 }

-- one reference more. From: `drm_framebuffer.c`, drm_framebuffer_get.
abbrev pub taken : Framebuffer → Framebuffer
taken fb = record fb { references = fb.references + 1 }

-- one reference less
abbrev pub given : Framebuffer → Framebuffer
given fb = record fb { references = fb.references - 1 }

-- not open, and without the reference of being open
abbrev pub closed : Framebuffer → Framebuffer
closed fb = record fb { is_open = false; references = fb.references - 1 }

abbrev pub is_last : Framebuffer → Bool
is_last fb = fb.references == 1

-- The store with a framebuffer that has one reference less: it is out of the store where that was the last.
-- From: drm_framebuffer_put, drm_framebuffer_free.
abbrev pub with_fewer : List (Slot Framebuffer) → ℕ → Framebuffer → List (Slot Framebuffer)
with_fewer fbs id fb = if fb.references == 0 then without_id fbs id else with_value fbs id fb

abbrev pub may_close : ℕ → Framebuffer → Bool
may_close owner fb = fb.is_open && (fb.owner == owner)

-- What a client is answered that closes a framebuffer: NOT_FOUND where it is no open one of this client, else whether the
-- last reference fell. From: `drm_mode.h`, struct drm_mode_closefb.
abbrev pub close_answer : ℕ → Option Framebuffer → Result Bool Denied
close_answer owner None = Err NOT_FOUND
close_answer owner (Some fb) = if may_close owner fb then Ok (is_last fb) else Err NOT_FOUND

-- the store after that
abbrev pub after_close : List (Slot Framebuffer) → ℕ → ℕ → Option Framebuffer → List (Slot Framebuffer)
after_close fbs owner id None = fbs
after_close fbs owner id (Some fb) = if may_close owner fb then with_fewer fbs id (closed fb) else fbs

abbrev pub fbs_closed : List (Slot Framebuffer) → ℕ → ℕ → List (Slot Framebuffer)
fbs_closed fbs owner id = after_close fbs owner id (value_with_id fbs id)

abbrev pub after_take : List (Slot Framebuffer) → ℕ → Option Framebuffer → List (Slot Framebuffer)
after_take fbs id None = fbs
after_take fbs id (Some fb) = with_value fbs id (taken fb)

-- the store after a reference was taken
abbrev pub fbs_taken : List (Slot Framebuffer) → ℕ → List (Slot Framebuffer)
fbs_taken fbs id = after_take fbs id (value_with_id fbs id)

abbrev pub after_give : List (Slot Framebuffer) → ℕ → Option Framebuffer → List (Slot Framebuffer)
after_give fbs id None = fbs
after_give fbs id (Some fb) = with_fewer fbs id (given fb)

-- the store after a reference was given back
abbrev pub fbs_given : List (Slot Framebuffer) → ℕ → List (Slot Framebuffer)
fbs_given fbs id = after_give fbs id (value_with_id fbs id)

-- the references that a framebuffer has by being open
abbrev pub open_references : Framebuffer → ℕ
open_references fb = if fb.is_open then 1 else 0

-- in the store, with room for one reference more
abbrev pub MayTake : Option Framebuffer → Type 0
MayTake None = ⊥
MayTake (Some fb) = fb.references < 4294967295

-- in the store, with a reference that is not that of being open
abbrev pub MayGive : Option Framebuffer → Type 0
MayGive None = ⊥
MayGive (Some fb) = open_references fb < fb.references

abbrev pub is_last_of : Option Framebuffer → Bool
is_last_of None = false
is_last_of (Some fb) = is_last fb

-- What is in the store has a reference, at least that of being open.
abbrev pub AreCounted : List (Slot Framebuffer) → Type 0
AreCounted fbs = AllByRecursion (λ s. 0 < s.value.references) fbs

-- what others read of a buffer
pub record Seen : Type 0 where
  pub width : ℕ
  pub height : ℕ
  pub format : Format
  pub words : List ℕ

abbrev pub seen : Buffer → Seen
seen b = record { width = b.width; height = b.height; format = b.format; words = b.words }

-- what others read of the buffer with an id
abbrev pub seen_with_id : List (Slot Buffer) → ℕ → Option Seen
seen_with_id buffers id = option_map seen (value_with_id buffers id)
