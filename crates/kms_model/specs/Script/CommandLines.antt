-- The lines of commands: the command that a line spells, after the lines before it.
use Rattle.std.specs.Prelude.{ℕ, ◌+◌, ◌*◌, zero, suc, Bool, true, false, ◌||◌, nat_lt, List, [], ◌∷◌, length, map, Option, Some, None}
use Rattle.std.specs.Prelude.{option_map, Result, Ok, Err, if◌then◌else◌, codes}
use Rattle.std.specs.List.{position_or_len}
use Rattle.std.specs.Option.{option_map_or}
use Rattle.std.specs.Str.{bytes_eq}
use Rattle.kms_model.specs.declared.objects.Format.{Format}
use Rattle.kms_model.specs.declared.objects.Kind.{Kind}
use Rattle.kms_model.specs.declared.objects.Mode.{Mode}
use Rattle.kms_model.specs.declared.scripts.Assign.{Assign}
use Rattle.kms_model.specs.declared.scripts.Command.{Command}
use Rattle.kms_model.specs.declared.scripts.Command.TheVariants as command
use Rattle.kms_model.specs.declared.scripts.Pattern.{Pattern}
use Rattle.kms_model.specs.declared.scripts.Pattern.TheVariants.{Solid, Checker, Ramp, Pixels}
use Rattle.kms_model.specs.declared.scripts.PropRef.{PropRef}
use Rattle.kms_model.specs.declared.scripts.PropRef.TheVariants.{Known, Unknown}
use Rattle.kms_model.specs.declared.scripts.Value.{Value}
use Rattle.kms_model.specs.declared.scripts.Value.TheVariants as value
use Rattle.kms_model.specs.declared.scripts.Why.{Why}
use Rattle.kms_model.specs.declared.scripts.Why.TheVariants.{Form, Label, Limit}
use Rattle.kms_model.specs.Script.Grammar.{field_words, int, hex_at, pixel_at, blob_bytes, format_at, object, is_property_word}
use Rattle.kms_model.specs.Script.Grammar.{known_property}
use Rattle.kms_model.specs.Script.Words.{◌>>=◌, until, from, between, strip, dec, is_label, field_at, dec_at, label_at, name_at, end_at}

-- Names

-- a label, or a property's name that no property has
pub record Name : Type 0 where
  pub word : List ℕ
  -- whether a line makes a thing under it
  pub is_made : Bool

-- the names so far
pub record Names : Type 0 where
  -- the profile of the script's device, by which a name is that of a property or not
  pub profile : ℕ
  -- each once, in order of first occurrence: a name's number is its place here
  pub all : List Name
  -- how many labels were made
  pub made : ℕ
  -- whether a label was made that had been made before
  pub is_twice : Bool

-- a name's number
abbrev pub place : List ℕ → Names → ℕ
place word names = position_or_len (λ n. bytes_eq word n.word) names.all

-- names after one more is said
abbrev pub said : List ℕ → List Name → List Name
said word [] = record { word = word; is_made = false } ∷ []
said word (n ∷ ns) = if bytes_eq word n.word then n ∷ ns else n ∷ said word ns

-- names after a label is made
abbrev pub made : List ℕ → List Name → List Name
made word [] = record { word = word; is_made = true } ∷ []
made word (n ∷ ns) = if bytes_eq word n.word then record { word = n.word; is_made = true } ∷ ns else n ∷ made word ns

-- whether a line so far makes a label
abbrev pub was_made : List ℕ → List Name → Bool
was_made word [] = false
was_made word (n ∷ ns) = if bytes_eq word n.word then n.is_made else was_made word ns

unfoldable pub saying : List ℕ → Names → Names
saying word names = record names { all = said word names.all }

unfoldable pub making : List ℕ → Names → Names
making word names = record {
  profile = names.profile;
  all = made word names.all;
  made = names.made + 1;
  is_twice = names.is_twice
      || was_made word names.all;
}

-- the words of all names, as a script has them
abbrev pub words_in : Names → List (List ℕ)
words_in names = map (λ n. n.word) names.all

-- names of which no line makes one
abbrev pub unmade : ℕ → List (List ℕ) → Names
unmade profile words = record { profile = profile; all = map (λ w. record { word = w; is_made = false }) words; made = 0; is_twice = false }

-- Commands: each with the names after it

-- what is read of a command's line
abbrev pub Read : Type 0
Read = Option (Command × Names)

-- exactly so many words of pixels
abbrev pub pixels_at : Format → ℕ → List ℕ → Option (List ℕ)
pixels_at format zero bytes = option_map (λ _. []) (end_at bytes)
pixels_at format (suc n) bytes = do
  p ← pixel_at format bytes
  ps ← pixels_at format n p.1
  Some (p.0 ∷ ps)

unfoldable pub solid_at : Format → List ℕ → Option Pattern
solid_at format bytes = do
  p ← pixel_at format bytes
  _ ← end_at p.1
  Some (Solid p.0)

-- two words and the side of a square, from 1 to 4096 pixels
unfoldable pub checker_at : Format → List ℕ → Option Pattern
checker_at format bytes = do
  p ← pixel_at format bytes
  q ← pixel_at format p.1
  n ← dec_at 4096 q.1
  _ ← end_at n.1
  if nat_lt 0 n.0 then Some (Checker p.0 q.0 n.0) else None

abbrev pub ramp_at : List ℕ → Option Pattern
ramp_at bytes = option_map (λ _. Ramp) (end_at bytes)

-- a word for each pixel, from 1 to 256 of them
unfoldable pub each_pixel_at : ℕ → Format → List ℕ → Option Pattern
each_pixel_at count format bytes = if between 1 256 count then option_map Pixels (pixels_at format count bytes) else None

-- the pattern of a buffer of a width, a height and a format, up to the end of the line
unfoldable pub pattern_at : ℕ → ℕ → Format → List ℕ → Option Pattern
pattern_at width height format bytes = do
  f ← field_at bytes
  if bytes_eq f.0 (codes "solid") then solid_at format f.1
      else (if bytes_eq f.0 (codes "checker") then checker_at format f.1
      else (if bytes_eq f.0 (codes "ramp") then ramp_at f.1
      else (if bytes_eq f.0 (codes "pixels") then each_pixel_at (width * height) format f.1 else None)))

-- `LABEL W H FMT PATTERN`
unfoldable pub buffer_read : Names → List ℕ → Read
buffer_read names bytes = do
  label ← label_at bytes
  w ← dec_at 4294967295 label.1
  h ← dec_at 4294967295 w.1
  format ← format_at h.1
  pattern ← pattern_at w.0 h.0 format.0 format.1
  Some (command.Buffer (place label.0 names) w.0 h.0 format.0 pattern, making label.0 names)

-- one label
unfoldable pub label_alone : List ℕ → Option (List ℕ)
label_alone bytes = do
  label ← label_at bytes
  _ ← end_at label.1
  Some label.0

-- `LABEL BUFFERLABEL`
unfoldable pub addfb_read : Names → List ℕ → Read
addfb_read names bytes = do
  label ← label_at bytes
  buffer ← label_alone label.1
  Some (command.AddFb (place label.0 names) (place buffer (making label.0 names)), saying buffer (making label.0 names))

-- five numbers of 16 bits
unfoldable pub five_at : List ℕ → Option (ℕ × ℕ × ℕ × ℕ × ℕ × List ℕ)
five_at bytes = do
  a ← dec_at 65535 bytes
  b ← dec_at 65535 a.1
  c ← dec_at 65535 b.1
  d ← dec_at 65535 c.1
  e ← dec_at 65535 d.1
  Some (a.0, b.0, c.0, d.0, e.0, e.1)

-- clock, the horizontal numbers, the vertical numbers, the refresh rate, the flags, the type and the name
unfoldable pub mode_fields : List ℕ → Option (Mode × List ℕ)
mode_fields bytes = do
  clock ← dec_at 4294967295 bytes
  h ← five_at clock.1
  v ← five_at h.5
  r ← dec_at 4294967295 v.5
  f ← dec_at 4294967295 r.1
  k ← dec_at 4294967295 f.1
  n ← name_at k.1
  Some (
    record {
      clock = clock.0;
      hdisplay = h.0;
      hsync_start = h.1;
      hsync_end = h.2;
      htotal = h.3;
      hskew = h.4;
      vdisplay = v.0;
      vsync_start = v.1;
      vsync_end = v.2;
      vtotal = v.3;
      vscan = v.4;
      vrefresh = r.0;
      flags = f.0;
      kind = k.0;
      name = n.0;
    },
    n.1,
  )

-- `LABEL` and 15 words
unfoldable pub mode_read : Names → List ℕ → Read
mode_read names bytes = do
  label ← label_at bytes
  mode ← mode_fields label.1
  _ ← end_at mode.1
  Some (command.Mode (place label.0 names) mode.0, making label.0 names)

-- `LABEL BYTES`
unfoldable pub blob_read : Names → List ℕ → Read
blob_read names bytes = do
  label ← label_at bytes
  f ← field_at label.1
  _ ← end_at f.1
  blob ← blob_bytes f.0
  Some (command.Blob (place label.0 names) blob, making label.0 names)

-- `LABEL` of a thing that the command makes
unfoldable pub making_read : (ℕ → Command) → Names → List ℕ → Read
making_read made_by names bytes = do
  label ← label_alone bytes
  Some (made_by (place label names), making label names)

-- `LABEL` of a thing that the command names
unfoldable pub naming_read : (ℕ → Command) → Names → List ℕ → Read
naming_read named_by names bytes = do
  label ← label_alone bytes
  Some (named_by (place label names), saying label names)

-- Requests

-- the object, the property's word and the value's word of `OBJ.PROP=VALUE`
unfoldable pub assign_words : List ℕ → Option (Kind × ℕ × List ℕ × List ℕ)
assign_words word = do
  o ← object (until 46 word)
  tail ← strip (codes ".") (from 46 word)
  given ← strip (codes "=") (from 61 tail)
  if is_property_word (until 61 tail) then Some (o.0, o.1, until 61 tail, given) else None

-- the property of a name
unfoldable pub property_read : Names → List ℕ → PropRef × Names
property_read names word = option_map_or (λ id. (Known id, names)) (known_property names.profile word)
    (Unknown (place word names), saying word names)

-- `@LABEL`, `+LABEL`, `crtc` with an index to 255, or a number
unfoldable pub value_read : Names → List ℕ → Option (Value × Names)
value_read names word =
    option_map_or (λ label. if is_label label then Some (value.Named (place label names), saying label names) else None)
    (strip (codes "@") word)
    (option_map_or (λ label. if is_label label then Some (value.New (place label names), making label names) else None)
    (strip (codes "+") word)
    (option_map_or (λ digits. option_map (λ i. (value.Crtc i, names)) (dec 255 digits)) (strip (codes "crtc") word)
    (option_map (λ z. (value.Num z, names)) (int word))))

unfoldable pub assign_read : Names → List ℕ → Option (Assign × Names)
assign_read names word = do
  w ← assign_words word
  v ← value_read ((property_read names w.2).1) w.3
  Some (record { kind = w.0; index = w.1; prop = (property_read names w.2).0; value = v.0 }, v.1)

abbrev pub assigns_read : Names → List (List ℕ) → Option (List Assign × Names)
assigns_read names [] = Some ([], names)
assigns_read names (w ∷ ws) = do
  a ← assign_read names w
  more ← assigns_read a.1 ws
  Some (a.0 ∷ more.0, more.1)

-- `FLAGS USERDATA` and 0 or more assignments
unfoldable pub atomic_read : Names → List ℕ → Read
atomic_read names bytes = do
  flags ← hex_at bytes
  user ← dec_at 18446744073709551615 flags.1
  words ← field_words user.1
  sets ← assigns_read names words
  Some (command.Atomic (record { flags = flags.0; user_data = user.0; assigns = sets.0 }), sets.1)

-- Lines

-- a command that makes a thing, but no fence
unfoldable pub thing_read : Names → List ℕ → List ℕ → Read
thing_read names keyword bytes =
    if bytes_eq keyword (codes "buffer") then buffer_read names bytes
    else (if bytes_eq keyword (codes "addfb") then addfb_read names bytes
    else (if bytes_eq keyword (codes "mode") then mode_read names bytes
    else (if bytes_eq keyword (codes "blob") then blob_read names bytes else None)))

-- a command with one label
unfoldable pub label_read : Names → List ℕ → List ℕ → Read
label_read names keyword bytes =
    if bytes_eq keyword (codes "destroy") then naming_read command.Destroy names bytes
    else (if bytes_eq keyword (codes "closefb") then naming_read command.CloseFb names bytes
    else (if bytes_eq keyword (codes "fence") then making_read command.Fence names bytes
    else (if bytes_eq keyword (codes "signal") then naming_read command.Signal names bytes
    else thing_read names keyword bytes)))

-- the command that a line spells, and the names after it: the line's first word says which
unfoldable pub command_read : Names → List ℕ → Read
command_read names text =
    let keyword = until 32 text in let fields = from 32 text in
    if bytes_eq keyword (codes "atomic") then atomic_read names fields
    else (if bytes_eq keyword (codes "wait") then option_map (λ _. (command.Wait, names)) (end_at fields)
    else label_read names keyword fields)

-- Faults of a line

-- what is there, or a fault of form
abbrev pub or_form : {A B : Type 0} → Option A → (A → Result B Why) → Result B Why
or_form None f = Err Form
or_form (Some x) f = f x

-- a fault where a test says so
abbrev pub unless : {A : Type 0} → Bool → Why → Result A Why → Result A Why
unless test why other = if test then Err why else other

-- more than 256 assignments
abbrev pub is_over : Command → Bool
is_over (command.Atomic q) = nat_lt 256 (length q.assigns)
is_over _ = false

-- the command of a line behind names of which it may make each, with all names after it: two labels of the line that
-- are equal are a fault, and more than 256 assignments
unfoldable pub line_read : ℕ → List (List ℕ) → List ℕ → Result (Command × List (List ℕ)) Why
line_read profile words text =
    or_form (command_read (unmade profile words) text) (λ c.
    unless c.1.is_twice Label
    (unless (is_over c.0) Limit
    (Ok (c.0, words_in c.1))))
