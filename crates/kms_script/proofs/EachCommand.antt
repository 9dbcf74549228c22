-- What holds of each command that is read: one case for each first word, over what stood behind it.
use Rattle.std.proofs.Common.{[], ◌≡◌, ℕ, ℤ, inl, inr, true, false, List, ◌∷◌, codes, cond, Option, Some, None, refl}
use Rattle.std.specs.Prelude.{option_map}
use Rattle.std.specs.Str.{bytes_eq}
use Rattle.std.proofs.lemmas.Slice.Eq.{bytes_eq-Decides}
use Rattle.kms_model.specs.declared.objects.Format.{Format}
use Rattle.kms_model.specs.declared.objects.Mode.{Mode}
use Rattle.kms_model.specs.declared.scripts.Assign.{Assign}
use Rattle.kms_model.specs.declared.scripts.Command.{Command}
use Rattle.kms_model.specs.declared.scripts.Command.TheVariants as command
use Rattle.kms_model.specs.declared.scripts.Pattern.{Pattern}
use Rattle.kms_model.specs.declared.scripts.PropRef.{PropRef}
use Rattle.kms_model.specs.declared.scripts.PropRef.TheVariants.{Known, Unknown}
use Rattle.std.specs.Option.{option_map_or}
use Rattle.kms_model.specs.declared.scripts.Value.{Value}
use Rattle.kms_model.specs.declared.scripts.Value.TheVariants as value
use Rattle.kms_model.specs.Script.CommandLines.{Names, addfb_read, assigns_read, atomic_read, blob_read, buffer_read, command_read, is_over}
use Rattle.kms_model.specs.Script.CommandLines.{label_alone, label_read, making, making_read, mode_fields, mode_read, naming_read}
use Rattle.kms_model.specs.Script.CommandLines.{pattern_at, place, saying, thing_read, value_read}
use Rattle.kms_model.specs.Script.Grammar.{blob_bytes, field_words, format_at, hex_at, int}
use Rattle.kms_model.specs.Script.Spelling.{command_words, name_word}
use Rattle.kms_model.specs.Script.WellFormed.{is_command_in, is_label_in}
use Rattle.kms_model.specs.Script.Words.{dec, dec_at, end_at, field_at, from, is_label, label_at, strip, until}
use Rattle.kms_script.proofs.Inverted.{choice_some, from_bind, if_some, map_some, or_some, some_same}

-- the property of a word, known or not
abbrev pub prop_of : Names → List ℕ → Option ℕ → PropRef × Names
prop_of names word o = option_map_or (λ id. (Known id, names)) o (Unknown (place word names), saying word names)

-- Values

-- what holds of each value that is read of a word, and of the names after it
pub record EachValue (names : Names) (word : List ℕ) (P : Value × Names → Type 0) : Type 0 where
  pub named : (label : List ℕ) → strip (codes "@") word ≡ Some label → is_label label ≡ true
      → P (value.Named (place label names), saying label names)
  pub new : (label : List ℕ) → strip (codes "+") word ≡ Some label → is_label label ≡ true
      → P (value.New (place label names), making label names)
  pub crtc : (digits : List ℕ) (index : ℕ) → strip (codes "crtc") word ≡ Some digits → dec 255 digits ≡ Some index
      → P (value.Crtc index, names)
  pub number : (z : ℤ) → int word ≡ Some z → P (value.Num z, names)

pub value_each : (names : Names) (word : List ℕ) (P : Value × Names → Type 0) → EachValue names word P → (r : Value × Names)
    → value_read names word ≡ Some r → P r
unfolding value_read
value_each names word P each r e = elim (or_some _ (strip (codes "@") word) _ r e) [
  | inl at ↦ (let l = if_some (is_label at.value) _ r at.then in rw (← some_same _ r l.1) (each.named at.value at.given l.0))
  | inr more ↦ elim (or_some _ (strip (codes "+") word) _ r more) [
    | inl plus ↦ (let l = if_some (is_label plus.value) _ r plus.then in rw (← some_same _ r l.1) (each.new plus.value plus.given l.0))
    | inr last ↦ elim (or_some _ (strip (codes "crtc") word) _ r last) [
      | inl crtc ↦ (let m = map_some _ (dec 255 crtc.value) r crtc.then in
          rw (← m.makes) (each.crtc crtc.value m.value crtc.given m.given))
      | inr number ↦ (let m = map_some _ (int word) r number in rw (← m.makes) (each.number m.value m.given))
    ]
  ]
]

-- Commands

-- what stands behind `buffer`
pub record IsBuffer (bytes : List ℕ) : Type 0 where
  pub label : List ℕ × List ℕ
  pub w : ℕ × List ℕ
  pub h : ℕ × List ℕ
  pub format : Format × List ℕ
  pub pattern : Pattern
  pub first : label_at bytes ≡ Some label
  pub wide : dec_at 4294967295 label.1 ≡ Some w
  pub high : dec_at 4294967295 w.1 ≡ Some h
  pub code : format_at h.1 ≡ Some format
  pub shown : pattern_at w.0 h.0 format.0 format.1 ≡ Some pattern

-- what stands behind `addfb`
pub record IsFramebuffer (bytes : List ℕ) : Type 0 where
  pub label : List ℕ × List ℕ
  pub buffer : List ℕ
  pub first : label_at bytes ≡ Some label
  pub last : label_alone label.1 ≡ Some buffer

-- what stands behind `mode`
pub record IsModeLine (bytes : List ℕ) : Type 0 where
  pub label : List ℕ × List ℕ
  pub mode : Mode × List ℕ
  pub first : label_at bytes ≡ Some label
  pub shown : mode_fields label.1 ≡ Some mode
  pub end : end_at mode.1 ≡ Some tt

-- what stands behind `blob`
pub record IsBlobLine (bytes : List ℕ) : Type 0 where
  pub label : List ℕ × List ℕ
  pub f : List ℕ × List ℕ
  pub blob : List ℕ
  pub first : label_at bytes ≡ Some label
  pub shown : field_at label.1 ≡ Some f
  pub end : end_at f.1 ≡ Some tt
  pub given : blob_bytes f.0 ≡ Some blob

-- what stands behind `atomic`
pub record IsRequest (names : Names) (bytes : List ℕ) : Type 0 where
  pub flags : ℕ × List ℕ
  pub user : ℕ × List ℕ
  pub words : List (List ℕ)
  pub sets : List Assign × Names
  pub first : hex_at bytes ≡ Some flags
  pub second : dec_at 18446744073709551615 flags.1 ≡ Some user
  pub rest : field_words user.1 ≡ Some words
  pub given : assigns_read names words ≡ Some sets

-- a command of a first word and one label
pub record IsOfLabel (k : List ℕ) (f : ℕ → Command) : Type 0 where
  pub few : (n : ℕ) → is_over (f n) ≡ false
  pub fits : (profile : ℕ) (all : List (List ℕ)) (n : ℕ) → is_command_in profile all (f n) ≡ is_label_in all n
  pub spelt : (all : List (List ℕ)) (n : ℕ) → command_words all (f n) ≡ k ∷ name_word all n ∷ []

-- what holds of a first word, of the bytes behind it, of the command that is read of them, and of the names after it
pub record EachCommand (names : Names) (P : List ℕ → List ℕ → Command × Names → Type 0) : Type 0 where
  pub atomic : (bytes : List ℕ) (p : IsRequest names bytes)
      → P (codes "atomic") bytes (command.Atomic (record { flags = p.flags.0; user_data = p.user.0; assigns = p.sets.0 }), p.sets.1)
  pub wait : (bytes : List ℕ) → end_at bytes ≡ Some tt → P (codes "wait") bytes (command.Wait, names)
  pub naming : (k : List ℕ) (f : ℕ → Command) → IsOfLabel k f → (bytes label : List ℕ) → label_alone bytes ≡ Some label
      → P k bytes (f (place label names), saying label names)
  pub making_one : (k : List ℕ) (f : ℕ → Command) → IsOfLabel k f → (bytes label : List ℕ) → label_alone bytes ≡ Some label
      → P k bytes (f (place label names), making label names)
  pub buffer : (bytes : List ℕ) (p : IsBuffer bytes)
      → P (codes "buffer") bytes (command.Buffer (place p.label.0 names) p.w.0 p.h.0 p.format.0 p.pattern, making p.label.0 names)
  pub addfb : (bytes : List ℕ) (p : IsFramebuffer bytes)
      → P (codes "addfb") bytes
      (command.AddFb (place p.label.0 names) (place p.buffer (making p.label.0 names)), saying p.buffer (making p.label.0 names))
  pub mode : (bytes : List ℕ) (p : IsModeLine bytes)
      → P (codes "mode") bytes (command.Mode (place p.label.0 names) p.mode.0, making p.label.0 names)
  pub blob : (bytes : List ℕ) (p : IsBlobLine bytes)
      → P (codes "blob") bytes (command.Blob (place p.label.0 names) p.blob, making p.label.0 names)

module _ (names : Names) (P : List ℕ → List ℕ → Command × Names → Type 0) (each : EachCommand names P) where
  atomic_each : (bytes : List ℕ) (r : Command × Names) → atomic_read names bytes ≡ Some r → P (codes "atomic") bytes r
  unfolding atomic_read
  atomic_each bytes r e =
      from_bind (hex_at bytes) _ r e (λ flags first more.
      from_bind (dec_at 18446744073709551615 flags.1) _ r more (λ user second more.
      from_bind (field_words user.1) _ r more (λ words rest more.
      from_bind (assigns_read names words) _ r more (λ sets given more.
      rw (← some_same _ r more) (each.atomic bytes (record {
        flags = flags;
        user = user;
        words = words;
        sets = sets;
        first = first;
        second = second;
        rest = rest;
        given = given;
      }))))))

  buffer_each : (bytes : List ℕ) (r : Command × Names) → buffer_read names bytes ≡ Some r → P (codes "buffer") bytes r
  unfolding buffer_read
  buffer_each bytes r e =
      from_bind (label_at bytes) _ r e (λ label first more.
      from_bind (dec_at 4294967295 label.1) _ r more (λ w wide more.
      from_bind (dec_at 4294967295 w.1) _ r more (λ h high more.
      from_bind (format_at h.1) _ r more (λ format code more.
      from_bind (pattern_at w.0 h.0 format.0 format.1) _ r more (λ pattern shown more.
      rw (← some_same _ r more) (each.buffer bytes (record {
        label = label;
        w = w;
        h = h;
        format = format;
        pattern = pattern;
        first = first;
        wide = wide;
        high = high;
        code = code;
        shown = shown;
      })))))))

  addfb_each : (bytes : List ℕ) (r : Command × Names) → addfb_read names bytes ≡ Some r → P (codes "addfb") bytes r
  unfolding addfb_read
  addfb_each bytes r e =
      from_bind (label_at bytes) _ r e (λ label first more.
      from_bind (label_alone label.1) _ r more (λ buffer last more.
      rw (← some_same _ r more) (each.addfb bytes (record { label = label; buffer = buffer; first = first; last = last }))))

  mode_each : (bytes : List ℕ) (r : Command × Names) → mode_read names bytes ≡ Some r → P (codes "mode") bytes r
  unfolding mode_read
  mode_each bytes r e =
      from_bind (label_at bytes) _ r e (λ label first more.
      from_bind (mode_fields label.1) _ r more (λ mode shown more.
      from_bind (end_at mode.1) _ r more (λ u end more.
      rw (← some_same _ r more)
      (each.mode bytes (record { label = label; mode = mode; first = first; shown = shown; end = end })))))

  blob_each : (bytes : List ℕ) (r : Command × Names) → blob_read names bytes ≡ Some r → P (codes "blob") bytes r
  unfolding blob_read
  blob_each bytes r e =
      from_bind (label_at bytes) _ r e (λ label first more.
      from_bind (field_at label.1) _ r more (λ f shown more.
      from_bind (end_at f.1) _ r more (λ u end more.
      from_bind (blob_bytes f.0) _ r more (λ blob given more.
      rw (← some_same _ r more)
      (each.blob bytes (record { label = label; f = f; blob = blob; first = first; shown = shown; end = end; given = given }))))))

  naming_each : (k : List ℕ) (f : ℕ → Command) → IsOfLabel k f → (bytes : List ℕ) (r : Command × Names)
      → naming_read f names bytes ≡ Some r → P k bytes r
  unfolding naming_read
  naming_each k f of bytes r e =
      from_bind (label_alone bytes) _ r e (λ label alone more. rw (← some_same _ r more) (each.naming k f of bytes label alone))

  making_each : (k : List ℕ) (f : ℕ → Command) → IsOfLabel k f → (bytes : List ℕ) (r : Command × Names)
      → making_read f names bytes ≡ Some r → P k bytes r
  unfolding making_read
  making_each k f of bytes r e =
      from_bind (label_alone bytes) _ r e (λ label alone more. rw (← some_same _ r more) (each.making_one k f of bytes label alone))

  wait_each : (bytes : List ℕ) (r : Command × Names) → option_map (λ u. (command.Wait, names)) (end_at bytes) ≡ Some r
      → P (codes "wait") bytes r
  wait_each bytes r e = let m = map_some _ (end_at bytes) r e in rw (← m.makes) (each.wait bytes m.given)

  -- by a first word that is one of several
  by_word : (keyword k bytes : List ℕ) (r : Command × Names) (one other : Option (Command × Names)) → (one ≡ Some r → P k bytes r)
      → (other ≡ Some r → P keyword bytes r) → cond (bytes_eq keyword k) one other ≡ Some r → P keyword bytes r
  by_word keyword k bytes r one other here there e = elim (choice_some (bytes_eq keyword k) one other r e) [
    | inl is ↦ (let same : keyword ≡ k = (bytes_eq-Decides keyword k).0 is.0 in rw same (here is.1))
    | inr more ↦ there more
  ]

  thing_each : (keyword bytes : List ℕ) (r : Command × Names) → thing_read names keyword bytes ≡ Some r → P keyword bytes r
  unfolding thing_read
  thing_each keyword bytes r e =
      by_word keyword (codes "buffer") bytes r _ _ (buffer_each bytes r)
      (by_word keyword (codes "addfb") bytes r _ _ (addfb_each bytes r)
      (by_word keyword (codes "mode") bytes r _ _ (mode_each bytes r)
      (by_word keyword (codes "blob") bytes r _ None (blob_each bytes r) (λ none. absurd cc)))) e

  label_each : (keyword bytes : List ℕ) (r : Command × Names) → label_read names keyword bytes ≡ Some r → P keyword bytes r
  unfolding label_read
  label_each keyword bytes r e =
      by_word keyword (codes "destroy") bytes r _ _ (naming_each (codes "destroy") command.Destroy
      (record { few = λ n. refl; fits = λ profile all n. refl; spelt = λ all n. refl }) bytes r)
      (by_word keyword (codes "closefb") bytes r _ _ (naming_each (codes "closefb") command.CloseFb
      (record { few = λ n. refl; fits = λ profile all n. refl; spelt = λ all n. refl }) bytes r)
      (by_word keyword (codes "fence") bytes r _ _ (making_each (codes "fence") command.Fence
      (record { few = λ n. refl; fits = λ profile all n. refl; spelt = λ all n. refl }) bytes r)
      (by_word keyword (codes "signal") bytes r _ _ (naming_each (codes "signal") command.Signal
      (record { few = λ n. refl; fits = λ profile all n. refl; spelt = λ all n. refl }) bytes r)
      (thing_each keyword bytes r)))) e

  pub command_each : (text : List ℕ) (r : Command × Names) → command_read names text ≡ Some r → P (until 32 text) (from 32 text) r
  unfolding command_read
  command_each text r e =
      by_word (until 32 text) (codes "atomic") (from 32 text) r _ _ (atomic_each (from 32 text) r)
      (by_word (until 32 text) (codes "wait") (from 32 text) r _ _ (wait_each (from 32 text) r)
      (label_each (until 32 text) (from 32 text) r)) e
