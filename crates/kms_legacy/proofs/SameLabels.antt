-- A line that is no request makes the same labels behind other names, where the same were made.
use Rattle.std.proofs.Common.{◌≡◌, ℕ, ◌+◌, Bool, true, false, List, cond, Option, Some, None, refl, sym, ap, subst, ◌∙◌}
use Rattle.std.specs.Prelude.{◌||◌, codes, option_map}
use Rattle.std.specs.Str.{bytes_eq}
use Rattle.std.proofs.lemmas.Bool.{false≢true}
use Rattle.kms_model.specs.declared.scripts.Command.{Command}
use Rattle.kms_model.specs.declared.scripts.Command.TheVariants as command
use Rattle.kms_model.specs.Script.CommandLines.{Names, addfb_read, atomic_read, blob_read, buffer_read, command_read, label_alone}
use Rattle.kms_model.specs.Script.CommandLines.{label_read, making, making_read, mode_fields, mode_read, naming_read, pattern_at, saying}
use Rattle.kms_model.specs.Script.CommandLines.{thing_read, was_made}
use Rattle.kms_model.specs.Script.Grammar.{blob_bytes, format_at}
use Rattle.kms_model.specs.Script.Words.{◌>>=◌, dec_at, end_at, field_at, from, label_at, until}
use Rattle.kms_script.proofs.LabelsMade.{made_makes, said_keeps}

-- the same labels were made
pub record SameMade (a b : Names) : Type 0 where
  pub made : a.made ≡ b.made
  pub twice : a.is_twice ≡ b.is_twice
  pub labels : (w : List ℕ) → was_made w a.all ≡ was_made w b.all

saying_same : (w : List ℕ) (a b : Names) → SameMade a b → SameMade (saying w a) (saying w b)
unfolding saying
saying_same w a b s = record {
  made = s.made;
  twice = s.twice;
  labels = λ v. said_keeps v w a.all
      ∙ (s.labels v ∙ sym (said_keeps v w b.all));
}

making_same : (w : List ℕ) (a b : Names) → SameMade a b → SameMade (making w a) (making w b)
unfolding making
making_same w a b s = record {
  made = ap (λ n. n + 1) s.made;
  twice = rw (s.twice, s.labels w) refl;
  labels = λ v. made_makes v w a.all ∙ (ap (λ (t : Bool). bytes_eq v w || t) (s.labels v) ∙ sym (made_makes v w b.all));
}

-- what two readers of one text read
abbrev pub Two : Names → Names → Option (Command × Names) → Option (Command × Names) → Type 0
Two a b o p = (x y : Command × Names) → o ≡ Some x → p ≡ Some y → SameMade x.1 y.1

two_end : (a b c d : Names) (k l : Command) → SameMade c d → Two a b (Some (k, c)) (Some (l, d))
two_end a b c d k l s x y e f =
    let first : (k, c) ≡ x = cc in
    let second : (l, d) ≡ y = cc in
    subst (λ (v : Command × Names). SameMade v.1 y.1) first (subst (λ (v : Command × Names). SameMade c v.1) second s)

two_none : (a b : Names) → Two a b None None
two_none a b x y e f = absurd cc

two_bind : {A : Type 0} (a b : Names) (o : Option A) (f g : A → Option (Command × Names)) → ((v : A) → Two a b (f v) (g v))
    → Two a b (o >>= f) (o >>= g)
two_bind a b None f g more x y e h = absurd cc
two_bind a b (Some v) f g more x y e h = more v x y e h

two_choice : (a b : Names) (t : Bool) (o p q r : Option (Command × Names)) → Two a b o q → Two a b p r → Two a b (cond t o p) (cond t q r)
two_choice a b true o p q r one other = one
two_choice a b false o p q r one other = other

two_map : {A : Type 0} (a b : Names) (o : Option A) (f g : A → Command × Names) → ((v : A) → SameMade (f v).1 (g v).1)
    → Two a b (option_map f o) (option_map g o)
two_map a b None f g more = two_none a b
two_map a b (Some v) f g more = two_end a b (f v).1 (g v).1 (f v).0 (g v).0 (more v)

module _ (a b : Names) (s : SameMade a b) where
  two_buffer : (bytes : List ℕ) → Two a b (buffer_read a bytes) (buffer_read b bytes)
  unfolding buffer_read
  two_buffer bytes =
      two_bind a b (label_at bytes) _ _ (λ label.
      two_bind a b (dec_at 4294967295 label.1) _ _ (λ w.
      two_bind a b (dec_at 4294967295 w.1) _ _ (λ h.
      two_bind a b (format_at h.1) _ _ (λ format.
      two_bind a b (pattern_at w.0 h.0 format.0 format.1) _ _ (λ pattern. two_end a b _ _ _ _ (making_same label.0 a b s))))))

  two_addfb : (bytes : List ℕ) → Two a b (addfb_read a bytes) (addfb_read b bytes)
  unfolding addfb_read
  two_addfb bytes =
      two_bind a b (label_at bytes) _ _ (λ label.
      two_bind a b (label_alone label.1) _ _
      (λ buffer. two_end a b _ _ _ _ (saying_same buffer (making label.0 a) (making label.0 b) (making_same label.0 a b s))))

  two_mode : (bytes : List ℕ) → Two a b (mode_read a bytes) (mode_read b bytes)
  unfolding mode_read
  two_mode bytes =
      two_bind a b (label_at bytes) _ _ (λ label.
      two_bind a b (mode_fields label.1) _ _ (λ mode.
      two_bind a b (end_at mode.1) _ _ (λ u. two_end a b _ _ _ _ (making_same label.0 a b s))))

  two_blob : (bytes : List ℕ) → Two a b (blob_read a bytes) (blob_read b bytes)
  unfolding blob_read
  two_blob bytes =
      two_bind a b (label_at bytes) _ _ (λ label.
      two_bind a b (field_at label.1) _ _ (λ f.
      two_bind a b (end_at f.1) _ _ (λ u.
      two_bind a b (blob_bytes f.0) _ _ (λ blob. two_end a b _ _ _ _ (making_same label.0 a b s)))))

  two_making : (f : ℕ → Command) (bytes : List ℕ) → Two a b (making_read f a bytes) (making_read f b bytes)
  unfolding making_read
  two_making f bytes = two_bind a b (label_alone bytes) _ _ (λ label. two_end a b _ _ _ _ (making_same label a b s))

  two_naming : (f : ℕ → Command) (bytes : List ℕ) → Two a b (naming_read f a bytes) (naming_read f b bytes)
  unfolding naming_read
  two_naming f bytes = two_bind a b (label_alone bytes) _ _ (λ label. two_end a b _ _ _ _ (saying_same label a b s))

  two_thing : (keyword bytes : List ℕ) → Two a b (thing_read a keyword bytes) (thing_read b keyword bytes)
  unfolding thing_read
  two_thing keyword bytes =
      two_choice a b (bytes_eq keyword (codes "buffer")) _ _ _ _ (two_buffer bytes)
      (two_choice a b (bytes_eq keyword (codes "addfb")) _ _ _ _ (two_addfb bytes)
      (two_choice a b (bytes_eq keyword (codes "mode")) _ _ _ _ (two_mode bytes)
      (two_choice a b (bytes_eq keyword (codes "blob")) _ _ _ _ (two_blob bytes) (two_none a b))))

  two_label : (keyword bytes : List ℕ) → Two a b (label_read a keyword bytes) (label_read b keyword bytes)
  unfolding label_read
  two_label keyword bytes =
      two_choice a b (bytes_eq keyword (codes "destroy")) _ _ _ _ (two_naming command.Destroy bytes)
      (two_choice a b (bytes_eq keyword (codes "closefb")) _ _ _ _ (two_naming command.CloseFb bytes)
      (two_choice a b (bytes_eq keyword (codes "fence")) _ _ _ _ (two_making command.Fence bytes)
      (two_choice a b (bytes_eq keyword (codes "signal")) _ _ _ _ (two_naming command.Signal bytes) (two_thing keyword bytes))))

  request_or : (t : Bool) (o p q r : Option (Command × Names)) → t ≡ false → Two a b p r → Two a b (cond t o p) (cond t q r)
  request_or true o p q r other two = absurd (false≢true (sym other))
  request_or false o p q r other two = two

  pub same_line : (text : List ℕ) → bytes_eq (until 32 text) (codes "atomic") ≡ false → Two a b (command_read a text) (command_read b text)
  unfolding command_read
  same_line text other =
      request_or (bytes_eq (until 32 text) (codes "atomic")) (atomic_read a (from 32 text)) _ (atomic_read b (from 32 text)) _ other
      (two_choice a b (bytes_eq (until 32 text) (codes "wait")) _ _ _ _ (two_map a b (end_at (from 32 text)) _ _ (λ u. s))
      (two_label (until 32 text) (from 32 text)))
