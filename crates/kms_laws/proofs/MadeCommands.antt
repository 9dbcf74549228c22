-- Which labels a line of a script makes: those that its command makes, none of which was made before it.
use Rattle.std.proofs.Common.{◌≡◌, ℕ, Bool, true, false, List, [], ◌∷◌, Option, Some, None, cond, one-add, refl, sym, ◌∙◌}
use Rattle.std.specs.Prelude.{◌==◌, ◌||◌, codes, option_map, ⊤}
use Rattle.std.specs.List.{list_any}
use Rattle.std.specs.Option.{option_map_or}
use Rattle.std.specs.Str.{bytes_eq}
use Rattle.std.proofs.lemmas.Bool.{eqb-true, false≢true}
use Rattle.std.proofs.lemmas.List.Recursion.{is_position_or_len}
use Rattle.kms_model.specs.declared.scripts.Assign.{Assign}
use Rattle.kms_model.specs.declared.scripts.Command.{Command}
use Rattle.kms_model.specs.declared.scripts.Command.TheVariants as command
use Rattle.kms_model.specs.declared.scripts.PropRef.{PropRef}
use Rattle.kms_model.specs.declared.scripts.PropRef.TheVariants.{Known, Unknown}
use Rattle.kms_model.specs.declared.scripts.Value.{Value}
use Rattle.kms_model.specs.Script.CommandLines.{Names, addfb_read, assign_read, assign_words, assigns_read, atomic_read, blob_read}
use Rattle.kms_model.specs.Script.CommandLines.{buffer_read, command_read, label_alone, label_read, making, making_read, mode_fields}
use Rattle.kms_model.specs.Script.CommandLines.{mode_read, naming_read, pattern_at, place, property_read, saying, thing_read, value_read}
use Rattle.kms_model.specs.Script.CommandLines.{was_made}
use Rattle.kms_model.specs.Script.Grammar.{blob_bytes, field_words, format_at, hex_at, int, known_property}
use Rattle.kms_model.specs.Script.Words.{◌>>=◌, dec, dec_at, end_at, field_at, from, is_label, label_at, strip, until}
use Rattle.kms_model.proofs.Facts.{neither}
use Rattle.kms_laws.specs.Once.{is_new, makes}
use Rattle.kms_laws.proofs.MadeNames.{is_made_at, made_marks, number_of, said_marks, was_marks}

-- names after some labels are made, by their numbers
pub record Marks (before : Names) (marks : ℕ → Bool) (after : Names) : Type 0 where
  pub was : (k : ℕ) → is_made_at after.all k ≡ (marks k || is_made_at before.all k)
  pub was_once : after.is_twice ≡ false → before.is_twice ≡ false
  pub free : after.is_twice ≡ false → (k : ℕ) → marks k ≡ true → is_made_at before.all k ≡ false

abbrev pub nothing : ℕ → Bool
nothing k = false

or_false : (b : Bool) → b ≡ (b || false)
or_false true = refl
or_false false = refl

-- the place of a word is its number
place_is : (word : List ℕ) (names : Names) → number_of word names.all ≡ place word names
place_is word names = is_position_or_len (number_of word) (λ n. bytes_eq word n.word) refl (λ n ns. rw one-add refl) names.all

kept : (names : Names) → Marks names nothing names
kept names = record { was = λ k. refl; was_once = λ once. once; free = λ once k e. absurd (false≢true e) }

saying_marks : (word : List ℕ) (names : Names) → Marks names nothing (saying word names)
unfolding saying
saying_marks word names = record {
  was = λ k. said_marks word names.all k;
  was_once = λ once. once;
  free = λ once k e. absurd (false≢true e);
}

making_marks : (word : List ℕ) (names : Names) → Marks names (λ k. place word names == k) (making word names)
unfolding making
making_marks word names = record {
  was = λ k. rw (← place_is word names) (made_marks word names.all k);
  was_once = λ once. (neither names.is_twice (was_made word names.all) once).0;
  free = λ once k e.
      let at : place word names ≡ k = eqb-true (place word names) k e in
      rw (← at, ← place_is word names) (sym (was_marks word names.all) ∙ (neither names.is_twice (was_made word names.all) once).1);
}

then_marks : (a b c : Names) (m n all : ℕ → Bool) → ((k : ℕ) → all k ≡ (m k || n k)) → Marks a m b → Marks b n c → Marks a all c
then_marks a b c m n all is first next = record {
  was = λ k. next.was k ∙ rw (first.was k, is k) (turned (m k) (n k) (is_made_at a.all k));
  was_once = λ once. first.was_once (next.was_once once);
  free = λ once k e. by (next.was_once once) k (m k) (n k) refl refl (sym (is k) ∙ e) (next.free once k);
} where
  turned : (x y z : Bool) → (y || (x || z)) ≡ ((x || y) || z)
  turned true true z = refl
  turned true false z = refl
  turned false y z = refl

  by : b.is_twice ≡ false → (k : ℕ) (x y : Bool) → m k ≡ x → n k ≡ y → (x || y) ≡ true → (n k ≡ true → is_made_at b.all k ≡ false)
      → is_made_at a.all k ≡ false
  by once k true y at_m at_n e later = first.free once k at_m
  by once k false y at_m at_n e later = (neither (m k) (is_made_at a.all k) (sym (first.was k) ∙ later (at_n ∙ e))).1

after_kept : (a b c : Names) (n : ℕ → Bool) → Marks a nothing b → Marks b n c → Marks a n c
after_kept a b c n first next = then_marks a b c nothing n n (λ k. refl) first next

before_kept : (a b c : Names) (m : ℕ → Bool) → Marks a m b → Marks b nothing c → Marks a m c
before_kept a b c m first next = then_marks a b c m nothing m (λ k. or_false (m k)) first next

-- Readers

-- what was read is so
abbrev pub IfRead : {A : Type 0} → Option A → (A → Type 0) → Type 0
IfRead None P = ⊤
IfRead (Some x) P = P x

pub bind_if : {A B : Type 0} (o : Option A) (f : A → Option B) (P : B → Type 0) → ((x : A) → IfRead (f x) P) → IfRead (o >>= f) P
bind_if None f P each = tt
bind_if (Some x) f P each = each x

pub then_if : {A B : Type 0} (o : Option A) (f : A → Option B) (Q : A → Type 0) (P : B → Type 0) → IfRead o Q
    → ((x : A) → Q x → IfRead (f x) P) → IfRead (o >>= f) P
then_if None f Q P first each = tt
then_if (Some x) f Q P first each = each x first

pub map_if : {A B : Type 0} (o : Option A) (f : A → B) (P : B → Type 0) → ((x : A) → P (f x)) → IfRead (option_map f o) P
map_if None f P each = tt
map_if (Some x) f P each = each x

pub cond_if : {A : Type 0} (t : Bool) (a b : Option A) (P : A → Type 0) → IfRead a P → IfRead b P → IfRead (cond t a b) P
cond_if true a b P one other = one
cond_if false a b P one other = other

or_if : {A B : Type 0} (f : A → Option B) (o : Option A) (d : Option B) (P : B → Type 0) → ((x : A) → IfRead (f x) P) → IfRead d P
    → IfRead (option_map_or f o d) P
or_if f None d P each other = other
or_if f (Some x) d P each other = each x

-- what a line's reader gave
abbrev pub Makes : Names → Command × Names → Type 0
Makes names r = Marks names (makes r.0) r.1

buffer_makes : (names : Names) (bytes : List ℕ) → IfRead (buffer_read names bytes) (Makes names)
unfolding buffer_read
buffer_makes names bytes =
    bind_if (label_at bytes) _ (Makes names) (λ label.
    bind_if (dec_at 4294967295 label.1) _ (Makes names) (λ w.
    bind_if (dec_at 4294967295 w.1) _ (Makes names) (λ h.
    bind_if (format_at h.1) _ (Makes names) (λ format.
    bind_if (pattern_at w.0 h.0 format.0 format.1) _ (Makes names) (λ pattern. making_marks label.0 names)))))

addfb_makes : (names : Names) (bytes : List ℕ) → IfRead (addfb_read names bytes) (Makes names)
unfolding addfb_read
addfb_makes names bytes =
    bind_if (label_at bytes) _ (Makes names) (λ label.
    bind_if (label_alone label.1) _ (Makes names) (λ buffer.
    before_kept names (making label.0 names) (saying buffer (making label.0 names)) _ (making_marks label.0 names)
    (saying_marks buffer (making label.0 names))))

mode_makes : (names : Names) (bytes : List ℕ) → IfRead (mode_read names bytes) (Makes names)
unfolding mode_read
mode_makes names bytes =
    bind_if (label_at bytes) _ (Makes names) (λ label.
    bind_if (mode_fields label.1) _ (Makes names) (λ mode.
    bind_if (end_at mode.1) _ (Makes names) (λ end. making_marks label.0 names)))

blob_makes : (names : Names) (bytes : List ℕ) → IfRead (blob_read names bytes) (Makes names)
unfolding blob_read
blob_makes names bytes =
    bind_if (label_at bytes) _ (Makes names) (λ label.
    bind_if (field_at label.1) _ (Makes names) (λ f.
    bind_if (end_at f.1) _ (Makes names) (λ end.
    bind_if (blob_bytes f.0) _ (Makes names) (λ blob. making_marks label.0 names))))

fence_makes : (names : Names) (bytes : List ℕ) → IfRead (making_read command.Fence names bytes) (Makes names)
unfolding making_read
fence_makes names bytes = bind_if (label_alone bytes) _ (Makes names) (λ label. making_marks label names)

naming_makes : (named_by : ℕ → Command) → ((l : ℕ) → makes (named_by l) ≡ nothing) → (names : Names) (bytes : List ℕ)
    → IfRead (naming_read named_by names bytes) (Makes names)
unfolding naming_read
naming_makes named_by none names bytes = bind_if (label_alone bytes) _ (Makes names)
    (λ label. rw (none (place label names)) (saying_marks label names))

-- Requests

property_kept : (names : Names) (word : List ℕ) → Marks names nothing (property_read names word).1
unfolding property_read
property_kept names word = by (known_property names.profile word) where
  by : (o : Option ℕ) → Marks names nothing (option_map_or {U = PropRef × Names} (λ id. (Known id, names)) o
      (Unknown (place word names), saying word names)).1
  by None = saying_marks word names
  by (Some id) = kept names

abbrev ValueMakes : Names → Value × Names → Type 0
ValueMakes names v = Marks names (is_new v.0) v.1

value_makes : (names : Names) (word : List ℕ) → IfRead (value_read names word) (ValueMakes names)
unfolding value_read
value_makes names word =
    or_if _ (strip (codes "@") word) _ (ValueMakes names)
    (λ label. cond_if (is_label label) _ _ (ValueMakes names) (saying_marks label names) tt)
    (or_if _ (strip (codes "+") word) _ (ValueMakes names)
    (λ label. cond_if (is_label label) _ _ (ValueMakes names) (making_marks label names) tt)
    (or_if _ (strip (codes "crtc") word) _ (ValueMakes names) (λ digits. map_if (dec 255 digits) _ (ValueMakes names) (λ i. kept names))
    (map_if (int word) _ (ValueMakes names) (λ z. kept names))))

abbrev pub AssignMakes : Names → Assign × Names → Type 0
AssignMakes names a = Marks names (is_new a.0.value) a.1

pub assign_makes : (names : Names) (word : List ℕ) → IfRead (assign_read names word) (AssignMakes names)
unfolding assign_read
assign_makes names word =
    bind_if (assign_words word) _ (AssignMakes names) (λ w.
    then_if (value_read ((property_read names w.2).1) w.3) _ (ValueMakes (property_read names w.2).1) (AssignMakes names)
    (value_makes (property_read names w.2).1 w.3) (λ v marks.
    after_kept names (property_read names w.2).1 v.1 (is_new v.0) (property_kept names w.2) marks))

abbrev pub AssignsMake : Names → List Assign × Names → Type 0
AssignsMake names r = Marks names (λ k. list_any (λ a. is_new a.value k) r.0) r.1

pub assigns_make : (ws : List (List ℕ)) (names : Names) → IfRead (assigns_read names ws) (AssignsMake names)
assigns_make [] names = kept names
assigns_make (w ∷ ws) names =
    then_if (assign_read names w) _ (AssignMakes names) (AssignsMake names) (assign_makes names w) (λ a first.
    then_if (assigns_read a.1 ws) _ (AssignsMake a.1) (AssignsMake names) (assigns_make ws a.1) (λ more rest.
    then_marks names a.1 more.1 (is_new a.0.value) (λ k. list_any (λ b. is_new b.value k) more.0) _ (λ k. refl) first rest))

atomic_makes : (names : Names) (bytes : List ℕ) → IfRead (atomic_read names bytes) (Makes names)
unfolding atomic_read
atomic_makes names bytes =
    bind_if (hex_at bytes) _ (Makes names) (λ flags.
    bind_if (dec_at 18446744073709551615 flags.1) _ (Makes names) (λ user.
    bind_if (field_words user.1) _ (Makes names) (λ words.
    then_if (assigns_read names words) _ (AssignsMake names) (Makes names) (assigns_make words names) (λ sets marks. marks))))

-- Lines

thing_makes : (names : Names) (keyword bytes : List ℕ) → IfRead (thing_read names keyword bytes) (Makes names)
unfolding thing_read
thing_makes names keyword bytes =
    cond_if (bytes_eq keyword (codes "buffer")) _ _ (Makes names) (buffer_makes names bytes)
    (cond_if (bytes_eq keyword (codes "addfb")) _ _ (Makes names) (addfb_makes names bytes)
    (cond_if (bytes_eq keyword (codes "mode")) _ _ (Makes names) (mode_makes names bytes)
    (cond_if (bytes_eq keyword (codes "blob")) _ _ (Makes names) (blob_makes names bytes) tt)))

label_makes : (names : Names) (keyword bytes : List ℕ) → IfRead (label_read names keyword bytes) (Makes names)
unfolding label_read
label_makes names keyword bytes =
    cond_if (bytes_eq keyword (codes "destroy")) _ _ (Makes names) (naming_makes command.Destroy (λ l. refl) names bytes)
    (cond_if (bytes_eq keyword (codes "closefb")) _ _ (Makes names) (naming_makes command.CloseFb (λ l. refl) names bytes)
    (cond_if (bytes_eq keyword (codes "fence")) _ _ (Makes names) (fence_makes names bytes)
    (cond_if (bytes_eq keyword (codes "signal")) _ _ (Makes names) (naming_makes command.Signal (λ l. refl) names bytes)
    (thing_makes names keyword bytes))))

-- the command of a line makes exactly the labels that are made with it
pub command_makes : (names : Names) (text : List ℕ) → IfRead (command_read names text) (Makes names)
unfolding command_read
command_makes names text =
    cond_if (bytes_eq (until 32 text) (codes "atomic")) _ _ (Makes names) (atomic_makes names (from 32 text))
    (cond_if (bytes_eq (until 32 text) (codes "wait")) _ _ (Makes names) (map_if (end_at (from 32 text)) _ (Makes names) (λ u. kept names))
    (label_makes names (until 32 text) (from 32 text)))
