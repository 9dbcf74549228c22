-- Whether a line is a command does not depend on the names that are known before it.
use Rattle.std.proofs.Common.{◌≡◌, ℕ, Bool, true, false, List, [], ◌∷◌, cond, Option, Some, None, refl}
use Rattle.std.specs.Prelude.{codes, is_some, option_map}
use Rattle.std.specs.Option.{option_map_or}
use Rattle.std.specs.Str.{bytes_eq}
use Rattle.kms_model.specs.declared.scripts.Command.{Command}
use Rattle.kms_model.specs.declared.scripts.Command.TheVariants as command
use Rattle.kms_model.specs.Script.CommandLines.{Names, addfb_read, assign_read, assign_words, assigns_read, atomic_read, blob_read}
use Rattle.kms_model.specs.Script.CommandLines.{buffer_read, command_read, label_alone, label_read, making_read, mode_fields, mode_read}
use Rattle.kms_model.specs.Script.CommandLines.{naming_read, pattern_at, property_read, thing_read, value_read}
use Rattle.kms_model.specs.Script.Grammar.{blob_bytes, field_words, format_at, hex_at, int}
use Rattle.kms_model.specs.Script.Words.{◌>>=◌, dec, dec_at, end_at, field_at, from, is_label, label_at, strip, until}

-- both are there, or neither is
abbrev Alike : {A B : Type 0} → Option A → Option B → Type 0
Alike o p = is_some o ≡ is_some p

-- behind a step that both take
bind_alike : {A B C : Type 0} (o : Option A) (f : A → Option B) (g : A → Option C) → ((x : A) → Alike (f x) (g x))
    → Alike (o >>= f) (o >>= g)
bind_alike None f g same = refl
bind_alike (Some x) f g same = same x

-- behind two steps that are alike
bind_both : {A B C D : Type 0} (o : Option A) (p : Option B) (f : A → Option C) (g : B → Option D) → Alike o p
    → ((x : A) (y : B) → Alike (f x) (g y)) → Alike (o >>= f) (p >>= g)
bind_both None None f g same more = refl
bind_both None (Some y) f g same more = absurd cc
bind_both (Some x) None f g same more = absurd cc
bind_both (Some x) (Some y) f g same more = more x y

-- made of what is there
map_alike : {A B C : Type 0} (f : A → B) (g : A → C) (o : Option A) → Alike (option_map f o) (option_map g o)
map_alike f g None = refl
map_alike f g (Some x) = refl

-- behind a test
test_alike : {A B : Type 0} (t : Bool) (x : A) (y : B) → Alike (cond t (Some x) None) (cond t (Some y) None)
test_alike true x y = refl
test_alike false x y = refl

-- one of two, by a test
choice_alike : {A B : Type 0} (t : Bool) (a b : Option A) (c d : Option B) → Alike a c → Alike b d → Alike (cond t a b) (cond t c d)
choice_alike true a b c d one other = one
choice_alike false a b c d one other = other

-- one of two, the first where it is there
or_alike : {A B C : Type 0} (f : A → Option B) (g : A → Option C) (o : Option A) (p : Option B) (q : Option C)
    → ((x : A) → Alike (f x) (g x)) → Alike p q → Alike (option_map_or f o p) (option_map_or g o q)
or_alike f g None p q same other = other
or_alike f g (Some x) p q same other = same x

-- Commands that make things

buffer_alike : (n m : Names) (bytes : List ℕ) → Alike (buffer_read n bytes) (buffer_read m bytes)
unfolding buffer_read
buffer_alike n m bytes =
    bind_alike (label_at bytes) _ _ (λ label.
    bind_alike (dec_at 4294967295 label.1) _ _ (λ w.
    bind_alike (dec_at 4294967295 w.1) _ _ (λ h.
    bind_alike (format_at h.1) _ _ (λ format.
    bind_alike (pattern_at w.0 h.0 format.0 format.1) _ _ (λ pattern. refl)))))

addfb_alike : (n m : Names) (bytes : List ℕ) → Alike (addfb_read n bytes) (addfb_read m bytes)
unfolding addfb_read
addfb_alike n m bytes = bind_alike (label_at bytes) _ _ (λ label. bind_alike (label_alone label.1) _ _ (λ buffer. refl))

mode_alike : (n m : Names) (bytes : List ℕ) → Alike (mode_read n bytes) (mode_read m bytes)
unfolding mode_read
mode_alike n m bytes =
    bind_alike (label_at bytes) _ _ (λ label. bind_alike (mode_fields label.1) _ _ (λ mode. bind_alike (end_at mode.1) _ _ (λ u. refl)))

blob_alike : (n m : Names) (bytes : List ℕ) → Alike (blob_read n bytes) (blob_read m bytes)
unfolding blob_read
blob_alike n m bytes =
    bind_alike (label_at bytes) _ _ (λ label.
    bind_alike (field_at label.1) _ _ (λ f.
    bind_alike (end_at f.1) _ _ (λ u.
    bind_alike (blob_bytes f.0) _ _ (λ blob. refl))))

making_alike : (f : ℕ → Command) (n m : Names) (bytes : List ℕ) → Alike (making_read f n bytes) (making_read f m bytes)
unfolding making_read
making_alike f n m bytes = bind_alike (label_alone bytes) _ _ (λ label. refl)

naming_alike : (f : ℕ → Command) (n m : Names) (bytes : List ℕ) → Alike (naming_read f n bytes) (naming_read f m bytes)
unfolding naming_read
naming_alike f n m bytes = bind_alike (label_alone bytes) _ _ (λ label. refl)

-- Requests

value_alike : (n m : Names) (word : List ℕ) → Alike (value_read n word) (value_read m word)
unfolding value_read
value_alike n m word =
    or_alike _ _ (strip (codes "@") word) _ _ (λ label. test_alike (is_label label) _ _)
    (or_alike _ _ (strip (codes "+") word) _ _ (λ label. test_alike (is_label label) _ _)
    (or_alike _ _ (strip (codes "crtc") word) _ _ (λ digits. map_alike _ _ (dec 255 digits))
    (map_alike _ _ (int word))))

assign_alike : (n m : Names) (word : List ℕ) → Alike (assign_read n word) (assign_read m word)
unfolding assign_read
assign_alike n m word =
    bind_alike (assign_words word) _ _ (λ w.
    bind_both (value_read (property_read n w.2).1 w.3) (value_read (property_read m w.2).1 w.3) _ _
    (value_alike (property_read n w.2).1 (property_read m w.2).1 w.3) (λ v u. refl))

assigns_alike : (ws : List (List ℕ)) (n m : Names) → Alike (assigns_read n ws) (assigns_read m ws)
assigns_alike [] n m = refl
assigns_alike (w ∷ ws) n m =
    bind_both (assign_read n w) (assign_read m w) _ _ (assign_alike n m w) (λ a b.
    bind_both (assigns_read a.1 ws) (assigns_read b.1 ws) _ _ (assigns_alike ws a.1 b.1) (λ more other. refl))

atomic_alike : (n m : Names) (bytes : List ℕ) → Alike (atomic_read n bytes) (atomic_read m bytes)
unfolding atomic_read
atomic_alike n m bytes =
    bind_alike (hex_at bytes) _ _ (λ flags.
    bind_alike (dec_at 18446744073709551615 flags.1) _ _ (λ user.
    bind_alike (field_words user.1) _ _ (λ words.
    bind_both (assigns_read n words) (assigns_read m words) _ _ (assigns_alike words n m) (λ sets other. refl))))

-- Lines

thing_alike : (n m : Names) (keyword bytes : List ℕ) → Alike (thing_read n keyword bytes) (thing_read m keyword bytes)
unfolding thing_read
thing_alike n m keyword bytes =
    choice_alike (bytes_eq keyword (codes "buffer")) _ _ _ _ (buffer_alike n m bytes)
    (choice_alike (bytes_eq keyword (codes "addfb")) _ _ _ _ (addfb_alike n m bytes)
    (choice_alike (bytes_eq keyword (codes "mode")) _ _ _ _ (mode_alike n m bytes)
    (choice_alike (bytes_eq keyword (codes "blob")) _ _ _ _ (blob_alike n m bytes) refl)))

label_alike : (n m : Names) (keyword bytes : List ℕ) → Alike (label_read n keyword bytes) (label_read m keyword bytes)
unfolding label_read
label_alike n m keyword bytes =
    choice_alike (bytes_eq keyword (codes "destroy")) _ _ _ _ (naming_alike command.Destroy n m bytes)
    (choice_alike (bytes_eq keyword (codes "closefb")) _ _ _ _ (naming_alike command.CloseFb n m bytes)
    (choice_alike (bytes_eq keyword (codes "fence")) _ _ _ _ (making_alike command.Fence n m bytes)
    (choice_alike (bytes_eq keyword (codes "signal")) _ _ _ _ (naming_alike command.Signal n m bytes)
    (thing_alike n m keyword bytes))))

pub forms_alike : (n m : Names) (text : List ℕ) → is_some (command_read n text) ≡ is_some (command_read m text)
unfolding command_read
forms_alike n m text =
    choice_alike (bytes_eq (until 32 text) (codes "atomic")) _ _ _ _ (atomic_alike n m (from 32 text))
    (choice_alike (bytes_eq (until 32 text) (codes "wait")) _ _ _ _ (map_alike _ _ (end_at (from 32 text)))
    (label_alike n m (until 32 text) (from 32 text)))
