-- Atomic lines with more assignments than a request may have: what their fault needs.
use Rattle.std.specs.Prelude.{◌≡◌, ℕ, ◌+◌, Bool, true, false, ◌==◌, ◌++◌, nat_lt, List, [], ◌∷◌, filter, length, Option, Some, None}
use Rattle.std.specs.Prelude.{option_map, if◌then◌else◌, codes}
use Rattle.std.specs.Option.{option_map_or}
use Rattle.kms_model.specs.Script.CommandLines.{assign_words}
use Rattle.kms_model.specs.Script.Grammar.{hex_at, int, field_words}
use Rattle.kms_model.specs.Script.Words.{◌>>=◌, dec, dec_at, is_label, strip}
use Rattle.kms_words.specs.Packed.{packed_all}

-- how many blanks bytes have
abbrev pub blank_count : List ℕ → ℕ
blank_count bytes = length (filter (λ b. b == 32) bytes)

-- more fields than the flags, the user data and 256 assignments
abbrev pub has_many : List ℕ → Bool
has_many fields = nat_lt 258 (blank_count fields)

-- the label that a value makes, if it makes one
unfoldable pub value_label : List ℕ → Option (Option (List ℕ))
value_label word =
    option_map_or (λ label. if is_label label then Some None else None) (strip (codes "@") word)
    (option_map_or (λ label. if is_label label then Some (Some label) else None) (strip (codes "+") word)
    (option_map_or (λ digits. option_map (λ i. None) (dec 255 digits)) (strip (codes "crtc") word)
    (option_map (λ z. None) (int word))))

-- the label that an assignment makes
unfoldable pub assign_label : List ℕ → Option (Option (List ℕ))
assign_label word = assign_words word >>= (λ w. value_label w.3)

-- the label where there is one, or the empty word
abbrev pub label_word : Option (List ℕ) → List ℕ
label_word None = []
label_word (Some label) = label

-- a label before others, where there is one
abbrev pub label_and : Option (List ℕ) → List (List ℕ) → List (List ℕ)
label_and None labels = labels
label_and (Some label) labels = label ∷ labels

-- the labels that assignments make
abbrev pub labels_made : List (List ℕ) → Option (List (List ℕ))
labels_made [] = Some []
labels_made (w ∷ ws) = do
  label ← assign_label w
  labels ← labels_made ws
  Some (label_and label labels)

abbrev pub labels_at : List ℕ → Option (List (List ℕ))
labels_at bytes = field_words bytes >>= labels_made

-- the labels that the assignments of an atomic line make, by the bytes behind its first word
unfoldable pub atomic_labels : List ℕ → Option (List (List ℕ))
atomic_labels bytes = do
  flags ← hex_at bytes
  user ← dec_at 18446744073709551615 flags.1
  labels_at user.1

-- the numbers of the labels that fields make are added, where all of them are assignments
abbrev pub AddsLabels : Bool → Option (List (List ℕ)) → List ℕ → List ℕ → Type 0
AddsLabels true (Some labels) old new = new ≡ old ++ packed_all labels
AddsLabels true None old new = ⊥
AddsLabels false labels old new = labels ≡ None

-- whether a list begins with a number
abbrev pub begins_with : ℕ → List ℕ → Bool
begins_with n [] = false
begins_with n (m ∷ ms) = n == m

-- each number differs from the next
abbrev pub are_rising : List ℕ → Bool
are_rising [] = true
are_rising (n ∷ ns) = if begins_with n ns then false else are_rising ns
