-- Words with blanks between them, and lines of words.
use Rattle.std.proofs.Common.{◌≡◌, ℕ, List, [], ◌∷◌, ◌++◌, map, Result, Ok, Err, refl, ap, sym, ◌∙◌, append_assoc, append-nil, codes}
use Rattle.std.specs.Prelude.{OnOk}
use Rattle.std.specs.Fmt.{decimal}
use Rattle.std.specs.List.{flat_map}
use Rattle.std.proofs.lemmas.List.Concat.{flat_map-append}
use Rattle.kms_model.specs.Device.Modes.{mode_numbers}
use Rattle.kms_model.specs.declared.copying.NoMemory.{NoMemory}
use Rattle.kms_model.specs.declared.objects.Mode.{Mode}
use Rattle.kms_model.specs.Report.TextLines.{line}
use Rattle.kms_model.specs.Script.Words.{until}
use Rattle.kms_words.specs.Printed.{fields}
use Rattle.kms_model.specs.Script.Spelling.{spelt_mode}

-- a line is its first word, the others with a blank before each, and a line feed
pub line-fields : (w : List ℕ) (ws : List (List ℕ)) → line (w ∷ ws) ≡ w ++ fields ws ++ 10 ∷ []
line-fields w [] = ap (λ (bs : List ℕ). bs ++ 10 ∷ []) (sym (append-nil w))
line-fields w (v ∷ vs) =
    ap (λ (bs : List ℕ). w ++ 32 ∷ bs) (line-fields v vs) ∙ sym (append_assoc w (32 ∷ (v ++ fields vs)) (10 ∷ []))

module _ {X : Type 0} where
  pub fields-map : (f : X → List ℕ) (xs : List X) → fields (map f xs) ≡ flat_map (λ x. 32 ∷ f x) xs
  fields-map f [] = refl
  fields-map f (x ∷ xs) = ap (λ (bs : List ℕ). 32 ∷ (f x ++ bs)) (fields-map f xs)

  pub lines-map : (f : X → List (List ℕ)) (xs : List X) → flat_map line (map f xs) ≡ flat_map (λ x. line (f x)) xs
  lines-map f [] = refl
  lines-map f (x ∷ xs) = ap (λ (bs : List ℕ). line (f x) ++ bs) (lines-map f xs)

  pub lines-flat : (f : X → List (List (List ℕ))) (xs : List X) → flat_map line (flat_map f xs) ≡ flat_map (λ x. flat_map line (f x)) xs
  lines-flat f [] = refl
  lines-flat f (x ∷ xs) = flat_map-append line (f x) (flat_map f xs) ∙ ap (λ (bs : List ℕ). flat_map line (f x) ++ bs) (lines-flat f xs)

pub mode-fields : (m : Mode) → flat_map (λ n. 32 ∷ decimal n) (mode_numbers m) ++ 32 ∷ until 0 m.name ≡ fields (spelt_mode m)
mode-fields m =
    let name = until 0 m.name in
    ap (λ (bs : List ℕ). bs ++ 32 ∷ name) (sym (fields-map decimal (mode_numbers m)))
    ∙ ap (λ (bs : List ℕ). fields (map decimal (mode_numbers m)) ++ bs) (sym (append-nil (32 ∷ name)))
    ∙ sym (flat_map-append (λ (w : List ℕ). 32 ∷ w) (map decimal (mode_numbers m)) (name ∷ []))

-- What the last of several calls added, where it had memory

abbrev Outcome : Type 0
Outcome = Result (Unit {0}) NoMemory

pub added : (r : Outcome) (old mid new a b whole : List ℕ) → mid ≡ old ++ a → OnOk r (new ≡ mid ++ b) → a ++ b ≡ whole
    → OnOk r (new ≡ old ++ whole)
added (Ok done) old mid new a b whole first last both = last ∙ rw (first, ← both) (append_assoc old a b)
added (Err e) old mid new a b whole first last both = last

-- words behind others
pub fields-added : (r : Outcome) (old mid new : List ℕ) (ws vs : List (List ℕ)) → mid ≡ old ++ fields ws → OnOk r (new ≡ mid ++ fields vs)
    → OnOk r (new ≡ old ++ fields (ws ++ vs))
fields-added r old mid new ws vs first last =
    added r old mid new (fields ws) (fields vs) _ first last (sym (flat_map-append (λ (w : List ℕ). 32 ∷ w) ws vs))

-- words behind a line's first two
pub front-added : (r : Outcome) (old front new keyword w : List ℕ) (ws : List (List ℕ)) → front ≡ old ++ keyword ++ 32 ∷ w
    → OnOk r (new ≡ front ++ fields ws) → OnOk r (new ≡ old ++ keyword ++ fields (w ∷ ws))
front-added r old front new keyword w ws first last = added r (old ++ keyword) front new (32 ∷ w) (fields ws) _ first last refl

-- a line feed behind a line's words
pub line-ended : (r : Outcome) (old new keyword : List ℕ) (words : List (List ℕ)) → OnOk r (new ≡ old ++ keyword ++ fields words)
    → OnOk r (new ++ 10 ∷ [] ≡ old ++ line (keyword ∷ words))
line-ended (Ok done) old new keyword words last = rw (last, line-fields keyword words) (simp append_assoc)
line-ended (Err e) old new keyword words last = last

pub atomic-added : (r : Outcome) (old flagged numbered new flags number tail : List ℕ) → flagged ≡ old ++ codes "atomic " ++ flags
    → numbered ≡ flagged ++ 32 ∷ number → OnOk r (new ≡ numbered ++ tail)
    → OnOk r (new ≡ old ++ codes "atomic" ++ (32 ∷ (flags ++ 32 ∷ (number ++ tail))))
atomic-added (Ok done) old flagged numbered new flags number tail e f last = last ∙ rw (f, e) (simp append_assoc)
atomic-added (Err x) old flagged numbered new flags number tail e f last = last
