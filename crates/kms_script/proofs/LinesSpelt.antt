-- A line of a device that was read is written as it stood.
use Rattle.std.proofs.Common.{◌≡◌, ℕ, ◌≤◌, Bool, true, false, List, [], ◌∷◌, ◌++◌, append_assoc, cond, Some, None, refl, sym, ap, ◌∙◌}
use Rattle.std.proofs.Common.{arith}
use Rattle.std.specs.Prelude.{codes, ◌==◌, nat_le}
use Rattle.std.specs.Fmt.{decimal}
use Rattle.std.specs.Str.{bytes_eq}
use Rattle.std.proofs.lemmas.Slice.Eq.{bytes_eq-Decides}
use Rattle.kms_model.specs.declared.objects.PlaneInfo.{PlaneInfo}
use Rattle.kms_model.specs.Script.Grammar.{crtc_list, format_list}
use Rattle.kms_model.specs.Report.TextLines.{line}
use Rattle.kms_model.specs.Script.WholeInput.{crtcs_at, plane_type, plane_fields, conn_at}
use Rattle.kms_model.specs.Script.Words.{until, from, field_at, dec_at, end_at}
use Rattle.kms_model.specs.Script.Spelling.{type_word, crtcs_word, formats_word}
use Rattle.kms_script.proofs.Inverted.{bind_some, from_bind, some_same}
use Rattle.kms_script.proofs.LineFields.{fields_to, line_fields, fields_end, then_fields, until_from, field_spelt, end_spelt}
use Rattle.kms_script.proofs.FitWords.{le_test}
use Rattle.kms_script.proofs.SpeltFields.{at_end, number_taken, numbers}
use Rattle.std.proofs.lemmas.Bool.{leb-true}
use Rattle.kms_script.proofs.ListsSpelt.{crtcs_spelt, formats_spelt}

-- fields up to the end of a line, behind a line's first word
pub line_spelt : (key : List ℕ) (words : List (List ℕ)) (text : List ℕ) → bytes_eq (until 32 text) key ≡ true
    → fields_to words [] ≡ from 32 text → line (key ∷ words) ≡ text ++ 10 ∷ []
line_spelt key words text is fields =
    let first : until 32 text ≡ key = (bytes_eq-Decides (until 32 text) key).0 is in
    let all : key ++ fields_to words [] ≡ text = rw (← first, fields) (until_from 32 text) in
    line_fields key words ∙ ap (λ (bs : List ℕ). key ++ bs) (sym (fields_end words [] (10 ∷ []))) ∙ sym
    (append_assoc key (fields_to words []) (10 ∷ [])) ∙ ap (λ (bs : List ℕ). bs ++ 10 ∷ []) all

-- the last field
last_field : (bytes : List ℕ) (f : List ℕ × List ℕ) (u : Unit {0}) → field_at bytes ≡ Some f → end_at f.1 ≡ Some u
    → fields_to (f.0 ∷ []) [] ≡ bytes
last_field bytes f u e done = then_fields f.0 [] [] f.1 bytes (field_spelt bytes f e) (end_spelt f.1 u done)

-- the number that was read of a field, which is not 0 and at most 4
pub record Counted (n : ℕ) (bytes : List ℕ) : Type 0 where
  pub few : n ≤ 4
  pub spells : fields_to (decimal n ∷ []) [] ≡ bytes

-- a number behind the test for 0 is that number
not_zero : (t : Bool) (n m : ℕ) → cond t None (Some n) ≡ Some m → n ≡ m
not_zero true n m e = absurd cc
not_zero false n m e = some_same n m e

-- the field of a number of CRTCs that was read
pub count_spelt : (bytes : List ℕ) (n : ℕ) → crtcs_at bytes ≡ Some n → Counted n bytes
unfolding crtcs_at
count_spelt bytes n e =
    from_bind (dec_at 4 bytes) _ n e (λ number given more.
    from_bind (end_at number.1) _ n more (λ u end more.
    let few = numbers 4 (λ k. nat_le k 4) (omega arith) (λ k le. le_test k 4 le) in
    let t = at_end u (number_taken 4 (λ k. nat_le k 4) few bytes number given) end in
    rw (← not_zero (number.0 == 0) number.0 n more) (record { few = leb-true number.0 4 t.fit; spells = t.spelt })))

-- the one of three words that was found
type_cases : (overlay primary cursor : Bool) (w : List ℕ) (kind : ℕ) → (overlay ≡ true → w ≡ codes "overlay")
    → (primary ≡ true → w ≡ codes "primary") → (cursor ≡ true → w ≡ codes "cursor")
    → cond overlay (Some 0) (cond primary (Some 1) (cond cursor (Some 2) None)) ≡ Some kind → type_word kind ≡ w
type_cases true primary cursor w kind o p c e = rw (← some_same 0 kind e) (sym (o refl))
type_cases false true cursor w kind o p c e = rw (← some_same 1 kind e) (sym (p refl))
type_cases false false true w kind o p c e = rw (← some_same 2 kind e) (sym (c refl))
type_cases false false false w kind o p c e = absurd cc

-- the word of a type that was read
type_spelt : (w : List ℕ) (kind : ℕ) → plane_type w ≡ Some kind → type_word kind ≡ w
type_spelt w kind e =
    type_cases (bytes_eq w (codes "overlay")) (bytes_eq w (codes "primary")) (bytes_eq w (codes "cursor")) w kind
    (bytes_eq-Decides w (codes "overlay")).0 (bytes_eq-Decides w (codes "primary")).0 (bytes_eq-Decides w (codes "cursor")).0 e

-- the words of a plane behind the first
abbrev pub later_words : PlaneInfo → List (List ℕ)
later_words p = type_word p.kind ∷ crtcs_word p.crtcs ∷ formats_word p.formats ∷ []

-- the fields of a plane that was read
pub plane_spelt : (crtcs : ℕ) (bytes : List ℕ) (p : PlaneInfo) → crtcs ≤ 4 → plane_fields crtcs bytes ≡ Some p
    → fields_to (later_words p) [] ≡ bytes
unfolding plane_fields
plane_spelt crtcs bytes p few e =
    let t = bind_some (field_at bytes) _ p e in
    let l = bind_some (field_at t.value.1) _ p t.then in
    let f = bind_some (field_at l.value.1) _ p l.then in
    let done = bind_some (end_at f.value.1) _ p f.then in
    let kind = bind_some (plane_type t.value.0) _ p done.then in
    let mask = bind_some (crtc_list crtcs l.value.0) _ p kind.then in
    let formats = bind_some (format_list f.value.0) _ p mask.then in
    let fields : fields_to (t.value.0 ∷ l.value.0 ∷ f.value.0 ∷ []) [] ≡ bytes =
    then_fields t.value.0 (l.value.0 ∷ f.value.0 ∷ []) [] t.value.1 bytes (field_spelt bytes t.value t.given)
    (then_fields l.value.0 (f.value.0 ∷ []) [] l.value.1 t.value.1 (field_spelt t.value.1 l.value l.given)
    (last_field l.value.1 f.value done.value f.given done.given)) in
    let given : PlaneInfo = record { kind = kind.value; crtcs = mask.value; formats = formats.value } in
    rw (
      ← some_same given p formats.then,
      type_spelt t.value.0 kind.value kind.given,
      crtcs_spelt crtcs mask.value l.value.0 few mask.given,
      formats_spelt formats.value f.value.0 formats.given,
    ) fields

-- the field of a connector that was read
pub conn_spelt : (crtcs : ℕ) (bytes : List ℕ) (mask : ℕ) → crtcs ≤ 4 → conn_at crtcs bytes ≡ Some mask
    → fields_to (crtcs_word mask ∷ []) [] ≡ bytes
unfolding conn_at
conn_spelt crtcs bytes mask few e =
    let l = bind_some (field_at bytes) _ mask e in
    let done = bind_some (end_at l.value.1) _ mask l.then in
    rw (crtcs_spelt crtcs mask l.value.0 few done.then) (last_field bytes l.value done.value l.given done.given)
