-- The words of formats, numbers with a sign, objects and properties are written as they were read.
use Rattle.std.proofs.Common.{◌≡◌, ℕ, zero, suc, inl, inr, Bool, true, false, List, [], ◌∷◌, ◌++◌, cond, Option, Some, None, ℤ, pos, negsuc}
use Rattle.std.proofs.Common.{neg_ℤ, refl, sym, ap, ◌∙◌, arith}
use Rattle.std.specs.Prelude.{◌==◌, ◌&&◌, codes, option_map, IfSome}
use Rattle.std.specs.Fmt.{decimal, signed_decimal}
use Rattle.std.specs.List.{list_all, list_any}
use Rattle.std.specs.Option.{option_map_or}
use Rattle.std.specs.Str.{bytes_eq}
use Rattle.std.proofs.lemmas.Bool.{and_parts, eqb-false}
use Rattle.std.proofs.lemmas.Slice.Eq.{bytes_eq-Decides}
use Rattle.kms_model.specs.declared.objects.Format.{Format}
use Rattle.kms_model.specs.declared.objects.Format.TheVariants.{Xr24, Ar24, Rg16}
use Rattle.kms_model.specs.declared.objects.Kind.{Kind}
use Rattle.kms_model.specs.declared.objects.Kind.TheVariants.{Crtc, Plane, Conn, Enc}
use Rattle.kms_model.specs.Script.Grammar.{negative, int, format_named, indexed, object, known_property}
use Rattle.kms_model.specs.Device.Properties.{Property, properties, property_id, property_named, is_in_profile, is_named, same_kind}
use Rattle.kms_model.specs.Device.Properties.{name_of}
use Rattle.kms_model.specs.Script.Words.{dec, strip}
use Rattle.kms_model.proofs.PropertyTable.{find-list_all}
use Rattle.kms_model.proofs.SetLemmas.{find-passes}
use Rattle.kms_model.proofs.Facts.{or_else-some}
use Rattle.kms_model.specs.Report.Replies.{kind_name}
use Rattle.kms_model.specs.Script.Spelling.{format_word}
use Rattle.kms_script.proofs.Decimals.{dec_spelt}
use Rattle.kms_script.proofs.Inverted.{bind_some, map_some, some_same, or_some, choice_some}
use Rattle.kms_script.proofs.LineFields.{strip_spelt}

-- a test that found a word
abbrev pub found : (word known : List ℕ) → bytes_eq word known ≡ true → word ≡ known
found word known = (bytes_eq-Decides word known).0

-- a format whose name is the word, or another
format_or : (format f : Format) (word : List ℕ) (other : Option Format) → (other ≡ Some f → format_word f ≡ word)
    → cond (bytes_eq word (format_word format)) (Some format) other ≡ Some f → format_word f ≡ word
format_or format f word other more e = elim (choice_some (bytes_eq word (format_word format)) (Some format) other f e) [
  | inl here ↦ rw (← some_same format f here.1) (sym (found word (format_word format) here.0))
  | inr there ↦ more there
]

-- of nothing that was read anything follows
pub nothing_read : {A B : Type 0} (y : A) → None ≡ Some y → B
nothing_read y e = absurd cc

-- the name of a format
pub format_spelt : (f : Format) (word : List ℕ) → format_named word ≡ Some f → format_word f ≡ word
format_spelt f word e = format_or Xr24 f word _ (format_or Ar24 f word _ (format_or Rg16 f word None (nothing_read f))) e

negative_step : (t : Bool) (n : ℕ) (z : ℤ) → (n == 0) ≡ t → cond t None (Some (neg_ℤ (pos n))) ≡ Some z → signed_decimal z ≡ 45 ∷ decimal n
negative_step true n z is e = absurd cc
negative_step false zero z is e = absurd (eqb-false 0 0 is refl)
negative_step false (suc n) z is e = rw (← some_same (negsuc n) z e) refl

-- a number behind `-`
negative_spelt : (z : ℤ) (digits : List ℕ) → negative digits ≡ Some z → signed_decimal z ≡ 45 ∷ digits
negative_spelt z digits e =
    let b = bind_some (dec 9223372036854775808 digits) _ z e in
    negative_step (b.value == 0) b.value z refl b.then ∙ ap (λ (ds : List ℕ). 45 ∷ ds)
    (dec_spelt 9223372036854775808 b.value digits (omega arith) b.given)

-- a number with a sign or without
pub int_spelt : (z : ℤ) (word : List ℕ) → int word ≡ Some z → signed_decimal z ≡ word
unfolding int
int_spelt z word e = elim (or_some negative (strip (codes "-") word) (option_map pos (dec 18446744073709551615 word)) z e) [
  | inl b ↦ negative_spelt z b.value b.then ∙ strip_spelt (codes "-") word b.value b.given
  | inr d ↦ (let m = map_some pos (dec 18446744073709551615 word) z d
      in rw (← m.makes) (dec_spelt 18446744073709551615 m.value word (omega arith) m.given))
]

-- the word of an object
abbrev pub object_word : Kind × ℕ → List ℕ
object_word o = kind_name o.0 ++ decimal o.1

-- an object whose kind stands at the front of the word, or another
kind_or : (kind : Kind) (o : Kind × ℕ) (word : List ℕ) (other : Option (Kind × ℕ)) → (other ≡ Some o → object_word o ≡ word)
    → option_map_or (indexed kind) (strip (kind_name kind) word) other ≡ Some o → object_word o ≡ word
kind_or kind o word other more e = elim (or_some (indexed kind) (strip (kind_name kind) word) other o e) [
  | inl b ↦ (let m = map_some _ (dec 255 b.value) o b.then
      in rw (← m.makes, dec_spelt 255 m.value b.value (omega arith) m.given) (strip_spelt (kind_name kind) word b.value b.given))
  | inr there ↦ more there
]

-- the kind and the index of an object
pub object_spelt : (o : Kind × ℕ) (word : List ℕ) → object word ≡ Some o → object_word o ≡ word
unfolding object
object_spelt o word e = kind_or Crtc o word _ (kind_or Plane o word _ (kind_or Conn o word _ (kind_or Enc o word None (nothing_read o)))) e

-- the name of the property of an id
abbrev pub id_word : ℕ → List ℕ
id_word id = option_map_or (λ w. w) (name_of id) []

-- an id of a row is that of the row's name
abbrev names_itself : Property → Bool
names_itself p = bytes_eq (id_word p.id) p.name

-- each row of the table
all_name_themselves : list_all names_itself properties ≡ true
all_name_themselves = refl

-- the id of a row that a name found gives the name back
row_spelt : (profile : ℕ) (kind : Kind) (name : List ℕ) (id : ℕ) (o : Option Property) → IfSome o (λ p. names_itself p ≡ true)
    → IfSome o (λ p. is_named profile kind name p ≡ true) → option_map (λ (p : Property). p.id) o ≡ Some id → id_word id ≡ name
row_spelt profile kind name id None itself named e = absurd cc
row_spelt profile kind name id (Some p) itself named e =
    let both : (bytes_eq p.name name && is_in_profile profile p)
    ≡ true = (and_parts (list_any (same_kind kind) p.kinds) (bytes_eq p.name name && is_in_profile profile p) named).1 in
    let is : bytes_eq p.name name ≡ true = (and_parts (bytes_eq p.name name) (is_in_profile profile p) both).0 in
    rw (← some_same p.id id e) (found (id_word p.id) p.name itself ∙ found p.name name is)

-- the property of a kind of object
id_spelt : (profile : ℕ) (kind : Kind) (name : List ℕ) (id : ℕ) → property_id profile kind name ≡ Some id → id_word id ≡ name
id_spelt profile kind name id e = row_spelt profile kind name id (property_named profile kind name)
    (find-list_all names_itself (is_named profile kind name) properties all_name_themselves)
    (find-passes (is_named profile kind name) properties) e

-- the name of a property that is known
pub property_spelt : (profile id : ℕ) (name : List ℕ) → known_property profile name ≡ Some id → id_word id ≡ name
property_spelt profile id name e = elim (or_else-some (property_id profile Plane name) _ id e) [
  | inl plane ↦ id_spelt profile Plane name id plane
  | inr more ↦ elim (or_else-some (property_id profile Crtc name) (property_id profile Conn name) id more) [
    | inl crtc ↦ id_spelt profile Crtc name id crtc
    | inr conn ↦ id_spelt profile Conn name id conn
  ]
]
