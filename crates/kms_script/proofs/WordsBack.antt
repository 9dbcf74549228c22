-- The words of an assignment are read as they were written, with the numbers that its names have then.
use Rattle.std.proofs.Common.{[], ◌≡◌, ℕ, zero, suc, ◌+◌, ◌<◌, ◌≤◌, Bool, true, false, not, List, ◌∷◌, ◌++◌, codes, cond, map, Option, Some}
use Rattle.std.proofs.Common.{None, ℤ, pos, negsuc, refl, sym, ap, subst, ◌∙◌, arith, length}
use Rattle.std.specs.Prelude.{◌&&◌, ◌==◌, is_some, int_le, find}
use Rattle.std.specs.Fmt.{decimal, signed_decimal}
use Rattle.std.specs.List.{AllByRecursion, list_all, position_or_len}
use Rattle.std.specs.Str.{bytes_eq}
use Rattle.std.proofs.lemmas.Bool.{and_from, and_parts, eq-eqb, eqb-true, leb-true, not-true, true≢false}
use Rattle.std.proofs.lemmas.Bool.Decides.{nat_tests}
use Rattle.std.proofs.lemmas.List.{length-map}
use Rattle.std.proofs.lemmas.List.Folds.{list_all-append}
use Rattle.std.proofs.lemmas.Slice.Eq.{bytes_eq-Decides}
use Rattle.kms_model.specs.declared.objects.Kind.{Kind}
use Rattle.kms_model.specs.declared.objects.Kind.TheVariants.{Crtc, Plane, Conn, Enc}
use Rattle.kms_model.specs.declared.scripts.Assign.{Assign}
use Rattle.kms_model.specs.declared.scripts.PropRef.{PropRef}
use Rattle.kms_model.specs.declared.scripts.PropRef.TheVariants.{Known, Unknown}
use Rattle.kms_model.specs.declared.scripts.Value.{Value}
use Rattle.kms_model.specs.declared.scripts.Value.TheVariants as value
use Rattle.kms_model.specs.Device.Properties.{Property, has_id, is_in_profile, properties, property_in}
use Rattle.kms_model.specs.Legacy.Translated.{renumbered}
use Rattle.kms_model.specs.Report.Replies.{kind_name}
use Rattle.kms_model.specs.Script.CommandLines.{Name, Names, assign_read, assign_words, assigns_read, place, property_read, said, saying}
use Rattle.kms_model.specs.Script.CommandLines.{value_read, was_made, words_in}
use Rattle.kms_model.specs.Script.Grammar.{int, is_property_byte, is_property_word, known_property, object}
use Rattle.kms_model.specs.Script.Spelling.{assign_word, name_word, property_word, value_word}
use Rattle.kms_model.specs.Script.WellFormed.{is_assign_in, is_integer, is_property_in, is_value_in}
use Rattle.kms_model.specs.Script.Words.{from, is_digit, is_label, until}
use Rattle.kms_script.specs.ReadAnew.{makes_nothing, renamed_assign, renamed_prop, renamed_value}
use Rattle.kms_script.proofs.AssignParts.{assign_is}
use Rattle.kms_script.proofs.Cutting.{each, number_value}
use Rattle.kms_script.proofs.Decimals.{dec_read, decimal_digits}
use Rattle.kms_script.proofs.LabelsMade.{said_keeps}
use Rattle.kms_script.proofs.NamesBegin.{Begins, is, words}
use Rattle.kms_script.proofs.SpeltAssigns.{assigns_named, value_named, words_joined}
use Rattle.kms_script.proofs.SpeltWords.{id_word}

-- Names

-- no label is made from names to others of the same profile
pub record MakesNone (before after : Names) : Type 0 where
  pub made : after.made ≡ before.made
  pub once : after.is_twice ≡ before.is_twice
  pub profile : after.profile ≡ before.profile
  pub labels : (w : List ℕ) → was_made w after.all ≡ was_made w before.all

pub none_made : (names : Names) → MakesNone names names
none_made names = record { made = refl; once = refl; profile = refl; labels = λ w. refl }

pub saying_none : (w : List ℕ) (names : Names) → MakesNone names (saying w names)
unfolding saying
saying_none w names = record { made = refl; once = refl; profile = refl; labels = λ v. said_keeps v w names.all }

pub makes_none : (a b c : Names) → MakesNone a b → MakesNone b c → MakesNone a c
makes_none a b c one two =
    record {
      made = two.made ∙ one.made;
      once = two.once ∙ one.once;
      profile = two.profile ∙ one.profile;
      labels = λ w. two.labels w
          ∙ one.labels w;
    }

stays_step : (t : Bool) (w : List ℕ) (n : Name) (ns : List Name) (more : List (List ℕ)) → bytes_eq w n.word ≡ t
    → position_or_len (bytes_eq w) (words (said w ns) ++ more) ≡ position_or_len (is w) ns
    → position_or_len (bytes_eq w) (words (cond t (n ∷ ns) (n ∷ said w ns)) ++ more) ≡ cond (not t) (1 + position_or_len (is w) ns) 0
stays_step true w n ns more e ih = rw e refl
stays_step false w n ns more e ih = rw (e, ih) refl

stays : (w : List ℕ) (ns : List Name) (more : List (List ℕ))
    → position_or_len (bytes_eq w) (words (said w ns) ++ more) ≡ position_or_len (is w) ns
stays w [] more = let same : bytes_eq w w ≡ true = (bytes_eq-Decides w w).1 refl in rw same refl
stays w (n ∷ ns) more = stays_step (is w n) w n ns more refl (stays w ns more)

-- a word that was said has its number among all names
pub place_stays : (w : List ℕ) (names : Names) (last : List (List ℕ)) → Begins (saying w names) last
    → position_or_len (bytes_eq w) last ≡ place w names
unfolding saying
place_stays w names last b = rw b.whole (stays w names.all b.more)

-- Words that are among the names

-- a word that a test passes has a number below that of the words
pub word_low : (test : List ℕ → Bool) → test [] ≡ false → (all : List (List ℕ)) (n : ℕ) → test (name_word all n) ≡ true → n < length all
word_low test none [] n is = absurd (true≢false (sym is ∙ none))
word_low test none (w ∷ ws) zero is = omega arith
word_low test none (w ∷ ws) (suc n) is = let rest = word_low test none ws n is in omega (arith, rest)

pub no_label : is_label [] ≡ false
unfolding is_label
no_label = refl

said_step : (t : Bool) (n : Name) (ns more : List Name) → more ≡ ns → cond t (n ∷ ns) (n ∷ more) ≡ n ∷ ns
said_step true n ns more same = refl
said_step false n ns more same = ap (λ xs. n ∷ xs) same

said_there : (ns : List Name) (label : ℕ) → label < length ns → said (name_word (map (λ n. n.word) ns) label) ns ≡ ns
said_there [] label low = absurd (omega (arith, low))
said_there (n ∷ ns) zero low = let same : bytes_eq n.word n.word ≡ true = (bytes_eq-Decides n.word n.word).1 refl in rw same refl
said_there (n ∷ ns) (suc label) low =
    let w : List ℕ = name_word (map (λ m. m.word) ns) label in
    said_step (bytes_eq w n.word) n ns (said w ns) (said_there ns label (omega (arith, low)))

-- names stay as they are where one of them is said
saying_there : (names : Names) (all : List (List ℕ)) (label : ℕ) → label < length all → all ≡ words_in names
    → saying (name_word all label) names ≡ names
unfolding saying
saying_there names all label low same =
    let count = ap length same in
    let words = length-map names.all (λ (n : Name). n.word) in
    ap (λ (ns : List Name). record names { all = ns })
    (ap (λ (ws : List (List ℕ)). said (name_word ws label) names.all) same ∙ said_there names.all label (omega (arith, low, count, words)))

-- Bytes

-- a byte that passes a test is none that does not
passes : (test : ℕ → Bool) (c b : ℕ) → test c ≡ false → test b ≡ true → not (b == c) ≡ true
passes test c b none is = by (b == c) refl
  where
    by : (t : Bool) → (b == c) ≡ t → not t ≡ true
    by true e = let same : b ≡ c = eqb-true b c e in absurd (true≢false (sym is ∙ (ap test same ∙ none)))
    by false e = refl

-- the bytes before a separator, and from it on
record IsParted (s : ℕ) (front rest : List ℕ) : Type 0 where
  before : until s (front ++ s ∷ rest) ≡ front
  behind : from s (front ++ s ∷ rest) ≡ s ∷ rest

parts_at : (s : ℕ) (front rest : List ℕ) → list_all (λ b. not (b == s)) front ≡ true → IsParted s front rest
parts_at s [] rest none = let same : (s == s) ≡ true = eq-eqb s s refl in record { before = rw same refl; behind = rw same refl }
parts_at s (b ∷ bs) rest none =
    let p = and_parts (not (b == s)) (list_all (λ b. not (b == s)) bs) none in
    let off : (b == s) ≡ false = not-true (b == s) p.0 in
    let more = parts_at s bs rest p.1 in
    record { before = rw (off, more.before) refl; behind = rw (off, more.behind) refl }

-- Objects

pub object_back : (kind : Kind) (index : ℕ) → index ≤ 255 → object (kind_name kind ++ decimal index) ≡ Some (kind, index)
unfolding object
object_back Crtc index le = rw (dec_read 255 index (omega arith) le) refl
object_back Plane index le = rw (dec_read 255 index (omega arith) le) refl
object_back Conn index le = rw (dec_read 255 index (omega arith) le) refl
object_back Enc index le = rw (dec_read 255 index (omega arith) le) refl

-- no kind has a dot in its name
no_dot : (kind : Kind) → list_all (λ b. not (b == 46)) (kind_name kind) ≡ true
no_dot Crtc = refl
no_dot Plane = refl
no_dot Conn = refl
no_dot Enc = refl

-- Properties

-- a property is known by its name
abbrev IsKnown : ℕ → Property → Type 0
IsKnown profile p = is_in_profile profile p ≡ true → known_property profile (id_word p.id) ≡ Some p.id

all_known : (profile : ℕ) → AllByRecursion (IsKnown profile) properties
all_known profile = (
  λ e. rw e refl,
  (
    λ e. rw e refl,
    (
      λ e. rw e refl,
      (
        λ e. rw e refl,
        (
          λ e. rw e refl,
          (
            λ e. rw e refl,
            (
              λ e. rw e refl,
              (
                λ e. rw e refl,
                (
                  λ e. rw e refl,
                  (
                    λ e. rw e refl,
                    (
                      λ e. rw e refl,
                      (
                        λ e. rw e refl,
                        (
                          λ e. rw e refl,
                          (λ e. rw e refl, (λ e. rw e refl, (λ e. rw e refl, (λ e. rw e refl, (λ e. rw e refl, (λ e. rw e refl, tt)))))),
                        ),
                      ),
                    ),
                  ),
                ),
              ),
            ),
          ),
        ),
      ),
    ),
  ),
)

-- the name of each row is the name of a property
abbrev is_row : Property → Bool
is_row p = is_property_word (id_word p.id)

all_rows : list_all is_row properties ≡ true
all_rows = refl

record IsNamed (profile id : ℕ) : Type 0 where
  known : known_property profile (id_word id) ≡ Some id
  word : is_property_word (id_word id) ≡ true

found_step : (t : Bool) (profile id : ℕ) (p : Property) (ps : List Property) → (has_id id p && is_in_profile profile p) ≡ t
    → IsKnown profile p → is_row p ≡ true
    → (is_some (find (λ (q : Property). has_id id q && is_in_profile profile q) ps) ≡ true → IsNamed profile id)
    → is_some (cond t (Some p) (find (λ (q : Property). has_id id q && is_in_profile profile q) ps)) ≡ true → IsNamed profile id
found_step true profile id p ps is known row more e =
    let both = and_parts (has_id id p) (is_in_profile profile p) is in
    let same : p.id ≡ id = eqb-true p.id id both.0 in
    subst (IsNamed profile) same (record { known = known both.1; word = row })
found_step false profile id p ps is known row more e = more e

found : (profile id : ℕ) (ps : List Property) → AllByRecursion (IsKnown profile) ps → list_all is_row ps ≡ true
    → is_some (find (λ (q : Property). has_id id q && is_in_profile profile q) ps) ≡ true → IsNamed profile id
found profile id [] all rows e = absurd cc
found profile id (p ∷ ps) all rows e =
    let row = and_parts (is_row p) (list_all is_row ps) rows in
    found_step (has_id id p && is_in_profile profile p) profile id p ps refl all.0 row.0 (found profile id ps all.1 row.1) e

named : (profile id : ℕ) → is_some (property_in profile id) ≡ true → IsNamed profile id
named profile id e = found profile id properties (all_known profile) all_rows e

pub prop_word : (profile : ℕ) (all : List (List ℕ)) (p : PropRef) → is_property_in profile all p ≡ true
    → is_property_word (property_word all p) ≡ true
prop_word profile all (Known id) is = (named profile id is).word
prop_word profile all (Unknown n) is = (and_parts (is_property_word (name_word all n)) _ is).0

-- What was read of words that were written: with the names after it, it is what was written, where each of its names has the number
-- that it has then.
pub record IsBack {A : Type 0} (names : Names) (all : List (List ℕ)) (anew : (ℕ → ℕ) → A) (reads : A → Names → Type 0) : Type 0 where
  pub value : A
  pub after : Names
  pub read : reads value after
  pub same : (last : List (List ℕ)) → Begins after last → value ≡ anew (renumbered all last)
  pub keeps : MakesNone names after
  pub stays : all ≡ words_in names → after ≡ names

-- what says no name
plain_back : {A : Type 0} (names : Names) (all : List (List ℕ)) (x : A) (reads : A → Names → Type 0) → reads x names
    → IsBack names all (λ f. x) reads
plain_back names all x reads read =
    record { value = x; after = names; read = read; same = λ last b. refl; keeps = none_made names; stays = λ are. refl }

-- what says one name
name_back : {A : Type 0} (names : Names) (all : List (List ℕ)) (make : ℕ → A) (n : ℕ) (reads : A → Names → Type 0) → n < length all
    → reads (make (place (name_word all n) names)) (saying (name_word all n) names) → IsBack names all (λ f. make (f n)) reads
name_back names all make n reads low read =
    let w : List ℕ = name_word all n in
    record {
      value = make (place w names);
      after = saying w names;
      read = read;
      same = λ last b. ap make (sym (place_stays w names last b));
      keeps = saying_none w names;
      stays = saying_there names all n low;
    }

both_stay : (a b c : Names) (all : List (List ℕ)) → (all ≡ words_in a → b ≡ a) → (all ≡ words_in b → c ≡ b) → all ≡ words_in a → c ≡ a
both_stay a b c all one two are = two (are ∙ ap words_in (sym (one are))) ∙ one are

-- one behind the other
pair_back : {A B C : Type 0} (names : Names) (all : List (List ℕ)) (f : (ℕ → ℕ) → A) (g : (ℕ → ℕ) → B) (P : A → Names → Type 0)
    (Q : B → Names → Type 0) (R : C → Names → Type 0) (pair : A → B → C) (one : IsBack names all f P) (two : IsBack one.after all g Q)
    → ((last : List (List ℕ)) → Begins two.after last → Begins one.after last) → R (pair one.value two.value) two.after
    → IsBack names all (λ h. pair (f h) (g h)) R
pair_back names all f g P Q R pair one two begins read = record {
  value = pair one.value two.value;
  after = two.after;
  read = read;
  same = λ last b. rw (one.same last (begins last b), two.same last b) refl;
  keeps = makes_none names one.after two.after one.keeps two.keeps;
  stays = both_stay names one.after two.after all one.stays two.stays;
}

abbrev PropBack : Names → List (List ℕ) → PropRef → Type 0
PropBack names all p = IsBack names all (λ f. renamed_prop f p) (λ q after. property_read names (property_word all p) ≡ (q, after))

none_known : (o : Option ℕ) → not (is_some o) ≡ true → o ≡ None
none_known None e = refl
none_known (Some id) e = absurd cc

prop_back : (names : Names) (all : List (List ℕ)) (p : PropRef) → is_property_in names.profile all p ≡ true → PropBack names all p
unfolding property_read
prop_back names all (Known id) is = let n = named names.profile id is in plain_back names all (Known id) _ (rw n.known refl)
prop_back names all (Unknown n) is =
    let w : List ℕ = name_word all n in
    let parts = and_parts (is_property_word w) (not (is_some (known_property names.profile w))) is in
    name_back names all Unknown n _ (word_low is_property_word refl all n parts.0)
    (rw (none_known (known_property names.profile w) parts.1) refl)

-- Values

abbrev ValueBack : Names → List (List ℕ) → Value → Type 0
ValueBack names all v = IsBack names all (λ f. renamed_value f v) (λ u after. value_read names (value_word all v) ≡ Some (u, after))

never_zero : (n : ℕ) → (suc n == 0) ≡ false
never_zero n = grind (arith, nat_tests)

below_back : (names : Names) (n : ℕ) → suc n ≤ 9223372036854775808
    → value_read names (45 ∷ decimal (suc n)) ≡ Some (value.Num (negsuc n), names)
unfolding value_read int
below_back names n le = rw (dec_read 9223372036854775808 (suc n) (omega arith) le, never_zero n) refl

num_back : (names : Names) (z : ℤ) → is_integer z ≡ true → value_read names (signed_decimal z) ≡ Some (value.Num z, names)
num_back names (pos n) is = number_value names n (leb-true n 18446744073709551615 is)
num_back names (negsuc n) is =
    let parts = and_parts (int_le (negsuc 9223372036854775807) (negsuc n)) (int_le (negsuc n) (pos 18446744073709551615)) is in
    below_back names n (let low : n ≤ 9223372036854775807 = leb-true n 9223372036854775807 parts.0 in omega (arith, low))

label_back : (names : Names) (w : List ℕ) → is_label w ≡ true
    → value_read names (64 ∷ w) ≡ Some (value.Named (place w names), saying w names)
unfolding value_read
label_back names w is = rw is refl

crtc_back : (names : Names) (index : ℕ) → index ≤ 255 → value_read names (codes "crtc" ++ decimal index) ≡ Some (value.Crtc index, names)
unfolding value_read
crtc_back names index le = rw (dec_read 255 index (omega arith) le) refl

value_back : (names : Names) (all : List (List ℕ)) (v : Value) → is_value_in all v ≡ true → makes_nothing v ≡ true → ValueBack names all v
value_back names all (value.Num z) is none = plain_back names all (value.Num z) _ (num_back names z is)
value_back names all (value.Named label) is none =
    name_back names all value.Named label _ (word_low is_label no_label all label is) (label_back names (name_word all label) is)
value_back names all (value.New label) is none = absurd cc
value_back names all (value.Crtc index) is none =
    plain_back names all (value.Crtc index) _ (crtc_back names index (leb-true index 255 is))

-- Assignments

-- the words of an assignment are found again
words_back : (kind : Kind) (index : ℕ) (prop given : List ℕ) → index ≤ 255 → is_property_word prop ≡ true
    → assign_words (kind_name kind ++ decimal index ++ codes "." ++ prop ++ codes "=" ++ given) ≡ Some (kind, index, prop, given)
unfolding assign_words
words_back kind index prop given le is =
    let front : List ℕ = kind_name kind ++ decimal index in
    let digits : list_all (λ b. not (b == 46)) (decimal index) ≡ true =
    each is_digit (λ b. not (b == 46)) (λ b d. passes is_digit 46 b refl d) (decimal index) (decimal_digits index (omega (arith, le))) in
    let first : list_all (λ b. not (b == 46)) front ≡ true =
    list_all-append (λ b. not (b == 46)) (kind_name kind) (decimal index)
    ∙ and_from _ _ (no_dot kind) digits in
    let bytes : list_all (λ b. not (b == 61)) prop ≡ true =
    each is_property_byte (λ b. not (b == 61)) (λ b d. passes is_property_byte 61 b refl d) prop
    (and_parts _ (list_all is_property_byte prop) is).1 in
    let outer = parts_at 46 front (prop ++ 61 ∷ given) first in
    let inner = parts_at 61 prop given bytes in
    rw (
      words_joined (kind_name kind) (decimal index) prop given (prop ++ 61 ∷ given) front (46 ∷ (prop ++ 61 ∷ given)) _ refl refl refl refl,
      outer.before,
      outer.behind,
      object_back kind index le,
      inner.before,
      inner.behind,
      is,
    ) refl

abbrev AssignBack : Names → List (List ℕ) → Assign → Type 0
AssignBack names all a = IsBack names all (λ f. renamed_assign f a) (λ b after. assign_read names (assign_word all a) ≡ Some (b, after))

assign_back : (names : Names) (all : List (List ℕ)) (a : Assign) → is_assign_in names.profile all a ≡ true → makes_nothing a.value ≡ true
    → AssignBack names all a
unfolding assign_read
assign_back names all a is none =
    let of = assign_is names.profile all a is in
    let p = prop_back names all a.prop of.prop in
    let v = value_back p.after all a.value of.value none in
    let word = prop_word names.profile all a.prop of.prop in
    let cut = words_back a.kind a.index (property_word all a.prop) (value_word all a.value) of.index word in
    pair_back names all _ _ _ _ _ (λ prop value. record a { prop = prop; value = value }) p v
    (λ last b. (value_named last p.after (value_word all a.value) (v.value, v.after) v.read b).begins) (rw (cut, p.read, v.read) refl)

abbrev pub AssignsBack : Names → List (List ℕ) → List Assign → Type 0
AssignsBack names all assigns = IsBack names all (λ f. map (renamed_assign f) assigns)
    (λ sets after. assigns_read names (map (assign_word all) assigns) ≡ Some (sets, after))

pub assigns_back : (assigns : List Assign) (names : Names) (all : List (List ℕ)) (profile : ℕ) → names.profile ≡ profile
    → list_all (is_assign_in profile all) assigns ≡ true
    → list_all (λ a. makes_nothing a.value) assigns ≡ true → AssignsBack names all assigns
assigns_back [] names all profile of are none = plain_back names all [] _ refl
assigns_back (a ∷ more) names all profile of are none =
    let are_both = and_parts (is_assign_in profile all a) (list_all (is_assign_in profile all) more) are in
    let none_both = and_parts (makes_nothing a.value) (list_all (λ (x : Assign). makes_nothing x.value) more) none in
    let own : is_assign_in names.profile all a ≡ true = ap (λ n. is_assign_in n all a) of ∙ are_both.0 in
    let one = assign_back names all a own none_both.0 in
    let rest = assigns_back more one.after all profile (one.keeps.profile ∙ of) are_both.1 none_both.1 in
    pair_back names all _ _ _ _ _ (λ x xs. x ∷ xs) one rest
    (λ last b. (assigns_named last (map (assign_word all) more) one.after (rest.value, rest.after) rest.read b).begins)
    (rw (one.read, rest.read) (refl {a = Some (one.value ∷ rest.value, rest.after)}))
