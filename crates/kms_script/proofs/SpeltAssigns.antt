-- Assignments are written as they were read.
use Rattle.std.proofs.Common.{◌≡◌, ℕ, List, [], ◌∷◌, ◌++◌, map, append_assoc, Option, Some, None, refl, ap, ◌∙◌, arith, true, Bool, subst}
use Rattle.std.specs.Prelude.{codes, ◌&&◌, nat_le}
use Rattle.std.specs.Fmt.{decimal}
use Rattle.kms_model.specs.declared.objects.Kind.{Kind}
use Rattle.kms_model.specs.declared.scripts.Assign.{Assign}
use Rattle.kms_model.specs.declared.scripts.PropRef.{PropRef}
use Rattle.kms_model.specs.declared.scripts.Value.{Value}
use Rattle.kms_model.specs.Script.CommandLines.{Names, assign_words, property_read, value_read, assign_read, assigns_read}
use Rattle.kms_model.specs.Script.Grammar.{object, is_property_word, known_property}
use Rattle.kms_model.specs.Script.Words.{until, from, strip}
use Rattle.kms_model.specs.Report.Replies.{kind_name}
use Rattle.kms_model.specs.Script.Spelling.{property_word, value_word, assign_word}
use Rattle.kms_script.proofs.Decimals.{dec_spelt}
use Rattle.kms_script.proofs.Inverted.{bind_some, if_some, some_same, from_bind}
use Rattle.kms_script.proofs.LineFields.{strip_spelt, until_from}
use Rattle.kms_script.proofs.NamesBegin.{Begins, before_saying, said_word, making_says}
use Rattle.kms_script.proofs.SpeltWords.{int_spelt, object_spelt, property_spelt}
use Rattle.std.specs.List.{list_all}
use Rattle.std.proofs.lemmas.Bool.{and_from}
use Rattle.kms_model.specs.Script.WellFormed.{is_assign_in, is_property_in, is_value_in}
use Rattle.kms_script.proofs.EachCommand.{prop_of, value_each}
use Rattle.kms_script.proofs.FitWords.{index_fit, int_fit, known_fit, object_fit}
use Rattle.kms_script.proofs.ProfileStays.{assign_stays}

-- what was read after names so far, among all names of a script: the names are a front of
-- them, it passes its test, and it is written as it stood
pub record Named {A : Type 0} (names : Names) (all : List (List ℕ)) (test : Bool) (written read : A) : Type 0 where
  pub begins : Begins names all
  pub fit : test ≡ true
  pub same : written ≡ read

-- by whether a property has the name
prop_named : (all : List (List ℕ)) (names : Names) (word : List ℕ) (o : Option ℕ) → known_property names.profile word ≡ o
    → is_property_word word ≡ true → Begins (prop_of names word o).1 all
    → Named names all (is_property_in names.profile all (prop_of names word o).0) (property_word all (prop_of names word o).0) word
prop_named all names word None e is b =
    record { begins = before_saying all word names b; fit = rw (said_word all word names b, is, e) refl; same = said_word all word names b }
prop_named all names word (Some id) e is b =
    record { begins = b; fit = known_fit names.profile word id e; same = property_spelt names.profile id word e }

-- the property of an assignment
property_named : (all : List (List ℕ)) (names : Names) (word : List ℕ) → is_property_word word ≡ true
    → Begins (property_read names word).1 all
    → Named names all (is_property_in names.profile all (property_read names word).0) (property_word all (property_read names word).0) word
unfolding property_read
property_named all names word is b = prop_named all names word (known_property names.profile word) refl is b

-- a value that was read of a word, with the names after it
abbrev Valued : List (List ℕ) → Names → Value × Names → List ℕ → Type 0
Valued all names r word = Begins r.1 all → Named names all (is_value_in all r.0) (value_word all r.0) word

-- the value of an assignment
pub value_named : (all : List (List ℕ)) (names : Names) (word : List ℕ) (r : Value × Names) → value_read names word ≡ Some r
    → Valued all names r word
value_named all names word = value_each names word (λ r. Valued all names r word) (record {
  named = λ label at is b. record {
    begins = before_saying all label names b;
    fit = rw (said_word all label names b) is;
    same = ap (λ (w : List ℕ). codes "@" ++ w) (said_word all label names b) ∙ strip_spelt (codes "@") word label at;
  };
  new = λ label plus is b. (let s = making_says all label names b in record {
    begins = before_saying all label names s;
    fit = rw (said_word all label names s) is;
    same = ap (λ (w : List ℕ). codes "+" ++ w) (said_word all label names s) ∙ strip_spelt (codes "+") word label plus;
  });
  crtc = λ digits index front is b. record {
    begins = b;
    fit = index_fit index digits is;
    same = ap (λ (w : List ℕ). codes "crtc" ++ w) (dec_spelt 255 index digits (omega arith) is)
        ∙ strip_spelt (codes "crtc") word digits front;
  };
  number = λ z is b. record { begins = b; fit = int_fit z word is; same = int_spelt z word is };
})

-- the words that an assignment is put together of
abbrev Parts : Type 0
Parts = Kind × ℕ × List ℕ × List ℕ

-- `OBJ.PROP=VALUE` put together again
pub words_joined : (kind index prop given tail until_dot from_dot word : List ℕ) → kind ++ index ≡ until_dot → codes "." ++ tail ≡ from_dot
    → prop ++ (codes "=" ++ given) ≡ tail → until_dot ++ from_dot ≡ word
    → kind ++ index ++ codes "." ++ prop ++ codes "=" ++ given ≡ word
words_joined kind index prop given tail until_dot from_dot word front dot rest whole =
    rw front (append_assoc (until_dot ++ codes "." ++ prop) (codes "=") given
    ∙ append_assoc (until_dot ++ codes ".") prop (codes "=" ++ given)
    ∙ append_assoc until_dot (codes ".") (prop ++ (codes "=" ++ given))
    ∙ rw (rest, dot) whole)

-- the words of an assignment pass their tests, and give it back
record IsOfParts (word : List ℕ) (w : Parts) : Type 0 where
  few : nat_le w.1 255 ≡ true
  named : is_property_word w.2 ≡ true
  spelt : kind_name w.0 ++ decimal w.1 ++ codes "." ++ w.2 ++ codes "=" ++ w.3 ≡ word

of_parts : (word : List ℕ) (w : Parts) → assign_words word ≡ Some w → IsOfParts word w
unfolding assign_words
of_parts word w e =
    from_bind (object (until 46 word)) _ w e (λ o first more.
    from_bind (strip (codes ".") (from 46 word)) _ w more (λ tail second more.
    from_bind (strip (codes "=") (from 61 tail)) _ w more (λ given third more.
    let read = if_some (is_property_word (until 61 tail)) _ w more in
    let behind : until 61 tail ++ (codes "=" ++ given) ≡ tail = rw (strip_spelt (codes "=") (from 61 tail) given third) (until_from 61 tail)
    in
    rw (← some_same _ w read.1) (record {
      few = object_fit o (until 46 word) first;
      named = read.0;
      spelt = words_joined (kind_name o.0) (decimal o.1) (until 61 tail) given tail (until 46 word) (from 46 word) word
          (object_spelt o (until 46 word) first) (strip_spelt (codes ".") (from 46 word) tail second) behind (until_from 46 word);
    }))))

-- the property and the value as words
assign_joined : (all : List (List ℕ)) (w : Parts) (p : PropRef) (v : Value) (word : List ℕ) → property_word all p ≡ w.2
    → value_word all v ≡ w.3 → kind_name w.0 ++ decimal w.1 ++ codes "." ++ w.2 ++ codes "=" ++ w.3 ≡ word
    → assign_word all (record { kind = w.0; index = w.1; prop = p; value = v }) ≡ word
assign_joined all w p v word prop value whole = rw (prop, value) whole

-- one assignment
assign_named : (all : List (List ℕ)) (names : Names) (word : List ℕ) (r : Assign × Names) → assign_read names word ≡ Some r
    → Begins r.1 all → Named names all (is_assign_in names.profile all r.0) (assign_word all r.0) word
unfolding assign_read
assign_named all names word r e =
    let w = bind_some (assign_words word) _ r e in
    let after : Names = (property_read names w.value.2).1 in
    let v = bind_some (value_read after w.value.3) _ r w.then in
    let parts = of_parts word w.value w.given in
    rw (← some_same _ r v.then) (λ b.
    let val = value_named all after w.value.3 v.value v.given b in
    let prop = property_named all names w.value.2 parts.named val.begins in
    record {
      begins = prop.begins;
      fit = and_from (nat_le w.value.1 255)
          (is_property_in names.profile all ((property_read names w.value.2).0) && is_value_in all v.value.0) parts.few
          (and_from (is_property_in names.profile all ((property_read names w.value.2).0)) (is_value_in all v.value.0) prop.fit val.fit);
      same = assign_joined all w.value ((property_read names w.value.2).0) v.value.0 word prop.same val.same parts.spelt;
    })

-- a first word and more
front_and_more : (w v : List ℕ) (ws vs : List (List ℕ)) → w ≡ v → ws ≡ vs → w ∷ ws ≡ v ∷ vs
front_and_more w v ws vs e f = rw (e, f) refl

-- assignments in a row
pub assigns_named : (all : List (List ℕ)) (ws : List (List ℕ)) (names : Names) (r : List Assign × Names) → assigns_read names ws ≡ Some r
    → Begins r.1 all → Named names all (list_all (is_assign_in names.profile all) r.0) (map (assign_word all) r.0) ws
assigns_named all [] names r e = rw (← some_same _ r e) (λ b. record { begins = b; fit = refl; same = refl })
assigns_named all (w ∷ ws) names r e =
    let a = bind_some (assign_read names w) _ r e in
    let more = bind_some (assigns_read a.value.1 ws) _ r a.then in
    rw (← some_same _ r more.then) (λ b.
    let later = assigns_named all ws a.value.1 more.value more.given b in
    let first = assign_named all names w a.value a.given later.begins in
    let rest : list_all (is_assign_in names.profile all) more.value.0 ≡ true =
    subst (λ profile. list_all (is_assign_in profile all) more.value.0 ≡ true) (assign_stays names w a.value a.given) later.fit in
    record {
      begins = first.begins;
      fit = and_from (is_assign_in names.profile all a.value.0) (list_all (is_assign_in names.profile all) more.value.0) first.fit rest;
      same = front_and_more (assign_word all a.value.0) w (map (assign_word all) more.value.0) ws first.same later.same;
    })
