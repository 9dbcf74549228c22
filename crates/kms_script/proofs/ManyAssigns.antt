-- The fault of an atomic line with more assignments than a request may have, by its labels.
use Rattle.std.proofs.Common.{◌≡◌, ℕ, ◌+◌, ◌<◌, ◌≤◌, Bool, true, false, not, List, [], ◌∷◌, ◌++◌, length, map, cond, append-nil}
use Rattle.std.proofs.Common.{append_assoc, Option, Some, None, Err, refl, sym, ap, subst, ◌∙◌, arith}
use Rattle.std.specs.Prelude.{codes, if◌then◌else◌, nat_lt, option_map, Result, ⊤}
use Rattle.std.specs.Bool.{Decides, nat_eq}
use Rattle.std.specs.List.{AllByRecursion, IsDistinct, list_any}
use Rattle.std.specs.Option.{option_map_or}
use Rattle.std.specs.Str.{bytes_eq}
use Rattle.std.proofs.lemmas.Bool.{false≢true}
use Rattle.std.proofs.lemmas.Bool.Decides.{nat_tests}
use Rattle.std.proofs.lemmas.Slice.Eq.{bytes_eq-Decides}
use Rattle.kms_model.specs.declared.scripts.Assign.{Assign}
use Rattle.kms_model.specs.declared.scripts.Command.{Command}
use Rattle.kms_model.specs.declared.scripts.Command.TheVariants as command
use Rattle.kms_model.specs.declared.scripts.Why.{Why}
use Rattle.kms_model.specs.declared.scripts.Why.TheVariants.{Form, Label, Limit}
use Rattle.kms_model.specs.Script.CommandLines.{Name, Names, Read, assign_words, assigns_read, atomic_read, is_over, was_made, words_in}
use Rattle.kms_model.specs.Script.Grammar.{field_words, hex_at, int}
use Rattle.kms_model.specs.Script.Words.{◌>>=◌, dec, dec_at, field_at, is_label, strip}
use Rattle.kms_script.specs.Lines.{checked}
use Rattle.kms_words.specs.Packed.{made_words, packed_all, packed_alone}
use Rattle.kms_script.specs.Overlong.{AddsLabels, assign_label, blank_count, has_many, label_and, label_word, labels_at, labels_made}
use Rattle.kms_script.specs.Overlong.{value_label}
use Rattle.kms_words.proofs.Fields.{first_word, no_word, pair}
use Rattle.kms_script.proofs.Inverted.{bind_some, some_same}
use Rattle.kms_script.proofs.LabelsMade.{AllAgree, assigns_agree, twice_in}
use Rattle.kms_script.proofs.ManyFields.{request_blanks, words_blanks}
use Rattle.kms_script.proofs.Repeated.{OnceOrTwice, numbers_append, once_or_twice}

-- The labels of fields, one field after the other

-- labels read so far, and those to come
pub record LabelsSoFar (fields rest old now : List ℕ) : Type 0 where
  pub done : List (List ℕ)
  pub added : now ≡ old ++ packed_all done
  pub read : labels_at fields ≡ option_map (λ ls. done ++ ls) (labels_at rest)

-- the label that a word makes, or none
pub record LabelOf (word label : List ℕ) : Type 0 where
  pub found : Option (List ℕ)
  pub given : assign_label word ≡ Some found
  pub same : label ≡ label_word found

pub label_of : (word label : List ℕ) → Some label ≡ option_map label_word (assign_label word) → LabelOf word label
label_of word label e = step (assign_label word) refl e
  where
    step : (o : Option (Option (List ℕ))) → assign_label word ≡ o → Some label ≡ option_map label_word o → LabelOf word label
    step None is e = absurd cc
    step (Some l) is e = record { found = l; given = is; same = cc }

pub label_of_none : (word : List ℕ) → None ≡ option_map label_word (assign_label word) → assign_label word ≡ None
label_of_none word e = step (assign_label word) e
  where
    step : (o : Option (Option (List ℕ))) → None ≡ option_map label_word o → o ≡ None
    step None e = refl
    step (Some l) e = absurd cc

next_label : (bytes word after : List ℕ) (l : Option (List ℕ)) → pair word after ≡ field_at bytes → assign_label word ≡ Some l
    → labels_at bytes ≡ option_map (label_and l) (labels_at after)
next_label bytes word after l f e = rw (first_word bytes word after f) (step (field_words after))
  where
    inner : (o : Option (List (List ℕ))) → (o >>= (λ ls. Some (label_and l ls))) ≡ option_map (label_and l) o
    inner None = refl
    inner (Some ls) = refl

    step : (o : Option (List (List ℕ))) → (option_map (λ ws. word ∷ ws) o >>= labels_made) ≡ option_map (label_and l) (o >>= labels_made)
    step None = refl
    step (Some ws) = rw e (inner (labels_made ws))

bad_label : (bytes word after : List ℕ) → pair word after ≡ field_at bytes → assign_label word ≡ None → labels_at bytes ≡ None
bad_label bytes word after f e = rw (first_word bytes word after f) (step (field_words after))
  where
    step : (o : Option (List (List ℕ))) → (option_map (λ ws. word ∷ ws) o >>= labels_made) ≡ None
    step None = refl
    step (Some ws) = rw e refl

one_number : (l : Option (List ℕ)) → packed_all (label_and l []) ≡ packed_alone (label_word l)
unfolding is_label
one_number None = refl
one_number (Some label) = append-nil (packed_alone label)

label_more : (done ls : List (List ℕ)) (l : Option (List ℕ)) → done ++ label_and l ls ≡ (done ++ label_and l []) ++ ls
label_more done ls None = rw (append-nil done) refl
label_more done ls (Some label) = sym (append_assoc done (label ∷ []) ls)

pub one_label_more : (fields rest old now word after label next : List ℕ) → LabelsSoFar fields rest old now
    → pair word after ≡ field_at rest → Some label ≡ option_map label_word (assign_label word) → next ≡ now ++ packed_alone label
    → LabelsSoFar fields after old next
one_label_more fields rest old now word after label next so f is added =
    let l : LabelOf word label = label_of word label is in
    record {
      done = so.done ++ label_and l.found [];
      added =
          added
          ∙ (ap (λ (w : List ℕ). now ++ packed_alone w) l.same
          ∙ (ap (λ (ns : List ℕ). ns ++ packed_alone (label_word l.found)) so.added
          ∙ (append_assoc old (packed_all so.done) (packed_alone (label_word l.found))
          ∙ ap (λ (ns : List ℕ). old ++ ns) (ap (λ (ns : List ℕ). packed_all so.done ++ ns) (sym (one_number l.found)) ∙ sym
          (numbers_append so.done (label_and l.found []))))));
      read = so.read ∙ rw (next_label rest word after l.found f l.given) (step l.found (labels_at after));
    }
  where
    step : (l : Option (List ℕ)) (o : Option (List (List ℕ))) → option_map (λ ls. so.done ++ ls) (option_map (label_and l) o)
        ≡ option_map (λ ls. (so.done ++ label_and l []) ++ ls) o
    step l None = refl
    step l (Some ls) = ap Some (label_more so.done ls l)

pub no_label_there : (fields rest old now word after : List ℕ) → LabelsSoFar fields rest old now → pair word after ≡ field_at rest
    → None ≡ option_map label_word (assign_label word) → labels_at fields ≡ None
no_label_there fields rest old now word after so f e = so.read ∙ rw (bad_label rest word after f (label_of_none word e)) refl

pub no_field_there : (fields rest old now : List ℕ) → LabelsSoFar fields rest old now → 1 ≤ length rest → None ≡ field_at rest
    → labels_at fields ≡ None
no_field_there fields rest old now so long e = so.read ∙ rw (no_word rest long e) refl

-- Labels that names make

made_all : (x : List ℕ) (ns : List Name) → AllByRecursion (λ v. bytes_eq x v ≡ false) (map (λ n. n.word) ns)
    → AllByRecursion (λ v. bytes_eq x v ≡ false) (made_words ns)
made_all x [] all = tt
made_all x (n ∷ ns) all = step n.is_made n.word all.0 (made_all x ns all.1)
  where
    step : (m : Bool) (w : List ℕ) → bytes_eq x w ≡ false → AllByRecursion (λ v. bytes_eq x v ≡ false) (made_words ns)
        → AllByRecursion (λ v. bytes_eq x v ≡ false) (made_words (record { word = w; is_made = m } ∷ ns))
    step true w apart ih = (apart, ih)
    step false w apart ih = ih

none_any : (x : List ℕ) (vs : List (List ℕ)) → AllByRecursion (λ v. bytes_eq x v ≡ false) vs → list_any (bytes_eq x) vs ≡ false
none_any x [] all = refl
none_any x (v ∷ vs) all = rw (all.0, none_any x vs all.1) refl

holds_step : (s m : Bool) (w x : List ℕ) (ns : List Name) → bytes_eq w x ≡ s
    → AllByRecursion (λ v. bytes_eq x v ≡ false) (map (λ n. n.word) ns) → was_made w ns ≡ list_any (bytes_eq w) (made_words ns)
    → cond s m (was_made w ns) ≡ list_any (bytes_eq w) (made_words (record { word = x; is_made = m } ∷ ns))
holds_step true true w x ns e all ih = rw e refl
holds_step false true w x ns e all ih = rw e ih
holds_step true false w x ns e all ih =
    let same : w ≡ x = (bytes_eq-Decides w x).0 e in
    rw same (sym (none_any x (made_words ns) (made_all x ns all)))
holds_step false false w x ns e all ih = ih

holds_made : (ns : List Name) → IsDistinct bytes_eq (map (λ n. n.word) ns) → (w : List ℕ)
    → was_made w ns ≡ list_any (bytes_eq w) (made_words ns)
unfolding IsDistinct
holds_made [] d w = refl
holds_made (n ∷ ns) d w = holds_step (bytes_eq w n.word) n.is_made w n.word ns refl d.0 (holds_made ns d.1 w)

made_distinct : (ns : List Name) → IsDistinct bytes_eq (map (λ n. n.word) ns) → IsDistinct bytes_eq (made_words ns)
unfolding IsDistinct
made_distinct [] d = tt
made_distinct (n ∷ ns) d = step n.is_made n.word d.0 (made_distinct ns d.1)
  where
    step : (m : Bool) (w : List ℕ) → AllByRecursion (λ v. bytes_eq w v ≡ false) (map (λ n. n.word) ns) → IsDistinct bytes_eq (made_words ns)
        → IsDistinct bytes_eq (made_words (record { word = w; is_made = m } ∷ ns))
    step true w all ih = (made_all w ns all, ih)
    step false w all ih = ih

-- Labels that fields make are labels

abbrev IsLabelled : Option (Option (List ℕ)) → Type 0
IsLabelled None = ⊤
IsLabelled (Some None) = ⊤
IsLabelled (Some (Some label)) = is_label label ≡ true

plain_labelled : {A : Type 0} (o : Option A) → IsLabelled (option_map (λ x. None) o)
plain_labelled None = tt
plain_labelled (Some x) = tt

named_labelled : (t : Bool) → IsLabelled (cond t (Some None) None)
named_labelled true = tt
named_labelled false = tt

new_labelled : (label : List ℕ) (t : Bool) → is_label label ≡ t → IsLabelled (cond t (Some (Some label)) None)
new_labelled label true e = e
new_labelled label false e = tt

values_labelled : (word : List ℕ) (a b c : Option (List ℕ))
    → IsLabelled
    (option_map_or (λ label. if is_label label then Some None else None) a
    (option_map_or (λ label. if is_label label then Some (Some label) else None) b
    (option_map_or (λ digits. option_map (λ i. None) (dec 255 digits)) c (option_map (λ z. None) (int word)))))
values_labelled word (Some label) b c = named_labelled (is_label label)
values_labelled word None (Some label) c = new_labelled label (is_label label) refl
values_labelled word None None (Some digits) = plain_labelled (dec 255 digits)
values_labelled word None None None = plain_labelled (int word)

value_labelled : (word : List ℕ) → IsLabelled (value_label word)
unfolding value_label
value_labelled word = values_labelled word (strip (codes "@") word) (strip (codes "+") word) (strip (codes "crtc") word)

assign_labelled : (word : List ℕ) (l : Option (List ℕ)) → assign_label word ≡ Some l → IsLabelled (Some l)
unfolding assign_label
assign_labelled word l e = let w = bind_some (assign_words word) (λ w. value_label w.3) l e
    in subst (λ (o : Option (Option (List ℕ))). IsLabelled o) w.then (value_labelled w.value.3)

all_labelled : (ws : List (List ℕ)) (ls : List (List ℕ)) → labels_made ws ≡ Some ls → AllByRecursion (λ l. is_label l ≡ true) ls
all_labelled [] ls e = rw (← some_same [] ls e) tt
all_labelled (w ∷ ws) ls e =
    let l = bind_some (assign_label w) _ ls e in
    let more = bind_some (labels_made ws) _ ls l.then in
    rw (← some_same _ ls more.then) (step more.value l.value (assign_labelled w l.value l.given) (all_labelled ws more.value more.given))
  where
    step : (ms : List (List ℕ)) (l : Option (List ℕ)) → IsLabelled (Some l) → AllByRecursion (λ l. is_label l ≡ true) ms
        → AllByRecursion (λ l. is_label l ≡ true) (label_and l ms)
    step ms None is all = all
    step ms (Some label) is all = (is, all)

-- The fault

pub no_flags : (names : Names) (bytes : List ℕ) → hex_at bytes ≡ None → checked (atomic_read names bytes) ≡ Err Form
unfolding atomic_read
no_flags names bytes e = rw e refl

pub no_user : (names : Names) (bytes : List ℕ) (flags : ℕ × List ℕ) → hex_at bytes ≡ Some flags → dec_at 18446744073709551615 flags.1 ≡ None
    → checked (atomic_read names bytes) ≡ Err Form
unfolding atomic_read
no_user names bytes flags f e = rw (f, e) refl

no_assigns : (names : Names) (ws : List (List ℕ)) → IsDistinct bytes_eq (words_in names) → labels_made ws ≡ None
    → assigns_read names ws ≡ None
no_assigns names ws d e = step (assigns_read names ws)
    (subst (λ (o : Option (List (List ℕ))). AllAgree (assigns_read names ws) names (made_words names.all) (length ws) o) e
    (assigns_agree ws names (made_words names.all) (holds_made names.all d)))
  where
    step : (o : Option (List Assign × Names)) → AllAgree o names (made_words names.all) (length ws) None → o ≡ None
    step None h = refl
    step (Some r) h = absurd h

pub no_labels : (names : Names) (bytes : List ℕ) (flags user : ℕ × List ℕ) → IsDistinct bytes_eq (words_in names)
    → hex_at bytes ≡ Some flags → dec_at 18446744073709551615 flags.1 ≡ Some user → labels_at user.1 ≡ None
    → checked (atomic_read names bytes) ≡ Err Form
unfolding atomic_read
no_labels names bytes flags user d f u e = rw (f, u) (step (field_words user.1) refl e)
  where
    form : Read → Result (Command × Names) Why
    form o = checked o

    step : (o : Option (List (List ℕ))) → field_words user.1 ≡ o → (o >>= labels_made) ≡ None
        → checked (o >>= (λ words. assigns_read names words >>=
        (λ sets. Some (command.Atomic (record { flags = flags.0; user_data = user.0; assigns = sets.0 }), sets.1)))) ≡ Err Form
    step None is e = refl
    step (Some ws) is e = rw (no_assigns names ws d e) refl

-- Label where one is made twice, else Limit
abbrev pub why_of : Bool → Why
why_of true = Label
why_of false = Limit

over_step : (twice over : Bool) (c : Command) (after : Names) → after.is_twice ≡ twice → is_over c ≡ true
    → checked (Some (c, after)) ≡ Err (why_of twice)
over_step true over c after t o = rw t refl
over_step false over c after t o = rw (t, o) refl

pub many_fault : (names : Names) (bytes : List ℕ) (flags user : ℕ × List ℕ) (labels : List (List ℕ)) → names.is_twice ≡ false
    → IsDistinct bytes_eq (words_in names) → has_many bytes ≡ true
    → hex_at bytes ≡ Some flags → dec_at 18446744073709551615 flags.1 ≡ Some user → labels_at user.1 ≡ Some labels
    → checked (atomic_read names bytes) ≡ Err (why_of (twice_in (made_words names.all) labels))
unfolding atomic_read
many_fault names bytes flags user labels once d many f u e =
    let ws = bind_some (field_words user.1) labels_made labels e in
    let agree : AllAgree (assigns_read names ws.value) names (made_words names.all) (length ws.value) (Some labels) = subst
    (λ (o : Option (List (List ℕ))). AllAgree (assigns_read names ws.value) names (made_words names.all) (length ws.value) o) ws.then
    (assigns_agree ws.value names (made_words names.all) (holds_made names.all d)) in
    let count : length ws.value ≡ blank_count user.1 = words_blanks user.1 ws.value ws.given in
    rw (f, u, ws.given) (step (assigns_read names ws.value) (length ws.value)
    (over (length ws.value) (request_blanks bytes flags user f u) count) agree)
  where
    above : (n : ℕ) → nat_lt 258 n ≡ true → 258 < n
    above n lt = grind (arith, nat_tests)

    over : (n : ℕ) → blank_count bytes ≡ 2 + blank_count user.1 → n ≡ blank_count user.1 → 256 < n
    over n fields count = omega (arith, above (blank_count bytes) many, fields, count)

    test : (n m : ℕ) → m ≡ n → 256 < n → nat_lt 256 m ≡ true
    test n m same lt = grind (arith, nat_tests)

    step : (o : Option (List Assign × Names)) (n : ℕ) → 256 < n → AllAgree o names (made_words names.all) n (Some labels)
        → checked (o >>= (λ sets. Some (command.Atomic (record { flags = flags.0; user_data = user.0; assigns = sets.0 }), sets.1)))
        ≡ Err (why_of (twice_in (made_words names.all) labels))
    step None n lt h = absurd h
    step (Some sets) n lt h =
        over_step (twice_in (made_words names.all) labels) true
        (command.Atomic (record { flags = flags.0; user_data = user.0; assigns = sets.0 })) sets.1 (h.0 ∙ rw once refl)
        (test n (length sets.0) h.1 lt)

-- the test of the numbers tells which
decided : (r t : Bool) (numbers : List ℕ) → Decides r (IsDistinct nat_eq numbers) → OnceOrTwice t numbers → t ≡ not r
decided true true numbers d o = absurd (o (d.0 refl))
decided true false numbers d o = refl
decided false true numbers d o = refl
decided false false numbers d o = absurd (false≢true (d.1 o))

pub many_decided : (names : Names) (bytes numbers : List ℕ) (flags user : ℕ × List ℕ) (o : Option (List (List ℕ))) (r : Bool)
    → names.is_twice ≡ false → IsDistinct bytes_eq (words_in names) → has_many bytes ≡ true
    → hex_at bytes ≡ Some flags → dec_at 18446744073709551615 flags.1 ≡ Some user → labels_at user.1 ≡ o
    → AddsLabels true o (packed_all (made_words names.all)) numbers → Decides r (IsDistinct nat_eq numbers)
    → checked (atomic_read names bytes) ≡ Err (why_of (not r))
many_decided names bytes numbers flags user None r once d many f u e added decides = absurd added
many_decided names bytes numbers flags user (Some labels) r once d many f u e added decides =
    let ws = bind_some (field_words user.1) labels_made labels e in
    let both : OnceOrTwice (twice_in (made_words names.all) labels) numbers = subst
    (λ (ns : List ℕ). OnceOrTwice (twice_in (made_words names.all) labels) ns) (sym added)
    (once_or_twice labels (made_words names.all) (made_distinct names.all d) (all_labelled ws.value labels ws.then)) in
    many_fault names bytes flags user labels once d many f u e ∙ ap (λ (b : Bool). Err (why_of b))
    (decided r (twice_in (made_words names.all) labels) numbers decides both)
