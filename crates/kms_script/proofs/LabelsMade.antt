-- The labels that assignments make, and what names are after them.
use Rattle.std.proofs.Common.{◌≡◌, ℕ, suc, Bool, true, false, if◌then◌else◌, List, [], ◌∷◌, ◌++◌, length, cond, Option, Some, None, ap}
use Rattle.std.proofs.Common.{refl, sym, ◌∙◌}
use Rattle.std.specs.Prelude.{◌||◌, codes, option_map, ⊤}
use Rattle.std.specs.Cmp.Lexicographic.{nat_list_eq_equiv}
use Rattle.std.specs.List.{list_any}
use Rattle.std.specs.Option.{option_map_or}
use Rattle.std.specs.Str.{bytes_eq}
use Rattle.std.proofs.lemmas.Bool.{true≢false}
use Rattle.std.proofs.lemmas.Slice.Eq.{bytes_eq-Decides}
use Rattle.kms_model.specs.declared.objects.Kind.{Kind}
use Rattle.kms_model.specs.declared.scripts.Assign.{Assign}
use Rattle.kms_model.specs.declared.scripts.Value.{Value}
use Rattle.kms_model.specs.declared.scripts.Value.TheVariants as value
use Rattle.kms_model.specs.Script.CommandLines.{Name, Names, place, said, made, was_made, saying, making, assign_words, property_read}
use Rattle.kms_model.specs.Script.CommandLines.{value_read, assign_read, assigns_read}
use Rattle.kms_model.specs.Script.Grammar.{int, known_property}
use Rattle.kms_model.specs.Script.Words.{◌>>=◌, dec, is_label, strip}
use Rattle.kms_model.proofs.Facts.{or-assoc}
use Rattle.kms_script.specs.Overlong.{assign_label, label_and, labels_made, value_label}
use Rattle.kms_script.proofs.EachCommand.{prop_of}

-- What is made

said_step : (t : Bool) (w v : List ℕ) (n : Name) (ns : List Name) → was_made w (said v ns) ≡ was_made w ns
    → was_made w (cond t (n ∷ ns) (n ∷ said v ns)) ≡ was_made w (n ∷ ns)
said_step true w v n ns ih = refl
said_step false w v n ns ih = rw ih refl

none_made : (t : Bool) → cond t false false ≡ false
none_made true = refl
none_made false = refl

-- a name that is said changes nothing of what is made
pub said_keeps : (w v : List ℕ) (ns : List Name) → was_made w (said v ns) ≡ was_made w ns
said_keeps w v [] = none_made (bytes_eq w v)
said_keeps w v (n ∷ ns) = said_step (bytes_eq v n.word) w v n ns (said_keeps w v ns)

made_step : (u : Bool) (w v : List ℕ) (n : Name) (ns after : List Name) → bytes_eq v n.word ≡ u
    → was_made w after ≡ (bytes_eq w v || was_made w ns)
    → was_made w (cond u (record { word = n.word; is_made = true } ∷ ns) (n ∷ after)) ≡ (bytes_eq w v || was_made w (n ∷ ns))
made_step true w v n ns after e ih = let same : v ≡ n.word = (bytes_eq-Decides v n.word).0 e
    in rw same (here (bytes_eq w n.word) n.is_made (was_made w ns))
  where
    here : (s m was : Bool) → cond s true was ≡ (s || cond s m was)
    here true m was = refl
    here false m was = refl
made_step false w v n ns after e ih = rw ih (there (bytes_eq w n.word) (bytes_eq w v) n.is_made (was_made w ns) apart)
  where
    there : (s t m was : Bool) → (s ≡ true → t ≡ false) → cond s m (t || was) ≡ (t || cond s m was)
    there true true m was other = absurd (true≢false (other refl))
    there true false m was other = refl
    there false t m was other = refl

    apart : bytes_eq w n.word ≡ true → bytes_eq w v ≡ false
    apart is = let same : w ≡ n.word = (bytes_eq-Decides w n.word).0 is in rw same (nat_list_eq_equiv.symm n.word v ∙ e)

-- a label that is made is made
pub made_makes : (w v : List ℕ) (ns : List Name) → was_made w (made v ns) ≡ (bytes_eq w v || was_made w ns)
made_makes w v [] = alone (bytes_eq w v)
  where
    alone : (t : Bool) → cond t true false ≡ (t || false)
    alone true = refl
    alone false = refl
made_makes w v (n ∷ ns) = made_step (bytes_eq v n.word) w v n ns (made v ns) refl (made_makes w v ns)

-- whether a word is the label, where there is one
abbrev is_it : List ℕ → Option (List ℕ) → Bool
is_it w None = false
is_it w (Some label) = bytes_eq w label

-- whether the label was made, where there is one
abbrev was_it : Option (List ℕ) → List Name → Bool
was_it None ns = false
was_it (Some label) ns = was_made label ns

-- names after a label is made, where there is one
record Makes (before : Names) (label : Option (List ℕ)) (after : Names) : Type 0 where
  was : (w : List ℕ) → was_made w after.all ≡ (is_it w label || was_made w before.all)
  twice : after.is_twice ≡ (before.is_twice || was_it label before.all)

or_none : (b : Bool) → b ≡ (b || false)
or_none true = refl
or_none false = refl

saying_makes : (w : List ℕ) (names : Names) → Makes names None (saying w names)
unfolding saying
saying_makes w names = record { was = λ v. said_keeps v w names.all; twice = or_none names.is_twice }

making_makes : (w : List ℕ) (names : Names) → Makes names (Some w) (making w names)
unfolding making
making_makes w names = record { was = λ v. made_makes v w names.all; twice = refl }

nothing_makes : (names : Names) → Makes names None names
nothing_makes names = record { was = λ v. refl; twice = or_none names.is_twice }

-- the names after it
property_makes : (names : Names) (word : List ℕ) → Makes names None (property_read names word).1
unfolding property_read
property_makes names word = step (known_property names.profile word)
  where
    step : (o : Option ℕ) → Makes names None (prop_of names word o).1
    step None = saying_makes word names
    step (Some id) = nothing_makes names

was_same : (label : Option (List ℕ)) (a b : Names) → ((w : List ℕ) → was_made w b.all ≡ was_made w a.all)
    → was_it label b.all ≡ was_it label a.all
was_same None a b same = refl
was_same (Some label) a b same = same label

then_makes : (a b c : Names) (label : Option (List ℕ)) → Makes a None b → Makes b label c → Makes a label c
then_makes a b c label first next = record {
  was = λ w. next.was w ∙ rw (first.was w) refl;
  twice = next.twice ∙ rw (first.twice, was_same label a b first.was, ← or_none a.is_twice) refl;
}

-- What was read beside the labels that are made

-- a reader that keeps names reads exactly what one does that looks for labels alone
abbrev Agrees : {A : Type 0} → Option (A × Names) → Names → Option (Option (List ℕ)) → Type 0
Agrees None names None = ⊤
Agrees None names (Some label) = ⊥
Agrees (Some read) names None = ⊥
Agrees (Some read) names (Some label) = Makes names label read.1

named_agrees : (names : Names) (label : List ℕ) (t : Bool)
    → Agrees (cond t (Some (value.Named (place label names), saying label names)) None) names (cond t (Some None) None)
named_agrees names label true = saying_makes label names
named_agrees names label false = tt

new_agrees : (names : Names) (label : List ℕ) (t : Bool)
    → Agrees (cond t (Some (value.New (place label names), making label names)) None) names (cond t (Some (Some label)) None)
new_agrees names label true = making_makes label names
new_agrees names label false = tt

plain_agrees : {A : Type 0} (names : Names) (f : A → Value) (o : Option A)
    → Agrees (option_map (λ x. (f x, names)) o) names (option_map (λ x. None) o)
plain_agrees names f None = tt
plain_agrees names f (Some x) = nothing_makes names

values_agree : (names : Names) (word : List ℕ) (a b c : Option (List ℕ))
    → Agrees
    (option_map_or (λ label. if is_label label then Some (value.Named (place label names), saying label names) else None) a
    (option_map_or (λ label. if is_label label then Some (value.New (place label names), making label names) else None) b
    (option_map_or (λ digits. option_map (λ i. (value.Crtc i, names)) (dec 255 digits)) c
    (option_map (λ z. (value.Num z, names)) (int word)))))
    names
    (option_map_or (λ label. if is_label label then Some None else None) a
    (option_map_or (λ label. if is_label label then Some (Some label) else None) b
    (option_map_or (λ digits. option_map (λ i. None) (dec 255 digits)) c (option_map (λ z. None) (int word)))))
values_agree names word (Some label) b c = named_agrees names label (is_label label)
values_agree names word None (Some label) c = new_agrees names label (is_label label)
values_agree names word None None (Some digits) = plain_agrees names value.Crtc (dec 255 digits)
values_agree names word None None None = plain_agrees names value.Num (int word)

value_agrees : (names : Names) (word : List ℕ) → Agrees (value_read names word) names (value_label word)
unfolding value_read value_label
value_agrees names word = values_agree names word (strip (codes "@") word) (strip (codes "+") word) (strip (codes "crtc") word)

after_property : (names after : Names) (f : Value → Assign) (o : Option (Value × Names)) (label : Option (Option (List ℕ)))
    → Makes names None after → Agrees o after label → Agrees (o >>= (λ v. Some (f v.0, v.1))) names label
after_property names after f None None first next = tt
after_property names after f None (Some label) first next = next
after_property names after f (Some v) None first next = next
after_property names after f (Some v) (Some label) first next = then_makes names after v.1 label first next

assign_agrees : (names : Names) (word : List ℕ) → Agrees (assign_read names word) names (assign_label word)
unfolding assign_read assign_label
assign_agrees names word = step (assign_words word)
  where
    step : (o : Option (Kind × ℕ × List ℕ × List ℕ))
        → Agrees {A = Assign} (o >>= (λ w. value_read ((property_read names w.2).1) w.3 >>=
        (λ v. Some (record { kind = w.0; index = w.1; prop = (property_read names w.2).0; value = v.0 }, v.1)))) names
        (o >>= (λ w. value_label w.3))
    step None = tt
    step (Some w) = after_property names (property_read names w.2).1
        (λ v. record { kind = w.0; index = w.1; prop = (property_read names w.2).0; value = v })
        (value_read ((property_read names w.2).1) w.3) (value_label w.3) (property_makes names w.2)
        (value_agrees ((property_read names w.2).1) w.3)

-- Assignments in a row

-- the labels that names make are these
abbrev pub Holds : Names → List (List ℕ) → Type 0
Holds names seen = (w : List ℕ) → was_made w names.all ≡ list_any (bytes_eq w) seen

-- whether one of labels is among those seen before it
abbrev pub twice_in : List (List ℕ) → List (List ℕ) → Bool
twice_in seen [] = false
twice_in seen (label ∷ labels) = list_any (bytes_eq label) seen || twice_in (seen ++ label ∷ []) labels

-- the assignments of so many words were read exactly where their labels are, and of these one is made twice or none
abbrev pub AllAgree : Option (List Assign × Names) → Names → List (List ℕ) → ℕ → Option (List (List ℕ)) → Type 0
AllAgree None names seen count None = ⊤
AllAgree None names seen count (Some labels) = ⊥
AllAgree (Some read) names seen count None = ⊥
AllAgree (Some read) names seen count (Some labels) = (read.1.is_twice ≡ (names.is_twice || twice_in seen labels)) × (length read.0 ≡ count)

any_last : (w v : List ℕ) (seen : List (List ℕ)) → list_any (bytes_eq w) (seen ++ v ∷ []) ≡ (bytes_eq w v || list_any (bytes_eq w) seen)
any_last w v [] = refl
any_last w v (x ∷ seen) = rw (any_last w v seen) (swap (bytes_eq w x) (bytes_eq w v) (list_any (bytes_eq w) seen))
  where
    swap : (s t more : Bool) → (s || (t || more)) ≡ (t || (s || more))
    swap true true more = refl
    swap true false more = refl
    swap false t more = refl

label_step : (names after : Names) (seen : List (List ℕ)) (label : List ℕ) (labels : List (List ℕ)) (last : Bool)
    → Makes names (Some label) after → Holds names seen → last ≡ (after.is_twice || twice_in (seen ++ label ∷ []) labels)
    → last ≡ (names.is_twice || twice_in seen (label ∷ labels))
label_step names after seen label labels last makes holds is =
    is ∙ rw (makes.twice, holds label) (or-assoc names.is_twice (list_any (bytes_eq label) seen) (twice_in (seen ++ label ∷ []) labels))

label_holds : (names after : Names) (seen : List (List ℕ)) (label : List ℕ) → Makes names (Some label) after → Holds names seen
    → Holds after (seen ++ label ∷ [])
label_holds names after seen label makes holds = λ w. makes.was w ∙ rw (holds w) (sym (any_last w label seen))

row_step : (names : Names) (seen : List (List ℕ)) (count : ℕ) (a : Assign × Names) (label : Option (List ℕ))
    (read : Option (List Assign × Names)) (labels : Option (List (List ℕ))) → Makes names label a.1 → Holds names seen
    → ((next : List (List ℕ)) → Holds a.1 next → AllAgree read a.1 next count labels)
    → AllAgree (read >>= (λ more. Some (a.0 ∷ more.0, more.1))) names seen (suc count) (labels >>= (λ ls. Some (label_and label ls)))
row_step names seen count a None None None makes holds ih = tt
row_step names seen count a (Some label) None None makes holds ih = tt
row_step names seen count a None None (Some ls) makes holds ih = ih seen (λ w. makes.was w ∙ holds w)
row_step names seen count a (Some label) None (Some ls) makes holds ih =
    ih (seen ++ label ∷ []) (label_holds names a.1 seen label makes holds)
row_step names seen count a None (Some more) None makes holds ih = ih seen (λ w. makes.was w ∙ holds w)
row_step names seen count a (Some label) (Some more) None makes holds ih =
    ih (seen ++ label ∷ []) (label_holds names a.1 seen label makes holds)
row_step names seen count a None (Some more) (Some ls) makes holds ih =
    let h = ih seen (λ w. makes.was w ∙ holds w) in
    (h.0 ∙ rw (makes.twice, ← or_none names.is_twice) refl, ap suc h.1)
row_step names seen count a (Some label) (Some more) (Some ls) makes holds ih =
    let h = ih (seen ++ label ∷ []) (label_holds names a.1 seen label makes holds) in
    (label_step names a.1 seen label ls more.1.is_twice makes holds h.0, ap suc h.1)

first_step : (names : Names) (seen : List (List ℕ)) (ws : List (List ℕ)) (o : Option (Assign × Names)) (label : Option (Option (List ℕ)))
    → Agrees o names label → Holds names seen
    → ((after : Names) (next : List (List ℕ)) → Holds after next → AllAgree (assigns_read after ws) after next (length ws) (labels_made ws))
    → AllAgree (o >>= (λ a. assigns_read a.1 ws >>= (λ more. Some (a.0 ∷ more.0, more.1)))) names seen (suc (length ws))
    (label >>= (λ l. labels_made ws >>= (λ ls. Some (label_and l ls))))
first_step names seen ws None None agrees holds ih = tt
first_step names seen ws None (Some l) agrees holds ih = absurd agrees
first_step names seen ws (Some a) None agrees holds ih = absurd agrees
first_step names seen ws (Some a) (Some l) agrees holds ih =
    row_step names seen (length ws) a l (assigns_read a.1 ws) (labels_made ws) agrees holds (λ next h. ih a.1 next h)

pub assigns_agree : (ws : List (List ℕ)) (names : Names) (seen : List (List ℕ)) → Holds names seen
    → AllAgree (assigns_read names ws) names seen (length ws) (labels_made ws)
assigns_agree [] names seen holds = (or_none names.is_twice, refl)
assigns_agree (w ∷ ws) names seen holds =
    (first_step names seen ws (assign_read names w) (assign_label w) (assign_agrees names w) holds
    (λ after next h. assigns_agree ws after next h))
