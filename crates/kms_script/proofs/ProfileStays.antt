-- A command's line leaves the profile of the names as it was.
use Rattle.std.proofs.Common.{[], ◌≡◌, ℕ, suc, Bool, true, false, List, ◌∷◌, ◌++◌, length, length-append, All, ◌<◌, ◌≤◌, arith, Option}
use Rattle.std.proofs.Common.{Some, None, Ok, refl, sym, ap, subst, ◌∙◌}
use Rattle.std.specs.Prelude.{◌||◌, nat_le}
use Rattle.std.proofs.lemmas.Bool.{leb-false, or_parts}
use Rattle.std.proofs.lemmas.List.Elements.{All-append, All-cons, All-nil}
use Rattle.kms_model.specs.declared.scripts.Assign.{Assign}
use Rattle.kms_model.specs.declared.scripts.Command.{Command}
use Rattle.kms_model.specs.declared.scripts.Value.{Value}
use Rattle.kms_model.specs.declared.scripts.Why.TheVariants.{Label, Limit}
use Rattle.kms_model.specs.Script.CommandLines.{Names, assign_read, assign_words, assigns_read, command_read, is_over, making}
use Rattle.kms_model.specs.Script.CommandLines.{property_read, saying, value_read}
use Rattle.kms_model.specs.Script.Grammar.{known_property}
use Rattle.kms_model.specs.Script.WellFormed.{IsFitCommand}
use Rattle.kms_model.specs.Script.WholeInput.{clients_of}
use Rattle.kms_words.specs.Fitting.{IsFitProfile}
use Rattle.kms_script.specs.Lines.{line_of}
use Rattle.kms_script.proofs.Accepted.{form_ok, ok_same, unless_ok}
use Rattle.kms_script.proofs.EachCommand.{command_each, value_each, prop_of}
use Rattle.kms_script.proofs.Inverted.{bind_some, some_same}

-- names that are read after others have their profile
abbrev Stays : {A : Type 0} → Names → A × Names → Type 0
Stays names r = r.1.profile ≡ names.profile

making_stays : (label : List ℕ) (names : Names) → (making label names).profile ≡ names.profile
unfolding making
making_stays label names = refl

saying_stays : (label : List ℕ) (names : Names) → (saying label names).profile ≡ names.profile
unfolding saying
saying_stays label names = refl

property_step : (names : Names) (word : List ℕ) (o : Option ℕ) → (prop_of names word o).1.profile ≡ names.profile
property_step names word None = saying_stays word names
property_step names word (Some id) = refl

property_stays : (names : Names) (word : List ℕ) → (property_read names word).1.profile ≡ names.profile
unfolding property_read
property_stays names word = property_step names word (known_property names.profile word)

value_stays : (names : Names) (word : List ℕ) (r : Value × Names) → value_read names word ≡ Some r → Stays names r
value_stays names word = value_each names word (Stays names) (record {
  named = λ label at is. saying_stays label names;
  new = λ label plus is. making_stays label names;
  crtc = λ digits index front is. refl;
  number = λ z is. refl;
})

pub assign_stays : (names : Names) (word : List ℕ) (r : Assign × Names) → assign_read names word ≡ Some r → r.1.profile ≡ names.profile
unfolding assign_read
assign_stays names word r e =
    let w = bind_some (assign_words word) _ r e in
    let v = bind_some (value_read ((property_read names w.value.2).1) w.value.3) _ r w.then in
    rw (← some_same _ r v.then) (value_stays ((property_read names w.value.2).1) w.value.3 v.value v.given ∙ property_stays names w.value.2)

assigns_stay : (ws : List (List ℕ)) (names : Names) (r : List Assign × Names) → assigns_read names ws ≡ Some r → Stays names r
assigns_stay [] names r e = rw (← some_same _ r e) refl
assigns_stay (w ∷ ws) names r e =
    let a = bind_some (assign_read names w) _ r e in
    let more = bind_some (assigns_read a.value.1 ws) _ r a.then in
    rw (← some_same _ r more.then) (assigns_stay ws a.value.1 more.value more.given ∙ assign_stays names w a.value a.given)

-- Commands

pub command_stays : (names : Names) (text : List ℕ) (r : Command × Names) → command_read names text ≡ Some r → r.1.profile ≡ names.profile
command_stays names = command_each names (λ k bytes r. Stays names r) (record {
  atomic = λ bytes p. assigns_stay p.words names p.sets p.given;
  wait = λ bytes end. refl;
  naming = λ k f of bytes label alone. saying_stays label names;
  making_one = λ k f of bytes label alone. making_stays label names;
  buffer = λ bytes p. making_stays p.label.0 names;
  addfb = λ bytes p. saying_stays p.buffer (making p.label.0 names) ∙ making_stays p.label.0 names;
  mode = λ bytes p. making_stays p.label.0 names;
  blob = λ bytes p. making_stays p.label.0 names;
})

-- a line that gives a command leaves the profile as it was, and it stays one that there is
pub fit_profile : (names : Names) (text : List ℕ) (c : Command) (after : Names) → line_of names text ≡ Ok (c, after)
    → IsFitProfile names.profile → IsFitProfile after.profile
fit_profile names text c after e fit =
    let read = form_ok (command_read names text) _ (c, after) e in
    let label = unless_ok read.value.1.is_twice Label _ (c, after) read.then in
    let limit = unless_ok (is_over read.value.0) Limit _ (c, after) label.1 in
    let same : after.profile ≡ names.profile = ap (λ (r : Command × Names). r.1.profile) (sym (ok_same read.value (c, after) limit.1)) ∙
    command_stays names text read.value read.given in
    subst (λ p. IsFitProfile p) (sym same) fit

-- with a command more there are as many clients
pub as_many : (clients : List (List Command)) (has : Bool) (xs ys : List Command)
    → length (clients ++ clients_of has xs) ≡ length (clients ++ clients_of has ys)
as_many [] true xs ys = refl
as_many [] false xs ys = refl
as_many (c ∷ cs) has xs ys = ap suc (as_many cs has xs ys)

-- where a client's commands are not too many with one more, they are few with it
pub few_more : (commands new : List Command) (c : Command) (t : Bool) → new ≡ commands ++ c ∷ []
    → (nat_le 4096 (length commands) || t) ≡ false → length new ≤ 4096
few_more commands new c t pushed none =
    let few : length commands < 4096 = leb-false 4096 (length commands) (or_parts (nat_le 4096 (length commands)) t none).0 in
    let more = length-append commands (c ∷ []) in
    subst (λ xs. length xs ≤ 4096) (sym pushed) (omega (arith, few, more))

-- with a command more that is within the limits, all are
pub fit_more : (commands new : List Command) (c : Command) → new ≡ commands ++ c ∷ [] → All IsFitCommand commands → IsFitCommand c
    → All IsFitCommand new
fit_more commands new c pushed all one = subst (λ xs. All IsFitCommand xs) (sym pushed)
    (All-append IsFitCommand commands (c ∷ []) all (All-cons IsFitCommand c [] one (All-nil IsFitCommand)))
