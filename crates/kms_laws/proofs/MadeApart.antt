-- A request of a line makes each label by one assignment.
use Rattle.std.proofs.Common.{◌≡◌, ℕ, ◌+◌, ◌≤◌, Bool, true, false, List, [], ◌∷◌, Option, Some, None, inl, inr, refl, sym, ap, ◌∙◌, arith}
use Rattle.std.specs.Prelude.{◌||◌, codes, ⊤}
use Rattle.std.specs.List.{list_any}
use Rattle.std.specs.Str.{bytes_eq}
use Rattle.std.proofs.lemmas.Bool.{cases_Bool, false≢true}
use Rattle.kms_model.specs.declared.scripts.Assign.{Assign}
use Rattle.kms_model.specs.declared.scripts.Command.{Command}
use Rattle.kms_model.specs.declared.scripts.Command.TheVariants as command
use Rattle.kms_model.specs.Firsts.{one_if}
use Rattle.kms_model.specs.Script.CommandLines.{Names, addfb_read, assign_read, assigns_read, atomic_read, blob_read, buffer_read}
use Rattle.kms_model.specs.Script.CommandLines.{command_read, label_alone, label_read, making_read, mode_fields, mode_read, naming_read}
use Rattle.kms_model.specs.Script.CommandLines.{pattern_at, thing_read}
use Rattle.kms_model.specs.Script.Grammar.{blob_bytes, field_words, format_at, hex_at}
use Rattle.kms_model.specs.Script.Words.{dec_at, end_at, field_at, from, label_at, until}
use Rattle.kms_model.proofs.Facts.{neither}
use Rattle.kms_laws.specs.Once.{is_new}
use Rattle.kms_laws.proofs.MadeCommands.{AssignMakes, AssignsMake, IfRead, assign_makes, assigns_make, bind_if, cond_if, map_if, then_if}
use Rattle.kms_laws.proofs.MadeNames.{is_made_at}

-- how many assignments make a label
abbrev pub times_made : ℕ → List Assign → ℕ
times_made k [] = 0
times_made k (a ∷ assigns) = one_if (is_new a.value k) + times_made k assigns

-- a command makes each label once
abbrev pub MakesApart : Command → Type 0
MakesApart (command.Atomic r) = (k : ℕ) → times_made k r.assigns ≤ 1
MakesApart _ = ⊤

none_made : (k : ℕ) (assigns : List Assign) → list_any (λ a. is_new a.value k) assigns ≡ false → times_made k assigns ≡ 0
none_made k [] none = refl
none_made k (a ∷ assigns) none =
    let both = neither (is_new a.value k) (list_any (λ b. is_new b.value k) assigns) none in
    let here = ap one_if both.0 in
    let rest = none_made k assigns both.1 in
    omega (arith, here, rest)

pub both_if : {A : Type 0} (o : Option A) (P Q : A → Type 0) → IfRead o P → IfRead o Q → IfRead o (λ x. P x × Q x)
both_if None P Q p q = tt
both_if (Some x) P Q p q = (p, q)

abbrev AssignsApart : List Assign × Names → Type 0
AssignsApart r = r.1.is_twice ≡ false → (k : ℕ) → times_made k r.0 ≤ 1

-- one assignment more
apart_more : (a : Assign) (assigns : List Assign) (k : ℕ) (made was : Bool) → made ≡ (is_new a.value k || was)
    → (list_any (λ b. is_new b.value k) assigns ≡ true → made ≡ false) → times_made k assigns ≤ 1 → times_made k (a ∷ assigns) ≤ 1
apart_more a assigns k made was is free few = elim (cases_Bool (is_new a.value k)) [
  | inl here ↦ (
      let one = ap one_if here in
      let marked : made ≡ true = is ∙ ap (λ b. b || was) here in
      elim (cases_Bool (list_any (λ b. is_new b.value k) assigns)) [
        | inl again ↦ absurd (false≢true (sym (free again) ∙ marked))
        | inr none ↦ (let others = none_made k assigns none in omega (arith, one, others))
      ])
  | inr away ↦ (let none = ap one_if away in omega (arith, none, few))
]

assigns_apart : (ws : List (List ℕ)) (names : Names) → IfRead (assigns_read names ws) AssignsApart
assigns_apart [] names = λ once k. omega arith
assigns_apart (w ∷ ws) names =
    then_if (assign_read names w) _ (AssignMakes names) AssignsApart (assign_makes names w) (λ a first.
    then_if (assigns_read a.1 ws) _ (λ more. AssignsMake a.1 more × AssignsApart more) AssignsApart
    (both_if (assigns_read a.1 ws) (AssignsMake a.1) AssignsApart (assigns_make ws a.1) (assigns_apart ws a.1)) (λ more rest once k.
    apart_more a.0 more.0 k (is_made_at a.1.all k) (is_made_at names.all k) (first.was k) (rest.0.free once k) (rest.1 once k)))

-- Lines

abbrev pub Apart : Command × Names → Type 0
Apart r = r.1.is_twice ≡ false → MakesApart r.0

atomic_apart : (names : Names) (bytes : List ℕ) → IfRead (atomic_read names bytes) Apart
unfolding atomic_read
atomic_apart names bytes =
    bind_if (hex_at bytes) _ Apart (λ flags.
    bind_if (dec_at 18446744073709551615 flags.1) _ Apart (λ user.
    bind_if (field_words user.1) _ Apart (λ words.
    then_if (assigns_read names words) _ AssignsApart Apart (assigns_apart words names) (λ sets apart. apart))))

buffer_apart : (names : Names) (bytes : List ℕ) → IfRead (buffer_read names bytes) Apart
unfolding buffer_read
buffer_apart names bytes =
    bind_if (label_at bytes) _ Apart (λ label.
    bind_if (dec_at 4294967295 label.1) _ Apart (λ w.
    bind_if (dec_at 4294967295 w.1) _ Apart (λ h.
    bind_if (format_at h.1) _ Apart (λ format.
    bind_if (pattern_at w.0 h.0 format.0 format.1) _ Apart (λ pattern once. tt)))))

addfb_apart : (names : Names) (bytes : List ℕ) → IfRead (addfb_read names bytes) Apart
unfolding addfb_read
addfb_apart names bytes = bind_if (label_at bytes) _ Apart (λ label. bind_if (label_alone label.1) _ Apart (λ buffer once. tt))

mode_apart : (names : Names) (bytes : List ℕ) → IfRead (mode_read names bytes) Apart
unfolding mode_read
mode_apart names bytes = bind_if (label_at bytes) _ Apart
    (λ label. bind_if (mode_fields label.1) _ Apart (λ mode. bind_if (end_at mode.1) _ Apart (λ end once. tt)))

blob_apart : (names : Names) (bytes : List ℕ) → IfRead (blob_read names bytes) Apart
unfolding blob_read
blob_apart names bytes =
    bind_if (label_at bytes) _ Apart (λ label.
    bind_if (field_at label.1) _ Apart (λ f.
    bind_if (end_at f.1) _ Apart (λ end.
    bind_if (blob_bytes f.0) _ Apart (λ blob once. tt))))

making_apart : (names : Names) (bytes : List ℕ) → IfRead (making_read command.Fence names bytes) Apart
unfolding making_read
making_apart names bytes = bind_if (label_alone bytes) _ Apart (λ label once. tt)

naming_apart : (named_by : ℕ → Command) → ((l : ℕ) → MakesApart (named_by l)) → (names : Names) (bytes : List ℕ)
    → IfRead (naming_read named_by names bytes) Apart
unfolding naming_read
naming_apart named_by each names bytes = bind_if (label_alone bytes) _ Apart (λ label once. each _)

thing_apart : (names : Names) (keyword bytes : List ℕ) → IfRead (thing_read names keyword bytes) Apart
unfolding thing_read
thing_apart names keyword bytes =
    cond_if (bytes_eq keyword (codes "buffer")) _ _ Apart (buffer_apart names bytes)
    (cond_if (bytes_eq keyword (codes "addfb")) _ _ Apart (addfb_apart names bytes)
    (cond_if (bytes_eq keyword (codes "mode")) _ _ Apart (mode_apart names bytes)
    (cond_if (bytes_eq keyword (codes "blob")) _ _ Apart (blob_apart names bytes) tt)))

label_apart : (names : Names) (keyword bytes : List ℕ) → IfRead (label_read names keyword bytes) Apart
unfolding label_read
label_apart names keyword bytes =
    cond_if (bytes_eq keyword (codes "destroy")) _ _ Apart (naming_apart command.Destroy (λ l. tt) names bytes)
    (cond_if (bytes_eq keyword (codes "closefb")) _ _ Apart (naming_apart command.CloseFb (λ l. tt) names bytes)
    (cond_if (bytes_eq keyword (codes "fence")) _ _ Apart (making_apart names bytes)
    (cond_if (bytes_eq keyword (codes "signal")) _ _ Apart (naming_apart command.Signal (λ l. tt) names bytes)
    (thing_apart names keyword bytes))))

-- the command of a line makes each label once, where no label was made twice
pub command_apart : (names : Names) (text : List ℕ) → IfRead (command_read names text) Apart
unfolding command_read
command_apart names text =
    cond_if (bytes_eq (until 32 text) (codes "atomic")) _ _ Apart (atomic_apart names (from 32 text))
    (cond_if (bytes_eq (until 32 text) (codes "wait")) _ _ Apart (map_if (end_at (from 32 text)) _ Apart (λ u once. tt))
    (label_apart names (until 32 text) (from 32 text)))
