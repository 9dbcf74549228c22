-- What lines spell is within the bounds of a well-formed script.
use Rattle.std.proofs.Common.{◌∙◌, ◌≡◌, ℕ, ◌+◌, ◌-◌, ◌≤◌, ◌^◌, Bool, true, false, not, List, [], ◌∷◌, ◌++◌, append-nil, cond, Option, Some}
use Rattle.std.proofs.Common.{None, Ok, refl, sym, subst, arith}
use Rattle.std.specs.Prelude.{◌==◌, ◌&&◌, nat_le, option_map}
use Rattle.std.specs.List.{list_all}
use Rattle.std.proofs.lemmas.List.Folds.{list_all-append}
use Rattle.std.proofs.lemmas.Bool.{and_parts, and_from}
use Rattle.std.proofs.lemmas.Bool.Decides.{nat_tests}
use Rattle.std.proofs.lemmas.Nat.{pow_pos}
use Rattle.kms_model.specs.declared.objects.PlaneInfo.{PlaneInfo}
use Rattle.kms_model.specs.declared.scripts.Command.{Command}
use Rattle.kms_model.specs.declared.scripts.Script.{Script}
use Rattle.kms_model.specs.Script.CommandLines.{words_in}
use Rattle.kms_model.specs.Script.Grammar.{crtc_list, format_bit, format_list, format_named, parted, rising}
use Rattle.kms_model.specs.Script.InputLines.{Row, rows_of}
use Rattle.kms_model.specs.Script.Spelling.{Spells, spelt_line, spelt_lines}
use Rattle.kms_model.specs.Script.WellFormed.{has_choice, is_command_in}
use Rattle.kms_model.specs.Script.WholeInput.{Draft, blank_draft, clients_in, clients_of, conn_at, is_nil, plane_fields, plane_type}
use Rattle.kms_model.specs.Script.WholeInput.{script_in, script_line}
use Rattle.kms_model.specs.Script.Words.{dec, end_at, field_at, from, until}
use Rattle.kms_script.proofs.DraftGrows.{any_profile}
use Rattle.kms_script.proofs.EachLine.{line_each}
use Rattle.kms_script.proofs.FitCommands.{command_fit}
use Rattle.kms_script.proofs.Inverted.{bind_some, from_bind, map_some, some_same}
use Rattle.kms_script.proofs.NamesBegin.{Begins}
use Rattle.kms_words.proofs.Parts.{first_part, later_parts}
use Rattle.kms_script.proofs.ProfileStays.{command_stays}
use Rattle.kms_script.proofs.RowsSpelt.{ended_draft, is_line}
use Rattle.kms_script.proofs.SpeltCommands.{names_begin}

-- Masks

-- a mask is not empty
abbrev IsSome : ℕ → Type 0
IsSome mask = not (mask == 0) ≡ true

some_bit : (bit mask : ℕ) → IsSome (2 ^ bit + mask)
some_bit bit mask = step (2 ^ bit + mask) (omega (arith, pow_pos bit))
  where
    step : (n : ℕ) → 1 ≤ n → IsSome n
    step n le = grind (arith, nat_tests)

rising_some : (f : List ℕ → Option ℕ) (low : ℕ) (w : List ℕ) (ws : List (List ℕ)) (mask : ℕ) → rising f low (w ∷ ws) ≡ Some mask
    → IsSome mask
rising_some f low w ws mask e =
    from_bind (f w) _ mask e (λ bit given more.
    from_bind (if_rising low bit ws) _ mask more (λ rest later more. rw (← some_same _ mask more) (some_bit bit rest)))
  where
    if_rising : ℕ → ℕ → List (List ℕ) → Option ℕ
    if_rising low bit ws = cond (nat_le low bit) (rising f (bit + 1) ws) None

parted_some : (f : List ℕ → Option ℕ) (word : List ℕ) (mask : ℕ) → rising f 0 (parted 44 word) ≡ Some mask → IsSome mask
parted_some f word mask e = rising_some f 0 (until 44 word) (later_parts 44 (from 44 word)) mask (rw first_part at e)

crtcs_some : (crtcs mask : ℕ) (word : List ℕ) → crtc_list crtcs word ≡ Some mask → IsSome mask
unfolding crtc_list
crtcs_some crtcs mask word e = parted_some (dec (crtcs - 1)) word mask e

formats_some : (mask : ℕ) (word : List ℕ) → format_list word ≡ Some mask → IsSome mask
unfolding format_list
formats_some mask word e = parted_some (λ w. option_map format_bit (format_named w)) word mask e

plane_choice : (crtcs : ℕ) (bytes : List ℕ) (p : PlaneInfo) → plane_fields crtcs bytes ≡ Some p → has_choice p ≡ true
unfolding plane_fields
plane_choice crtcs bytes p e =
    from_bind (field_at bytes) _ p e (λ t a more.
    from_bind (field_at t.1) _ p more (λ l b more.
    from_bind (field_at l.1) _ p more (λ f c more.
    from_bind (end_at f.1) _ p more (λ u d more.
    from_bind (plane_type t.0) _ p more (λ kind k more.
    from_bind (crtc_list crtcs l.0) _ p more (λ mask m more.
    from_bind (format_list f.0) _ p more (λ formats n more.
    rw (← some_same _ p more) (and_from (not (mask == 0)) (not (formats == 0)) (crtcs_some crtcs mask l.0 m)
    (formats_some formats f.0 n)))))))))

conn_choice : (crtcs : ℕ) (bytes : List ℕ) (mask : ℕ) → conn_at crtcs bytes ≡ Some mask → IsSome mask
unfolding conn_at
conn_choice crtcs bytes mask e =
    from_bind (field_at bytes) _ mask e (λ l a more.
    from_bind (end_at l.1) _ mask more (λ u b more. crtcs_some crtcs mask l.0 more))

-- Lists

all_append : {A : Type 0} (p : A → Bool) (xs ys : List A) → list_all p xs ≡ true → list_all p ys ≡ true → list_all p (xs ++ ys) ≡ true
all_append p xs ys a b = list_all-append p xs ys ∙ and_from (list_all p xs) (list_all p ys) a b

all_front : {A : Type 0} (p : A → Bool) (xs ys : List A) → list_all p (xs ++ ys) ≡ true → (list_all p xs ≡ true) × (list_all p ys ≡ true)
all_front p xs ys e = and_parts (list_all p xs) (list_all p ys) (sym (list_all-append p xs ys) ∙ e)

all_one : {A : Type 0} (p : A → Bool) (x : A) → p x ≡ true → list_all p (x ∷ []) ≡ true
all_one p x e = rw e refl

-- Drafts

-- what a draft has so far is within the bounds, with all names of the script
pub record FitsAll (all : List (List ℕ)) (d : Draft) : Type 0 where
  pub planes : list_all has_choice d.planes ≡ true
  pub conns : list_all (λ mask. not (mask == 0)) d.conns ≡ true
  pub clients : list_all (list_all (is_command_in d.names.profile all)) (clients_in d) ≡ true
  -- before the first line there is no client
  pub early : d.head ≡ 0 → clients_in d ≡ []

none_fit : (p : Command → Bool) (clients : List (List Command)) → clients ≡ [] → list_all (list_all p) clients ≡ true
none_fit p clients none = rw none refl

-- a line leads from a draft within the bounds to one, and the names before it are a front of those after it
record Leads (all : List (List ℕ)) (d next : Draft) : Type 0 where
  begins : Begins d.names all
  fits : FitsAll all d → FitsAll all next

-- a command more of the present client
one_more : (p : Command → Bool) (clients : List (List Command)) (has : Bool) (commands : List Command) (c : Command) → has ≡ true
    → p c ≡ true → list_all (list_all p) (clients ++ clients_of has commands) ≡ true
    → list_all (list_all p) (clients ++ clients_of has (commands ++ c ∷ [])) ≡ true
one_more p clients true commands c has is e =
    let parts = all_front (list_all p) clients (commands ∷ []) e in
    let present : list_all p commands ≡ true = first (list_all p commands) parts.1 in
    all_append (list_all p) clients ((commands ++ c ∷ []) ∷ []) parts.0
    (all_one (list_all p) (commands ++ c ∷ []) (all_append p commands (c ∷ []) present (all_one p c is)))
  where
    first : (t : Bool) → (t && true) ≡ true → t ≡ true
    first true e = refl
    first false e = absurd cc
one_more p clients false commands c has is e = absurd cc

line_leads : (all : List (List ℕ)) (d next : Draft) (text : List ℕ) → script_line d text ≡ Ok next → Begins next.names all
    → Leads all d next
line_leads all d next text = line_each d text (λ m. Begins m.names all → Leads all d m) (record {
  first = λ zeroth version read b. record {
    begins = any_profile all d.names version b;
    fits = λ f. record {
      planes = f.planes;
      conns = f.conns;
      clients = none_fit (is_command_in version all) (clients_in d) (f.early zeroth);
      early = λ none. absurd (omega arith);
    };
  };
  crtcs = λ first is n read b. record {
    begins = b;
    fits = λ f. record { planes = f.planes; conns = f.conns; clients = f.clients; early = λ none. absurd (omega arith) };
  };
  plane = λ late is p read nil b. record {
    begins = b;
    fits = λ f. record {
      planes = all_append has_choice d.planes (p ∷ []) f.planes
          (all_one has_choice p (plane_choice d.crtcs (from 32 text) p read));
      conns = f.conns;
      clients = f.clients;
      early = f.early;
    };
  };
  conn = λ late is mask read none b. record {
    begins = b;
    fits = λ f. record {
      planes = f.planes;
      conns = all_append (λ mask. not (mask == 0)) d.conns (mask ∷ []) f.conns
          (all_one (λ mask. not (mask == 0)) mask (conn_choice d.crtcs (from 32 text) mask read));
      clients = f.clients;
      early = f.early;
    };
  };
  client = λ late is end some b. record {
    begins = b;
    fits = λ f. record {
      planes = f.planes;
      conns = f.conns;
      clients = all_append (list_all (is_command_in d.names.profile all)) (clients_in d) ([] ∷ []) f.clients refl;
      early = λ none. absurd (omega arith);
    };
  };
  command = λ late c names read has few b. record {
    begins = names_begin all d.names names text c read b;
    fits = λ f. record {
      planes = f.planes;
      conns = f.conns;
      clients = subst (λ profile. list_all (list_all (is_command_in profile all))
          (d.clients ++ clients_of d.has_client (d.commands ++ c ∷ [])) ≡ true) (sym (command_stays d.names text (c, names) read))
          (one_more (is_command_in d.names.profile all) d.clients d.has_client d.commands c has
          (command_fit all d.names text (c, names) read b) f.clients);
      early = λ none. absurd (omega arith);
    };
  };
}) next

rows_lead : (all : List (List ℕ)) (d last : Draft) (rows : List Row) → spelt_lines d rows ≡ Some last → Begins last.names all
    → Leads all d last
rows_lead all d last [] e b = let end = ended_draft (is_nil d.conns) d last e
    in subst (λ x. Begins x.names all → Leads all d x) end.1 (λ b. record { begins = b; fits = λ f. f }) b
rows_lead all d last (row ∷ rows) e b =
    let next = bind_some (spelt_line d row) _ last e in
    let l = is_line d next.value row next.given in
    let later = rows_lead all next.value last rows next.then b in
    let now = line_leads all d next.value row.text l.accepted later.begins in
    record { begins = now.begins; fits = λ f. later.fits (now.fits f) }

-- a script that bytes spell
pub record IsSpelt (s : Script) : Type 0 where
  pub planes : list_all has_choice s.topology.planes ≡ true
  pub conns : list_all (λ mask. not (mask == 0)) s.topology.conns ≡ true
  pub commands : list_all (list_all (is_command_in s.topology.profile s.names)) s.clients ≡ true

pub spelt_fits : (bytes : List ℕ) (s : Script) → Spells bytes s → IsSpelt s
spelt_fits bytes s e =
    let d = map_some script_in (spelt_lines blank_draft (rows_of bytes)) s e in
    let names : List (List ℕ) = words_in d.value.names in
    let leads = rows_lead names blank_draft d.value (rows_of bytes) d.given (record { more = []; whole = sym (append-nil names) }) in
    let fits = leads.fits (record { planes = refl; conns = refl; clients = refl; early = λ none. refl }) in
    subst (λ x. IsSpelt x) d.makes (record { planes = fits.planes; conns = fits.conns; commands = fits.clients })
