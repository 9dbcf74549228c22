-- A script with requests more behind the commands of its last client, whose labels are all among its names, is a script.
use Rattle.std.proofs.Common.{[], ◌≡◌, ℕ, zero, suc, ◌+◌, ◌≤◌, ◌<◌, inl, inr, Bool, true, false, List, ◌∷◌, ◌++◌, codes, length}
use Rattle.std.proofs.Common.{length-append, map, append-nil, append_assoc, Some, refl, sym, ap, subst, ◌∙◌, arith}
use Rattle.std.specs.Prelude.{◌==◌, ◌||◌, max, nat_le, nat_lt, option_map}
use Rattle.std.specs.List.{AllByRecursion, IsDistinct, flat_map, list_all, position_or_len}
use Rattle.std.specs.Str.{bytes_eq}
use Rattle.std.proofs.lemmas.Bool.{and_from, and_parts, cases_Bool, cases_lt, false≢true}
use Rattle.std.proofs.lemmas.Bool.Decides.{nat_tests}
use Rattle.std.proofs.lemmas.List.{length-map}
use Rattle.std.proofs.lemmas.List.Folds.{list_all-append}
use Rattle.std.proofs.lemmas.Slice.Eq.{bytes_eq-Decides}
use Rattle.kms_model.specs.declared.scripts.Assign.{Assign}
use Rattle.kms_model.specs.declared.scripts.Command.{Command}
use Rattle.kms_model.specs.declared.scripts.Command.TheVariants as command
use Rattle.kms_model.specs.declared.scripts.PropRef.{PropRef}
use Rattle.kms_model.specs.declared.scripts.PropRef.TheVariants.{Known, Unknown}
use Rattle.kms_model.specs.declared.scripts.Request.{Request}
use Rattle.kms_model.specs.declared.scripts.Script.{Script}
use Rattle.kms_model.specs.declared.scripts.Value.{Value}
use Rattle.kms_model.specs.declared.scripts.Value.TheVariants as value
use Rattle.kms_model.specs.Legacy.Translated.{renumbered}
use Rattle.kms_model.specs.Script.CommandLines.{command_read, words_in}
use Rattle.kms_model.specs.Script.Grammar.{is_property_word}
use Rattle.kms_model.specs.Script.Words.{is_label}
use Rattle.kms_model.specs.Script.InputLines.{Row, rows_of}
use Rattle.kms_model.specs.Script.Longer.{at_last, commands_of_last, with_commands}
use Rattle.kms_model.specs.Script.Spelling.{Spells, name_word, spelt_line, spelt_lines}
use Rattle.kms_model.specs.Script.WellFormed.{IsFitClient, IsFitCommand, IsWellFormed, is_assign_in, is_command_in, is_property_in}
use Rattle.kms_model.specs.Script.WellFormed.{is_value_in}
use Rattle.kms_model.specs.Script.WholeInput.{Draft, blank_draft, clients_in, clients_of, client_line, command_line, is_nil, later_line}
use Rattle.kms_model.specs.Script.WholeInput.{script_in, script_line, topology_in}
use Rattle.kms_words.specs.Printed.{fields}
use Rattle.kms_words.proofs.Spaced.{line-fields}
use Rattle.kms_script.specs.ReadAnew.{IsLineOf, IsSaid, renamed, renamed_assign, renamed_prop, renamed_value}
use Rattle.kms_script.proofs.AssignParts.{assign_is, is_asked}
use Rattle.kms_script.proofs.DraftGrows.{with_client}
use Rattle.kms_script.proofs.Inverted.{bind_some, map_some}
use Rattle.kms_script.proofs.LastDraft.{AreFine, IsLast, last_is}
use Rattle.kms_script.proofs.LineRead.{IsOfClient, line_printed, of_client}
use Rattle.kms_script.proofs.RequestsBack.{request_back, words_behind}
use Rattle.kms_script.proofs.RowsAgain.{ended_row, rows_alone}
use Rattle.kms_script.proofs.RowsSpelt.{ended_draft}
use Rattle.kms_script.proofs.SpelledRows.{ended_text}
use Rattle.kms_script.proofs.WordsBack.{no_label, word_low}

-- Numbers of names among the same names

not_back : (a b : List ℕ) → bytes_eq a b ≡ false → bytes_eq b a ≡ false
not_back a b apart = elim (cases_Bool (bytes_eq b a)) [
  | inl same ↦ absurd (false≢true (sym apart ∙ (bytes_eq-Decides a b).1 (sym ((bytes_eq-Decides b a).0 same))))
  | inr other ↦ other
]

-- a word that is apart from all words is apart from the word with a number
apart_at : (x : List ℕ) (xs : List (List ℕ)) (n : ℕ) → AllByRecursion (λ y. bytes_eq x y ≡ false) xs → n < length xs
    → bytes_eq x (name_word xs n) ≡ false
apart_at x [] n all low = absurd (omega (arith, low))
apart_at x (y ∷ ys) zero all low = all.0
apart_at x (y ∷ ys) (suc n) all low = apart_at x ys n all.1 (omega (arith, low))

-- so a request whose labels are among the names is the same behind them
own_place : (all : List (List ℕ)) (n : ℕ) → IsDistinct bytes_eq all → n < length all → renumbered all all n ≡ n
unfolding IsDistinct
own_place [] n distinct low = absurd (omega (arith, low))
own_place (x ∷ xs) zero distinct low = let same : bytes_eq x x ≡ true = (bytes_eq-Decides x x).1 refl in rw same refl
own_place (x ∷ xs) (suc n) distinct low =
    let apart = not_back x (name_word xs n) (apart_at x xs n distinct.0 (omega (arith, low))) in
    let rest : position_or_len (bytes_eq (name_word xs n)) xs ≡ n = own_place xs n distinct.1 (omega (arith, low)) in
    rw (apart, rest) (omega arith)

module _ (profile : ℕ) (all : List (List ℕ)) (distinct : IsDistinct bytes_eq all) where
  same_prop : (p : PropRef) → is_property_in profile all p ≡ true → renamed_prop (renumbered all all) p ≡ p
  same_prop (Known id) is = refl
  same_prop (Unknown n) is =
      ap Unknown (own_place all n distinct (word_low is_property_word refl all n (and_parts (is_property_word (name_word all n)) _ is).0))

  same_value : (v : Value) → is_value_in all v ≡ true → renamed_value (renumbered all all) v ≡ v
  same_value (value.Num z) is = refl
  same_value (value.Named label) is = ap value.Named (own_place all label distinct (word_low is_label no_label all label is))
  same_value (value.New label) is = ap value.New (own_place all label distinct (word_low is_label no_label all label is))
  same_value (value.Crtc index) is = refl

  same_assigns : (assigns : List Assign) → list_all (is_assign_in profile all) assigns ≡ true
      → map (renamed_assign (renumbered all all)) assigns ≡ assigns
  same_assigns [] are = refl
  same_assigns (a ∷ more) are =
      let both = and_parts (is_assign_in profile all a) (list_all (is_assign_in profile all) more) are in
      let of = assign_is profile all a both.0 in
      let prop = same_prop a.prop of.prop in
      let value = same_value a.value of.value in
      let rest = same_assigns more both.1 in
      λ i. record a { prop = prop i; value = value i } ∷ rest i

  same_request : (r : Request) → is_command_in profile all (command.Atomic r) ≡ true → renamed (renumbered all all) r ≡ r
  same_request r is =
      let assigns = same_assigns r.assigns (is_asked profile all r is).assigns in
      λ i. record r { assigns = assigns i }

-- Lines

-- a request's line, without its line feed
abbrev pub text_of : List (List ℕ) → Request → List ℕ
text_of all r = codes "atomic" ++ fields (words_behind all r)

text_is : (all : List (List ℕ)) (r : Request) → IsLineOf all (command.Atomic r) (text_of all r)
text_is all r = sym (line-fields (codes "atomic") (words_behind all r))

none_full : (n made : ℕ) → n + 1 ≤ 4096 → made ≤ 4096 → (nat_le 4096 n || nat_lt 4096 made) ≡ false
none_full n made few low = grind (arith, nat_tests)

not_over : (n : ℕ) → n ≤ 256 → nat_lt 256 n ≡ false
not_over n few = grind (arith, nat_tests)

-- what a request that is added is to be
pub record MayBeAdded (s : Script) (r : Request) : Type 0 where
  pub said : IsSaid s.topology.profile s.names r
  pub few : length r.assigns ≤ 256

-- a draft behind the lines of a script, with a client
record IsOpen (s : Script) (d : Draft) : Type 0 where
  fine : AreFine d
  late : 2 ≤ d.head
  conns : is_nil d.conns ≡ false
  client : d.has_client ≡ true
  profile : d.names.profile ≡ s.topology.profile
  names : words_in d.names ≡ s.names
  differ : IsDistinct bytes_eq s.names

late_head : (n : ℕ) → 2 ≤ n → ((n == 0) ≡ false) × ((n == 1) ≡ false)
late_head n late = (grind (arith, nat_tests, late), grind (arith, nat_tests, late))

abbrev with_request : Draft → Request → Draft
with_request d r = record d { commands = d.commands ++ command.Atomic r ∷ [] }

request_read : (s : Script) (d : Draft) (r : Request) → IsOpen s d → MayBeAdded s r → command_read d.names (text_of s.names r) ≡ Some
    (command.Atomic r, d.names)
request_read s d r is may =
    let said : IsSaid d.names.profile s.names r = subst (λ p. IsSaid p s.names r) (sym is.profile) may.said in
    let b = request_back d.names s.names r (text_of s.names r) said (text_is s.names r) in
    let after : b.after ≡ d.names = b.stays (sym is.names) in
    let words : words_in b.after ≡ s.names = ap words_in after ∙ is.names in
    let same : renamed (renumbered s.names (words_in b.after)) r ≡ r =
    ap (λ ws. renamed (renumbered s.names ws) r) words ∙ same_request s.topology.profile s.names is.differ r may.said.spelt in
    b.read ∙ (λ i. Some (command.Atomic (same i), after i))

request_row : (s : Script) (d : Draft) (r : Request) → IsOpen s d → MayBeAdded s r → length d.commands + 1 ≤ 4096
    → spelt_line d (ended_row (text_of s.names r)) ≡ Some (with_request d r)
unfolding script_line later_line command_line
request_row s d r is may room =
    let over = not_over (length r.assigns) may.few in
    let plain = line_printed s.topology.profile s.names (command.Atomic r) (text_of s.names r) may.said.spelt over (text_is s.names r) in
    let of : IsOfClient (text_of s.names r) = of_client s.names (command.Atomic r) (text_of s.names r) (text_is s.names r) in
    let head = late_head d.head is.late in
    rw (
      plain,
      head.0,
      head.1,
      of.plane,
      of.conn,
      of.client,
      request_read s d r is may,
      is.client,
      is.fine.once,
      over,
      none_full (length d.commands) d.names.made room is.fine.few,
    ) refl

-- rows of requests lead to a draft with all of them
abbrev rows_of_requests : Script → List Request → List Row
rows_of_requests s rs = map (λ r. ended_row (text_of s.names r)) rs

abbrev with_all : Draft → List Request → Draft
with_all d rs = record d { commands = d.commands ++ map command.Atomic rs }

requests_read : (s : Script) (rs : List Request) (d : Draft) → IsOpen s d → AllByRecursion (MayBeAdded s) rs
    → length d.commands + length rs ≤ 4096
    → spelt_lines d (rows_of_requests s rs) ≡ Some (with_all d rs)
requests_read s [] d is may room = rw is.conns (ap (λ (cs : List Command). Some (record d { commands = cs })) (sym (append-nil d.commands)))
requests_read s (r ∷ rs) d is may room =
    let row = request_row s d r is may.0 (omega (arith, room)) in
    let next : IsOpen s (with_request d r) = record {
      fine = record { once = is.fine.once; few = is.fine.few };
      late = is.late;
      conns = is.conns;
      client = is.client;
      profile = is.profile;
      names = is.names;
      differ = is.differ;
    } in
    let count = length-append d.commands (command.Atomic r ∷ []) in
    rw row (requests_read s rs (with_request d r) next may.1 (omega (arith, room, count))
    ∙ ap (λ (cs : List Command). Some (record d { commands = cs }))
    (append_assoc d.commands (command.Atomic r ∷ []) (map command.Atomic rs)))

-- The lines of a script, and others behind them

lines_then : (rows : List Row) (d last : Draft) (more : List Row) → spelt_lines d rows ≡ Some last
    → spelt_lines d (rows ++ more) ≡ spelt_lines last more
lines_then [] d last more e = ap (λ (x : Draft). spelt_lines x more) (ended_draft (is_nil d.conns) d last e).1
lines_then (row ∷ rows) d last more e =
    let b = bind_some (spelt_line d row) _ last e in
    rw b.given (lines_then rows b.value last more b.then)

-- the line of a client where there is none yet
abbrev client_row : Row
client_row = ended_row (codes "client")

few_clients : (d : Draft) → d.has_client ≡ false → d.clients ≡ [] → nat_le 16 (length (clients_in d)) ≡ false
few_clients d none empty = rw (none, empty) refl

client_read : (d : Draft) → 2 ≤ d.head → is_nil d.conns ≡ false → d.has_client ≡ false → d.clients ≡ []
    → spelt_line d client_row ≡ Some (with_client d)
unfolding script_line later_line client_line
client_read d late some none empty =
    let head = late_head d.head late in
    rw (head.0, head.1, some, few_clients d none empty) refl

-- a draft that is open, the rows that lead to it, and the clients that requests behind it make
record Leads (s : Script) (more : List Command) : Type 0 where
  draft : Draft
  rows : List Row
  lead : (later : List Row) → spelt_lines blank_draft (rows ++ later) ≡ spelt_lines draft later
  is_open : IsOpen s draft
  room : length draft.commands ≤ length (commands_of_last s.clients)
  version : draft.names.profile ≡ s.version
  topology : topology_in draft ≡ s.topology
  clients : draft.clients ++ (draft.commands ++ more) ∷ [] ≡ at_last more s.clients

pub at_last_append : (more commands : List Command) (xs : List (List Command))
    → at_last more (xs ++ commands ∷ []) ≡ xs ++ (commands ++ more) ∷ []
at_last_append more commands [] = refl
at_last_append more commands (x ∷ []) = refl
at_last_append more commands (x ∷ y ∷ ys) = ap (λ (zs : List (List Command)). x ∷ zs) (at_last_append more commands (y ∷ ys))

pub last_append : (commands : List Command) (xs : List (List Command)) → commands_of_last (xs ++ commands ∷ []) ≡ commands
last_append commands [] = refl
last_append commands (x ∷ []) = refl
last_append commands (x ∷ y ∷ ys) = last_append commands (y ∷ ys)

clients_with : (d : Draft) → d.has_client ≡ true → clients_in d ≡ d.clients ++ d.commands ∷ []
clients_with d has = ap (λ (b : Bool). d.clients ++ clients_of b d.commands) has

late_enough : (n : ℕ) (some : Bool) → (n < 2 → some ≡ true) → some ≡ false → 2 ≤ n
late_enough n some early off = elim (cases_lt n 2) [
  | inl low ↦ absurd (false≢true (sym off ∙ early low))
  | inr late ↦ late
]

module _ (s : Script) (formed : IsWellFormed s) (d : Draft) (given : spelt_lines blank_draft (rows_of formed.bytes) ≡ Some d)
    (makes : script_in d ≡ s) where
  last : IsLast d
  last = last_is (rows_of formed.bytes) d given

  late : 2 ≤ d.head
  late = late_enough d.head (is_nil d.conns) (λ low. ap is_nil (last.ordered.conns low)) last.conns

  clients_are : clients_in d ≡ s.clients
  clients_are = ap (λ (x : Script). x.clients) makes

  lead_with : (more : List Command) → d.has_client ≡ true → Leads s more
  lead_with more has =
      let own = sym (clients_with d has) ∙ clients_are in
      record {
        draft = d;
        rows = rows_of formed.bytes;
        lead = λ later. lines_then (rows_of formed.bytes) blank_draft d later given;
        is_open = record {
          fine = last.fine;
          late = late;
          conns = last.conns;
          client = has;
          profile = ap (λ (x : Script). x.version) makes ∙ formed.version;
          names = ap (λ (x : Script). x.names) makes;
          differ = formed.differ;
        };
        room = (let count = ap length (sym (last_append d.commands d.clients) ∙ ap commands_of_last own) in omega (arith, count));
        version = ap (λ (x : Script). x.version) makes;
        topology = ap (λ (x : Script). x.topology) makes;
        clients = sym (at_last_append more d.commands d.clients) ∙ ap (at_last more) own;
      }

  lead_without : (more : List Command) → d.has_client ≡ false → Leads s more
  lead_without more none =
      let empty = last.ordered.first_client none in
      let nobody : clients_in d ≡ [] = ap (λ (b : Bool). d.clients ++ clients_of b d.commands) none ∙ (append-nil d.clients ∙ empty) in
      let own : s.clients ≡ [] = sym clients_are ∙ nobody in
      let row = client_read d late last.conns none empty in
      record {
        draft = with_client d;
        rows = rows_of formed.bytes ++ client_row ∷ [];
        lead = λ later.
            ap (spelt_lines blank_draft) (append_assoc (rows_of formed.bytes) (client_row ∷ []) later)
            ∙ (lines_then (rows_of formed.bytes) blank_draft d (client_row ∷ later) given ∙ rw row refl);
        is_open = record {
          fine = record { once = last.fine.once; few = last.fine.few };
          late = late;
          conns = last.conns;
          client = refl;
          profile = ap (λ (x : Script). x.version) makes ∙ formed.version;
          names = ap (λ (x : Script). x.names) makes;
          differ = formed.differ;
        };
        room = omega arith;
        version = ap (λ (x : Script). x.version) makes;
        topology = ap (λ (x : Script). x.topology) makes;
        clients = ap (λ (xs : List (List Command)). xs ++ more ∷ []) nobody ∙ ap (at_last more) (sym own);
      }

  leads : (more : List Command) → Leads s more
  leads more = elim (cases_Bool d.has_client) [
    | inl has ↦ lead_with more has
    | inr none ↦ lead_without more none
  ]

-- What the longer script is

more_clients : (more : List Command) (clients : List (List Command)) → length (at_last more clients) ≡ max 1 (length clients)
more_clients more [] = refl
more_clients more (x ∷ []) = refl
more_clients more (x ∷ y ∷ ys) = let rest = more_clients more (y ∷ ys) in omega (arith, rest)

all_both : (P : Command → Type 0) (xs ys : List Command) → AllByRecursion P xs → AllByRecursion P ys → AllByRecursion P (xs ++ ys)
all_both P [] ys one two = two
all_both P (x ∷ xs) ys one two = (one.0, all_both P xs ys one.1 two)

last_fits : (more : List Command) (clients : List (List Command)) → AllByRecursion IsFitClient clients → AllByRecursion IsFitCommand more
    → length (commands_of_last clients) + length more ≤ 4096 → AllByRecursion IsFitClient (at_last more clients)
last_fits more [] fit own room = (record { few = omega (arith, room); fit = own }, tt)
last_fits more (x ∷ []) fit own room =
    (let count = length-append x more in
    (record { few = omega (arith, room, count); fit = all_both IsFitCommand x more fit.0.fit own }, tt))
last_fits more (x ∷ y ∷ ys) fit own room = (fit.0, last_fits more (y ∷ ys) fit.1 own room)

last_spelt : (test : Command → Bool) (more : List Command) (clients : List (List Command)) → list_all (list_all test) clients ≡ true
    → list_all test more ≡ true
    → list_all (list_all test) (at_last more clients) ≡ true
last_spelt test more [] are own = and_from _ _ own refl
last_spelt test more (x ∷ []) are own =
    and_from _ _ (list_all-append test x more ∙ and_from _ _ (and_parts (list_all test x) true are).0 own) refl
last_spelt test more (x ∷ y ∷ ys) are own =
    let both = and_parts (list_all test x) (list_all (list_all test) (y ∷ ys)) are in
    and_from _ _ both.0 (last_spelt test more (y ∷ ys) both.1 own)

requests_fit : (s : Script) (rs : List Request) → AllByRecursion (MayBeAdded s) rs → AllByRecursion IsFitCommand (map command.Atomic rs)
requests_fit s [] may = tt
requests_fit s (r ∷ rs) may = (may.0.few, requests_fit s rs may.1)

requests_spelt : (s : Script) (rs : List Request) → AllByRecursion (MayBeAdded s) rs → list_all (is_command_in s.topology.profile s.names)
    (map command.Atomic rs) ≡ true
requests_spelt s [] may = refl
requests_spelt s (r ∷ rs) may = and_from _ _ may.0.said.spelt (requests_spelt s rs may.1)

spells_rows : (rows : List Row) (d : Draft) (out : Script) → spelt_lines blank_draft rows ≡ Some d → script_in d ≡ out
    → Spells (flat_map ended_text rows) out
spells_rows rows d out e is =
    ap (λ (rs : List Row). option_map script_in (spelt_lines blank_draft rs)) (rows_alone blank_draft d rows e)
    ∙ (ap (option_map script_in) e ∙ ap Some is)

-- a script with requests more, whose labels are among its names, is a script
pub more_requests : (s : Script) (rs : List Request) → IsWellFormed s → AllByRecursion (MayBeAdded s) rs
    → length (commands_of_last s.clients) + length rs ≤ 4096 → IsWellFormed (with_commands (map command.Atomic rs) s)
more_requests s rs formed may room =
    let more : List Command = map command.Atomic rs in
    let count = length-map rs command.Atomic in
    let d = map_some script_in (spelt_lines blank_draft (rows_of formed.bytes)) s formed.spells in
    let l : Leads s more = leads s formed d.value d.given d.makes more in
    let few = l.room in
    let read = requests_read s rs l.draft l.is_open may (omega (arith, few, room)) in
    let whole = l.lead (rows_of_requests s rs) ∙ read in
    let clients : clients_in (with_all l.draft rs) ≡ at_last more s.clients =
    clients_with (with_all l.draft rs) l.is_open.client ∙ l.clients in
    let version = l.version in
    let topology = l.topology in
    let names = l.is_open.names in
    let same : script_in (with_all l.draft rs) ≡ with_commands more s =
    (λ i. record { version = version i; topology = topology i; names = names i; clients = clients i }) in
    record {
      device = formed.device;
      few = (let n = more_clients more s.clients in let old = formed.few in omega (arith, n, old));
      clients = last_fits more s.clients formed.clients (requests_fit s rs may) (omega (arith, room, count));
      version = formed.version;
      planes = formed.planes;
      conns = formed.conns;
      differ = formed.differ;
      commands = last_spelt (is_command_in s.topology.profile s.names) more s.clients formed.commands (requests_spelt s rs may);
      bytes = flat_map ended_text (l.rows ++ rows_of_requests s rs);
      spells = spells_rows (l.rows ++ rows_of_requests s rs) (with_all l.draft rs) (with_commands more s) whole same;
    }
