-- A script of at most one client, line by line: its commands are read of lines one after the other, behind no names.
use Rattle.std.proofs.Common.{◌≡◌, ℕ, inl, inr, Bool, true, false, List, [], ◌∷◌, ◌++◌, length, Some, Ok, refl, sym, ap, subst, ◌∙◌, arith}
use Rattle.std.specs.Prelude.{◌==◌, ◌||◌, codes, nat_le, nat_lt, not}
use Rattle.std.specs.Str.{bytes_eq}
use Rattle.std.proofs.lemmas.Bool.{eqb-true, true≢false}
use Rattle.kms_model.specs.declared.scripts.Command.{Command}
use Rattle.kms_model.specs.declared.scripts.Script.{Script}
use Rattle.kms_model.specs.declared.scripts.Why.TheVariants.{Form, Label, Limit}
use Rattle.kms_model.specs.Legacy.Translated.{lone_commands}
use Rattle.kms_model.specs.Script.CommandLines.{Names, command_read, is_over, unmade, words_in}
use Rattle.kms_model.specs.Script.InputLines.{Row, rows_of}
use Rattle.kms_model.specs.Script.Spelling.{Spells, spelt_line, spelt_lines}
use Rattle.kms_model.specs.Script.WholeInput.{Draft, blank_draft, client_line, clients_in, clients_of, command_line, conn_at, conn_line}
use Rattle.kms_model.specs.Script.WholeInput.{crtcs_at, crtcs_line, first_line, is_nil, later_line, plane_fields, plane_line, script_in}
use Rattle.kms_model.specs.Script.WholeInput.{script_line, version_read}
use Rattle.kms_model.specs.Script.Words.{end_at, from, until}
use Rattle.kms_script.proofs.Accepted.{accepted, either_ok, form_ok, if_ok, ok_same, on_from, unless_ok}
use Rattle.kms_script.proofs.DraftGrows.{IsInOrder, with_client, with_version}
use Rattle.kms_script.proofs.Inverted.{bind_some, map_some}
use Rattle.kms_script.proofs.ProfileStays.{command_stays}
use Rattle.kms_script.proofs.RowsSpelt.{ended_draft, is_line}
use Rattle.kms_script.proofs.ScriptLines.{line_follows}

-- Lines of commands

pub record IsCommandLine (names : Names) (c : Command) (after : Names) : Type 0 where
  pub text : List ℕ
  pub read : command_read names text ≡ Some (c, after)

-- commands of lines one after the other, behind names
abbrev pub AreSpoken : Names → List Command → Names → Type 0
AreSpoken names [] last = last ≡ names
AreSpoken names (c ∷ cs) last = (after : Names) × (IsCommandLine names c after × AreSpoken after cs last)

spoken_more : (names : Names) (cs : List Command) (middle last : Names) (c : Command) → AreSpoken names cs middle
    → IsCommandLine middle c last → AreSpoken names (cs ++ c ∷ []) last
spoken_more names [] middle last c are l = (last, (subst (λ (n : Names). IsCommandLine n c last) are l, refl))
spoken_more names (x ∷ xs) middle last c are l = (are.0, (are.1.0, spoken_more are.0 xs middle last c are.1.1 l))

-- What stands between two lines: before the first client no name was said, and the commands of the first client are those of
-- its lines.
record Speaks (d : Draft) : Type 0 where
  blank : d.has_client ≡ false → d.names ≡ unmade d.names.profile []
  empty : d.has_client ≡ false → d.commands ≡ []
  first : d.clients ≡ [] → AreSpoken (unmade d.names.profile []) d.commands d.names

blank_speaks : Speaks blank_draft
blank_speaks = record { blank = λ off. refl; empty = λ off. refl; first = λ none. refl }

nothing_ordered : IsInOrder blank_draft
nothing_ordered = record {
  crtcs = omega arith;
  planes = λ early. refl;
  conns = λ early. refl;
  late_client = λ none. refl;
  first_client = λ off. refl;
}

-- Lines

-- the first line stands before any client
first_alone : (d : Draft) → IsInOrder d → d.head ≡ 0 → d.has_client ≡ false
first_alone d o zeroth = o.late_client (ap is_nil (o.conns (omega (arith, zeroth))))

abbrev of_profile : ℕ → Names → Names
of_profile p names = record names { profile = p }

first_speaks : (d next : Draft) (text : List ℕ) → IsInOrder d → Speaks d → d.head ≡ 0 → first_line d text ≡ Ok next → Speaks next
unfolding first_line
first_speaks d next text o s zeroth e =
    let version = form_ok (version_read text) _ next e in
    let off : d.has_client ≡ false = first_alone d o zeroth in
    let blank : of_profile version.value d.names ≡ unmade version.value [] = ap (of_profile version.value) (s.blank off) in
    subst Speaks (ok_same (with_version d version.value) next version.then) (record {
      blank = λ alone. blank;
      empty = s.empty;
      first = λ none. subst (λ (cs : List Command). AreSpoken (unmade version.value []) cs (of_profile version.value d.names))
          (sym (s.empty off)) blank;
    })

-- a line of the device says no name
crtcs_speaks : (d next : Draft) (text : List ℕ) → Speaks d → crtcs_line d text ≡ Ok next → Speaks next
unfolding crtcs_line
crtcs_speaks d next text s e =
    let key = if_ok (bytes_eq (until 32 text) (codes "crtcs")) Form _ next e in
    let n = form_ok (crtcs_at (from 32 text)) _ next key.1 in
    subst Speaks (ok_same (record d { head = 2; crtcs = n.value }) next n.then)
    (record { blank = s.blank; empty = s.empty; first = s.first })

plane_speaks : (d next : Draft) (fields : List ℕ) → Speaks d → plane_line d fields ≡ Ok next → Speaks next
unfolding plane_line
plane_speaks d next fields s e =
    let p = form_ok (plane_fields d.crtcs fields) _ next e in
    let form = unless_ok (not (is_nil d.conns)) Form _ next p.then in
    let limit = unless_ok (nat_le 16 (length d.planes)) Limit _ next form.1 in
    subst Speaks (ok_same (record d { planes = d.planes ++ p.value ∷ [] }) next limit.1)
    (record { blank = s.blank; empty = s.empty; first = s.first })

conn_speaks : (d next : Draft) (fields : List ℕ) → Speaks d → conn_line d fields ≡ Ok next → Speaks next
unfolding conn_line
conn_speaks d next fields s e =
    let mask = form_ok (conn_at d.crtcs fields) _ next e in
    let form = unless_ok (is_nil d.planes || d.has_client) Form _ next mask.then in
    let limit = unless_ok (nat_le 8 (length d.conns)) Limit _ next form.1 in
    subst Speaks (ok_same (record d { conns = d.conns ++ mask.value ∷ [] }) next limit.1)
    (record { blank = s.blank; empty = s.empty; first = s.first })

-- where there are no clients, there is no present one
none_present : (clients : List (List Command)) (has : Bool) (commands : List Command) → clients ++ clients_of has commands ≡ []
    → has ≡ false
none_present [] true commands e = absurd cc
none_present [] false commands e = refl
none_present (c ∷ cs) has commands e = absurd cc

client_speaks : (d next : Draft) (fields : List ℕ) → Speaks d → client_line d fields ≡ Ok next → Speaks next
unfolding client_line
client_speaks d next fields s e =
    let done = form_ok (end_at fields) _ next e in
    let form = unless_ok (is_nil d.conns) Form _ next done.then in
    let limit = unless_ok (nat_le 16 (length (clients_in d))) Limit _ next form.1 in
    subst Speaks (ok_same (with_client d) next limit.1) (record {
      blank = λ off. absurd (true≢false off);
      empty = λ off. absurd (true≢false off);
      first = λ none. s.blank (none_present d.clients d.has_client d.commands none);
    })

command_speaks : (d next : Draft) (text : List ℕ) → Speaks d → command_line d text ≡ Ok next → Speaks next
unfolding command_line
command_speaks d next text s e =
    let c = form_ok (command_read d.names text) _ next e in
    let form = unless_ok (not d.has_client) Form _ next c.then in
    let label = unless_ok c.value.1.is_twice Label _ next form.1 in
    let limit = unless_ok (is_over c.value.0 || (nat_le 4096 (length d.commands) || nat_lt 4096 c.value.1.made)) Limit _ next label.1 in
    let on : d.has_client ≡ true = on_from d.has_client form.0 in
    let stays : c.value.1.profile ≡ d.names.profile = command_stays d.names text c.value c.given in
    subst Speaks (ok_same (record d { names = c.value.1; commands = d.commands ++ c.value.0 ∷ [] }) next limit.1) (record {
      blank = λ off. absurd (true≢false (sym on ∙ off));
      empty = λ off. absurd (true≢false (sym on ∙ off));
      first = λ none. spoken_more (unmade c.value.1.profile []) d.commands d.names c.value.1 c.value.0
          (subst (λ p. AreSpoken (unmade p []) d.commands d.names) (sym stays) (s.first none))
          (record { text = text; read = c.given });
    })

later_speaks : (d next : Draft) (text : List ℕ) → Speaks d → later_line d text ≡ Ok next → Speaks next
unfolding later_line
later_speaks d next text s e = elim (either_ok (bytes_eq (until 32 text) (codes "plane")) _ _ (accepted next) e) [
  | inl plane ↦ plane_speaks d next (from 32 text) s plane.1
  | inr other ↦ elim (either_ok (bytes_eq (until 32 text) (codes "conn")) _ _ (accepted next) other.1) [
    | inl conn ↦ conn_speaks d next (from 32 text) s conn.1
    | inr still ↦ elim (either_ok (bytes_eq (until 32 text) (codes "client")) _ _ (accepted next) still.1) [
      | inl client ↦ client_speaks d next (from 32 text) s client.1
      | inr command ↦ command_speaks d next text s command.1
    ]
  ]
]

line_speaks : (d next : Draft) (text : List ℕ) → IsInOrder d → Speaks d → script_line d text ≡ Ok next → Speaks next
unfolding script_line
line_speaks d next text o s e = elim (either_ok (d.head == 0) _ _ (accepted next) e) [
  | inl zeroth ↦ first_speaks d next text o s (eqb-true d.head 0 zeroth.0) zeroth.1
  | inr more ↦ elim (either_ok (d.head == 1) _ _ (accepted next) more.1) [
    | inl second ↦ crtcs_speaks d next text s second.1
    | inr late ↦ later_speaks d next text s late.1
  ]
]

-- the last draft of lines, in order
record Ends (last : Draft) : Type 0 where
  ordered : IsInOrder last
  speaks : Speaks last

rows_speak : (rows : List Row) (d last : Draft) → IsInOrder d → Speaks d → spelt_lines d rows ≡ Some last → Ends last
rows_speak [] d last o s e = subst Ends (ended_draft (is_nil d.conns) d last e).1 (record { ordered = o; speaks = s })
rows_speak (row ∷ rows) d last o s e =
    let b = bind_some (spelt_line d row) _ last e in
    let l = is_line d b.value row b.given in
    let f = line_follows d b.value row.text o l.accepted in
    rows_speak rows b.value last f.ordered (line_speaks d b.value row.text o s l.accepted) b.then

-- Scripts

-- where a script has at most one client, a present one is that
only_client : (clients : List (List Command)) (commands own : List Command) (has : Bool) → clients ++ commands ∷ [] ≡ clients_of has own
    → (clients ≡ []) × (commands ≡ own)
only_client [] commands own true e = (refl, cc)
only_client [] commands own false e = absurd cc
only_client (c ∷ []) commands own true e = absurd cc
only_client (c ∷ d ∷ more) commands own true e = absurd cc
only_client (c ∷ more) commands own false e = absurd cc

lone_spoken : (clients : List (List Command)) (commands : List Command) (present has : Bool) (names last : Names)
    → (present ≡ false → clients ≡ []) → (present ≡ false → commands ≡ []) → (clients ≡ [] → AreSpoken names commands last)
    → clients ++ clients_of present commands ≡ clients_of has (lone_commands (clients ++ clients_of present commands))
    → AreSpoken names (lone_commands (clients ++ clients_of present commands)) last
lone_spoken clients commands true has names last alone empty are few =
    let one = only_client clients commands (lone_commands (clients ++ commands ∷ [])) has few in
    subst (λ (cs : List Command). AreSpoken names cs last) one.1 (are one.0)
lone_spoken clients commands false has names last alone empty are few =
    let none : clients ≡ [] = alone refl in
    subst (λ (cs : List (List Command)). AreSpoken names (lone_commands (cs ++ [])) last) (sym none)
    (subst (λ (cs : List Command). AreSpoken names cs last) (empty refl) (are none))

-- the commands of its one client, or none, with all names of the script behind them
pub record IsLone (s : Script) : Type 0 where
  pub last : Names
  pub are : AreSpoken (unmade s.topology.profile []) (lone_commands s.clients) last
  pub words : words_in last ≡ s.names

lone_draft : (d : Draft) (has : Bool) → Ends d → clients_in d ≡ clients_of has (lone_commands (clients_in d)) → IsLone (script_in d)
lone_draft d has e few = record {
  last = d.names;
  are = lone_spoken d.clients d.commands d.has_client has (unmade d.names.profile []) d.names e.ordered.first_client e.speaks.empty
      e.speaks.first few;
  words = refl;
}

pub lone_script : (bytes : List ℕ) (s : Script) (has : Bool) → Spells bytes s → s.clients ≡ clients_of has (lone_commands s.clients)
    → IsLone s
lone_script bytes s has e few =
    let d = map_some script_in (spelt_lines blank_draft (rows_of bytes)) s e in
    let ends = rows_speak (rows_of bytes) blank_draft d.value nothing_ordered blank_speaks d.given in
    subst IsLone d.makes (lone_draft d.value has ends
    (subst (λ (x : Script). x.clients ≡ clients_of has (lone_commands x.clients)) (sym d.makes) few))
