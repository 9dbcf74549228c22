-- A script with older calls that bytes spell, line by line: its device, the line `client`, and the lines of commands.
use Rattle.std.proofs.Common.{◌≡◌, ℕ, ◌+◌, ◌≤◌, ◌⊎◌, inl, inr, Bool, true, false, List, [], ◌∷◌, ◌++◌, codes, cond, append-nil}
use Rattle.std.proofs.Common.{append_assoc, length, Some, None, Ok, Err, refl, sym, ap, subst, ◌∙◌, arith}
use Rattle.std.specs.Prelude.{◌&&◌, ◌||◌, nat_le, nat_lt, option_map}
use Rattle.std.specs.List.{list_all}
use Rattle.std.specs.Result.{result_ok}
use Rattle.std.specs.Str.{bytes_eq}
use Rattle.std.proofs.lemmas.Bool.{cases_Bool}
use Rattle.std.proofs.lemmas.Bool.Decides.{nat_tests}
use Rattle.kms_model.specs.declared.legacy.LegacyCall.{LegacyCall}
use Rattle.kms_model.specs.declared.legacy.LegacyCommand.{LegacyCommand}
use Rattle.kms_model.specs.declared.legacy.LegacyCommand.TheVariants.{Plain, Call}
use Rattle.kms_model.specs.declared.legacy.LegacyScript.{LegacyScript}
use Rattle.kms_model.specs.declared.objects.Topology.{Topology}
use Rattle.kms_model.specs.declared.scripts.Command.{Command}
use Rattle.kms_model.specs.declared.scripts.Why.TheVariants.{Form, Label, Limit}
use Rattle.kms_model.specs.Legacy.LegacyCalls.{call_read, is_call_word, legacy_command_read}
use Rattle.kms_model.specs.Legacy.LegacyLines.{LegacyDraft, LegacyLined, SpellsLegacy, blank_legacy_draft, followed_by, legacy_command_line}
use Rattle.kms_model.specs.Legacy.LegacyLines.{legacy_line, legacy_script_in, spelt_legacy_line, spelt_legacy_lines}
use Rattle.kms_model.specs.Script.CommandLines.{Names, command_read, unmade, words_in}
use Rattle.kms_model.specs.Script.Grammar.{is_printable}
use Rattle.kms_model.specs.Script.InputLines.{Row, rows_of}
use Rattle.kms_model.specs.Script.Spelling.{lined, spelt_line, spelt_lines}
use Rattle.kms_model.specs.Script.WholeInput.{Draft, Lined, blank_draft, is_nil, script_line, topology_in}
use Rattle.kms_model.specs.Script.Words.{until}
use Rattle.kms_script.proofs.Accepted.{form_ok, ok_same, second_off, unless_ok}
use Rattle.kms_script.proofs.Inverted.{bind_some, if_some, map_some, some_same}
use Rattle.kms_script.proofs.NamesBegin.{Begins}
use Rattle.kms_script.proofs.ProfileStays.{command_stays}
use Rattle.kms_script.proofs.SpeltCommands.{names_begin}
use Rattle.kms_legacy.specs.Reading.{device_draft, device_part}
use Rattle.kms_legacy.proofs.AloneLines.{alone_line, plain_draft}
use Rattle.kms_legacy.proofs.CallsRead.{call_is}
use Rattle.kms_legacy.proofs.ClientLine.{is_client, not_client}
use Rattle.kms_legacy.proofs.EarlyLines.{IsEarly, blank_early, early_is, script_early}

-- Lines of commands

pub record IsReadLine (t : Topology) (names : Names) (c : LegacyCommand) (after : Names) : Type 0 where
  pub text : List ℕ
  pub read : legacy_command_read t names text ≡ Some (c, after)
  pub once : after.is_twice ≡ false
  pub few : after.made ≤ 4096

-- commands of lines one after the other, behind names
abbrev pub AreRead : Topology → Names → List LegacyCommand → Names → Type 0
AreRead t names [] last = last ≡ names
AreRead t names (c ∷ cs) last = (after : Names) × (IsReadLine t names c after × AreRead t after cs last)

-- a line is a call's, or that of another command
pub record IsCallLine (t : Topology) (names : Names) (text : List ℕ) (c : LegacyCommand) (after : Names) : Type 0 where
  pub call : LegacyCall
  pub is : c ≡ Call call
  pub read : call_read t names text ≡ Some (call, after)

pub record IsPlainLine (names : Names) (text : List ℕ) (c : LegacyCommand) (after : Names) : Type 0 where
  pub command : Command
  pub is : c ≡ Plain command
  pub other : bytes_eq (until 32 text) (codes "atomic") ≡ false
  pub read : command_read names text ≡ Some (command, after)

abbrev pairs : LegacyCommand → Names → LegacyCommand × Names
pairs c after = (c, after)

first_same : (c d : LegacyCommand) (a b : Names) → pairs c a ≡ pairs d b → c ≡ d
first_same c d a b e = ap (λ (x : LegacyCommand × Names). x.0) e

second_same : (c d : LegacyCommand) (a b : Names) → pairs c a ≡ pairs d b → a ≡ b
second_same c d a b e = ap (λ (x : LegacyCommand × Names). x.1) e

pub line_kind : (t : Topology) (names : Names) (text : List ℕ) (c : LegacyCommand) (after : Names)
    → legacy_command_read t names text ≡ Some (c, after) → IsCallLine t names text c after ⊎ IsPlainLine names text c after
unfolding legacy_command_read
line_kind t names text c after e = by_call (is_call_word (until 32 text)) e
  where
    plain : (b : Bool) → bytes_eq (until 32 text) (codes "atomic") ≡ b
        → cond b None (option_map (λ (x : Command × Names). pairs (Plain x.0) x.1) (command_read names text)) ≡ Some (pairs c after)
        → IsPlainLine names text c after
    plain true is e = absurd cc
    plain false is e =
        let m = map_some (λ (x : Command × Names). pairs (Plain x.0) x.1) (command_read names text) (c, after) e in
        record {
          command = m.value.0;
          is = sym (first_same (Plain m.value.0) c m.value.1 after m.makes);
          other = is;
          read = m.given ∙ ap (λ (n : Names). Some (m.value.0, n)) (second_same (Plain m.value.0) c m.value.1 after m.makes);
        }

    by_call : (b : Bool) → cond b (option_map (λ (x : LegacyCall × Names). pairs (Call x.0) x.1) (call_read t names text))
        (cond (bytes_eq (until 32 text) (codes "atomic")) None
        (option_map (λ (x : Command × Names). pairs (Plain x.0) x.1) (command_read names text))) ≡ Some (pairs c after)
        → IsCallLine t names text c after ⊎ IsPlainLine names text c after
    by_call true e =
        let m = map_some (λ (x : LegacyCall × Names). pairs (Call x.0) x.1) (call_read t names text) (c, after) e in
        inl (record {
          call = m.value.0;
          is = sym (first_same (Call m.value.0) c m.value.1 after m.makes);
          read = m.given ∙ ap (λ (n : Names). Some (m.value.0, n)) (second_same (Call m.value.0) c m.value.1 after m.makes);
        })
    by_call false e = inr (plain (bytes_eq (until 32 text) (codes "atomic")) refl e)

pub line_stays : (t : Topology) (names : Names) (text : List ℕ) (c : LegacyCommand) (after : Names)
    → legacy_command_read t names text ≡ Some (c, after) → after.profile ≡ names.profile
line_stays t names text c after e = elim (line_kind t names text c after e) [
  | inl called ↦ (call_is t names text called.call after called.read).profile
  | inr other ↦ command_stays names text (other.command, after) other.read
]

-- names before lines are a front of those behind them
pub begins_of : (t : Topology) (old : List (List ℕ)) (cs : List LegacyCommand) (names last : Names) → AreRead t names cs last
    → Begins last old → Begins names old
begins_of t old [] names last are b = subst (λ (n : Names). Begins n old) are b
begins_of t old (c ∷ cs) names last are b =
    let later = begins_of t old cs are.0 last are.1.1 b in
    let l = are.1.0 in
    elim (line_kind t names l.text c are.0 l.read) [
      | inl called ↦ (call_is t names l.text called.call are.0 called.read).begins old later
      | inr other ↦ names_begin old names are.0 l.text other.command other.read later
    ]

-- lines of a device and its client, and commands behind them
abbrev pub in_client : Topology → ℕ → Names → List LegacyCommand → LegacyDraft
in_client t size names commands = record { draft = record (device_part t true size) { names = names }; commands = commands }

topology_same : (t : Topology) (size : ℕ) (names : Names) (commands : List LegacyCommand) → names.profile ≡ t.profile
    → topology_in (in_client t size names commands).draft ≡ t
topology_same t size names commands of = ap (λ p. record t { profile = p }) of

-- a line of the client, and what stands behind it
record IsNextLine (t : Topology) (size : ℕ) (names : Names) (commands : List LegacyCommand) (next : LegacyDraft) : Type 0 where
  command : LegacyCommand
  after : Names
  line : IsReadLine t names command after
  profile : after.profile ≡ t.profile
  is : in_client t size after (commands ++ command ∷ []) ≡ next

lined_ok : (r : LegacyLined) (next : LegacyDraft) → result_ok r ≡ Some next → r ≡ Ok next
lined_ok (Ok d) next e = ap Ok (some_same d next e)
lined_ok (Err why) next e = absurd cc

at_most : (n : ℕ) → nat_lt 4096 n ≡ false → n ≤ 4096
at_most n e = grind (arith, nat_tests)

command_next : (t : Topology) (size : ℕ) (names : Names) (commands : List LegacyCommand) (text : List ℕ) (next : LegacyDraft)
    → names.profile ≡ t.profile → legacy_command_line (in_client t size names commands) text ≡ Ok next
    → IsNextLine t size names commands next
unfolding legacy_command_line
command_next t size names commands text next of e =
    let c = form_ok (legacy_command_read (topology_in (in_client t size names commands).draft) names text) _ next e in
    let label = unless_ok c.value.1.is_twice Label _ next c.then in
    let limit = unless_ok (nat_le 4096 (length commands) || nat_lt 4096 c.value.1.made) Limit _ next label.1 in
    let read : legacy_command_read t names text ≡ Some (c.value.0, c.value.1) =
    ap (λ (x : Topology). legacy_command_read x names text) (sym (topology_same t size names commands of)) ∙ c.given in
    record {
      command = c.value.0;
      after = c.value.1;
      line = record {
        text = text;
        read = read;
        once = label.0;
        few = at_most c.value.1.made
            (second_off (nat_le 4096 (length commands)) _ limit.0);
      };
      profile = line_stays t names text c.value.0 c.value.1 read ∙ of;
      is = ok_same (in_client t size c.value.1 (commands ++ c.value.0 ∷ [])) next limit.1;
    }

row_next : (t : Topology) (size : ℕ) (names : Names) (commands : List LegacyCommand) (row : Row) (next : LegacyDraft)
    → names.profile ≡ t.profile → spelt_legacy_line (in_client t size names commands) row ≡ Some next
    → IsNextLine t size names commands next
unfolding legacy_line
row_next t size names commands row next of e =
    let read = if_some (row.is_ended && list_all is_printable row.text)
    (result_ok (legacy_line (in_client t size names commands) row.text)) next e in
    command_next t size names commands row.text next of
    (lined_ok (legacy_command_line (in_client t size names commands) row.text) next read.1)

-- the commands of a client's lines
pub record AreWalked (t : Topology) (size : ℕ) (names : Names) (commands : List LegacyCommand) (last : LegacyDraft) : Type 0 where
  pub more : List LegacyCommand
  pub names_last : Names
  pub are : AreRead t names more names_last
  pub profile : names_last.profile ≡ t.profile
  pub is : last ≡ in_client t size names_last (commands ++ more)

nil_end : (none : Bool) (d last : LegacyDraft) → cond none None (Some d) ≡ Some last → (none ≡ false) × (d ≡ last)
nil_end true d last e = absurd cc
nil_end false d last e = (refl, some_same d last e)

pub walk_commands : (rows : List Row) (t : Topology) (size : ℕ) (names : Names) (commands : List LegacyCommand) (last : LegacyDraft)
    → names.profile ≡ t.profile
    → spelt_legacy_lines (in_client t size names commands) rows ≡ Some last → AreWalked t size names commands last
walk_commands [] t size names commands last of e = record {
  more = [];
  names_last = names;
  are = refl;
  profile = of;
  is = sym (nil_end (is_nil t.conns) (in_client t size names commands) last e).1 ∙ ap (in_client t size names) (sym (append-nil commands));
}
walk_commands (row ∷ rows) t size names commands last of e =
    let b = bind_some (spelt_legacy_line (in_client t size names commands) row) _ last e in
    let n = row_next t size names commands row b.value of b.given in
    let w = walk_commands rows t size n.after (commands ++ n.command ∷ []) last n.profile
    (subst (λ (d : LegacyDraft). spelt_legacy_lines d rows ≡ Some last) (sym n.is) b.then) in
    record {
      more = n.command ∷ w.more;
      names_last = w.names_last;
      are = (n.after, (n.line, w.are));
      profile = w.profile;
      is = w.is ∙ ap (in_client t size w.names_last) (append_assoc commands (n.command ∷ []) w.more);
    }

-- Lines of the device

-- Lines have a device in front, and its client, where they have one; and lines of scripts lead as far.
pub record IsFronted (rows : List Row) (d : Draft) (last : LegacyDraft) : Type 0 where
  pub t : Topology
  pub has : Bool
  pub size : ℕ
  pub front : List Row
  pub rest : List Row
  pub some : is_nil t.conns ≡ false
  pub read : spelt_legacy_lines (device_draft t has size) rest ≡ Some last
  pub none : has ≡ false → rest ≡ []
  pub lead : (more : List Row) (x : Draft) → spelt_lines (device_part t has size) more ≡ Some x → spelt_lines d (front ++ more) ≡ Some x

-- what a line of a script makes
record IsScriptLine (d : Draft) (row : Row) (next : LegacyDraft) : Type 0 where
  made : Draft
  is : script_line d row.text ≡ Ok made
  spelt : spelt_line d row ≡ Some made
  then : plain_draft made ≡ next

followed_ok : (r : Lined) (next : LegacyDraft) → result_ok (followed_by [] r) ≡ Some next
    → (m : Draft) × ((r ≡ Ok m) × (plain_draft m ≡ next))
followed_ok (Ok m) next e = (m, (refl, some_same (plain_draft m) next e))
followed_ok (Err why) next e = absurd cc

spelt_one : (b : Bool) (r : Lined) (m : Draft) → b ≡ true → r ≡ Ok m → cond b (lined r) None ≡ Some m
spelt_one b r m one two = rw (one, two) refl

early_line : (d : Draft) (row : Row) (next : LegacyDraft) → d.has_client ≡ false → spelt_legacy_line (plain_draft d) row ≡ Some next
    → IsScriptLine d row next
early_line d row next alone e =
    let read = if_some (row.is_ended && list_all is_printable row.text) (result_ok (legacy_line (plain_draft d) row.text)) next e in
    let line : result_ok (followed_by [] (script_line d row.text)) ≡ Some next =
    ap result_ok (sym (alone_line d row.text alone)) ∙ read.1 in
    let m = followed_ok (script_line d row.text) next line in
    record {
      made = m.0;
      is = m.1.0;
      spelt = spelt_one (row.is_ended && list_all is_printable row.text)
          (script_line d row.text) m.0 read.0 m.1.0;
      then = m.1.1;
    }

-- a line more in front
in_front : (d m : Draft) (row : Row) (front more : List Row) (x : Draft) → spelt_line d row ≡ Some m
    → spelt_lines m (front ++ more) ≡ Some x → spelt_lines d (row ∷ (front ++ more)) ≡ Some x
in_front d m row front more x one then = rw one then

further : (d m : Draft) (row : Row) (rows : List Row) (last : LegacyDraft) → spelt_line d row ≡ Some m → IsFronted rows m last
    → IsFronted (row ∷ rows) d last
further d m row rows last one f = record {
  t = f.t;
  has = f.has;
  size = f.size;
  front = row ∷ f.front;
  rest = f.rest;
  some = f.some;
  read = f.read;
  none = f.none;
  lead = λ more x e. in_front d m row f.front more x one (f.lead more x e);
}

-- the line `client`, behind a whole device
client_row : (d m : Draft) (n : ℕ) (row : Row) (rows : List Row) (last : LegacyDraft) → IsEarly d n → is_nil d.conns ≡ false
    → bytes_eq (until 32 row.text) (codes "conn") ≡ false
    → script_line d row.text ≡ Ok m → spelt_line d row ≡ Some m → spelt_legacy_lines (plain_draft m) rows ≡ Some last
    → IsFronted (row ∷ rows) d last
client_row d m n row rows last e some conn is one then = by_word (bytes_eq row.text (codes "client")) refl
  where
    t : Topology
    t = topology_in d

    own : script_line (device_part (topology_in d) false d.size) row.text ≡ Ok m
    own = ap (λ (x : Draft). script_line x row.text) (sym (early_is d n e some)) ∙ is

    by_word : (b : Bool) → bytes_eq row.text (codes "client") ≡ b → IsFronted (row ∷ rows) d last
    by_word true word =
        let made : device_part (topology_in d) true d.size ≡ m =
        ok_same _ m (sym (is_client (topology_in d) d.size row.text some word) ∙ own) in
        record {
          t = topology_in d;
          has = true;
          size = d.size;
          front = row ∷ [];
          rest = rows;
          some = some;
          read = subst (λ (x : Draft). spelt_legacy_lines (plain_draft x) rows ≡ Some last) (sym made) then;
          none = λ h. absurd cc;
          lead = λ more x h. in_front d m row [] more x one (subst (λ (y : Draft). spelt_lines y more ≡ Some x) made h);
        }
    by_word false word = absurd (never (sym own ∙ not_client (topology_in d) d.size row.text some (rw conn refl) word))
      where
        never : Ok m ≡ Err Form → ⊥
        never e = cc

pub front_walk : (rows : List Row) (d : Draft) (n : ℕ) (last : LegacyDraft) → IsEarly d n
    → spelt_legacy_lines (plain_draft d) rows ≡ Some last → IsFronted rows d last
front_walk [] d n last early e =
    let end = nil_end (is_nil d.conns) (plain_draft d) last e in
    let same : d ≡ device_part (topology_in d) false d.size = early_is d n early end.0 in
    record {
      t = topology_in d;
      has = false;
      size = d.size;
      front = [];
      rest = [];
      some = end.0;
      read = subst (λ (x : Draft). spelt_legacy_lines (plain_draft x) [] ≡ Some last) same e;
      none = λ h. refl;
      lead = λ more x h. subst (λ (y : Draft). spelt_lines y more ≡ Some x) (sym same) h;
    }
front_walk (row ∷ rows) d n last early e =
    let b = bind_some (spelt_legacy_line (plain_draft d) row) _ last e in
    let l = early_line d row b.value early.alone b.given in
    let then : spelt_legacy_lines (plain_draft l.made) rows ≡ Some last =
    subst (λ (x : LegacyDraft). spelt_legacy_lines x rows ≡ Some last) (sym l.then) b.then in
    elim (cases_Bool (is_nil d.conns)) [
      | inl nil ↦
          further d l.made row rows last l.spelt
          (front_walk rows l.made (n + 1) last (script_early d l.made n row.text early (inl nil) l.is) then)
      | inr some ↦ elim (cases_Bool (bytes_eq (until 32 row.text) (codes "conn"))) [
        | inl conn ↦
            further d l.made row rows last l.spelt
            (front_walk rows l.made (n + 1) last (script_early d l.made n row.text early (inr conn) l.is) then)
        | inr other ↦ client_row d l.made n row rows last early some other l.is l.spelt then
      ]
    ]

-- Scripts

pub record IsWalked (s : LegacyScript) : Type 0 where
  pub size : ℕ
  pub front : List Row
  pub last : Names
  pub some : is_nil s.base.topology.conns ≡ false
  pub version : s.base.version ≡ s.base.topology.profile
  pub words : s.base.names ≡ words_in last
  pub are : AreRead s.base.topology (unmade s.base.topology.profile []) s.commands last
  pub none : s.client ≡ false → s.commands ≡ []
  pub lead : (more : List Row) (x : Draft) → spelt_lines (device_part s.base.topology s.client size) more ≡ Some x
      → spelt_lines blank_draft (front ++ more) ≡ Some x

-- the script of commands behind a device and its client
abbrev script_with : Topology → Bool → Names → List LegacyCommand → LegacyScript
script_with t has names commands = record {
  base = record { version = names.profile; topology = record t { profile = names.profile }; names = words_in names; clients = [] };
  client = has;
  commands = commands;
}

walked : (t : Topology) (has : Bool) (size : ℕ) (front : List Row) (last : Names) (commands : List LegacyCommand) → is_nil t.conns ≡ false
    → last.profile ≡ t.profile → AreRead t (unmade t.profile []) commands last → (has ≡ false → commands ≡ [])
    → ((more : List Row) (x : Draft) → spelt_lines (device_part t has size) more ≡ Some x
    → spelt_lines blank_draft (front ++ more) ≡ Some x) → IsWalked (script_with t has last commands)
walked t has size front last commands some of are none lead =
    let same : t ≡ record t { profile = last.profile } = ap (λ p. record t { profile = p }) (sym of) in
    record {
      size = size;
      front = front;
      last = last;
      some = some;
      version = refl;
      words = refl;
      are = subst (λ (u : Topology). AreRead u (unmade u.profile []) commands last) same are;
      none = none;
      lead =
          subst (λ (u : Topology). (more : List Row) (x : Draft) → spelt_lines (device_part u has size) more ≡ Some x
          → spelt_lines blank_draft (front ++ more) ≡ Some x) same lead;
    }

pub legacy_walk : (bytes : List ℕ) (s : LegacyScript) → SpellsLegacy bytes s → IsWalked s
legacy_walk bytes s e =
    let m = map_some legacy_script_in (spelt_legacy_lines blank_legacy_draft (rows_of bytes)) s e in
    let f = front_walk (rows_of bytes) blank_draft 1 m.value blank_early m.given in
    subst IsWalked m.makes (by_client f.t f.has f.size f.front f.rest m.value f.some f.read f.none f.lead)
  where
    by_client : (t : Topology) (has : Bool) (size : ℕ) (front rest : List Row) (last : LegacyDraft) → is_nil t.conns ≡ false
        → spelt_legacy_lines (device_draft t has size) rest ≡ Some last → (has ≡ false → rest ≡ [])
        → ((more : List Row) (x : Draft) → spelt_lines (device_part t has size) more ≡ Some x
        → spelt_lines blank_draft (front ++ more) ≡ Some x) → IsWalked (legacy_script_in last)
    by_client t true size front rest last some read none lead =
        let w = walk_commands rest t size (unmade t.profile []) [] last refl read in
        subst (λ (d : LegacyDraft). IsWalked (legacy_script_in d)) (sym w.is)
        (walked t true size front w.names_last w.more some w.profile w.are (λ h. absurd cc) lead)
    by_client t false size front rest last some read none lead =
        let end : spelt_legacy_lines (device_draft t false size) [] ≡ Some last =
        subst (λ (rows : List Row). spelt_legacy_lines (device_draft t false size) rows ≡ Some last) (none refl) read in
        subst (λ (d : LegacyDraft). IsWalked (legacy_script_in d)) (nil_end (is_nil t.conns) (device_draft t false size) last end).1
        (walked t false size front (unmade t.profile []) [] some refl refl (λ h. refl) lead)
