-- A script that was translated command by command is a translation.
use Rattle.std.proofs.Common.{◌≡◌, ℕ, ◌≤◌, inl, inr, Bool, true, false, List, [], ◌∷◌, ◌++◌, length, append-nil, Some, refl, sym, ap, subst}
use Rattle.std.proofs.Common.{◌∙◌, arith}
use Rattle.std.specs.Prelude.{option_map}
use Rattle.std.specs.List.{AllByRecursion, IsDistinct, flat_map}
use Rattle.std.specs.Str.{bytes_eq}
use Rattle.std.proofs.lemmas.Bool.{cases_Bool}
use Rattle.kms_model.specs.declared.legacy.LegacyCommand.{LegacyCommand}
use Rattle.kms_model.specs.declared.legacy.LegacyScript.{LegacyScript}
use Rattle.kms_model.specs.declared.objects.Topology.{Topology}
use Rattle.kms_model.specs.declared.scripts.Command.{Command}
use Rattle.kms_model.specs.declared.scripts.Script.{Script}
use Rattle.kms_model.specs.declared.worlds.World.{World}
use Rattle.kms_model.specs.Device.World.{start}
use Rattle.kms_model.specs.Legacy.Translated.{AreTranslated, IsTranslated, lone_commands}
use Rattle.kms_model.specs.Script.CommandLines.{Names, unmade, words_in}
use Rattle.kms_model.specs.Script.InputLines.{Row}
use Rattle.kms_model.specs.Script.Spelling.{Spells, spelt_lines}
use Rattle.kms_model.specs.Script.WellFormed.{IsFitClient, IsFitCommand, IsWellFormed}
use Rattle.kms_model.specs.Script.WholeInput.{Draft, blank_draft, clients_of, is_nil, script_in}
use Rattle.kms_model.proofs.Facts.{all-from_recursion}
use Rattle.kms_words.specs.Fitting.{KeepsLimits}
use Rattle.kms_words.specs.Named.{HeldNames}
use Rattle.kms_script.specs.ReadAnew.{FormsNeedNoNames, RequestsAreReadBack}
use Rattle.kms_script.proofs.Formed.{well_formed}
use Rattle.kms_script.proofs.NamesBegin.{Begins}
use Rattle.kms_script.proofs.RowsAgain.{rows_alone}
use Rattle.kms_script.proofs.SpelledRows.{ended_text}
use Rattle.kms_serial.specs.Device.{Device}
use Rattle.kms_legacy.specs.declared.script.Going.{Going}
use Rattle.kms_legacy.specs.Reading.{device_part}
use Rattle.kms_legacy.specs.Translating.{ArePassed, IsAtStart, IsFitLegacy, IsFitLine, IsWellFormedLegacy, said_names, script_of}
use Rattle.kms_legacy.proofs.CallsRead.{call_is}
use Rattle.kms_legacy.proofs.LabelsBelow.{AreBelow}
use Rattle.kms_legacy.proofs.LegacyWalk.{AreRead, IsReadLine, IsWalked, begins_of, legacy_walk, line_kind, line_stays}
use Rattle.kms_legacy.proofs.LinesAnew.{plain_anew}
use Rattle.kms_legacy.proofs.LinesLed.{Leads, SaysAll, leads}
use Rattle.kms_legacy.proofs.SameLabels.{SameMade}
use Rattle.kms_legacy.proofs.NewText.{new_draft, new_lines}

-- Each command may be translated.

line_fit : (forms : FormsNeedNoNames) (t : Topology) (old : List (List ℕ)) (c : LegacyCommand) (names after : Names)
    → names.profile ≡ t.profile → IsReadLine t names c after → Begins after old → IsFitLine t old c
line_fit forms t old c names after of l begun = elim (line_kind t names l.text c after l.read) [
  | inl called ↦ (let is = call_is t names l.text called.call after called.read in
      subst (IsFitLine t old) (sym called.is) (record { stands = is.stands; named = is.named old begun }))
  | inr other ↦
      subst (IsFitLine t old) (sym other.is)
      (plain_anew forms t.profile old names after l.text other.command of other.other other.read begun)
]

lines_fit : (forms : FormsNeedNoNames) (t : Topology) (old : List (List ℕ)) (cs : List LegacyCommand) (names last : Names)
    → names.profile ≡ t.profile → AreRead t names cs last → Begins last old → AllByRecursion (IsFitLine t old) cs
lines_fit forms t old [] names last of are begun = tt
lines_fit forms t old (c ∷ cs) names last of are begun =
    let l = are.1.0 in (
      line_fit forms t old c names are.0 of l (begins_of t old cs are.0 last are.1.1 begun),
      lines_fit forms t old cs are.0 last (line_stays t names l.text c are.0 l.read ∙ of) are.1.1 begun,
    )

pub fit_legacy : FormsNeedNoNames → (s : LegacyScript) → IsWellFormedLegacy s → IsFitLegacy s
fit_legacy forms s spelt =
    let w = legacy_walk spelt.bytes s spelt.spells in
    let t : Topology = s.base.topology in
    let begun : Begins w.last s.base.names = record { more = []; whole = w.words ∙ sym (append-nil (words_in w.last)) } in
    record {
      device = spelt.device;
      few = spelt.few;
      lines =
          all-from_recursion (IsFitLine t s.base.names) s.commands
          (lines_fit forms t s.base.names s.commands (unmade t.profile []) w.last refl w.are begun);
    }

-- Some text spells the new script.

-- rows that lead to the draft of a script are its text
spells_rows : (rows : List Row) (d : Draft) (out : Script) → spelt_lines blank_draft rows ≡ Some d → script_in d ≡ out
    → Spells (flat_map ended_text rows) out
spells_rows rows d out e is =
    ap (λ (rs : List Row). option_map script_in (spelt_lines blank_draft rs)) (rows_alone blank_draft d rows e)
    ∙ (ap (option_map script_in) e ∙ ap Some is)

end_of : (d : Draft) → is_nil d.conns ≡ false → spelt_lines d [] ≡ Some d
end_of d some = rw some refl

-- the script of a draft behind a device
script_same : (s : LegacyScript) (size : ℕ) (g : Going) → s.base.version ≡ s.base.topology.profile
    → (said_names g).profile ≡ s.base.topology.profile → s.client ≡ true → script_in (new_draft s.base.topology size g) ≡ script_of s g
script_same s size g version of has =
    ap (λ p. record {
      version = p;
      topology = record s.base.topology { profile = p };
      names = words_in
          (said_names g);
      clients = g.lines ∷ [];
    }) of
    ∙ (ap (λ v. record { version = v; topology = s.base.topology; names = words_in (said_names g); clients = g.lines ∷ [] }) (sym version)
    ∙ ap (λ (h : Bool). record {
      version = s.base.version;
      topology = s.base.topology;
      names = words_in
          (said_names g);
      clients = clients_of h g.lines;
    }) (sym has))

few_clients : (has : Bool) (lines : List Command) → length (clients_of has lines) ≤ 16
few_clients true lines = omega arith
few_clients false lines = omega arith

fit_clients : (has : Bool) (lines : List Command) → length lines ≤ 4096 → AllByRecursion IsFitCommand lines
    → AllByRecursion IsFitClient (clients_of has lines)
fit_clients true lines few fit = (record { few = few; fit = fit }, tt)
fit_clients false lines few fit = tt

limits_kept : (s : LegacyScript) (g : Going) → IsWellFormedLegacy s → s.base.version ≡ s.base.topology.profile → length g.lines ≤ 4096
    → AllByRecursion IsFitCommand g.lines → IsDistinct bytes_eq (words_in (said_names g)) → KeepsLimits (script_of s g)
limits_kept s g spelt version few fit differ = record {
  device = spelt.device;
  few = few_clients s.client g.lines;
  clients = fit_clients s.client g.lines few fit;
  version = version;
  differ = differ;
}

start_same : (t : Topology) (g : Going) → IsAtStart t g → said_names g ≡ unmade t.profile []
start_same t g at = ap (λ (h : HeldNames). h.names) at.blank

-- without a client
formed_alone : (s : LegacyScript) (first last : Going) → IsWellFormedLegacy s → IsWalked s → IsAtStart s.base.topology first
    → ArePassed s.base.names s.base.topology s.commands first last → IsDistinct bytes_eq (words_in (said_names last))
    → s.client ≡ false → IsWellFormed (script_of s last)
formed_alone s first last spelt w at passed differ alone =
    let t : Topology = s.base.topology in
    let same : last ≡ first = subst (λ (cs : List LegacyCommand). ArePassed s.base.names t cs first last) (w.none alone) passed in
    let names : said_names last ≡ unmade t.profile [] = ap said_names same ∙ start_same t first at in
    let lines : last.lines ≡ [] = ap (λ (g : Going). g.lines) same ∙ at.lines in
    let lead : spelt_lines blank_draft (w.front ++ []) ≡ Some (device_part t false w.size) =
    w.lead [] (device_part t false w.size)
    (subst (λ (h : Bool). spelt_lines (device_part t h w.size) [] ≡ Some (device_part t false w.size)) (sym alone)
    (end_of (device_part t false w.size) w.some)) in
    let is : script_in (device_part t false w.size) ≡ script_of s last =
    ap (λ v. record { version = v; topology = t; names = []; clients = [] }) (sym w.version)
    ∙ (ap (λ (n : Names). record { version = s.base.version; topology = t; names = words_in n; clients = [] }) (sym names)
    ∙ ap (λ (h : Bool). record {
      version = s.base.version;
      topology = t;
      names = words_in
          (said_names last);
      clients = clients_of h last.lines;
    }) (sym alone)) in
    well_formed (flat_map ended_text (w.front ++ [])) (script_of s last)
    (limits_kept s last spelt w.version (omega (arith, ap length lines)) (subst (AllByRecursion IsFitCommand) (sym lines) tt) differ)
    (spells_rows (w.front ++ []) (device_part t false w.size) (script_of s last) lead is)

-- with one
formed_client : (back : RequestsAreReadBack) (s : LegacyScript) (first last : Going) → IsWellFormedLegacy s → IsWalked s
    → IsAtStart s.base.topology first → ArePassed s.base.names s.base.topology s.commands first last
    → IsDistinct bytes_eq (words_in (said_names last)) → s.client ≡ true → IsWellFormed (script_of s last)
formed_client back s first last spelt w at passed differ has =
    let t : Topology = s.base.topology in
    let begun : Begins w.last s.base.names = record { more = []; whole = w.words ∙ sym (append-nil (words_in w.last)) } in
    let start : said_names first ≡ unmade t.profile [] = start_same t first at in
    let same = subst (λ (n : Names). SameMade (unmade t.profile []) n) (sym start)
    (record { made = refl; twice = refl; labels = λ v. refl }) in
    let none : length first.lines ≡ 0 = ap length at.lines in
    let n = new_lines back s.base.names t w.size s.commands (unmade t.profile []) w.last first last w.are begun passed same
    (ap (λ (x : Names). x.profile) start) (omega (arith, none, spelt.few)) in
    let begin : new_draft t w.size first ≡ device_part t true w.size =
    ap (λ (x : Names). record (device_part t true w.size) { names = x; commands = first.lines }) start
    ∙ ap (λ (cs : List Command). record (device_part t true w.size) { commands = cs }) at.lines in
    let own : spelt_lines (new_draft t w.size first) (n.rows ++ []) ≡ Some (new_draft t w.size last) =
    n.lead [] (new_draft t w.size last) (end_of (new_draft t w.size last) w.some) in
    let behind : spelt_lines (device_part t true w.size) (n.rows ++ []) ≡ Some (new_draft t w.size last) =
    subst (λ (x : Draft). spelt_lines x (n.rows ++ []) ≡ Some (new_draft t w.size last)) begin own in
    let lead = w.lead (n.rows ++ []) (new_draft t w.size last)
    (subst (λ (h : Bool). spelt_lines (device_part t h w.size) (n.rows ++ []) ≡ Some (new_draft t w.size last)) (sym has) behind) in
    well_formed (flat_map ended_text (w.front ++ (n.rows ++ []))) (script_of s last)
    (limits_kept s last spelt w.version n.few (n.fit (subst (AllByRecursion IsFitCommand) (sym at.lines) tt)) differ)
    (spells_rows (w.front ++ (n.rows ++ [])) (new_draft t w.size last) (script_of s last) lead
    (script_same s w.size last w.version n.profile has))

pub formed : (back : RequestsAreReadBack) (s : LegacyScript) (first last : Going) → IsWellFormedLegacy s → IsAtStart s.base.topology first
    → ArePassed s.base.names s.base.topology s.commands first last
    → IsDistinct bytes_eq (words_in (said_names last)) → IsWellFormed (script_of s last)
formed back s first last spelt at passed differ =
    let w = legacy_walk spelt.bytes s spelt.spells in
    elim (cases_Bool s.client) [
      | inl has ↦ formed_client back s first last spelt w at passed differ has
      | inr alone ↦ formed_alone s first last spelt w at passed differ alone
    ]

-- nothing is made before the first command
pub starts_said : (t : Topology) (g : Going) → IsAtStart t g → SaysAll g
starts_said t g at = subst (λ (d : Device). AreBelow (length (said_names g).all) d.world.things) (sym at.device) tt

lone : (has : Bool) (lines : List Command) → clients_of has lines ≡ clients_of has (lone_commands (clients_of has lines))
lone true lines = refl
lone false lines = refl

are_lines : (has : Bool) (old all : List (List ℕ)) (t : Topology) (w : World) (cs : List LegacyCommand) (lines : List Command)
    → (has ≡ false → cs ≡ []) → AreTranslated old all t w cs lines
    → AreTranslated old all t w cs (lone_commands (clients_of has lines))
are_lines true old all t w cs lines none are = are
are_lines false old all t w cs lines none are = subst (λ (xs : List LegacyCommand). AreTranslated old all t w xs []) (sym (none refl)) refl

pub translation : (back : RequestsAreReadBack) (s : LegacyScript) (first last : Going) → IsWellFormedLegacy s
    → IsAtStart s.base.topology first → ArePassed s.base.names s.base.topology s.commands first last
    → IsDistinct bytes_eq (words_in (said_names last)) → IsTranslated s (script_of s last)
translation back s first last spelt begins passed differ =
    let t : Topology = s.base.topology in
    let all : List (List ℕ) = words_in (said_names last) in
    let l : Leads s.base.names all t s.commands first last =
    leads s.base.names all t s.commands first last passed (starts_said t first begins)
    (record { more = []; whole = sym (append-nil all) }) in
    let lines : last.lines ≡ l.extra = l.lines ∙ ap (λ (ds : List Command). ds ++ l.extra) begins.lines in
    let world : first.serial.world ≡ start t = ap (λ (d : Device). d.world) begins.device in
    let are : AreTranslated s.base.names all t (start t) s.commands last.lines =
    subst (λ (w : World). AreTranslated s.base.names all t w s.commands last.lines) world
    (subst (λ (ds : List Command). AreTranslated s.base.names all t first.serial.world s.commands ds) (sym lines) l.are) in
    record {
      version = refl;
      topology = refl;
      clients = lone s.client last.lines;
      lines = are_lines s.client s.base.names all t (start t) s.commands last.lines (legacy_walk spelt.bytes s spelt.spells).none are;
      well_formed = formed back s first last spelt begins passed differ;
    }
