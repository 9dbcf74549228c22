-- The text of the new script: the lines of the device, of the client, and of the commands that were said.
use Rattle.std.proofs.Common.{◌≡◌, ℕ, suc, ◌+◌, ◌≤◌, inl, inr, Bool, true, false, List, [], ◌∷◌, ◌++◌, length, length-append, Option, Some}
use Rattle.std.proofs.Common.{None, Ok, Err, refl, sym, ap, subst, ◌∙◌, arith}
use Rattle.std.specs.Prelude.{◌||◌, Result, nat_le, nat_lt}
use Rattle.std.specs.List.{AllByRecursion, list_all}
use Rattle.std.specs.Result.{result_ok}
use Rattle.std.proofs.lemmas.Bool.Decides.{nat_tests}
use Rattle.kms_model.specs.declared.legacy.LegacyCall.{LegacyCall}
use Rattle.kms_model.specs.declared.legacy.LegacyCommand.{LegacyCommand}
use Rattle.kms_model.specs.declared.legacy.LegacyCommand.TheVariants.{Plain, Call}
use Rattle.kms_model.specs.declared.objects.Topology.{Topology}
use Rattle.kms_model.specs.declared.scripts.Command.{Command}
use Rattle.kms_model.specs.declared.scripts.Command.TheVariants as command
use Rattle.kms_model.specs.declared.scripts.Request.{Request}
use Rattle.kms_model.specs.declared.worlds.World.{World}
use Rattle.kms_model.specs.Legacy.Translated.{fb_of_call, look_anew, meant, mode_of_call, translated}
use Rattle.kms_model.specs.Legacy.Translation.{present_in}
use Rattle.kms_model.specs.Script.CommandLines.{Names, command_read, is_over, words_in}
use Rattle.kms_model.specs.Script.Grammar.{is_printable}
use Rattle.kms_model.specs.Script.InputLines.{Row}
use Rattle.kms_model.specs.Script.Spelling.{spelt_line, spelt_lines}
use Rattle.kms_model.specs.Script.WellFormed.{IsFitCommand, is_command_in}
use Rattle.kms_model.specs.Script.WholeInput.{Draft, command_line, later_line, script_line}
use Rattle.kms_script.specs.ReadAnew.{IsLineOf, RequestsAreReadBack, makes_nothing}
use Rattle.kms_script.proofs.Inverted.{map_some, some_same}
use Rattle.kms_script.proofs.LineRead.{IsOfClient, line_printed, of_client}
use Rattle.kms_script.proofs.NamesBegin.{Begins}
use Rattle.kms_script.proofs.ProfileStays.{command_stays}
use Rattle.kms_script.proofs.RowsAgain.{ended_row}
use Rattle.kms_script.proofs.SpeltCommands.{command_spelt}
use Rattle.kms_legacy.specs.declared.script.Going.{Going}
use Rattle.kms_legacy.specs.Reading.{device_part}
use Rattle.kms_legacy.specs.Translating.{ArePassed, IsLeft, IsSaidAnew, said_names}
use Rattle.kms_legacy.proofs.CallsRead.{call_is}
use Rattle.kms_legacy.proofs.LegacyWalk.{AreRead, IsReadLine, begins_of, line_kind}
use Rattle.kms_legacy.proofs.LinesAnew.{read_as, text_same}
use Rattle.kms_legacy.proofs.LinesLed.{over_none}
use Rattle.kms_legacy.proofs.RequestsSaid.{request_quiet}
use Rattle.kms_legacy.proofs.SameLabels.{SameMade, same_line}

-- One line

-- the lines of the device, of the client and of commands
abbrev pub new_draft : Topology → ℕ → Going → Draft
new_draft t size g = record (device_part t true size) { names = said_names g; commands = g.lines }

abbrev behind : Topology → ℕ → Names → List Command → Draft
behind t size names commands = record (device_part t true size) { names = names; commands = commands }

none_full : (over : Bool) (n made : ℕ) → over ≡ false → n + 1 ≤ 4096 → made ≤ 4096 → (over || (nat_le 4096 n || nat_lt 4096 made)) ≡ false
none_full true n made e few low = absurd cc
none_full false n made e few low = grind (arith, nat_tests)

row_is_spelt : (t : Topology) (size : ℕ) (names after : Names) (commands : List Command) (text : List ℕ) (c : Command)
    → list_all is_printable text ≡ true → IsOfClient text → command_read names text ≡ Some (c, after)
    → after.is_twice ≡ false → is_over c ≡ false → length commands + 1 ≤ 4096 → after.made ≤ 4096
    → spelt_line (behind t size names commands) (ended_row text) ≡ Some (behind t size after (commands ++ c ∷ []))
unfolding script_line later_line command_line
row_is_spelt t size names after commands text c plain of read once over few made =
    rw (plain, of.plane, of.conn, of.client, read, once, none_full (is_over c) (length commands) after.made over few made) refl

-- Labels

same_back : (a b : Names) → SameMade a b → SameMade b a
same_back a b s = record { made = sym s.made; twice = sym s.twice; labels = λ w. sym (s.labels w) }

same_on : (a b c : Names) → SameMade a b → SameMade b c → SameMade a c
same_on a b c one two = record { made = one.made ∙ two.made; twice = one.twice ∙ two.twice; labels = λ w. one.labels w ∙ two.labels w }

pub after_of_both : (c d : Command) (a b : Names) → read_as c a ≡ read_as d b → a ≡ b
after_of_both c d a b e = ap (λ (x : Command × Names). x.1) (some_same {A = Command × Names} (c, a) (d, b) e)

-- a request that makes no label
request_keeps : (old : List (List ℕ)) (t : Topology) (r : Request) (a b : Going) → RequestsAreReadBack → (said_names a).profile ≡ t.profile
    → IsSaidAnew old t (command.Atomic r) a b → list_all (λ x. makes_nothing x.value) r.assigns ≡ true
    → SameMade (said_names a) (said_names b)
request_keeps old t r a b back of said quiet =
    let own : is_command_in (said_names a).profile old (command.Atomic r) ≡ true =
    subst (λ p. is_command_in p old (command.Atomic r) ≡ true) (sym of) said.spelt in
    let rb = back (said_names a) old r said.text (record { spelt = own; nothing = quiet }) said.is_line in
    let same : rb.after ≡ said_names b = after_of_both _ said.command rb.after (said_names b) (sym rb.read ∙ said.read) in
    subst (λ (n : Names). SameMade (said_names a) n) same
    (record { made = sym rb.made; twice = sym rb.once; labels = λ w. sym (rb.labels w) })

-- The lines that were said

-- lines of commands lead from the one draft to the other
pub record NewLines (t : Topology) (size : ℕ) (a b : Going) : Type 0 where
  pub rows : List Row
  pub lead : (more : List Row) (x : Draft) → spelt_lines (new_draft t size b) more ≡ Some x
      → spelt_lines (new_draft t size a) (rows ++ more) ≡ Some x
  pub few : length b.lines ≤ 4096
  pub fit : AllByRecursion IsFitCommand a.lines → AllByRecursion IsFitCommand b.lines
  pub profile : (said_names b).profile ≡ t.profile

no_line : (t : Topology) (size : ℕ) (a : Going) → length a.lines ≤ 4096 → (said_names a).profile ≡ t.profile → NewLines t size a a
no_line t size a few of = record { rows = []; lead = λ more x e. e; few = few; fit = λ all. all; profile = of }

all_more : (xs : List Command) (c : Command) → AllByRecursion IsFitCommand xs → IsFitCommand c → AllByRecursion IsFitCommand (xs ++ c ∷ [])
all_more [] c all fit = (fit, tt)
all_more (x ∷ xs) c all fit = (all.0, all_more xs c all.1 fit)

one_line : (old : List (List ℕ)) (t : Topology) (size : ℕ) (c : Command) (a m b : Going) → IsSaidAnew old t c a m
    → length a.lines + 1 ≤ 4096 → (said_names m).is_twice ≡ false → (said_names m).made ≤ 4096 → NewLines t size m b → NewLines t size a b
one_line old t size c a m b said few once made later =
    let plain = line_printed t.profile old c said.text said.spelt said.few said.is_line in
    let row : spelt_line (new_draft t size a) (ended_row said.text) ≡ Some (new_draft t size m) =
    row_is_spelt t size (said_names a) (said_names m) a.lines said.text said.command plain
    (of_client old c said.text said.is_line) said.read once (over_none said.command said.fit) few made
    ∙ ap (λ (ds : List Command). Some (behind t size (said_names m) ds)) (sym said.lines) in
    record {
      rows = ended_row said.text ∷ later.rows;
      lead = λ more x e. rw row (later.lead more x e);
      few = later.few;
      fit = λ all. later.fit (subst (AllByRecursion IsFitCommand) (sym said.lines) (all_more a.lines said.command all said.fit));
      profile = later.profile;
    }

ok_of : {A : Type 0} (r : Result A ℕ) (x : A) → result_ok r ≡ Some x → r ≡ Ok x
ok_of (Ok y) x e = ap Ok (some_same y x e)
ok_of (Err n) x e = absurd cc

-- what a call leaves is a request that makes no label
pub record IsQuietRequest (stated : Result Request ℕ) (c : Command) : Type 0 where
  pub request : Request
  pub asked : stated ≡ Ok request
  pub is : c ≡ command.Atomic request
  pub quiet : list_all (λ x. makes_nothing x.value) request.assigns ≡ true

pub call_quiet : (old new : List (List ℕ)) (t : Topology) (w : World) (l : LegacyCall) (c : Command) → meant old new t w (Call l) ≡ Some c
    → IsQuietRequest (translated old new t w l) c
unfolding meant translated
call_quiet old new t w l c e =
    let m = map_some command.Atomic (result_ok (translated old new t w l)) c e in
    record {
      request = m.value;
      asked = ok_of (translated old new t w l) m.value m.given;
      is = sym m.makes;
      quiet =
          request_quiet t (present_in w) (mode_of_call (look_anew old new w) l) (fb_of_call (look_anew old new w) l) l m.value
          (ok_of (translated old new t w l) m.value m.given);
    }

pub plain_meant : (old new : List (List ℕ)) (t : Topology) (w : World) (k c : Command) → meant old new t w (Plain k) ≡ Some c → k ≡ c
unfolding meant
plain_meant old new t w k c e = some_same k c e

plain_some : (old new : List (List ℕ)) (t : Topology) (w : World) (k : Command) → meant old new t w (Plain k) ≡ None → ⊥
unfolding meant
plain_some old new t w k e = clash e
  where
    clash : Some k ≡ None → ⊥
    clash e = cc

-- the same labels behind a line of the old script and what it left
module _ (back : RequestsAreReadBack) (old : List (List ℕ)) (t : Topology) (names after : Names) (c : LegacyCommand)
    (l : IsReadLine t names c after) (before : Begins after old) (a : Going) (of : (said_names a).profile ≡ t.profile)
    (same : SameMade names (said_names a)) where
  left_none : meant old (words_in (said_names a)) t a.serial.world c ≡ None → SameMade after (said_names a)
  left_none e = elim (line_kind t names l.text c after l.read) [
    | inl called ↦
        same_on after names (said_names a) (same_back names after (call_is t names l.text called.call after called.read).same) same
    | inr other ↦
        absurd (plain_some old (words_in (said_names a)) t a.serial.world other.command
        (ap (meant old (words_in (said_names a)) t a.serial.world) (sym other.is) ∙ e))
  ]

  left_some : (d : Command) (m : Going) → meant old (words_in (said_names a)) t a.serial.world c ≡ Some d → IsSaidAnew old t d a m
      → SameMade after (said_names m)
  left_some d m e said = elim (line_kind t names l.text c after l.read) [
    | inl called ↦ (let q =
        call_quiet old (words_in (said_names a)) t a.serial.world called.call d
        (ap (meant old (words_in (said_names a)) t a.serial.world) (sym called.is) ∙ e) in
        let own : IsSaidAnew old t (command.Atomic q.request) a m = subst (λ (k : Command). IsSaidAnew old t k a m) q.is said in
        same_on after names (said_names m) (same_back names after (call_is t names l.text called.call after called.read).same)
        (same_on names (said_names a) (said_names m) same (request_keeps old t q.request a m back of own q.quiet)))
    | inr other ↦ (let is : other.command ≡ d =
        plain_meant old (words_in (said_names a)) t a.serial.world other.command d
        (ap (meant old (words_in (said_names a)) t a.serial.world) (sym other.is) ∙ e) in
        let own : IsLineOf old other.command l.text = sym (command_spelt old names after l.text other.command other.read before) in
        let again : IsLineOf old other.command said.text = subst (λ (k : Command). IsLineOf old k said.text) (sym is) said.is_line in
        let text : said.text ≡ l.text = text_same old other.command said.text l.text again own in
        let read : command_read (said_names a) l.text ≡ Some (said.command, said_names m) =
        subst (λ (xs : List ℕ). command_read (said_names a) xs ≡ Some (said.command, said_names m)) text said.read in
        same_line names (said_names a) same l.text other.other (other.command, after) (said.command, said_names m) other.read read)
  ]

step_lines : (old : List (List ℕ)) (t : Topology) (size n : ℕ) (c : LegacyCommand) (names after : Names) (a m b : Going)
    (o : Option Command) → RequestsAreReadBack → (l : IsReadLine t names c after) → Begins after old
    → meant old (words_in (said_names a)) t a.serial.world c ≡ o → IsLeft old t o a m → SameMade names (said_names a)
    → (said_names a).profile ≡ t.profile → length a.lines + suc n ≤ 4096
    → (SameMade after (said_names m) → (said_names m).profile ≡ t.profile → length m.lines + n ≤ 4096 → NewLines t size m b)
    → NewLines t size a b
step_lines old t size n c names after a m b None back l begun is left same of few later =
    let labels : SameMade after (said_names a) = left_none back old t names after c l begun a of same is in
    subst (λ (g : Going). NewLines t size g b) left
    (later (subst (λ (g : Going). SameMade after (said_names g)) (sym left) labels)
    (subst (λ (g : Going). (said_names g).profile ≡ t.profile) (sym left) of)
    (subst (λ (g : Going). length g.lines + n ≤ 4096) (sym left) (omega (arith, few))))
step_lines old t size n c names after a m b (Some d) back l begun is left same of few later =
    let labels : SameMade after (said_names m) = left_some back old t names after c l begun a of same d m is left in
    let profile : (said_names m).profile ≡ t.profile = command_stays (said_names a) left.text (left.command, said_names m) left.read ∙ of in
    let count : length m.lines ≡ length a.lines + 1 = ap length left.lines ∙ length-append a.lines (left.command ∷ []) in
    one_line old t size d a m b left (omega (arith, few)) (sym labels.twice ∙ l.once) (omega (arith, labels.made, l.few))
    (later labels profile (omega (arith, few, count)))

pub new_lines : (back : RequestsAreReadBack) (old : List (List ℕ)) (t : Topology) (size : ℕ) (cs : List LegacyCommand) (names last : Names)
    (a b : Going) → AreRead t names cs last → Begins last old → ArePassed old t cs a b
    → SameMade names (said_names a) → (said_names a).profile ≡ t.profile → length a.lines + length cs ≤ 4096 → NewLines t size a b
new_lines back old t size [] names last a b are begun passed same of few =
    subst (λ (g : Going). NewLines t size a g) (sym passed) (no_line t size a (omega (arith, few)) of)
new_lines back old t size (c ∷ cs) names last a b are begun passed same of few =
    step_lines old t size (length cs) c names are.0 a passed.0 b (meant old (words_in (said_names a)) t a.serial.world c) back are.1.0
    (begins_of t old cs are.0 last are.1.1 begun) refl passed.1.0 same of few
    (λ labels profile count. new_lines back old t size cs are.0 last passed.0 b are.1.1 begun passed.1.1 labels profile count)
