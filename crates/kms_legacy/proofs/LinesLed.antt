-- Commands that are passed, one after the other, are the translation of those of the old script, with all names that the new
-- one says in the end.
use Rattle.std.proofs.Common.{◌≡◌, ℕ, suc, ◌+◌, ◌<◌, ◌≤◌, ◌⊎◌, inl, inr, Bool, true, false, not, cond, arith, List, [], ◌∷◌, ◌++◌, get_or}
use Rattle.std.proofs.Common.{take, length, length-append, append-nil, append_assoc, Option, Some, None, refl, sym, ap, subst, ◌∙◌}
use Rattle.std.specs.Prelude.{◌==◌, nat_lt}
use Rattle.std.specs.List.{AllByRecursion, position_or_len}
use Rattle.std.specs.Str.{bytes_eq}
use Rattle.std.proofs.lemmas.Bool.Decides.{nat_tests}
use Rattle.std.proofs.lemmas.List.{length-map, take_more}
use Rattle.kms_model.specs.declared.legacy.LegacyCall.{LegacyCall}
use Rattle.kms_model.specs.declared.legacy.LegacyCall.TheVariants as call
use Rattle.kms_model.specs.declared.legacy.LegacyCommand.{LegacyCommand}
use Rattle.kms_model.specs.declared.legacy.LegacyCommand.TheVariants.{Plain, Call}
use Rattle.kms_model.specs.declared.objects.Topology.{Topology}
use Rattle.kms_model.specs.declared.scripts.Command.{Command}
use Rattle.kms_model.specs.declared.scripts.Command.TheVariants as command
use Rattle.kms_model.specs.declared.worlds.Look.{Look}
use Rattle.kms_model.specs.declared.worlds.Thing.{Thing}
use Rattle.kms_model.specs.declared.worlds.World.{World}
use Rattle.kms_model.specs.Device.Execution.{execute}
use Rattle.kms_model.specs.Device.World.{thing_labelled}
use Rattle.kms_model.specs.Legacy.Translated.{AreTranslated, SaysNext, SaysSame, after_line, fb_of_call, look_anew, meant, mode_of_call}
use Rattle.kms_model.specs.Legacy.Translated.{translated}
use Rattle.kms_model.specs.Request.Lookups.{look_of, look_up}
use Rattle.kms_model.specs.Request.Sets.{fb_of_look, mode_of_look}
use Rattle.kms_model.specs.Script.CommandLines.{Name, Names, command_read, words_in}
use Rattle.kms_model.specs.Script.Spelling.{name_word}
use Rattle.kms_script.proofs.NamesBegin.{Begins}
use Rattle.kms_script.proofs.SpeltCommands.{names_begin}
use Rattle.kms_model.specs.Report.TextLines.{line}
use Rattle.kms_model.specs.Script.CommandLines.{is_over}
use Rattle.kms_model.specs.Script.Spelling.{command_words}
use Rattle.kms_model.specs.Script.WellFormed.{IsFitCommand}
use Rattle.kms_script.proofs.FitCommands.{command_fit}
use Rattle.kms_script.proofs.SpeltCommands.{command_spelt}
use Rattle.kms_legacy.specs.declared.script.Going.{Going}
use Rattle.kms_script.proofs.CommandWords.{AreWords, IsSpaced, command_spaced, has_keyword, one_line}
use Rattle.kms_legacy.proofs.LabelsBelow.{AreBelow, below_wider, execute_below}
use Rattle.kms_legacy.specs.Translating.{ArePassed, IsLeft, IsPassed, IsSaidAnew, said_names}

-- One command more

pub passed_more : (old : List (List ℕ)) (t : Topology) (cs : List LegacyCommand) (c : LegacyCommand) (a b d : Going)
    → ArePassed old t cs a b → IsPassed old t c b d → ArePassed old t (cs ++ c ∷ []) a d
passed_more old t [] c a b d same p = (d, (subst (λ (g : Going). IsPassed old t c g d) same p, refl))
passed_more old t (x ∷ xs) c a b d all p = (all.0, (all.1.0, passed_more old t xs c all.0 b d all.1.1 p))

-- the next command of those that a loop goes through
pub one_passed : (old : List (List ℕ)) (t : Topology) (xs cs : List LegacyCommand) (i : ℕ) (x : LegacyCommand) (a b d : Going) → xs ≡ cs
    → i < length xs → x ≡ get_or xs i x → ArePassed old t (take i cs) a b → IsPassed old t x b d
    → ArePassed old t (take (i + 1) cs) a d
one_passed old t xs cs i x a b d same lt is all one =
    let longer : take (i + 1) xs ≡ take i xs ++ x ∷ [] = take_more xs i x lt ∙ ap (λ (y : LegacyCommand). take i xs ++ y ∷ []) (sym is) in
    let more : take (i + 1) cs ≡ take i cs ++ x ∷ [] =
    subst (λ (ys : List LegacyCommand). take (i + 1) ys ≡ take i ys ++ x ∷ []) same longer in
    subst (λ (ys : List LegacyCommand). ArePassed old t ys a d) (sym more) (passed_more old t (take i cs) x a b d all one)

-- What labels name

-- each thing is under a label that was said
abbrev pub SaysAll : Going → Type 0
SaysAll g = AreBelow (length (said_names g).all) g.serial.world.things

-- a word has one place among words and more behind them, or none among the first ones
place_step : (t : Bool) (a b len : ℕ) → (a ≡ b) ⊎ ((len ≤ b) × (len ≤ a))
    → (cond (not t) (1 + a) 0 ≡ cond (not t) (1 + b) 0) ⊎ ((suc len ≤ cond (not t) (1 + b) 0) × (suc len ≤ cond (not t) (1 + a) 0))
place_step true a b len either = inl refl
place_step false a b len (inl same) = inl (ap (λ n. 1 + n) same)
place_step false a b len (inr past) = inr (omega (arith, past.0), omega (arith, past.1))

place_front : (p : List ℕ → Bool) (front more : List (List ℕ))
    → (position_or_len p (front ++ more) ≡ position_or_len p front) ⊎
    ((length front ≤ position_or_len p front) × (length front ≤ position_or_len p (front ++ more)))
place_front p [] more = inr (omega arith, omega arith)
place_front p (x ∷ xs) more = place_step (p x) (position_or_len p (xs ++ more)) (position_or_len p xs) (length xs) (place_front p xs more)

other_label : (label n k : ℕ) → label < n → n ≤ k → (label == k) ≡ false
other_label label n k below past = grind (arith, nat_tests)

-- nothing is under a number beyond those
unlabelled : (things : List Thing) (n k : ℕ) → AllByRecursion (λ thing. thing.label < n) things → n ≤ k → thing_labelled things k ≡ None
unlabelled [] n k below past = refl
unlabelled (thing ∷ things) n k below past = rw (other_label thing.label n k below.0 past) (unlabelled things n k below.1 past)

-- A word that was said has its number in all names; under the number of another one nothing is made yet.
pub look_same : (old all : List (List ℕ)) (names : Names) (w : World) → AreBelow (length names.all) w.things → Begins names all
    → (label : ℕ) → look_anew old (words_in names) w label ≡ look_anew old all w label
look_same old all names w below b label =
    let word : List ℕ = name_word old label in
    let count : length (words_in names) ≡ length names.all = length-map names.all (λ (n : Name). n.word) in
    let behind : position_or_len (bytes_eq word) all ≡ position_or_len (bytes_eq word) (words_in names ++ b.more) =
    ap (position_or_len (bytes_eq word)) b.whole in
    elim (place_front (bytes_eq word) (words_in names) b.more) [
      | inl same ↦ ap (λ n. look_up w n) (sym (behind ∙ same))
      | inr past ↦
          ap look_of (unlabelled w.things (length names.all) (position_or_len (bytes_eq word) (words_in names)) below
          (omega (arith, count, past.0)))
          ∙ sym (ap look_of (unlabelled w.things (length names.all) (position_or_len (bytes_eq word) all) below
          (omega (arith, count, behind, past.1))))
    ]

pub mode_same : (f g : ℕ → Look) (c : LegacyCall) → ((label : ℕ) → f label ≡ g label) → mode_of_call f c ≡ mode_of_call g c
mode_same f g (call.SetCrtc crtc fb x y mode conn) same = ap mode_of_look (same mode)
mode_same f g (call.CrtcOff crtc) same = refl
mode_same f g (call.SetPlane plane crtc fb dst src) same = refl
mode_same f g (call.PlaneOff plane) same = refl
mode_same f g (call.PageFlip crtc fb event user) same = refl
mode_same f g (call.Cursor crtc fb x y) same = refl
mode_same f g (call.CursorMove crtc x y) same = refl
mode_same f g (call.CursorOff crtc) same = refl

pub fb_same : (f g : ℕ → Look) (c : LegacyCall) → ((label : ℕ) → f label ≡ g label) → fb_of_call f c ≡ fb_of_call g c
fb_same f g (call.SetCrtc crtc fb x y mode conn) same = ap fb_of_look (same fb)
fb_same f g (call.CrtcOff crtc) same = refl
fb_same f g (call.SetPlane plane crtc fb dst src) same = ap fb_of_look (same fb)
fb_same f g (call.PlaneOff plane) same = refl
fb_same f g (call.PageFlip crtc fb event user) same = ap fb_of_look (same fb)
fb_same f g (call.Cursor crtc fb x y) same = ap fb_of_look (same fb)
fb_same f g (call.CursorMove crtc x y) same = refl
fb_same f g (call.CursorOff crtc) same = refl

-- what a command leaves is the same with all names as with those so far
pub meant_same : (old all : List (List ℕ)) (t : Topology) (names : Names) (w : World) (c : LegacyCommand)
    → AreBelow (length names.all) w.things → Begins names all → meant old (words_in names) t w c ≡ meant old all t w c
unfolding meant translated
meant_same old all t names w (Plain c) below b = refl
meant_same old all t names w (Call c) below b =
    let looks = look_same old all names w below b in
    rw (
      mode_same (look_anew old (words_in names) w) (look_anew old all w) c looks,
      fb_same (look_anew old (words_in names) w)
          (look_anew old all w) c looks,
    ) refl

-- Commands that are said

-- the things that a command of a line makes are under labels that were said
pub read_below : (t : Topology) (w : World) (names after : Names) (text : List ℕ) (c : Command)
    → command_read names text ≡ Some (c, after) → AreBelow (length names.all) w.things
    → AreBelow (length after.all) (execute t w 1 c).world.things
read_below t w names after text c read all =
    let new : List (List ℕ) = words_in after in
    let begins : Begins after new = record { more = []; whole = sym (append-nil new) } in
    let fit = command_fit new names text (c, after) read begins in
    let before = names_begin new names after text c read begins in
    let count : length new ≡ length after.all = length-map after.all (λ (n : Name). n.word) in
    let words : length (words_in names) ≡ length names.all = length-map names.all (λ (n : Name). n.word) in
    let grown : length names.all ≤ length new =
    omega (arith, ap length before.whole, length-append (words_in names) before.more, words) in
    let wide = below_wider (length names.all) (length new) w.things grown all in
    subst (λ n. AreBelow n (execute t w 1 c).world.things) count (execute_below new names.profile 1 t w c wide fit)

pub says_all : (old : List (List ℕ)) (t : Topology) (c : Command) (a b : Going) → IsSaidAnew old t c a b → SaysAll a → SaysAll b
says_all old t c a b said all =
    subst (λ (w : World). AreBelow (length (said_names b).all) w.things) (sym said.world)
    (read_below t a.serial.world (said_names a) (said_names b) said.text said.command said.read all)

-- lines of one text have the same words
words_same : (xs ys : List (List ℕ)) (k l : List ℕ) (ws vs : List (List ℕ)) → xs ≡ k ∷ ws → ys ≡ l ∷ vs → IsSpaced xs → IsSpaced ys
    → line xs ≡ line ys → xs ≡ ys
words_same xs ys k l ws vs first second one two same =
    let front : AreWords one.most (k ∷ ws) = subst (AreWords one.most) first one.words in
    let back : AreWords two.most (l ∷ vs) = subst (AreWords two.most) second two.words in
    first ∙ (one_line one.most two.most k l ws vs front back (sym (ap line first) ∙ (same ∙ ap line second)) ∙ sym second)

pub over_none : (c : Command) → IsFitCommand c → is_over c ≡ false
over_none (command.Buffer label width height format pattern) fit = refl
over_none (command.AddFb label buffer) fit = refl
over_none (command.Mode label m) fit = refl
over_none (command.Blob label bytes) fit = refl
over_none (command.Destroy label) fit = refl
over_none (command.CloseFb label) fit = refl
over_none (command.Fence label) fit = refl
over_none (command.Signal label) fit = refl
over_none (command.Atomic r) fit = at_most (length r.assigns) fit
  where
    at_most : (n : ℕ) → n ≤ 256 → nat_lt 256 n ≡ false
    at_most n le = grind (arith, nat_tests)
over_none command.Wait fit = refl

-- the command of the new script is the same line
pub same_words : (old all : List (List ℕ)) (t : Topology) (c : Command) (a b : Going) (said : IsSaidAnew old t c a b) → is_over c ≡ false
    → Begins (said_names b) all → SaysSame old all c said.command
same_words old all t c a b said few begins =
    let spelt = command_spelt all (said_names a) (said_names b) said.text said.command said.read begins in
    let fit = command_fit all (said_names a) said.text (said.command, said_names b) said.read begins in
    let first = has_keyword old c in
    let second = has_keyword all said.command in
    words_same (command_words old c)
    (command_words all said.command) first.keyword second.keyword first.words second.words first.are second.are
    (command_spaced t.profile old c said.spelt few)
    (command_spaced (said_names a).profile all said.command fit (over_none said.command said.fit))
    (sym said.is_line ∙ sym spelt)

-- names before a command are a front of those after it
pub before_said : (old all : List (List ℕ)) (t : Topology) (c : Command) (a b : Going) → IsSaidAnew old t c a b → Begins (said_names b) all
    → Begins (said_names a) all
before_said old all t c a b said begins = names_begin all (said_names a) (said_names b) said.text said.command said.read begins

-- Lines

-- The lines of the new script that were added are what these commands leave.
pub record Leads (old all : List (List ℕ)) (t : Topology) (cs : List LegacyCommand) (a b : Going) : Type 0 where
  pub extra : List Command
  pub lines : b.lines ≡ a.lines ++ extra
  pub begins : Begins (said_names a) all
  pub are : AreTranslated old all t a.serial.world cs extra

-- what a command leaves, and the lines behind it
abbrev pub Follows : List (List ℕ) → List (List ℕ) → Topology → World → List LegacyCommand → List Command → Option Command → Type 0
Follows old all t w cs lines left =
    SaysNext old all left lines × AreTranslated old all t (after_line t w left lines).world cs (after_line t w left lines).lines

-- a command that leaves no line
none_left : (old all : List (List ℕ)) (t : Topology) (c : LegacyCommand) (cs : List LegacyCommand) (a b : Going) → SaysAll a
    → meant old (words_in (said_names a)) t a.serial.world c ≡ None → Leads old all t cs a b → Leads old all t (c ∷ cs) a b
none_left old all t c cs a b says none l =
    let left : meant old all t a.serial.world c ≡ None = sym (meant_same old all t (said_names a) a.serial.world c says l.begins) ∙ none in
    record {
      extra = l.extra;
      lines = l.lines;
      begins = l.begins;
      are = subst (λ (o : Option Command). Follows old all t a.serial.world cs l.extra o) (sym left) (tt, l.are);
    }

-- a command that leaves one
one_left : (old all : List (List ℕ)) (t : Topology) (c : LegacyCommand) (d : Command) (cs : List LegacyCommand) (a m b : Going) → SaysAll a
    → meant old (words_in (said_names a)) t a.serial.world c ≡ Some d
    → IsSaidAnew old t d a m → Leads old all t cs m b → Leads old all t (c ∷ cs) a b
one_left old all t c d cs a m b says some said l =
    let begins = before_said old all t d a m said l.begins in
    let left : meant old all t a.serial.world c ≡ Some d = sym (meant_same old all t (said_names a) a.serial.world c says begins) ∙ some in
    let same = same_words old all t d a m said said.few l.begins in
    let later : AreTranslated old all t (execute t a.serial.world 1 said.command).world cs l.extra =
    subst (λ (w : World). AreTranslated old all t w cs l.extra) said.world l.are in
    record {
      extra = said.command ∷ l.extra;
      lines = l.lines ∙ (ap (λ (ds : List Command). ds ++ l.extra) said.lines ∙ append_assoc a.lines (said.command ∷ []) l.extra);
      begins = begins;
      are = subst (λ (o : Option Command). Follows old all t a.serial.world cs (said.command ∷ l.extra) o) (sym left) (same, later);
    }

pub leads : (old all : List (List ℕ)) (t : Topology) (cs : List LegacyCommand) (a b : Going) → ArePassed old t cs a b → SaysAll a
    → Begins (said_names b) all → Leads old all t cs a b
leads old all t [] a b same says begins = record {
  extra = [];
  lines = ap (λ (g : Going). g.lines) same ∙ sym (append-nil a.lines);
  begins = subst (λ (g : Going). Begins (said_names g) all) same begins;
  are = refl;
}
leads old all t (c ∷ cs) a b passed says begins =
    by_left (meant old (words_in (said_names a)) t a.serial.world c) passed.0 refl passed.1.0
    (λ all_said. leads old all t cs passed.0 b passed.1.1 all_said begins)
  where
    by_left : (o : Option Command) (m : Going) → meant old (words_in (said_names a)) t a.serial.world c ≡ o → IsLeft old t o a m
        → (SaysAll m → Leads old all t cs m b) → Leads old all t (c ∷ cs) a b
    by_left None m is same later =
        none_left old all t c cs a b says is (subst (λ (g : Going). Leads old all t cs g b) same (later (subst SaysAll (sym same) says)))
    by_left (Some d) m is said later = one_left old all t c d cs a m b says is said (later (says_all old t d a m said says))
