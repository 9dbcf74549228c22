-- A script with older calls has at most one translation. What a line leaves depends on the lines before it alone, so that two
-- translations say the same texts; and texts say their names.
use Rattle.std.proofs.Common.{◌≡◌, ℕ, List, [], ◌∷◌, ◌++◌, length, Option, Some, None, sym, ap, subst, ◌∙◌}
use Rattle.std.proofs.lemmas.List.{append_cancel_right}
use Rattle.kms_model.specs.declared.legacy.LegacyCommand.{LegacyCommand}
use Rattle.kms_model.specs.declared.objects.Topology.{Topology}
use Rattle.kms_model.specs.declared.scripts.Command.{Command}
use Rattle.kms_model.specs.declared.scripts.Script.{Script}
use Rattle.kms_model.specs.declared.worlds.World.{World}
use Rattle.kms_model.specs.Device.Execution.{execute}
use Rattle.kms_model.specs.Device.World.{start}
use Rattle.kms_model.specs.Legacy.Translated.{AreTranslated, OneTranslation, SaysSame, lone_commands, meant}
use Rattle.kms_model.specs.Report.TextLines.{line}
use Rattle.kms_model.specs.Script.CommandLines.{Names, command_read, unmade, words_in}
use Rattle.kms_model.specs.Script.Spelling.{command_words}
use Rattle.kms_model.specs.Script.WholeInput.{clients_of}
use Rattle.kms_script.proofs.NamesBegin.{Begins}
use Rattle.kms_script.proofs.SpeltCommands.{command_spelt, names_begin}
use Rattle.kms_legacy.proofs.LabelsBelow.{AreBelow}
use Rattle.kms_legacy.proofs.LinesAnew.{command_of_both, own_names, read_as}
use Rattle.kms_legacy.proofs.LinesLed.{Follows, meant_same, read_below}
use Rattle.kms_legacy.proofs.NewText.{after_of_both}
use Rattle.kms_legacy.proofs.OneClient.{AreSpoken, IsCommandLine, lone_script}

-- names before lines are a front of all names
spoken_begins : (cs : List Command) (names last : Names) → AreSpoken names cs last → Begins names (words_in last)
spoken_begins [] names last are = subst (λ (n : Names). Begins n (words_in last)) are (own_names last)
spoken_begins (c ∷ cs) names last are =
    names_begin (words_in last) names are.0 are.1.0.text c are.1.0.read (spoken_begins cs are.0 last are.1.1)

-- what is read of a line of these words
spoken_words : (c : Command) (cs : List Command) (names after last : Names) (l : IsCommandLine names c after) → AreSpoken after cs last
    → line (command_words (words_in last) c) ≡ l.text ++ 10 ∷ []
spoken_words c cs names after last l are =
    command_spelt (words_in last) names after l.text c l.read (spoken_begins cs after last are)

-- two lines that say one command are one text
one_text : (old all every : List (List ℕ)) (left c d : Command) (text other : List ℕ) → SaysSame old all left c → SaysSame old every left d
    → line (command_words all c) ≡ text ++ 10 ∷ [] → line (command_words every d) ≡ other ++ 10 ∷ [] → text ≡ other
one_text old all every left c d text other here there one two =
    append_cancel_right text other (10 ∷ []) (sym one ∙ (ap line (sym here ∙ there) ∙ two))

-- Lines

-- the same lines, and the same names behind them
record AreOne (xs ys : List Command) (a b : Names) : Type 0 where
  lines : xs ≡ ys
  names : a ≡ b

-- translations of commands behind the same names are one
abbrev Agrees : List (List ℕ) → Topology → List LegacyCommand → Names → Names → Type 0
Agrees old t cs a b = (w : World) (names : Names) (xs ys : List Command) → AreBelow (length names.all) w.things
    → AreSpoken names xs a → AreSpoken names ys b
    → AreTranslated old (words_in a) t w cs xs → AreTranslated old (words_in b) t w cs ys → AreOne xs ys a b

one_more : (c d : Command) (xs ys : List Command) (a b : Names) → c ≡ d → AreOne xs ys a b → AreOne (c ∷ xs) (d ∷ ys) a b
one_more c d xs ys a b same one = record {
  lines = ap (λ (x : Command). x ∷ xs) same ∙ ap (λ (more : List Command). d ∷ more) one.lines;
  names = one.names;
}

module _ (old : List (List ℕ)) (t : Topology) (cs : List LegacyCommand) (a b : Names) (later : Agrees old t cs a b)
    (w : World) (names : Names) (below : AreBelow (length names.all) w.things) where
  one_line_more : (left x y : Command) (xs ys : List Command) → AreSpoken names (x ∷ xs) a → AreSpoken names (y ∷ ys) b
      → Follows old (words_in a) t w cs (x ∷ xs) (Some left) → Follows old (words_in b) t w cs (y ∷ ys) (Some left)
      → AreOne (x ∷ xs) (y ∷ ys) a b
  one_line_more left x y xs ys one two here there =
      let text : one.1.0.text ≡ two.1.0.text =
      one_text old (words_in a) (words_in b) left x y one.1.0.text two.1.0.text here.0 there.0
      (spoken_words x xs names one.0 a one.1.0 one.1.1) (spoken_words y ys names two.0 b two.1.0 two.1.1) in
      let read : read_as x one.0 ≡ read_as y two.0 = sym one.1.0.read ∙ (ap (command_read names) text ∙ two.1.0.read) in
      let same : x ≡ y = command_of_both x y one.0 two.0 read in
      let after : one.0 ≡ two.0 = after_of_both x y one.0 two.0 read in
      one_more x y xs ys a b same
      (later (execute t w 1 x).world one.0 xs ys (read_below t w names one.0 one.1.0.text x one.1.0.read below) one.1.1
      (subst (λ (n : Names). AreSpoken n ys b) (sym after) two.1.1) here.1
      (subst (λ (c : Command). AreTranslated old (words_in b) t (execute t w 1 c).world cs ys) (sym same) there.1))

  by_left : (left : Option Command) (xs ys : List Command) → AreSpoken names xs a → AreSpoken names ys b
      → Follows old (words_in a) t w cs xs left → Follows old (words_in b) t w cs ys left → AreOne xs ys a b
  by_left None xs ys one two here there = later w names xs ys below one two here.1 there.1
  by_left (Some left) [] ys one two here there = absurd here.0
  by_left (Some left) (x ∷ xs) [] one two here there = absurd there.0
  by_left (Some left) (x ∷ xs) (y ∷ ys) one two here there = one_line_more left x y xs ys one two here there

agrees : (old : List (List ℕ)) (t : Topology) (cs : List LegacyCommand) (a b : Names) → Agrees old t cs a b
agrees old t [] a b w names xs ys below one two here there =
    let first : a ≡ names = subst (λ (ds : List Command). AreSpoken names ds a) here one in
    let second : b ≡ names = subst (λ (ds : List Command). AreSpoken names ds b) there two in
    record { lines = here ∙ sym there; names = first ∙ sym second }
agrees old t (c ∷ cs) a b w names xs ys below one two here there =
    let first = meant_same old (words_in a) t names w c below (spoken_begins xs names a one) in
    let second = meant_same old (words_in b) t names w c below (spoken_begins ys names b two) in
    by_left old t cs a b (agrees old t cs a b) w names below (meant old (words_in names) t w c) xs ys one two
    (subst (λ (o : Option Command). Follows old (words_in a) t w cs xs o) (sym first) here)
    (subst (λ (o : Option Command). Follows old (words_in b) t w cs ys o) (sym second) there)

-- Scripts

script_is : (a b : Script) → a.version ≡ b.version → a.topology ≡ b.topology → a.names ≡ b.names → a.clients ≡ b.clients → a ≡ b
script_is a b version topology names clients =
    ap (λ v. record a { version = v }) version
    ∙ (ap (λ (t : Topology). record a { version = b.version; topology = t }) topology
    ∙ (ap (λ (ws : List (List ℕ)). record a { version = b.version; topology = b.topology; names = ws }) names
    ∙ ap (λ (cs : List (List Command)). record b { clients = cs }) clients))

pub one_translation : OneTranslation
one_translation s out other one two =
    let old : List (List ℕ) = s.base.names in
    let t : Topology = s.base.topology in
    let xs : List Command = lone_commands out.clients in
    let ys : List Command = lone_commands other.clients in
    let first = lone_script one.well_formed.bytes out s.client one.well_formed.spells one.clients in
    let second = lone_script two.well_formed.bytes other s.client two.well_formed.spells two.clients in
    let same = agrees old t s.commands first.last second.last (start t) (unmade t.profile []) xs ys tt
    (subst (λ (u : Topology). AreSpoken (unmade u.profile []) xs first.last) one.topology first.are)
    (subst (λ (u : Topology). AreSpoken (unmade u.profile []) ys second.last) two.topology second.are)
    (subst (λ (ws : List (List ℕ)). AreTranslated old ws t (start t) s.commands xs) (sym first.words) one.lines)
    (subst (λ (ws : List (List ℕ)). AreTranslated old ws t (start t) s.commands ys) (sym second.words) two.lines) in
    script_is out other (one.version ∙ sym two.version) (one.topology ∙ sym two.topology)
    (sym first.words ∙ (ap words_in same.names ∙ second.words)) (one.clients ∙ (ap (clients_of s.client) same.lines ∙ sym two.clients))
