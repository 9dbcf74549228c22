-- The text of a generated script spells it.
use Rattle.std.proofs.Common.{◌≡◌, ℕ, zero, suc, ◌+◌, ◌-◌, ◌<◌, ◌≤◌, ◌%◌, Bool, true, false, List, [], ◌∷◌, ◌++◌, length, cond, Option}
use Rattle.std.proofs.Common.{Some, Ok, append_assoc, append-nil, refl, ap, sym, ◌∙◌, codes, arith}
use Rattle.std.specs.Prelude.{◌==◌, if◌then◌else◌, option_map}
use Rattle.std.specs.List.{AllByRecursion, flat_map, list_all}
use Rattle.std.proofs.lemmas.Bool.{lt-leb}
use Rattle.std.proofs.lemmas.List.{length-append}
use Rattle.kms_model.specs.declared.scripts.Command.{Command}
use Rattle.kms_model.specs.declared.scripts.Command.TheVariants.{Wait}
use Rattle.kms_model.specs.declared.scripts.Script.{Script}
use Rattle.kms_model.specs.Script.CommandLines.{command_read, is_over}
use Rattle.kms_model.specs.Script.Generated.{Drawn, commands_for, drawn_from, flip, flips_of, generated, generated_device}
use Rattle.kms_model.specs.Script.Grammar.{is_printable}
use Rattle.kms_model.specs.Script.InputLines.{rows_of}
use Rattle.kms_model.specs.Script.Spelling.{Spells, spelt_lines}
use Rattle.kms_model.specs.Script.WellFormed.{IsWellFormed}
use Rattle.kms_model.specs.Script.WholeInput.{Draft, blank_draft, command_line, later_line, script_in, script_line}
use Rattle.kms_model.proofs.OnScripts.{on_scripts}
use Rattle.kms_script.proofs.Formed.{well_formed}
use Rattle.kms_script.proofs.RowsAgain.{first_row}
use Rattle.kms_script.proofs.GeneratedLimits.{few_flips, generated_limits, indexes_fit}
use Rattle.kms_script.proofs.GeneratedLines.{commit, flip_plain, flip_read, flip_text, names_before}

-- what the lines spell up to some command of the client that drives a CRTC
abbrev at_client : ℕ → List (List Command) → List Command → Draft
at_client crtc clients commands = record {
  head = 2;
  crtcs = 2;
  planes = generated_device.planes;
  conns = generated_device.conns;
  names = names_before crtc;
  clients = clients;
  has_client = true;
  commands = commands;
  size = 0;
}

-- a line and what it makes
line_spelt : (d next : Draft) (text rest : List ℕ) → list_all is_printable text ≡ true → script_line d text ≡ Ok next
    → spelt_lines d (rows_of (text ++ 10 ∷ rest)) ≡ spelt_lines next (rows_of rest)
line_spelt d next text rest plain e = rw (first_row text rest plain, plain, e) refl

module _ (clients : List (List Command)) where
  -- a command that says no new name
  command_done : (crtc : ℕ) (commands : List Command) (text : List ℕ) (c : Command) → length commands < 4096 → is_over c ≡ false
      → command_read (names_before crtc) text ≡ Some (c, names_before crtc)
      → command_line (at_client crtc clients commands) text ≡ Ok (at_client crtc clients (commands ++ c ∷ []))
  unfolding command_line
  command_done zero commands text c few small read = rw (read, small, lt-leb 4096 (length commands) few) refl
  command_done (suc n) commands text c few small read = rw (read, small, lt-leb 4096 (length commands) few) refl

  flip_line : (crtc : ℕ) (commands : List Command) (d : Drawn) → crtc < 2 → d.index ≤ 18446744073709551615 → length commands < 4096
      → script_line (at_client crtc clients commands) (flip_text crtc d) ≡ Ok (at_client crtc clients (commands ++ commit crtc d ∷ []))
  unfolding script_line later_line
  flip_line crtc commands d lt le few = command_done crtc commands (flip_text crtc d) (commit crtc d) few refl (flip_read crtc d lt le)

  wait_line : (crtc : ℕ) (commands : List Command) → length commands < 4096 → script_line (at_client crtc clients commands) (codes "wait")
      ≡ Ok (at_client crtc clients (commands ++ Wait ∷ []))
  unfolding script_line later_line command_read
  wait_line crtc commands few = command_done crtc commands (codes "wait") Wait few refl refl

-- the lines of a commit and of the wait for its event
abbrev flip_lines : ℕ → Drawn → List ℕ
flip_lines crtc d = flip_text crtc d ++ 10 ∷ codes "wait\n"

abbrev lines_of : ℕ → Drawn → List ℕ
lines_of crtc d = if (d.index - 1) % 2 == crtc then flip_lines crtc d else []

module _ (clients : List (List Command)) (crtc : ℕ) (lt : crtc < 2) where
  flip_spelt : (commands : List Command) (d : Drawn) (rest : List ℕ) → d.index ≤ 18446744073709551615 → length commands + 2 ≤ 4096
      → spelt_lines (at_client crtc clients commands) (rows_of (flip_lines crtc d ++ rest))
      ≡ spelt_lines (at_client crtc clients (commands ++ flip crtc d)) (rows_of rest)
  flip_spelt commands d rest le few =
      let one = commands ++ commit crtc d ∷ [] in
      let fewer : length one < 4096 = omega (arith, length-append commands (commit crtc d ∷ []), few) in
      let first = line_spelt _ (at_client crtc clients one) (flip_text crtc d) (codes "wait" ++ 10 ∷ rest) (flip_plain crtc d lt le)
      (flip_line clients crtc commands d lt le (omega (arith, few))) in
      let second = line_spelt _ (at_client crtc clients (one ++ Wait ∷ [])) (codes "wait") rest refl (wait_line clients crtc one fewer) in
      let both : one ++ Wait ∷ [] ≡ commands ++ flip crtc d = append_assoc commands (commit crtc d ∷ []) (Wait ∷ []) in
      ap (λ (bs : List ℕ). spelt_lines (at_client crtc clients commands) (rows_of bs))
      (append_assoc (flip_text crtc d) (10 ∷ codes "wait\n") rest)
      ∙ first ∙ second
      ∙ ap (λ (cs : List Command). spelt_lines (at_client crtc clients cs) (rows_of rest)) both

  -- a commit that the client does, or another's
  drawn_spelt : (mine : Bool) (commands : List Command) (d : Drawn) (rest : List ℕ) → d.index ≤ 18446744073709551615 → length commands
      + length (cond mine (flip crtc d) []) ≤ 4096
      → spelt_lines (at_client crtc clients commands) (rows_of (cond mine (flip_lines crtc d) [] ++ rest))
      ≡ spelt_lines (at_client crtc clients (commands ++ cond mine (flip crtc d) [])) (rows_of rest)
  drawn_spelt true commands d rest le few = flip_spelt commands d rest le few
  drawn_spelt false commands d rest le few = ap (λ (cs : List Command). spelt_lines (at_client crtc clients cs) (rows_of rest))
      (sym (append-nil commands))

  -- all commits
  all_spelt : (commands : List Command) (drawn : List Drawn) (rest : List ℕ) → AllByRecursion (λ d. d.index ≤ 18446744073709551615) drawn
      → length commands + length (flat_map (flips_of crtc) drawn) ≤ 4096
      → spelt_lines (at_client crtc clients commands) (rows_of (flat_map (lines_of crtc) drawn ++ rest))
      ≡ spelt_lines (at_client crtc clients (commands ++ flat_map (flips_of crtc) drawn)) (rows_of rest)
  all_spelt commands [] rest le few = ap (λ (cs : List Command). spelt_lines (at_client crtc clients cs) (rows_of rest))
      (sym (append-nil commands))
  all_spelt commands (d ∷ ds) rest le few =
      let own = flips_of crtc d in
      let later = flat_map (flips_of crtc) ds in
      let bytes = flat_map (lines_of crtc) ds in
      let sum = length-append own later in
      let more = length-append commands own in
      ap (λ (bs : List ℕ). spelt_lines (at_client crtc clients commands) (rows_of bs)) (append_assoc (lines_of crtc d) bytes rest)
      ∙ drawn_spelt ((d.index - 1) % 2 == crtc) commands d (bytes ++ rest) le.0 (omega (arith, few, sum))
      ∙ all_spelt (commands ++ own) ds rest le.1 (omega (arith, few, sum, more))
      ∙ ap (λ (cs : List Command). spelt_lines (at_client crtc clients cs) (rows_of rest)) (append_assoc commands own later)

-- The lines up to the first commit of each client

abbrev first_front : List ℕ
first_front = codes "kms 1\ncrtcs 2\nplane primary 0 XR24\nplane primary 1 XR24\nconn 0\nconn 1\n" ++ codes "client\nbuffer b1 64 64 XR24 ramp\naddfb f1 b1\nbuffer g1 64 64 XR24 solid 00204060\naddfb h1 g1\nmode m1 1000 64 64 64 64 0 64 64 64 64 0 60 0 0 gen\natomic 0x400 0 crtc0.ACTIVE=1 crtc0.MODE_ID=@m1 conn0.CRTC_ID=crtc0 plane0.FB_ID=@f1 plane0.CRTC_ID=crtc0 plane0.CRTC_W=64 plane0.CRTC_H=64 plane0.SRC_W=4194304 plane0.SRC_H=4194304\n"

abbrev second_front : List ℕ
second_front = codes "client\nbuffer b2 64 64 XR24 ramp\naddfb f2 b2\nbuffer g2 64 64 XR24 solid 00204060\naddfb h2 g2\nmode m2 1000 64 64 64 64 0 64 64 64 64 0 60 0 0 gen\natomic 0x400 0 crtc1.ACTIVE=1 crtc1.MODE_ID=@m2 conn1.CRTC_ID=crtc1 plane1.FB_ID=@f2 plane1.CRTC_ID=crtc1 plane1.CRTC_W=64 plane1.CRTC_H=64 plane1.SRC_W=4194304 plane1.SRC_H=4194304\n"

first_lit : (rest : List ℕ)
    → spelt_lines blank_draft (rows_of (first_front ++ rest)) ≡ spelt_lines (at_client 0 [] (commands_for [] 0)) (rows_of rest)
unfolding on_scripts
first_lit rest = refl

second_lit : (commands : List Command) (rest : List ℕ)
    → spelt_lines (at_client 0 [] commands) (rows_of (second_front ++ rest))
    ≡ spelt_lines (at_client 1 (commands ∷ []) (commands_for [] 1)) (rows_of rest)
unfolding on_scripts
second_lit commands rest = refl

-- The whole script

-- the lines of all commits of a client
abbrev flips_text : ℕ → ℕ → ℕ → List ℕ
flips_text crtc seed n = flat_map (lines_of crtc) (drawn_from 1 seed n)

abbrev second_text : ℕ → ℕ → List ℕ
second_text seed n = second_front ++ (flips_text 1 seed n ++ [])

abbrev pub text_of_seed : ℕ → ℕ → List ℕ
text_of_seed seed n = first_front ++ (flips_text 0 seed n ++ second_text seed n)

-- the commits of a client, behind its first commands
flips_spelt : (clients : List (List Command)) (crtc seed n : ℕ) (rest : List ℕ) → crtc < 2 → n ≤ 4000
    → spelt_lines (at_client crtc clients (commands_for [] crtc)) (rows_of (flips_text crtc seed n ++ rest))
    ≡ spelt_lines (at_client crtc clients (commands_for (drawn_from 1 seed n) crtc)) (rows_of rest)
flips_spelt clients crtc seed n rest lt le =
    all_spelt clients crtc lt (commands_for [] crtc) (drawn_from 1 seed n) rest (indexes_fit 1 seed n (omega (arith, le)))
    (omega (arith, le, few_flips crtc seed n))

pub generated_spelt : (seed n : ℕ) → n ≤ 4000 → Spells (text_of_seed seed n) (generated seed n)
unfolding rows_of
generated_spelt seed n le =
    let firsts = commands_for (drawn_from 1 seed n) 0 in
    let lines =
    first_lit (flips_text 0 seed n ++ second_text seed n)
    ∙ flips_spelt [] 0 seed n (second_text seed n) (omega arith) le
    ∙ second_lit firsts (flips_text 1 seed n ++ [])
    ∙ flips_spelt (firsts ∷ []) 1 seed n [] (omega arith) le in
    ap (λ (o : Option Draft). option_map script_in o) lines

pub generated_formed : (seed n : ℕ) → n ≤ 4000 → IsWellFormed (generated seed n)
generated_formed seed n le = well_formed (text_of_seed seed n) (generated seed n) (generated_limits seed n le) (generated_spelt seed n le)

-- what is equal to a generated script
pub is_formed : (seed n : ℕ) (s : Script) → n ≤ 4000 → s ≡ generated seed n → IsWellFormed s
is_formed seed n s le same = rw same (generated_formed seed n le)
