use Rattle.std.proofs.Common.{◌≡◌, ◌+◌, ◌≤◌, ℕ, false, Some, List, [], ◌∷◌, ◌++◌, length, length-append, ap, refl, sym, ◌∙◌, arith, rules}
use Rattle.std.specs.Prelude.{◌||◌, nat_le, nat_lt}
use Rattle.std.proofs.lemmas.Bool.Decides.{nat_tests}
use Rattle.kms_model.specs.declared.legacy.LegacyCommand.{LegacyCommand}
use Rattle.kms_model.specs.Legacy.LegacyCalls.{legacy_command_read}
use Rattle.kms_legacy.proofs.LegacyWalk.{line_stays}
use Rattle.kms_legacy.proofs.reading.Lines.command_line.Goals as goal

not_full : (n made : ℕ) → (nat_le 4096 n || nat_lt 4096 made) ≡ false → n + 1 ≤ 4096
not_full n made e = grind (arith, nat_tests)

few_more : (xs ys : List LegacyCommand) (c : LegacyCommand) (made : ℕ) → ys ≡ xs ++ c ∷ []
    → (nat_le 4096 (length xs) || nat_lt 4096 made) ≡ false → length ys ≤ 4096
few_more xs ys c made is e = omega (arith, ap length is, length-append xs (c ∷ []), not_full (length xs) made e)

pub returns-clause-keeps : goal.returns-clause-keeps
returns-clause-keeps c =
    let read : legacy_command_read c.args.self.now.topology c.args.self.now.names.names c.args.text.now ≡ Some
    (c.in-Some.command, c.legacy_command_of.new.names.names) = search rules in
    record {
      topology = refl;
      profile =
          line_stays c.args.self.now.topology c.args.self.now.names.names c.args.text.now c.in-Some.command
          c.legacy_command_of.new.names.names read;
      size = refl;
      few =
          few_more c.args.self.now.commands c.push.new.self c.in-Some.command _ c.in_ok-push.ensures.ok
          (sym c.is_full.ensures ∙ c.if-is_full.false);
      names = c.in_ok-read.ensures.grows;
      once = sym c.is_twice.ensures ∙ c.if-is_twice.false;
    }
