-- Before the client a line is one of scripts.
use Rattle.std.proofs.Common.{◌≡◌, ℕ, Bool, true, false, List, [], cond, refl}
use Rattle.kms_model.specs.Legacy.LegacyLines.{LegacyDraft, LegacyLined, followed_by, legacy_command_line, legacy_line}
use Rattle.kms_model.specs.Script.WholeInput.{Draft, script_line}

abbrev pub plain_draft : Draft → LegacyDraft
plain_draft d = record { draft = d; commands = [] }

pick : (b : Bool) (x y : LegacyLined) → b ≡ false → cond b x y ≡ y
pick true x y e = absurd cc
pick false x y e = refl

-- before the client a line is one of scripts
pub alone_line : (d : Draft) (text : List ℕ) → d.has_client ≡ false → legacy_line (plain_draft d) text ≡ followed_by [] (script_line d text)
unfolding legacy_line
alone_line d text alone = pick d.has_client (legacy_command_line (plain_draft d) text) (followed_by [] (script_line d text)) alone
