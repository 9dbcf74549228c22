use Rattle.std.proofs.Common.{ap, cond, sym, ◌∙◌, Some}
use Rattle.std.specs.BTreeMap as tree
use Rattle.std.specs.BTreeMap.{is_at}
use Rattle.kms_audit.proofs.Indices.{entries-more}
use Rattle.kms_audit.specs.Indexed.{pair_cmp}
use Rattle.kms_audit.proofs.index.note_entry.Goals as goal
use Rattle.kms_laws.proofs.ClientProgress.{not-none}

pub returns : goal.returns
returns c = λ journal size are.
    entries-more journal c.args.entries.now c.insert.new.self c.args.entry are
    (λ q. c.in_ok-insert.ensures.updates.0 q
    ∙ ap (λ n. cond (is_at (pair_cmp c.args.entry) q) (Some n) (tree.get pair_cmp c.args.entries.now q)) (sym size))
    (not-none (tree.get pair_cmp c.args.entries.now c.args.entry) (sym c.contains_key.ensures ∙ c.if-contains_key.false))
