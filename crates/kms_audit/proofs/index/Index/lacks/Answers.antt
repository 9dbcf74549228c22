use Rattle.std.proofs.Common.{subst, sym, take, ◌∙◌, arith}
use Rattle.std.proofs.lemmas.List.{take_all, take_more}
use Rattle.kms_audit.specs.Indexed.{LackIn}
use Rattle.kms_audit.proofs.index.Index.lacks.Goals as goal

pub loop-entry-preserved : goal.loop-entry-preserved
loop-entry-preserved c = λ r is.
    subst (λ es. LackIn r es c.note.new.self) (sym (take_more c.args.journal.now c.loop-entry.entry-index _ (omega arith)))
    (c.in_ok-note.ensures r (take c.loop-entry.entry-index c.args.journal.now) is (c.loop-entry.invariant r is))

pub returns : goal.returns
returns c = λ r is same.
    subst (λ es. LackIn r es c.loop-entry.lacking) (take_all c.loop-entry.entry-index c.args.journal.now (omega arith) ∙ sym same)
    (c.loop-entry.invariant r is)
