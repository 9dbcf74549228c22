use Rattle.std.proofs.Common.{subst, sym, take, arith}
use Rattle.std.proofs.lemmas.List.{length-take-le, take_more}
use Rattle.kms_audit.specs.Indexed.{AreEntries}
use Rattle.kms_audit.proofs.index.entries_of.Goals as goal

pub loop-place-preserved : goal.loop-place-preserved
loop-place-preserved c =
    subst (λ es. AreEntries es c.note_entry.new.entries) (sym (take_more c.args.journal.now c.loop-place.place _ (omega arith)))
    (c.in_ok-note_entry.ensures (take c.loop-place.place c.args.journal.now)
    (length-take-le c.loop-place.place c.args.journal.now (omega arith)) c.loop-place.invariant)
