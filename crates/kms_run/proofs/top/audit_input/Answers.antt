use Rattle.std.proofs.Common.{subst}
use Rattle.kms_run.specs.Auditing.{SaysOf}
use Rattle.kms_run.proofs.Outcomes.{moved_on}
use Rattle.kms_run.proofs.top.audit_input.Goals as goal

pub returns-in-Ok-clause-moved : goal.returns-in-Ok-clause-moved
returns-in-Ok-clause-moved g c =
    let input = c.in-Ok.input.items in
    let says = subst (λ bytes. SaysOf bytes c.answer_audit.result) c.deref.ensures.value c.answer_audit.ensures in
    moved_on _ _ _ _ input _ c.in-Ok.ensures.taken
    (c.write_yes.ensures.put (g.S.Source.left c.read_input.new.source) input c.in-Ok.ensures.whole says)
