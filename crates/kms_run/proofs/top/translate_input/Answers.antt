use Rattle.kms_run.proofs.Outcomes.{moved_on}
use Rattle.kms_run.proofs.top.translate_input.Goals as goal

pub returns-in-Ok-clause-moved : goal.returns-in-Ok-clause-moved
returns-in-Ok-clause-moved g c =
    let input = c.in-Ok.input.items in
    moved_on _ _ _ _ input _ c.in-Ok.ensures.taken
    (c.write_translation.ensures.put (g.S.Source.left c.read_input.new.source) input c.in-Ok.ensures.whole c.answer_legacy.ensures)
