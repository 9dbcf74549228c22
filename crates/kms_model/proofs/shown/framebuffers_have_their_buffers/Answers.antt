use Rattle.kms_model.proofs.FramedLemmas.{execution_keeps_framed}
use Rattle.kms_model.proofs.shown.framebuffers_have_their_buffers.Goals as goal

pub returns-clause-kept : goal.returns-clause-kept
returns-clause-kept c = λ t w client command lawful framed. execution_keeps_framed t w client command lawful.numbered.things framed
