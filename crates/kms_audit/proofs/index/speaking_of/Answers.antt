use Rattle.std.proofs.Common.{subst, sym, take, arith}
use Rattle.std.proofs.lemmas.List.{take_more}
use Rattle.kms_audit.proofs.Indices.{speaking-more}
use Rattle.kms_audit.specs.Indexed.{AreSpeaking}
use Rattle.kms_audit.proofs.index.speaking_of.Goals as goal

pub loop-line-preserved : goal.loop-line-preserved
loop-line-preserved c =
    subst (λ lines. AreSpeaking lines c.insert.new.self) (sym (take_more c.args.replies.now c.loop-line.line-index _ (omega arith)))
    (speaking-more (take c.loop-line.line-index c.args.replies.now) c.loop-line.speaking c.insert.new.self _ c.loop-line.invariant
    c.in_ok-insert.ensures.updates.0)
