use Rattle.std.proofs.Common.{Some, ap, arith, sym, ◌∙◌}
use Rattle.kms_audit.proofs.NextEvents.{next-here, next-none, next-step}
use Rattle.kms_audit.specs.declared.events.Reader.{Reader}
use Rattle.kms_audit.proofs.events.Reader.next_event.Goals as goal

pub returns-in-loop-place : goal.returns-in-loop-place
returns-in-loop-place c =
    ap (λ (reader : Reader). Some (c.in-Some.event, reader)) c.behind.ensures
    ∙ (next-here c.args.replies.now c.args.self.client c.args.self.block.end c.loop-place.place _
    (omega arith) c.requires.within c.in-Some.event
    (sym c.in-Some.ensures)
    ∙ c.loop-place.invariant)

pub loop-place-preserved : goal.loop-place-preserved
loop-place-preserved c =
    next-step c.args.replies.now c.args.self.client c.args.self.block.end c.loop-place.place _ (omega arith) c.requires.within
    (sym c.in_default.ensures)
    ∙ c.loop-place.invariant

pub returns : goal.returns
returns c = next-none c.args.replies.now c.args.self.client c.args.self.block.end c.loop-place.place (omega arith) ∙ c.loop-place.invariant
