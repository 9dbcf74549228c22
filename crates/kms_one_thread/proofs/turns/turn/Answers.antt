use Rattle.std.proofs.Common.{sym}
use Rattle.std.proofs.lemmas.Result.{on_ok_weaker}
use Rattle.kms_one_thread.proofs.Turned.{at_end, turned}
use Rattle.kms_one_thread.proofs.turns.turn.Goals as goal

pub returns-then-is_at_end-clause-turn : goal.returns-then-is_at_end-clause-turn
returns-then-is_at_end-clause-turn c = at_end c.args.core.now c.args.client (sym c.if-is_at_end.ensures)

pub returns-clause-turn : goal.returns-clause-turn
returns-clause-turn c =
    on_ok_weaker c.go_back.result
    (λ back. turned c.args.core.now c.go.new.core c.settle.new.core c.go_back.new.core c.args.client (sym c.if-is_at_end.ensures)
    c.go.ensures.on.script c.settle.ensures.on.script c.in_ok-go.ensures.gone c.settle.ensures.settled back)
    c.go_back.ensures.back
