use Rattle.std.proofs.Common.{sym}
use Rattle.kms_one_thread.proofs.Turned.{goes_back}
use Rattle.kms_one_thread.proofs.turns.go_back.Goals as goal

pub returns-in_ok-apply-clause-back : goal.returns-in_ok-apply-clause-back
returns-in_ok-apply-clause-back c = goes_back c.args.core.now c.apply.new.self c.args.client (sym c.if-legal.ensures)
    c.in_ok-apply.ensures.history
