use Rattle.std.proofs.Common.{None, subst, sym}
use Rattle.kms_device.specs.Attempts.{Serves}
use Rattle.kms_device.proofs.Serving.{serves_new}
use Rattle.kms_device.proofs.attempt.Findings.new.Goals as goal

pub returns-clause-serves : goal.returns-clause-serves
returns-clause-serves c r client = subst (λ states. Serves r client (record { looks = None; states = states })) (sym c.empty.ensures.states)
    (serves_new r client)
