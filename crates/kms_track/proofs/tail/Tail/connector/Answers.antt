use Rattle.std.proofs.Common.{◌∙◌, refl}
use Rattle.kms_track.proofs.Queries.{connector_at}
use Rattle.kms_track.proofs.tail.Tail.connector.Goals as goal

pub returns-in-Some-clause-machine : goal.returns-in-Some-clause-machine
returns-in-Some-clause-machine c = λ touched t d latches k device is. c.first_connector.ensures
    ∙ connector_at t d latches k c.args.self.now device is c.args.index _ c.in-Some.is refl
