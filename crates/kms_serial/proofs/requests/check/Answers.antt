use Rattle.std.proofs.Common.{refl, sym}
use Rattle.kms_model.specs.Request.Verdict.{verdict}
use Rattle.kms_request.specs.Whole.{StandBetween}
use Rattle.kms_serial.proofs.Checking.{present, present_there, stands_after}
use Rattle.kms_serial.proofs.requests.check.Goals.{After-changed-after}
use Rattle.kms_serial.proofs.requests.check.Goals as goal

-- the states after the request
between : (c : After-changed-after) → StandBetween c.args.topology.now c.args.store.now c.args.request.now c.changed-after.result
between c = c.changed-after.ensures.between c.args.store.now (present c.requires)
    (λ label. refl) (sym c.in_default.ensures.first)

pub changed-after-requires : goal.changed-after-requires
changed-after-requires c = present_there c.requires

pub full_check-requires : goal.full_check-requires
full_check-requires c = record { world = c.args.store.now; between = between ((goal.at.full_check-requires c).After-changed-after) }

pub returns-in-Some-full_check-clause-refused : goal.returns-in-Some-full_check-clause-refused
unfolding verdict
returns-in-Some-full_check-clause-refused c =
    rw (sym c.in_default.ensures.first) (sym (c.in-Some-full_check.ensures c.args.store.now
    (between ((goal.at.returns-in-Some-full_check-clause-refused c).After-changed-after))))

pub returns-in-None-clause-accepted : goal.returns-in-None-clause-accepted
unfolding verdict
returns-in-None-clause-accepted c =
    rw (sym c.in_default.ensures.first) (sym (c.in-None.ensures c.args.store.now
    (between ((goal.at.returns-in-None-clause-accepted c).After-changed-after))))

pub returns-in-None-clause-between : goal.returns-in-None-clause-between
returns-in-None-clause-between c = between ((goal.at.returns-in-None-clause-between c).After-changed-after)

pub returns-in-None-clause-after : goal.returns-in-None-clause-after
returns-in-None-clause-after c = stands_after c.args.topology.now c.args.store.now c.args.request.now c.args.states.now
    c.changed-after.result c.requires c.changed-after.ensures.same (between ((goal.at.returns-in-None-clause-after c).After-changed-after))
