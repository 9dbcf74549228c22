use Rattle.std.proofs.Common.{◌≡◌, None, refl, subst, sym}
use Rattle.kms_model.specs.Request.Verdict.{verdict}
use Rattle.kms_request.specs.Whole.{StandBetween}
use Rattle.kms_request.proofs.WholeLemmas.{settable_between}
use Rattle.kms_serial.specs.Device.{Device}
use Rattle.kms_serial.proofs.Checking.{accepted_early, present, present_there}
use Rattle.kms_serial.proofs.serial.Serial.spans.Goals.{After-changed-after}
use Rattle.kms_serial.proofs.serial.Serial.spans.Goals as goal

-- the states after the request
between : (c : After-changed-after) → StandBetween c.self.inside.topology c.self.inside.store c.args.request.now c.changed-after.result
between c =
    let none = subst (λ (d : Device). verdict d.topology d.world c.args.request.now ≡ None) (sym c.self.view_is) c.requires in
    c.changed-after.ensures.between c.self.inside.store
    (present c.self.invariant) (λ label. refl)
    (accepted_early c.self.inside.topology c.self.inside.store c.args.request.now none)

pub changed-after-requires : goal.changed-after-requires
changed-after-requires c = present_there c.self.invariant

pub spans-requires : goal.spans-requires
spans-requires c = settable_between c.self.inside.topology c.self.inside.store c.args.request.now c.changed-after.result
    (between ((goal.at.spans-requires c).After-changed-after))

pub returns-clause-named : goal.returns-clause-named
returns-clause-named c = rw (← c.self.view_is)
    (c.spans.ensures.named c.self.inside.topology c.self.inside.store (between ((goal.at.returns-clause-named c).After-changed-after)))

pub returns-clause-touched : goal.returns-clause-touched
returns-clause-touched c = rw (← c.self.view_is)
    (c.spans.ensures.touched c.self.inside.topology c.self.inside.store (between ((goal.at.returns-clause-touched c).After-changed-after)))
