use Rattle.std.proofs.Common.{◌∙◌, sym}
use Rattle.kms_serial.proofs.Committing.{executes, grows_committed, refuses, stands_committed, tests, values_committed}
use Rattle.kms_model.proofs.TouchedLemmas.{few_objects}
use Rattle.kms_serial.proofs.serial.Serial.commit.Goals as goal

pub returns-in-Err-clause-executed : goal.returns-in-Err-clause-executed
returns-in-Err-clause-executed c = rw (← c.self.view_is)
    (refuses c.self.inside.topology c.self.inside.store c.args.client c.args.request.now c.in-Err.refusal c.in-Err.ensures.refused)

pub returns-then-is_test-clause-executed : goal.returns-then-is_test-clause-executed
returns-then-is_test-clause-executed c = rw (← c.self.view_is)
    (tests c.self.inside.topology c.self.inside.store c.args.client c.args.request.now c.in-Ok.ensures.accepted
    (sym c.is_test.ensures ∙ c.if-is_test.true))

pub invariant_of-self-2 : goal.invariant_of-self-2
invariant_of-self-2 c =
    rw (c.in_ok-commit.ensures.world, c.swap-self-inside.ensures.states)
    (stands_committed c.args.client
    c.self.invariant c.in-Ok.ensures.accepted (sym c.is_test.ensures ∙ c.if-is_test.false) c.in-Ok.ensures.after)

pub returns-clause-executed : goal.returns-clause-executed
returns-clause-executed c =
    rw (← c.self.view_is, c.in_ok-commit.ensures.world, c.in_ok-commit.ensures.number)
    (executes c.self.inside.topology c.self.inside.store c.args.client c.args.request.now c.in-Ok.ensures.accepted
    (sym c.is_test.ensures ∙ c.if-is_test.false))

pub returns-clause-named : goal.returns-clause-named
returns-clause-named c =
    let values = values_committed c.args.client c.args.request.now c.self.invariant.lawful
    c.in-Ok.ensures.accepted in
    rw (← c.self.view_is, c.in_ok-commit.ensures.world, values)
    (c.named_in.ensures c.self.inside.topology c.self.inside.store c.in-Ok.ensures.between)

pub returns-clause-grows : goal.returns-clause-grows
returns-clause-grows c =
    rw (← c.self.view_is, c.in_ok-commit.ensures.world)
    (grows_committed c.args.client c.args.request.now c.self.invariant.lawful
    (few_objects c.self.inside.topology c.self.invariant.device).crtcs c.in-Ok.ensures.accepted)
