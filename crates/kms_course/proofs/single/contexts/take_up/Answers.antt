use Rattle.std.proofs.Common.{rules, ◌≡◌, Some}
use Rattle.kms_core.specs.Locks.{held_state}
use Rattle.kms_course.proofs.Taken.{with_held}
use Rattle.kms_course.proofs.single.contexts.take_up.Goals as goal

pub returns-clause-taken : goal.returns-clause-taken
returns-clause-taken c =
    let is : Some c.in-Some.state ≡ held_state c.args.core.now c.args.context.now.client c.args.id = search rules in
    with_held c.args.core.now c.args.context.now c.args.id c.in-Some.state is c.duplicate.new.self
    (record { there = c.duplicate.ensures.there; old = c.duplicate.ensures.old; new = c.duplicate.ensures.new }) c.requires
