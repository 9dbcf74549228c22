use Rattle.std.proofs.Common.{rules, ◌≡◌, Some}
use Rattle.kms_model.specs.declared.runs.Doing.TheVariants as doing
use Rattle.kms_model.specs.Machine.State.{doing_at, request_at}
use Rattle.kms_core.specs.Run.{machine}
use Rattle.kms_course.proofs.Taken.{bare_taken}
use Rattle.kms_course.proofs.single.contexts.bare_context.Goals as goal

pub returns-clause-taken : goal.returns-clause-taken
returns-clause-taken c =
    let at : request_at c.args.core.now.script (machine c.args.core.now) c.args.client ≡ Some c.in_ok-request.request = search rules in
    let taking : doing_at (machine c.args.core.now) c.args.client ≡ doing.Taking c.in-Taking.ticket = search rules in
    bare_taken c.args.core.now c.args.client c.in-Taking.ticket c.in_ok-request.request c.empty.result at taking c.empty.ensures.states
    (record { old = c.empty.ensures.old _ _ _; new = c.empty.ensures.new _ _ _ })
