use Rattle.std.proofs.Common.{◌≡◌, ◌∙◌, true, rules, inr, sym, subst}
use Rattle.std.specs.Prelude.{◌&&◌, nat_le}
use Rattle.kms_model.specs.declared.scripts.Script.{Script}
use Rattle.kms_model.specs.Device.Objects.{first_id, index_of, kind_of}
use Rattle.kms_model.specs.Machine.Steps.{is_lockable}
use Rattle.kms_model.specs.Request.Sets.{look_in}
use Rattle.kms_thread_tests.specs.Resolving.{Resolves}
use Rattle.kms_thread_tests.proofs.pass_calls.Standing.{may_ask_told}
use Rattle.kms_thread_tests.proofs.pass_calls.locks.lock.Goals as goal

pub lock-requires-clause-may : goal.lock-requires-clause-may
lock-requires-clause-may g c =
    let fine : c.in_ok-resolves.field-0 ≡ true = search rules in
    inr (may_ask_told c.args.device.now.script c.at_request.new.pass c.lookups.new.pass c.in-Some-Taking-default.request.now
    c.in_ok-looks.looks
    c.in-Some-Taking-default.ensures.ready c.in_ok-looks.ensures c.in-Some-Taking-default.t c.args.id
    (c.in-Some-Taking-default.ensures.doing ∙ c.in-Some-Taking-default.field-0-0-is) c.in-Some-Taking-default.ensures.request
    (subst (λ (s : Script). (nat_le (first_id (kind_of c.args.id.0)) c.args.id.0
    && is_lockable s.topology (kind_of c.args.id.0) (index_of c.args.id.0)) ≡ true) c.script.ensures (sym c.if-not-has_lock.ensures))
    (sym c.if-not-sets.ensures)
    (subst (λ (s : Script). Resolves s.topology (look_in c.in_ok-looks.looks) c.in-Some-Taking-default.request.now) c.script.ensures
    (c.in_ok-resolves.ensures fine)))
