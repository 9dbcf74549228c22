use Rattle.std.proofs.Common.{ap, sym}
use Rattle.kms_thread_tests.proofs.pass_calls.Standing.{making_of, may_make_told, rank_told}
use Rattle.kms_thread_tests.proofs.pass_calls.calls.at_making.Goals as goal

pub returns-in_default-2 : goal.returns-in_default-2
returns-in_default-2 g c = record {
  same = (ap (λ p. p.lock) c.place-place.ensures.now, ap (λ p. p.rank) c.place-place.ensures.now);
  whose = sym (rank_told c.args.device.now.script c.in_ok-client.client c.place-place.result c.args.pass.now c.place-place.new.pass
      c.in_ok-client.ensures.whose c.place-place.ensures);
  may =
      may_make_told c.args.device.now.script c.in_ok-client.client c.place-place.result c.args.pass.now c.place-place.new.pass
      c.in_ok-client.ensures.whose c.place-place.ensures
      c.script.result.now c.script.ensures c.in_ok-command_of.field-0.now c.in_ok-command_of.ensures c.in-Idle.is
      (making_of c.in_ok-command_of.field-0.now c.in_default-2.not-Atomic c.in_default-2.not-Signal c.in_default-2.not-Wait);
}
