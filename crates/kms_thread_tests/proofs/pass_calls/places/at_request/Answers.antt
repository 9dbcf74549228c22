use Rattle.std.proofs.Common.{ap}
use Rattle.kms_model.proofs.CommitFacts.{returning_not}
use Rattle.kms_thread_tests.proofs.pass_calls.Standing.{doing_told, ready_told, request_told}
use Rattle.kms_thread_tests.proofs.pass_calls.places.at_request.Goals as goal

pub returns : goal.returns
returns g c = record {
  same = (ap (λ p. p.lock) c.place-place.ensures.now, ap (λ p. p.rank) c.place-place.ensures.now);
  ready =
      ready_told c.args.device.now.script c.in_ok-client.client c.place-place.result c.args.pass.now c.place-place.new.pass
      c.in_ok-client.ensures.whose c.place-place.ensures
      c.script.result.now c.script.ensures c.in_ok-request.request.now c.in_ok-request.ensures
      (returning_not c.place-place.result.doing c.in_default.not-Returning);
  doing = doing_told c.args.device.now.script c.in_ok-client.client c.place-place.result c.args.pass.now c.place-place.new.pass
      c.in_ok-client.ensures.whose c.place-place.ensures;
  request =
      request_told c.args.device.now.script c.in_ok-client.client c.place-place.result c.args.pass.now c.place-place.new.pass
      c.in_ok-client.ensures.whose c.place-place.ensures
      c.script.result.now c.script.ensures c.in_ok-request.request.now c.in_ok-request.ensures;
}
