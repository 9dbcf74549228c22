use Rattle.std.proofs.Common.{◌≡◌, ◌+◌, ◌∙◌, length, ap, arith}
use Rattle.std.specs.List.{count_by}
use Rattle.std.proofs.lemmas.List.{length-reverse}
use Rattle.kms_model.specs.Machine.Histories.{replies}
use Rattle.kms_core.specs.Run.{machine}
use Rattle.kms_run.specs.Counting.{tells}
use Rattle.kms_run.proofs.Counted.{counted_more}
use Rattle.kms_run.proofs.generated.count_events_read.Goals as goal

pub loop-client-preserved : goal.loop-client-preserved
loop-client-preserved c =
    let run = c.args.core.now in
    let m = machine run in
    let client = c.loop-client.client in
    let told = c.count_events_told-count.ensures in
    let formed = c.is_a_history.ensures.formed in
    let history = c.is_a_history.ensures.history in
    let exact : c.count_events_told-count.result ≡ count_by (tells (client + 1)) (replies m) = told.exact
    ∙ ap (count_by (tells (client + 1))) c.replies.ensures in
    let fit = (c.numbers_fit_their_types.ensures run.script run.steps formed history).replies in
    let all : length c.replies.result.now ≡ length m.records.replies = ap length c.replies.ensures ∙ length-reverse m.records.replies in
    let within = told.within in
    let few = c.loop-client.invariant.few in
    record {
      counted = counted_more m client c.loop-client.count c.count_events_told-count.result exact
          (c.events_read_are_replies.ensures run.script run.steps formed history (client + 1)) c.loop-client.invariant.counted;
      few = omega (arith, fit, all, within, few);
    }
