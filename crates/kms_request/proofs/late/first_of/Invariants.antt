use Rattle.std.proofs.Common.{◌≡◌}
use Rattle.std.specs.List.{range_with_len}
use Rattle.kms_model.specs.Firsts.{first_some}
use Rattle.kms_request.specs.Order.{count_of_step, refusal_at}
use Rattle.kms_request.proofs.IndexLemmas.{first_from}
use Rattle.kms_request.proofs.late.first_of.Given as goal

abbrev pub invariant-loop-index : goal.invariant-loop-index
invariant-loop-index l = first_from (refusal_at l.topology l.states l.objects l.asked l.step) l.index (count_of_step l.topology l.step)
    ≡ first_some (refusal_at l.topology l.states l.objects l.asked l.step) (range_with_len 0 (count_of_step l.topology l.step))
