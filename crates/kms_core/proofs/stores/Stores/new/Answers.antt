use Rattle.std.proofs.Common.{◌∙◌, ap, replicate}
use Rattle.kms_signal.specs.Queues.{empty_queue}
use Rattle.kms_core.proofs.stores.First.{spared_first, stands_first}
use Rattle.kms_core.proofs.stores.Stores.new.Goals as goal

pub invariant_of-result : goal.invariant_of-result
invariant_of-result c =
    rw (
      c.new.ensures,
      c.new-3.ensures,
      c.new-4.ensures,
      c.new-5.ensures,
      c.new-6.ensures,
      c.new-7.ensures,
      c.new-8.ensures,
      c.new-9.ensures,
    )
    (record {
      stands =
          stands_first c.new-registers.result
          c.requires (c.new-2.ensures.stands c.args.script.topology) c.start_states-present.ensures.present
          (c.in_ok-queues.ensures ∙ ap (λ n. replicate n empty_queue) c.len.ensures) c.new-registers.ensures;
      spare = spared_first c.args.script;
    })
