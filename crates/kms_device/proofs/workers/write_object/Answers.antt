use Rattle.std.proofs.Common.{◌∙◌, arith}
use Rattle.kms_core.specs.Run.{gains}
use Rattle.kms_device.specs.Steps.{step_if}
use Rattle.kms_device.proofs.Tails.{few_index, may_be_written, write_is}
use Rattle.kms_device.proofs.workers.write_object.Goals as goal

pub of-requires : goal.of-requires
of-requires c = let few = few_index c.args.core.now c.args.commit c.args.kind c.args.index c.is_a_history.ensures.formed c.requires
    in omega (arith, few)

pub returns-clause-history : goal.returns-clause-history
returns-clause-history c =
    let few = few_index c.args.core.now c.args.commit c.args.kind c.args.index c.is_a_history.ensures.formed c.requires in
    let written = c.write.ensures.answer ∙ may_be_written c.args.core.now c.args.commit c.args.kind c.args.index few c.of.result
    c.of.ensures c.requires in
    c.write.ensures.history
    ∙ (λ i. gains c.args.core.now (step_if (written i)
    (write_is c.args.core.now c.args.commit c.args.kind c.args.index few c.of.result c.of.ensures c.requires i)))
