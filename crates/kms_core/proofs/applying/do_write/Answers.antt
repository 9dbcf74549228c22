use Rattle.std.proofs.Common.{◌∙◌, ap}
use Rattle.kms_core.specs.Run.{gains}
use Rattle.kms_core.proofs.Applied.{few_now, write_done, write_index, write_named, written_named}
use Rattle.kms_core.proofs.applying.do_write.Goals as goal

pub of-requires : goal.of-requires
of-requires c = write_index c.args.core.now
    (few_now c.args.core.now c.is_a_history.ensures.formed) c.args.commit c.args.kind c.args.index c.requires

pub write-requires : goal.write-requires
write-requires c = write_named c.args.core.now c.args.commit c.args.kind c.args.index c.of.result c.requires
    (written_named c.args.core.now
    (few_now c.args.core.now c.is_a_history.ensures.formed) c.args.commit c.args.kind c.args.index
    c.of.result c.requires c.of.ensures)

pub returns : goal.returns
returns c =
    record {
      history = c.write.ensures.history ∙ ap (λ xs. gains c.args.core.now xs)
          (write_done c.args.core.now c.args.commit c.args.kind c.args.index c.of.result
          (written_named c.args.core.now
          (few_now c.args.core.now c.is_a_history.ensures.formed) c.args.commit c.args.kind c.args.index c.of.result
          c.requires c.of.ensures));
    }
