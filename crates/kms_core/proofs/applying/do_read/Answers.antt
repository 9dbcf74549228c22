use Rattle.std.proofs.Common.{◌∙◌, ap}
use Rattle.kms_core.specs.Run.{gains}
use Rattle.kms_core.proofs.Applied.{read_asked, read_done}
use Rattle.kms_core.proofs.applying.do_read.Goals as goal

pub read-requires : goal.read-requires
read-requires c = read_asked c.args.core.now c.args.client c.requires

pub returns : goal.returns
returns c = record {
  history = c.in_ok-_reply.ensures.history
      ∙ ap (gains c.args.core.now) (read_done c.args.core.now c.args.client c.in_ok-_reply._reply c.requires c.in_ok-_reply.ensures.reply);
}
