use Rattle.std.specs.Fmt.{decimal}
use Rattle.kms_report.proofs.ReplyWords.{before_reply}
use Rattle.kms_report.proofs.lines.reply_line.Goals as goal

pub returns : goal.returns
returns c = let a = c.args.answer.now in rw (before_reply (decimal a.place) a.reply) c.format.ensures.ok
