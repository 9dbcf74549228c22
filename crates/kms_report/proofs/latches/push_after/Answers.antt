use Rattle.std.proofs.Common.{sym}
use Rattle.std.proofs.lemmas.List.{append-nil}
use Rattle.kms_report.proofs.latches.push_after.Goals as goal

pub loop-place-init : goal.loop-place-init
loop-place-init g c = record { told = sym (append-nil c.args.text.now.items); stands = c.requires.screen }
