use Rattle.std.proofs.Common.{sym, ap}
use Rattle.std.proofs.Common.{length}
use Rattle.kms_regs.proofs.FileLemmas.{started}
use Rattle.kms_regs.proofs.file.RegFile.new.Goals as goal

pub returns : goal.returns
returns c = started c.args.topology.now (sym (ap length c.as_slice.ensures.value))
    c.first.ensures c.first-2.ensures
