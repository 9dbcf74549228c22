use Rattle.std.proofs.Common.{◌-◌}
use Rattle.kms_core.proofs.stores.FreedIds.{tail_keeps}
use Rattle.kms_core.proofs.stores.Seeking.{ArePassed}
use Rattle.kms_core.proofs.freeing.freed.commits_keep.Given as goal

-- the commits so far are cleaned or do not keep it
abbrev pub invariant-seeking : goal.invariant-seeking
invariant-seeking l = ArePassed l.tracker (tail_keeps l.tracker l.id) l.from

abbrev pub decreases-seeking : goal.decreases-seeking
decreases-seeking l = 4294967296 - l.from
