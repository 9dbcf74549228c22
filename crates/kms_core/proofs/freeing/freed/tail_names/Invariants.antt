use Rattle.std.proofs.Common.{◌≡◌, ◌-◌}
use Rattle.kms_model.specs.Machine.Commits.{has_number}
use Rattle.kms_core.specs.KeptFramebuffers.{all_ids, tail_ids}
use Rattle.kms_core.proofs.freeing.freed.tail_names.Given as goal

-- the states of the rest name it where those of all do
abbrev pub invariant-loop-index : goal.invariant-loop-index
invariant-loop-index l = has_number (tail_ids l.tail l.index (16 - l.index)) l.id ≡ has_number (all_ids l.tail) l.id
