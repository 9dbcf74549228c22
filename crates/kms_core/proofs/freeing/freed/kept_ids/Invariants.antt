use Rattle.std.proofs.Common.{◌≡◌, ◌≤◌, ◌-◌, ◌*◌, []}
use Rattle.arrayvec.specs.ArrayVec.{array_vec_len}
use Rattle.kms_core.specs.Freeing.{put_ids}
use Rattle.kms_core.specs.KeptFramebuffers.{all_ids, tail_ids}
use Rattle.kms_core.proofs.freeing.freed.kept_ids.Given as goal

-- the rest put to those so far are all
abbrev pub invariant-loop-index : goal.invariant-loop-index
invariant-loop-index l = record {
  so_far : put_ids (tail_ids l.tail l.index (16 - l.index)) l.ids.items ≡ put_ids (all_ids l.tail) [];
  few : array_vec_len l.ids ≤ 2 * l.index;
}
