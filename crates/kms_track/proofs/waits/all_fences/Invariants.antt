use Rattle.std.proofs.Common.{◌≡◌, ℕ, ◌<◌, ◌≤◌, get_or, length, Some, None}
use Rattle.kms_model.specs.declared.objects.ObjId.{ObjId}
use Rattle.kms_track.proofs.waits.all_fences.Given as goal

abbrev pub invariant-loop-i : goal.invariant-loop-i
invariant-loop-i l = record {
  size : length l.fences ≡ 16;
  here : (k : ℕ) (d : ObjId × ℕ) → k < l.i → get_or l.fences k None ≡ Some (get_or l.in_fences k d).1;
  behind : (k : ℕ) → l.i ≤ k → get_or l.fences k None ≡ None;
}
