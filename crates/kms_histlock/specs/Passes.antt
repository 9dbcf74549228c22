use Rattle.std.specs.Prelude.{◌≡◌, ℕ, zero, suc, ◌+◌, List, [], ◌∷◌, ◌++◌, length, slice_index, Option, ◌-◌, ◌≤◌, ◌<◌}
use Rattle.std.specs.Fn.{FnOnceReturnsAtMut, Once}
use denote.Ref.{MutBor}
use Rattle.kms_histlock.specs.Rules.{GoesOnFrom, IsStart}
use Rattle.kms_histlock.specs.Seats.{Lengthens}
use Rattle.atomic_table.specs.Seated.{TableId}
use Rattle.atomic_table.specs.declared.shared.Seat.{Seat}
use Rattle.kms_histlock.specs.declared.view.View.{View}
use Rattle.kms_histlock.specs.declared.view.Stage.TheVariants.{Idle}

-- what names a lock: its table, and what of its value never changes, alone in a list
pub record LockName (X : Type 0) : Type 0 where
  pub table : TableId
  pub fixed : List X

abbrev pub lock_name : {X : Type 0} → TableId → X → LockName X
lock_name table fixed = record { table = table; fixed = fixed ∷ [] }

-- what contracts see of a pass
pub record PassState (E X : Type 0) : Type 0 where
  pub lock : LockName X
  pub rank : ℕ
  pub seen : List E
  pub made : ℕ
  pub turns : ℕ
  pub length_read : ℕ
  pub counts_read : List ℕ

abbrev pub pass_state : {T E X : Type 0} → Seat (Option T) (View E X) → PassState E X
pass_state s = record {
  lock = record { table = s.table_id; fixed = s.me.0.fixed };
  rank = s.me.0.rank;
  seen = s.me.0.seen;
  made =
      s.me.0.made;
  turns = s.me.0.turns;
  length_read = s.me.0.length;
  counts_read = s.me.0.counts;
}

-- the seat of rank 1 is the first
abbrev pub LeadsAtOne : {T E X : Type 0} → Seat (Option T) (View E X) → Type 0
LeadsAtOne s = s.me.0.rank ≡ 1 → 0 < s.me.0.top

abbrev pub IsResting : {T E X : Type 0} → Seat (Option T) (View E X) → ℕ → ℕ → Type 0
IsResting s rank seen_len = (s.me.1 ≡ []) × (s.me.0.stage ≡ Idle) × (s.me.0.parts ≡ 1) × (rank ≡ s.me.0.rank)
    × (seen_len ≡ length s.me.0.seen) × LeadsAtOne s

-- what contracts see of a lock: its name, how many passes it was made with, and what of its value never changes
pub record LockState (X : Type 0) : Type 0 where
  pub lock : LockName X
  pub seats : ℕ
  pub fixed : X

abbrev pub lock_state : {X : Type 0} → TableId → ℕ → X → LockState X
lock_state table seats fixed = record { lock = lock_name table fixed; seats = seats; fixed = fixed }

-- a pass that has done nothing yet
abbrev pub new_pass : {E X : Type 0} → LockName X → ℕ → PassState E X
new_pass lock rank = record { lock = lock; rank = rank; seen = []; made = 0; turns = 0; length_read = 0; counts_read = 0 ∷ 0 ∷ 0 ∷ 0 ∷ [] }

-- a pass that may have seen and made more: it is of the same lock, and has the same rank
abbrev pub IsSamePass : {E X : Type 0} → PassState E X → PassState E X → Type 0
IsSamePass p q = (q.lock ≡ p.lock) × (q.rank ≡ p.rank)

-- the first n passes of a lock, in the order of their ranks, which go from 1 on
abbrev pub new_passes : {E X : Type 0} → LockName X → ℕ → List (PassState E X)
new_passes lock zero = []
new_passes lock (suc n) = new_passes lock n ++ new_pass lock (n + 1) ∷ []

-- the history xs begins with what the pass has seen, and reaches the numbers that it has read
pub record IsReached {E X : Type 0} (counted : ℕ → List E → ℕ) (p : PassState E X) (xs : List E) : Type 0 where
  pub seen : IsStart p.seen xs
  pub length_read : p.length_read ≤ length xs
  pub counts_read : (k : ℕ) → k < 4 → slice_index p.counts_read k ≤ counted k xs

-- a history that the pass may find at its turn: it has all entries of the pass's rank in what the pass has seen, and reaches the numbers
-- that it has read
pub record IsFound {E X : Type 0} (owner : E → ℕ) (counted : ℕ → List E → ℕ) (p : PassState E X) (xs : List E) : Type 0 where
  pub begins : GoesOnFrom owner p.rank p.seen xs
  pub reached : IsReached counted p xs

-- a value that the pass may find at its turn: its history is one that it may find, what of it never changes is the lock's (`stays`), and it
-- is sound
pub record MayFind {T E X : Type 0} (owner : E → ℕ) (entries : T → List E) (counted : ℕ → List E → ℕ) (fixed : T → X) (sound : T → Type 0)
    (stays : X) (p : PassState E X) (x : T) : Type 0 where
  pub history : IsFound owner counted p (entries x)
  pub same : fixed x ≡ stays
  pub is_sound : sound x

-- y is what the value x may become in a turn of the rank: the history goes on by entries of nobody's or the rank's, and what never changes
-- is as it was
pub record GoesOn {T E X : Type 0} (owner : E → ℕ) (entries : T → List E) (fixed : T → X) (rank : ℕ) (x y : T) : Type 0 where
  pub longer : Lengthens owner rank (entries x) (entries y)
  pub same : fixed y ≡ fixed x

-- The pass took the turn once, and f was called at the value that was found, gave r, and left a sound value whose history
-- goes on from the one that was found. The pass has then seen the history that f left, and made what came to it.
pub record Turned {F T R E X : Type 0} (owner : E → ℕ) (entries : T → List E) (counted : ℕ → List E → ℕ) (fixed : T → X)
    (sound : T → Type 0) (stays : X) (g : Once F (MutBor T × Unit {0}) (R × (MutBor T × Unit {0}))) (f : F) (r : R)
    (before after : PassState E X) : Type 0 where
  pub found : T
  pub left : T
  pub finds : MayFind owner entries counted fixed sound stays before found
  pub called : FnOnceReturnsAtMut g f found r left
  pub now : after ≡ record before {
    seen = entries left;
    made = before.made
        + (length (entries left) - length (entries found));
    turns = before.turns + 1;
  }
  pub goes_on : GoesOn owner entries fixed before.rank found left
  pub sound_left : sound left
