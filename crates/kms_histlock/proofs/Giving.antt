-- From the taking of the turn to its giving back, and from the passes to the seat that stands for all.
use Rattle.std.proofs.Common.{◌≡◌, ℕ, zero, suc, ◌+◌, ◌-◌, ◌≤◌, ◌<◌, List, [], ◌∷◌, ◌++◌, length, get_or, set, sym, ap, ◌∙◌, subst, refl}
use Rattle.std.proofs.Common.{arith, Option, length-set, get_or-set_other, get_or-set_same}
use Rattle.std.proofs.lemmas.List.Elements.{All-head, All-tail}
use mathlib.Core.Logic.{dite}
use Rattle.kms_model.proofs.Facts.{only_item}
use native.Mathlib.Decide.{ℕ_discrete}
use Rattle.kms_histlock.specs.declared.view.View.{View}
use Rattle.kms_histlock.specs.declared.view.ServedTurn.{ServedTurn}
use Rattle.kms_histlock.specs.Rules.{Fits, IsStart}
use Rattle.kms_histlock.specs.Steps.{Sat, lengthened, recounted, merged, Finds}
use Rattle.kms_histlock.specs.Seats.{Lengthens, served, HasTurn, MayGiveTurn, Recounts, gave, HasAllSeen}
use Rattle.kms_histlock.specs.Passes.{PassState, pass_state, IsReached, IsFound, MayFind, GoesOn, LockState}
use Rattle.atomic_table.specs.Seated.{TableId}
use Rattle.atomic_table.specs.declared.shared.Seat.{Seat}

module _ {T E X : Type 0} (owner : E → ℕ) (entries : T → List E) (counted : ℕ → List E → ℕ) (fixed : T → X)
    (grows : (k : ℕ) (xs ys : List E) → counted k xs ≤ counted k (xs ++ ys)) where
  pub may_give : (m m' : Sat T E X) (t y : T) (found : ℕ) → HasTurn owner entries counted fixed m t m' → found ≡ length (entries t)
      → GoesOn owner entries fixed m.0.rank t y → MayGiveTurn owner entries counted fixed found y m'
  may_give m m' t y found took is goes =
      let q = took.0 in let log = took.2.fits.0 in let longer = goes.longer in record {
        turn = q;
        serves = ap (λ z. z.0.stage) took.1;
        out = ap (λ z. z.1) took.1;
        four = took.2.four;
        less = λ k l. let a = took.2.fits.1 k l in let b = grows k q.log longer.0
            in let c = ap (counted k) (longer.1 ∙ ap (λ xs. xs ++ longer.0) log) in omega arith;
        longer = subst (λ (z : ℕ × List E). Lengthens owner z.0 z.1 (entries y)) (λ i. (sym (ap (λ z. z.0.rank) took.1) i, log i)) longer;
        found_is = is ∙ ap length log;
        same = ap (λ z. z.0.fixed) took.1 ∙ (took.2.same ∙ ap (λ x. x ∷ []) (sym goes.same));
      }

  pub recounts_first : (found : ℕ) (y : T) (m m' : Sat T E X) (counts : List ℕ) (may : MayGiveTurn owner entries counted fixed found y m)
      → m' ≡ (lengthened (entries y) m.0 may.turn, m.1) → ((k : ℕ) → k < 4 → get_or counts k 0 ≡ counted k (entries y))
      → Recounts counted counts 0 m'
  recounts_first found y m m' counts may is right = subst (Recounts counted counts 0) (sym is) record {
    turn = record may.turn { log = entries y; stored = 0 };
    serves = refl;
    seen = refl;
    stored = refl;
    right = right;
    done = λ k l. absurd (omega arith);
    less = may.less;
    four = may.four;
  }

pub recounts_next : {T E X : Type 0} (counted : ℕ → List E → ℕ) (counts : List ℕ) (k : ℕ) (m m' : Sat T E X)
    (r : Recounts counted counts k m) → k < 4 → m' ≡ (recounted k (get_or counts k 0) m.0 r.turn, m.1) → Recounts counted counts (k + 1) m'
recounts_next {T} {E} {X} counted counts k m m' r small is =
    let q = r.turn in let n : ℕ = get_or counts k 0 in let four = r.four in
    let same = get_or-set_same q.counts k n 0 (omega arith) in
    let here : (j : ℕ) → j ≡ k → get_or (set q.counts k n) j 0
    ≡ counted j q.log = λ j e. ap (λ i. get_or (set q.counts k n) i 0) e ∙
    (same ∙ (r.right k small ∙ ap (λ i. counted i q.log) (sym e))) in
    subst (Recounts counted counts (k + 1)) (sym is) record {
      turn = record q { counts = set q.counts k n; stored = k + 1 };
      serves = refl;
      seen = r.seen;
      stored = refl;
      right = r.right;
      done = λ j l. dite (ℕ_discrete j k) (here j) (λ ne. get_or-set_other q.counts k j n 0 ne ∙ r.done j (omega arith));
      less = λ j l. dite (ℕ_discrete j k) (λ e. let h = here j e in omega arith)
          (λ ne. let a = get_or-set_other q.counts k j n 0 ne in let b = r.less j l in omega arith);
      four = length-set q.counts k n ∙ r.four;
    }

pub recounts_fits : {T E X : Type 0} (entries : T → List E) (counted : ℕ → List E → ℕ) (counts : List ℕ) (m : Sat T E X) (y : T)
    (r : Recounts counted counts 4 m) → m.0.seen ≡ entries y → Fits entries counted r.turn.log r.turn.counts y
recounts_fits entries counted counts m y r seen = (sym seen ∙ r.seen, r.done)

module _ {E X : Type 0} (counted : ℕ → List E → ℕ) where
  -- a history that covers the seat after a join covers both, and reaches the pass of the one that was joined
  pub covers_both : (v w : View E X) (xs : List E) → HasAllSeen counted (merged v w) xs → HasAllSeen counted v xs × IsStart w.seen xs
      × (w.length ≤ length xs) × ((k : ℕ) → k < 4 → get_or w.counts k 0 ≤ counted k xs)
  covers_both v w xs c = (
    record {
      seen = c.seen;
      joined = All-tail (λ ys. IsStart ys xs) w.seen v.joined c.joined;
      length_read = let a = c.length_read in omega arith;
      counts_read = λ k l. (each k l).0;
    },
    All-head (λ ys. IsStart ys xs) w.seen v.joined c.joined,
    (let a = c.length_read in omega arith),
    λ k l. (each k l).1,
  )
    where
      each : (k : ℕ) → k < 4 → (get_or v.counts k 0 ≤ counted k xs) × (get_or w.counts k 0 ≤ counted k xs)
      each zero l = let a = c.counts_read 0 l in (omega arith, omega arith)
      each (suc zero) l = let a = c.counts_read 1 l in (omega arith, omega arith)
      each (suc (suc zero)) l = let a = c.counts_read 2 l in (omega arith, omega arith)
      each (suc (suc (suc zero))) l = let a = c.counts_read 3 l in (omega arith, omega arith)
      each (suc (suc (suc (suc k)))) l = absurd (omega arith)

-- the value that a seat finds has a history that its pass may find
pub found_at : {T E X : Type 0} (owner : E → ℕ) (entries : T → List E) (counted : ℕ → List E → ℕ) (fixed : T → X)
    (s : Seat (Option T) (View E X)) (q : ServedTurn E) (t : T) (p : PassState E X) → Finds owner entries counted fixed s.me q t
    → pass_state s ≡ p
    → IsFound owner counted p (entries t)
found_at owner entries counted fixed s q t p f is = subst (λ (z : PassState _ _ × List _). IsFound owner counted z.0 z.1)
    (λ i. (is i, sym f.fits.0 i)) record {
      begins = f.begins;
      reached = record {
        seen = (f.begins.0, f.begins.1);
        length_read = f.length_read;
        counts_read = λ k l. let a = f.counts_read k l in let b = f.fits.1 k l in let c = ap (counted k) f.fits.0 in omega arith;
      };
    }

-- a value that a seat finds, and of which what holds of each value was shown, is one that its pass may find
pub may_find : {T E X : Type 0} (owner : E → ℕ) (entries : T → List E) (counted : ℕ → List E → ℕ) (fixed : T → X) (sound : T → Type 0)
    (s : Seat (Option T) (View E X)) (q : ServedTurn E) (t : T) (p : PassState E X) (l l' : LockState X)
    → Finds owner entries counted fixed s.me q t → pass_state s ≡ p → p.lock ≡ l.lock → l' ≡ l → l'.lock.fixed ≡ l'.fixed ∷ [] → sound t
    → MayFind owner entries counted fixed sound l.fixed p t
may_find owner entries counted fixed sound s q t p l l' f is own same keeps shown = record {
  history = found_at owner entries counted fixed s q t p f is;
  same = only_item (sym f.same ∙ (ap (λ z. z.lock.fixed) is ∙
      (ap (λ n. n.fixed) own ∙ (ap (λ z. z.lock.fixed) (sym same) ∙ (keeps ∙ ap (λ z. z.fixed ∷ []) same)))));
  is_sound = shown;
}

-- what covers the seat of a pass reaches the pass
pub reached_by : {T E X : Type 0} (counted : ℕ → List E → ℕ) (seat : Seat (Option T) (View E X)) (p : PassState E X) (xs : List E)
    → pass_state seat ≡ p → HasAllSeen counted seat.me.0 xs → IsReached counted p xs
reached_by counted seat p xs is c = subst (λ q. IsReached counted q xs) is
    record { seen = c.seen; length_read = c.length_read; counts_read = c.counts_read }

-- what covers the seat that has taken another in covers it before, and reaches the pass of the other
pub reached_both : {T E X : Type 0} (counted : ℕ → List E → ℕ) (m m' : Sat T E X) (seat : Seat (Option T) (View E X)) (p : PassState E X)
    (xs : List E) → pass_state seat ≡ p → m' ≡ (merged m.0 seat.me.0, m.1) → HasAllSeen counted m'.0 xs
    → HasAllSeen counted m.0 xs × IsReached counted p xs
reached_both counted m m' seat p xs is now c =
    let both = covers_both counted m.0 seat.me.0 xs (subst (λ (z : Sat _ _ _). HasAllSeen counted z.0 xs) now c) in
    (both.0, subst (λ q. IsReached counted q xs) is record { seen = both.1; length_read = both.2; counts_read = both.3 })

-- what contracts see of a pass, after a taking of the turn
pub turned_now : {T E X : Type 0} (s s1 s2 : Seat (Option T) (View E X)) (p : PassState E X) (xs : List E) (q : ServedTurn E)
    (cs : List (ℕ × Option T)) (found size : ℕ) → pass_state s ≡ p → s1.table_id ≡ s.table_id → s1.me ≡ (served s.me.0 q, cs)
    → s2.table_id ≡ s1.table_id → s2.me ≡ (gave xs found s1.me.0, []) → found ≡ size → pass_state s2
    ≡ record p { seen = xs; made = p.made + (length xs - size); turns = p.turns + 1 }
turned_now {T} {E} {X} s s1 s2 p xs q cs found size is same turn same' rests long =
    let f : TableId → View E X → PassState E X = λ t v.
    record {
      lock = record { table = t; fixed = v.fixed };
      rank = v.rank;
      seen = v.seen;
      made = v.made;
      turns = v.turns;
      length_read =
          v.length;
      counts_read = v.counts;
    } in
    let lock : s2.table_id ≡ s.table_id = same' ∙ same in
    let knows : s2.me.0 ≡ gave xs found (served s.me.0 q) = ap (λ m. m.0) rests ∙ ap (λ (m : Sat T E X). gave xs found m.0) turn in
    let one : f s2.table_id s2.me.0 ≡ f s.table_id (gave xs found (served s.me.0 q)) = λ i. f (lock i) (knows i) in
    let two : record (pass_state s) { seen = xs; made = s.me.0.made + (length xs - found); turns = s.me.0.turns + 1 }
    ≡ record p { seen = xs; made = p.made + (length xs - size); turns = p.turns + 1 }
    = λ i. record (is i) { seen = xs; made = (is i).made + (length xs - long i); turns = (is i).turns + 1 } in
    one ∙ two
