-- What each step on the table tells the seat that makes it.
use Rattle.std.specs.Prelude.{◌≡◌, ◌≢◌, ℕ, ◌-◌, ◌+◌, ◌≤◌, ◌<◌, max, List, [], ◌∷◌, length, slice_index, slice_set, Option, Some}
use mathlib.Core.Option.{some}
use Rattle.atomic_table.specs.Table.{Me, Step}
use Rattle.kms_histlock.specs.declared.view.View.{View}
use Rattle.kms_histlock.specs.declared.view.Stage.{Stage}
use Rattle.kms_histlock.specs.declared.view.Stage.TheVariants.{Idle, Waits, Serves}
use Rattle.kms_histlock.specs.declared.view.ServedTurn.{ServedTurn}
use Rattle.kms_histlock.specs.Rules.{due, AtMost, Fits, GoesOnFrom}

-- the first seat of a lock made for so many, around a value of which this stays
abbrev pub opened : {E X : Type 0} → ℕ → X → View E X
opened seats stays = record {
  fixed = stays ∷ [];
  rank = 1;
  parts = seats;
  top = 1;
  stage = Idle;
  turns = 0;
  seen = [];
  made = 0;
  joined =
      [];
  length = 0;
  counts = 0 ∷ 0 ∷ 0 ∷ 0 ∷ [];
}

abbrev pub standing : {E X : Type 0} → View E X → Stage E → View E X
standing v stage = record v { stage = stage }

-- a seat has drawn the number n
abbrev pub waiting : {E X : Type 0} → View E X → ℕ → View E X
waiting v n = record v { stage = Waits n; turns = v.turns + 1 }

-- a seat keeps all its parts but one
abbrev pub kept_back : {E X : Type 0} → View E X → View E X
kept_back v = record v { parts = v.parts - 1; top = v.top + 1 }

-- the seat that is split off has that one, and the next rank
abbrev pub split_off : {E X : Type 0} → View E X → View E X
split_off v = record v { rank = v.top + 1; parts = 1; top = 0; stage = Idle; turns = 0; made = 0 }

-- the greater of each two
abbrev pub tops : List ℕ → List ℕ → List ℕ
tops xs ys = max (slice_index xs 0) (slice_index ys 0) ∷ max (slice_index xs 1) (slice_index ys 1)
    ∷ max (slice_index xs 2) (slice_index ys 2) ∷ max (slice_index xs 3) (slice_index ys 3) ∷ []

-- the first seat takes in the parts of another, what it has made, and what it has seen and read
abbrev pub merged : {E X : Type 0} → View E X → View E X → View E X
merged v w = record v {
  parts = v.parts + w.parts;
  made = v.made + w.made;
  joined = w.seen
      ∷ v.joined;
  length = max v.length w.length;
  counts = tops v.counts w.counts;
}

abbrev pub spent : {E X : Type 0} → View E X
spent = record {
  fixed = [];
  rank = 0;
  parts = 0;
  top = 0;
  stage = Idle;
  turns = 0;
  seen = [];
  made = 0;
  joined = [];
  length = 0;
  counts = 0
      ∷ 0 ∷ 0 ∷ 0 ∷ [];
}

-- the served seat has stored the length of this history, which it has then seen; it has its counts still to store
abbrev pub lengthened : {E X : Type 0} → List E → View E X → ServedTurn E → View E X
lengthened log v q = record v {
  stage = Serves (record q { log = log; stored = 0 });
  seen = log;
  made = v.made
      + (length log - length q.log);
}

-- the served seat has stored this count
abbrev pub recounted : {E X : Type 0} → ℕ → ℕ → View E X → ServedTurn E → View E X
recounted k n v q = record v { stage = Serves (record q { counts = slice_set q.counts k n; stored = k + 1 }) }

-- what a seat knows, and what it holds
abbrev pub Sat : Type 0 → Type 0 → Type 0 → Type 0
Sat T E X = Me (Option T) (View E X)

abbrev pub TableStep : Type 0 → Type 0
TableStep T = Step (Option T)

-- the seat m has taken the turn as q, and finds the value t with the history and the counts that were stored last, which are at least what
-- it has read
pub record Finds {T E X : Type 0} (owner : E → ℕ) (entries : T → List E) (counted : ℕ → List E → ℕ) (fixed : T → X) (m : Sat T E X)
    (q : ServedTurn E) (t : T) : Type 0 where
  pub fits : Fits entries counted q.log q.counts t
  pub same : m.0.fixed ≡ fixed t ∷ []
  pub four : length q.counts ≡ 4
  pub stored : q.stored ≡ 4
  pub begins : GoesOnFrom owner m.0.rank m.0.seen q.log
  pub length_read : m.0.length ≤ length q.log
  pub counts_read : AtMost m.0.counts q.counts

module _ {T E X : Type 0} where
  -- the seat has drawn the number found
  abbrev pub drew : TableStep T → Sat T E X → ℕ → Sat T E X → Type 0
  drew st m n m' = m' ≡ (waiting m.0 n, m.1)

  -- the seat has passed the turn on, and holds nothing
  abbrev pub passed : TableStep T → Sat T E X → ℕ → Sat T E X → Type 0
  passed st m n m' = m' ≡ (standing m.0 Idle, [])

  -- the seat has stored a count
  abbrev pub stored_count : TableStep T → Sat T E X → ℕ → Sat T E X → Type 0
  stored_count st m n m' = (q : ServedTurn E) (k : ℕ) → m.0.stage ≡ Serves q → st.word ≡ k + 3 → m' ≡ (recounted k n m.0 q, m.1)

  -- the seat has read the length, which is at least what it had read before and, where the seat is not spent, that of what it has seen
  abbrev pub read_length : TableStep T → Sat T E X → ℕ → Sat T E X → Type 0
  read_length st m n m' = (m' ≡ (record m.0 { length = n }, m.1)) × (0 < m.0.parts → length m.0.seen ≤ n) × (m.0.length ≤ n)

-- the seat has stored the length of the history of the value that was announced
abbrev pub stored_length : {T E X : Type 0} → (T → List E) → TableStep T → Sat T E X → ℕ → Sat T E X → Type 0
stored_length {T = T} {E = E} entries st m n m' = (q : ServedTurn E) (t : T) → m.0.stage ≡ Serves q → st.said ≡ some (Some t) → m'
    ≡ (lengthened (entries t) m.0 q, m.1)

-- the seat has read a count, which is at least what it had read before and, where that count is in the words for what the seat has seen,
-- that of what it has seen
abbrev pub read_count : {T E X : Type 0} → (ℕ → List E → ℕ) → TableStep T → Sat T E X → ℕ → Sat T E X → Type 0
read_count counted st m n m' = (k : ℕ) → st.word ≡ k + 3 → (m' ≡ (record m.0 { counts = slice_set m.0.counts k n }, m.1))
    × (0 < m.0.parts → k < due m.0.stage → counted k m.0.seen ≤ n) × (slice_index m.0.counts k ≤ n)

module _ {T E X : Type 0} (owner : E → ℕ) (entries : T → List E) (counted : ℕ → List E → ℕ) (fixed : T → X) where
  -- the seat has the turn, and the value is out with it
  pub record Takes (x : ℕ) (m m' : Sat T E X) : Type 0 where
    pub value : T
    pub turn : ServedTurn E
    pub same_number : turn.number ≡ x
    pub now : m' ≡ (standing m.0 (Serves turn), (0, Some value) ∷ m.1)
    pub found : Finds owner entries counted fixed m turn value

  -- the seat has the turn exactly where its number was found
  abbrev pub looked : TableStep T → Sat T E X → ℕ → Sat T E X → Type 0
  looked st m n m' = (x : ℕ) → m.0.stage ≡ Waits x → (n ≡ x → Takes x m m') × (n ≢ x → m' ≡ m)
