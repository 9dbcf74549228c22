-- The rule of the table behind the lock: what holds between any two steps, of its words, its slot and what the seats know.
-- Word 0 is the tickets' word, the number that is drawn next. Word 1 is the served word, the number whose turn it is.
-- Word 2 is the length of the history that was stored last, and the words from 3 on are its four counts. Slot 0 has the value.
use Rattle.std.specs.Prelude.{◌≡◌, ◌≢◌, ℕ, ◌+◌, ◌%◌, ◌^◌, ◌<◌, ◌≤◌, List, [], ◌∷◌, ◌++◌, length, slice_index, Option, Some, ◌⊎◌, All}
use Rattle.std.specs.List.{sum_by}
use mathlib.Core.Option.{some, none}
use mathlib.Core.Option as maybe
use lib.ListN.{get_elem?}
use Rattle.atomic_table.specs.Table.{State}
use Rattle.kms_histlock.specs.declared.view.View.{View}
use Rattle.kms_histlock.specs.declared.view.Stage.{Stage}
use Rattle.kms_histlock.specs.declared.view.ServedTurn.{ServedTurn}
use Rattle.kms_histlock.specs.declared.view.Stage.TheVariants.{Idle, Waits, Serves}

module _ {E : Type 0} where
  -- 1 where the seat has a number, else 0
  abbrev pub turns_drawn : Stage E → ℕ
  turns_drawn Idle = 0
  turns_drawn (Waits n) = 1
  turns_drawn (Serves q) = 1

  -- its number; 0 where it has none
  abbrev pub number : Stage E → ℕ
  number Idle = 0
  number (Waits n) = n
  number (Serves q) = q.number

  -- 1 where the value is out with the seat, else 0
  abbrev pub serving : Stage E → ℕ
  serving Idle = 0
  serving (Waits n) = 0
  serving (Serves q) = 1

  -- the counts below it are in the words for what the seat has seen: all four, but for the seat that has stored a length and has counts
  -- still to store
  abbrev pub due : Stage E → ℕ
  due Idle = 4
  due (Waits n) = 4
  due (Serves q) = q.stored

  -- how many seats have a number
  abbrev pub having : {X : Type 0} → List (View E X) → ℕ
  having views = sum_by (λ v. turns_drawn v.stage) views

  -- the seat j knows v
  abbrev pub At : {X : Type 0} → List (View E X) → ℕ → View E X → Type 0
  At views j v = get_elem? views j ≡ some v

-- The numbers. Counted from the served word modulo 2^64, they are those from 0 up to below how many seats have one:
-- `place` says which of these a seat's number is, and two seats have two places.
pub record Numbers {E X : Type 0} (tickets served : ℕ) (views : List (View E X)) (place : ℕ → ℕ) : Type 0 where
  pub next : tickets ≡ (served + having views) % 2 ^ 64
  pub within : (j : ℕ) (v : View E X) → At views j v → turns_drawn v.stage ≡ 1 → place j < having views
  pub counted : (j : ℕ) (v : View E X) → At views j v → turns_drawn v.stage ≡ 1 → number v.stage ≡ (served + place j) % 2 ^ 64
  pub apart : (i j : ℕ) (v w : View E X) → At views i v → At views j w → turns_drawn v.stage ≡ 1 → turns_drawn w.stage ≡ 1 → place i
      ≡ place j → i ≡ j
  pub filled : (k : ℕ) → k < having views → (j : ℕ) × (v : View E X) × At views j v × (turns_drawn v.stage ≡ 1) × (place j ≡ k)

-- The value. It is out only with the seat whose number is served, and else it is at home, where it `fits`.
pub record Held {T E X : Type 0} (fits : T → Type 0) (slot : maybe.Option (Option T)) (views : List (View E X)) (place : ℕ → ℕ) : Type 0
  where
    pub out : (j : ℕ) (v : View E X) → At views j v → serving v.stage ≡ 1 → (place j ≡ 0) × (slot ≡ none)
    pub home : ((t : T) × (slot ≡ some (Some t)) × fits t) ⊎ ((j : ℕ) × (v : View E X) × At views j v × (serving v.stage ≡ 1))

-- The seats. Each stands for a part of those that the lock was made for; a spent seat stands for none, has no number and has made nothing.
pub record PartsOfSeats {E X : Type 0} (seats : ℕ) (views : List (View E X)) : Type 0 where
  pub all : sum_by (λ v. v.parts) views ≡ seats
  pub spent : (j : ℕ) (v : View E X) → At views j v → v.parts ≡ 0 → (v.stage ≡ Idle) × (v.made ≡ 0)

-- The first seat, the only one that keeps the greatest rank given out: there are that many seats, spent ones among them.
pub record Leads {E X : Type 0} (views : List (View E X)) : Type 0 where
  pub first : ℕ
  pub its : View E X
  pub there : At views first its
  pub top_is : its.top ≡ length views
  pub alone : (j : ℕ) (v : View E X) → At views j v → 0 < v.top → j ≡ first

-- each of these four numbers is at most the other
abbrev pub AtMost : List ℕ → List ℕ → Type 0
AtMost xs ys = (k : ℕ) → k < 4 → slice_index xs k ≤ slice_index ys k

-- The words. While the value is out, the served seat knows the history that was stored last and the counts in the words.
-- The words are at least what any seat has read of them.
pub record Words {E X : Type 0} (log : List E) (counts : List ℕ) (views : List (View E X)) : Type 0 where
  pub four : length counts ≡ 4
  pub turn : (j : ℕ) (v : View E X) → At views j v → (q : ServedTurn E) → v.stage ≡ Serves q → (q.log ≡ log) × (q.counts ≡ counts)
  pub read : (j : ℕ) (v : View E X) → At views j v → (v.length ≤ length log) × AtMost v.counts counts

-- a value with the history that was stored last, and the stored counts
abbrev pub Fits : {T E : Type 0} → (T → List E) → (ℕ → List E → ℕ) → List E → List ℕ → T → Type 0
Fits entries counted log counts t = (entries t ≡ log) × ((k : ℕ) → k < 4 → slice_index counts k ≡ counted k log)

-- Each seat that is not spent knows what of the value never changes.
abbrev pub Knows : {E X : Type 0} → X → List (View E X) → Type 0
Knows stays views = (j : ℕ) (v : View _ _) → At views j v → 0 < v.parts → v.fixed ≡ stays ∷ []

-- a value with the history and the counts that were stored last, of which what never changes is as it was from the start
abbrev pub IsAtHome : {T E X : Type 0} → (T → List E) → (ℕ → List E → ℕ) → (T → X) → X → List E → List ℕ → T → Type 0
IsAtHome entries counted fixed stays log counts t = Fits entries counted log counts t × (fixed t ≡ stays)

-- The ranks of the seats that are not spent go from 1 up to the greatest that was given out, and differ. No owner of an entry is above it.
pub record Ranks {E X : Type 0} (owner : E → ℕ) (log : List E) (views : List (View E X)) : Type 0 where
  pub within : (j : ℕ) (v : View E X) → At views j v → 0 < v.parts → (0 < v.rank) × (v.rank ≤ length views)
  pub differ : (i j : ℕ) (v w : View E X) → At views i v → At views j w → 0 < v.parts → 0 < w.parts → v.rank ≡ w.rank → i ≡ j
  pub owners : All (λ e. owner e ≤ length views) log

-- the history `log` begins with `seen`, and what comes after it is none of the rank's
abbrev pub GoesOnFrom : {E : Type 0} → (E → ℕ) → ℕ → List E → List E → Type 0
GoesOnFrom {E} owner rank seen log = (rest : List E) × (log ≡ seen ++ rest) × All (λ e. owner e ≢ rank) rest

-- the history `log` begins with `seen`
abbrev pub IsStart : {E : Type 0} → List E → List E → Type 0
IsStart {E} seen log = (rest : List E) × (log ≡ seen ++ rest)

-- What the seats have seen begins the history that was stored last, and has all entries there of the seat's rank. Its counts are at most
-- those in the words.
pub record Sights {E X : Type 0} (owner : E → ℕ) (counted : ℕ → List E → ℕ) (log : List E) (counts : List ℕ) (views : List (View E X)) :
    Type 0 where
  pub begins : (j : ℕ) (v : View E X) → At views j v → 0 < v.parts → GoesOnFrom owner v.rank v.seen log
  pub counted_in : (j : ℕ) (v : View E X) → At views j v → 0 < v.parts → (k : ℕ) → k < 4 → k < due v.stage → counted k v.seen
      ≤ slice_index counts k
  pub joined : (j : ℕ) (v : View E X) → At views j v → All (λ xs. IsStart xs log) v.joined

pub record IsUpheld {T E X : Type 0} (owner : E → ℕ) (entries : T → List E) (counted : ℕ → List E → ℕ) (fixed : T → X) (seats : ℕ)
    (stays : X) (s : State (Option T) (View E X)) : Type 0 where
  pub tickets : ℕ
  pub served : ℕ
  pub log : List E
  pub counts : List ℕ
  pub slot : maybe.Option (Option T)
  pub place : ℕ → ℕ
  pub words_are : s.words ≡ tickets ∷ served ∷ length log ∷ counts
  pub homes_are : s.homes ≡ slot ∷ []
  pub few : length s.views ≤ 64
  pub numbers : Numbers tickets served s.views place
  pub value : Held (IsAtHome entries counted fixed stays log counts) slot s.views place
  pub knows : Knows stays s.views
  pub parts : PartsOfSeats seats s.views
  pub leads : Leads s.views
  pub words : Words log counts s.views
  pub ranks : Ranks owner log s.views
  pub sights : Sights owner counted log counts s.views
  pub made : sum_by (λ v. v.made) s.views ≡ length log
