-- The rule of the queue. Each pass has a share of the whole, and the names of the players that it put into the queue, and of
-- those that its thread holds. From: this device's own.
use Rattle.std.specs.Prelude.{◌≡◌, ℕ, List, [], ◌++◌, map, IsPermutation}
use Rattle.std.specs.List.{flat_map, sum_by}
use mathlib.Core.Option.{some}
use lib.ListN.{get_elem?}
use Rattle.kms_pool.specs.declared.rules.Hand.{Hand}

-- the whole, which the first pass has: more shares than there are threads
abbrev pub ALL_PARTS : ℕ
ALL_PARTS = 32

abbrev pub hand : {N : Type 0} → ℕ → List N → List N → Hand N
hand parts brought held = record { parts = parts; brought = brought; held = held }

module _ {S N : Type 0} (name : S → N) where
  -- Each player that was put in is in the queue, or is held by one thread. A pass without a share put nobody in and holds nobody.
  pub record IsBalanced (items : List S) (views : List (Hand N)) : Type 0 where
    pub parts : sum_by (λ v. v.parts) views ≡ ALL_PARTS
    pub all : IsPermutation (flat_map (λ v. v.brought) views) (map name items ++ flat_map (λ v. v.held) views)
    pub spent : (pass : ℕ) (v : Hand N) → get_elem? views pass ≡ some v → v.parts ≡ 0 → (v.brought ≡ []) × (v.held ≡ [])

  -- a pass with the whole share knows that each player that it put in is in the queue or is held by its own thread
  abbrev pub Tells : Hand N → List S → Type 0
  Tells v items = v.parts ≡ ALL_PARTS → IsPermutation v.brought (map name items ++ v.held)

  -- a pass with the whole share that holds nobody has put in these, in any order
  pub record HasBrought (v : Hand N) (items : List S) : Type 0 where
    pub whole : v.parts ≡ ALL_PARTS
    pub empty : v.held ≡ []
    pub brought : IsPermutation (map name items) v.brought
