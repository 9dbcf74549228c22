-- A list that is written place by place.
use Rattle.std.proofs.Common.{◌≡◌, ◌≢◌, ℕ, ◌+◌, ◌<◌, ◌≤◌, List, length, get_or, Bool, Some, inl, inr, arith, refl, ap, ◌∙◌, get_or-set_same}
use Rattle.std.proofs.Common.{get_or-set_other}
use Rattle.std.proofs.Math.ListN.{set}
use Rattle.std.proofs.lemmas.Bool.{cases_lt}
use Rattle.std.proofs.lemmas.List.{get_or_default}
use Rattle.kms_model.specs.declared.objects.ObjId.{ObjId}
use Rattle.kms_track.specs.declared.lasts.Last.{Last}
use Rattle.kms_track.specs.Tracking.{no_last, raised}

pub each_below : {X : Type 0} (f : ℕ → X) (xs : List X) (i : ℕ) (x d : X) → i < length xs → ((p : ℕ) → p < i → get_or xs p d ≡ f p) → x
    ≡ f i → (p : ℕ) → p < i + 1 → get_or (set xs i x) p d ≡ f p
each_below f xs i x d within below here p up =
    elim (cases_lt p i) [
      | inl less ↦ (let apart : p ≢ i = omega arith in get_or-set_other xs i p x d apart ∙ below p less)
      | inr other ↦ (let same : p ≡ i = omega arith in rw same (get_or-set_same xs i x d within ∙ here))
    ]

pub each_behind : {X : Type 0} (f : ℕ → X) (xs : List X) (i : ℕ) (x d : X) → ((p : ℕ) → i ≤ p → get_or xs p d ≡ f p) → (p : ℕ) → i + 1 ≤ p
    → get_or (set xs i x) p d ≡ f p
each_behind f xs i x d behind p from = let apart : p ≢ i = omega arith in get_or-set_other xs i p x d apart ∙ behind p (omega arith)

pub fence_here : (items : List (ObjId × ℕ)) (i : ℕ) (read d : ObjId × ℕ) → i < length items → Some (get_or items i read).1
    ≡ Some (get_or items i d).1
fence_here items i read d within = ap (λ (f : ObjId × ℕ). Some f.1) (get_or_default items i read d within)

pub raise_here : (lasts old : List Last) (i k : ℕ) (d last : Last) (touched has : Bool) → i < length lasts → last
    ≡ raised (get_or lasts i d) touched k → touched ≡ has → get_or lasts i no_last ≡ get_or old i no_last → last
    ≡ raised (get_or old i no_last) has k
raise_here lasts old i k d last touched has within is same kept = rw (is, same, get_or_default lasts i d no_last within, kept) refl
