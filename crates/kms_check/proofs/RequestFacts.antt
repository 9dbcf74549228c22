-- What is known of duplicates that are those of a request in a sound world.
use Rattle.std.proofs.Common.{◌≡◌, ◌∙◌, ℕ, zero, suc, ◌<◌, List, [], ◌∷◌, length, get_or, Option, None, inl, inr, refl, arith}
use Rattle.kms_model.specs.declared.objects.Topology.{Topology}
use Rattle.kms_model.specs.declared.scripts.Assign.{Assign}
use Rattle.kms_model.specs.declared.scripts.Request.{Request}
use Rattle.kms_model.specs.declared.sets.Resolved.{Resolved}
use Rattle.kms_model.specs.declared.sets.Set.{Set}
use Rattle.kms_model.specs.declared.states.Both.{Both}
use Rattle.kms_model.specs.declared.states.Duplicates.{Duplicates}
use Rattle.kms_model.specs.declared.worlds.Look.{Look}
use Rattle.kms_model.specs.declared.worlds.World.{World}
use Rattle.kms_model.specs.Request.Agreement.{AreOld, AreNew, AgreesNew}
use Rattle.kms_model.specs.Request.Refusals.{early_refusal}
use Rattle.kms_model.specs.Request.Resolves.{IsAllowed}
use Rattle.kms_model.specs.Request.Sets.{last_sets, set_of}
use Rattle.kms_model.proofs.LastLemmas.{IsIn, FromLast, from_last, IsLast}
use Rattle.kms_model.proofs.TouchedLemmas.{IsRequestAt}
use Rattle.kms_model.specs.Request.Deciding.{AreFresh, AreFreshIn, IsOfRequest}
use Rattle.kms_request.proofs.SetGroups.{allowed-each}

-- the request, in the world
pub request_at : {t : Topology} {w : World} {r : Request} {resolved : Resolved} {d : Duplicates} → IsOfRequest t w r resolved d
    → IsRequestAt t w r
request_at is = record { device = is.device; sound = is.sound; early = is.asks.accepted }

-- fresh states agree with the values before
pub fresh_new : {S : Type 0} (f : ℕ → S) (states : List (Option (Both S))) → AreFreshIn states → AreOld f states → AreNew f states
fresh_new f states fresh old = λ index both at. fresh index both at ∙ old index both at

pub fresh-agrees : {t : Topology} {w : World} {r : Request} {resolved : Resolved} {d : Duplicates} → IsOfRequest t w r resolved d
    → AreFresh d → AgreesNew t w.things w.values d
fresh-agrees {d} is fresh = record {
  crtcs = fresh_new _ d.crtcs fresh.crtcs is.old.crtcs;
  planes = fresh_new _ d.planes fresh.planes is.old.planes;
  conns = fresh_new _ d.conns fresh.conns is.old.conns;
}

get_or-in : {A : Type 0} (xs : List A) (k : ℕ) (d : A) → k < length xs → IsIn (get_or xs k d) xs
get_or-in [] k d within = absurd (omega arith)
get_or-in (x ∷ xs) zero d within = inl refl
get_or-in (x ∷ xs) (suc k) d within = inr (get_or-in xs k d (omega arith))

-- What a request sets

-- a set comes from an allowed assignment
pub record IsFromAssign (t : Topology) (f : ℕ → Look) (r : Request) (s : Set) : Type 0 where
  pub assign : Assign
  pub is_in : IsIn assign r.assigns
  pub set : s ≡ set_of f assign
  pub last : IsLast f r.assigns assign
  pub allowed : IsAllowed t f assign

pub from_assign : (t : Topology) (f : ℕ → Look) (r : Request) (s : Set) → early_refusal t f r ≡ None → IsIn s (last_sets f r.assigns)
    → IsFromAssign t f r s
from_assign t f r s accepted is =
    let from : FromLast f r.assigns s = from_last f r.assigns s is in
    record {
      assign = from.item;
      is_in = from.is.member;
      set = from.set;
      last = from.is;
      allowed = allowed-each t f r from.item accepted
          from.is.member;
    }
