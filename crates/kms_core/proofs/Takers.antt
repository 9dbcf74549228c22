-- The client of a ticket.
use Rattle.std.proofs.Common.{◌≡◌, ℕ, zero, suc, ◌+◌, ◌≤◌, ◌<◌, Bool, true, false, Some, None, arith, refl, ap, ◌∙◌, subst}
use Rattle.std.specs.Prelude.{Option, is_some, if◌then◌else◌}
use Rattle.kms_model.specs.declared.runs.Doing.{Doing}
use Rattle.kms_model.specs.declared.runs.Place.{Place}
use Rattle.kms_model.specs.Firsts.{or_else}
use Rattle.kms_model.specs.Machine.State.{Machine, doing_at, has_value, place_at}
use Rattle.kms_model.specs.Machine.Steps.{is_taking, ticket_taking}
use Rattle.kms_wwlock.specs.InStep.{AreClientsOf}
use Rattle.kms_wwlock.specs.Standing.{Standing, IsClient, doing_in, place_of}
use Rattle.kms_model.proofs.Facts.{value-is}
use Rattle.kms_track.specs.Places.{first_below}
use Rattle.kms_track.proofs.PlaceLemmas.{first_same}
use Rattle.kms_core.specs.Decisions.{number_or_0, taker, taker_at, taker_in}
use Rattle.kms_core.specs.Run.{Run, machine}
use Rattle.kms_core.specs.Stands.{Stores, Stands}

-- it is the same in the store of clients
pub same_taker : (m : Machine) (clients : Standing) (t : ℕ) → AreClientsOf m.contexts clients → taker_in (doing_in clients.places) t
    ≡ taker m t
same_taker m clients t stand =
    ap number_or_0 (first_same (taker_at (doing_in clients.places) t) (taker_at (doing_at m) t) 16
    (λ p below. at p (stand.places (p + 1) (omega arith, omega arith)))) where
      at : (p : ℕ) → place_of clients (p + 1) ≡ place_at m (p + 1) → taker_at (doing_in clients.places) t p ≡ taker_at (doing_at m) t p
      at p same = ap (λ (place : Place). if has_value t (ticket_taking place.doing) then Some (p + 1) else None) same

pub taker_as : {r : Run} {st : Stores} (t : ℕ) {client : ℕ} → Stands r st → client ≡ taker_in (doing_in st.clients.places) t → client
    ≡ taker (machine r) t
taker_as {r} {st} t stands is = is ∙ same_taker (machine r) st.clients t stands.stores.clients

-- where a first value was found
pub record FoundAt (f : ℕ → Option ℕ) (n x : ℕ) : Type 0 where
  pub index : ℕ
  pub below : index < n
  pub is : f index ≡ Some x

pub found_at : (f : ℕ → Option ℕ) (n x : ℕ) → first_below f n ≡ Some x → FoundAt f n x
unfolding first_below
found_at f zero x e = absurd cc
found_at f (suc n) x e = either (first_below f n) refl (found_at f n x) e where
  either : (o : Option ℕ) → first_below f n ≡ o → (first_below f n ≡ Some x → FoundAt f n x) → or_else o (f n) ≡ Some x
      → FoundAt f (suc n) x
  either None none before is = record { index = n; below = omega arith; is = is }
  either (Some y) some before is = (let found = before (some ∙ is)
      in record { index = found.index; below = (let l = found.below in omega (arith, l)); is = found.is })

-- a client that takes locks
pub record IsTaker (doing : ℕ → Doing) (client : ℕ) : Type 0 where
  pub number : IsClient client
  pub taking : is_taking (doing client) ≡ true

pub takes : (doing : ℕ → Doing) (t : ℕ) → 1 ≤ taker_in doing t → IsTaker doing (taker_in doing t)
takes doing t there = from (first_below (taker_at doing t) 16) refl there where
  here : (i x : ℕ) → i < 16 → (b : Bool) → has_value t (ticket_taking (doing (i + 1))) ≡ b → (if b then Some (i + 1) else None) ≡ Some x
      → IsTaker doing x
  here i x below false is e = absurd cc
  here i x below true is e =
      subst (IsTaker doing) (ap number_or_0 e)
      (record { number = (omega arith, omega arith); taking = ap is_some (value-is t (ticket_taking (doing (i + 1))) is) })

  from : (o : Option ℕ) → first_below (taker_at doing t) 16 ≡ o → 1 ≤ number_or_0 o → IsTaker doing (number_or_0 o)
  from None e low = absurd (omega (arith, low))
  from (Some x) e low =
      let found = found_at (taker_at doing t) 16 x e in
      here found.index x found.below (has_value t (ticket_taking (doing (found.index + 1)))) refl found.is
