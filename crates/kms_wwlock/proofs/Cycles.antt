-- No cycle of waits.
use Rattle.std.proofs.Common.{◌≡◌, ◌≢◌, ◌==◌, ◌<◌, ◌≤◌, Bool, true, false, List, [], ◌∷◌, Option, Some, None, refl, ap, subst, arith}
use Rattle.std.proofs.lemmas.Bool.{ltb-false, eqb-false}
use Rattle.std.specs.Prelude.{IsSome, option_and_then, if◌then◌else◌, nat_lt}
use Rattle.kms_model.specs.declared.objects.ObjId.{ObjId}
use Rattle.kms_model.specs.declared.objects.Ticket.{Ticket}
use Rattle.kms_wwlock.specs.declared.contexts.ContextDoing.{ContextDoing}
use Rattle.kms_wwlock.specs.declared.contexts.ContextDoing.TheVariants.{Taking, MustBackOff, BackedOff}
use Rattle.kms_wwlock.specs.declared.table.Lock.TheVariants.{Own, Older, Younger}
use Rattle.kms_wwlock.specs.declared.table.Relock.TheVariants.{Held}
use Rattle.kms_wwlock.specs.Objects.{lock_place}
use Rattle.kms_wwlock.specs.Table.{Table, holder_of, doing_of, backed_off_for}
use Rattle.kms_wwlock.specs.Calls.{lock_answer, relock_from}
use Rattle.kms_wwlock.specs.Waits.{after_all, empty_table, ContextWaits, ForYounger, ForObject, ContextWaitsAlong, NoCycleOfContexts}
use Rattle.kms_wwlock.specs.Waits.{BackedOffHoldsNothing, HoldersAreOpen}
use Rattle.kms_wwlock.proofs.Sound.{MayHold, IsSound, always_sound}

-- who is called younger holds the object, and is younger
younger : (x y : Ticket) (o : Option Ticket) → lock_answer x o ≡ Younger y → (o ≡ Some y) × (x.0 < y.0)
younger x y None e = cc
younger x y (Some h) e = step (h.0 == x.0) (nat_lt h.0 x.0) refl refl e
  where
    step : (own older : Bool) → (h.0 == x.0) ≡ own → nat_lt h.0 x.0 ≡ older
        → (if own then Own else if older then Older h else Younger h) ≡ Younger y → (Some h ≡ Some y) × (x.0 < y.0)
    step true older is is' e = cc
    step false true is is' e = cc
    step false false is is' e =
        let same : h ≡ y = cc in
        let ne : h.0 ≢ x.0 = eqb-false h.0 x.0 is in
        let le : x.0 ≤ h.0 = ltb-false h.0 x.0 is' in
        let below : x.0 < h.0 = omega arith in
        (ap (λ (u : Ticket). Some u) same, subst (λ (u : Ticket). x.0 < u.0) same below)

held_by : (o : Option Ticket) (y : Ticket) → relock_from o ≡ Held y → o ≡ Some y
held_by None y e = cc
held_by (Some h) y e = cc

-- who is waited for may hold objects
waited_for : (table : Table) (x y : Ticket) → IsSound table → ContextWaits table x y → MayHold (doing_of table y)
waited_for table x y s (ForYounger id may e) = s.held (lock_place id) y (younger x y (holder_of table id) e).0
waited_for table x y s (ForObject may e) = of_object (backed_off_for (doing_of table x)) e
  where
    of_object : (o : Option ObjId) → relock_from (option_and_then (holder_of table) o) ≡ Held y → MayHold (doing_of table y)
    of_object None e = cc
    of_object (Some id) e = s.held (lock_place id) y (held_by (holder_of table id) y e)

-- who waits and may hold objects waits for a younger one
rises : (table : Table) (x y : Ticket) → MayHold (doing_of table x) → ContextWaits table x y → x.0 < y.0
rises table x y may (ForYounger id ask e) = (younger x y (holder_of table id) e).1
rises table x y may (ForObject ask e) = absurd (neither (doing_of table x) may ask)
  where
    neither : (o : Option ContextDoing) → MayHold o → IsSome (backed_off_for o) → ⊥
    neither (Some Taking) may ask = cc
    neither (Some (MustBackOff id)) may ask = cc
    neither (Some (BackedOff id)) may ask = may
    neither None may ask = may

last_waited_for : (table : Table) (x : Ticket) (others : List Ticket) (z : Ticket) → IsSound table → ContextWaitsAlong table x others z
    → MayHold (doing_of table z)
last_waited_for table x [] z s waits = waited_for table x z s waits
last_waited_for table x (y ∷ ys) z s waits = last_waited_for table y ys z s waits.1

rises_along : (table : Table) (x : Ticket) (others : List Ticket) (z : Ticket) → IsSound table → MayHold (doing_of table x)
    → ContextWaitsAlong table x others z → x.0 < z.0
rises_along table x [] z s may waits = rises table x z may waits
rises_along table x (y ∷ ys) z s may waits =
    let first : x.0 < y.0 = rises table x y may waits.0 in
    let rest : y.0 < z.0 = rises_along table y ys z s (waited_for table x y s waits.0) waits.1 in
    omega arith

pub no_cycle : NoCycleOfContexts
no_cycle calls first others may waits =
    let table = after_all empty_table calls in
    let s = always_sound calls may in
    let below : first.0 < first.0 = rises_along table first others first s (last_waited_for table first others first s waits) waits in
    omega arith

pub backed_off_holds_nothing : BackedOffHoldsNothing
backed_off_holds_nothing calls t id object may off holds =
    subst MayHold off ((always_sound calls may).held (lock_place id) t holds)

pub holders_are_open : HoldersAreOpen
holders_are_open calls t id may holds over =
    subst MayHold over ((always_sound calls may).held (lock_place id) t holds)
