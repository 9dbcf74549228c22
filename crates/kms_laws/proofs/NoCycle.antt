-- No client waits, along a chain, for itself: along a chain of waits tickets rise.
use Rattle.std.proofs.Common.{◌≡◌, ℕ, ◌<◌, ◌≤◌, true, Some, List, refl, ap, ◌∙◌, arith, ⊎_elim}
use Rattle.std.proofs.lemmas.Bool.{and_from, and_parts, cases_eq, cases_lt, false≢true, lt-ltb, not-true}
use Rattle.kms_model.specs.declared.replies.Step.{Step}
use Rattle.kms_model.specs.declared.runs.Doing.{Doing}
use Rattle.kms_model.specs.declared.runs.Doing.TheVariants as doing
use Rattle.kms_model.specs.declared.scripts.Script.{Script}
use Rattle.kms_model.specs.Machine.Histories.{at, is_history}
use Rattle.kms_model.specs.Machine.State.{Machine, doing_at, has_value, holder_at, holds}
use Rattle.kms_model.specs.Machine.Steps.{contended, is_free_or_older, may_lock, taking_at, ticket_of}
use Rattle.kms_model.specs.Machine.Waits.{Waits, WaitsAlong}
use Rattle.kms_model.specs.Machine.Waits.WaitsAlong.{Direct, Through}
use Rattle.kms_model.specs.Request.Reach.{reaches}
use Rattle.kms_model.specs.Machine.Effects.{next}
use Rattle.kms_model.specs.Promises.{TestChangesNothing}
use Rattle.kms_model.proofs.Facts.{value-is}
use Rattle.kms_laws.proofs.Basics.{both_bools}
use Rattle.kms_laws.proofs.LockSteps.{HasLocks}
use Rattle.kms_laws.proofs.Contexts.{held-ticket, may_hold}
use Rattle.kms_laws.proofs.NeverStuck.{history_facts}
use Rattle.kms_laws.proofs.Steps.{IsPlainScript}

module _ (s : Script) (m : Machine) (L : HasLocks s m) where
  holder-holds : (y object : ℕ) → holds m y object ≡ true → may_hold (doing_at m y) ≡ true
  holder-holds y object h = L.holders object y (value-is y (holder_at m object) h)

  -- who backed off holds nothing
  contended-free : (d : Doing) (object : ℕ) → has_value object (contended d) ≡ true → may_hold d ≡ true → ⊥
  contended-free (doing.BackedOff ticket o) object h held = false≢true held
  contended-free doing.Idle object h held = false≢true h
  contended-free (doing.Taking ticket) object h held = false≢true h
  contended-free (doing.MustBackOff ticket o) object h held = false≢true h
  contended-free (doing.Returning k) object h held = false≢true h

  waited_holds : (x y : ℕ) → Waits s m x y → may_hold (doing_at m y) ≡ true
  waited_holds x y w =
      ⊎_elim
      (λ lock. holder-holds y w.object (and_parts (holds m y w.object) _
      (and_parts (taking_at s m x (λ r. reaches s.topology m.device.world r w.object)) _ lock).1).0)
      (λ relock. holder-holds y w.object (and_parts (has_value w.object (contended (doing_at m x))) _ relock).1)
      w.waits

  -- who holds and waits, waits for one with a younger ticket
  rises : (x y : ℕ) → Waits s m x y → may_hold (doing_at m x) ≡ true → ticket_of (doing_at m x) < ticket_of (doing_at m y)
  unfolding may_lock
  rises x y w held =
      ⊎_elim
      (λ lock.
      let one = and_parts (taking_at s m x (λ r. reaches s.topology m.device.world r w.object)) _ lock in
      let two = and_parts (holds m y w.object) _ one.1 in
      let holder : holder_at m w.object ≡ Some y = value-is y (holder_at m w.object) two.0 in
      ⊎_elim
      (λ (lt : ticket_of (doing_at m x) < ticket_of (doing_at m y)). lt)
      (λ (ge : ticket_of (doing_at m y) ≤ ticket_of (doing_at m x)).
      ⊎_elim
      (λ (same : ticket_of (doing_at m x) ≡ ticket_of (doing_at m y)).
      absurd (w.others (L.unique x y (held-ticket (doing_at m x) held) (held-ticket (doing_at m y) (waited_holds x y w)) same)))
      (λ apart.
      let older : ticket_of (doing_at m y) < ticket_of (doing_at m x) = ⊎_elim
      (λ (lt : ticket_of (doing_at m y) < ticket_of (doing_at m x)). lt)
      (λ (ge2 : ticket_of (doing_at m x) ≤ ticket_of (doing_at m y)). absurd (apart (omega arith)))
      (cases_lt (ticket_of (doing_at m y)) (ticket_of (doing_at m x))) in
      absurd (both_bools _ (and_from _ _ one.0 (ap (is_free_or_older m (ticket_of (doing_at m x))) holder ∙ lt-ltb
      (ticket_of (doing_at m y)) (ticket_of (doing_at m x)) older)) (not-true _ two.1)))
      (cases_eq (ticket_of (doing_at m x)) (ticket_of (doing_at m y))))
      (cases_lt (ticket_of (doing_at m x)) (ticket_of (doing_at m y))))
      (λ relock. absurd (contended-free (doing_at m x) w.object (and_parts (has_value w.object (contended (doing_at m x))) _ relock).0
      held))
      w.waits

  along_holds : {x y : ℕ} → WaitsAlong s m x y → may_hold (doing_at m y) ≡ true
  along_holds {x} {y} (Direct w) = waited_holds x y w
  along_holds (Through w rest) = along_holds rest

  along_rises : {x y : ℕ} → WaitsAlong s m x y → may_hold (doing_at m x) ≡ true → ticket_of (doing_at m x) < ticket_of (doing_at m y)
  along_rises {x} {y} (Direct w) held = rises x y w held
  along_rises {x} (Through {y = y} w rest) held = let a = rises x y w held in let b = along_rises rest (waited_holds x y w) in omega arith

  pub no_cycle_at : (client : ℕ) → WaitsAlong s m client client → ⊥
  no_cycle_at client way = let l = along_rises way (along_holds way) in omega arith

pub no_cycle : (s : Script) (h : List Step) → IsPlainScript s → is_history s h ≡ true → (client : ℕ) → WaitsAlong s (at s h) client client
    → ⊥
no_cycle s h plain is client way = no_cycle_at s (at s h) (history_facts s h plain is).locks client way

pub test_changes_nothing : TestChangesNothing
unfolding next
test_changes_nothing s m client = (refl, refl, refl, refl, refl)
