-- Who holds an object has begun, is not over, and has not backed off.
use Rattle.std.proofs.Common.{◌≡◌, ◌≢◌, ℕ, zero, suc, List, [], ◌∷◌, map, get_or, replicate, Option, Some, None, refl, sym, ap, subst}
use Rattle.std.proofs.Common.{⊎_elim}
use Rattle.std.proofs.lemmas.Bool.{cases_eq}
use Rattle.kms_model.specs.declared.objects.ObjId.{ObjId}
use Rattle.kms_model.specs.declared.objects.Ticket.{Ticket}
use Rattle.kms_wwlock.specs.declared.contexts.Context.{Context}
use Rattle.kms_wwlock.specs.declared.contexts.ContextDoing.{ContextDoing}
use Rattle.kms_wwlock.specs.declared.contexts.ContextDoing.TheVariants.{Taking, MustBackOff, BackedOff}
use Rattle.kms_wwlock.specs.declared.table.Lock.{Lock as Answer}
use Rattle.kms_wwlock.specs.declared.table.Lock.TheVariants.{Got, Own, Older, Younger}
use Rattle.kms_wwlock.specs.declared.table.Relock.{Relock as Again}
use Rattle.kms_wwlock.specs.declared.table.Relock.TheVariants.{Got as GotAgain, Held}
use Rattle.kms_wwlock.specs.Objects.{lock_place}
use Rattle.kms_wwlock.specs.Table.{Table, holder_of, doing_of, doing_in_contexts, must_back_off_for, backed_off_for}
use Rattle.kms_wwlock.specs.Calls.{with_doing, locked_by, after_begin, lock_answer, after_lock, backed_off, relock_answer, relocked}
use Rattle.kms_wwlock.specs.Calls.{after_drop_all}
use Rattle.kms_wwlock.specs.Waits.{Call, Begin, Lock, Backoff, Relock, DropAll, IsCallAllowed, after_call, AreAllowed, after_all}
use Rattle.kms_wwlock.specs.Waits.{empty_table}
use Rattle.kms_wwlock.proofs.Lookups.{same_ticket, held-freed, held-taken, doing_in-others, doing_in-set, doing_in-begun, doing_in-over}

-- it may hold objects
abbrev pub MayHold : Option ContextDoing → Type 0
MayHold (Some Taking) = Unit {0}
MayHold (Some (MustBackOff id)) = Unit {0}
MayHold (Some (BackedOff id)) = ⊥
MayHold None = ⊥

pub record IsSound (table : Table) : Type 0 where
  pub held : (place : ℕ) (y : Ticket) → get_or table.holders place None ≡ Some y → MayHold (doing_in_contexts table.contexts y)

-- a change of one context, to something in which it may hold objects
set_sound : (cs : List Context) (t y : Ticket) (d e : ContextDoing) → doing_in_contexts cs t ≡ Some e → MayHold (Some d)
    → (y.0 ≢ t.0 → MayHold (doing_in_contexts cs y)) → MayHold (doing_in_contexts (map (with_doing t d) cs) y)
set_sound cs t y d e found may others =
    ⊎_elim
    (λ (same : y.0 ≡ t.0).
    subst (λ (u : Ticket). MayHold (doing_in_contexts (map (with_doing t d) cs) u)) (sym (same_ticket y t same))
    (subst MayHold (sym (doing_in-set t d e cs found)) may))
    (λ ne. subst MayHold (sym (doing_in-others t y d cs ne)) (others ne))
    (cases_eq y.0 t.0)

begin_sound : (table : Table) (client : ℕ) → IsSound table → IsSound (after_begin table client)
begin_sound table client s = record { held = λ place y e. kept y (doing_in_contexts table.contexts y) refl (s.held place y e) }
  where
    kept : (y : Ticket) (o : Option ContextDoing) → doing_in_contexts table.contexts y ≡ o → MayHold o
        → MayHold (doing_in_contexts (after_begin table client).contexts y)
    kept y None is may = absurd may
    kept y (Some d) is may = subst MayHold (sym (doing_in-begun _ y d table.contexts is)) may

taken_sound : (table : Table) (t : Ticket) (id : ObjId) → doing_in_contexts table.contexts t ≡ Some Taking → IsSound table
    → IsSound (locked_by table t id)
taken_sound table t id taking s =
    record {
      held = λ place y e.
          ⊎_elim
          (λ (same : t ≡ y). subst (λ (u : Ticket). MayHold (doing_in_contexts table.contexts u)) same (subst MayHold (sym taking) tt))
          (λ before. s.held place y before)
          (held-taken t y table.holders (lock_place id) place e);
    }

lock_sound : (table : Table) (t : Ticket) (id : ObjId) (answer : Answer) → doing_in_contexts table.contexts t ≡ Some Taking → IsSound table
    → IsSound (after_lock table t id answer)
lock_sound table t id Got taking s = taken_sound table t id taking s
lock_sound table t id Own taking s = s
lock_sound table t id (Older holder) taking s =
    record { held = λ place y e. set_sound table.contexts t y (MustBackOff id) Taking taking tt (λ ne. s.held place y e) }
lock_sound table t id (Younger holder) taking s = s

backoff_sound : (table : Table) (t : Ticket) (o : Option ObjId) → IsSound table → IsSound (backed_off table t o)
backoff_sound table t None s = s
backoff_sound table t (Some id) s =
    record {
      held = λ place y e.
          let before = held-freed t y table.holders place e in
          subst MayHold (sym (doing_in-others t y (BackedOff id) table.contexts before.1)) (s.held place y before.0);
    }

relock_sound : (table : Table) (t : Ticket) (o : Option ContextDoing) (answer : Again) → doing_in_contexts table.contexts t ≡ o
    → IsSound table
    → IsSound (relocked table t (backed_off_for o) answer)
relock_sound table t (Some (BackedOff id)) GotAgain is s =
    record {
      held = λ place y e.
          set_sound table.contexts t y Taking (BackedOff id) is tt
          (λ ne.
          ⊎_elim
          (λ (same : t ≡ y). absurd (ne (ap (λ (u : Ticket). u.0) (sym same))))
          (λ before. s.held place y before)
          (held-taken t y table.holders (lock_place id) place e));
    }
relock_sound table t (Some (BackedOff id)) (Held holder) is s = s
relock_sound table t (Some (MustBackOff id)) answer is s = s
relock_sound table t (Some Taking) answer is s = s
relock_sound table t None answer is s = s

drop_all_sound : (table : Table) (t : Ticket) → IsSound table → IsSound (after_drop_all table t)
drop_all_sound table t s =
    record {
      held = λ place y e.
          let before = held-freed t y table.holders place e in
          subst MayHold (sym (doing_in-over t y table.contexts before.1)) (s.held place y before.0);
    }

-- each call keeps the table sound
pub after_sound : (table : Table) (call : Call) → IsCallAllowed table call → IsSound table → IsSound (after_call table call)
after_sound table (Begin client) may s = begin_sound table client s
after_sound table (Lock t id) may s = lock_sound table t id (lock_answer t (holder_of table id)) may.taking s
after_sound table (Backoff t) may s = backoff_sound table t (must_back_off_for (doing_of table t)) s
after_sound table (Relock t) may s = relock_sound table t (doing_of table t) (relock_answer table t) refl s
after_sound table (DropAll t) may s = drop_all_sound table t s

all_sound : (table : Table) (calls : List Call) → AreAllowed table calls → IsSound table → IsSound (after_all table calls)
all_sound table [] may s = s
all_sound table (call ∷ calls) may s = all_sound (after_call table call) calls may.1 (after_sound table call may.0 s)

-- in the new table nobody holds anything
free : (n place : ℕ) (y : Ticket) → get_or (replicate n None) place None ≡ Some y → ⊥
free zero place y e = cc
free (suc n) zero y e = cc
free (suc n) (suc place) y e = free n place y e

-- after every list of calls the table is sound
pub always_sound : (calls : List Call) → AreAllowed empty_table calls → IsSound (after_all empty_table calls)
always_sound calls may = all_sound empty_table calls may (record { held = λ place y e. absurd (free 28 place y e) })
