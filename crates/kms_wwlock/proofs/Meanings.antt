-- What the changes of the table mean for who holds what and for what contexts do.
use Rattle.std.proofs.Common.{◌≡◌, ◌≢◌, ℕ, ◌+◌, ◌-◌, ◌<◌, ◌≤◌, List, length, map, set, Option, Some, None, refl, ap, ◌∙◌, arith}
use Rattle.std.proofs.Math.ListN.{get_or-map}
use Rattle.std.proofs.lemmas.List.{get_or-set_same, get_or-set_other}
use Rattle.std.proofs.lemmas.Bool.{cond-true, cond-false, lt-ltb, le-ltb}
use Rattle.kms_model.specs.declared.objects.Kind.{Kind}
use Rattle.kms_model.specs.declared.objects.Kind.TheVariants.{Crtc, Plane, Conn}
use Rattle.kms_model.specs.declared.objects.ObjId.{ObjId}
use Rattle.kms_model.specs.Device.Objects.{first_id, kind_of}
use Rattle.kms_model.specs.declared.objects.Ticket.{Ticket}
use Rattle.kms_wwlock.specs.declared.contexts.Context.{Context}
use Rattle.kms_wwlock.specs.declared.contexts.ContextDoing.{ContextDoing}
use Rattle.kms_wwlock.specs.declared.contexts.ContextDoing.TheVariants.{Taking, BackedOff}
use Rattle.kms_wwlock.specs.Objects.{IsLockable, lock_place, locks_before}
use Rattle.kms_wwlock.specs.Table.{Table, doing_of, AreOfTable}
use Rattle.kms_wwlock.specs.Calls.{with_doing, holder_without, set_doing, locked_by, unlocked, IsTakenBy, IsDoing, AreUnlocked, after_begin}
use Rattle.kms_wwlock.specs.Calls.{next_ticket, after_drop_all}
use Rattle.kms_wwlock.proofs.Lookups.{doing_in-others, doing_in-set, doing_in-beginner, doing_in-beside, doing_in-over, doing_in-gone}
use Rattle.kms_wwlock.proofs.Kept.{none_at}

-- places

-- two lockable objects have two places, all of them below 28
record IsPlaced (id : ObjId) : Type 0 where
  crtc : id.0 < 200 → (lock_place id ≡ id.0 - 100) × (100 ≤ id.0) × (id.0 < 104)
  plane : 200 ≤ id.0 → id.0 < 300 → (lock_place id ≡ id.0 - 200 + 4) × (id.0 < 216)
  connector : 300 ≤ id.0 → (lock_place id ≡ id.0 - 300 + 20) × (id.0 < 308)

-- the place by the kind
of_kind : (id : ObjId) (kind : Kind) → kind_of id.0 ≡ kind → lock_place id ≡ locks_before kind + (id.0 - first_id kind)
unfolding lock_place
of_kind id kind is = ap (λ (k : Kind). locks_before k + (id.0 - first_id k)) is

placed : (id : ObjId) → IsLockable id → IsPlaced id
placed id is =
    record {
      crtc = λ lt.
          let at : lock_place id ≡ 0 + (id.0 - 100) = of_kind id Crtc (cond-true _ _ _ (lt-ltb id.0 200 lt)) in
          (omega arith, omega arith, omega arith);
      plane = λ ge lt.
          let at : lock_place id ≡ 4 + (id.0 - 200) = of_kind id Plane
          (cond-false _ _ _ (le-ltb id.0 200 ge) ∙ cond-true _ _ _ (lt-ltb id.0 300 lt)) in
          (omega arith, omega arith);
      connector = λ ge.
          let at : lock_place id ≡ 20 + (id.0 - 300) = of_kind id Conn
          (cond-false _ _ _ (le-ltb id.0 200 (omega arith)) ∙
          (cond-false _ _ _ (le-ltb id.0 300 ge) ∙ cond-true _ _ _ (lt-ltb id.0 400 (omega arith)))) in
          (omega arith, omega arith);
    }

pub place_of_within : (id : ObjId) → IsLockable id → lock_place id < 28
place_of_within id is = let p = placed id is in grind (arith, p.crtc, p.plane, p.connector)

pub place_of_apart : (a b : ObjId) → IsLockable a → IsLockable b → a.0 ≢ b.0 → lock_place a ≢ lock_place b
place_of_apart a b la lb ne = λ same.
    let p = placed a la in
    let q = placed b lb in
    grind (arith, p.crtc, p.plane, p.connector, q.crtc, q.plane, q.connector)

-- holders

pub taken_by : (table : Table) (t : Ticket) (id : ObjId) → length table.holders ≡ 28 → IsLockable id
    → IsTakenBy table (locked_by table t id) t id
taken_by table t id long is =
    let within = place_of_within id is in
    record {
      locked_by = get_or-set_same table.holders (lock_place id) (Some t) None (omega arith);
      others = λ other is_other ne. get_or-set_other table.holders (lock_place id) (lock_place other) (Some t) None
          (place_of_apart other id is_other is ne);
    }

pub freed_all : (table : Table) (t : Ticket) → AreUnlocked table (unlocked table t) t
freed_all table t id = get_or-map (holder_without t) table.holders (lock_place id) None

-- contexts

pub set_is_doing : (table : Table) (t : Ticket) (d e : ContextDoing) → doing_of table t ≡ Some e
    → IsDoing table (set_doing table t d) t (Some d)
set_is_doing table t d e found =
    record {
      now = doing_in-set t d e table.contexts found;
      others = λ other ne. doing_in-others t other d table.contexts ne;
    }

pub next_is_fresh : (table : Table) → AreOfTable table.contexts table.drawn → doing_of table (next_ticket table) ≡ None
next_is_fresh table kept = none_at (next_ticket table) table.contexts table.drawn kept.below (omega arith)

pub begun_is_doing : (table : Table) (client : ℕ) → AreOfTable table.contexts table.drawn
    → IsDoing table (after_begin table client) (next_ticket table) (Some Taking)
begun_is_doing table client kept =
    let new : Context = record { ticket = next_ticket table; client = client; doing = Taking } in
    record {
      now = doing_in-beginner new table.contexts (next_is_fresh table kept);
      others = λ other ne. doing_in-beside new other table.contexts ne;
    }

pub over_is_doing : (table : Table) (t : Ticket) → IsDoing table (after_drop_all table t) t None
over_is_doing table t =
    record {
      now = doing_in-gone t table.contexts;
      others = λ other ne. doing_in-over t other table.contexts ne;
    }

-- the context of a ticket goes on to something else, whatever happens to the holders
pub set_at : (table : Table) (t : Ticket) (d e : ContextDoing) (holders : List (Option Ticket)) (contexts : List Context)
    → contexts ≡ map (with_doing t d) table.contexts → doing_of table t ≡ Some e
    → IsDoing table (record table { holders = holders; contexts = contexts }) t (Some d)
set_at table t d e holders contexts now found =
    let goes = set_is_doing table t d e found in
    let on : IsDoing table (record table { holders = holders; contexts = map (with_doing t d) table.contexts }) t (Some d) =
    record { now = goes.now; others = goes.others } in
    rw now on

-- together

-- the context of a ticket that backed off for an object takes it, and goes on
pub relocked_at : (table : Table) (t : Ticket) (id : ObjId) (place : ℕ) (contexts : List Context) → length table.holders ≡ 28
    → IsLockable id
    → place ≡ lock_place id → contexts ≡ map (with_doing t Taking) table.contexts → doing_of table t ≡ Some (BackedOff id)
    → IsTakenBy table (record table { holders = set table.holders place (Some t); contexts = contexts }) t id
    × IsDoing table (record table { holders = set table.holders place (Some t); contexts = contexts }) t (Some Taking)
relocked_at table t id place contexts long is at now off =
    let new : ℕ → List Context → Table = λ p cs. record table { holders = set table.holders p (Some t); contexts = cs } in
    let holds = taken_by table t id long is in
    let there : IsTakenBy table (new (lock_place id) (map (with_doing t Taking) table.contexts)) t id =
    record { locked_by = holds.locked_by; others = holds.others } in
    rw (at, now) (
      there,
      set_at table t Taking (BackedOff id) (set table.holders (lock_place id) (Some t))
          (map (with_doing t Taking) table.contexts) refl off,
    )
