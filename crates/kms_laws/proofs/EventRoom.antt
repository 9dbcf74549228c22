-- A client has at most 128 events that are reserved or unread: 4096 bytes, 32 for each.
use Rattle.std.proofs.Common.{◌≡◌, ℕ, ◌+◌, ◌-◌, ◌*◌, ◌<◌, ◌≤◌, List, [], ◌∷◌, ◌++◌, length, Bool, true, false, ◌&&◌, Option, Some, None}
use Rattle.std.proofs.Common.{refl, sym, ap, ◌∙◌, subst, arith, ⊎_elim, length-append}
use Rattle.std.specs.Prelude.{nat_lt}
use Rattle.std.proofs.lemmas.Bool.{cases_eq, cases_lt, lt-ltb}
use Rattle.kms_model.specs.declared.objects.Topology.{Topology}
use Rattle.kms_model.specs.declared.replies.Event.{Event}
use Rattle.kms_model.specs.declared.scripts.Request.{Request}
use Rattle.kms_model.specs.declared.scripts.Script.{Script}
use Rattle.kms_model.specs.declared.objects.Kind.TheVariants.{Crtc}
use Rattle.kms_model.specs.Device.Objects.{ids_of}
use Rattle.kms_model.specs.Machine.Commits.{asks_event, commit_at, is_all_written}
use Rattle.kms_model.specs.Machine.Effects.{counts_vblank, event_of}
use Rattle.kms_model.specs.Machine.Registers.{read}
use Rattle.kms_model.specs.Machine.State.{Events, Machine, count_at, go_at, reserved_at, unread_at}
use Rattle.kms_model.specs.Machine.Steps.{lacks_space, may_swap, space_used}
use Rattle.kms_model.specs.Request.Flags.{wants_event}
use Rattle.kms_model.specs.Request.Named.{named}
use Rattle.kms_model.proofs.Guards.{IsFlush, swap_guards}
use Rattle.kms_model.proofs.Items.{IsIn}
use Rattle.kms_laws.proofs.Basics.{both_bools, pair_now, read_other, read_same}
use Rattle.kms_laws.proofs.EachStep.{Carries, by_latch, by_two, latched_as, swapped_as}
use Rattle.kms_laws.proofs.EventsKept.{reserved_some}
use Rattle.kms_laws.proofs.EventsOnce.{HasEvents, events_carried}
use Rattle.kms_laws.proofs.Objects.{crtc_index}
use Rattle.kms_laws.proofs.Steps.{Holds, flushed_at, flushed_holds, fresh-unlatched}
use Rattle.kms_laws.proofs.Traversal.{latch_of}

abbrev pub HasRoom : Events → Type 0
HasRoom ev = (client : ℕ) → reserved_at ev client + length (unread_at ev client) ≤ 128

-- a client's reserved number and unread events become others
room_with : (ev : Events) (owner reserved : ℕ) (unread : List Event) → reserved + length unread ≤ 128 → HasRoom ev
    → HasRoom (record ev { reserved = (owner, reserved) ∷ ev.reserved; unread = (owner, unread) ∷ ev.unread })
room_with ev owner reserved unread few room client =
    ⊎_elim
    (λ (same : owner ≡ client).
    subst (λ z. read 0 ((owner, reserved) ∷ ev.reserved) z + length (read [] ((owner, unread) ∷ ev.unread) z) ≤ 128) same
    (let a = read_same 0 ev.reserved owner reserved in let b = ap length (read_same [] ev.unread owner unread) in omega (arith, few, a, b)))
    (λ ne.
    let a = read_other 0 ev.reserved owner client reserved ne in
    let b = ap length (read_other [] ev.unread owner client unread ne) in
    let c = room client in
    omega (arith, a, b, c))
    (cases_eq owner client)

room_reserved : (ev : Events) (owner reserved : ℕ) → reserved + length (unread_at ev owner) ≤ 128 → HasRoom ev
    → HasRoom (record ev { reserved = (owner, reserved) ∷ ev.reserved })
room_reserved ev owner reserved few room client =
    ⊎_elim
    (λ (same : owner ≡ client).
    subst (λ z. read 0 ((owner, reserved) ∷ ev.reserved) z + length (unread_at ev z) ≤ 128) same
    (let a = read_same 0 ev.reserved owner reserved in omega (arith, few, a)))
    (λ ne. let a = read_other 0 ev.reserved owner client reserved ne in let c = room client in omega (arith, a, c))
    (cases_eq owner client)

room_read : (ev : Events) (client : ℕ) (event : Event) (events : List Event) → unread_at ev client ≡ event ∷ events → HasRoom ev
    → HasRoom (record ev { unread = (client, events) ∷ ev.unread; events_read = (client, event) ∷ ev.events_read })
room_read ev client event events e room other =
    ⊎_elim
    (λ (same : client ≡ other).
    subst (λ z. reserved_at ev z + length (read [] ((client, events) ∷ ev.unread) z) ≤ 128) same
    (let a = ap length (read_same [] ev.unread client events) in let b = ap length e in let c = room client in omega (arith, a, b, c)))
    (λ ne. let a = ap length (read_other [] ev.unread client other events ne) in let c = room other in omega (arith, a, c))
    (cases_eq client other)

-- a request that is swapped has space for its events
swap-few : (t : Topology) (m : Machine) (client : ℕ) (r : Request) → lacks_space t m client r ≡ false → wants_event r.flags ≡ true
    → reserved_at m.events client + length (named t m.device.world r) + length (unread_at m.events client) ≤ 128
unfolding lacks_space
swap-few t m client r space wants =
    let full : nat_lt 4096 (space_used m.events client + 32 * length (named t m.device.world r))
    ≡ false = sym (ap (λ b. b && nat_lt 4096 (space_used m.events client + 32 * length (named t m.device.world r))) wants) ∙ space in
    ⊎_elim
    (λ (lt : 4096 < space_used m.events client + 32 * length (named t m.device.world r)). absurd (both_bools _ (lt-ltb 4096 _ lt) full))
    (λ (le : space_used m.events client + 32 * length (named t m.device.world r) ≤ 4096). omega (arith, le))
    (cases_lt 4096 (space_used m.events client + 32 * length (named t m.device.world r)))

module _ (s : Script) (m : Machine) (H : Holds s m) (E : HasEvents s m) (room : HasRoom m.events) where
  swap_room : (client : ℕ) (r : Request) → may_swap s.topology m client r ≡ true → (b w : Bool) → wants_event r.flags ≡ b
      → HasRoom (swapped_as s.topology b w m client r).events
  swap_room client r may = by_two (λ b w. wants_event r.flags ≡ b → HasRoom (swapped_as s.topology b w m client r).events) more more
      (λ e. room) (λ e. room)
    where
      more : wants_event r.flags ≡ true → HasRoom (record m.events
          { reserved = (client, reserved_at m.events client + length (named s.topology m.device.world r)) ∷ m.events.reserved })
      more wants = room_reserved m.events client (reserved_at m.events client + length (named s.topology m.device.world r))
          (swap-few s.topology m client r (swap_guards s.topology m client r may).space wants) room

  -- the event of a commit becomes unread, where one is reserved
  delivered_room : (k c count : ℕ) → 1 ≤ reserved_at m.events (commit_at s.topology m.device.commits k).client
      → HasRoom (record m.events {
        reserved = (
          (commit_at s.topology m.device.commits k).client,
          reserved_at m.events (commit_at s.topology m.device.commits k).client - 1,
        )
            ∷ m.events.reserved;
        unread = (
          (commit_at s.topology m.device.commits k).client,
          unread_at m.events (commit_at s.topology m.device.commits k).client ++ event_of s.topology m k c count ∷ [],
        ) ∷ m.events.unread;
      })
  delivered_room k c count some =
      let owner = (commit_at s.topology m.device.commits k).client in
      room_with m.events owner (reserved_at m.events owner - 1) (unread_at m.events owner ++ event_of s.topology m k c count ∷ [])
      (let a = room owner in let b = length-append (unread_at m.events owner) (event_of s.topology m k c count ∷ [])
      in omega (arith, a, b, some)) room

  flush_room : (k c : ℕ) → is_all_written s.topology m.device k ≡ true → IsFlush s.topology m k c → (b : Bool) (o : Option ℕ)
      → asks_event s.topology m.device.commits k ≡ b
      → HasRoom (latched_as s.topology b o (flushed_at m k c) k c (count_at m.device c)).events
  flush_room k c written f =
      by_latch (λ b o. asks_event s.topology m.device.commits k ≡ b
      → HasRoom (latched_as s.topology b o (flushed_at m k c) k c (count_at m.device c)).events) more (λ fence. more) (λ e. room)
      (λ fence e. room)
    where
      more : asks_event s.topology m.device.commits k ≡ true
          → HasRoom (latched_as s.topology true None (flushed_at m k c) k c (count_at m.device c)).events
      more asks =
          let T = (flushed_holds s m H k c written f).tail in
          delivered_room k c (count_at m.device c)
          (reserved_some T k c (count_at m.device c) (latch_of s.topology m.device k c (count_at m.device c)) f.is_crtc
          (pair_now k c m.device.marks.flushed) (fresh-unlatched s m H k c f) refl (crtc_index s.topology c T.few f.is_crtc) refl
          m.events E asks)

  vblank_room : (k c : ℕ) → IsIn c (ids_of s.topology Crtc) → go_at m.device c ≡ Some k → (b : Bool) (o : Option ℕ)
      → asks_event s.topology m.device.commits k ≡ b
      → HasRoom (latched_as s.topology b o (counts_vblank m c) k c (count_at m.device c + 1)).events
  vblank_room k c is g =
      by_latch (λ b o. asks_event s.topology m.device.commits k ≡ b
      → HasRoom (latched_as s.topology b o (counts_vblank m c) k c (count_at m.device c + 1)).events) more (λ fence. more) (λ e. room)
      (λ fence e. room)
    where
      more : asks_event s.topology m.device.commits k ≡ true
          → HasRoom (latched_as s.topology true None (counts_vblank m c) k c (count_at m.device c + 1)).events
      more asks =
          let pending = H.tail.marks.go_is k c g in
          delivered_room k c (count_at m.device c + 1)
          (reserved_some H.tail k c (count_at m.device c + 1) (latch_of s.topology m.device k c (count_at m.device c + 1)) is
          pending.flushed pending.unlatched refl (crtc_index s.topology c H.tail.few is) refl m.events E asks)

  pub carries_room : Carries s m (λ step m2. HasRoom m2.events)
  carries_room = events_carried s m (λ cs ls ev. HasRoom ev) room swap_room
      (λ client event events some. room_read m.events client event events some room) flush_room vblank_room
