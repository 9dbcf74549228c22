-- Events are delivered once: what each step keeps.
use Rattle.std.proofs.Common.{◌≡◌, ℕ, suc, ◌+◌, ◌-◌, ◌<◌, ◌≤◌, List, [], ◌∷◌, ◌++◌, length, map, Bool, true, false, not, ◌&&◌, ◌==◌, Option}
use Rattle.std.proofs.Common.{Some, None, refl, sym, ap, ◌∙◌, subst, arith, inl, inr, ⊎_elim, append_assoc, append-nil}
use Rattle.std.specs.Prelude.{if◌then◌else◌, filter, reverse, ◌%◌, ◌^◌}
use Rattle.std.specs.List.{filter_map, flat_map, range_with_len}
use Rattle.std.proofs.lemmas.Bool.{and_from, and_left, and_right, cases_Bool, cases_eq, cond-true, cond-false, eq-eqb, false_from_ne_true}
use Rattle.std.proofs.lemmas.Bool.{ne_eqb}
use Rattle.std.proofs.Math.Nat.{add-zero}
use Rattle.std.proofs.lemmas.List.{map-append}
use Rattle.std.proofs.lemmas.List.Elements.{filter-append}
use Rattle.kms_model.specs.declared.objects.Kind.TheVariants.{Crtc}
use Rattle.kms_model.specs.declared.objects.Topology.{Topology}
use Rattle.kms_model.specs.declared.replies.Event.{Event}
use Rattle.kms_model.specs.declared.runs.Latch.{Latch}
use Rattle.kms_model.specs.Device.Objects.{count_of, ids_of, object_id}
use Rattle.kms_model.specs.Machine.Commits.{asks_event, commit_at, commit_names, has_latched, has_pair, is_latch_of, new_values}
use Rattle.kms_model.specs.Machine.Registers.{Registers, read}
use Rattle.kms_model.specs.Machine.State.{Commit, Events, Marks, reserved_at, unread_at}
use Rattle.kms_model.specs.Promises.{event_of_latch}
use Rattle.kms_model.specs.Request.Flags.{wants_event}
use Rattle.kms_model.specs.Request.Named.{named, names}
use Rattle.kms_model.proofs.Items.{IsIn, IsObject, filter-same, ids-in, list_any-has}
use Rattle.kms_model.proofs.CommitFacts.{commit_old, commit_new}
use Rattle.kms_laws.proofs.Basics.{both_bools, read_other, read_same}
use Rattle.kms_laws.proofs.EventCounts.{counts-less, counts-more, counts-same, filter-less, option_list, told-more, told-same}
use Rattle.kms_laws.proofs.Invariants.{Tail}
use Rattle.kms_laws.proofs.Numbered.{names_new, names_old}
use Rattle.kms_laws.proofs.Present.{reverse_more}
use Rattle.kms_laws.proofs.Swapped.{flush_within}
use Rattle.kms_laws.proofs.Tails.{latch_cases, latch_more, latch_now}

-- the CRTCs at which a commit of a client has still to latch, if it asks for events
abbrev pub awaited : Topology → List Commit → List Latch → ℕ → ℕ → List ℕ
awaited t cs ls client k =
    if asks_event t cs k && ((commit_at t cs k).client == client)
    then filter (λ crtc. commit_names t cs k crtc && not (has_latched ls k crtc)) (ids_of t Crtc)
    else []

-- what a client has read
abbrev pub events_by : Events → ℕ → List Event
events_by ev client = map (λ e. e.1) (filter (λ e. e.0 == client) (reverse ev.events_read))

pub record EventsStand (t : Topology) (cs : List Commit) (ls : List Latch) (ev : Events) : Type 0 where
  pub told : (client : ℕ) → events_by ev client ++ unread_at ev client ≡ filter_map (event_of_latch t cs client) (reverse ls)
  pub counted : (client : ℕ) → reserved_at ev client ≡ length (flat_map (awaited t cs ls client) (range_with_len 0 (length cs)))

latched_in : (ls : List Latch) (l : Latch) → IsIn l ls → has_latched ls l.commit (object_id Crtc l.crtc) ≡ true
unfolding has_latched
latched_in ls l is = list_any-has (is_latch_of l.commit (object_id Crtc l.crtc)) ls l is
    (and_from _ _ (eq-eqb l.commit l.commit refl) (eq-eqb (object_id Crtc l.crtc) (object_id Crtc l.crtc) refl))

-- A swap

module _ {t : Topology} {cs : List Commit} {ms : Marks} {sh : Registers} {go : List (ℕ × Option ℕ)} {ls : List Latch}
    (T : Tail t cs ms sh go ls) (x : Commit) where
  latched_within : (k c : ℕ) → has_latched ls k c ≡ true → k < length cs
  latched_within k c h = flush_within T k c (T.marks.latched k c h)

  event_if : ℕ → Latch → Commit → Option Event
  event_if client l z =
      if wants_event z.request.flags && (z.client == client)
      then Some (record { user_data = z.request.user_data; sequence = l.count % 2 ^ 32; crtc = object_id Crtc l.crtc })
      else None

  told_old : (client : ℕ) → filter_map (event_of_latch t (x ∷ cs) client) (reverse ls)
      ≡ filter_map (event_of_latch t cs client) (reverse ls)
  unfolding event_if
  told_old client =
      told-same (event_of_latch t (x ∷ cs) client) (event_of_latch t cs client) ls
      (λ l is. ap (event_if client l) (commit_old t x cs l.commit (latched_within l.commit (object_id Crtc l.crtc) (latched_in ls l is))))

  awaited_if : ℕ → (ℕ → Bool) → Commit → List ℕ
  awaited_if client test z = if wants_event z.request.flags && (z.client == client) then filter test (ids_of t Crtc) else []

  awaited_old : (client k : ℕ) → k < length cs → awaited t (x ∷ cs) ls client k ≡ awaited t cs ls client k
  unfolding awaited_if
  awaited_old client k l =
      (λ i. awaited_if client (λ crtc. names_old t x cs k crtc l i && not (has_latched ls k crtc)) (commit_old t x cs k l i))

  unlatched_new : (c : ℕ) → has_latched ls (length cs) c ≡ false
  unlatched_new c = false_from_ne_true _ (λ y. absurd (let l = latched_within (length cs) c y in omega arith))

  named_new : filter (λ crtc. commit_names t (x ∷ cs) (length cs) crtc && not (has_latched ls (length cs) crtc)) (ids_of t Crtc)
      ≡ named t x.world x.request
  named_new =
      filter-same (λ crtc. commit_names t (x ∷ cs) (length cs) crtc && not (has_latched ls (length cs) crtc))
      (names x.world.values (new_values x) x.request.assigns) (ids_of t Crtc)
      (λ c i. (λ z. names_new t x cs c z && not (unlatched_new c z)) ∙ and_true (names x.world.values (new_values x) x.request.assigns c))
    where
      and_true : (b : Bool) → (b && true) ≡ b
      and_true true = refl
      and_true false = refl

  awaited_new : (client : ℕ) → awaited t (x ∷ cs) ls client (length cs)
      ≡ (if wants_event x.request.flags && (x.client == client) then named t x.world x.request else [])
  unfolding awaited_if
  awaited_new client =
      ap (awaited_if client (λ crtc. commit_names t (x ∷ cs) (length cs) crtc && not (has_latched ls (length cs) crtc))) (commit_new t x cs)
      ∙ ap (λ xs. if wants_event x.request.flags && (x.client == client) then xs else []) named_new

  counted_more : (client : ℕ) → length (flat_map (awaited t (x ∷ cs) ls client) (range_with_len 0 (suc (length cs))))
      ≡ length (flat_map (awaited t cs ls client) (range_with_len 0 (length cs)))
      + length (if wants_event x.request.flags && (x.client == client) then named t x.world x.request else [])
  counted_more client =
      counts-more (awaited t (x ∷ cs) ls client) (length cs)
      ∙ (λ i. counts-same (awaited t (x ∷ cs) ls client) (awaited t cs ls client) 0 (length cs)
      (λ k l m. ap length (awaited_old client k (omega arith))) i + length (awaited_new client i))

  -- events are reserved where the request asks for them
  pub swap_events : (ev : Events) → EventsStand t cs ls ev → (b : Bool) → wants_event x.request.flags ≡ b
      → EventsStand t (x ∷ cs) ls (if b then record ev
      { reserved = (x.client, reserved_at ev x.client + length (named t x.world x.request)) ∷ ev.reserved } else ev)
  swap_events ev E false e = record {
    told = λ client. E.told client ∙ sym (told_old client);
    counted = λ client.
        E.counted client ∙ sym (add-zero _)
        ∙ ap (λ z. length (flat_map (awaited t cs ls client) (range_with_len 0 (length cs)))
        + length (if z && (x.client == client) then named t x.world x.request else [])) (sym e)
        ∙ sym (counted_more client);
  }
  swap_events ev E true e = record {
    told = λ client. E.told client ∙ sym (told_old client);
    counted = λ client.
        ⊎_elim
        (λ (same : x.client ≡ client).
        subst (λ c. read 0 ((x.client, reserved_at ev x.client + length (named t x.world x.request)) ∷ ev.reserved) c
        ≡ length (flat_map (awaited t (x ∷ cs) ls c) (range_with_len 0 (suc (length cs))))) same
        (read_same 0 ev.reserved x.client _
        ∙ (λ i. E.counted x.client i + length (named t x.world x.request))
        ∙ ap (λ z. length (flat_map (awaited t cs ls x.client) (range_with_len 0 (length cs)))
        + length (if z then named t x.world x.request else [])) (sym (and_from _ _ e (eq-eqb x.client x.client refl)))
        ∙ sym (counted_more x.client)))
        (λ ne.
        read_other 0 ev.reserved x.client client _ ne ∙ E.counted client ∙ sym (add-zero _)
        ∙ ap (λ z. length (flat_map (awaited t cs ls client) (range_with_len 0 (length cs)))
        + length (if z then named t x.world x.request else []))
        (sym (and_right (wants_event x.request.flags) _ (ne_eqb x.client client ne)))
        ∙ sym (counted_more client))
        (cases_eq x.client client);
  }

-- A latch

module _ {t : Topology} {cs : List Commit} {ms : Marks} {sh : Registers} {go : List (ℕ × Option ℕ)} {ls : List Latch}
    (T : Tail t cs ms sh go ls) (k c count : ℕ) (l : Latch)
    (is_crtc : IsIn c (ids_of t Crtc)) (F : has_pair ms.flushed k c ≡ true) (un : has_latched ls k c ≡ false) (of_k : l.commit ≡ k)
    (at_c : object_id Crtc l.crtc ≡ c) (counts : l.count ≡ count) where
  event : Event
  event = record { user_data = (commit_at t cs k).request.user_data; sequence = count % 2 ^ 32; crtc = c }

  owner : ℕ
  owner = (commit_at t cs k).client

  event_is : (client : ℕ) → event_of_latch t cs client l ≡ (if asks_event t cs k && (owner == client) then Some event else None)
  unfolding event owner
  event_is client =
      (λ i. if asks_event t cs (of_k i) && ((commit_at t cs (of_k i)).client == client)
      then Some (record { user_data = (commit_at t cs (of_k i)).request.user_data; sequence = counts i % 2 ^ 32; crtc = at_c i })
      else None)

  latched_other : (j d : ℕ) → ((j ≡ k) × (d ≡ c) → ⊥) → has_latched (l ∷ ls) j d ≡ has_latched ls j d
  latched_other j d apart =
      elim (cases_Bool (has_latched ls j d)) [
        | inl y ↦ latch_more l ls j d y ∙ sym y
        | inr n ↦ false_from_ne_true _ (λ y. ⊎_elim (λ (same : (l.commit ≡ j) × (object_id Crtc l.crtc ≡ d)). apart
            (sym same.0 ∙ of_k, sym same.1 ∙ at_c)) (λ old. both_bools _ old n) (latch_cases l ls j d y)) ∙ sym n
      ]

  same_other : (client j : ℕ) → (j ≡ k → ⊥) → length (awaited t cs ls client j) ≡ length (awaited t cs (l ∷ ls) client j)
  same_other client j ne =
      ap (λ xs. length (if asks_event t cs j && ((commit_at t cs j).client == client) then xs else []))
      (filter-same (λ crtc. commit_names t cs j crtc && not (has_latched ls j crtc))
      (λ crtc. commit_names t cs j crtc && not (has_latched (l ∷ ls) j crtc)) (ids_of t Crtc)
      (λ d i. ap (λ b. commit_names t cs j d && not b) (sym (latched_other j d (λ e. ne e.0)))))

  -- nothing is awaited of it by another client, or where it asks for no event
  none_awaited : (ls2 : List Latch) (client : ℕ) → (asks_event t cs k && (owner == client)) ≡ false → awaited t cs ls2 client k ≡ []
  unfolding owner
  none_awaited ls2 client e = cond-false (asks_event t cs k && ((commit_at t cs k).client == client)) _ [] e

  same_all : (client : ℕ) → (asks_event t cs k && (owner == client)) ≡ false
      → length (flat_map (awaited t cs ls client) (range_with_len 0 (length cs)))
      ≡ length (flat_map (awaited t cs (l ∷ ls) client) (range_with_len 0 (length cs)))
  same_all client e =
      counts-same (awaited t cs ls client) (awaited t cs (l ∷ ls) client) 0 (length cs)
      (λ j a b. ⊎_elim
      (λ (same : j ≡ k). subst (λ z. length (awaited t cs ls client z) ≡ length (awaited t cs (l ∷ ls) client z)) (sym same)
      (ap length (none_awaited ls client e ∙ sym (none_awaited (l ∷ ls) client e))))
      (λ ne. same_other client j ne)
      (cases_eq j k))

  some_awaited : (ls2 : List Latch) → asks_event t cs k ≡ true → awaited t cs ls2 owner k
      ≡ filter (λ crtc. commit_names t cs k crtc && not (has_latched ls2 k crtc)) (ids_of t Crtc)
  unfolding owner
  some_awaited ls2 e = cond-true (asks_event t cs k && ((commit_at t cs k).client == (commit_at t cs k).client)) _ []
      (and_from _ _ e (eq-eqb (commit_at t cs k).client (commit_at t cs k).client refl))

  one_less : asks_event t cs k ≡ true → length (awaited t cs ls owner k) ≡ length (awaited t cs (l ∷ ls) owner k) + 1
  one_less e =
      let o : IsObject t Crtc c = ids-in t Crtc c is_crtc in
      ap length (some_awaited ls e)
      ∙ filter-less (λ crtc. commit_names t cs k crtc && not (has_latched ls k crtc))
      (λ crtc. commit_names t cs k crtc && not (has_latched (l ∷ ls) k crtc)) (object_id Crtc) o.index 0 (count_of t Crtc)
      (λ a b (e2 : 100 + a ≡ 100 + b). omega arith) (omega arith) (omega (arith, o.within))
      (subst (λ z. (commit_names t cs k z && not (has_latched ls k z)) ≡ true) o.same
      (and_from _ _ (T.marks.flushed k c F).names (ap not un)))
      (subst (λ z. (commit_names t cs k z && not (has_latched (l ∷ ls) k z)) ≡ false) o.same
      (and_right (commit_names t cs k c) _ (ap not (latch_now l ls k c of_k at_c))))
      (λ j ne. ap (λ b. commit_names t cs k (object_id Crtc j) && not b)
      (sym (latched_other k (object_id Crtc j) (λ both. ne (both.1 ∙ o.same)))))
      ∙ ap (λ xs. length xs + 1) (sym (some_awaited (l ∷ ls) e))

  less_all : asks_event t cs k ≡ true → length (flat_map (awaited t cs ls owner) (range_with_len 0 (length cs)))
      ≡ length (flat_map (awaited t cs (l ∷ ls) owner) (range_with_len 0 (length cs))) + 1
  less_all e =
      counts-less (awaited t cs ls owner) (awaited t cs (l ∷ ls) owner) 0 (length cs) k (omega arith)
      (let w = flush_within T k c F in omega arith) (one_less e) (λ j ne. same_other owner j ne)

  -- the client of a commit that asks for events has one reserved
  pub reserved_some : (ev : Events) → EventsStand t cs ls ev → asks_event t cs k ≡ true → 1 ≤ reserved_at ev (commit_at t cs k).client
  unfolding owner
  reserved_some ev E e = let a = E.counted owner in let b = less_all e in omega (arith, a, b)

  told_none : (ev : Events) → EventsStand t cs ls ev → (client : ℕ) → (asks_event t cs k && (owner == client)) ≡ false → events_by ev client
      ++ unread_at ev client ≡ filter_map (event_of_latch t cs client) (reverse (l ∷ ls))
  told_none ev E client e =
      E.told client ∙ sym (append-nil _)
      ∙ ap (λ o. filter_map (event_of_latch t cs client) (reverse ls) ++ option_list o)
      (sym (event_is client ∙ cond-false (asks_event t cs k && (owner == client)) (Some event) None e))
      ∙ sym (told-more (event_of_latch t cs client) l ls)

  told_one : (ev : Events) → EventsStand t cs ls ev → asks_event t cs k ≡ true → events_by ev owner ++ (unread_at ev owner ++ event ∷ [])
      ≡ filter_map (event_of_latch t cs owner) (reverse (l ∷ ls))
  told_one ev E e =
      sym (append_assoc (events_by ev owner) (unread_at ev owner) (event ∷ []))
      ∙ ap (λ xs. xs ++ event ∷ []) (E.told owner)
      ∙ ap (λ o. filter_map (event_of_latch t cs owner) (reverse ls) ++ option_list o)
      (sym (event_is owner ∙ cond-true (asks_event t cs k && (owner == owner)) (Some event) None
      (and_from _ _ e (eq-eqb owner owner refl))))
      ∙ sym (told-more (event_of_latch t cs owner) l ls)

  -- the event of a latch becomes unread, where its commit asks for one
  pub latch_events : (ev : Events) → EventsStand t cs ls ev → (b : Bool) → asks_event t cs k ≡ b
      → EventsStand t cs (l ∷ ls) (if b then record ev {
        reserved = ((commit_at t cs k).client, reserved_at ev (commit_at t cs k).client - 1)
            ∷ ev.reserved;
        unread = (
          (commit_at t cs k).client,
          unread_at ev (commit_at t cs k).client
              ++ record { user_data = (commit_at t cs k).request.user_data; sequence = count % 2 ^ 32; crtc = c } ∷ [],
        ) ∷ ev.unread;
      } else ev)
  unfolding owner event
  latch_events ev E false e = record {
    told = λ client. told_none ev E client (and_left (asks_event t cs k) _ e);
    counted = λ client. E.counted client ∙ same_all client (and_left (asks_event t cs k) _ e);
  }
  latch_events ev E true e = record {
    told = λ client.
        ⊎_elim
        (λ (same : owner ≡ client).
        subst (λ z. events_by ev z ++ read [] ((owner, unread_at ev owner ++ event ∷ []) ∷ ev.unread) z
        ≡ filter_map (event_of_latch t cs z) (reverse (l ∷ ls))) same
        (ap (λ xs. events_by ev owner ++ xs) (read_same [] ev.unread owner (unread_at ev owner ++ event ∷ [])) ∙ told_one ev E e))
        (λ ne.
        ap (λ xs. events_by ev client ++ xs) (read_other [] ev.unread owner client (unread_at ev owner ++ event ∷ []) ne)
        ∙ told_none ev E client (and_right (asks_event t cs k) _ (ne_eqb owner client ne)))
        (cases_eq owner client);
    counted = λ client.
        ⊎_elim
        (λ (same : owner ≡ client).
        subst (λ z. read 0 ((owner, reserved_at ev owner - 1) ∷ ev.reserved) z
        ≡ length (flat_map (awaited t cs (l ∷ ls) z) (range_with_len 0 (length cs)))) same
        (read_same 0 ev.reserved owner (reserved_at ev owner - 1) ∙ (let a = E.counted owner in let b = less_all e in omega (arith, a, b))))
        (λ ne. read_other 0 ev.reserved owner client (reserved_at ev owner - 1) ne ∙ E.counted client ∙ same_all client
        (and_right (asks_event t cs k) _ (ne_eqb owner client ne)))
        (cases_eq owner client);
  }

-- A read

read-told : (ev : Events) (client : ℕ) (event : Event) (rest : List Event) (other : ℕ) → unread_at ev client ≡ event ∷ rest
    → events_by (record ev { unread = (client, rest) ∷ ev.unread; events_read = (client, event) ∷ ev.events_read }) other
    ++ read [] ((client, rest) ∷ ev.unread) other ≡ events_by ev other ++ unread_at ev other
read-told ev client event rest other e =
    (λ i. ap (map (λ (z : ℕ × Event). z.1)) (ap (filter (λ (z : ℕ × Event). z.0 == other)) (reverse_more (client, event) ev.events_read) ∙
    filter-append (λ (z : ℕ × Event). z.0 == other) (reverse ev.events_read) ((client, event) ∷ [])) i
    ++ read [] ((client, rest) ∷ ev.unread) other)
    ∙ ap (λ xs. xs ++ read [] ((client, rest) ∷ ev.unread) other)
    (map-append (λ (z : ℕ × Event). z.1) (filter (λ (z : ℕ × Event). z.0 == other) (reverse ev.events_read))
    (filter (λ (z : ℕ × Event). z.0 == other) ((client, event) ∷ [])))
    ∙ ⊎_elim
    (λ (same : client ≡ other).
    (λ i. (events_by ev other ++ map (λ (z : ℕ × Event). z.1) (if eq-eqb client other same i then (client, event) ∷ [] else []))
    ++ read [] ((client, rest) ∷ ev.unread) (sym same i))
    ∙ ap (λ xs. (events_by ev other ++ event ∷ []) ++ xs) (read_same [] ev.unread client rest)
    ∙ append_assoc (events_by ev other) (event ∷ []) rest
    ∙ ap (λ xs. events_by ev other ++ xs) (sym e)
    ∙ ap (λ z. events_by ev other ++ unread_at ev z) same)
    (λ ne.
    (λ i. (events_by ev other ++ map (λ (z : ℕ × Event). z.1) (if ne_eqb client other ne i then (client, event) ∷ [] else []))
    ++ read_other [] ev.unread client other rest ne i)
    ∙ ap (λ xs. xs ++ unread_at ev other) (append-nil (events_by ev other)))
    (cases_eq client other)

pub read_events : (t : Topology) (cs : List Commit) (ls : List Latch) (ev : Events) (client : ℕ) (event : Event) (rest : List Event)
    → unread_at ev client ≡ event ∷ rest → EventsStand t cs ls ev
    → EventsStand t cs ls (record ev { unread = (client, rest) ∷ ev.unread; events_read = (client, event) ∷ ev.events_read })
read_events t cs ls ev client event rest e E = record {
  told = λ other. read-told ev client event rest other e ∙ E.told other;
  counted = E.counted;
}
