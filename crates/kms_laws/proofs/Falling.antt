-- Each step but a vblank without GO leaves less to do: a client's commands, a tail, the contexts, or the end.
use Rattle.std.proofs.Common.{◌≡◌, ℕ, ◌+◌, ◌<◌, ◌≤◌, List, ◌∷◌, length, Bool, true, false, not, Option, Some, None, refl, sym, ap, ◌∙◌}
use Rattle.std.proofs.Common.{subst, arith, inl, inr, ◌⊎◌, ⊎_elim}
use Rattle.std.specs.Prelude.{if◌then◌else◌, nat_lt}
use Rattle.std.proofs.lemmas.Bool.{cases_eq, cond-true, cond-false, eq-eqb, false≢true, le-ltb, ltb-true}
use Rattle.kms_model.specs.declared.objects.Ticket.{Ticket}
use Rattle.kms_model.specs.declared.objects.ObjId.{ObjId}
use Rattle.kms_model.specs.declared.runs.Doing.{Doing}
use Rattle.kms_model.specs.declared.runs.Doing.TheVariants as doing
use Rattle.kms_model.specs.declared.runs.Place.{Place}
use Rattle.kms_model.specs.declared.scripts.Script.{Script}
use Rattle.kms_model.specs.Machine.Commits.{lockable}
use Rattle.kms_model.specs.Machine.Effects.{backed_off, dropped}
use Rattle.kms_model.specs.Machine.Registers.{read}
use Rattle.kms_model.specs.Machine.State.{Contexts, Machine, doing_at, has_value, holder_at, place_at}
use Rattle.kms_model.specs.Machine.Steps.{contended, is_taking, must_back_off, ticket_of}
use Rattle.kms_model.specs.Request.Sets.{obj_id}
use Rattle.kms_model.proofs.Items.{IsIn}
use Rattle.kms_laws.specs.Laws.{has_context}
use Rattle.kms_laws.proofs.Basics.{read_other, read_same}
use Rattle.kms_laws.proofs.Contexts.{doing_in, dropped-keeps, dropped-other, holder_in}
use Rattle.kms_laws.proofs.Measure.{IsFreeOr, IsOwnStep, backoffs, is_blocked, is_older, phase, unheld}
use Rattle.kms_laws.proofs.ShorterTails.{filter-most, one-fewer}

-- What a client does

taking-is : (d : Doing) → is_taking d ≡ true → (ticket : Ticket) × (d ≡ doing.Taking ticket)
taking-is (doing.Taking ticket) h = (ticket, refl)
taking-is doing.Idle h = absurd (false≢true h)
taking-is (doing.MustBackOff ticket object) h = absurd (false≢true h)
taking-is (doing.BackedOff ticket object) h = absurd (false≢true h)
taking-is (doing.Returning k) h = absurd (false≢true h)

-- a ticket and an object that a context has
record HasAsked (d : Doing) (make : Ticket → ObjId → Doing) : Type 0 where
  ticket : Ticket
  object : ObjId
  is : d ≡ make ticket object

must-is : (d : Doing) → must_back_off d ≡ true → HasAsked d (λ t o. doing.MustBackOff t o)
must-is (doing.MustBackOff ticket object) h = record { ticket = ticket; object = object; is = refl }
must-is doing.Idle h = absurd (false≢true h)
must-is (doing.Taking ticket) h = absurd (false≢true h)
must-is (doing.BackedOff ticket object) h = absurd (false≢true h)
must-is (doing.Returning k) h = absurd (false≢true h)

-- a context that backed off for an object
record HasBackedOff (d : Doing) (object : ℕ) : Type 0 where
  ticket : Ticket
  asked : ObjId
  is : d ≡ doing.BackedOff ticket asked
  same : asked.0 ≡ object

backed-is : (d : Doing) (object : ℕ) → contended d ≡ Some object → HasBackedOff d object
backed-is (doing.BackedOff ticket o) object e = record { ticket = ticket; asked = o; is = refl; same = cc }
backed-is doing.Idle object e = absurd cc
backed-is (doing.Taking ticket) object e = absurd cc
backed-is (doing.MustBackOff ticket o) object e = absurd cc
backed-is (doing.Returning k) object e = absurd cc

module _ (s : Script) (m : Machine) (client : ℕ) where
  -- the contexts with another place of the client, and other locks
  abbrev pub placed : Doing → List (ℕ × Option ℕ) → Contexts
  placed d locks = record {
    places = (client, record { command = (place_at m client).command; doing = d })
        ∷ m.contexts.places;
    locks = locks;
    tickets = m.contexts.tickets;
  }

  own : (d : Doing) (locks : List (ℕ × Option ℕ)) → doing_in (placed d locks) client ≡ d
  own d locks = ap (λ (p : Place). p.doing) (read_same (record { command = 1; doing = doing.Idle }) m.contexts.places client
      (record { command = (place_at m client).command; doing = d }))

  other : (d : Doing) (locks : List (ℕ × Option ℕ)) (a : ℕ) → (client ≡ a → ⊥) → doing_in (placed d locks) a ≡ doing_in m.contexts a
  other d locks a ne = ap (λ (p : Place). p.doing)
      (read_other (record { command = 1; doing = doing.Idle }) m.contexts.places client a
      (record { command = (place_at m client).command; doing = d }) ne)

  -- one lock more
  locked_holders : (object : ℕ) → holder_at m object ≡ None → (o : ℕ)
      → (read None ((object, Some client) ∷ m.contexts.locks) o ≡ holder_in m.contexts o)
      ⊎ (IsFreeOr client (holder_in m.contexts o) × IsFreeOr client (read None ((object, Some client) ∷ m.contexts.locks) o))
  locked_holders object free o =
      ⊎_elim
      (λ (same : object ≡ o).
      subst (λ z. (read None ((object, Some client) ∷ m.contexts.locks) z ≡ holder_in m.contexts z)
      ⊎ (IsFreeOr client (holder_in m.contexts z) × IsFreeOr client (read None ((object, Some client) ∷ m.contexts.locks) z))) same
      (inr (inl free, inr (read_same None m.contexts.locks object (Some client)))))
      (λ ne. inl (read_other None m.contexts.locks object o (Some client) ne))
      (cases_eq object o)

  locked_taken : (object : ℕ) → holder_at m object ≡ None → (o : ℕ)
      → (read None ((object, Some client) ∷ m.contexts.locks) o ≡ holder_in m.contexts o)
      ⊎ ((holder_in m.contexts o ≡ None) × (read None ((object, Some client) ∷ m.contexts.locks) o ≡ Some client))
  locked_taken object free o =
      ⊎_elim
      (λ (same : object ≡ o).
      subst (λ z. (read None ((object, Some client) ∷ m.contexts.locks) z ≡ holder_in m.contexts z)
      ⊎ ((holder_in m.contexts z ≡ None) × (read None ((object, Some client) ∷ m.contexts.locks) z ≡ Some client))) same
      (inr (free, read_same None m.contexts.locks object (Some client))))
      (λ ne. inl (read_other None m.contexts.locks object o (Some client) ne))
      (cases_eq object o)

  fewer_unheld : (y : Contexts) (object : ℕ) → IsIn object (lockable s.topology) → holder_at m object ≡ None
      → ((o : ℕ) → holder_in y o ≡ read None ((object, Some client) ∷ m.contexts.locks) o) → unheld s.topology y client + 1
      ≤ unheld s.topology m.contexts client
  fewer_unheld y object io free is =
      one-fewer (λ o. not (has_value client (holder_in m.contexts o))) (λ o. not (has_value client (holder_in y o))) (lockable s.topology)
      object io
      (ap (λ h. not (has_value client h)) free)
      (ap (λ h. not (has_value client h)) (is object ∙ read_same None m.contexts.locks object (Some client)) ∙ ap not
      (eq-eqb client client refl))
      (λ o h. ⊎_elim
      (λ (same : object ≡ o). subst (λ z. not (has_value client (holder_in m.contexts z)) ≡ true) same
      (ap (λ f. not (has_value client f)) free))
      (λ ne. ap (λ f. not (has_value client f)) (sym (read_other None m.contexts.locks object o (Some client) ne) ∙ sym (is o)) ∙ h)
      (cases_eq object o))

  pub take_step : (object : ℕ) → IsIn object (lockable s.topology) → is_taking (doing_at m client) ≡ true → holder_at m object ≡ None
      → IsOwnStep s m.contexts (record m.contexts { locks = (object, Some client) ∷ m.contexts.locks }) client
  take_step object io taking free =
      let t = taking-is (doing_at m client) taking in
      record {
        ticket = ap has_context t.1;
        still = ap has_context t.1;
        same_ticket = refl;
        others = λ a ne. refl;
        holders = λ o. locked_holders object free o;
        less =
            (let y : Contexts = record m.contexts { locks = (object, Some client) ∷ m.contexts.locks } in
            let a : phase s.topology y client (doing_at m client) ≡ unheld s.topology y client + 2 = ap (phase s.topology y client) t.1 in
            let b : phase s.topology m.contexts client (doing_at m client) ≡ unheld s.topology m.contexts client
            + 2 = ap (phase s.topology m.contexts client) t.1 in
            let c = fewer_unheld y object io free (λ o. refl) in
            omega (arith, a, b, c));
        kind = inr (record {
          no_more = (let y : Contexts = record m.contexts { locks = (object, Some client) ∷ m.contexts.locks }
              in let a = ap (backoffs y) t.1 in let b = ap (backoffs m.contexts) t.1 in omega (arith, a, b));
          taken = λ o. locked_taken object
              free o;
        });
      }

  pub meet_step : (object holder : ℕ) → is_taking (doing_at m client) ≡ true → holder_at m object ≡ Some holder
      → nat_lt (ticket_of (doing_at m holder)) (ticket_of (doing_at m client)) ≡ true
      → IsOwnStep s m.contexts (placed (doing.MustBackOff (record { 0 = ticket_of (doing_at m client) }) (obj_id object)) m.contexts.locks)
      client
  meet_step object holder taking held older =
      let t = taking-is (doing_at m client) taking in
      let d : Doing = doing.MustBackOff (record { 0 = ticket_of (doing_at m client) }) (obj_id object) in
      let y : Contexts = placed d m.contexts.locks in
      let lt : ticket_of (doing_at m holder) < ticket_of (doing_at m client) = ltb-true (ticket_of (doing_at m holder))
      (ticket_of (doing_at m client)) older in
      let apart : client ≡ holder → ⊥ = (λ same. let z = ap (λ a. ticket_of (doing_at m a)) same in absurd (omega (arith, z, lt))) in
      let blocked : is_blocked y (ticket_of (doing_at m client)) object ≡ true =
      ap (is_older y (ticket_of (doing_at m client))) held ∙ ap (λ z. nat_lt (ticket_of z) (ticket_of (doing_at m client)))
      (other d m.contexts.locks holder apart) ∙ older in
      record {
        ticket = ap has_context t.1;
        still = ap has_context (own d m.contexts.locks);
        same_ticket = ap ticket_of (own d m.contexts.locks);
        others = λ a ne. other d m.contexts.locks a ne;
        holders = λ o. inl refl;
        less =
            (let a : phase s.topology y client (doing_in y client) ≡ 1 =
            ap (phase s.topology y client) (own d m.contexts.locks) ∙ cond-true (is_blocked y (ticket_of (doing_at m client)) object) 1
            (length (lockable s.topology) + 4) blocked in
            let b : phase s.topology m.contexts client (doing_at m client) ≡ unheld s.topology m.contexts client
            + 2 = ap (phase s.topology m.contexts client) t.1 in
            omega (arith, a, b));
        kind =
            inr (record {
              no_more =
                  (let a : backoffs y (doing_in y client) ≡ 1 = ap (backoffs y) (own d m.contexts.locks) ∙ cond-true
                  (is_blocked y (ticket_of (doing_at m client)) object) 1 2 blocked in
                  let b : backoffs m.contexts (doing_at m client) ≡ 1 = ap (backoffs m.contexts) t.1 in
                  omega (arith, a, b));
              taken = λ o. inl refl;
            });
      }

  dropped_holders : (o : ℕ) → (read None (dropped client m.contexts.locks) o ≡ holder_in m.contexts o)
      ⊎ (IsFreeOr client (holder_in m.contexts o) × IsFreeOr client (read None (dropped client m.contexts.locks) o))
  dropped_holders o = go (holder_in m.contexts o) refl (read None (dropped client m.contexts.locks) o) refl
    where
      go : (h : Option ℕ) → holder_in m.contexts o ≡ h → (g : Option ℕ) → read None (dropped client m.contexts.locks) o ≡ g
          → (read None (dropped client m.contexts.locks) o ≡ holder_in m.contexts o)
          ⊎ (IsFreeOr client (holder_in m.contexts o) × IsFreeOr client (read None (dropped client m.contexts.locks) o))
      go h e (Some a) f = inl (f ∙ sym (dropped-other client m.contexts.locks o a f))
      go None e None f = inl (f ∙ sym e)
      go (Some b) e None f =
          ⊎_elim
          (λ (same : client ≡ b). inr (inr (e ∙ ap Some (sym same)), inl f))
          (λ ne. absurd (let some : Some b ≡ None = sym (dropped-keeps client m.contexts.locks o b ne e) ∙ f in cc))
          (cases_eq client b)

  pub back_step : must_back_off (doing_at m client) ≡ true
      → IsOwnStep s m.contexts (placed (backed_off (doing_at m client)) (dropped client m.contexts.locks)) client
  back_step must =
      let q = must-is (doing_at m client) must in
      let locks = dropped client m.contexts.locks in
      let y : Contexts = placed (backed_off (doing_at m client)) (dropped client m.contexts.locks) in
      let now : doing_in y client ≡ doing.BackedOff q.ticket q.object = own (backed_off (doing_at m client)) locks ∙ ap backed_off q.is in
      let own_ticket : ticket_of (doing_at m client) ≡ q.ticket.0 = ap ticket_of q.is in
      let tickets : (a : ℕ) → ticket_of (doing_in y a) ≡ ticket_of (doing_in m.contexts a) =
      (λ a. ⊎_elim (λ same. subst (λ z. ticket_of (doing_in y z) ≡ ticket_of (doing_in m.contexts z)) same
      (ap ticket_of now ∙ sym own_ticket)) (λ ne. ap ticket_of (other (backed_off (doing_at m client)) locks a ne)) (cases_eq client a))
      in
      let b = blocked_still y q.ticket.0 q.object.0 tickets own_ticket (dropped_holders q.object.0) in
      record {
        ticket = ap has_context q.is;
        still = ap has_context now;
        same_ticket = tickets client;
        others = λ a ne. other (backed_off (doing_at m client)) locks a ne;
        holders = dropped_holders;
        less =
            (let c : phase s.topology y client (doing_in y client)
            ≡ (if is_blocked y q.ticket.0 q.object.0 then 0 else length (lockable s.topology) + 3) = ap (phase s.topology y client) now
            in
            let d : phase s.topology m.contexts client (doing_at m client)
            ≡ (if is_blocked m.contexts q.ticket.0 q.object.0 then 1 else length (lockable s.topology) + 4) = ap
            (phase s.topology m.contexts client) q.is in
            let e = one_less (is_blocked y q.ticket.0 q.object.0) (is_blocked m.contexts q.ticket.0 q.object.0) b in
            omega (arith, c, d, e));
        kind =
            inl
            (let c : backoffs y (doing_in y client) ≡ (if is_blocked y q.ticket.0 q.object.0 then 0 else 1) = ap (backoffs y) now in
            let d : backoffs m.contexts (doing_at m client)
            ≡ (if is_blocked m.contexts q.ticket.0 q.object.0 then 1 else 2) = ap (backoffs m.contexts) q.is in
            let e = one_backoff (is_blocked y q.ticket.0 q.object.0) (is_blocked m.contexts q.ticket.0 q.object.0) b in
            omega (arith, c, d, e));
      }
    where
      one_less : (a b : Bool) → a ≡ b → (if a then 0 else length (lockable s.topology) + 3) + 1
          ≤ (if b then 1 else length (lockable s.topology) + 4)
      one_less true true e = omega arith
      one_less false false e = omega arith
      one_less true false e = absurd (false≢true (sym e))
      one_less false true e = absurd (false≢true e)

      one_backoff : (a b : Bool) → a ≡ b → (if a then 0 else 1) + 1 ≤ (if b then 1 else 2)
      one_backoff true true e = omega arith
      one_backoff false false e = omega arith
      one_backoff true false e = absurd (false≢true (sym e))
      one_backoff false true e = absurd (false≢true e)

      blocked_still : (y : Contexts) (ticket object : ℕ) → ((a : ℕ) → ticket_of (doing_in y a) ≡ ticket_of (doing_in m.contexts a))
          → ticket_of (doing_at m client) ≡ ticket
          → (holder_in y object ≡ holder_in m.contexts object)
          ⊎ (IsFreeOr client (holder_in m.contexts object) × IsFreeOr client (holder_in y object)) → is_blocked y ticket object
          ≡ is_blocked m.contexts ticket object
      blocked_still y ticket object tickets own_ticket cases =
          ⊎_elim
          (λ same. ap (is_older y ticket) same ∙ by_holder (holder_in m.contexts object))
          (λ both. none y (holder_in y object) both.1 (tickets client ∙ own_ticket) ∙ sym
          (none m.contexts (holder_in m.contexts object) both.0 own_ticket))
          cases
        where
          by_holder : (h : Option ℕ) → is_older y ticket h ≡ is_older m.contexts ticket h
          by_holder None = refl
          by_holder (Some a) = ap (λ z. nat_lt z ticket) (tickets a)

          none : (x : Contexts) (h : Option ℕ) → IsFreeOr client h → ticket_of (doing_in x client) ≡ ticket → is_older x ticket h ≡ false
          none x h (inl e) same = ap (is_older x ticket) e
          none x h (inr e) same = ap (is_older x ticket) e ∙ le-ltb (ticket_of (doing_in x client)) ticket (omega (arith, same))

  pub relock_step : (object : ℕ) → contended (doing_at m client) ≡ Some object → holder_at m object ≡ None
      → IsOwnStep s m.contexts (placed (doing.Taking (record { 0 = ticket_of (doing_at m client) }))
      ((object, Some client) ∷ m.contexts.locks)) client
  relock_step object asked free =
      let q = backed-is (doing_at m client) object asked in
      let locks = (object, Some client) ∷ m.contexts.locks in
      let d : Doing = doing.Taking (record { 0 = ticket_of (doing_at m client) }) in
      let y : Contexts = placed d ((object, Some client) ∷ m.contexts.locks) in
      record {
        ticket = ap has_context q.is;
        still = ap has_context (own d locks);
        same_ticket = ap ticket_of (own d locks);
        others = λ a ne. other d locks a ne;
        holders = λ o. locked_holders object free o;
        less =
            (let a : phase s.topology y client (doing_in y client) ≡ unheld s.topology y client
            + 2 = ap (phase s.topology y client) (own d locks) in
            let free_asked : is_blocked m.contexts q.ticket.0 q.asked.0
            ≡ false = ap (λ z. is_older m.contexts q.ticket.0 (holder_in m.contexts z)) q.same ∙ ap (is_older m.contexts q.ticket.0)
            free in
            let b : phase s.topology m.contexts client (doing_at m client) ≡ length (lockable s.topology) + 3 =
            ap (phase s.topology m.contexts client) q.is ∙ cond-false (is_blocked m.contexts q.ticket.0 q.asked.0) 0
            (length (lockable s.topology) + 3) free_asked in
            let c = filter-most (λ o. not (has_value client (holder_in y o))) (lockable s.topology) in
            omega (arith, a, b, c));
        kind =
            inr (record {
              no_more =
                  (let a : backoffs y (doing_in y client) ≡ 1 = ap (backoffs y) (own d locks) in
                  let free_asked : is_blocked m.contexts q.ticket.0 q.asked.0
                  ≡ false = ap (λ z. is_older m.contexts q.ticket.0 (holder_in m.contexts z)) q.same ∙ ap
                  (is_older m.contexts q.ticket.0) free in
                  let b : backoffs m.contexts (doing_at m client)
                  ≡ 1 = ap (backoffs m.contexts) q.is ∙ cond-false (is_blocked m.contexts q.ticket.0 q.asked.0) 0 1 free_asked in
                  omega (arith, a, b));
              taken = λ o. locked_taken object free o;
            });
      }
