-- Each number of a history fits its type.
use Rattle.std.proofs.Common.{◌≡◌, ℕ, suc, ◌+◌, ◌≤◌, List, [], ◌∷◌, length, Bool, true, false, Option, Some, None, refl, sym, ap, ◌∙◌}
use Rattle.std.proofs.Common.{subst, arith, ⊎_elim}
use Rattle.std.specs.List.{AllByRecursion}
use Rattle.std.proofs.lemmas.Bool.{cases_eq, false≢true}
use Rattle.std.proofs.lemmas.List.FromFn.{length-map-range_with_len}
use Rattle.kms_model.specs.declared.objects.Kind.TheVariants.{Crtc}
use Rattle.kms_model.specs.declared.objects.Topology.{Topology}
use Rattle.kms_model.specs.declared.runs.Doing.{Doing}
use Rattle.kms_model.specs.declared.runs.Doing.TheVariants as doing
use Rattle.kms_model.specs.declared.runs.Latch.{Latch}
use Rattle.kms_model.specs.declared.runs.Place.{Place}
use Rattle.kms_model.specs.declared.scripts.Assign.{Assign}
use Rattle.kms_model.specs.declared.scripts.Command.{Command}
use Rattle.kms_model.specs.declared.scripts.Command.TheVariants as command
use Rattle.kms_model.specs.declared.scripts.Request.{Request}
use Rattle.kms_model.specs.declared.scripts.Script.{Script}
use Rattle.kms_model.specs.declared.worlds.Content.{Content}
use Rattle.kms_model.specs.declared.worlds.Thing.{Thing}
use Rattle.kms_model.specs.declared.worlds.World.{World}
use Rattle.kms_model.specs.Device.Execution.{BufferInfo, add_fb, buffer_of, close_refusal, close_unless, committed, destroy_refusal}
use Rattle.kms_model.specs.Device.Execution.{execute, make_out_fence, make_out_fences, make_unless, new_buffer_refusal, signal_refusal}
use Rattle.kms_model.specs.Device.Execution.{signal_unless}
use Rattle.kms_model.specs.Device.Objects.{ids_of, object_id}
use Rattle.kms_model.specs.Device.World.{thing_labelled}
use Rattle.kms_model.specs.declared.replies.Reply.{Reply}
use Rattle.kms_model.specs.declared.replies.Reply.TheVariants as reply
use Rattle.kms_model.specs.Machine.Effects.{answers, backed_off, begun, counts_vblank, decided, goes_on, refusal_reply, signals}
use Rattle.kms_model.specs.Machine.Registers.{read}
use Rattle.kms_model.specs.Machine.State.{Machine, command_at, count_at, doing_at, entry_at, place_at}
use Rattle.kms_model.specs.Machine.Steps.{contended, is_atomic, is_idle, is_making, is_taking, must_back_off, returning_of}
use Rattle.kms_model.specs.Machine.Steps.{ticket_of}
use Rattle.kms_model.specs.Request.Apply.{after}
use Rattle.kms_model.specs.Request.Sets.{obj_id}
use Rattle.kms_model.specs.Request.Touched.{out_fence_label}
use Rattle.kms_model.specs.Request.Verdict.{verdict}
use Rattle.kms_model.proofs.Guards.{lock_guards}
use Rattle.kms_laws.proofs.Basics.{read_other, read_same}
use Rattle.kms_laws.proofs.EachStep.{Carries, by_bool, by_fence, by_latch, by_two, latched_as, made_as, swapped_as}
use Rattle.kms_laws.proofs.Sizes.{IsThere, PlacesStand, answered, begun_at, busy, command-there, draws, ended_at, ends, place_of, stays}
use Rattle.kms_laws.proofs.Steps.{flushed_at, not_atomic}

-- How many things a command makes

grows-make_unless : (w : World) (owner label : ℕ) (c : Content) (o : Option ℕ) → (make_unless w owner label c o).world.next_id ≤ w.next_id
    + 1
grows-make_unless w owner label c None = omega arith
grows-make_unless w owner label c (Some n) = omega arith

grows-add_fb : (w : World) (client label : ℕ) (o : Option BufferInfo) → (add_fb w client label o).world.next_id ≤ w.next_id + 1
grows-add_fb w client label None = omega arith
grows-add_fb w client label (Some b) = omega arith

grows-close_unless : (w : World) (thing : Option Thing) (o : Option ℕ) → (close_unless w thing o).world.next_id ≤ w.next_id + 1
grows-close_unless w None None = omega arith
grows-close_unless w (Some u) None = omega arith
grows-close_unless w thing (Some n) = omega arith

grows-signal : (w : World) (o : Option ℕ) → (signal_unless w o).world.next_id ≤ w.next_id + 1
grows-signal w None = omega arith
grows-signal w (Some n) = omega arith

grows_one : (t : Topology) (w : World) (client : ℕ) (c : Command) → is_atomic c ≡ false → (execute t w client c).world.next_id ≤ w.next_id
    + 1
unfolding execute
grows_one t w client (command.Buffer label width height format pattern) other = grows-make_unless w client label _
    (new_buffer_refusal w.things width height format)
grows_one t w client (command.AddFb label buffer) other = grows-add_fb w client label (buffer_of w.things client buffer)
grows_one t w client (command.Mode label m) other = omega arith
grows_one t w client (command.Blob label bytes) other = omega arith
grows_one t w client (command.Destroy label) other = grows-close_unless w (thing_labelled w.things label)
    (destroy_refusal client (thing_labelled w.things label))
grows_one t w client (command.CloseFb label) other = grows-close_unless w (thing_labelled w.things label)
    (close_refusal client (thing_labelled w.things label))
grows_one t w client (command.Fence label) other = omega arith
grows_one t w client (command.Signal label) other = grows-signal w (signal_refusal (thing_labelled w.things label))
grows_one t w client (command.Atomic r) other = absurd (false≢true (sym other))
grows_one t w client command.Wait other = omega arith

fence_grows : (client : ℕ) (w : World) (o : Option ℕ) → (make_out_fence client w o).next_id ≤ w.next_id + 1
fence_grows client w None = omega arith
fence_grows client w (Some label) = omega arith

fences_grow : (client : ℕ) (assigns : List Assign) (w : World) (crtcs : List ℕ) → (make_out_fences client assigns w crtcs).next_id
    ≤ w.next_id + length crtcs
fences_grow client assigns w [] = omega arith
fences_grow client assigns w (c ∷ cs) =
    let a = fence_grows client w (out_fence_label assigns c) in
    let b = fences_grow client assigns (make_out_fence client w (out_fence_label assigns c)) cs in
    omega (arith, a, b)

committed_grows : (t : Topology) (w : World) (client : ℕ) (r : Request) → t.crtcs ≤ 4 → (committed t w client r).world.next_id ≤ w.next_id
    + 4
committed_grows t w client r few =
    let a = fences_grow client r.assigns (record w { values = after w r; commits = w.commits + 1 }) (ids_of t Crtc) in
    let n : length (ids_of t Crtc) ≡ t.crtcs = length-map-range_with_len (object_id Crtc) 0 t.crtcs in
    omega (arith, a, n, few)

-- What a client is doing

pub idle-busy : (d : Doing) → is_idle d ≡ true → (busy d ≡ 0) × (answered d ≡ 0)
idle-busy doing.Idle h = (refl, refl)
idle-busy (doing.Taking ticket) h = absurd (false≢true h)
idle-busy (doing.MustBackOff ticket object) h = absurd (false≢true h)
idle-busy (doing.BackedOff ticket object) h = absurd (false≢true h)
idle-busy (doing.Returning k) h = absurd (false≢true h)

pub taking-busy : (d : Doing) → is_taking d ≡ true → (busy d ≡ 1) × (answered d ≡ 0)
taking-busy (doing.Taking ticket) h = (refl, refl)
taking-busy doing.Idle h = absurd (false≢true h)
taking-busy (doing.MustBackOff ticket object) h = absurd (false≢true h)
taking-busy (doing.BackedOff ticket object) h = absurd (false≢true h)
taking-busy (doing.Returning k) h = absurd (false≢true h)

pub back-busy : (d : Doing) → must_back_off d ≡ true → ((busy d ≡ 1) × (answered d ≡ 0))
    × ((busy (backed_off d) ≡ 1) × (answered (backed_off d) ≡ 0))
back-busy (doing.MustBackOff ticket object) h = ((refl, refl), (refl, refl))
back-busy doing.Idle h = absurd (false≢true h)
back-busy (doing.Taking ticket) h = absurd (false≢true h)
back-busy (doing.BackedOff ticket object) h = absurd (false≢true h)
back-busy (doing.Returning k) h = absurd (false≢true h)

pub contended-busy : (d : Doing) (object : ℕ) → contended d ≡ Some object → (busy d ≡ 1) × (answered d ≡ 0)
contended-busy (doing.BackedOff ticket o) object e = (refl, refl)
contended-busy doing.Idle object e = absurd cc
contended-busy (doing.Taking ticket) object e = absurd cc
contended-busy (doing.MustBackOff ticket o) object e = absurd cc
contended-busy (doing.Returning k) object e = absurd cc

pub returning-busy : (d : Doing) (k : ℕ) → returning_of d ≡ Some k → (busy d ≡ 1) × (answered d ≡ 1)
returning-busy (doing.Returning k) n e = (refl, refl)
returning-busy doing.Idle n e = absurd cc
returning-busy (doing.Taking ticket) n e = absurd cc
returning-busy (doing.MustBackOff ticket object) n e = absurd cc
returning-busy (doing.BackedOff ticket object) n e = absurd cc

-- Machines

-- the numbers after so many steps
pub record Sized (s : Script) (n : ℕ) (places : List (ℕ × Place)) (tickets commits ids entries replies : ℕ) (counts : List (ℕ × ℕ))
    (latches : List Latch) : Type 0 where
  pub places_stand : PlacesStand s places tickets commits ids entries replies
  pub counts_few : (c : ℕ) → read 0 counts c ≤ n
  pub latches_few : AllByRecursion (λ (l : Latch). l.count ≤ n) latches

abbrev pub HasSizes : Script → ℕ → Machine → Type 0
HasSizes s n m = Sized s n m.contexts.places m.contexts.tickets (length m.device.commits) m.device.world.next_id (length m.records.journal)
    (length m.records.replies) m.device.counts m.records.latches

latches-more : (n : ℕ) (ls : List Latch) → AllByRecursion (λ (l : Latch). l.count ≤ n) ls
    → AllByRecursion (λ (l : Latch). l.count ≤ suc n) ls
latches-more n [] all = tt
latches-more n (l ∷ ls) all = ((let a = all.0 in omega (arith, a)), latches-more n ls all.1)

module _ (s : Script) (m : Machine) (n : ℕ) (few : s.topology.crtcs ≤ 4) (S : HasSizes s n m) where
  counts_now : (c : ℕ) → count_at m.device c ≤ suc n
  counts_now c = let a = S.counts_few c in omega (arith, a)

  latches_now : AllByRecursion (λ (l : Latch). l.count ≤ suc n) m.records.latches
  latches_now = latches-more n m.records.latches S.latches_few

  counted_now : (at c : ℕ) → read 0 ((at, count_at m.device at + 1) ∷ m.device.counts) c ≤ suc n
  counted_now at c =
      ⊎_elim
      (λ (same : at ≡ c). subst (λ z. read 0 ((at, count_at m.device at + 1) ∷ m.device.counts) z ≤ suc n) same
      (let e = read_same 0 m.device.counts at (count_at m.device at + 1) in let a = S.counts_few at in omega (arith, e, a)))
      (λ ne. let e = read_other 0 m.device.counts at c (count_at m.device at + 1) ne in let a = S.counts_few c in omega (arith, e, a))
      (cases_eq at c)

  as_it_is : HasSizes s (suc n) m
  as_it_is = record { places_stand = S.places_stand; counts_few = counts_now; latches_few = latches_now }

  there : (client : ℕ) (c : Command) → command_at s m client ≡ Some c → IsThere s client (place_of m.contexts.places client).command
  there client c e = command-there s (entry_at m client) c e

  abbrev Places : List (ℕ × Place) → ℕ → ℕ → ℕ → ℕ → ℕ → Type 0
  Places places tickets commits ids entries replies = PlacesStand s places tickets commits ids entries replies

  -- a client that takes locks, or has backed off, stays at its command
  keeps_on : (client : ℕ) (d : Doing) → (busy (doing_at m client) ≡ 1) × (answered (doing_at m client) ≡ 0) → (busy d ≡ 1)
      × (answered d ≡ 0)
      → PlacesStand s ((client, record { command = (place_at m client).command; doing = d }) ∷ m.contexts.places) m.contexts.tickets
      (length m.device.commits) m.device.world.next_id (length m.records.journal) (length m.records.replies)
  keeps_on client d old new =
      stays s m.contexts.places m.contexts.tickets (length m.device.commits) m.device.world.next_id (length m.records.journal)
      (length m.records.replies) S.places_stand client (record { command = (place_at m client).command; doing = d })
      (S.places_stand.low client)
      (ap (λ z. (place_at m client).command + z) (old.0 ∙ sym new.0)) (ap (λ z. (place_at m client).command + z) (old.1 ∙ sym new.1))

  -- a client has its answer
  goes : (client : ℕ) (c : Command) → command_at s m client ≡ Some c → busy (doing_at m client) ≤ 1 → answered (doing_at m client) ≡ 0
      → (p : Place) → 1 ≤ p.command → begun_at p ≡ (place_at m client).command + 1 → ended_at p ≡ (place_at m client).command + 1
      → (commits ids entries replies : ℕ) → commits ≤ length m.device.commits + 1 → ids ≤ m.device.world.next_id + 4 → entries
      ≤ length m.records.journal + 1 → replies ≤ length m.records.replies + 1
      → PlacesStand s ((client, p) ∷ m.contexts.places) m.contexts.tickets commits ids entries replies
  goes client c e b a p lo bp ep =
      ends s m.contexts.places m.contexts.tickets (length m.device.commits) m.device.world.next_id (length m.records.journal)
      (length m.records.replies) S.places_stand client p lo
      (there client c e) bp (omega (arith, b, bp)) (omega (arith, a, ep))

  -- it goes on to its next command
  goes_next : (client : ℕ) (c : Command) → command_at s m client ≡ Some c → busy (doing_at m client) ≤ 1 → answered (doing_at m client) ≡ 0
      → (commits ids entries replies : ℕ) → commits ≤ length m.device.commits + 1 → ids ≤ m.device.world.next_id + 4 → entries
      ≤ length m.records.journal + 1 → replies ≤ length m.records.replies + 1
      → PlacesStand s ((client, record { command = (place_at m client).command + 1; doing = doing.Idle }) ∷ m.contexts.places)
      m.contexts.tickets commits ids entries replies
  goes_next client c e b a = goes client c e b a (record { command = (place_at m client).command + 1; doing = doing.Idle }) (omega arith)
      (omega arith) (omega arith)

  begin_case : (client : ℕ) (c : Command) → command_at s m client ≡ Some c → is_idle (doing_at m client) ≡ true
      → HasSizes s (suc n) (begun m client)
  begin_case client c e idle =
      let i = idle-busy (doing_at m client) idle in
      record {
        places_stand = draws s m.contexts.places m.contexts.tickets (length m.device.commits) m.device.world.next_id
            (length m.records.journal) (length m.records.replies) S.places_stand client
            (record { command = (place_at m client).command; doing = doing.Taking (record { 0 = m.contexts.tickets }) })
            (S.places_stand.low client) (there client c e) refl (let z = i.0 in omega (arith, z)) (let z = i.1 in omega (arith, z));
        counts_few = counts_now;
        latches_few = latches_now;
      }

  decide_case : (client : ℕ) (c : Command) → command_at s m client ≡ Some c → is_taking (doing_at m client) ≡ true → (answer : Reply)
      → HasSizes s (suc n) (decided m client answer)
  decide_case client c e taking answer =
      let b = taking-busy (doing_at m client) taking in
      record {
        places_stand = goes_next client c e (let z = b.0 in omega (arith, z)) b.1 (length m.device.commits) m.device.world.next_id
            (length m.records.journal) (suc (length m.records.replies)) (omega arith) (omega arith) (omega arith) (omega arith);
        counts_few = counts_now;
        latches_few = latches_now;
      }

  -- an idle client's command is answered, and nothing is made
  act_places : (client : ℕ) (c : Command) → command_at s m client ≡ Some c → is_idle (doing_at m client) ≡ true
      → PlacesStand s ((client, record { command = (place_at m client).command + 1; doing = doing.Idle }) ∷ m.contexts.places)
      m.contexts.tickets (length m.device.commits) m.device.world.next_id (length m.records.journal) (suc (length m.records.replies))
  act_places client c e idle =
      let i = idle-busy (doing_at m client) idle in
      goes_next client c e (let z = i.0 in omega (arith, z)) i.1 (length m.device.commits) m.device.world.next_id (length m.records.journal)
      (suc (length m.records.replies)) (omega arith) (omega arith) (omega arith) (omega arith)

  make_case : (client : ℕ) (c : Command) → command_at s m client ≡ Some c → is_making c ≡ true → is_idle (doing_at m client) ≡ true
      → (b : Bool) → HasSizes s (suc n) (made_as b m client (execute s.topology m.device.world client c))
  make_case client c e making idle =
      by_bool (λ b. HasSizes s (suc n) (made_as b m client (execute s.topology m.device.world client c)))
      (record { places_stand = made (suc (length m.records.journal)) (omega arith); counts_few = counts_now; latches_few = latches_now })
      (record { places_stand = made (length m.records.journal) (omega arith); counts_few = counts_now; latches_few = latches_now })
    where
      made : (entries : ℕ) → entries ≤ length m.records.journal + 1
          → PlacesStand s ((client, record { command = (place_at m client).command + 1; doing = doing.Idle }) ∷ m.contexts.places)
          m.contexts.tickets (length m.device.commits) (execute s.topology m.device.world client c).world.next_id entries
          (suc (length m.records.replies))
      made entries l =
          let i = idle-busy (doing_at m client) idle in
          let g = grows_one s.topology m.device.world client c (not_atomic c making) in
          goes_next client c e (let z = i.0 in omega (arith, z)) i.1 (length m.device.commits)
          (execute s.topology m.device.world client c).world.next_id entries (suc (length m.records.replies)) (omega arith)
          (omega (arith, g)) l (omega arith)

  swap_case : (client : ℕ) (r : Request) → command_at s m client ≡ Some (command.Atomic r) → is_taking (doing_at m client) ≡ true
      → (b w : Bool) → HasSizes s (suc n) (swapped_as s.topology b w m client r)
  swap_case client r e taking =
      let on = swapped (record { command = (place_at m client).command + 1; doing = doing.Idle }) (omega arith) (omega arith) (omega arith)
      in
      let back = swapped (record { command = (place_at m client).command; doing = doing.Returning (length m.device.commits) })
      (S.places_stand.low client) (omega arith) (omega arith) in
      by_two (λ b w. HasSizes s (suc n) (swapped_as s.topology b w m client r))
      (record { places_stand = on; counts_few = counts_now; latches_few = latches_now })
      (record { places_stand = back; counts_few = counts_now; latches_few = latches_now })
      (record { places_stand = on; counts_few = counts_now; latches_few = latches_now })
      (record { places_stand = back; counts_few = counts_now; latches_few = latches_now })
    where
      swapped : (p : Place) → 1 ≤ p.command → begun_at p ≡ (place_at m client).command + 1 → ended_at p ≡ (place_at m client).command + 1
          → PlacesStand s ((client, p) ∷ m.contexts.places) m.contexts.tickets (suc (length m.device.commits))
          (committed s.topology m.device.world client r).world.next_id (suc (length m.records.journal)) (suc (length m.records.replies))
      swapped p lo bp ep =
          let t = taking-busy (doing_at m client) taking in
          goes client (command.Atomic r) e (let z = t.0 in omega (arith, z)) t.1 p lo bp ep (suc (length m.device.commits))
          (committed s.topology m.device.world client r).world.next_id (suc (length m.records.journal)) (suc (length m.records.replies))
          (omega arith) (committed_grows s.topology m.device.world client r few) (omega arith) (omega arith)

  flush_case : (k c : ℕ) (b : Bool) (o : Option ℕ)
      → HasSizes s (suc n) (latched_as s.topology b o (flushed_at m k c) k c (count_at m.device c))
  flush_case k c =
      let now : HasSizes s (suc n) (latched_as s.topology true None (flushed_at m k c) k c (count_at m.device c)) =
      record { places_stand = S.places_stand; counts_few = counts_now; latches_few = (counts_now c, latches_now) } in
      by_latch (λ b o. HasSizes s (suc n) (latched_as s.topology b o (flushed_at m k c) k c (count_at m.device c))) now (λ fence. now) now
      (λ fence. now)

  vblank_case : (k c : ℕ) (b : Bool) (o : Option ℕ)
      → HasSizes s (suc n) (latched_as s.topology b o (counts_vblank m c) k c (count_at m.device c + 1))
  vblank_case k c =
      let one : count_at m.device c + 1 ≤ suc n = (let a = S.counts_few c in omega (arith, a)) in
      let now : HasSizes s (suc n) (latched_as s.topology true None (counts_vblank m c) k c (count_at m.device c + 1)) =
      record { places_stand = S.places_stand; counts_few = counted_now c; latches_few = (one, latches_now) } in
      by_latch (λ b o. HasSizes s (suc n) (latched_as s.topology b o (counts_vblank m c) k c (count_at m.device c + 1))) now (λ fence. now)
      now (λ fence. now)

  return_case : (client k : ℕ) → returning_of (doing_at m client) ≡ Some k → HasSizes s (suc n) (goes_on m client)
  return_case client k e =
      let r = returning-busy (doing_at m client) k e in
      record {
        places_stand = stays s m.contexts.places m.contexts.tickets (length m.device.commits) m.device.world.next_id
            (length m.records.journal) (length m.records.replies) S.places_stand client
            (record { command = (place_at m client).command + 1; doing = doing.Idle }) (omega arith) (let z = r.0 in omega (arith, z))
            (let z = r.1 in omega (arith, z));
        counts_few = counts_now;
        latches_few = latches_now;
      }

  pub carries_sizes : Carries s m (λ step m2. HasSizes s (suc n) m2)
  carries_sizes = record {
    locks = record {
      begins = λ client c e atomic idle. begin_case client c e idle;
      takes = λ client kind index is_there lock free. as_it_is;
      meets = λ client kind index holder is_there lock held.
          record {
            places_stand = keeps_on client (doing.MustBackOff (record { 0 = ticket_of (doing_at m client) })
                (obj_id (object_id kind index)))
                (taking-busy (doing_at m client) (lock_guards s m client (object_id kind index) lock).reaching.taking) (refl, refl);
            counts_few = counts_now;
            latches_few = latches_now;
          };
      backs = λ client back. record {
        places_stand = keeps_on client (backed_off (doing_at m client)) (back-busy (doing_at m client) back).0
            (back-busy (doing_at m client) back).1;
        counts_few = counts_now;
        latches_few = latches_now;
      };
      relocks = λ client object asked free.
          record {
            places_stand = keeps_on client (doing.Taking (record { 0 = ticket_of (doing_at m client) }))
                (contended-busy (doing_at m client) object asked) (refl, refl);
            counts_few = counts_now;
            latches_few = latches_now;
          };
      returned = λ client k e clean. return_case client k e;
    };
    answers = record {
      refuses = λ client r e taking may. decide_case client (command.Atomic r) e taking
          (refusal_reply s.topology m client r (verdict s.topology m.device.world r));
      tests = λ client r e taking may. decide_case client (command.Atomic r) e taking reply.Tested;
      swaps = λ client r e taking may b w eb ew. swap_case client r e taking b w;
      makes = λ client c e making idle b eb. make_case client c e making idle b;
      signalled = λ client c e is_signal idle o.
          let now : HasSizes s (suc n) (goes_on (answers m client (execute s.topology m.device.world client c).reply) client) =
          record { places_stand = act_places client c e idle; counts_few = counts_now; latches_few = latches_now } in
          by_fence (λ o. HasSizes s (suc n) (goes_on (signals (answers m client (execute s.topology m.device.world client c).reply) o)
          client)) now (λ fence. now) o;
      read_none = λ client c e is_wait idle none. record {
        places_stand = act_places client c e idle;
        counts_few = counts_now;
        latches_few =
            latches_now;
      };
      read_one = λ client c e is_wait idle event events some.
          record { places_stand = act_places client c e idle; counts_few = counts_now; latches_few = latches_now };
    };
    tails = record {
      claimed = λ k h. as_it_is;
      written = λ k kind index found. as_it_is;
      waits = λ k kind index written found. as_it_is;
      flushed = λ k kind index written found b o eb eo. flush_case k (object_id kind index) b o;
      done = λ k a b c d. as_it_is;
      counted = λ kind index is none. record {
        places_stand = S.places_stand;
        counts_few = counted_now (object_id kind index);
        latches_few =
            latches_now;
      };
      blanked = λ kind index k is some b o eb eo. vblank_case k (object_id kind index) b o;
      cleaned = λ k a b c. as_it_is;
    };
    stalled = λ h. as_it_is;
  }
