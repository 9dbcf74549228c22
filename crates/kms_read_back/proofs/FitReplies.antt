-- Each reply of a history is one that a line can spell.
use Rattle.std.proofs.Common.{◌≡◌, ℕ, zero, suc, ◌+◌, ◌*◌, ◌%◌, ◌<◌, ◌≤◌, ◌^◌, Bool, true, false, List, [], ◌∷◌, length, Option, Some, None}
use Rattle.std.proofs.Common.{refl, sym, ap, ◌∙◌, subst, arith, inl, inr, ◌⊎◌, ⊎_elim}
use Rattle.std.specs.Prelude.{◌==◌, ◌&&◌, nat_lt, not, reverse, if◌then◌else◌}
use Rattle.std.specs.List.{cons_option, filter_map}
use Rattle.std.proofs.lemmas.Bool.{and_from, and_parts, false≢true, le-leb, ltb-true}
use Rattle.std.proofs.lemmas.Nat.{mod_below}
use Rattle.kms_model.specs.declared.objects.Format.{Format}
use Rattle.kms_model.specs.declared.objects.Kind.{Kind}
use Rattle.kms_model.specs.declared.objects.Kind.TheVariants.{Crtc, Plane, Conn}
use Rattle.kms_model.specs.declared.objects.Topology.{Topology}
use Rattle.kms_model.specs.declared.replies.Answered.{Answered}
use Rattle.kms_model.specs.declared.replies.Event.{Event}
use Rattle.kms_model.specs.declared.replies.Reply.{Reply}
use Rattle.kms_model.specs.declared.replies.Reply.TheVariants as reply
use Rattle.kms_model.specs.declared.replies.Step.{Step}
use Rattle.kms_model.specs.declared.runs.Latch.{Latch}
use Rattle.kms_model.specs.declared.scripts.Command.{Command}
use Rattle.kms_model.specs.declared.scripts.Command.TheVariants as command
use Rattle.kms_model.specs.declared.scripts.Request.{Request}
use Rattle.kms_model.specs.declared.scripts.Script.{Script}
use Rattle.kms_model.specs.declared.worlds.Content.{Content}
use Rattle.kms_model.specs.declared.worlds.Thing.{Thing}
use Rattle.kms_model.specs.declared.worlds.World.{World}
use Rattle.kms_model.specs.declared.replies.Denied.{Denied}
use Rattle.kms_model.specs.declared.replies.TheConstants.Denied.{INVALID_SIZE, NO_BUFFER_SPACE, NOT_FOUND, NOT_OWNER, NOT_SIGNALLABLE}
use Rattle.kms_model.specs.Firsts.{denied_if}
use Rattle.kms_model.specs.Things.Kept.{area_bytes, is_bad_size, largest_bytes}
use Rattle.kms_model.specs.Script.Words.{between}
use Rattle.kms_model.specs.Device.Execution.{BufferInfo, add_fb, all_bytes, buffer_of, close_refusal, close_unless, destroy_refusal}
use Rattle.kms_model.specs.Device.Execution.{execute, is_blob, is_framebuffer, is_made_fence, make_unless, new_buffer_refusal}
use Rattle.kms_model.specs.Device.Execution.{signal_refusal, signal_unless}
use Rattle.kms_model.specs.Device.Objects.{count_of, first_id, ids_of, object_id}
use Rattle.kms_model.specs.Device.World.{thing_labelled}
use Rattle.kms_model.specs.Machine.Commits.{asks_event, commit_at, commit_touches, last_below, lockable, previous}
use Rattle.kms_model.specs.Machine.Effects.{answers, busy_reply, commit_numbered, goes_on, next, refusal_reply, signals}
use Rattle.kms_model.specs.Machine.Histories.{at, is_history, legal}
use Rattle.kms_model.specs.Machine.State.{Commit, Machine, command_at, entry_at, first_machine, place_at, unread_at}
use Rattle.kms_model.specs.Machine.Steps.{first_pending, is_atomic, is_pending, is_signal, lacks_space, space_used}
use Rattle.kms_model.specs.Promises.{event_of_latch}
use Rattle.kms_model.specs.Request.Touched.{touches}
use Rattle.kms_model.specs.Request.Verdict.{verdict}
use Rattle.kms_model.specs.Script.WellFormed.{IsWellFormed, is_word32}
use Rattle.kms_model.proofs.Facts.{by_recursion-at}
use Rattle.kms_model.proofs.Items.{IsIn, IsObject, ids-in}
use Rattle.kms_model.proofs.ThingLemmas.{find-in}
use Rattle.kms_model.proofs.TouchedLemmas.{HasFewObjects, few_objects}
use Rattle.kms_laws.proofs.Basics.{in_either, in_right}
use Rattle.kms_laws.proofs.EachStep.{Carries, by_bool, by_fence, by_two, each_step, locks_leave, made_as, swapped_as, tails_leave}
use Rattle.kms_laws.proofs.Modes.{command-spelt, plain-from}
use Rattle.kms_laws.proofs.Sizes.{all_ended, ended_at, place_of, sum-most}
use Rattle.kms_laws.proofs.SmallNumbers.{Counted, along_counted, answered-busy, few_commands, first_counted, step_counted}
use Rattle.kms_laws.proofs.Steps.{not_atomic, signal-other}
use Rattle.kms_laws.proofs.Whole.{IsTold}
use Rattle.kms_told.proofs.Built.{answer_now}
use Rattle.kms_told.proofs.Items.{in-reverse}
use Rattle.kms_read_back.specs.ReadBack.{IsFitEvent, IsFitReply, IsLong, IsNear}
use Rattle.kms_read_back.proofs.VerdictNumbers.{IsAmong, if-so, just, one-of, verdict-number}

-- Numbers of one machine

pub record IsSmall (m : Machine) : Type 0 where
  pub ids : m.device.world.next_id ≤ 1000 + 4 * 65536
  pub commits : length m.device.commits ≤ 65536

pub counted-small : (s : Script) (n : ℕ) (m : Machine) → IsWellFormed s → Counted s n m → IsSmall m
counted-small s n m formed C =
    let S = C.sizes.places_stand in
    let places = m.contexts.places in
    let few = formed.few in
    let ended : all_ended s places ≤ length s.clients * 4097 =
    sum-most (λ c. ended_at (place_of places c)) 4097 1 (length s.clients)
    (λ c.
    let a = S.bound c in let b = few_commands s c formed.clients in let d = answered-busy (place_of places c).doing in
    omega (arith, a, b, d)) in
    record {
      ids = (let a = S.ids_few in omega (arith, a, ended, few));
      commits = (let a = S.commits_few in omega (arith, a, ended, few));
    }

-- Replies to commands that are no requests

abbrev IsDenial : Option ℕ → Type 0
IsDenial o = IsAmong 31 35 o

denied : (d : Denied) (b : Bool) → between 31 35 d.0 ≡ true → IsDenial (denied_if d b)
denied d b is = if-so 31 35 d.0 b is

module _ (w : World) (ids : w.next_id ≤ 1000 + 4 * 65536) where
  make-fit : (owner label : ℕ) (c : Content) (o : Option ℕ) → IsDenial o → IsFitReply (make_unless w owner label c o).reply
  make-fit owner label c None D = omega (arith, ids)
  make-fit owner label c (Some n) D = D n refl

  add-fit : (client label : ℕ) (o : Option BufferInfo) → IsFitReply (add_fb w client label o).reply
  add-fit client label None = refl
  add-fit client label (Some b) = omega (arith, ids)

  close-fit : (t : Option Thing) (o : Option ℕ) → IsDenial o → IsFitReply (close_unless w t o).reply
  close-fit t None D = tt
  close-fit t (Some n) D = D n refl

  signal-fit : (o : Option ℕ) → IsDenial o → IsFitReply (signal_unless w o).reply
  signal-fit None D = tt
  signal-fit (Some n) D = D n refl

  buffer-denial : (things : List Thing) (width height : ℕ) (format : Format) → IsDenial (new_buffer_refusal things width height format)
  buffer-denial things width height format =
      one-of 31 35 _ _ (denied INVALID_SIZE (is_bad_size width height) refl)
      (denied NO_BUFFER_SPACE (nat_lt largest_bytes (all_bytes things + area_bytes width height format)) refl)

  destroy-denial : (client : ℕ) (o : Option Thing) → IsDenial (destroy_refusal client o)
  destroy-denial client None = just 31 35 NOT_FOUND.0 refl
  destroy-denial client (Some t) =
      one-of 31 35 _ _ (denied NOT_FOUND (not (is_blob t.content && t.is_open)) refl) (denied NOT_OWNER (not (t.owner == client)) refl)

  close-denial : (client : ℕ) (o : Option Thing) → IsDenial (close_refusal client o)
  close-denial client None = just 31 35 NOT_FOUND.0 refl
  close-denial client (Some t) = denied NOT_FOUND (not (is_framebuffer t.content && (t.is_open && (t.owner == client)))) refl

  signal-denial : (o : Option Thing) → IsDenial (signal_refusal o)
  signal-denial None = just 31 35 NOT_SIGNALLABLE.0 refl
  signal-denial (Some t) = denied NOT_SIGNALLABLE (not (is_made_fence t.content)) refl

  execute-fit : (t : Topology) (client : ℕ) (c : Command) → is_atomic c ≡ false → IsFitReply (execute t w client c).reply
  unfolding execute
  execute-fit t client (command.Buffer label width height format pattern) other =
      make-fit client label _ _ (buffer-denial w.things width height format)
  execute-fit t client (command.AddFb label buffer) other = add-fit client label (buffer_of w.things client buffer)
  execute-fit t client (command.Mode label m) other = omega (arith, ids)
  execute-fit t client (command.Blob label bytes) other = omega (arith, ids)
  execute-fit t client (command.Destroy label) other =
      close-fit (thing_labelled w.things label) (destroy_refusal client (thing_labelled w.things label))
      (destroy-denial client (thing_labelled w.things label))
  execute-fit t client (command.CloseFb label) other =
      close-fit (thing_labelled w.things label) (close_refusal client (thing_labelled w.things label))
      (close-denial client (thing_labelled w.things label))
  execute-fit t client (command.Fence label) other = omega (arith, ids)
  execute-fit t client (command.Signal label) other =
      signal-fit (signal_refusal (thing_labelled w.things label)) (signal-denial (thing_labelled w.things label))
  execute-fit t client (command.Atomic r) other = absurd (false≢true (sym other))
  execute-fit t client command.Wait other = tt

-- Refusals

last-within : (test : ℕ → Bool) (n k : ℕ) → last_below test n ≡ Some k → k < n
unfolding last_below
last-within test zero k e = absurd cc
last-within test (suc n) k e = by_test (test n) (λ f. last-within test n k f) e where
  by_test : (b : Bool) → (last_below test n ≡ Some k → k < n) → (if b then Some n else last_below test n) ≡ Some k → k < suc n
  by_test true rest f = let same : n ≡ k = cc in omega (arith, same)
  by_test false rest f = let l = rest f in omega (arith, l)

near-of : (t : Topology) (kind : Kind) (object : ℕ) → 100 ≤ first_id kind → first_id kind + count_of t kind ≤ 500
    → IsIn object (ids_of t kind) → IsNear object
near-of t kind object low high is =
    let i : IsObject t kind object = ids-in t kind object is in
    let within = i.within in let same = i.same in
    and_from _ _ (le-leb 100 object (omega (arith, same, low))) (le-leb object 499 (omega (arith, same, within, high)))

near-object : (t : Topology) (object : ℕ) → HasFewObjects t → IsIn object (lockable t) → IsNear object
near-object t object few is =
    elim (in_either (ids_of t Crtc) _ object is) [
      | inl crtc ↦ near-of t Crtc object (omega arith) (omega (arith, few.crtcs)) crtc
      | inr rest ↦ elim (in_either (ids_of t Plane) (ids_of t Conn) object rest) [
        | inl plane ↦ near-of t Plane object (omega arith) (omega (arith, few.planes)) plane
        | inr conn ↦ near-of t Conn object (omega arith) (omega (arith, few.conns)) conn
      ]
    ]

-- Machines

abbrev pub AreFit : List Answered → Type 0
AreFit replies = (a : Answered) → IsIn a replies → IsFitReply a.reply

abbrev pub HaveLong : List Commit → Type 0
HaveLong commits = (c : Commit) → IsIn c commits → IsLong c.request.user_data

long-at : (t : Topology) (cs : List Commit) (k : ℕ) → HaveLong cs → IsLong (commit_at t cs k).request.user_data
unfolding commit_at
long-at t [] k long = omega arith
long-at t (c ∷ cs) k long = by_test (length cs == k) (long c (inl refl)) (long-at t cs k (λ d i. long d (inr i))) where
  by_test : (b : Bool) → IsLong c.request.user_data → IsLong (commit_at t cs k).request.user_data
      → IsLong (if b then c else commit_at t cs k).request.user_data
  by_test true here later = here
  by_test false here later = later

pub from-map : {A B : Type 0} (f : A → Option B) (xs : List A) (y : B) → IsIn y (filter_map f xs) → (x : A) × IsIn x xs × (f x ≡ Some y)
from-map f [] y is = absurd is
from-map {A} {B} f (x ∷ xs) y is = by_value (f x) refl is (λ later. from-map f xs y later) where
  by_value : (o : Option B) → f x ≡ o → IsIn y (cons_option o (filter_map f xs))
      → (IsIn y (filter_map f xs) → (z : A) × IsIn z xs × (f z ≡ Some y)) → (z : A) × IsIn z (x ∷ xs) × (f z ≡ Some y)
  by_value None e i rest = let r = rest i in (r.0, inr r.1, r.2)
  by_value (Some v) e i rest =
      ⊎_elim (λ (same : v ≡ y). (x, inl refl, e ∙ ap Some same)) (λ later. let r = rest later in (r.0, inr r.1, r.2)) i

module _ (s : Script) (formed : IsWellFormed s) (n : ℕ) (m : Machine) (C : Counted s n m) (L : HaveLong m.device.commits)
    (F : AreFit m.records.replies) where
  small : IsSmall m
  small = counted-small s n m formed C

  more : (client : ℕ) (r : Reply) → IsFitReply r → AreFit (answer_now m client r ∷ m.records.replies)
  more client r fits a (inl same) = subst (λ (b : Answered). IsFitReply b.reply) same fits
  more client r fits a (inr old) = F a old

  previous-number : (object : ℕ) → commit_numbered (previous s.topology m.device.commits (length m.device.commits) object) ≤ 65536
  unfolding previous
  previous-number object = go (last_below (λ k. commit_touches s.topology m.device.commits k object) (length m.device.commits)) refl where
    go : (o : Option ℕ) → last_below (λ k. commit_touches s.topology m.device.commits k object) (length m.device.commits) ≡ o
        → commit_numbered o ≤ 65536
    go None e = omega arith
    go (Some k) e =
        let l = last-within (λ k. commit_touches s.topology m.device.commits k object) (length m.device.commits) k e in
        let most = small.commits in
        omega (arith, l, most)

  busy-fit : (r : Request) (o : Option ℕ) → first_pending s.topology m r ≡ o → IsFitReply (busy_reply s.topology m o)
  unfolding first_pending
  busy-fit r None e = tt
  busy-fit r (Some object) e =
      let k = previous-number object in (
        near-object s.topology object (few_objects s.topology formed.device)
            (find-in (λ o. touches s.topology m.device.world r o && is_pending s.topology m o) (lockable s.topology) object e),
        omega (arith, k),
      )

  refusal-fit : (client : ℕ) (r : Request) (o : Option ℕ) → verdict s.topology m.device.world r ≡ o
      → IsFitReply (refusal_reply s.topology m client r o)
  refusal-fit client r (Some number) e = verdict-number s.topology m.device.world r number e
  refusal-fit client r None e = by_space (lacks_space s.topology m client r) where
    by_space : (b : Bool) → IsFitReply (if b then reply.Space (space_used m.events client) else busy_reply s.topology m
        (first_pending s.topology m r))
    by_space true = let few = C.room client in omega (arith, few)
    by_space false = busy-fit r (first_pending s.topology m r) refl

  commit-long : (k : ℕ) → IsLong (commit_at s.topology m.device.commits k).request.user_data
  commit-long k = long-at s.topology m.device.commits k L

  latch-low : (l : Latch) → IsIn l m.records.latches → l.crtc < 5
  latch-low l is =
      let told = by_recursion-at (IsTold s.topology m.device.commits) m.records.latches l C.facts.whole.told is in
      let i : IsObject s.topology Crtc (object_id Crtc l.crtc) = ids-in s.topology Crtc (object_id Crtc l.crtc) told.is_crtc in
      let same = i.same in let within = i.within in let most = (few_objects s.topology formed.device).crtcs in
      omega (arith, same, within, most)

  latch-fit : (client : ℕ) (l : Latch) → l.crtc < 5 → (e : Event) → event_of_latch s.topology m.device.commits client l ≡ Some e
      → IsFitEvent e
  latch-fit client l low e is = by_test (asks_event s.topology m.device.commits l.commit
      && ((commit_at s.topology m.device.commits l.commit).client == client)) is where
        told : Event
        told = record {
          user_data = (commit_at s.topology m.device.commits l.commit).request.user_data;
          sequence = l.count % 2 ^ 32;
          crtc =
              object_id Crtc l.crtc;
        }

        by_test : (b : Bool) → (if b then Some (record {
          user_data =
              (commit_at s.topology m.device.commits l.commit).request.user_data;
          sequence = l.count % 2 ^ 32;
          crtc = object_id Crtc l.crtc;
        })
            else None) ≡ Some e → IsFitEvent e
        by_test false f = absurd cc
        by_test true f =
            let same : told ≡ e = cc in
            let below = mod_below l.count (2 ^ 32) (omega arith) in
            subst IsFitEvent same (record { user_data = commit-long l.commit; sequence = omega (arith, below); crtc = omega (arith, low) })

  unread-fit : (client : ℕ) (e : Event) → IsIn e (unread_at m.events client) → IsFitEvent e
  unread-fit client e is =
      let all = C.facts.events.told client in
      let found = from-map (event_of_latch s.topology m.device.commits client) (reverse m.records.latches) e
      (subst (IsIn e) all (in_right _ (unread_at m.events client) e is)) in
      latch-fit client found.0 (latch-low found.0 (in-reverse m.records.latches found.0 found.1)) e found.2

  -- Steps

  request-long : (client : ℕ) (r : Request) → command_at s m client ≡ Some (command.Atomic r) → IsLong r.user_data
  request-long client r e =
      let spelt = command-spelt s (entry_at m client) (command.Atomic r) formed.commands e in
      let rest = and_parts (is_word32 r.flags) _ spelt in
      ltb-true r.user_data (2 ^ 64) (and_parts (nat_lt r.user_data (2 ^ 64)) _ rest.1).0

  long-more : (c : Commit) (client : ℕ) (r : Request) → command_at s m client ≡ Some (command.Atomic r)
      → IsIn c (record { client = client; command = (place_at m client).command; request = r; world = m.device.world } ∷ m.device.commits)
      → IsLong c.request.user_data
  long-more c client r e (inl same) = subst (λ (d : Commit). IsLong d.request.user_data) same (request-long client r e)
  long-more c client r e (inr old) = L c old

  carries_fit : Carries s m (λ step k. AreFit k.records.replies)
  carries_fit = record {
    locks = locks_leave s m (λ step k. AreFit k.records.replies) (λ step contexts. F);
    answers = record {
      refuses = λ client r e taking may.
          more client (refusal_reply s.topology m client r (verdict s.topology m.device.world r))
          (refusal-fit client r (verdict s.topology m.device.world r) refl);
      tests = λ client r e taking may. more client reply.Tested tt;
      swaps = λ client r e taking may b w eb ew.
          let now = more client (reply.Commit (length m.device.commits)) (let l = small.commits in omega (arith, l)) in
          by_two (λ b w. AreFit (swapped_as s.topology b w m client r).records.replies) now now now now b w;
      makes = λ client c e making idle b eb.
          let now = more client (execute s.topology m.device.world client c).reply
          (execute-fit m.device.world small.ids s.topology client c (not_atomic c making)) in
          by_bool (λ b. AreFit (made_as b m client (execute s.topology m.device.world client c)).records.replies) now now b;
      signalled = λ client c e is_signal idle o.
          let now = more client (execute s.topology m.device.world client c).reply
          (execute-fit m.device.world small.ids s.topology client c (signal-other c is_signal)) in
          by_fence (λ o. AreFit (goes_on (signals (answers m client (execute s.topology m.device.world client c).reply) o)
          client).records.replies) now (λ fence. now) o;
      read_none = λ client c e is_wait idle none. more client reply.NoEvent tt;
      read_one = λ client c e is_wait idle event events some.
          more client (reply.Event event) (unread-fit client event (subst (IsIn event) (sym some) (inl refl)));
    };
    tails = tails_leave s m (λ step left. AreFit left.replies) (λ step. F);
    stalled = λ h. F;
  }

  carries_long : Carries s m (λ step k. HaveLong k.device.commits)
  carries_long = record {
    locks = locks_leave s m (λ step k. HaveLong k.device.commits) (λ step contexts. L);
    answers = record {
      refuses = λ client r e taking may. L;
      tests = λ client r e taking may. L;
      swaps = λ client r e taking may b w eb ew.
          let now = λ (c : Commit) (i : IsIn c (record {
            client = client;
            command = (place_at m client).command;
            request = r;
            world =
                m.device.world;
          } ∷ m.device.commits)).
          long-more c client r e i in
          by_two (λ b w. HaveLong (swapped_as s.topology b w m client r).device.commits) now now now now b w;
      makes = λ client c e making idle b eb. by_bool (λ b. HaveLong
          (made_as b m client (execute s.topology m.device.world client c)).device.commits) L L b;
      signalled = λ client c e is_signal idle o.
          by_fence (λ o. HaveLong (goes_on (signals (answers m client (execute s.topology m.device.world client c).reply) o)
          client).device.commits) L (λ fence. L) o;
      read_none = λ client c e is_wait idle none. L;
      read_one = λ client c e is_wait idle event events some. L;
    };
    tails = tails_leave s m (λ step left. HaveLong left.commits) (λ step. L);
    stalled = λ h. L;
  }

  step_fit : (step : Step) → legal s m step ≡ true → AreFit (next s m step).records.replies
  step_fit step h = each_step s m (λ step k. AreFit k.records.replies) carries_fit step h

  step_long : (step : Step) → legal s m step ≡ true → HaveLong (next s m step).device.commits
  step_long step h = each_step s m (λ step k. HaveLong k.device.commits) carries_long step h

-- Histories

record HasFit (s : Script) (n : ℕ) (m : Machine) : Type 0 where
  counted : Counted s n m
  long : HaveLong m.device.commits
  fit : AreFit m.records.replies

pub replies-fit : (s : Script) (h : List Step) → IsWellFormed s → is_history s h ≡ true → AreFit (at s h).records.replies
replies-fit s h formed is =
    (along_counted s (HasFit s)
    (λ n m step H l. record {
      counted = step_counted s (plain-from s formed) n m step H.counted l;
      long = step_long s formed n m H.counted H.long H.fit step l;
      fit = step_fit s formed n m H.counted H.long H.fit step l;
    })
    h 0 (length h) (first_machine s.topology) (omega arith)
    (record { counted = first_counted s (plain-from s formed); long = λ c never. absurd never; fit = λ a never. absurd never }) is).fit
