-- Refusals of accepted requests, and swaps that wait.
use Rattle.std.proofs.Common.{◌≡◌, ℕ, zero, suc, ◌+◌, ◌*◌, ◌-◌, ◌≤◌, ◌<◌, Bool, true, false, List, [], ◌∷◌, length, map, Some, None, refl}
use Rattle.std.proofs.Common.{sym, ap, ◌∙◌, arith, subst}
use Rattle.std.specs.Prelude.{Option, filter, slice_index_or, ◌&&◌, ◌||◌, not, is_none, is_some, nat_lt, if◌then◌else◌}
use Rattle.std.specs.List.{range_with_len}
use Rattle.std.proofs.lemmas.Bool.{and_from, or_right}
use Rattle.std.proofs.lemmas.List.{get_or_default}
use Rattle.kms_model.specs.Firsts.{one_if}
use Rattle.kms_model.specs.declared.objects.Kind.TheVariants.{Crtc}
use Rattle.kms_model.specs.declared.objects.ObjId.{ObjId}
use Rattle.kms_model.specs.declared.objects.Topology.{Topology}
use Rattle.kms_model.specs.declared.replies.Reply.{Reply}
use Rattle.kms_model.specs.declared.replies.Reply.TheVariants as reply
use Rattle.kms_model.specs.declared.replies.Step.TheVariants as step
use Rattle.kms_model.specs.declared.replies.Event.{Event}
use Rattle.kms_model.specs.declared.scripts.Command.TheVariants as command
use Rattle.kms_model.specs.declared.scripts.Request.{Request}
use Rattle.kms_model.specs.declared.states.Checked.{Checked}
use Rattle.kms_model.specs.declared.states.Mask.{Mask}
use Rattle.kms_model.specs.Device.Objects.{count_of, ids_of, object_id}
use Rattle.kms_model.specs.Machine.Effects.{busy_reply, decided, next, refused}
use Rattle.kms_model.specs.Machine.Histories.{legal}
use Rattle.kms_model.specs.Machine.State.{Machine, command_at, request_at, reserved_at}
use Rattle.kms_model.specs.Machine.Steps as steps
use Rattle.kms_model.specs.Request.Apply.{after}
use Rattle.kms_model.specs.Request.Flags.{is_nonblock, is_test, wants_event}
use Rattle.kms_model.specs.Request.Named.{named, names}
use Rattle.kms_model.specs.Request.Touched.{named_by, set_where, touched_by}
use Rattle.kms_model.specs.Request.Verdict.{early_in, late_in}
use Rattle.kms_model.proofs.MaskLemmas.{has_bit-mask_below}
use Rattle.kms_laws.proofs.ClientProgress.{taking-from}
use Rattle.kms_laws.proofs.Steps.{request-is}
use Rattle.kms_laws.proofs.SmallNumbers.{numbers_fit}
use Rattle.kms_signal.specs.InStep.{IsQueueOf}
use Rattle.kms_signal.specs.Queues.{Queue, empty_queue}
use Rattle.kms_track.specs.MachineLaws.{awaited_answer, busy_answer}
use Rattle.kms_track.specs.Tracking.{not_yet_of}
use Rattle.kms_track.proofs.CheckedLemmas.{device_within, in_touched}
use Rattle.kms_track.proofs.MachineAnswers.{busy_machine}
use Rattle.kms_track.proofs.NotYetAnswers.{awaited_told, not_yet_machine}
use Rattle.kms_track.specs.Places.{mask_has}
use Rattle.kms_core.specs.Decisions.{Decides, world}
use Rattle.kms_core.specs.Run.{Run, machine}
use Rattle.kms_core.specs.Stands.{Stores, Stands, queue_of}
use Rattle.kms_core.specs.Swaps.{IsReadyToCommit, busy_as, count_in, late_reply, late_told, refused_or, swap_answer, swap_answer_of}
use Rattle.kms_core.specs.Swaps.{waits_or_commits}
use Rattle.kms_core.proofs.Places.{client_there}

-- a client's queue
pub record OwnQueue (r : Run) (st : Stores) (client : ℕ) : Type 0 where
  pub low : 1 ≤ client
  pub within : client - 1 < length st.queues
  pub is : IsQueueOf (queue_of st.queues client) (machine r).events client
  pub few : (queue_of st.queues client).reserved + length (queue_of st.queues client).unread ≤ 128

-- How many CRTCs are named

filter_length : (f : ℕ → Bool) (x : ℕ) (xs : List ℕ) → length (filter f (x ∷ xs)) ≡ one_if (f x) + length (filter f xs)
filter_length f x xs = by_test (f x) refl where
  by_test : (b : Bool) → f x ≡ b → length (filter f (x ∷ xs)) ≡ one_if (f x) + length (filter f xs)
  by_test true is = rw is (omega arith)
  by_test false is = rw is (omega arith)

count_first : (f : ℕ → Bool) (n : ℕ) → n ≤ 4
    → one_if (nat_lt 0 n && f 100) + (one_if (nat_lt 1 n && f 101) + (one_if (nat_lt 2 n && f 102) + one_if (nat_lt 3 n && f 103)))
    ≡ length (filter f (map (object_id Crtc) (range_with_len 0 n)))
count_first f zero few = refl
count_first f (suc zero) few = rw (filter_length f 100 []) (omega arith)
count_first f (suc (suc zero)) few = rw (filter_length f 100 (101 ∷ []), filter_length f 101 []) (omega arith)
count_first f (suc (suc (suc zero))) few = rw (filter_length f 100 (101 ∷ 102 ∷ []), filter_length f 101 (102 ∷ []), filter_length f 102 [])
    (omega arith)
count_first f (suc (suc (suc (suc zero)))) few = rw (
  filter_length f 100 (101 ∷ 102 ∷ 103 ∷ []),
  filter_length f 101 (102 ∷ 103 ∷ []),
  filter_length f 102 (103 ∷ []),
  filter_length f 103 [],
) (omega arith)
count_first f (suc (suc (suc (suc (suc n))))) few = absurd (omega (arith, few))

pub count_named : (t : Topology) (f : ℕ → Bool) → count_of t Crtc ≤ 4 → count_in (set_where t Crtc f) ≡ length (filter f (ids_of t Crtc))
count_named t f few =
    rw (
      has_bit-mask_below (λ index. f (object_id Crtc index)) (count_of t Crtc) 0,
      has_bit-mask_below (λ index. f (object_id Crtc index)) (count_of t Crtc) 1,
      has_bit-mask_below (λ index. f (object_id Crtc index)) (count_of t Crtc) 2,
      has_bit-mask_below (λ index. f (object_id Crtc index)) (count_of t Crtc) 3,
    ) (count_first f (count_of t Crtc) few)

-- The refusal

-- what is answered by flags, the space that is used, how many events are asked for, and what is busy
abbrev late_by : ℕ → ℕ → ℕ → Option Reply → Option Reply
late_by flags used events busy = if wants_event flags && nat_lt 4096 (used + 32 * events) then Some (reply.Space used)
    else (if is_nonblock flags then busy else None)

busy_same : (t : Topology) (m : Machine) (nonblock : Bool) (o : Option ℕ)
    → (if nonblock then busy_as (busy_answer t m.device.commits o) else None)
    ≡ (if nonblock && is_some o then Some (busy_reply t m o) else None)
busy_same t m true None = refl
busy_same t m true (Some object) = refl
busy_same t m false o = refl

late_plain : (t : Topology) (m : Machine) (client : ℕ) (r : Request) {flags used events : ℕ} {busy : Option (ObjId × ℕ)} → flags ≡ r.flags
    → used ≡ steps.space_used m.events client
    → events ≡ length (named t m.device.world r) → busy ≡ busy_answer t m.device.commits (steps.first_pending t m r)
    → late_by flags used events (busy_as busy) ≡ late_reply t m client r
unfolding steps.lacks_space
late_plain t m client r flags_are used_is events_are busy_is =
    rw (flags_are, used_is, events_are, busy_is)
    (ap (λ (x : Option Reply). if wants_event r.flags
    && nat_lt 4096 (steps.space_used m.events client + 32 * length (named t m.device.world r))
    then Some (reply.Space (steps.space_used m.events client)) else x)
    (busy_same t m (is_nonblock r.flags) (steps.first_pending t m r)))

-- the stores tell what the machine does
pub late_same : {r : Run} {st : Stores} {client : ℕ} (request : Request) {named : ℕ} {touched : Mask} (flags : ℕ) → Stands r st
    → IsQueueOf (queue_of st.queues client) (machine r).events client → flags ≡ request.flags
    → named ≡ named_by r.script.topology (world r) request → touched ≡ touched_by r.script.topology (world r) request
    → late_told (queue_of st.queues client) st.tracker named touched flags ≡ late_reply r.script.topology (machine r) client request
late_same {r} {st} {client} request {named} {touched} flags stands queue flags_are named_are touched_are =
    let limits = device_within r.script.topology stands.formed.device in
    late_plain r.script.topology (machine r) client request flags_are
    (ap (λ n. 32 * (n + length (queue_of st.queues client).unread)) queue.reserved ∙ ap
    (λ events. 32 * (reserved_at (machine r).events client + length events)) queue.unread)
    (ap count_in named_are ∙ count_named r.script.topology (names (world r).values (after (world r) request) request.assigns) limits.crtcs)
    (busy_machine r.script.topology (machine r) st.tracker touched request stands.stores.tracker limits
    (λ p below. ap (λ mask. mask_has mask p) touched_are ∙ sym (in_touched r.script.topology (world r) request p below)))

-- What a refusal decides

abbrev reply_or : Reply → Option Reply → Reply
reply_or other None = other
reply_or other (Some reply) = reply

pub late_parts : (lacks busy : Bool) (x y given : Reply) → (if lacks then Some x else (if busy then Some y else None)) ≡ Some given
    → ((lacks || busy) ≡ true) × ((if lacks then x else y) ≡ given)
late_parts true busy x y given e = (refl, ap (reply_or x) e)
late_parts false true x y given e = (refl, ap (reply_or y) e)
late_parts false false x y given e = absurd cc

late_none : (lacks busy : Bool) (x y : Reply) → (if lacks then Some x else (if busy then Some y else None)) ≡ None → (lacks || busy) ≡ false
late_none true busy x y e = absurd cc
late_none false true x y e = absurd cc
late_none false false x y e = refl

pub late_refuses : (r : Run) (client : ℕ) (checked : Checked) (flags : ℕ) (given : Reply) (asked : IsReadyToCommit r client checked flags)
    → late_reply r.script.topology (machine r) client asked.request ≡ Some given
    → Decides r client (step.Refuse client) given
unfolding legal steps.may steps.may_refuse next refused
late_refuses r client checked flags given asked is =
    let t : Topology = r.script.topology in
    let m : Machine = machine r in
    let request : Request = asked.request in
    let parts = late_parts (steps.lacks_space t m client request) (steps.is_busy t m request)
    (reply.Space (steps.space_used m.events client)) (busy_reply t m (steps.first_pending t m request)) given is in
    record {
      number = asked.number;
      taking = asked.taking;
      legal =
          and_from _ _ (ap not asked.going)
          (taking-from r.script m client (steps.may_refuse t m client) request asked.taking asked.at
          (or_right (is_some (early_in t (world r) request)) _
          (and_from _ _ asked.held (or_right (is_some (late_in t (world r) request)) _
          (and_from _ _ (ap not asked.no_test) parts.0)))));
      does = rw (asked.at, asked.none) (ap (decided m client) parts.1);
    }

swap_is_legal : (r : Run) (client : ℕ) (checked : Checked) (flags : ℕ) (asked : IsReadyToCommit r client checked flags)
    → late_reply r.script.topology (machine r) client asked.request ≡ None
    → steps.is_ready r.script.topology (machine r) asked.request ≡ true → legal r.script (machine r) (step.Swap client) ≡ true
unfolding legal steps.may steps.may_swap
swap_is_legal r client checked flags asked is ready =
    let t : Topology = r.script.topology in
    let m : Machine = machine r in
    let request : Request = asked.request in
    let none = late_none (steps.lacks_space t m client request) (steps.is_busy t m request) (reply.Space (steps.space_used m.events client))
    (busy_reply t m (steps.first_pending t m request)) is in
    and_from _ _ (ap not asked.going)
    (taking-from r.script m client (steps.may_swap t m client) request asked.taking asked.at
    (and_from _ _ (ap not asked.no_test) (and_from _ _ asked.held
    (and_from _ _ (ap is_none asked.none) (and_from _ _
    (ap (λ b. not (not (is_test request.flags) && b)) none ∙ not_both (is_test request.flags)) ready)))))
  where
    not_both : (b : Bool) → not (not b && false) ≡ true
    not_both true = refl
    not_both false = refl

-- What a swap answers, as the call finds it

late_of : {r : Run} {st : Stores} {client : ℕ} (checked : Checked) (flags : ℕ) (asked : IsReadyToCommit r client checked flags)
    → Stands r st → IsQueueOf (queue_of st.queues client) (machine r).events client
    → late_told (queue_of st.queues client) st.tracker checked.named checked.touched flags
    ≡ late_reply r.script.topology (machine r) client asked.request
late_of {r} {st} {client} checked flags asked stands queue =
    late_same asked.request flags stands queue asked.flags_are asked.checked_as.named
    asked.checked_as.touched

-- the client's queue
pub queue_there : {r : Run} {st : Stores} (client : ℕ) {request : Request} → request_at r.script (machine r) client ≡ Some request
    → Stands r st → OwnQueue r st client
queue_there {r} client {request} at stands =
    let there = client_there r.script (machine r) client (command.Atomic request)
    (request-is (command_at r.script (machine r) client) request at) in
    let is = stands.stores.queues.queue client there.0 there.1 in
    let fit = (numbers_fit r.script r.steps stands.formed stands.history).events client in
    record {
      low = there.0;
      within = (let size = stands.stores.queues.size in let high = there.1 in omega (arith, size, high, there.0));
      is = is;
      few = (let unread = ap (λ (events : List Event). length events) is.unread in omega (arith, fit, is.reserved, unread));
    }

pub own_queue : {r : Run} {st : Stores} {client : ℕ} {checked : Checked} {flags : ℕ} → IsReadyToCommit r client checked flags → Stands r st
    → OwnQueue r st client
own_queue {r} {st} {client} asked stands = queue_there client asked.at stands

pub late_decides : {r : Run} {st : Stores} {client : ℕ} {checked : Checked} {flags : ℕ} {q : Queue} {given : Reply} → Stands r st
    → IsReadyToCommit r client checked flags → q ≡ queue_of st.queues client
    → Some given ≡ late_told q st.tracker checked.named checked.touched flags → Decides r client (step.Refuse client) given
late_decides {r} {st} {client} {checked} {flags} {given} stands asked q_is is =
    let queue = own_queue asked stands in
    late_refuses r client checked flags given asked
    (sym (late_of checked flags asked stands queue.is) ∙ sym
    (is ∙ ap (λ (x : Queue). late_told x st.tracker checked.named checked.touched flags) q_is))

answer_at : (r : Run) (client : ℕ) {request : Request} {late : Option Reply} (awaited : Option (ObjId × ℕ))
    → request_at r.script (machine r) client ≡ Some request
    → late_reply r.script.topology (machine r) client request ≡ late → awaited_answer r.script.topology (machine r) request ≡ awaited
    → refused_or late (waits_or_commits awaited (length (machine r).device.commits)) ≡ swap_answer r client
answer_at r client {request} {late} awaited at late_is awaited_is =
    sym (ap (swap_answer_of r.script.topology (machine r) client) at
    ∙ ap (λ (x : Option Reply). refused_or x (waits_or_commits (awaited_answer r.script.topology (machine r) request)
    (length (machine r).device.commits))) late_is
    ∙ ap (λ (x : Option (ObjId × ℕ)). refused_or late (waits_or_commits x (length (machine r).device.commits))) awaited_is)

pub swap_answers : {r : Run} {st : Stores} {client : ℕ} {checked : Checked} {flags : ℕ} {q : Queue} {late : Option Reply}
    (awaited : Option (ObjId × ℕ)) → Stands r st → IsReadyToCommit r client checked flags
    → q ≡ queue_of st.queues client → late ≡ late_told q st.tracker checked.named checked.touched flags
    → (late ≡ None → awaited ≡ not_yet_of st.tracker checked.named)
    → refused_or late (waits_or_commits awaited (length (machine r).device.commits)) ≡ swap_answer r client
swap_answers {r} {st} {client} {checked} {flags} {late} awaited stands asked q_is is awaited_is =
    let queue = own_queue asked stands in
    let limits = device_within r.script.topology stands.formed.device in
    let late_is : late_reply r.script.topology (machine r) client asked.request ≡ late =
    sym (late_of checked flags asked stands queue.is) ∙ sym
    (is ∙ ap (λ (x : Queue). late_told x st.tracker checked.named checked.touched flags) q_is) in
    by_late r client asked late late_is (λ none. sym
    (awaited_is none ∙ ap (not_yet_of st.tracker) asked.checked_as.named ∙ awaited_told r.script.topology (machine r) st.tracker
    asked.request stands.stores.tracker limits))
  where
    by_late : (r : Run) (client : ℕ) (asked : IsReadyToCommit r client checked flags) (late : Option Reply)
        → late_reply r.script.topology (machine r) client asked.request ≡ late
        → (late ≡ None → awaited_answer r.script.topology (machine r) asked.request ≡ awaited)
        → refused_or late (waits_or_commits awaited (length (machine r).device.commits)) ≡ swap_answer r client
    by_late r client asked None late_is rest = answer_at r client awaited asked.at late_is (rest refl)
    by_late r client asked (Some given) late_is rest = answer_at r client
        (awaited_answer r.script.topology (machine r) asked.request) asked.at late_is refl

pub swap_may : {r : Run} {st : Stores} {client : ℕ} {checked : Checked} {flags : ℕ} {q : Queue} → Stands r st
    → IsReadyToCommit r client checked flags
    → q ≡ queue_of st.queues client → None ≡ late_told q st.tracker checked.named checked.touched flags → None
    ≡ not_yet_of st.tracker checked.named → legal r.script (machine r) (step.Swap client) ≡ true
swap_may {r} {st} {client} {checked} {flags} stands asked q_is is awaited_is =
    let queue = own_queue asked stands in
    let limits = device_within r.script.topology stands.formed.device in
    let late_is : late_reply r.script.topology (machine r) client asked.request ≡ None =
    sym (late_of checked flags asked stands queue.is) ∙ sym
    (is ∙ ap (λ (x : Queue). late_told x st.tracker checked.named checked.touched flags) q_is) in
    let ready : steps.is_ready r.script.topology (machine r) asked.request ≡ true =
    sym (not_yet_machine r.script.topology (machine r) st.tracker asked.request stands.stores.tracker limits)
    ∙ ap (λ (o : Option (ObjId × ℕ)). is_none o) (sym (awaited_is ∙ ap (not_yet_of st.tracker) asked.checked_as.named)) in
    swap_is_legal r client checked flags asked late_is ready

-- the queue at a client's index
pub queue_at : {r : Run} {st : Stores} (client : ℕ) {request : Request} {q : Queue} → request_at r.script (machine r) client ≡ Some request
    → Stands r st → q ≡ slice_index_or st.queues (client - 1) q → q ≡ queue_of st.queues client
queue_at {r} {st} client {request} {q} at stands is = is ∙ get_or_default st.queues (client - 1) q empty_queue
    (queue_there client at stands).within

pub few_at : {r : Run} {st : Stores} (client : ℕ) {request : Request} {q : Queue} → request_at r.script (machine r) client ≡ Some request
    → Stands r st → q ≡ slice_index_or st.queues (client - 1) q → q.reserved + length q.unread ≤ 128
few_at {r} {st} client {request} {q} at stands is =
    subst (λ (x : Queue). x.reserved + length x.unread ≤ 128) (sym (queue_at client at stands is))
    (queue_there client at stands).few

pub indexed_queue : {r : Run} {st : Stores} {client : ℕ} {checked : Checked} {flags : ℕ} {q : Queue} → Stands r st
    → IsReadyToCommit r client checked flags → q ≡ slice_index_or st.queues (client - 1) q → q ≡ queue_of st.queues client
indexed_queue {r} {st} {client} {q} stands asked is =
    queue_at client asked.at stands is

pub few_events : {r : Run} {st : Stores} {client : ℕ} {checked : Checked} {flags : ℕ} {q : Queue} → Stands r st
    → IsReadyToCommit r client checked flags → q ≡ slice_index_or st.queues (client - 1) q → q.reserved + length q.unread ≤ 128
few_events {r} {st} {client} {q} stands asked is =
    few_at client asked.at stands is
