-- What is told of a request is what the machine says of it, and decides which steps may follow.
use Rattle.std.proofs.Common.{◌≡◌, ℕ, ◌+◌, Bool, true, false, Option, Some, None, refl, sym, ap, ◌∙◌, subst, add-one}
use Rattle.std.specs.Prelude.{◌&&◌, ◌||◌, not, is_none, is_some, if◌then◌else◌}
use Rattle.kms_model.specs.declared.replies.Refusal.{Refusal}
use Rattle.kms_model.specs.declared.replies.Reply.{Reply}
use Rattle.kms_model.specs.declared.replies.Reply.TheVariants as reply
use Rattle.kms_model.specs.declared.replies.Step.TheVariants as step
use Rattle.kms_model.specs.declared.scripts.Request.{Request}
use Rattle.kms_model.specs.declared.scripts.Script.{Script}
use Rattle.kms_model.specs.declared.states.Duplicates.{Duplicates}
use Rattle.kms_model.specs.declared.states.Mask.{Mask}
use Rattle.kms_model.specs.Device.World.{thing_labelled}
use Rattle.kms_model.specs.Machine.Effects.{busy_reply}
use Rattle.kms_model.specs.Machine.State.{Machine}
use Rattle.kms_model.specs.Machine.Steps.{first_pending, is_busy, is_ready, lacks_space, may, may_refuse, may_swap, may_test, space_used}
use Rattle.kms_model.specs.Request.Flags.{is_test}
use Rattle.kms_model.specs.Request.Lookups.{look_of, look_up}
use Rattle.kms_model.specs.Request.Refusals.{early_refusal}
use Rattle.kms_model.specs.Request.Touched.{named_by, touched_by}
use Rattle.kms_model.specs.Request.Verdict.{early_in, late_in, verdict}
use Rattle.kms_model.proofs.Facts.{none-some}
use Rattle.kms_laws.proofs.ClientProgress.{not-none}
use Rattle.kms_request.specs.Answers.{refusal_number}
use Rattle.kms_signal.specs.Queues.{Queue}
use Rattle.kms_track.specs.Places.{all_below}
use Rattle.kms_track.specs.Tracking.{not_yet_of}
use Rattle.kms_track.proofs.CheckedLemmas.{device_within}
use Rattle.kms_track.proofs.NotYetAnswers.{not_yet_machine}
use Rattle.kms_core.specs.declared.next.judgement.Judged.{Judged}
use Rattle.kms_core.specs.Decisions.{world}
use Rattle.kms_core.specs.Judging.{IsJudged, IsJudgedLate, request_taken}
use Rattle.kms_core.specs.Decisions.{held_at}
use Rattle.kms_core.specs.Run.{Run, machine}
use Rattle.kms_core.specs.Stands.{Stores, Stands, queue_of}
use Rattle.kms_core.specs.Swaps.{late_reply, late_told}
use Rattle.kms_core.proofs.stores.Accepted.{mask_holds}
use Rattle.kms_core.proofs.Lates.{late_same, queue_there}
use Rattle.kms_core.proofs.stores.Seeking.{both_off}
use Rattle.kms_core.proofs.next.Presented.{tells_now}
use Rattle.kms_core.proofs.next.Taken.{Takes, taken_parts, taking-is, taking-none}

-- Places

pub all_first : (f : ℕ → Bool) → true ≡ all_below f 0
unfolding all_below
all_first f = refl

all_more : (f : ℕ → Bool) (p : ℕ) → all_below f (p + 1) ≡ (all_below f p && f p)
unfolding all_below
all_more f p = rw (add-one p) refl

pub one_more : (f : ℕ → Bool) (p : ℕ) (before after : Bool) → before ≡ all_below f p → before ≡ true → after ≡ f p → after
    ≡ all_below f (p + 1)
one_more f p before after is all now = now ∙ ap (λ b. b && f p) (sym all ∙ is) ∙ sym (all_more f p)

pub no_more : (f : ℕ → Bool) (p : ℕ) {before after : Bool} → before ≡ all_below f p → before ≡ false → after ≡ before → after
    ≡ all_below f (p + 1)
no_more f p is out same = same ∙ out ∙ ap (λ b. b && f p) (sym out ∙ is) ∙ sym (all_more f p)

-- The request, as the call finds it

pub takes_at : {r v : Run} (client : ℕ) {request : Request} → r ≡ v → Some request ≡ request_taken v.script (machine v) client
    → Takes r.script (machine r) client request
takes_at {r} client {request} same is = taken_parts r.script (machine r) client
    (is ∙ ap (λ (w : Run). request_taken w.script (machine w) client) (sym same))

-- The early refusals

some_number : (o : Option Refusal) → is_some (refusal_number o) ≡ is_some o
some_number None = refl
some_number (Some refusal) = refl

pub none_told : {A : Type 0} (b : Bool) (o : Option A) {p : Option A} → not b ≡ is_some o → o ≡ p → b ≡ is_none p
none_told true None told is = ap (λ x. is_none x) is
none_told false None told is = absurd cc
none_told true (Some x) told is = absurd cc
none_told false (Some x) told is = ap (λ x. is_none x) is

pub early_told : {r : Run} {st : Stores} (request : Request) (o : Option Refusal) {told : Bool} → Stands r st
    → refusal_number o ≡ early_refusal r.script.topology (λ label. look_of (thing_labelled st.made.things label)) request → is_some o ≡ told
    → is_some (early_in r.script.topology (world r) request) ≡ told
early_told {r} {st} request o stands first is =
    let looks : (λ label. look_of (thing_labelled st.made.things label)) ≡ look_up (world r) = λ i label. tells_now stands label i in
    ap (λ g. is_some (early_refusal r.script.topology g request)) (sym looks) ∙ ap (λ (n : Option ℕ). is_some n) (sym first) ∙ some_number o
    ∙ is

pub early_none : {r : Run} {st : Stores} (request : Request) (o : Option Refusal) → Stands r st
    → refusal_number o ≡ early_refusal r.script.topology (λ label. look_of (thing_labelled st.made.things label)) request → is_some o
    ≡ false
    → early_in r.script.topology (world r) request ≡ None
early_none {r} {st} request o stands first is = not-none (early_in r.script.topology (world r) request)
    (early_told request o stands first is)

-- All else

some_late : (lacks busy : Bool) (x y : Reply) → is_some (if lacks then Some x else (if busy then Some y else None)) ≡ (lacks || busy)
some_late true busy x y = refl
some_late false true x y = refl
some_late false false x y = refl

-- what the calls tell, in the words of the stores
pub record AreTold (r : Run) (st : Stores) (client : ℕ) (request : Request) (j : Judged) : Type 0 where
  pub after : Duplicates
  pub named : ℕ
  pub touched : Mask
  pub queue : Queue
  pub refusal : Option Refusal
  pub none : early_in r.script.topology (world r) request ≡ None
  pub named_is : named ≡ named_by r.script.topology (world r) request
  pub touched_is : touched ≡ touched_by r.script.topology (world r) request
  pub queue_is : queue ≡ queue_of st.queues client
  pub refusal_is : refusal_number refusal ≡ late_in r.script.topology (world r) request
  pub holds : j.holds ≡ all_below (held_at (machine r) client touched) 28
  pub late : j.late ≡ refusal
  pub hindered : j.hindered ≡ late_told queue st.tracker named touched request.flags
  pub ready : j.ready ≡ is_none (not_yet_of st.tracker named)

pub judged_late : {r v : Run} {st : Stores} {client : ℕ} {request : Request} (j : Judged) → Stands r st → r ≡ v
    → Takes r.script (machine r) client request → AreTold r st client request j
    → IsJudged v.script.topology (machine v) client request (Some j)
judged_late {r} {st} {client} {request} j stands same takes told =
    let t = r.script.topology in
    let m = machine r in
    let queue = queue_there client takes.at stands in
    let limits = device_within t stands.formed.device in
    let late_is : late_told told.queue st.tracker told.named told.touched request.flags ≡ late_reply t m client request =
    ap (λ (q : Queue). late_told q st.tracker told.named told.touched request.flags) told.queue_is
    ∙ late_same request request.flags stands queue.is refl told.named_is told.touched_is in
    let here : IsJudgedLate t m client request j =
    record {
      none = told.none;
      holds = told.holds ∙ mask_holds m client request stands.formed.device told.touched_is;
      late = ap refusal_number told.late ∙ told.refusal_is;
      hindered = told.hindered ∙ late_is;
      ready = told.ready ∙ ap (λ n. is_none (not_yet_of st.tracker n)) told.named_is ∙ not_yet_machine t m st.tracker request
          stands.stores.tracker limits;
    } in
    subst (λ (w : Run). IsJudged w.script.topology (machine w) client request (Some j)) same here

-- Decisions

pub no_refuse : (s : Script) (m : Machine) (client : ℕ) → None ≡ request_taken s m client → false ≡ may s m (step.Refuse client)
unfolding may
no_refuse s m client is = sym (taking-none s m client (may_refuse s.topology m client) is)

pub no_test : (s : Script) (m : Machine) (client : ℕ) → None ≡ request_taken s m client → false ≡ may s m (step.Test client)
unfolding may
no_test s m client is = sym (taking-none s m client (may_test s.topology m client) is)

pub no_swap : (s : Script) (m : Machine) (client : ℕ) → None ≡ request_taken s m client → false ≡ may s m (step.Swap client)
unfolding may
no_swap s m client is = sym (taking-none s m client (may_swap s.topology m client) is)

-- no request is accepted for which an early refusal is due
not_accepted : (s : Script) (m : Machine) (request : Request) → is_some (early_in s.topology m.device.world request) ≡ true
    → is_none (verdict s.topology m.device.world request) ≡ false
unfolding verdict
not_accepted s m request early = by (early_in s.topology m.device.world request) refl early where
  by : (o : Option ℕ) → early_in s.topology m.device.world request ≡ o → is_some o ≡ true
      → is_none (verdict s.topology m.device.world request) ≡ false
  by None is some = absurd cc
  by (Some n) is some = rw is refl

accepted_late : (s : Script) (m : Machine) (request : Request) → early_in s.topology m.device.world request ≡ None
    → is_none (verdict s.topology m.device.world request) ≡ not (is_some (late_in s.topology m.device.world request))
unfolding verdict
accepted_late s m request none = rw none (none-some (late_in s.topology m.device.world request))

module _ (s : Script) (m : Machine) (client : ℕ) (request : Request) (is : Some request ≡ request_taken s m client) where
  takes : Takes s m client request
  takes = taken_parts s m client is

  pub refuse_early : IsJudged s.topology m client request None → true ≡ may s m (step.Refuse client)
  unfolding may may_refuse
  refuse_early early = sym (taking-is (may_refuse s.topology m client) takes ∙ rw early refl)

  pub test_early : IsJudged s.topology m client request None → false ≡ may s m (step.Test client)
  unfolding may may_test
  test_early early = sym (taking-is (may_test s.topology m client) takes ∙ rw (not_accepted s m request early)
      (both_off (is_test request.flags) _))

  pub swap_early : IsJudged s.topology m client request None → false ≡ may s m (step.Swap client)
  unfolding may may_swap
  swap_early early = sym (taking-is (may_swap s.topology m client) takes ∙ rw (not_accepted s m request early)
      (both_off (not (is_test request.flags)) _))

  module _ (j : Judged) (told : IsJudgedLate s.topology m client request j) (test : Bool) (test_is : test ≡ is_test request.flags) where
    late_some : is_some j.late ≡ is_some (late_in s.topology m.device.world request)
    late_some = sym (some_number j.late) ∙ ap (λ (n : Option ℕ). is_some n) told.late

    hindered_some : is_some j.hindered ≡ (lacks_space s.topology m client request || is_busy s.topology m request)
    hindered_some =
        ap (λ (x : Option Reply). is_some x) told.hindered
        ∙ some_late (lacks_space s.topology m client request) (is_busy s.topology m request) (reply.Space (space_used m.events client))
        (busy_reply s.topology m (first_pending s.topology m request))

    pub refuse_late : (j.holds && (is_some j.late || (not test && is_some j.hindered))) ≡ may s m (step.Refuse client)
    unfolding may may_refuse
    refuse_late = rw (told.holds, late_some, hindered_some, test_is)
        (sym (taking-is (may_refuse s.topology m client) takes ∙ rw told.none refl))

    pub test_late : (test && (j.holds && is_none j.late)) ≡ may s m (step.Test client)
    unfolding may may_test
    test_late =
        rw (told.holds, none-some j.late, late_some, test_is)
        (sym (taking-is (may_test s.topology m client) takes ∙ rw (accepted_late s m request told.none) refl))

    hinders : (test b c : Bool) (holds late : Bool) → (not test && (holds && (late && (not (not test && b) && c))))
        ≡ (not test && (holds && (late && (not b && c))))
    hinders true b c holds late = refl
    hinders false b c holds late = refl

    pub swap_late : (not test && (j.holds && (is_none j.late && (is_none j.hindered && j.ready)))) ≡ may s m (step.Swap client)
    unfolding may may_swap
    swap_late =
        rw (told.holds, none-some j.late, none-some j.hindered, late_some, hindered_some, told.ready, test_is)
        (sym (taking-is (may_swap s.topology m client) takes ∙ rw (accepted_late s m request told.none)
        (hinders (is_test request.flags) (lacks_space s.topology m client request || is_busy s.topology m request)
        (is_ready s.topology m request) _ _)))
