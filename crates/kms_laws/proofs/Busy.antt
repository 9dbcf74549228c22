-- When a request is answered busy.
use Rattle.std.proofs.Common.{◌≡◌, ℕ, List, Bool, true, false, not, ◌&&◌, Option, Some, None, refl, ap, ◌∙◌, subst, inl, inr}
use Rattle.std.specs.Prelude.{◌↔◌, if◌then◌else◌, is_some, length}
use Rattle.std.proofs.lemmas.Bool.{and_from, and_parts, false≢true, or_right}
use Rattle.kms_model.specs.declared.objects.ObjId.{ObjId}
use Rattle.kms_model.specs.declared.objects.Topology.{Topology}
use Rattle.kms_model.specs.declared.replies.Reply.TheVariants as reply
use Rattle.kms_model.specs.declared.replies.Step.{Step}
use Rattle.kms_model.specs.declared.replies.Step.TheVariants.{Refuse}
use Rattle.kms_model.specs.declared.scripts.Request.{Request}
use Rattle.kms_model.specs.declared.scripts.Script.{Script}
use Rattle.kms_model.specs.Machine.Commits.{has_flipped, if_there, lockable, previous}
use Rattle.kms_model.specs.Machine.Effects.{busy_reply, commit_numbered, refusal_reply}
use Rattle.kms_model.specs.Machine.Histories.{at, is_history, legal, steps_that_move}
use Rattle.kms_model.specs.Machine.State.{Machine, doing_at, request_at}
use Rattle.kms_model.specs.Machine.Steps.{first_pending, holds_touched, is_pending, is_taking, lacks_space, may, may_refuse, space_used}
use Rattle.kms_model.specs.Promises.{IsBusyFor}
use Rattle.kms_model.specs.Request.Flags.{is_nonblock, is_test}
use Rattle.kms_model.specs.Request.Sets.{obj_id}
use Rattle.kms_model.specs.Request.Touched.{touches}
use Rattle.kms_model.specs.Request.Verdict.{early_in, late_in, verdict}
use Rattle.kms_model.proofs.Guards.IsRefusing.{Busy, Early, Full, Late}
use Rattle.kms_model.proofs.Guards.{legal_guards, may_legal, refuse_guards, taking_passes}
use Rattle.kms_model.proofs.Items.{list_any-has}
use Rattle.kms_model.proofs.SoundKept.{accepted-parts}
use Rattle.kms_laws.proofs.Basics.{both_bools}
use Rattle.kms_laws.proofs.ClientProgress.{of_client, taking-from, with_request}
use Rattle.kms_laws.proofs.NeverStuck.{Along, history_along, still-going}
use Rattle.kms_model.proofs.ThingLemmas.{find-holds}
use Rattle.kms_laws.proofs.Steps.{IsPlainScript}

-- what may be refused late, where nothing else is wrong
record IsLate (t : Topology) (m : Machine) (client : ℕ) (r : Request) : Type 0 where
  held : holds_touched t m client r ≡ true
  no_test : is_test r.flags ≡ false
  nonblock : is_nonblock r.flags ≡ true

late-from : (t : Topology) (m : Machine) (client : ℕ) (r : Request) → may_refuse t m client r ≡ true → verdict t m.device.world r ≡ None
    → lacks_space t m client r ≡ false → IsLate t m client r
late-from t m client r h none space =
    let parts = accepted-parts t m.device.world r none in
    elim (refuse_guards t m client r h) [
      | Early early ↦ absurd (both_bools _ early (ap is_some parts.first_none))
      | Late held late ↦ absurd (both_bools _ late (ap is_some parts.second_none))
      | Full held no_test full ↦ absurd (both_bools _ full space)
      | Busy held no_test nonblock pending ↦ record { held = held; no_test = no_test; nonblock = nonblock }
    ]

-- the first pending object has a commit before
pending-previous : (t : Topology) (m : Machine) (r : Request) (object : ℕ) → first_pending t m r ≡ Some object
    → is_some (previous t m.device.commits (length m.device.commits) object) ≡ true
unfolding first_pending is_pending
pending-previous t m r object e =
    let pending = (and_parts (touches t m.device.world r object) _
    (find-holds (λ o. touches t m.device.world r o
    && not (if_there (λ k. has_flipped t m.device.commits m.records.latches k o)
    (previous t m.device.commits (length m.device.commits) o))) (lockable t) object e)).1 in
    go (previous t m.device.commits (length m.device.commits) object) pending
  where
    go : (o : Option ℕ) → not (if_there (λ k. has_flipped t m.device.commits m.records.latches k object) o) ≡ true → is_some o ≡ true
    go None h = absurd (false≢true h)
    go (Some k) h = refl

numbered-some : (o : Option ℕ) (k : ℕ) → is_some o ≡ true → commit_numbered o ≡ k → o ≡ Some k
numbered-some None k h e = absurd (false≢true h)
numbered-some (Some j) k h e = ap Some e

busy-parts : (a b j k : ℕ) → reply.Busy (obj_id a) j ≡ reply.Busy (obj_id b) k → (a ≡ b) × (j ≡ k)
busy-parts a b j k e = let ids : obj_id a ≡ obj_id b = cc in (ap (λ (o : ObjId). o.0) ids, cc)

is-busy : (s : Script) (m : Machine) (client : ℕ) (r : Request) (object k : ℕ) → may_refuse s.topology m client r ≡ true
    → refusal_reply s.topology m client r (verdict s.topology m.device.world r) ≡ reply.Busy (obj_id object) k
    → IsBusyFor s.topology m client r object × (previous s.topology m.device.commits (length m.device.commits) object ≡ Some k)
is-busy s m client r object k h e = by_verdict (verdict s.topology m.device.world r) refl e
  where
    t : Topology
    t = s.topology

    by_pending : (o : Option ℕ) → first_pending s.topology m r ≡ o → verdict s.topology m.device.world r ≡ None
        → lacks_space s.topology m client r ≡ false → busy_reply s.topology m o ≡ reply.Busy (obj_id object) k
        → IsBusyFor s.topology m client r object × (previous s.topology m.device.commits (length m.device.commits) object ≡ Some k)
    by_pending None p none space e = absurd cc
    by_pending (Some o) p none space e =
        let same = busy-parts o object (commit_numbered (previous s.topology m.device.commits (length m.device.commits) o)) k e in
        let late = late-from s.topology m client r h none space in (
          record {
            held = late.held;
            accepted = none;
            no_test = late.no_test;
            space = space;
            nonblock = late.nonblock;
            first = p ∙ ap Some
                same.0;
          },
          subst (λ z. previous s.topology m.device.commits (length m.device.commits) z ≡ Some k) same.0
              (numbered-some (previous s.topology m.device.commits (length m.device.commits) o) k (pending-previous s.topology m r o p)
              same.1),
        )

    by_space : (b : Bool) → lacks_space s.topology m client r ≡ b → verdict s.topology m.device.world r ≡ None
        → (if b then reply.Space (space_used m.events client) else busy_reply s.topology m (first_pending s.topology m r))
        ≡ reply.Busy (obj_id object) k
        → IsBusyFor s.topology m client r object × (previous s.topology m.device.commits (length m.device.commits) object ≡ Some k)
    by_space true space none e = absurd cc
    by_space false space none e = by_pending (first_pending s.topology m r) refl none space e

    by_verdict : (o : Option ℕ) → verdict s.topology m.device.world r ≡ o → refusal_reply s.topology m client r o
        ≡ reply.Busy (obj_id object) k
        → IsBusyFor s.topology m client r object × (previous s.topology m.device.commits (length m.device.commits) object ≡ Some k)
    by_verdict (Some n) v e = absurd cc
    by_verdict None v e = by_space (lacks_space s.topology m client r) refl v e

-- and back

busy-refused : (t : Topology) (m : Machine) (client : ℕ) (r : Request) (object : ℕ) → IsBusyFor t m client r object
    → may_refuse t m client r ≡ true
unfolding may_refuse
busy-refused t m client r object B =
    or_right (is_some (early_in t m.device.world r)) _ (and_from _ _ B.held
    (or_right (is_some (late_in t m.device.world r)) _
    (and_from _ _ (ap not B.no_test) (or_right (lacks_space t m client r) _ (and_from _ _ B.nonblock (ap is_some B.first))))))

busy-may : (s : Script) (m : Machine) (client : ℕ) (r : Request) (object : ℕ) → request_at s m client ≡ Some r
    → is_taking (doing_at m client) ≡ true → IsBusyFor s.topology m client r object → may s m (Refuse client) ≡ true
unfolding may
busy-may s m client r object e taking B = taking-from s m client (may_refuse s.topology m client) r taking e
    (busy-refused s.topology m client r object B)

-- a history with such a request was not ended
going-on : (s : Script) (m : Machine) (client : ℕ) (r : Request) (object : ℕ) → Along s m → request_at s m client ≡ Some r
    → is_taking (doing_at m client) ≡ true → IsBusyFor s.topology m client r object → m.stalled ≡ false
going-on s m client r object A e taking B =
    still-going s m A
    (list_any-has (may s m) (steps_that_move s m) (Refuse client)
    (of_client s m client (Refuse client) (with_request s m client r e) (inr (inr (inr (inl refl)))))
    (busy-may s m client r object e taking B))

busy-answer : (s : Script) (m : Machine) (client : ℕ) (r : Request) (object k : ℕ) → IsBusyFor s.topology m client r object
    → previous s.topology m.device.commits (length m.device.commits) object ≡ Some k
    → refusal_reply s.topology m client r (verdict s.topology m.device.world r) ≡ reply.Busy (obj_id object) k
busy-answer s m client r object k B p =
    ap (refusal_reply s.topology m client r) B.accepted
    ∙ ap (λ b. if b then reply.Space (space_used m.events client) else busy_reply s.topology m (first_pending s.topology m r)) B.space
    ∙ ap (busy_reply s.topology m) B.first
    ∙ ap (λ o. reply.Busy (obj_id object) (commit_numbered o)) p

pub cause_of_busy : (s : Script) (h : List Step) → IsPlainScript s → is_history s h ≡ true → (client : ℕ) (r : Request) (object k : ℕ)
    → request_at s (at s h) client ≡ Some r → is_taking (doing_at (at s h) client) ≡ true
    → ((legal s (at s h) (Refuse client) ≡ true) × (refusal_reply s.topology (at s h) client r (verdict s.topology (at s h).device.world r)
    ≡ reply.Busy (obj_id object) k))
    ↔ (IsBusyFor s.topology (at s h) client r object
    × (previous s.topology (at s h).device.commits (length (at s h).device.commits) object ≡ Some k))
cause_of_busy s h plain is client r object k e taking = (
  (λ both. is-busy s (at s h) client r object k (taking_passes s (at s h) client (may_refuse s.topology (at s h) client)
      (legal_guards s (at s h) (Refuse client) both.0) r e) both.1),
  (λ both. (
    may_legal s (at s h) (Refuse client) (going-on s (at s h) client r object (history_along s h plain is) e taking both.0)
        (busy-may s (at s h) client r object e taking both.0),
    busy-answer s (at s h) client r object k both.0 both.1,
  )),
)
