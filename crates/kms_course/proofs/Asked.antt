-- What calls ask for, where it was found out that they may be made, and the steps that they do.
use Rattle.std.proofs.Common.{◌≡◌, ℕ, ◌≤◌, true, List, [], ◌∷◌, refl, sym, ap, ◌∙◌, subst, arith}
use Rattle.std.specs.Prelude.{nat_le, if◌then◌else◌}
use Rattle.std.proofs.lemmas.Bool.{and_parts, leb-true}
use Rattle.kms_model.specs.Order.Turns.{lock_step}
use Rattle.kms_model.specs.declared.objects.Kind.{Kind}
use Rattle.kms_model.specs.declared.objects.Kind.TheVariants.{Conn, Crtc, Enc, Plane}
use Rattle.kms_model.specs.declared.objects.ObjId.{ObjId}
use Rattle.kms_model.specs.declared.objects.Ticket.{Ticket}
use Rattle.kms_model.specs.declared.replies.Step.{Step}
use Rattle.kms_model.specs.declared.replies.Step.TheVariants as step
use Rattle.kms_model.specs.declared.runs.Doing.{Doing}
use Rattle.kms_model.specs.declared.runs.Doing.TheVariants as doing
use Rattle.kms_model.specs.Device.Objects.{first_id, index_of, kind_of, object_id}
use Rattle.kms_model.specs.Machine.State.{doing_at}
use Rattle.kms_model.proofs.KindsOfIds.{HasKind, has_kind}
use Rattle.kms_model.proofs.TouchedLemmas.{HasFewObjects}
use Rattle.kms_core.specs.declared.calls.contexts.Locked.{Locked}
use Rattle.kms_core.specs.Locks.{MayLock, lock_steps, locked_answer}
use Rattle.kms_core.specs.Next.{IsLegal}
use Rattle.kms_core.specs.Run.{Run, gains, machine}
use Rattle.kms_core.proofs.Applied.{IsIdOf, flush_kind, lock_asked, lock_there, locked_step, vblank_kind}
use Rattle.kms_course.specs.Calls.{asked_steps, may_ask}

-- Steps

pub legal_as : (v : Run) (s x : Step) → s ≡ x → IsLegal v s → IsLegal v x
legal_as v s x is asked = subst (IsLegal v) is asked

-- the history with the one step that a call tells
pub done_as : (v n : Run) (steps : List Step) (s x : Step) → n ≡ gains v steps → steps ≡ x ∷ [] → s ≡ x → n ≡ gains v (s ∷ [])
done_as v n steps s x history one is = history ∙ ap (gains v) (one ∙ ap (λ (y : Step). y ∷ []) (sym is))

pub blank_asked : (v : Run) (kind : Kind) (index : ℕ) → IsLegal v (step.Vblank kind index) → IsLegal v (step.Vblank Crtc index)
blank_asked v kind index asked = subst (λ k. IsLegal v (step.Vblank k index)) (vblank_kind v kind index asked) asked

pub flush_asked : (v : Run) → HasFewObjects v.script.topology → (k : ℕ) (kind : Kind) (index : ℕ) → IsLegal v (step.Flush k kind index)
    → IsLegal v (step.Flush k Crtc index)
flush_asked v few k kind index asked = subst (λ x. IsLegal v (step.Flush k x index)) (flush_kind v few k kind index asked) asked

-- Locks

-- from the first CRTC's id on, an id is that of an object by its kind and its index
from_first : (id : ObjId) → 100 ≤ id.0 → first_id (kind_of id.0) ≤ id.0
from_first id first = by (kind_of id.0) (has_kind (kind_of id.0) id.0 refl) where
  by : (k : Kind) → HasKind k id.0 → first_id k ≤ id.0
  by Crtc below = first
  by Plane within = within.0
  by Conn within = within.0
  by Enc from = from

pub same_id : (id : ObjId) → first_id (kind_of id.0) ≤ id.0 → id.0 ≡ object_id (kind_of id.0) (index_of id.0)
same_id id is_id = omega (arith, is_id)

module _ (v : Run) (client : ℕ) (id : ObjId) (asked : may_ask v client id ≡ true) where
  pub asked_is : IsLegal v (lock_step client id.0)
  asked_is = (and_parts (nat_le 100 id.0) _ asked).1

  pub asked_id : first_id (kind_of id.0) ≤ id.0
  asked_id = from_first id (leb-true 100 id.0 (and_parts (nat_le 100 id.0) _ asked).0)

  named : IsIdOf id (kind_of id.0) (index_of id.0)
  named = record { kind_is = refl; index_is = refl; is_id = asked_id }

  pub taking_there : (d : Doing) → d ≡ doing_at (machine v) client → ((t : Ticket) → d ≡ doing.Taking t → ⊥) → ⊥
  taking_there d is other = lock_there v client (kind_of id.0) (index_of id.0) d asked_is is other

  pub lock_allowed : HasFewObjects v.script.topology → (d : Doing) (t : Ticket) → d ≡ doing_at (machine v) client → d ≡ doing.Taking t
      → MayLock v t id
  lock_allowed few d t is takes = lock_asked v few client (kind_of id.0) (index_of id.0) d t id asked_is is takes (same_id id asked_id)

  -- each answer is a step
  pub one_step : (answer : Locked) → answer ≡ locked_answer v client id → lock_steps client id answer ≡ asked_steps v client id
  one_step answer is =
      locked_step v client (kind_of id.0) (index_of id.0) id answer asked_is named (same_id id asked_id) is
      ∙ ap (λ b. if b then lock_step client id.0 ∷ [] else []) (sym asked)
