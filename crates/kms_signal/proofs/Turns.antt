-- What was read and what is unread is what was delivered.
use Rattle.std.proofs.Common.{◌≡◌, List, [], ◌∷◌, ◌++◌, refl, sym, ap, ◌∙◌, append_assoc}
use Rattle.std.proofs.lemmas.List.{append-nil}
use Rattle.kms_model.specs.declared.replies.Event.{Event}
use Rattle.kms_signal.specs.Queues.{Queue, Call, Reserve, Deliver, Read, reserves, delivers, after_read, after_read_of, after_all}
use Rattle.kms_signal.specs.Queues.{delivered_by, first_of, read_by}

-- what a read takes and what it leaves is what was unread
split : (q : Queue) (unread : List Event) → q.unread ≡ unread → first_of unread ++ (after_read_of q unread).unread ≡ unread
split q [] is = is
split q (e ∷ es) is = refl

pub in_turn : (q : Queue) (calls : List Call) → read_by q calls ++ (after_all q calls).unread ≡ q.unread ++ delivered_by calls
in_turn q [] = sym (append-nil q.unread)
in_turn q (Reserve n room ∷ calls) = in_turn (reserves q n room) calls
in_turn q (Deliver event ∷ calls) = in_turn (delivers q event) calls ∙ append_assoc q.unread (event ∷ []) (delivered_by calls)
in_turn q (Read ∷ calls) =
    append_assoc (first_of q.unread) (read_by (after_read q) calls) (after_all (after_read q) calls).unread
    ∙ (ap (λ rest. first_of q.unread ++ rest) (in_turn (after_read q) calls)
    ∙ (sym (append_assoc (first_of q.unread) (after_read q).unread (delivered_by calls))
    ∙ ap (λ unread. unread ++ delivered_by calls) (split q q.unread refl)))
