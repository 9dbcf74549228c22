-- The next event from here on is the next from the start on.
use Rattle.std.proofs.Common.{◌≡◌}
use Rattle.kms_audit.specs.Eventing.{next_event}
use Rattle.kms_audit.proofs.events.Reader.next_event.Given as goal

abbrev pub invariant-loop-place : goal.invariant-loop-place
invariant-loop-place l =
    next_event (record { client = l.self.client; block = record { next = l.place; end = l.self.block.end } }) l.replies
    ≡ next_event l.self l.replies
