use Rattle.std.proofs.Common.{ℕ, ◌≢◌, ◌≤◌, ◌<◌, Some}
use Rattle.kms_wwlock.specs.Standing.{place_of, ticket_in}
use Rattle.kms_wwlock.proofs.clients.Clients.with_ticket.Given as goal

-- none of the clients before has the ticket
abbrev pub invariant-loop-client : goal.invariant-loop-client
invariant-loop-client l = (client : ℕ) → 1 ≤ client → client < l.client → ticket_in (place_of l.self client).doing ≢ Some l.t
