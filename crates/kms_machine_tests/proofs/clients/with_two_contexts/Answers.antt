-- The second context of new clients: one context has begun, and client 2 is idle yet.
use Rattle.std.proofs.Common.{◌≡◌, [], ap, arith}
use Rattle.kms_model.specs.declared.objects.Topology.{Topology}
use Rattle.kms_model.specs.declared.runs.Place.{Place}
use Rattle.kms_model.specs.Machine.Effects.{begun}
use Rattle.kms_model.specs.Machine.Registers.{read}
use Rattle.kms_model.specs.Machine.State.{Machine, first_machine}
use Rattle.kms_wwlock.specs.InStep.{AreClientsOf}
use Rattle.kms_machine_tests.proofs.clients.with_two_contexts.Goals as goal

-- some device
abbrev nothing : Topology
nothing = record { profile = 1; crtcs = 0; planes = []; conns = [] }

-- the machine for which the clients stand once client 1 has begun its context
abbrev with_one : Machine
with_one = begun (first_machine nothing) 1

pub begin-requires-2-clause-idle : goal.begin-requires-2-clause-idle
unfolding read
begin-requires-2-clause-idle c =
    let stand : AreClientsOf with_one.contexts c.begin.new.self = c.in_ok-begin.ensures.stands (first_machine nothing)
    (c.new-clients.ensures.stands nothing) in
    ap (λ (p : Place). p.doing) (stand.places 2 (omega arith, omega arith))

pub begin-requires-2-clause-ticket_left : goal.begin-requires-2-clause-ticket_left
begin-requires-2-clause-ticket_left c =
    let stand : AreClientsOf with_one.contexts c.begin.new.self = c.in_ok-begin.ensures.stands (first_machine nothing)
    (c.new-clients.ensures.stands nothing) in
    let one : c.begin.new.self.table.drawn ≡ 1 = stand.tickets in
    omega (arith, one)
