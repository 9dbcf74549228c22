use Rattle.kms_things.proofs.StartStates.{start_present}
use Rattle.kms_things.proofs.starting.start_states.Goals as goal

pub returns-clause-present : goal.returns-clause-present
returns-clause-present c = rw (c.start_crtcs.ensures, c.start_planes.ensures, c.start_conns.ensures, c.len.ensures, c.len-2.ensures)
    (start_present c.args.topology.now c.requires)
