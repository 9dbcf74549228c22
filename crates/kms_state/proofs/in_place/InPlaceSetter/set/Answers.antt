use Rattle.kms_state.proofs.WholeDevice.{is_set_in, is_there}
use Rattle.kms_state.proofs.in_place.InPlaceSetter.set.Goals as goal

pub set-requires-clause-object : goal.set-requires-clause-object
set-requires-clause-object c = is_there c.args._topology.now c.args.set.now.object.0 c.requires.object c.args.states.now c.requires.all

pub returns : goal.returns
returns c = is_set_in c.args._topology.now c.args.states.now c.set.new.self c.args.set.now c.requires.device c.requires.object
    c.set.ensures.new c.set.ensures.old
