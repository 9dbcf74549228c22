use Rattle.kms_laws.proofs.HeldFrames.{held_objects_framed}
use Rattle.kms_laws.proofs.Modes.{plain-from}
use Rattle.kms_laws.proofs.locks.held_objects_are_framed.Goals as goal

pub returns : goal.returns
returns c = λ s h formed is step legal_step client object held others. held_objects_framed s h (plain-from s formed) is step legal_step
    client object held others
