use Rattle.kms_core.proofs.tails.Writing.{plane_written}
use Rattle.kms_core.proofs.tails.workers.write_plane.Goals as goal

pub returns : goal.returns
returns c = plane_written c.write_plane.new.self c.in-Some.ensures.state c.requires.holds
    c.write_plane.ensures.writes
