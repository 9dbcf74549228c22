use Rattle.kms_core.proofs.tails.Writing.{crtc_written}
use Rattle.kms_core.proofs.tails.workers.write_crtc.Goals as goal

pub returns : goal.returns
returns c =
    crtc_written c.write_crtc.new.self c.in-Some.ensures.state
    c.connector.ensures.id c.requires.holds
    c.write_crtc.ensures.writes
