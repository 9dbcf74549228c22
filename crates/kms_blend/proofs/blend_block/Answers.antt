use Rattle.kms_blend.proofs.LaneByLane.{placed}
use Rattle.kms_blend.proofs.blend_block.Goals as goal

pub returns : goal.returns
returns g c = placed _ _ _ _ _ _ c.requires.room c.blend_lanes.ensures
