use Rattle.kms_regs.proofs.MachineEffects.{flush_follows, flush_recorded, old_crtc_held, old_plane_held, on_in_words, others_follow}
use Rattle.kms_regs.proofs.MachineEffects.{vblank_follows, vblank_recorded, write_crtc_follows, write_plane_follows}
use Rattle.kms_regs.proofs.law.follows_the_machine.Goals as goal

pub returns : goal.returns
returns c = record {
  write_plane = write_plane_follows;
  write_crtc = write_crtc_follows;
  flush = flush_follows;
  vblank = vblank_follows;
  others = others_follow;
  flush_recorded = flush_recorded;
  vblank_recorded = vblank_recorded;
  old_plane = old_plane_held;
  old_crtc = old_crtc_held;
  is_on = on_in_words;
}
