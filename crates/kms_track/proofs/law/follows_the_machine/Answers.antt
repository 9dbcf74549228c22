use Rattle.std.proofs.Common.{sym}
use Rattle.kms_track.proofs.CheckedLemmas.{checked_for, device_within, in_touched}
use Rattle.kms_track.proofs.SettingUp.{first_stands, room_stands}
use Rattle.kms_track.proofs.StepLemmas.{claim_follows, cleanup_follows, flush_follows, flush_off_follows, hw_done_follows, legal_below}
use Rattle.kms_track.proofs.StepLemmas.{others_follow, swap_follows, vblank_follows, vblank_with_go_follows, write_follows}
use Rattle.kms_track.proofs.law.follows_the_machine.Goals as goal

pub returns : goal.returns
returns c = record {
  first = first_stands;
  make_room = λ t cs marks latches v w stands count lasts slots. room_stands t cs marks latches v w count lasts slots stands;
  swap = swap_follows;
  claim = claim_follows;
  write = write_follows;
  flush = flush_follows;
  flush_off = flush_off_follows;
  hw_done = hw_done_follows;
  vblank = vblank_follows;
  vblank_with_go = vblank_with_go_follows;
  cleanup = cleanup_follows;
  others = others_follow;
  legal = legal_below;
  checked = λ t commit checked device lawful accepted is states. checked_for t commit checked device lawful accepted is states;
  touched = λ t w r p place. sym (in_touched t w r p place);
  device = device_within;
}
