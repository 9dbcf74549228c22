use Rattle.std.proofs.Common.{◌+◌, ap, ◌∙◌}
use borrow.Author.Tests.{lt-ltb}
use Rattle.kms_model.specs.declared.objects.Kind.TheVariants.{Crtc}
use Rattle.kms_model.specs.Device.Objects.{count_of}
use Rattle.kms_track.specs.Tails.{all_left, steps_left}
use Rattle.kms_track.proofs.LeftLemmas.{left_pushed, left_removed, marked_left, marked_off, steps_few, steps_some}
use Rattle.kms_track.proofs.LegalLeft.{latch_left, latch_off, legal_left}
use Rattle.kms_track.proofs.law.legal_steps_are_left.Goals as goal

pub returns : goal.returns
returns c = record {
  legal = legal_left;
  latch = λ t d latches k index x within named unlatched on device is.
      latch_left t d latches k x device is index (lt-ltb index (count_of t Crtc) within) named unlatched on;
  latch_off = λ t d latches k index x off device is. latch_off t d latches k x device is index off;
  few = λ x. (steps_some x, steps_few x);
  one = λ v k mark x rising is allowed left. marked_left v.tails.slots k mark rising allowed x is left;
  none = λ v k mark x rising is allowed off. marked_off v.tails.slots k mark rising allowed x is off;
  cleanup = λ v w k x rising is slots. ap (λ xs. all_left xs + steps_left x) slots ∙ left_removed v.tails.slots k x rising is;
  setup = λ v w signals checked fences set_up. rw set_up.tails (left_pushed v.tails.slots _);
}
