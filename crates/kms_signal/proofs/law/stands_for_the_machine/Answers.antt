use Rattle.std.proofs.Common.{◌∷◌}
use Rattle.kms_signal.proofs.InStepLemmas.{no_fences, fence_made, fence_signalled, no_events, events_reserved, event_delivered, event_read}
use Rattle.kms_signal.proofs.InStepLemmas.{others_reserved, others_unread}
use Rattle.kms_signal.proofs.law.stands_for_the_machine.Goals as goal

pub returns : goal.returns
returns c = record {
  no_fence = λ room. no_fences room;
  make = λ old new signalled id stand is fresh. fence_made old new signalled id stand is fresh;
  signal = λ fences signalled id stand. fence_signalled fences signalled id stand;
  no_event = λ client. no_events client;
  reserve = λ q events client n room stand. events_reserved q events client n room stand;
  deliver = λ q events client event stand. event_delivered q events client event stand;
  read = λ q events client event rest stand is. event_read q events client event rest is stand;
  others = λ q events client other n unread apart stand.
      others_unread q (record events { reserved = (client, n) ∷ events.reserved }) client other unread apart
      (others_reserved q events client other n apart stand);
}
