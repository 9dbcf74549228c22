use Rattle.kms_signal.proofs.SlotLemmas.{below-without_id}
use Rattle.kms_track.proofs.tracker.Tracker.cleanup.Goals as goal

pub invariant_of-self : goal.invariant_of-self
invariant_of-self c =
    rw c.remove.ensures.slots (below-without_id c.self.inside.tails.slots c.self.inside.count c.args.commit c.self.invariant)
