use Rattle.kms_model.specs.Things.Tables.{value_with_id}
use Rattle.kms_track.proofs.Marking.{marked_below}
use Rattle.kms_track.proofs.tracker.Tracker.mark.Goals as goal

pub invariant_of-self : goal.invariant_of-self
invariant_of-self c =
    rw c.mark.ensures (marked_below c.self.inside.tails.slots c.self.inside.count c.args.commit c.args.mark
    (value_with_id c.self.inside.tails.slots c.args.commit) c.self.invariant)
