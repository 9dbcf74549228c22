use Rattle.kms_things.proofs.Referred.{referred_given}
use Rattle.kms_things.proofs.things.Things.give.Goals as goal

pub invariant_of-self : goal.invariant_of-self
invariant_of-self c = record {
  kept = c.self.invariant.kept;
  referred = referred_given c.self.inside.made.items c.self.inside.next_id c.self.inside.fbs c.give.new.self c.args.fb c.give.ensures.store
      c.give.ensures.things c.self.invariant.referred;
}
