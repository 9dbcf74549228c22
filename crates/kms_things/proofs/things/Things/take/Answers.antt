use Rattle.kms_things.proofs.Referred.{referred_taken}
use Rattle.kms_things.proofs.things.Things.take.Goals as goal

pub invariant_of-self : goal.invariant_of-self
invariant_of-self c = record {
  kept = c.self.invariant.kept;
  referred = referred_taken c.self.inside.made.items c.self.inside.next_id c.self.inside.fbs c.take.new.self c.args.fb c.take.ensures.store
      c.take.ensures.things c.self.invariant.referred;
}
