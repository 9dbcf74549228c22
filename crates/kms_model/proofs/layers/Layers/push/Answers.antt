use Rattle.kms_model.proofs.InPlace.{pushed}
use Rattle.kms_model.proofs.layers.Layers.push.Goals as goal

pub invariant_of-self : goal.invariant_of-self
invariant_of-self c = pushed c.self.inside.items c.self.inside.count c.args.layer c.self.invariant (rw c.self.view_is c.requires)
