use Rattle.kms_things.proofs.Numbered.{labelled_own}
use Rattle.kms_things.proofs.things.Things.thing_labelled.Goals as goal

pub returns-clause-own_id : goal.returns-clause-own_id
returns-clause-own_id c = rw (← c.self.view_is)
    (labelled_own c.args.label c.self.inside.made.items c.thing_labelled.result c.self.invariant.kept.numbered
    (rw (← c.as_slice.ensures.value) c.thing_labelled.ensures))
