use Rattle.std.proofs.Common.{◌∙◌}
use Rattle.kms_things.proofs.Numbered.{labelled_by_id}
use Rattle.kms_things.proofs.index.thing_labelled.Goals as goal

pub returns-in-Some : goal.returns-in-Some
returns-in-Some c = c.thing_with_id.ensures ∙ labelled_by_id c.args.label c.in-Some.id.now c.args.things.now c.requires.numbered
    (c.in-Some.ensures.value ∙ c.requires.indexed c.args.label)
