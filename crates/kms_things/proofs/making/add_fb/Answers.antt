use Rattle.std.proofs.Common.{sym, ◌∙◌}
use Rattle.kms_model.specs.Device.Execution.{buffer_of}
use Rattle.kms_things.proofs.MadeLemmas.{fb_added, if_ok}
use Rattle.kms_things.proofs.making.add_fb.Goals as goal

pub returns-in-Some-clause-made : goal.returns-in-Some-clause-made
returns-in-Some-clause-made c =
    if_ok c.make_fb.result _ _
    (λ r made w. sym (fb_added w c.args.things.now c.args.client c.args.label c.in-Some.buffer c.in-Some.info
    (buffer_of c.args.things.now.things c.args.client c.args.buffer) c.in-Some.ensures.value) ∙ made w)
    c.make_fb.ensures.made
