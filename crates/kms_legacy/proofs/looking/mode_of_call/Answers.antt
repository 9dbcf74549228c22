use Rattle.std.proofs.Common.{ap, ◌∙◌}
use Rattle.kms_model.specs.Request.Sets.{mode_of_look}
use Rattle.kms_legacy.proofs.looking.mode_of_call.Goals as goal

pub returns-in-SetCrtc-clause-is : goal.returns-in-SetCrtc-clause-is
returns-in-SetCrtc-clause-is c = rw c.in-SetCrtc.is (c.mode_of.ensures.is ∙ ap mode_of_look c.look_anew.ensures)
