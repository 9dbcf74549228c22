use Rattle.std.proofs.Common.{ap, ◌∙◌}
use Rattle.kms_model.specs.Request.Sets.{fb_of_look}
use Rattle.kms_legacy.proofs.looking.fb_of_call.Goals as goal

pub returns-in-SetCrtc-clause-is : goal.returns-in-SetCrtc-clause-is
returns-in-SetCrtc-clause-is c = rw c.in-SetCrtc.is (c.fb_of.ensures.is ∙ ap fb_of_look c.look_anew.ensures)

pub returns-in-SetPlane-clause-is : goal.returns-in-SetPlane-clause-is
returns-in-SetPlane-clause-is c = rw c.in-SetPlane.is (c.fb_of-in-SetPlane.ensures.is ∙ ap fb_of_look c.look_anew-in-SetPlane.ensures)

pub returns-in-PageFlip-clause-is : goal.returns-in-PageFlip-clause-is
returns-in-PageFlip-clause-is c = rw c.in-PageFlip.is (c.fb_of-in-PageFlip.ensures.is ∙ ap fb_of_look c.look_anew-in-PageFlip.ensures)

pub returns-in-Cursor-clause-is : goal.returns-in-Cursor-clause-is
returns-in-Cursor-clause-is c = rw c.in-Cursor.is (c.fb_of-in-Cursor.ensures.is ∙ ap fb_of_look c.look_anew-in-Cursor.ensures)
