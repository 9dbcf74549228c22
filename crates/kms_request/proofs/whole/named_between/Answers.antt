use Rattle.std.specs.Prelude.{◌||◌, ◌==◌}
use Rattle.kms_model.specs.Request.Apply.{object_of}
use Rattle.kms_request.specs.Naming.{next_crtc, old_crtc_id}
use Rattle.kms_request.proofs.NamingLemmas.{both_crtcs, crtc_as}
use Rattle.kms_request.proofs.whole.named_between.Goals as goal

pub returns : goal.returns
returns c =
    let object = object_of c.args.a.now in
    let states = c.args.states.now in
    let itself = crtc_as object c.object_of-object.result c.object_of-object.ensures c.only_crtc.ensures in
    let old = crtc_as (old_crtc_id states object) c.crtcs_of-old.result.0
    (rw (← c.object_of-object.ensures) c.crtcs_of-old.ensures.old) c.only_crtc-2.ensures in
    let new = crtc_as (next_crtc states object) c.crtcs_of-old.result.1
    (rw (← c.object_of-object.ensures) c.crtcs_of-old.ensures.new) c.only_crtc-3.ensures in
    both_crtcs
    (both_crtcs itself old) new
