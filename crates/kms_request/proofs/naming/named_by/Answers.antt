use Rattle.std.specs.Prelude.{◌||◌, ◌==◌}
use Rattle.kms_request.specs.Naming.{new_crtc_id, old_crtc_id}
use Rattle.kms_request.proofs.NamingLemmas.{both_crtcs, crtc_as}
use Rattle.kms_request.proofs.naming.named_by.Goals as goal

pub returns : goal.returns
returns c =
    let object = c.args.set.now.object.0 in
    let old = crtc_as (old_crtc_id c.args.states.now object) c.crtcs_of-old.result.0 c.crtcs_of-old.ensures.old
    c.only_crtc-2.ensures in
    let new = crtc_as (new_crtc_id c.args.set.now.value) c.new_crtc_id.result c.new_crtc_id.ensures
    c.only_crtc-3.ensures in
    both_crtcs
    (both_crtcs c.only_crtc.ensures old) new
