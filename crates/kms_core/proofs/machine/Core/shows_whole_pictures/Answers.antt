use Rattle.std.proofs.Common.{◌<◌, arith}
use Rattle.std.proofs.lemmas.Bool.{and_parts, leb-true}
use Rattle.kms_model.specs.declared.objects.Topology.{Topology}
use Rattle.kms_model.specs.Device.Properties.{keeps_limits}
use Rattle.kms_model.specs.Device.Sound.{IsDevice}
use Rattle.kms_model.specs.Script.Words.{between}
use Rattle.kms_core.proofs.machine.Core.shows_whole_pictures.Goals as goal

-- a device has a CRTC
has_crtc : (t : Topology) → IsDevice t → 0 < t.crtcs
has_crtc t device =
    let crtcs = and_parts (between 1 4 t.crtcs) _ (and_parts (keeps_limits t) _ device.legal).0 in
    let low = leb-true 1 t.crtcs (and_parts _ _ crtcs.0).0 in
    omega (arith, low)

pub returns-clause-live : goal.returns-clause-live
returns-clause-live c = λ crtc low. (c.pictures_are_whole.ensures c.args.self.now.script c.args.self.now.steps c.is_a_history.ensures.formed
    c.is_a_history.ensures.history crtc low).0

pub returns-clause-latched : goal.returns-clause-latched
returns-clause-latched c = (c.pictures_are_whole.ensures c.args.self.now.script c.args.self.now.steps c.is_a_history.ensures.formed
    c.is_a_history.ensures.history 0 (has_crtc c.args.self.now.script.topology c.is_a_history.ensures.formed.device)).1
