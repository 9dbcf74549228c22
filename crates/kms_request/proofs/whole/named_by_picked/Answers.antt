use Rattle.std.specs.Prelude.{◌&&◌}
use Rattle.kms_request.specs.Whole.{is_named_between}
use Rattle.kms_request.proofs.NamingLemmas.{all_crtcs, more_crtcs}
use Rattle.kms_request.proofs.Picked.{picked_crtcs}
use Rattle.kms_request.proofs.whole.named_by_picked.Goals as goal

pub loop-a-preserved : goal.loop-a-preserved
loop-a-preserved g c =
    more_crtcs (λ a crtc. g.P.Picker.picked c.args.picks.now a && is_named_between c.args.states.now a crtc) c.args.assigns.now
    c.loop-a.a-index _ c.loop-a-test.true c.loop-a.invariant
    c.named_if-named.ensures

pub returns : goal.returns
returns g c =
    picked_crtcs (g.P.Picker.picked c.args.picks.now) (is_named_between c.args.states.now) c.args.assigns.now
    (all_crtcs (λ a crtc. g.P.Picker.picked c.args.picks.now a && is_named_between c.args.states.now a crtc) c.args.assigns.now
    c.loop-a.a-index c.loop-a.named c.loop-a-test.false c.loop-a.invariant)
