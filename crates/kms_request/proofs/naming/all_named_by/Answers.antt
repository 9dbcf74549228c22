use Rattle.kms_request.specs.Naming.{set_names}
use Rattle.kms_request.proofs.NamingLemmas.{all_crtcs, more_crtcs}
use Rattle.kms_request.proofs.naming.all_named_by.Goals as goal

pub loop-set-preserved : goal.loop-set-preserved
loop-set-preserved c = more_crtcs (set_names c.args.states.now) c.args.sets.now c.loop-set.set-index _ c.loop-set-test.true
    c.loop-set.invariant c.named_by-named.ensures

pub returns : goal.returns
returns c = all_crtcs (set_names c.args.states.now) c.args.sets.now c.loop-set.set-index c.loop-set.named c.loop-set-test.false
    c.loop-set.invariant
