use Rattle.std.proofs.Common.{◌∙◌}
use Rattle.kms_core.proofs.next.Refusing.{decides_test}
use Rattle.kms_core.proofs.applying.do_test.Goals as goal

pub decide-requires : goal.decide-requires
decide-requires c = rw (c.deref_mut.ensures.value ∙ c.core.view_is)
    (decides_test c.args.core.now c.args.client c.is_a_history.ensures.formed c.requires)
