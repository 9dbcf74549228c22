use Rattle.kms_model.proofs.SettingLemmas.{may_set-allowed}
use Rattle.kms_request.proofs.sets.set_of.Goals as goal

pub returns-clause-among : goal.returns-clause-among
returns-clause-among g c = λ t allowed. rw (c.prop_of-prop.ensures, c.set_value.ensures, c.prop_of-prop.ensures)
    (may_set-allowed t (g.L.Looker.meaning c.args.found.now) c.args.a.now allowed)
