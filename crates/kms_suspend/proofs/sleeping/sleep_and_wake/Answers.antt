use Rattle.std.proofs.Common.{sym, ◌∙◌, subst}
use Rattle.kms_model.specs.Machine.Histories.{is_history}
use Rattle.kms_model.specs.Script.Longer.{extended_after}
use Rattle.kms_model.specs.Script.WellFormed.{IsWellFormed}
use Rattle.kms_suspend.proofs.Drained.{not_stalled}
use Rattle.kms_suspend.proofs.sleeping.sleep_and_wake.Goals as goal

pub wake-requires-clause-formed : goal.wake-requires-clause-formed
wake-requires-clause-formed c =
    let s = c.args.core.script in
    let h = c.args.core.steps in
    let longer = c.in_ok-longer.ensures in
    subst IsWellFormed (sym longer.script)
    (c.longer_scripts_are_well_formed.ensures s h c.is_a_history.ensures.formed c.requires.room c.is_a_history.ensures.history longer.open)

pub wake-requires-clause-history : goal.wake-requires-clause-history
wake-requires-clause-history c =
    let s = c.args.core.script in
    let h = c.args.core.steps in
    let history = c.is_a_history.ensures.history in
    let longer = c.in_ok-longer.ensures in
    let going = not_stalled s h c.is_a_history.ensures.formed history c.requires.drained in
    let stay = c.histories_stay.ensures.stay s (extended_after s h) h (c.histories_stay.ensures.added.behind_last s _) history going in
    (λ i. is_history (longer.script i) (longer.steps i)) ∙ stay.history
