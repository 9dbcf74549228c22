use Rattle.std.proofs.Common.{length, refl, ap, ◌∙◌}
use Rattle.kms_model.specs.declared.scripts.Script.{Script}
use Rattle.kms_report.specs.Telling.{history_options}
use Rattle.kms_report.proofs.Whole.{grown, whole-told}
use Rattle.kms_report.proofs.histories.report_by.Goals as goal

pub returns : goal.returns
returns g c =
    let s = c.args.core.now.script in
    let h = c.args.core.now.steps in
    c.from_vec.ensures
    ∙ grown _ _ _ _ _ _ _ _ _ _ _ _ _ _ _ c.new-text.ensures.items c.in_ok-push_journal.ensures c.in_ok-push_sections.ensures
    c.in_ok-push_all_latches.ensures c.in_ok-push_sections-2.ensures
    c.in_ok-push_all_freed.ensures c.in_ok-push_end.ensures c.in_ok-push_trace.ensures
    ∙ whole-told s h (history_options c.args.options) _ _ _ _ _ _ _ _ c.journal.ensures c.replies.ensures c.latched.ensures
    c.replies-2.ensures c.freed.ensures (c.len-clients.ensures ∙ ap (λ (x : Script). length x.clients) c.requires.script)
    refl (ap (λ (x : Script). x.names) c.requires.script)
    (c.events_read_are_replies.ensures s h c.is_a_history.ensures.formed c.is_a_history.ensures.history)
