use Rattle.std.proofs.Common.{length, ap, ◌∙◌}
use Rattle.kms_model.specs.declared.scripts.Script.{Script}
use Rattle.kms_report.proofs.Whole.{only-replies}
use Rattle.kms_report.proofs.replies.replies_text.Goals as goal

pub returns : goal.returns
returns c =
    only-replies c.args.core.now.script c.args.core.now.steps _ _ _ _ _ c.from_vec.ensures c.new-text.ensures.items
    c.in_ok-push_sections.ensures c.replies.ensures (c.len-clients.ensures ∙ ap (λ (x : Script). length x.clients) c.requires)
