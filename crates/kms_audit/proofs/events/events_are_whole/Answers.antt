use Rattle.std.proofs.Common.{◌≡◌, ◌==◌, ap, ◌∙◌}
use Rattle.kms_audit.proofs.LeftOut.{events-whole}
use Rattle.kms_audit.specs.Eventing.{told_count}
use Rattle.kms_audit.proofs.events.events_are_whole.Goals as goal

pub returns : goal.returns
returns c = λ s right few.
    let told : c.told_count.result ≡ told_count c.args.report.now.replies = c.told_count.ensures ∙ ap told_count c.as_slice.ensures.value in
    ap (λ n. n == c.len.result) told
    ∙ (ap (λ n. told_count c.args.report.now.replies == n) c.len.ensures ∙ events-whole s c.args.report.now right few)
