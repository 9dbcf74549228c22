use Rattle.std.proofs.Common.{ap, sym, ◌+◌, ◌∙◌}
use Rattle.kms_audit.proofs.NextEvents.{owed-none}
use Rattle.kms_audit.proofs.Owed.{one-more}
use Rattle.kms_audit.specs.Eventing.{is_owed, owed_at, owed_by}
use Rattle.kms_audit.proofs.events.note_line.Goals as goal

pub returns-in_default : goal.returns-in_default
returns-in_default c = owed-none c.args.owed.now (owed_by c.args.owners.now c.args.line.now) (sym c.in_default.ensures)

pub returns : goal.returns
returns c = λ q.
    one-more c.args.owed.now c.insert.new.self c.in-Some.key _ c.in_ok-insert.ensures.updates.0 (ap (λ n. n + 1) c.count_of-count.ensures) q
    ∙ ap (λ o. owed_at c.args.owed.now q + is_owed o q) c.in-Some.ensures
