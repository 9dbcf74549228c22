use Rattle.std.proofs.Common.{◌∙◌, ap, sym}
use Rattle.kms_audit.proofs.Lates.{late-busy, late-space}
use Rattle.kms_audit.proofs.Replied.{never-late}
use Rattle.kms_audit.specs.Judged.{may_be_busy_by, may_lack_space_by}
use Rattle.kms_model.specs.Report.RightAnswers.{entries_in, may_be_refused_late}
use Rattle.std.specs.Prelude.{take}
use Rattle.kms_audit.proofs.late.may_be_refused.Goals as goal

pub returns-in-Space : goal.returns-in-Space
returns-in-Space c = λ s r place at.
    c.may_lack_space.ensures
    ∙ (ap (λ n. may_lack_space_by c.args.request.now.flags n c.in-Space.used) c.spans-named.ensures.named
    ∙ (late-space s r place c.args.serial.now c.args.touches.now c.args.request.now at c.in-Space.used
    ∙ ap (may_be_refused_late s (take place (entries_in r)) c.args.serial.now.world c.args.request.now) (sym c.in-Space.is)))

pub returns-in-Busy : goal.returns-in-Busy
returns-in-Busy c = λ s r place at.
    c.may_be_busy.ensures
    ∙ (ap (λ m. may_be_busy_by c.args.request.now.flags m c.args.touches.now c.in-Busy.object.0 c.in-Busy.commit)
    c.spans-named.ensures.touched
    ∙ (late-busy s r place c.args.serial.now c.args.touches.now c.args.request.now at c.in-Busy.object c.in-Busy.commit
    ∙ ap (may_be_refused_late s (take place (entries_in r)) c.args.serial.now.world c.args.request.now) (sym c.in-Busy.is)))

pub returns-in_default : goal.returns-in_default
returns-in_default c = λ s r place at.
    never-late s (take place (entries_in r)) c.args.serial.now.world c.args.request.now c.args.reply.now
    c.in_default.not-Space c.in_default.not-Busy
