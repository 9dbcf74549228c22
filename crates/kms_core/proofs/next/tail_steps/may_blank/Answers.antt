use Rattle.std.proofs.Common.{◌∙◌, ap, sym}
use Rattle.kms_model.specs.Machine.Steps.{is_crtc_of}
use Rattle.kms_core.specs.Run.{Run}
use Rattle.kms_core.proofs.next.TailSteps.{blank_other, blank_told}
use Rattle.kms_core.proofs.next.tail_steps.may_blank.Goals as goal

pub returns-then-is_crtc_of : goal.returns-then-is_crtc_of
returns-then-is_crtc_of c =
    c.is_running.ensures ∙ blank_told c.args.core.now c.args.kind c.args.index (ap
    (λ (w : Run). is_crtc_of w.script.topology c.args.kind c.args.index) (sym (c.stores.view_is ∙ c.deref-stores.ensures
    ∙ c.core.view_is)) ∙ sym c.is_crtc_of.ensures ∙ c.if-is_crtc_of.true)

pub returns-else-is_crtc_of : goal.returns-else-is_crtc_of
returns-else-is_crtc_of c =
    c.if-is_crtc_of.false
    ∙ blank_other c.args.core.now c.args.kind c.args.index (ap (λ (w : Run). is_crtc_of w.script.topology c.args.kind c.args.index)
    (sym (c.stores.view_is ∙ c.deref-stores.ensures ∙ c.core.view_is)) ∙ sym c.is_crtc_of.ensures ∙ c.if-is_crtc_of.false)
