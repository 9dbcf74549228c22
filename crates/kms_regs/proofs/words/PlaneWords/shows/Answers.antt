-- A plane that is on another CRTC, one that shows a framebuffer, and one that shows none.
use Rattle.std.proofs.Common.{ap, ◌∙◌}
use Rattle.std.specs.Prelude.{not}
use Rattle.kms_model.specs.Frames.Pictures.{seen_on}
use Rattle.kms_model.specs.Machine.Framebuffers.{is_fb}
use Rattle.kms_model.specs.Machine.Registers.{PlaneWords, plane_in}
use Rattle.kms_regs.proofs.Rows.{same_id}
use Rattle.kms_regs.proofs.ShownWords.{elsewhere, shows_none, shows_some}
use Rattle.kms_regs.proofs.words.PlaneWords.shows.Goals as goal

pub returns-then-self-crtc : goal.returns-then-self-crtc
returns-then-self-crtc c = elsewhere _ c.args.crtc c.args.fb c.if-self-crtc.true ∙ ap
    (λ (w : PlaneWords). is_fb c.args.fb (seen_on c.args.crtc (plane_in w))) c.self.view_is

pub returns-then-self-ne0 : goal.returns-then-self-ne0
returns-then-self-ne0 c = shows_some _ c.args.crtc c.args.fb c.if-self-crtc.false c.if-self-ne0.true ∙ ap
    (λ (w : PlaneWords). is_fb c.args.fb (seen_on c.args.crtc (plane_in w))) c.self.view_is

pub returns-else-self-ne0 : goal.returns-else-self-ne0
returns-else-self-ne0 c =
    ap not (same_id c.if-self-ne0.false) ∙ shows_none _ c.args.crtc c.args.fb c.if-self-crtc.false c.if-self-ne0.false
    ∙ ap (λ (w : PlaneWords). is_fb c.args.fb (seen_on c.args.crtc (plane_in w))) c.self.view_is
