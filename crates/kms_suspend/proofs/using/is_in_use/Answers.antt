use Rattle.std.proofs.Common.{◌∙◌, ap}
use Rattle.std.specs.Prelude.{is_some}
use Rattle.kms_model.specs.declared.states.CrtcState.{CrtcState}
use Rattle.kms_suspend.proofs.using.is_in_use.Goals as goal

pub returns-in-Crtc : goal.returns-in-Crtc
returns-in-Crtc c =
    rw c.in-Crtc.is (λ t w present low. c.is_some.ensures ∙ ap (λ (s : CrtcState). is_some s.mode) (c.crtc_state.ensures t w present low))
