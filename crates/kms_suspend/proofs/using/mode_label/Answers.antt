use Rattle.std.proofs.Common.{◌∙◌, sym, ap}
use Rattle.std.specs.Option.{option_and_then}
use Rattle.kms_model.specs.declared.states.CrtcState.{CrtcState}
use Rattle.kms_model.specs.Order.Suspending.{open_mode_label}
use Rattle.kms_core.specs.Decisions.{world}
use Rattle.kms_suspend.proofs.using.mode_label.Goals as goal

pub returns-in-Some : goal.returns-in-Some
returns-in-Some c =
    let w = world c.args.core.now in
    let state = c.crtc_state.ensures c.args.core.now.script.topology w c.requires.present c.requires.there in
    c.mode_label.ensures ∙ ap (option_and_then (open_mode_label w.things)) (sym c.in-Some.is ∙ ap (λ (s : CrtcState). s.mode) state)

pub returns-in-None : goal.returns-in-None
returns-in-None c =
    let w = world c.args.core.now in
    let state = c.crtc_state.ensures c.args.core.now.script.topology w c.requires.present c.requires.there in
    ap (option_and_then (open_mode_label w.things)) (sym c.in-None.is ∙ ap (λ (s : CrtcState). s.mode) state)
