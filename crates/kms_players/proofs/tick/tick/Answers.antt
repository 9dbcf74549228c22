use Rattle.std.proofs.Common.{◌≡◌, not, subst}
use Rattle.std.specs.Prelude.{◌&&◌}
use Rattle.kms_model.specs.declared.objects.Kind.TheVariants.{Crtc}
use Rattle.kms_model.specs.declared.replies.Step.TheVariants as step
use Rattle.kms_model.specs.Machine.Histories.{is_drained}
use Rattle.kms_core.specs.Run.{machine}
use Rattle.kms_device.specs.Steps.{blanks_at, step_if}
use Rattle.kms_device.specs.Turns.{DeviceTurn}
use Rattle.kms_players.proofs.NothingDone.{tick_rests}
use Rattle.kms_players.proofs.tick.tick.Goals as goal

pub returns : goal.returns
returns g c =
    let turn = c.vblank_or_rest-did in
    tick_rests _ c.args.pass.now turn.new.pass _ c.seen_len.ensures _ _ c.rest.ensures c.args.crtc
    (subst (λ did. DeviceTurn c.args.device.now.script
    (λ found. (did ≡ blanks_at found c.args.crtc) × (turn.result.1 ≡ (not did && is_drained found.script (machine found))))
    (step_if did (step.Vblank Crtc c.args.crtc)) c.args.pass.now turn.new.pass) c.if-did.false turn.ensures)
