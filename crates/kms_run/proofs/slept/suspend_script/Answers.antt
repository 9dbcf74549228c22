use Rattle.std.proofs.Common.{◌≡◌, ap, subst, sym, ◌∙◌}
use Rattle.kms_model.specs.Script.Longer.{HasRoomForTwo}
use Rattle.kms_core.specs.Run.{Run}
use Rattle.kms_run.proofs.slept.suspend_script.Goals as goal

pub sleep_and_report-requires-clause-room : goal.sleep_and_report-requires-clause-room
sleep_and_report-requires-clause-room g c =
    let same : c.finish.new.core.script ≡ c.args.script =
    c.in_ok-finish.ensures.on.script ∙ ap (λ (r : Run). r.script) c.in_ok-core.ensures in
    subst HasRoomForTwo (sym same) c.requires.room
