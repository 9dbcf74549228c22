use Rattle.std.proofs.Common.{sym, subst, ◌∙◌, []}
use Rattle.kms_device.specs.Trying.{StandsAfter, Tried}
use Rattle.kms_device.specs.Turns.{run_seen}
use Rattle.kms_device.proofs.Joining.{ready_with, tried_with}
use Rattle.kms_device.proofs.Places.{stands_err, still_of_pass}
use Rattle.kms_device.proofs.Stepping.{rank-after}
use Rattle.kms_device.proofs.TriedCases.{tried_err}
use Rattle.kms_device.proofs.TurnsTried.{nothing_done}
use Rattle.kms_device.proofs.device.Device.move_on.Goals as goal

pub returns-in_err-looks-in-None-clause-tried : goal.returns-in_err-looks-in-None-clause-tried
returns-in_err-looks-in-None-clause-tried g c =
    tried_err _ _ _ _ _ c.from_residual.result c.from_residual.ensures.0 (nothing_done _ _ _ _ c.args.kept.now c.requires.ready
    c.in_err-looks-in-None.ensures)

pub move_with-requires-in-None-clause-works : goal.move_with-requires-in-None-clause-works
move_with-requires-in-None-clause-works g c =
    let given = ready_with c.args.self.now.script c.args.pass.now c.lookups.new.pass c.lookups.new.pass c.args.kept.now c.requires.ready
    (sym c.take.ensures.value ∙ c.in-None.is) c.args.taking.t c.args.taking.request.now c.requires.takes c.in_ok-looks-in-None.looks
    c.in_ok-looks-in-None.ensures in
    record { ready = given.0; takes = given.1 }

pub returns-in_ok-looks-in-None-clause-tried : goal.returns-in_ok-looks-in-None-clause-tried
returns-in_ok-looks-in-None-clause-tried g c =
    tried_with c.args.self.now.script c.args.pass.now c.lookups.new.pass c.move_with-in-None.new.pass c.args.kept.now c.requires.ready
    (sym c.take.ensures.value ∙ c.in-None.is) c.args.taking.t c.args.taking.request.now c.requires.takes c.in_ok-looks-in-None.looks
    c.in_ok-looks-in-None.ensures
    c.move_with-in-None.new.kept c.move_with-in-None.result c.move_with-in-None.ensures.tried

pub returns-in_err-looks-in-None-clause-stands : goal.returns-in_err-looks-in-None-clause-stands
returns-in_err-looks-in-None-clause-stands g c = stands_err _ _ c.from_residual.result _ c.from_residual.ensures.0

pub move_with-requires-in-None-clause-stands : goal.move_with-requires-in-None-clause-stands
move_with-requires-in-None-clause-stands g c = still_of_pass _ _ _ _ _ c.requires.stands c.in_ok-looks-in-None.ensures

pub returns-in_ok-looks-in-None-clause-stands : goal.returns-in_ok-looks-in-None-clause-stands
returns-in_ok-looks-in-None-clause-stands g c =
    subst (λ n. StandsAfter (run_seen c.args.self.now.script c.move_with-in-None.new.pass) n c.move_with-in-None.result
    c.move_with-in-None.new.here)
    (rank-after _ _ [] c.args.pass.now c.lookups.new.pass c.in_ok-looks-in-None.ensures) c.move_with-in-None.ensures.stands

pub returns-in-Some-clause-tried : goal.returns-in-Some-clause-tried
returns-in-Some-clause-tried g c =
    subst (λ o. Tried c.args.self.now.script c.args.pass.now (record { looks = o; states = c.args.kept.now.states }) c.move_with.new.pass
    c.move_with.new.kept c.move_with.result)
    (sym c.in-Some.is ∙ c.take.ensures.value) c.move_with.ensures.tried
