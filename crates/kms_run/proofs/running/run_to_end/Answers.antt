use Rattle.std.proofs.Common.{◌≤◌, ◌∙◌, ap, arith, map, subst, sym}
use Rattle.std.specs.Prelude.{All}
use Rattle.kms_model.specs.Script.WellFormed.{IsWellFormed}
use Rattle.kms_players.specs.AnyPlayers.{pass_of}
use Rattle.kms_players.specs.Players.{name_of_pass}
use Rattle.kms_run.specs.Running.{IsSeat, seats_for}
use Rattle.kms_run.proofs.Continued.{run_of}
use Rattle.kms_run.proofs.Seats.{all_back, new_seats, player_names}
use Rattle.kms_run.proofs.running.run_to_end.Goals as goal

pub players-requires-clause-formed : goal.players-requires-clause-formed
players-requires-clause-formed g c = subst IsWellFormed (sym c.in_ok-device.ensures.script) c.requires.formed

pub players-requires-clause-seats : goal.players-requires-clause-seats
players-requires-clause-seats g c =
    let d = c.in_ok-device.device in
    let n = c.seats_for-seats.result in
    let exact = c.seats_for-seats.ensures.exact in
    let few : n ≤ seats_for d.script = subst (λ s. n ≤ seats_for s) (sym c.in_ok-device.ensures.script) (omega (arith, exact)) in
    subst (All (IsSeat d)) (sym c.in_ok-device.ensures.passes) (new_seats d n few)

pub close_and_finish-requires-clause-all : goal.close_and_finish-requires-clause-all
close_and_finish-requires-clause-all g c =
    all_back c.in_ok-device.device c.seats_for-seats.result c.in_ok-device.passes c.in_ok-passes.passes _ _ c.in_ok-device.ensures.seats
    c.in_ok-device.ensures.passes (ap (map (λ p. name_of_pass (pass_of p))) c.in_ok-players.ensures
    ∙ player_names _ c.in_ok-device.device c.in_ok-device.passes)
    c.in_ok-players-2.ensures.players c.in_ok-passes.ensures

pub returns : goal.returns
returns g c = run_of c.args.script c.in_ok-device.device c.in_ok-passes.passes c.close_and_finish.result c.in_ok-device.ensures.script
    c.close_and_finish.ensures
