use Rattle.std.proofs.Common.{◌≡◌, rules, subst, sym}
use Rattle.std.specs.Prelude.{find}
use Rattle.std.specs.Option.{option_to_list}
use Rattle.kms_device.specs.Steps.{is_legal, tail_of}
use Rattle.kms_device.proofs.Tails.{plain_tail}
use Rattle.kms_device.proofs.Turning.{ArePlainOf, adds_of, turn_of}
use Rattle.kms_device.proofs.device.Device.work_or_rest.Goals as goal

pub turn-requires-clause-steps : goal.turn-requires-clause-steps
turn-requires-clause-steps g c = λ found left r finds called.
    let told : r.0 ≡ find (is_legal found) (tail_of found.script.topology c.args.commit) = search rules in
    adds_of c.args.pass.now.rank found left _
    (subst (λ o. ArePlainOf c.args.pass.now.rank (option_to_list o)) (sym told) (plain_tail c.args.pass.now.rank found c.args.commit))
    (search rules)

pub returns : goal.returns
returns g c = turn_of _ _ _ _ _ _ _ _ c.turn.ensures (λ x y finds called. search rules)
