use Rattle.std.proofs.Common.{rules, ◌≡◌, ◌∙◌, Some}
use Rattle.std.specs.Option.{option_map}
use Rattle.kms_track.specs.Tails.{next_write_of}
use Rattle.kms_track.proofs.Queries.{write_is}
use Rattle.kms_track.proofs.tail.Tail.next_write.Goals as goal

pub returns-in-Some-clause-machine : goal.returns-in-Some-clause-machine
returns-in-Some-clause-machine c = let e : Some c.of.result.0 ≡ next_write_of c.args.self.now = search rules in λ t d latches k device is. e
    ∙ write_is t d latches k c.args.self.now device is

pub returns-in_err-plane-clause-machine : goal.returns-in_err-plane-clause-machine
returns-in_err-plane-clause-machine c = let e : option_map (λ id. id.0) c.from_residual.result ≡ next_write_of c.args.self.now =
    search rules in λ t d latches k device is. e ∙ write_is t d latches k c.args.self.now device is

pub returns-clause-machine : goal.returns-clause-machine
returns-clause-machine c = let e : Some c.of-2.result.0 ≡ next_write_of c.args.self.now = search rules in λ t d latches k device is. e
    ∙ write_is t d latches k c.args.self.now device is
