use Rattle.std.proofs.Common.{rules, ◌≡◌, ◌∙◌}
use Rattle.std.specs.Prelude.{is_none}
use Rattle.kms_track.specs.Tails.{next_latch_of}
use Rattle.kms_track.proofs.Queries.{all_latched_is}
use Rattle.kms_track.proofs.tail.Tail.is_latched.Goals as goal

pub returns-clause-machine : goal.returns-clause-machine
returns-clause-machine c = let e : c.is_none.result ≡ is_none (next_latch_of c.args.self.now) = search rules in λ t d latches k device is. e
    ∙ all_latched_is t d latches k c.args.self.now device is
