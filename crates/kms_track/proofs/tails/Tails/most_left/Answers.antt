use Rattle.std.proofs.Common.{rules, ◌≡◌, length}
use Rattle.kms_track.proofs.LeftLemmas.{most_kept}
use Rattle.kms_track.proofs.tails.Tails.most_left.Goals as goal

pub returns-clause-bound : goal.returns-clause-bound
returns-clause-bound c =
    let all : c.len.result ≡ length c.self.inside.slots.items = search rules in
    rw (← c.self.view_is) (most_kept c.self.inside.slots.items c.checked_mul.result c.len.result _ c.checked_mul.ensures all)
