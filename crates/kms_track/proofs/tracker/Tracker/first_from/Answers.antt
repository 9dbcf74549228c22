use Rattle.std.proofs.Common.{◌≡◌, ◌∙◌, sym, ap, subst}
use Rattle.std.specs.Prelude.{length}
use Rattle.kms_track.specs.MachineLaws.{IsFirstFrom}
use Rattle.kms_track.specs.Tails.{first_from}
use Rattle.kms_track.specs.Tracking.{Tracking}
use Rattle.kms_track.proofs.TailPlaces.{first_uncleaned}
use Rattle.kms_track.proofs.tracker.Tracker.first_from.Goals as goal

pub returns-clause-machine : goal.returns-clause-machine
returns-clause-machine c = λ t cs marks latches stands. (
    let slots : c.self.inside.tails.slots ≡ c.args.self.now.tails.slots = ap (λ (v : Tracking). v.tails.slots) c.self.view_is in
    subst (IsFirstFrom marks (length cs) c.args.from) (sym (c.first_from.ensures ∙ ap (λ xs. first_from xs c.args.from) slots))
    (first_uncleaned t cs marks latches c.args.self.now c.args.from stands))
