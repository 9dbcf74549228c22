use Rattle.std.proofs.Common.{subst, sym}
use Rattle.kms_things.specs.Index.{IsBlobAt}
use Rattle.kms_things.specs.Made.{Made}
use Rattle.kms_things.proofs.Kept.{kept_closed}
use Rattle.kms_things.proofs.Referred.{referred_destroyed}
use Rattle.kms_things.proofs.things.Things.destroy_blob.Goals as goal

pub invariant_of-self : goal.invariant_of-self
invariant_of-self c =
    let blob = subst (λ (m : Made). IsBlobAt m.things c.args.id) (sym c.self.view_is) c.requires in
    rw c.close.ensures (record {
      kept = kept_closed c.self.inside.made.items c.self.inside.next_id c.self.inside.ids c.self.inside.buffers c.args.id
          c.self.invariant.kept;
      referred = referred_destroyed c.self.inside.made.items c.self.inside.next_id c.self.inside.fbs c.args.id
          c.self.invariant.kept.numbered blob c.self.invariant.referred;
    })
