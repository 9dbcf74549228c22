use Rattle.std.proofs.Common.{◌≡◌, ap, ◌∙◌, arith, refl, Some}
use Rattle.kms_model.specs.Device.Places.{alike}
use Rattle.kms_things.specs.Starting.{off_plane, states_below}
use Rattle.kms_things.proofs.StatesBelow.{below_more}
use Rattle.kms_things.proofs.starting.start_planes.Goals as goal

pub loop-index-preserved : goal.loop-index-preserved
loop-index-preserved c = rw (c.loop-index.invariant, c.alike.ensures, c.off_plane.ensures)
    (below_more 16 off_plane c.loop-index.index (Some (alike (off_plane c.loop-index.index))) (omega (arith, c.requires)) refl)

pub returns : goal.returns
returns c = let e : c.loop-index.index ≡ c.args.count = omega arith in c.loop-index.invariant ∙ ap (λ n. states_below 16 off_plane n) e
