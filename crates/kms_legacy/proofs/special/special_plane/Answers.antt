use Rattle.std.proofs.Common.{◌≡◌, ◌+◌, ◌-◌, ◌<◌, ◌≤◌, ℕ, List, ◌∷◌, Option, Some, None, drop, length, set, take, refl, sym, ap, ◌∙◌}
use Rattle.std.proofs.Common.{add-one, arith}
use Rattle.std.specs.List.{cons_option}
use Rattle.std.proofs.lemmas.List.{drop-set, length-drop, length-set, take_all}
use Rattle.kms_model.specs.declared.objects.Topology.{Topology}
use Rattle.kms_model.specs.Legacy.Translation.{least_plane, special_planes}
use Rattle.kms_legacy.proofs.special.special_plane.Goals as goal

pub loop-lower-init : goal.loop-lower-init
unfolding special_planes
loop-lower-init c = record { taken = refl; room = omega arith; within = omega arith; size = refl }

-- what stands from a place on, as a slice of its own
rest_whole : (xs : List ℕ) (n : ℕ) → length xs ≡ 4 → take (4 - n) (drop n xs) ≡ drop n xs
rest_whole xs n four = take_all (4 - n) (drop n xs) (omega (arith, length-drop n xs, four))

-- the planes of one CRTC more
one_more : (t : Topology) (kind lower : ℕ) (taken front : List ℕ) (o : Option ℕ) → taken ≡ special_planes t kind lower → front ≡ taken
    → o ≡ least_plane t kind front lower
    → cons_option o taken ≡ special_planes t kind (lower + 1)
unfolding special_planes
one_more t kind lower taken front o is same of = rw (add-one lower, of, same, is) refl

-- one is put in front of them
put_first : (xs : List ℕ) (n plane : ℕ) → 0 < n → n ≤ length xs → drop (n - 1) (set xs (n - 1) plane) ≡ plane ∷ drop n xs
put_first xs n plane some within =
    let same : n - 1 + 1 ≡ n = omega (arith, some) in
    drop-set xs (n - 1) plane (omega (arith, some, within)) ∙ ap (λ k. plane ∷ drop k xs) same

pub loop-lower-preserved-in_default : goal.loop-lower-preserved-in_default
loop-lower-preserved-in_default c =
    let at = c.loop-lower.invariant in
    record {
      taken =
          one_more c.args.topology.now c.args.kind c.loop-lower.lower (drop c.loop-lower.left c.loop-lower.taken) _ None at.taken
          (rest_whole c.loop-lower.taken c.loop-lower.left at.size)
          (sym c.in_default.is ∙ c.least_plane.ensures);
      room = omega (arith, at.room);
      within = at.within;
      size = at.size;
    }

pub loop-lower-preserved : goal.loop-lower-preserved
loop-lower-preserved c =
    let at = c.loop-lower.invariant in
    let left : ℕ = c.loop-lower.left in
    let some : 0 < left = omega (arith, at.room, c.loop-lower-test.true, c.requires.few) in
    record {
      taken = put_first c.loop-lower.taken left c.in-Some.plane some (omega (arith, at.within, at.size))
          ∙ one_more c.args.topology.now c.args.kind c.loop-lower.lower (drop left c.loop-lower.taken) _ (Some c.in-Some.plane) at.taken
          (rest_whole c.loop-lower.taken left at.size)
          (sym c.in-Some.is ∙ c.least_plane.ensures);
      room = omega (arith, at.room, some);
      within = omega (arith, at.within);
      size = length-set c.loop-lower.taken (left - 1) c.in-Some.plane ∙ at.size;
    }
