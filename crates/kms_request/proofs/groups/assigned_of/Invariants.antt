use Rattle.std.proofs.Common.{◌≡◌, take}
use Rattle.std.specs.Prelude.{◌&&◌, ◌==◌}
use Rattle.std.specs.List.{list_any}
use Rattle.kms_model.specs.Device.Masks.{mask_below}
use Rattle.kms_model.specs.Device.Objects.{most_of, object_id}
use Rattle.kms_model.specs.Request.Apply.{object_of}
use Rattle.kms_request.proofs.groups.assigned_of.Given as goal

-- the objects of those so far that count
abbrev pub invariant-loop-a : goal.invariant-loop-a
invariant-loop-a g l =
    l.assigned ≡ mask_below (λ index. list_any (λ a. g.P.Picker.picked l.picks a && (object_of a == object_id l.kind index))
    (take l.a-index l.assigns)) (most_of l.kind)
