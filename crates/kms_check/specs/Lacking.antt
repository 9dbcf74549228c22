-- The objects that a check still needs duplicated.
use Rattle.std.specs.Prelude.{ℕ, Bool, ◌&&◌, ◌==◌, List, length, is_none, Option, Some, None, if◌then◌else◌}
use Rattle.kms_model.specs.Device.Places.{state_at}
use Rattle.kms_model.specs.declared.objects.Topology.{Topology}
use Rattle.kms_model.specs.declared.scripts.Request.{Request}
use Rattle.kms_model.specs.declared.states.Both.{Both}
use Rattle.kms_model.specs.declared.states.Duplicates.{Duplicates}
use Rattle.kms_model.specs.declared.states.Mask.{Mask}
use Rattle.kms_model.specs.declared.worlds.World.{World}
use Rattle.kms_model.specs.Device.Masks.{has_bit, mask_below}
use Rattle.kms_model.specs.Firsts.{or_else}
use Rattle.kms_model.specs.Request.Groups.{set_group, named_group, affected_group}

abbrev pub is_empty : Mask → Bool
is_empty m = (m.crtcs == 0) && ((m.planes == 0) && (m.conns == 0))

-- those of a set, among n objects, that are not duplicated
abbrev pub missing_in : {S : Type 0} → ℕ → List (Option (Both S)) → ℕ → ℕ
missing_in mask states n =
    mask_below (λ index. has_bit mask index && is_none (state_at states index)) n

abbrev pub not_duplicated : Duplicates → Mask → Mask
not_duplicated d m = record {
  crtcs = missing_in m.crtcs d.crtcs (length d.crtcs);
  planes = missing_in m.planes d.planes (length d.planes);
  conns = missing_in m.conns d.conns (length d.conns);
}

-- those of a set that are not duplicated, if there are any
abbrev pub lacking : Duplicates → Mask → Option Mask
lacking d m = if is_empty (not_duplicated d m) then None else Some (not_duplicated d m)

-- what is not duplicated of the first group that is not duplicated whole
abbrev pub first_lacking : Topology → World → Request → Duplicates → Option Mask
first_lacking t w r d = or_else (lacking d (set_group t r)) (or_else (lacking d (named_group t w r)) (lacking d (affected_group t w r)))
