-- Whether a request is accepted, and else the first refusal. From: "Atomic Mode Setting"; `drm_atomic.c`,
-- drm_atomic_check_only. The numbers and the order of the refusals are this device's own.
use Rattle.std.specs.Prelude.{ℕ, Option}
use Rattle.kms_model.specs.declared.objects.Topology.{Topology}
use Rattle.kms_model.specs.declared.scripts.Request.{Request}
use Rattle.kms_model.specs.declared.worlds.World.{World}
use Rattle.kms_model.specs.Firsts.{or_else}
use Rattle.kms_model.specs.Request.Lookups.{look_up}
use Rattle.kms_model.specs.Request.Apply.{after}
use Rattle.kms_model.specs.Request.Refusals.{early_refusal}
use Rattle.kms_model.specs.Request.Checks.{late_refusal}

-- the first early refusal of a request in a world, and the first late one
abbrev pub early_in : Topology → World → Request → Option ℕ
early_in t w r = early_refusal t (look_up w) r

abbrev pub late_in : Topology → World → Request → Option ℕ
late_in t w r = late_refusal t w.things w.values (after w r) r

-- the first refusal of a request in a world, early or late; none where it is accepted
unfoldable pub verdict : Topology → World → Request → Option ℕ
verdict t w r = or_else (early_in t w r) (late_in t w r)
