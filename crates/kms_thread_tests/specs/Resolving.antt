-- A request that is not refused by itself. From: `drm_atomic_uapi.c`, drm_mode_atomic_ioctl.
use Rattle.std.specs.Prelude.{ℕ}
use Rattle.kms_model.specs.declared.objects.Topology.{Topology}
use Rattle.kms_model.specs.declared.scripts.Request.{Request}
use Rattle.kms_model.specs.declared.sets.Resolved.{Resolved}
use Rattle.kms_model.specs.declared.worlds.Look.{Look}
use Rattle.kms_model.specs.Request.Resolves.{IsResolved}

-- with what its labels name, a request asks for something
pub record Resolves (t : Topology) (names : ℕ → Look) (r : Request) : Type 0 where
  pub resolved : Resolved
  pub asks : IsResolved t names r resolved
