-- The objects that a context may lock for its request, before it is known whether the request is accepted. From: "Atomic
-- Mode Setting": objects are locked as their states are duplicated, while the assignments are applied one by one.
use Rattle.std.specs.Prelude.{ℕ, Bool, List, filter, is_none}
use Rattle.kms_model.specs.declared.objects.Topology.{Topology}
use Rattle.kms_model.specs.declared.scripts.Assign.{Assign}
use Rattle.kms_model.specs.declared.scripts.Request.{Request}
use Rattle.kms_model.specs.declared.worlds.World.{World}
use Rattle.kms_model.specs.Request.Lookups.{look_up_any}
use Rattle.kms_model.specs.Request.Refusals.{own_refusal}
use Rattle.kms_model.specs.Request.Touched.{touches}

-- the assignments with which nothing is wrong by themselves, where closed things count as they were while open
abbrev pub reaching : Topology → World → List Assign → List Assign
reaching t w assigns = filter (λ a. is_none (own_refusal t (look_up_any w) a)) assigns

-- An object is in the reach of a request where the request would touch it if it had those assignments alone.
unfoldable pub reaches : Topology → World → Request → ℕ → Bool
reaches t w r object = touches t w (record r { assigns = reaching t w r.assigns }) object
