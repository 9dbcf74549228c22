-- The objects that a request needs locked, in three groups. From: "Atomic Mode Setting"; `drm_atomic_helper.c`,
-- drm_atomic_helper_check_modeset, drm_atomic_add_affected_planes, drm_atomic_add_affected_connectors.
use Rattle.std.specs.Prelude.{bit_or}
use Rattle.kms_model.specs.declared.objects.Kind.TheVariants.{Crtc, Plane, Conn}
use Rattle.kms_model.specs.declared.objects.Topology.{Topology}
use Rattle.kms_model.specs.declared.scripts.Request.{Request}
use Rattle.kms_model.specs.declared.states.Mask.{Mask}
use Rattle.kms_model.specs.declared.worlds.World.{World}
use Rattle.kms_model.specs.Request.Apply.{after}
use Rattle.kms_model.specs.Request.Touched.{is_affected, named_by, set_where, sets}

-- no object
abbrev pub no_objects : Mask
no_objects = record { crtcs = 0; planes = 0; conns = 0 }

-- the objects of two sets
abbrev pub union : Mask → Mask → Mask
union a b = record {
  crtcs = bit_or a.crtcs b.crtcs;
  planes = bit_or a.planes b.planes;
  conns = bit_or a.conns b.conns;
}

-- the objects that a request sets
abbrev pub set_group : Topology → Request → Mask
set_group t r = record {
  crtcs = set_where t Crtc (sets r.assigns);
  planes = set_where t Plane (sets r.assigns);
  conns = set_where t Conn (sets r.assigns);
}

-- the CRTCs that it names
abbrev pub named_group : Topology → World → Request → Mask
named_group t w r = record { crtcs = named_by t w r; planes = 0; conns = 0 }

-- the planes and connectors of CRTCs that need a modeset
abbrev pub affected_group : Topology → World → Request → Mask
affected_group t w r = record {
  crtcs = 0;
  planes = set_where t Plane (is_affected t w.things w.values (after w r));
  conns = set_where t Conn (is_affected t w.things w.values (after w r));
}
