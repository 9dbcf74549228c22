-- The objects that have a modeset lock.
-- From: drm_modeset_lock.c and the `mutex` of `struct drm_crtc` and `struct drm_plane`; the kernel's connectors
-- share `connection_mutex`. Own choice of this device: each connector has a lock of its own.
use Rattle.std.specs.Prelude.{ℕ, ◌+◌, ◌<◌, ◌≤◌, ◌⊎◌}
use Rattle.kms_model.specs.declared.objects.Kind.{Kind}
use Rattle.kms_model.specs.declared.objects.Kind.TheVariants.{Crtc, Plane, Conn, Enc}
use Rattle.kms_model.specs.declared.objects.ObjId.{ObjId}
use Rattle.kms_model.specs.declared.objects.TheConstants.{MAX_CRTCS, MAX_PLANES, MAX_CONNECTORS}
use Rattle.kms_model.specs.Device.Objects.{first_id, index_of, kind_of, most_of}

-- an object of a kind of the largest device
abbrev pub IsOf : Kind → ObjId → Type 0
IsOf kind id = (first_id kind ≤ id.0) × (id.0 < first_id kind + most_of kind)

-- a CRTC, a plane or a connector of the largest device
abbrev pub IsLockable : ObjId → Type 0
IsLockable id = IsOf Crtc id ⊎ (IsOf Plane id ⊎ IsOf Conn id)

-- how many lockable objects there are before those of a kind
abbrev pub locks_before : Kind → ℕ
locks_before Crtc = 0
locks_before Plane = MAX_CRTCS
locks_before Conn = MAX_CRTCS + MAX_PLANES
locks_before Enc = MAX_CRTCS + MAX_PLANES + MAX_CONNECTORS

-- the place of a lockable object among all of them in the order of their ids
unfoldable pub lock_place : ObjId → ℕ
lock_place id = locks_before (kind_of id.0) + index_of id.0
