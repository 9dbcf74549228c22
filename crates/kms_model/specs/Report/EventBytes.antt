-- The bytes of a flip event as a client reads them, all numbers little-endian. From: `drm.h`, struct drm_event (type and
-- length) and struct drm_event_vblank, whose fields stand one behind the other without gaps; DRM_EVENT_FLIP_COMPLETE is 2.
-- The time, in seconds and microseconds, is this device's 0.
use Rattle.std.specs.Prelude.{ℕ, List, ◌++◌}
use Rattle.std.specs.Int.{w32, w64, to_le_bytes}
use Rattle.kms_model.specs.declared.replies.Event.{Event}

-- the 32 bytes of an event
abbrev pub event_bytes : Event → List ℕ
event_bytes e =
    to_le_bytes w32 2 ++ (to_le_bytes w32 32 ++ (to_le_bytes w64 e.user_data
    ++ (to_le_bytes w32 0 ++ (to_le_bytes w32 0
    ++ (to_le_bytes w32 e.sequence ++ to_le_bytes w32 e.crtc)))))
