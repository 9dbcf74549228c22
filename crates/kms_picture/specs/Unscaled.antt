-- What the planes of a world show that none of them scales. From: "Plane Composition Properties".
use Rattle.std.specs.Prelude.{◌≡◌, ℕ, ◌<◌, ◌==◌, true, false, length}
use Rattle.kms_model.specs.declared.objects.Kind.TheVariants.{Plane}
use Rattle.kms_model.specs.declared.objects.Topology.{Topology}
use Rattle.kms_model.specs.declared.worlds.World.{World}
use Rattle.kms_model.specs.Device.Objects.{object_id}
use Rattle.kms_model.specs.Device.States.{plane_at}
use Rattle.kms_model.specs.Frames.FrameBytes.{covers}
use Rattle.kms_model.specs.Frames.Unscaled.{ShowsUnscaled}

-- each plane of a device that is on a CRTC shows, at each pixel of its destination, what it shows there unscaled
abbrev pub EachShowsUnscaled : Topology → World → Type 0
EachShowsUnscaled t w = (index x y : ℕ) → index < length t.planes → ((plane_at w.things w.values (object_id Plane index)).crtc == 0) ≡ false
    → covers (plane_at w.things w.values (object_id Plane index)).dst x y ≡ true
    → ShowsUnscaled (plane_at w.things w.values (object_id Plane index)) x y
