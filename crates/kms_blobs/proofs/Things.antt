-- What happens to the open blobs as things are made.
use Rattle.std.proofs.Common.{◌≡◌, ℕ, List, [], ◌∷◌, ◌++◌}
use Rattle.std.proofs.lemmas.List.Elements.{filter_map-append}
use Rattle.kms_model.specs.declared.objects.Mode.{Mode}
use Rattle.kms_model.specs.declared.worlds.Content.TheVariants as content
use Rattle.kms_model.specs.declared.worlds.World.{World}
use Rattle.kms_model.specs.Device.ModeBytes.{mode_bytes}
use Rattle.kms_model.specs.Things.OpenThings.{open_value}
use Rattle.kms_model.specs.Device.Execution.{make}
use Rattle.kms_model.specs.Things.Kept.{blob}
use Rattle.kms_model.specs.Things.Tables.{slot}
use Rattle.kms_blobs.specs.Things.{blob_in, blobs_of}

pub made_blob : (w : World) (owner label : ℕ) (bytes : List ℕ)
    → blobs_of (make w owner label (content.Blob bytes)).world.things ≡ blobs_of w.things ++ slot w.next_id (blob owner bytes) ∷ []
made_blob w owner label bytes = filter_map-append (open_value blob_in) w.things _

pub made_mode : (w : World) (owner label : ℕ) (m : Mode)
    → blobs_of (make w owner label (content.Mode m)).world.things ≡ blobs_of w.things ++ slot w.next_id (blob owner (mode_bytes m)) ∷ []
made_mode w owner label m = filter_map-append (open_value blob_in) w.things _
