-- What is refused to a client that destroys a blob, by a store and by the things of a device.
use Rattle.std.proofs.Common.{◌≡◌, ℕ, List, Bool, true, false, Option, Some, None, refl, ap, sym, ◌∙◌}
use Rattle.std.specs.Prelude.{◌==◌, not, if◌then◌else◌}
use Rattle.std.specs.Option.{option_and_then}
use Rattle.kms_model.specs.declared.replies.TheConstants.Denied.{NOT_OWNER}
use Rattle.kms_model.specs.declared.things.Blob.{Blob}
use Rattle.kms_model.specs.declared.tables.Slot.{Slot}
use Rattle.kms_model.specs.declared.worlds.Content.{Content}
use Rattle.kms_model.specs.declared.worlds.Content.TheVariants as content
use Rattle.kms_model.specs.declared.worlds.Thing.{Thing}
use Rattle.kms_model.specs.Device.Execution.{destroy_refusal}
use Rattle.kms_model.specs.Device.Sound.{AreNumbered}
use Rattle.kms_model.specs.Device.World.{thing_with_id}
use Rattle.kms_model.specs.Firsts.{denied_if}
use Rattle.kms_model.specs.Device.ModeBytes.{mode_bytes}
use Rattle.kms_model.specs.Things.Kept.{blob, destroy_answer}
use Rattle.kms_model.specs.Things.OpenThings.{denial, value_if_open}
use Rattle.kms_model.specs.Things.Tables.{value_with_id}
use Rattle.kms_model.proofs.OpenLemmas.{found_open}
use Rattle.kms_blobs.specs.Things.{blob_in, blobs_of}

refused_blob : (b : Bool) → denied_if NOT_OWNER (not b) ≡ (if b then None else Some NOT_OWNER.0)
refused_blob true = refl
refused_blob false = refl

answered_blob : (owner : ℕ) (b : Blob) (mine : Bool) → (b.owner == owner) ≡ mine
    → (if mine then None else Some NOT_OWNER.0) ≡ denial (destroy_answer owner (Some b))
answered_blob owner b true is = rw is refl
answered_blob owner b false is = rw is refl

of_blob : (owner : ℕ) (b : Blob) → denied_if NOT_OWNER (not (b.owner == owner)) ≡ denial (destroy_answer owner (Some b))
of_blob owner b = refused_blob (b.owner == owner) ∙ answered_blob owner b (b.owner == owner) refl

refused_if_open : (owner : ℕ) (t : Thing) (b : Bool) (c : Content) → t.is_open ≡ b → t.content ≡ c
    → destroy_refusal owner (Some t) ≡ denial (destroy_answer owner (value_if_open blob_in t))
refused_if_open owner t true (content.Mode m) opened is = rw (opened, is) (of_blob owner (blob t.owner (mode_bytes m)))
refused_if_open owner t false (content.Mode m) opened is = rw (opened, is) refl
refused_if_open owner t true (content.Blob bytes) opened is = rw (opened, is) (of_blob owner (blob t.owner bytes))
refused_if_open owner t false (content.Blob bytes) opened is = rw (opened, is) refl
refused_if_open owner t true (content.Framebuffer info of) opened is = rw (opened, is) refl
refused_if_open owner t false (content.Framebuffer info of) opened is = rw (opened, is) refl
refused_if_open owner t true (content.Buffer width height format pattern) opened is = rw (opened, is) refl
refused_if_open owner t false (content.Buffer width height format pattern) opened is = rw (opened, is) refl
refused_if_open owner t true content.Fence opened is = rw (opened, is) refl
refused_if_open owner t false content.Fence opened is = rw (opened, is) refl
refused_if_open owner t true content.OutFence opened is = rw (opened, is) refl
refused_if_open owner t false content.OutFence opened is = rw (opened, is) refl

refusal_is : (owner : ℕ) (o : Option Thing)
    → destroy_refusal owner o ≡ denial (destroy_answer owner (option_and_then (value_if_open blob_in) o))
refusal_is owner None = refl
refusal_is owner (Some t) = refused_if_open owner t t.is_open t.content refl refl

-- a store that has the open blobs of things refuses as a device with these things does
pub destroys_alike : (blobs : List (Slot Blob)) (owner id : ℕ) (things : List Thing) → AreNumbered 1000 things → blobs_of things ≡ blobs
    → denial (destroy_answer owner (value_with_id blobs id)) ≡ destroy_refusal owner (thing_with_id things id)
destroys_alike blobs owner id things numbered same =
    ap (λ o. denial (destroy_answer owner o)) (ap (λ xs. value_with_id xs id) (sym same) ∙ found_open blob_in 1000 id things numbered)
    ∙ sym (refusal_is owner (thing_with_id things id))
