-- What commands make, in any world in which the same was made.
use Rattle.std.proofs.Common.{◌≡◌, ℕ, List, [], ◌∷◌, Option, Some, None, Result, Ok, Err, ap, refl}
use Rattle.std.specs.Prelude.{IfOk, map}
use Rattle.std.specs.Option.{option_map}
use Rattle.kms_model.specs.declared.pictures.FbInfo.{FbInfo}
use Rattle.kms_model.specs.declared.scripts.Assign.{Assign}
use Rattle.kms_model.specs.declared.worlds.Content.TheVariants as content
use Rattle.kms_model.specs.declared.worlds.World.{World}
use Rattle.kms_model.specs.Device.Execution.{BufferInfo, add_fb, make, make_out_fence, make_out_fences}
use Rattle.kms_model.specs.Request.Touched.{out_fence_label}
use Rattle.kms_things.specs.Framebuffers.{framebuffer_with}
use Rattle.kms_things.specs.Made.{Made, with_made}
use Rattle.kms_things.specs.OutFences.{fences_made}

pub if_ok : {X E : Type 0} (R : Result X E) (P Q : X → Type 0) → ((x : X) → P x → Q x) → IfOk R P → IfOk R Q
if_ok (Ok x) P Q f p = f x p
if_ok (Err e) P Q f p = tt

-- a framebuffer of a buffer that is there is made
pub fb_added : (w : World) (made : Made) (client label buffer : ℕ) (info : FbInfo) (o : Option BufferInfo)
    → Some (info, buffer) ≡ option_map (framebuffer_with made.next_id) o
    → make (with_made w made) client label (content.Framebuffer info buffer) ≡ add_fb (with_made w made) client label o
fb_added w made client label buffer info None is = absurd cc
fb_added w made client label buffer info (Some b) is =
    let e : (info, buffer) ≡ framebuffer_with made.next_id b = cc in
    ap (λ (p : FbInfo × ℕ). make (with_made w made) client label (content.Framebuffer p.0 p.1)) e

-- fences under the labels of CRTCs are those of the CRTCs
pub fences_of_crtcs : (client : ℕ) (assigns : List Assign) (w : World) (crtcs : List ℕ)
    → fences_made client w (map (out_fence_label assigns) crtcs) ≡ make_out_fences client assigns w crtcs
fences_of_crtcs client assigns w [] = refl
fences_of_crtcs client assigns w (crtc ∷ crtcs) =
    fences_of_crtcs client assigns (make_out_fence client w (out_fence_label assigns crtc)) crtcs
