-- What the labels of a request name.
use Rattle.std.specs.Prelude.{ℕ, List, Option, Some, None, if◌then◌else◌, map}
use Rattle.std.specs.List.{filter_map}
use Rattle.kms_model.specs.declared.objects.Mode.{Mode}
use Rattle.kms_model.specs.declared.scripts.Request.{Request}
use Rattle.kms_model.specs.declared.scripts.Value.{Value}
use Rattle.kms_model.specs.declared.scripts.Value.TheVariants.{Num, Named, New, Crtc}
use Rattle.kms_model.specs.declared.worlds.Content.{Content}
use Rattle.kms_model.specs.declared.worlds.Content.TheVariants as content
use Rattle.kms_model.specs.declared.worlds.Look.{Look}
use Rattle.kms_model.specs.declared.worlds.Look.TheVariants as look
use Rattle.kms_model.specs.declared.worlds.Thing.{Thing}
use Rattle.kms_model.specs.declared.worlds.World.{World}
use Rattle.std.specs.Result.{result_ok}
use Rattle.kms_model.specs.Device.ModeBytes.{decoded}
use Rattle.kms_model.specs.Device.Modes.{is_legal_mode}
use Rattle.kms_model.specs.Device.World.{thing_labelled}
use Rattle.kms_model.specs.Device.GammaBytes.{gamma_of_bytes}
use Rattle.kms_model.specs.declared.objects.Gamma.{Gamma}

-- a blob of 2048 bytes is looked up as the gamma table that they hold, in each profile
abbrev pub look_of_gamma : ℕ → Option Gamma → Look
look_of_gamma id (Some g) = look.Gamma g id
look_of_gamma id None = look.Blob id

-- a blob that holds a legal mode is looked up as that mode
abbrev pub look_of_blob : ℕ → Option Mode → Option Gamma → Look
look_of_blob id (Some m) g = look.Mode m id
look_of_blob id None g = look_of_gamma id g

-- an open thing by its kind
abbrev pub look_of_content : ℕ → Content → Look
look_of_content id (content.Buffer width height format pattern) = look.Buffer id
look_of_content id (content.Framebuffer info buffer) = look.Fb info
look_of_content id (content.Mode m) = if is_legal_mode m then look.Mode m id else look.Blob id
look_of_content id (content.Blob bytes) = look_of_blob id (result_ok (decoded bytes)) (gamma_of_bytes bytes)
look_of_content id content.Fence = look.Fence id
look_of_content id content.OutFence = look.Fence id

abbrev pub look_of : Option Thing → Look
look_of None = look.Missing
look_of (Some t) = if t.is_open then look_of_content t.id t.content else look.Closed

-- what a label names in a world
abbrev pub look_up : World → ℕ → Look
look_up w label = look_of (thing_labelled w.things label)

-- the same, where a closed thing counts as it was while it was open
abbrev pub look_of_any : Option Thing → Look
look_of_any None = look.Missing
look_of_any (Some t) = look_of_content t.id t.content

abbrev pub look_up_any : World → ℕ → Look
look_up_any w label = look_of_any (thing_labelled w.things label)

-- the label that a value names
abbrev pub label_of : Value → Option ℕ
label_of (Named label) = Some label
label_of (Num n) = None
label_of (New label) = None
label_of (Crtc index) = None

-- for each label that a request names, what it names
abbrev pub lookups : World → Request → List (ℕ × Look)
lookups w r = map (λ label. (label, look_up w label)) (filter_map (λ a. label_of a.value) r.assigns)
