-- What requests reach, worked out: on a device of two CRTCs on which the first is lit, with its framebuffer and its mode
-- closed since.
use Rattle.std.proofs.Common.{◌≡◌, ℕ, ◌+◌, Bool, true, false, List, [], ◌∷◌, ◌++◌, pos, refl}
use Rattle.std.specs.Prelude.{map, negsuc}
use Rattle.kms_model.specs.declared.objects.Format.TheVariants.{Xr24}
use Rattle.kms_model.specs.declared.objects.Kind.TheVariants as kind
use Rattle.kms_model.specs.declared.properties.TheConstants.{ACTIVE, ALPHA, CRTC_ID, FB_ID, IN_FENCE_FD, MODE_ID, TYPE}
use Rattle.kms_model.specs.declared.scripts.Assign.{Assign}
use Rattle.kms_model.specs.declared.scripts.Value.TheVariants as value
use Rattle.kms_model.specs.declared.worlds.Content.{Content}
use Rattle.kms_model.specs.declared.worlds.Content.TheVariants as content
use Rattle.kms_model.specs.declared.worlds.Thing.{Thing}
use Rattle.kms_model.specs.declared.worlds.World.{World}
use Rattle.kms_model.specs.Device.Objects.{object_id}
use Rattle.kms_model.specs.Device.World.{start}
use Rattle.kms_model.specs.Machine.Commits.{lockable}
use Rattle.kms_model.specs.Request.Apply.{apply}
use Rattle.kms_model.specs.Request.Reach.{reaches}
use Rattle.kms_model.specs.Request.Refusals.{own_refusal}
use Rattle.kms_model.specs.Request.Touched.{touches}
use Rattle.kms_model.specs.Script.Generated.{assigns_to}
use Rattle.kms_samples.specs.Samples.{double, light, sized_mode, request, tiny}

abbrev made : ℕ → Bool → Content → Thing
made label is_open content = record { label = label; id = 1000 + label; owner = 1; content = content; is_open = is_open }

-- a framebuffer under 0 and its mode under 1, both closed, another mode under 2, closed too, and a fence under 3
abbrev things : List Thing
things =
    made 0 false (content.Framebuffer (record { id = 1000; width = 1; height = 1; format = Xr24 }) 0)
    ∷ made 1 false (content.Mode tiny)
    ∷ made 2 false (content.Mode (sized_mode 2 2))
    ∷ made 3 true content.Fence
    ∷ []

abbrev lit : World
lit = record { values = apply things (start double).values (light 0 1); things = things; next_id = 1004; commits = 1 }

-- the two CRTCs, the two planes, the two connectors and an encoder
abbrev objects : List ℕ
objects = lockable double ++ object_id kind.Enc 0 ∷ []

-- which of them a request reaches
abbrev reached : List Assign → List Bool
reached assigns = map (reaches double lit (request 0 assigns)) objects

abbrev nothing : List Bool
nothing = false ∷ false ∷ false ∷ false ∷ false ∷ false ∷ false ∷ []

-- a closed framebuffer counts: the second plane is set
pub closed_framebuffer : reached (assigns_to kind.Plane 1 FB_ID (value.Named 0) ∷ []) ≡ false ∷ false ∷ false ∷ true ∷ false ∷ false ∷ false
    ∷ []
unfolding reaches own_refusal touches
closed_framebuffer = refl

-- a closed mode counts: it is another one, so the CRTC needs a modeset
pub closed_mode : reached (assigns_to kind.Crtc 0 MODE_ID (value.Named 2) ∷ []) ≡ true ∷ false ∷ true ∷ false ∷ true ∷ false ∷ false ∷ []
unfolding reaches own_refusal touches
closed_mode = refl

-- the mode that it has counts too, and is no modeset
pub same_mode_closed : reached (assigns_to kind.Crtc 0 MODE_ID (value.Named 1) ∷ []) ≡ true ∷ false ∷ false ∷ false ∷ false ∷ false ∷ false
    ∷ []
unfolding reaches own_refusal touches
same_mode_closed = refl

-- A plane that goes to another CRTC reaches both. A CRTC that goes off, and one that a second connector comes to, reaches what
-- is on it.
abbrev singles : List Assign
singles =
    assigns_to kind.Plane 0 CRTC_ID (value.Crtc 1)
    ∷ assigns_to kind.Crtc 0 ACTIVE (value.Num (pos 0))
    ∷ assigns_to kind.Conn 1 CRTC_ID (value.Crtc 0)
    ∷ []

pub one_assignment_reaches_what_it_touches : map (λ a. reached (a ∷ [])) singles ≡
    (true ∷ true ∷ true ∷ false ∷ false ∷ false ∷ false ∷ [])
    ∷ (true ∷ false ∷ true ∷ false ∷ true ∷ false ∷ false ∷ [])
    ∷ (true ∷ false ∷ true ∷ false ∷ true ∷ true ∷ false ∷ [])
    ∷ []
unfolding reaches own_refusal touches
one_assignment_reaches_what_it_touches = refl

-- of three assignments the first and the last are refused
pub refused_assignments_reach_nothing_among_others : reached
    (assigns_to kind.Plane 0 ALPHA (value.Num (pos 65536)) ∷ assigns_to kind.Conn 1 CRTC_ID (value.Crtc 1)
    ∷ assigns_to kind.Crtc 0 ACTIVE (value.Num (pos 2)) ∷ []) ≡ false ∷ true ∷ false ∷ false ∷ false ∷ true ∷ false ∷ []
unfolding reaches own_refusal touches
refused_assignments_reach_nothing_among_others = refl

-- What no request may set: an object that the device does not have, also one whose number would be that of a plane; a property that
-- the object does not have; one that no request may set; a value out of range; a label that is not made; one of another
-- kind; and any property of an encoder, which has none.
abbrev refused : List Assign
refused =
    assigns_to kind.Crtc 2 ACTIVE (value.Num (pos 0))
    ∷ assigns_to kind.Crtc 100 ACTIVE (value.Num (pos 0))
    ∷ assigns_to kind.Crtc 0 ALPHA (value.Num (pos 0))
    ∷ assigns_to kind.Plane 0 TYPE (value.Num (pos 1))
    ∷ assigns_to kind.Plane 0 ALPHA (value.Num (pos 65536))
    ∷ assigns_to kind.Plane 0 FB_ID (value.Named 9)
    ∷ assigns_to kind.Plane 0 FB_ID (value.Named 1)
    ∷ assigns_to kind.Enc 0 CRTC_ID (value.Num (pos 0))
    ∷ []

pub refused_assignments_reach_nothing : map (λ a. reached (a ∷ [])) refused ≡ map (λ a. nothing) refused
unfolding reaches own_refusal touches
refused_assignments_reach_nothing = refl

-- a second fence of a plane is refused, and its assignment counts all the same
pub second_fence : reached (assigns_to kind.Plane 1 IN_FENCE_FD (value.Named 3) ∷ assigns_to kind.Plane 1 IN_FENCE_FD (value.Num (negsuc 0))
    ∷ []) ≡ false ∷ false ∷ false ∷ true ∷ false ∷ false ∷ false ∷ []
unfolding reaches own_refusal touches
second_fence = refl
