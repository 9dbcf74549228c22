-- Both requests by their parts, and the first closed object by kinds.
use Rattle.std.proofs.Common.{◌≡◌, ℕ, List, [], ◌∷◌, ◌++◌, map, Option, Some, None, refl, sym, ap, ◌∙◌}
use Rattle.std.specs.Prelude.{find, option_map}
use Rattle.std.specs.List.{flat_map}
use Rattle.kms_model.specs.declared.objects.Kind.TheVariants as kind
use Rattle.kms_model.specs.declared.objects.ObjId.{ObjId}
use Rattle.kms_model.specs.declared.objects.Topology.{Topology}
use Rattle.kms_model.specs.declared.worlds.World.{World}
use Rattle.kms_model.specs.Device.Objects.{ids_of, indices_of, object_id}
use Rattle.kms_model.specs.Firsts.{or_else}
use Rattle.kms_model.specs.Order.Suspending.{closed_object, conn_back, crtc_back, has_crtc_at, has_mode_at, indices_where}
use Rattle.kms_model.specs.Order.Suspending.{lacks_framebuffer, lacks_mode, modeset, off_request, on_request, plane_back}
use Rattle.kms_model.specs.Script.Assigning.{conn_off, crtc_off, plane_off}
use Rattle.kms_suspend.specs.declared.parts.Way.TheVariants.{Off, Back}
use Rattle.kms_suspend.specs.Parts.{id_of, lacks_label, part}
use Rattle.kms_suspend.proofs.Searching.{find-map}

singly : {A B : Type 0} (f : A → B) (xs : List A) → map f xs ≡ flat_map (λ x. f x ∷ []) xs
singly f [] = refl
singly f (x ∷ xs) = ap (λ ys. f x ∷ ys) (singly f xs)

pub off_parts : (t : Topology) (w : World)
    → modeset (part Off t w kind.Plane ++ (part Off t w kind.Conn ++ part Off t w kind.Crtc)) ≡ off_request t w
unfolding off_request
off_parts t w =
    ap (λ conns. modeset (flat_map plane_off (indices_where t kind.Plane (has_crtc_at w)) ++
    (conns ++ flat_map crtc_off (indices_where t kind.Crtc (has_mode_at w)))))
    (sym (singly conn_off (indices_where t kind.Conn (has_crtc_at w))))

pub back_parts : (t : Topology) (w : World)
    → modeset (part Back t w kind.Crtc ++ (part Back t w kind.Conn ++ part Back t w kind.Plane)) ≡ on_request t w
unfolding on_request
back_parts t w =
    ap (λ conns. modeset (flat_map (crtc_back w) (indices_where t kind.Crtc (has_mode_at w)) ++
    (conns ++ flat_map (plane_back w) (indices_where t kind.Plane (has_crtc_at w)))))
    (sym (singly (conn_back w) (indices_where t kind.Conn (has_crtc_at w))))

pub numbered : (o : Option ℕ) (k : ℕ → ℕ)
    → option_map (λ (id : ObjId). id.0) (option_map (λ index. record { 0 = k index }) o) ≡ option_map k o
numbered None k = refl
numbered (Some index) k = refl

pub first_crtc : (t : Topology) (w : World)
    → option_map (object_id kind.Crtc) (find (lacks_label w kind.Crtc) (indices_of t kind.Crtc)) ≡ find (lacks_mode w) (ids_of t kind.Crtc)
first_crtc t w = sym (find-map (lacks_mode w) (object_id kind.Crtc) (indices_of t kind.Crtc))

pub first_plane : (t : Topology) (w : World)
    → option_map (object_id kind.Plane) (find (lacks_label w kind.Plane) (indices_of t kind.Plane)) ≡ find
    (lacks_framebuffer w) (ids_of t kind.Plane)
first_plane t w = sym (find-map (lacks_framebuffer w) (object_id kind.Plane) (indices_of t kind.Plane))

-- the first CRTC, or else the first plane
pub closed_by_kinds : (t : Topology) (w : World) (crtc plane : Option ObjId)
    → crtc ≡ option_map (id_of kind.Crtc) (find (lacks_label w kind.Crtc) (indices_of t kind.Crtc))
    → plane ≡ option_map (id_of kind.Plane) (find (lacks_label w kind.Plane) (indices_of t kind.Plane))
    → option_map (λ (id : ObjId). id.0) (or_else crtc plane) ≡ closed_object t w
unfolding closed_object
closed_by_kinds t w crtc plane c p =
    mapped_else crtc plane
    ∙ (λ i. or_else (ids c i) (planes p i))
  where
    mapped_else : (a b : Option ObjId) → option_map (λ (id : ObjId). id.0) (or_else a b) ≡ or_else (option_map (λ (id : ObjId). id.0) a)
        (option_map (λ (id : ObjId). id.0) b)
    mapped_else None b = refl
    mapped_else (Some a) b = refl

    ids : crtc ≡ option_map (id_of kind.Crtc) (find (lacks_label w kind.Crtc) (indices_of t kind.Crtc))
        → option_map (λ (id : ObjId). id.0) crtc ≡ find (lacks_mode w) (ids_of t kind.Crtc)
    ids e = ap (option_map (λ (id : ObjId). id.0)) e ∙ numbered (find (lacks_label w kind.Crtc) (indices_of t kind.Crtc))
        (object_id kind.Crtc) ∙ first_crtc t w

    planes : plane ≡ option_map (id_of kind.Plane) (find (lacks_label w kind.Plane) (indices_of t kind.Plane))
        → option_map (λ (id : ObjId). id.0) plane ≡ find (lacks_framebuffer w) (ids_of t kind.Plane)
    planes e = ap (option_map (λ (id : ObjId). id.0)) e ∙ numbered (find (lacks_label w kind.Plane) (indices_of t kind.Plane))
        (object_id kind.Plane) ∙ first_plane t w
