-- A call reads of a world what it reads of the states of all objects there.
use Rattle.std.proofs.Common.{◌≡◌, ℕ, zero, suc, ◌+◌, ◌<◌, Bool, true, List, length, Option, Some, None, inl, inr, refl, ap, ◌∙◌, arith}
use Rattle.std.specs.Prelude.{◌==◌, ◌&&◌, Result, is_some, not, option_and_then}
use Rattle.std.specs.List.{range_with_len}
use Rattle.std.specs.Option.{option_map_or}
use Rattle.kms_model.specs.declared.legacy.LegacyCall.{LegacyCall}
use Rattle.kms_model.specs.declared.legacy.LegacyCall.TheVariants as call
use Rattle.kms_model.specs.declared.objects.Kind.TheVariants.{Crtc, Plane, Conn}
use Rattle.kms_model.specs.declared.objects.Mode.{Mode}
use Rattle.kms_model.specs.declared.objects.Topology.{Topology}
use Rattle.kms_model.specs.declared.pictures.FbInfo.{FbInfo}
use Rattle.kms_model.specs.declared.scripts.Request.{Request}
use Rattle.kms_model.specs.declared.states.Both.{Both}
use Rattle.kms_model.specs.declared.states.ConnState.{ConnState}
use Rattle.kms_model.specs.declared.states.Duplicates.{Duplicates}
use Rattle.kms_model.specs.declared.states.PlaneState.{PlaneState}
use Rattle.kms_model.specs.declared.worlds.World.{World}
use Rattle.kms_model.specs.Device.Objects.{indices_of, object_id}
use Rattle.kms_model.specs.Device.Places.{state_at}
use Rattle.kms_model.specs.Device.States.{plane_at}
use Rattle.kms_model.specs.Legacy.Translated.{fb_of_call, look_anew, mode_of_call, translated}
use Rattle.kms_model.specs.Legacy.Translation.{Present, call_request, conns_now, flip_request, present_in, present_of, primary}
use Rattle.kms_model.specs.Legacy.Translation.{special_plane, special_planes, suits, with_plane}
use Rattle.kms_model.specs.Machine.Commits.{has_number}
use Rattle.kms_model.specs.Request.Agreement.{AreOld, conn_state_at}
use Rattle.kms_model.proofs.Items.{IsIn, filter-same}
use Rattle.kms_model.proofs.ThingLemmas.{find-in}
use Rattle.kms_state.proofs.Slots.{slot_at}
use Rattle.kms_things.specs.Present.{IsPresent}

-- the same is read of each object of a device
pub record AgreeOn (t : Topology) (p q : Present) : Type 0 where
  pub conns : (index : ℕ) → index < length t.conns → p.conn_crtc index ≡ q.conn_crtc index
  pub crtcs : (index : ℕ) → index < length t.planes → p.plane_crtc index ≡ q.plane_crtc index
  pub fbs : (index : ℕ) → index < length t.planes → p.plane_fb index ≡ q.plane_fb index

-- Calls

pub in_range : (from n index : ℕ) → IsIn index (range_with_len from n) → index < from + n
in_range from zero index is = absurd is
in_range from (suc n) index (inl same) = omega (arith, same)
in_range from (suc n) index (inr rest) = omega (arith, in_range (from + 1) n index rest)

conns_same : (t : Topology) (p q : Present) (crtc : ℕ) → AgreeOn t p q → conns_now t p crtc ≡ conns_now t q crtc
conns_same t p q crtc a =
    filter-same (λ conn. p.conn_crtc conn == object_id Crtc crtc) (λ conn. q.conn_crtc conn == object_id Crtc crtc) (indices_of t Conn)
    (λ conn is. ap (λ id. id == object_id Crtc crtc) (a.conns conn (omega (arith, in_range 0 (length t.conns) conn is))))

-- a plane that is found is on the device
pub special_within : (t : Topology) (type crtc plane : ℕ) → special_plane t type crtc ≡ Some plane → plane < length t.planes
special_within t type crtc plane is =
    omega (
      arith,
      in_range 0 (length t.planes) plane
          (find-in (λ index. suits t type crtc index && not (has_number (special_planes t type crtc) index)) (indices_of t Plane) plane is),
    )

plane_same : (o : Option ℕ) (f g : ℕ → Result Request ℕ) → ((plane : ℕ) → o ≡ Some plane → f plane ≡ g plane)
    → with_plane o f ≡ with_plane o g
plane_same None f g same = refl
plane_same (Some plane) f g same = same plane refl

flip_same : (t : Topology) (p q : Present) (plane crtc label user : ℕ) (fb : Option FbInfo) (event : Bool) → AgreeOn t p q
    → plane < length t.planes
    → flip_request p plane crtc fb label event user ≡ flip_request q plane crtc fb label event user
flip_same t p q plane crtc label user fb event a lt = rw (a.crtcs plane lt, a.fbs plane lt) refl

pub same_request : (t : Topology) (p q : Present) (mode : Option Mode) (fb : Option FbInfo) (c : LegacyCall) → AgreeOn t p q
    → call_request t p mode fb c ≡ call_request t q mode fb c
unfolding call_request
same_request t p q mode fb (call.SetCrtc crtc label x y mode_label conn) a = rw (conns_same t p q crtc a) refl
same_request t p q mode fb (call.CrtcOff crtc) a = rw (conns_same t p q crtc a) refl
same_request t p q mode fb (call.SetPlane plane crtc label dst src) a = refl
same_request t p q mode fb (call.PlaneOff plane) a = refl
same_request t p q mode fb (call.PageFlip crtc label event user) a =
    plane_same (special_plane t primary crtc) (λ plane. flip_request p plane crtc fb label event user)
    (λ plane. flip_request q plane crtc fb label event user)
    (λ plane is. flip_same t p q plane crtc label user fb event a (special_within t primary crtc plane is))
same_request t p q mode fb (call.Cursor crtc label x y) a = refl
same_request t p q mode fb (call.CursorMove crtc x y) a = refl
same_request t p q mode fb (call.CursorOff crtc) a = refl

-- Duplicated states

conn_read : (states : List (Option (Both ConnState))) (f : ℕ → ConnState) (index : ℕ) (o : Option (Both ConnState)) → AreOld f states
    → state_at states index ≡ o → is_some o ≡ true
    → option_map_or (λ both. both.old.crtc) o 0 ≡ (f index).crtc
conn_read states f index None old is there = absurd cc
conn_read states f index (Some both) old is there = ap (λ (s : ConnState). s.crtc) (old index both (slot_at states index both is))

-- the plane's old state
plane_read : (states : List (Option (Both PlaneState))) (f : ℕ → PlaneState) (index : ℕ) (o : Option (Both PlaneState)) → AreOld f states
    → state_at states index ≡ o → is_some o ≡ true
    → (option_map_or (λ both. both.old.crtc) o 0 ≡ (f index).crtc) × (option_and_then (λ both. both.old.fb) o ≡ (f index).fb)
plane_read states f index None old is there = absurd cc
plane_read states f index (Some both) old is there =
    let same = old index both (slot_at states index both is) in
    (ap (λ (s : PlaneState). s.crtc) same, ap (λ (s : PlaneState). s.fb) same)

pub present_agrees : (t : Topology) (w : World) (d : Duplicates) → IsPresent t w d → AgreeOn t (present_of d) (present_in w)
present_agrees t w d p = record {
  conns =
      λ index lt. conn_read d.conns (λ i. conn_state_at w.values (object_id Conn i)) index (state_at d.conns index) p.old.conns refl
      (p.whole.conns.there index lt);
  crtcs =
      λ index lt. (plane_read d.planes (λ i. plane_at w.things w.values (object_id Plane i)) index
      (state_at d.planes index) p.old.planes refl (p.whole.planes.there index lt)).0;
  fbs =
      λ index lt. (plane_read d.planes (λ i. plane_at w.things w.values (object_id Plane i)) index
      (state_at d.planes index) p.old.planes refl (p.whole.planes.there index lt)).1;
}

-- A call's request by duplicated states, and by what the caller looked up, is that in the world.
pub translated_is : (t : Topology) (w : World) (d : Duplicates) (old new : List (List ℕ)) (mode : Option Mode) (fb : Option FbInfo)
    (c : LegacyCall) → IsPresent t w d → mode ≡ mode_of_call (look_anew old new w) c → fb ≡ fb_of_call (look_anew old new w) c
    → call_request t (present_of d) mode fb c ≡ translated old new t w c
unfolding translated
translated_is t w d old new mode fb c present of_mode of_fb =
    same_request t (present_of d) (present_in w) mode fb c (present_agrees t w d present)
    ∙ (ap (λ (m : Option Mode). call_request t (present_in w) m fb c) of_mode
    ∙ ap (λ (f : Option FbInfo). call_request t (present_in w) (mode_of_call (look_anew old new w) c) f c) of_fb)
