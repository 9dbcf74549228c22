-- What a set of one property makes of the new states.
use Rattle.std.proofs.Common.{◌≡◌, ◌≢◌, ℕ, ◌-◌, ◌<◌, ◌≤◌, length, set, List, Option, Some, None, ℤ, pos, negsuc, Bool, true, false, IsTrue}
use Rattle.std.proofs.Common.{is_some, slice_get, inl, inr, refl, sym, ap, ap₂, subst, subst₂, ◌∙◌, arith, if◌then◌else◌, w64, SFits, of_z}
use mathlib.Core.Path.{fun_ext}
use Rattle.std.specs.Prelude.{◌==◌, not}
use Rattle.std.specs.Ordering.{int_eq}
use Rattle.std.proofs.lemmas.Bool.{cases_eq, cases_lt, eq-eqb, ne_eqb, eqb-true, lt-leb, false≢true, ltb-true, not-true}
use Rattle.std.proofs.lemmas.Bool.Decides.{same_from_decides, Decides-eqb, Decides-int_eq, Decides-like}
use Rattle.std.proofs.lemmas.Option.{slice_get_within}
use Rattle.kms_model.specs.Device.Places.{state_at}
use Rattle.kms_model.specs.declared.objects.Gamma.{Gamma}
use Rattle.kms_model.specs.declared.objects.Kind.{Kind}
use Rattle.kms_model.specs.declared.objects.Kind.TheVariants.{Crtc, Plane, Conn, Enc}
use Rattle.kms_model.specs.declared.objects.Mode.{Mode}
use Rattle.kms_model.specs.declared.objects.Topology.{Topology}
use Rattle.kms_model.specs.declared.pictures.FbInfo.{FbInfo}
use Rattle.kms_model.specs.declared.properties.TheConstants.{FB_ID, CRTC_ID, ALPHA, BLEND, ZPOS, ACTIVE, MODE_ID, GAMMA_LUT}
use Rattle.kms_model.specs.declared.sets.Set.{Set}
use Rattle.kms_model.specs.declared.sets.SetValue.{SetValue}
use Rattle.kms_model.specs.declared.sets.SetValue.TheVariants as to
use Rattle.kms_model.specs.declared.states.Both.{Both}
use Rattle.kms_model.specs.declared.states.ConnState.{ConnState}
use Rattle.kms_model.specs.declared.states.CrtcState.{CrtcState}
use Rattle.kms_model.specs.declared.states.Duplicates.{Duplicates}
use Rattle.kms_model.specs.declared.states.PlaneState.{PlaneState}
use Rattle.kms_model.specs.declared.worlds.Setting.{Setting}
use Rattle.kms_model.specs.declared.worlds.Thing.{Thing}
use Rattle.kms_model.specs.Device.Objects.{first_id, object_id, count_of, exists, kind_of}
use Rattle.kms_model.specs.Device.World.{put, thing_numbered, value}
use Rattle.kms_model.specs.Device.States.{crtc_at, framebuffer_of, gamma_of, mode_of, natural, plane_at, plane_from}
use Rattle.kms_model.specs.Request.Apply.{is_kept}
use Rattle.kms_model.specs.Request.SetRanges.{may_set}
use Rattle.kms_model.specs.Request.Agreement.{AgreesNew, AreNew, StandsFor, conn_state_at, crtc_state_at}
use Rattle.kms_model.proofs.SetLemmas.{may_set-takes, takes}
use Rattle.kms_model.proofs.ValueLemmas.{Puts, Puts-put}
use Rattle.kms_state.specs.Places.{is_duplicated, is_duplicated_of, state_of, old_states}
use Rattle.kms_state.specs.Changes.{HasObject, IsSet, Sets, after_crtc, changed, after_number, after_value, new_number}
use Rattle.kms_state.specs.Changes.{plane_after_set, rerouted}
use Rattle.kms_state.specs.Changes.{set_to, with_new}
use Rattle.kms_state.proofs.Frames.{conn_state_at-other, crtc_at-kept, crtc_state_at-other, on_crtc-same, plane_at-other, same_crtc_state}
use Rattle.kms_model.proofs.KindsOfIds.{has_kind, kind-conn, kind-crtc, kind-plane}
use Rattle.kms_state.proofs.Routes.{AreNew-rerouted, IsRouted}
use Rattle.kms_state.proofs.Slots.{AreNew-same, AreNew-set, changed-at, olds-rerouted, olds-set, slot_at, state_of-at}

-- An object of a kind is duplicated at the place of its id.
pub record IsAt {S : Type 0} (kind : Kind) (states : List (Option (Both S))) (id : ℕ) (both : Both S) : Type 0 where
  pub from : first_id kind ≤ id
  pub at : slice_get states (id - first_id kind) ≡ Some (Some both)

-- what a search by id finds is there
pub is_at : {S : Type 0} {kind : Kind} {states : List (Option (Both S))} {id : ℕ} {both : Both S}
    → IsTrue (is_some (state_of kind states id)) → Some both ≡ state_at states (id - first_id kind) → IsAt kind states id both
is_at {kind = kind} {states} {id} {both} there is = record {
  from = elim (cases_lt id (first_id kind)) [
    | inl below ↦ (let none : is_some (state_of kind states id)
        ≡ false = ap (λ b. is_some (if b then state_at states (id - first_id kind) else None)) (lt-leb (first_id kind) id below) in
        absurd (false≢true (sym none ∙ there)))
    | inr from ↦ from
  ];
  at = slot_at states (id - first_id kind) both (sym is);
}

-- a set of a property that is kept
pub set_is : (d : Duplicates) {after : Duplicates} (id prop : ℕ) (value : SetValue) → is_kept prop ≡ true → after ≡ after_value d id prop
    value
    → old_states after ≡ old_states d
    → ((t : Topology) (things : List Thing) (values : List Setting) (number : ℤ) → HasObject t id → AgreesNew t things values d
    → StandsFor things value number → AgreesNew t things (put values id prop number) after)
    → IsSet d (set_to id prop value) after
set_is d id prop value kept states old new = record {
  states = states;
  new = λ t things values number room agrees stands. rw kept (new t things values number room agrees stands);
  old = old;
}

-- a number of a plane, or its framebuffer
pub sets_plane : {d : Duplicates} {id : ℕ} {both : Both PlaneState} (prop : ℕ) (value : SetValue) (f : PlaneState → PlaneState)
    → IsAt Plane d.planes id both → length d.crtcs ≡ 4
    → record d { planes = changed Plane d.planes id f } ≡ after_value d id prop value → is_kept prop ≡ true → prop ≢ CRTC_ID
    → ((things : List Thing) (before after : List Setting) (number : ℤ) → StandsFor things value number → Puts before after id prop number
    → f (plane_at things before id) ≡ plane_at things after id)
    → IsSet d (set_to id prop value) (record d { planes = set d.planes (id - first_id Plane) (Some (with_new f both)) })
sets_plane {d} {id} {both} prop value f there few states kept apart changes =
    let index : ℕ = id - first_id Plane in
    let is : id ≡ object_id Plane index = omega (arith, there.from) in
    set_is d id prop value kept
    (ap (λ xs. record d { planes = xs }) (sym (changed-at Plane d.planes id both f there.from there.at)) ∙ states)
    (ap (λ xs. record { crtcs = (old_states d).crtcs; planes = xs; conns = (old_states d).conns })
    (olds-set d.planes index both (with_new f both) there.at refl))
    (λ t things values number room agrees stands.
    let after : List Setting = put values id prop number in
    let puts : Puts values after id prop number = Puts-put values id prop number in
    record {
      crtcs = AreNew-same (λ c. crtc_state_at t things values (object_id Crtc c)) (λ c. crtc_state_at t things after (object_id Crtc c))
          d.crtcs agrees.crtcs
          (λ c h. crtc_state_at-other t things (object_id Crtc c) puts
          (λ e. omega (arith, e, few, h, there.from)) apart);
      planes = AreNew-set (λ i. plane_at things values (object_id Plane i)) (λ i. plane_at things after (object_id Plane i)) d.planes
          index (with_new f both) agrees.planes
          (λ k h ne. plane_at-other things (object_id Plane k) puts (λ e. ne (omega (arith, e))))
          (ap f (agrees.planes index both there.at ∙ ap (plane_at things values) (sym is))
          ∙ changes things values after number stands puts ∙ ap (plane_at things after) is);
      conns = AreNew-same (λ i. conn_state_at values (object_id Conn i)) (λ i. conn_state_at after (object_id Conn i)) d.conns agrees.conns
          (λ i h. ap (λ crtc. record { crtc = crtc }) (crtc_at-kept (object_id Conn i) puts apart));
    })

-- ACTIVE, MODE_ID or GAMMA_LUT of a CRTC
pub sets_crtc : {d : Duplicates} {id : ℕ} {both : Both CrtcState} (prop : ℕ) (value : SetValue) (f : CrtcState → CrtcState)
    → IsAt Crtc d.crtcs id both → length d.crtcs ≡ 4
    → record d { crtcs = changed Crtc d.crtcs id f } ≡ after_value d id prop value → is_kept prop ≡ true → prop ≢ CRTC_ID
    → ((t : Topology) (things : List Thing) (before after : List Setting) (number : ℤ) → StandsFor things value number
    → Puts before after id prop number → f (crtc_state_at t things before id) ≡ crtc_state_at t things after id)
    → IsSet d (set_to id prop value) (record d { crtcs = set d.crtcs (id - first_id Crtc) (Some (with_new f both)) })
sets_crtc {d} {id} {both} prop value f there few states kept apart changes =
    let index : ℕ = id - first_id Crtc in
    let is : id ≡ object_id Crtc index = omega (arith, there.from) in
    let within : index < length d.crtcs = slice_get_within d.crtcs index (Some both) there.at in
    set_is d id prop value kept
    (ap (λ xs. record d { crtcs = xs }) (sym (changed-at Crtc d.crtcs id both f there.from there.at)) ∙ states)
    (ap (λ xs. record { crtcs = xs; planes = (old_states d).planes; conns = (old_states d).conns })
    (olds-set d.crtcs index both (with_new f both) there.at refl))
    (λ t things values number room agrees stands.
    let after : List Setting = put values id prop number in
    let puts : Puts values after id prop number = Puts-put values id prop number in
    record {
      crtcs = AreNew-set (λ c. crtc_state_at t things values (object_id Crtc c)) (λ c. crtc_state_at t things after (object_id Crtc c))
          d.crtcs index (with_new f both) agrees.crtcs
          (λ c h ne. crtc_state_at-other t things (object_id Crtc c) puts (λ e. ne (omega (arith, e))) apart)
          (ap f (agrees.crtcs index both there.at ∙ ap (crtc_state_at t things values) (sym is))
          ∙ changes t things values after number stands puts ∙ ap (crtc_state_at t things after) is);
      planes = AreNew-same (λ i. plane_at things values (object_id Plane i)) (λ i. plane_at things after (object_id Plane i)) d.planes
          agrees.planes
          (λ k h. plane_at-other things (object_id Plane k) puts (λ e. omega (arith, e, within, few)));
      conns = AreNew-same (λ i. conn_state_at values (object_id Conn i)) (λ i. conn_state_at after (object_id Conn i)) d.conns agrees.conns
          (λ i h. ap (λ crtc. record { crtc = crtc }) (crtc_at-kept (object_id Conn i) puts apart));
    })

-- Each property's value after a set.
pub value_after : {before after : List Setting} {object prop : ℕ} (q : ℕ) {number : ℤ} → Puts before after object prop number
    → value after object q ≡ (if prop == q then number else value before object q)
value_after {before} {after} {object} {prop} q {number} puts =
    elim (cases_eq prop q) [
      | inl same ↦ ap (value after object) (sym same) ∙ puts.at ∙ sym
          (ap (λ b. if b then number else value before object q) (eq-eqb prop q same))
      | inr other ↦ puts.other_prop q (λ e. other (sym e)) ∙ sym
          (ap (λ b. if b then number else value before object q) (ne_eqb prop q other))
    ]

pub plane_after : (things : List Thing) {before after : List Setting} {object prop : ℕ} {number : ℤ} → Puts before after object prop number
    → plane_at things after object ≡ plane_from (λ q. if prop == q then number else value before object q) things
plane_after things {before} {after} {object} {prop} {number} puts = ap (λ v. plane_from v things)
    (fun_ext (λ q. value_after q puts))

natural_if : (b : Bool) (x y : ℤ) → natural (if b then x else y) ≡ (if b then natural x else natural y)
natural_if true x y = refl
natural_if false x y = refl

-- a plane's state after one of its numbers is set
pub number_plane : (things : List Thing) {before after : List Setting} {object prop : ℕ} {n : ℤ} → Puts before after object prop n
    → prop ≢ FB_ID → prop ≢ CRTC_ID
    → plane_after_set prop n (plane_at things before object) ≡ plane_at things after object
number_plane things {before} {after} {object} {prop} {n} puts other_fb other_crtc =
    let v : ℕ → ℤ = value before object in
    sym (plane_after things puts
    ∙ rw (
      ne_eqb prop FB_ID other_fb,
      ne_eqb prop CRTC_ID other_crtc,
      natural_if (prop == ALPHA) n (v ALPHA),
      natural_if (prop == BLEND) n (v BLEND),
      natural_if (prop == ZPOS) n (v ZPOS),
    ) refl)

pub fb_plane : (things : List Thing) {before after : List Setting} {object : ℕ} {fb : Option FbInfo} {number : ℤ}
    → Puts before after object FB_ID number → framebuffer_of (thing_numbered things number) ≡ fb
    → record (plane_at things before object) { fb = fb } ≡ plane_at things after object
fb_plane things {before} {after} {object} {fb} {number} puts stands =
    sym (plane_after things puts ∙ ap (λ x. record (plane_at things before object) { fb = x }) stands)

pub crtc_plane : (things : List Thing) {before after : List Setting} {object : ℕ} (crtc : ℕ) {number : ℤ}
    → Puts before after object CRTC_ID number → number ≡ pos crtc
    → record (plane_at things before object) { crtc = crtc } ≡ plane_at things after object
crtc_plane things {before} {after} {object} crtc {number} puts stands =
    sym (plane_after things puts ∙ ap (λ x. record (plane_at things before object) { crtc = natural x })
    stands)

-- an object that a device has, by its kind
there_by_kind : {t : Topology} {id : ℕ} {kind : Kind} → kind_of id ≡ kind → HasObject t id → id - first_id kind < count_of t kind
there_by_kind {t} {id} {kind} is room = ltb-true (id - first_id kind) (count_of t kind)
    (subst (λ k. exists t k (id - first_id k) ≡ true) is room.there)

-- the CRTCs after CRTC_ID of a plane or a connector is set
moves_crtcs : (t : Topology) (things : List Thing) (before after : List Setting) (kind : Kind) (index from target : ℕ) (number : ℤ)
    (crtcs : List (Option (Both CrtcState)))
    → IsRouted kind → length t.planes ≤ 16 → index < count_of t kind → count_of t kind ≤ 16 → length crtcs ≡ 4
    → Puts before after (object_id kind index) CRTC_ID number → number ≡ pos target → from ≡ crtc_at before (object_id kind index)
    → AreNew (λ c. crtc_state_at t things before (object_id Crtc c)) crtcs
    → AreNew (λ c. crtc_state_at t things after (object_id Crtc c)) (rerouted crtcs kind index from target)
moves_crtcs t things before after kind index from target number crtcs routed planes low room few puts stands was agrees =
    let goes : crtc_at after (object_id kind index) ≡ target = ap natural (puts.at ∙ stands) in
    subst₂ (λ f g. AreNew (λ c. crtc_state_at t things after (object_id Crtc c)) (rerouted crtcs kind index f g)) (sym was) goes
    (AreNew-rerouted t things before after kind index CRTC_ID number crtcs routed planes low room (omega arith) puts agrees)

-- the states after a plane goes to a CRTC, where it is duplicated at its place
plane_moved : (d : Duplicates) (id target : ℕ) (both : Both PlaneState) → IsAt Plane d.planes id both → kind_of id ≡ Plane
    → after_value d id CRTC_ID (to.Crtc target) ≡ record d {
      planes = set d.planes (id - first_id Plane) (Some (record both { new = record both.new { crtc = target } }));
      crtcs = rerouted d.crtcs Plane (id - first_id Plane) both.new.crtc target;
    }
plane_moved d id target both there kind =
    ap (λ k. after_crtc k d id target) kind
    ∙ ap₂ (λ xs from. record d { planes = xs; crtcs = rerouted d.crtcs Plane (id - first_id Plane) from target })
    (changed-at Plane d.planes id both (λ s. record s { crtc = target }) there.from there.at)
    (ap (new_number (λ (s : PlaneState). s.crtc)) (state_of-at Plane d.planes id both there.from there.at))

-- the same of a connector
conn_moved : (d : Duplicates) (id target : ℕ) (both : Both ConnState) → IsAt Conn d.conns id both → kind_of id ≡ Conn
    → after_value d id CRTC_ID (to.Crtc target) ≡ record d {
      conns = set d.conns (id - first_id Conn) (Some (record both { new = record both.new { crtc = target } }));
      crtcs = rerouted d.crtcs Conn (id - first_id Conn) both.new.crtc target;
    }
conn_moved d id target both there kind =
    ap (λ k. after_crtc k d id target) kind
    ∙ ap₂ (λ xs from. record d { conns = xs; crtcs = rerouted d.crtcs Conn (id - first_id Conn) from target })
    (changed-at Conn d.conns id both (λ s. record s { crtc = target }) there.from there.at)
    (ap (new_number (λ (s : ConnState). s.crtc)) (state_of-at Conn d.conns id both there.from there.at))

-- CRTC_ID of a plane
pub moves_plane : (d : Duplicates) (id target : ℕ) (both : Both PlaneState) → IsAt Plane d.planes id both → length d.crtcs ≡ 4
    → length d.planes ≡ 16
    → IsSet d (set_to id CRTC_ID (to.Crtc target)) (record d {
      planes = set d.planes (id - first_id Plane) (Some (record both { new = record both.new { crtc = target } }));
      crtcs = rerouted d.crtcs Plane (id - first_id Plane) both.new.crtc target;
    })
moves_plane d id target both there few many =
    let index : ℕ = id - first_id Plane in
    let is : id ≡ object_id Plane index = omega (arith, there.from) in
    let within : index < length d.planes = slice_get_within d.planes index (Some both) there.at in
    let kind : kind_of id ≡ Plane = kind-plane id there.from (omega arith) in
    let other : Both PlaneState = record both { new = record both.new { crtc = target } } in
    set_is d id CRTC_ID
    (to.Crtc target) refl
    (sym (plane_moved d id target both there kind))
    (ap₂ (λ xs ys. record { crtcs = xs; planes = ys; conns = (old_states d).conns })
    (olds-rerouted d.crtcs Plane index both.new.crtc target) (olds-set d.planes index both other there.at refl))
    (λ t things values number room agrees stands.
    let after : List Setting = put values id CRTC_ID number in
    let puts : Puts values after id CRTC_ID number = Puts-put values id CRTC_ID number in
    let puts_at : Puts values after (object_id Plane index) CRTC_ID number = subst (λ o. Puts values after o CRTC_ID number) is puts in
    let was : both.new ≡ plane_at things values (object_id Plane index) = agrees.planes index both there.at in
    let new : record both.new { crtc = target } ≡ plane_at things after (object_id Plane index) = ap
    (λ (s : PlaneState). record s { crtc = target }) was ∙ crtc_plane things target puts_at
    stands in
    record {
      crtcs = moves_crtcs t things values after Plane index both.new.crtc target number d.crtcs tt room.planes
          (there_by_kind kind room) room.planes few puts_at stands (ap (λ s. s.crtc) was) agrees.crtcs;
      planes = AreNew-set (λ i. plane_at things values (object_id Plane i)) (λ i. plane_at things after (object_id Plane i)) d.planes index
          other agrees.planes
          (λ k h ne. plane_at-other things (object_id Plane k) puts (λ e. ne (omega (arith, e)))) new;
      conns = AreNew-same (λ i. conn_state_at values (object_id Conn i)) (λ i. conn_state_at after (object_id Conn i)) d.conns agrees.conns
          (λ i h. conn_state_at-other (object_id Conn i) puts (λ e. omega (arith, e, within, many)));
    })

-- CRTC_ID of a connector
pub moves_conn : (d : Duplicates) (id target : ℕ) (both : Both ConnState) → IsAt Conn d.conns id both → length d.crtcs ≡ 4 → length d.planes
    ≡ 16 → length d.conns ≡ 8
    → IsSet d (set_to id CRTC_ID (to.Crtc target)) (record d {
      conns = set d.conns (id - first_id Conn) (Some (record both { new = record both.new { crtc = target } }));
      crtcs = rerouted d.crtcs Conn (id - first_id Conn) both.new.crtc target;
    })
moves_conn d id target both there few most many =
    let index : ℕ = id - first_id Conn in
    let is : id ≡ object_id Conn index = omega (arith, there.from) in
    let within : index < length d.conns = slice_get_within d.conns index (Some both) there.at in
    let kind : kind_of id ≡ Conn = kind-conn id there.from (omega arith) in
    let other : Both ConnState = record both { new = record both.new { crtc = target } } in
    set_is d id CRTC_ID
    (to.Crtc target) refl
    (sym (conn_moved d id target both there kind))
    (ap₂ (λ xs ys. record { crtcs = xs; planes = (old_states d).planes; conns = ys })
    (olds-rerouted d.crtcs Conn index both.new.crtc target) (olds-set d.conns index both other there.at refl))
    (λ t things values number room agrees stands.
    let after : List Setting = put values id CRTC_ID number in
    let puts : Puts values after id CRTC_ID number = Puts-put values id CRTC_ID number in
    let puts_at : Puts values after (object_id Conn index) CRTC_ID number = subst (λ o. Puts values after o CRTC_ID number) is puts in
    let was : both.new ≡ conn_state_at values (object_id Conn index) = agrees.conns index both there.at in
    record {
      crtcs = moves_crtcs t things values after Conn index both.new.crtc target number d.crtcs tt room.planes
          (there_by_kind kind room) (omega (arith, room.conns)) few puts_at stands (ap (λ s. s.crtc) was) agrees.crtcs;
      planes = AreNew-same (λ i. plane_at things values (object_id Plane i)) (λ i. plane_at things after (object_id Plane i)) d.planes
          agrees.planes
          (λ k h. plane_at-other things (object_id Plane k) puts
          (λ e. omega (arith, e, h, most, there.from)));
      conns = AreNew-set (λ i. conn_state_at values (object_id Conn i)) (λ i. conn_state_at after (object_id Conn i)) d.conns index other
          agrees.conns
          (λ k h ne. conn_state_at-other (object_id Conn k) puts (λ e. ne (omega (arith, e))))
          (ap (λ c. record { crtc = c }) (sym (ap natural (puts_at.at ∙ stands))));
    })

-- the bits of a number are 0 where it is 0
pub is_zero : (z : ℤ) → SFits w64 z → (of_z w64 z == 0) ≡ int_eq z (pos 0)
is_zero z fits = same_from_decides (of_z w64 z == 0) (int_eq z (pos 0))
    (Decides-like (of_z w64 z == 0) (zero_of z fits) (λ e. ap (of_z w64) e) (Decides-eqb (of_z w64 z) 0)) (Decides-int_eq z (pos 0)) where
      zero_of : (z : ℤ) → SFits w64 z → of_z w64 z ≡ 0 → z ≡ pos 0
      zero_of (pos n) fits e = ap pos e
      zero_of (negsuc n) fits e = absurd (omega (arith, fits.sfits, e))

-- A CRTC's state after one of its own properties is set: what planes and connectors are on it stays.
crtc_with : (t : Topology) (things : List Thing) {before after : List Setting} {object prop : ℕ} {number : ℤ} (new : CrtcState)
    → Puts before after object prop number → prop ≢ CRTC_ID
    → not (int_eq (value after object ACTIVE) (pos 0)) ≡ new.active → mode_of (thing_numbered things (value after object MODE_ID)) ≡
    new.mode
    → gamma_of (thing_numbered things (value after object GAMMA_LUT)) ≡ new.gamma
    → record (crtc_state_at t things before object) { active = new.active; mode = new.mode; gamma = new.gamma }
    ≡ crtc_state_at t things after object
crtc_with t things {before} {after} {object} {prop} {number} new puts apart active mode gamma =
    sym (same_crtc_state (crtc_state_at t things after object)
    (record (crtc_state_at t things before object) { active = new.active; mode = new.mode; gamma = new.gamma }) active mode gamma
    (on_crtc-same t before after object Plane (λ k within. crtc_at-kept (object_id Plane k) puts apart))
    (on_crtc-same t before after object Conn (λ k within. crtc_at-kept (object_id Conn k) puts apart)))

-- ACTIVE of a CRTC
pub active_crtc : (t : Topology) (things : List Thing) (before after : List Setting) (object : ℕ) (n number : ℤ) → SFits w64 n
    → number ≡ n → Puts before after object ACTIVE number
    → record (crtc_state_at t things before object) { active = not (of_z w64 n == 0) } ≡ crtc_state_at t things after object
active_crtc t things before after object n number fits stands puts =
    crtc_with t things (record (crtc_state_at t things before object) { active = not (of_z w64 n == 0) })
    puts (λ e. omega (arith, e)) (ap (λ z. not (int_eq z (pos 0))) (puts.at ∙ stands) ∙ ap not (sym (is_zero n fits)))
    (ap (λ z. mode_of (thing_numbered things z)) (puts.other_prop MODE_ID (λ e. omega (arith, e))))
    (ap (λ z. gamma_of (thing_numbered things z)) (puts.other_prop GAMMA_LUT (λ e. omega (arith, e))))

-- MODE_ID of a CRTC
pub mode_crtc : (t : Topology) (things : List Thing) (before after : List Setting) (object : ℕ) (mode : Option Mode) (number : ℤ)
    → mode_of (thing_numbered things number) ≡ mode → Puts before after object MODE_ID number
    → record (crtc_state_at t things before object) { mode = mode } ≡ crtc_state_at t things after object
mode_crtc t things before after object mode number stands puts =
    crtc_with t things (record (crtc_state_at t things before object) { mode = mode })
    puts (λ e. omega (arith, e)) (ap (λ z. not (int_eq z (pos 0))) (puts.other_prop ACTIVE (λ e. omega (arith, e))))
    (ap (λ z. mode_of (thing_numbered things z)) puts.at ∙ stands)
    (ap (λ z. gamma_of (thing_numbered things z)) (puts.other_prop GAMMA_LUT (λ e. omega (arith, e))))

-- GAMMA_LUT of a CRTC
pub gamma_crtc : (t : Topology) (things : List Thing) (before after : List Setting) (object : ℕ) (gamma : Option Gamma) (number : ℤ)
    → gamma_of (thing_numbered things number) ≡ gamma → Puts before after object GAMMA_LUT number
    → record (crtc_state_at t things before object) { gamma = gamma } ≡ crtc_state_at t things after object
gamma_crtc t things before after object gamma number stands puts =
    crtc_with t things (record (crtc_state_at t things before object) { gamma = gamma })
    puts (λ e. omega (arith, e)) (ap (λ z. not (int_eq z (pos 0))) (puts.other_prop ACTIVE (λ e. omega (arith, e))))
    (ap (λ z. mode_of (thing_numbered things z)) (puts.other_prop MODE_ID (λ e. omega (arith, e))))
    (ap (λ z. gamma_of (thing_numbered things z)) puts.at ∙ stands)

-- a set of one property, as a set
pub as_set : {d after : Duplicates} {s : Set} {prop : ℕ} {value : SetValue} → s.prop ≡ prop → s.value ≡ value
    → IsSet d (set_to s.object.0 prop value) after → IsSet d s after
as_set {d} {after} {s} same_prop same_value is = subst₂ (λ p v. IsSet d (record { object = s.object; prop = p; value = v }) after)
    (sym same_prop) (sym same_value) is

-- the states after ACTIVE of a CRTC is set
pub active_after : (d : Duplicates) {id : ℕ} (n : ℤ) {both : Both CrtcState} → IsAt Crtc d.crtcs id both → length d.crtcs ≡ 4 → SFits w64 n
    → record d { crtcs = changed Crtc d.crtcs id (λ s. record s { active = not (of_z w64 n == 0) }) } ≡ after_value d id ACTIVE (to.Num n)
active_after d {id} n {both} there few fits =
    let within : id - first_id Crtc < length d.crtcs = slice_get_within d.crtcs (id - first_id Crtc) (Some both) there.at in
    sym (ap (λ k. after_number k d id ACTIVE n) (kind-crtc id (omega (arith, within, few)))
    ∙ ap (λ b. record d { crtcs = changed Crtc d.crtcs id (λ s. record s { active = not b }) }) (sym (is_zero n fits)))

-- and after a number of a plane is set
pub number_after : (d : Duplicates) (id prop : ℕ) (n : ℤ) (both : Both PlaneState) → IsAt Plane d.planes id both
    → length d.planes ≡ 16
    → record d { planes = changed Plane d.planes id (plane_after_set prop n) } ≡ after_value d id prop (to.Num n)
number_after d id prop n both there many =
    let within : id - first_id Plane < length d.planes = slice_get_within d.planes (id - first_id Plane) (Some both) there.at in
    sym (ap (λ k. after_number k d id prop n) (kind-plane id there.from (omega (arith, within, many))))

-- a set of a fence
pub sets_nothing : (d : Duplicates) (s : Set) → is_kept s.prop ≡ false → Sets d s d
sets_nothing d s kept t things values number room agrees stands = rw kept agrees

-- A set that may be made, with what it is set to.
pub record MaySet (d : Duplicates) (s : Set) (value : SetValue) : Type 0 where
  pub there : is_duplicated d s.object.0 ≡ true
  pub takes : takes (kind_of s.object.0) s.prop value ≡ true

pub made : (d : Duplicates) (s : Set) {value : SetValue} → is_duplicated d s.object.0 ≡ true
    → may_set (kind_of s.object.0) s.prop s.value ≡ true → s.value ≡ value → MaySet d s value
made d s {value} there may is = record {
  there = there;
  takes = may_set-takes (kind_of s.object.0) s.prop value (subst (λ v. may_set (kind_of s.object.0) s.prop v ≡ true) is may);
}

-- what is set is of one kind, and of one property
of_kind : {d : Duplicates} {s : Set} {value : SetValue} (kind : Kind) (prop : ℕ) → MaySet d s value
    → (kind_of s.object.0 ≡ kind) × (s.prop ≡ prop) → (is_duplicated_of kind d s.object.0 ≡ true) × (s.prop ≡ prop)
of_kind {d} {s} kind prop may is = (subst (λ k. is_duplicated_of k d s.object.0 ≡ true) is.0 may.there, is.1)

fb_kind : (kind : Kind) (prop : ℕ) (fb : Option FbInfo) → takes kind prop (to.Fb fb) ≡ true → (kind ≡ Plane) × (prop ≡ FB_ID)
fb_kind Plane prop fb h = (refl, eqb-true prop FB_ID h)
fb_kind other prop fb h = absurd (false≢true h)

mode_kind : (kind : Kind) (prop : ℕ) (mode : Option Mode) → takes kind prop (to.Mode mode) ≡ true → (kind ≡ Crtc) × (prop ≡ MODE_ID)
mode_kind Crtc prop mode h = (refl, eqb-true prop MODE_ID h)
mode_kind other prop mode h = absurd (false≢true h)

gamma_kind : (kind : Kind) (prop : ℕ) (gamma : Option Gamma) → takes kind prop (to.Gamma gamma) ≡ true → (kind ≡ Crtc) × (prop ≡ GAMMA_LUT)
gamma_kind Crtc prop gamma h = (refl, eqb-true prop GAMMA_LUT h)
gamma_kind other prop gamma h = absurd (false≢true h)

-- a set of FB_ID is one of a plane
pub fb_set : {d : Duplicates} {s : Set} {fb : Option FbInfo} → MaySet d s (to.Fb fb)
    → (is_some (state_of Plane d.planes s.object.0) ≡ true) × (s.prop ≡ FB_ID)
fb_set {s = s} {fb} may = of_kind Plane FB_ID may (fb_kind (kind_of s.object.0) s.prop fb may.takes)

-- a set of MODE_ID is one of a CRTC
pub mode_set : {d : Duplicates} {s : Set} {mode : Option Mode} → MaySet d s (to.Mode mode)
    → (is_some (state_of Crtc d.crtcs s.object.0) ≡ true) × (s.prop ≡ MODE_ID)
mode_set {s = s} {mode} may = of_kind Crtc MODE_ID may (mode_kind (kind_of s.object.0) s.prop mode may.takes)

-- a set of GAMMA_LUT is one of a CRTC
pub gamma_set : {d : Duplicates} {s : Set} {gamma : Option Gamma} → MaySet d s (to.Gamma gamma)
    → (is_some (state_of Crtc d.crtcs s.object.0) ≡ true) × (s.prop ≡ GAMMA_LUT)
gamma_set {s = s} {gamma} may = of_kind Crtc GAMMA_LUT may (gamma_kind (kind_of s.object.0) s.prop gamma may.takes)

-- a set of a number of a CRTC is one of ACTIVE
pub active_set : {d : Duplicates} {s : Set} {n : ℤ} → MaySet d s (to.Num n) → s.object.0 < 200
    → (is_some (state_of Crtc d.crtcs s.object.0) ≡ true) × (s.prop ≡ ACTIVE)
active_set {s = s} {n} may below =
    let kind : kind_of s.object.0 ≡ Crtc = kind-crtc s.object.0 below in
    of_kind Crtc ACTIVE may (kind, eqb-true s.prop ACTIVE (subst (λ k. takes k s.prop (to.Num n) ≡ true) kind may.takes))

number_kind : (kind : Kind) (id prop : ℕ) (n : ℤ) → kind_of id ≡ kind → 200 ≤ id → takes kind prop (to.Num n) ≡ true → kind ≡ Plane
number_kind Crtc id prop n is from h = absurd (let below : id < 200 = has_kind Crtc id is in omega arith)
number_kind Plane id prop n is from h = refl
number_kind other id prop n is from h = absurd (false≢true h)

-- any other set of a number is one of a plane
pub number_set : {d : Duplicates} {s : Set} {n : ℤ} → MaySet d s (to.Num n) → 200 ≤ s.object.0 → (kind_of s.object.0 ≡ Plane)
    × (is_some (state_of Plane d.planes s.object.0) ≡ true)
number_set {s = s} {n} may from =
    let kind : kind_of s.object.0 ≡ Plane = number_kind (kind_of s.object.0) s.object.0 s.prop n refl from may.takes in
    (kind, (of_kind Plane s.prop may (kind, refl)).0)

plane_kind : (kind : Kind) (id prop crtc : ℕ) → kind_of id ≡ kind → id < 300 → takes kind prop (to.Crtc crtc) ≡ true → (kind ≡ Plane)
    × (prop ≡ CRTC_ID)
plane_kind Plane id prop crtc is below h = (refl, eqb-true prop CRTC_ID h)
plane_kind Conn id prop crtc is below h = absurd (let range : (300 ≤ id) × (id < 400) = has_kind Conn id is in omega (arith, range.0))
plane_kind other id prop crtc is below h = absurd (false≢true h)

conn_kind : (kind : Kind) (id prop crtc : ℕ) → kind_of id ≡ kind → 300 ≤ id → takes kind prop (to.Crtc crtc) ≡ true → (kind ≡ Conn)
    × (prop ≡ CRTC_ID)
conn_kind Plane id prop crtc is from h = absurd (let range : (200 ≤ id) × (id < 300) = has_kind Plane id is in omega (arith, range.1))
conn_kind Conn id prop crtc is from h = (refl, eqb-true prop CRTC_ID h)
conn_kind other id prop crtc is from h = absurd (false≢true h)

-- a set of CRTC_ID is one of a plane or of a connector
pub plane_move : {d : Duplicates} {s : Set} {crtc : ℕ} → MaySet d s (to.Crtc crtc) → s.object.0 < 300
    → (is_some (state_of Plane d.planes s.object.0) ≡ true) × (s.prop ≡ CRTC_ID)
plane_move {s = s} {crtc} may below =
    of_kind Plane CRTC_ID may (plane_kind (kind_of s.object.0) s.object.0 s.prop crtc refl below may.takes)

pub conn_move : {d : Duplicates} {s : Set} {crtc : ℕ} → MaySet d s (to.Crtc crtc) → 300 ≤ s.object.0
    → (is_some (state_of Conn d.conns s.object.0) ≡ true) × (s.prop ≡ CRTC_ID)
conn_move {s = s} {crtc} may from =
    of_kind Conn CRTC_ID may (conn_kind (kind_of s.object.0) s.object.0 s.prop crtc refl from may.takes)

fence_kind : (kind : Kind) (prop : ℕ) → takes kind prop to.Fence ≡ true → is_kept prop ≡ false
fence_kind Crtc prop h = not-true (is_kept prop) h
fence_kind Plane prop h = not-true (is_kept prop) h
fence_kind Conn prop h = not-true (is_kept prop) h
fence_kind Enc prop h = not-true (is_kept prop) h

-- a set of a fence is of no property that is kept
pub fence_set : {d : Duplicates} {s : Set} → MaySet d s to.Fence → s.value ≡ to.Fence → IsSet d s d
fence_set {d} {s} may is = record {
  states = ap (after_value d s.object.0 s.prop) (sym is);
  new = sets_nothing d s (fence_kind (kind_of s.object.0) s.prop may.takes);
  old = refl;
}
