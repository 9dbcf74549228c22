-- A commit writes the registers of an object that it touches.
use Rattle.std.proofs.Common.{◌≡◌, ℕ, ◌+◌, ◌≤◌, ◌<◌, true, [], ◌∷◌, length, get_or, Option, Some, None, ⊎_elim, refl, sym, ap}
use Rattle.std.proofs.Common.{◌∙◌, subst, arith}
use Rattle.std.specs.Prelude.{IfSome, is_some, nat_le, nat_lt}
use Rattle.std.proofs.lemmas.Bool.{and_from, false≢true, le-leb, lt-ltb, ltb-true, or_left, or_right}
use Rattle.kms_model.specs.declared.objects.Kind.{Kind}
use Rattle.kms_model.specs.declared.objects.Kind.TheVariants.{Conn, Crtc, Enc, Plane}
use Rattle.kms_model.specs.declared.objects.ObjId.{ObjId}
use Rattle.kms_model.specs.declared.objects.Topology.{Topology}
use Rattle.kms_model.specs.declared.replies.Step.TheVariants as step
use Rattle.kms_model.specs.declared.states.Both.{Both}
use Rattle.kms_model.specs.declared.states.CrtcState.{CrtcState}
use Rattle.kms_model.specs.declared.states.PlaneState.{PlaneState}
use Rattle.kms_model.specs.Device.Objects.{count_of, ids_of, index_of, is_id_of, kind_of, object_id}
use Rattle.kms_model.specs.Device.Sound.{IsPlaneInRange}
use Rattle.kms_model.specs.Device.States.{connector_on}
use Rattle.kms_model.specs.Machine.Commits.{commit_at, has_number, new_connector, new_crtc, new_plane, old_plane, old_values}
use Rattle.kms_model.specs.Machine.Commits.{new_values, registered}
use Rattle.kms_model.specs.Machine.Effects.{next, written_registers}
use Rattle.kms_model.specs.Machine.Histories.{legal}
use Rattle.kms_model.specs.Machine.Registers.{crtc_register, crtc_words, plane_register, plane_words}
use Rattle.kms_model.specs.Machine.State.{DeviceState}
use Rattle.kms_model.proofs.Guards.{IsWrite, legal_guards}
use Rattle.kms_model.proofs.Items.{IsIn, IsObject, ids-has, ids-in}
use Rattle.kms_model.proofs.StateLemmas.{sound-plane_in_range}
use Rattle.kms_model.proofs.TouchedLemmas.{HasFewObjects, few_objects}
use Rattle.kms_laws.proofs.Basics.{both_bools, in_either}
use Rattle.kms_laws.proofs.Modes.{plain-from}
use Rattle.kms_laws.proofs.Whole.{shadow_is}
use Rattle.kms_regs.specs.File.{RegisterFile, StandsForDevice}
use Rattle.kms_regs.specs.StepLaws.{WritesCrtc, WritesPlane}
use Rattle.kms_regs.proofs.MachineEffects.{old_crtc_held, old_plane_held, write_crtc_follows, write_plane_follows}
use Rattle.kms_track.specs.declared.tail.Tail.{Tail}
use Rattle.kms_track.specs.InStep.{AreStates, IsKept, IsTailOf, old_crtc}
use Rattle.kms_track.specs.Tails.{HasRegisters, connector_of, wrote_mark}
use Rattle.kms_track.specs.Tracking.{Tracking, marked, tail_of}
use Rattle.kms_track.proofs.Queries.{connector_at, crtc_is, plane_is, touched_crtc, touched_plane}
use Rattle.kms_track.proofs.StepLemmas as tracker_follows
use Rattle.kms_core.specs.Run.{Run, gains, machine}
use Rattle.kms_core.specs.Stands.{Stores, Stands}
use Rattle.kms_core.specs.Work.{HoldsCrtc, HoldsOld, HoldsPlane, IsCrtcWritten, IsPlaneWritten, IsWritten, MayWrite, write_step}
use Rattle.kms_core.proofs.stores.CommitStates.{commits_sound, shadow_crtc, facts}
use Rattle.kms_core.proofs.stores.Histories.{goes_on, written_anew}
use Rattle.kms_core.proofs.Places.{object_is}

-- What is asked

-- a write that is legal
pub record WritesNext (r : Run) (k : ℕ) (id : ObjId) : Type 0 where
  pub is_legal : legal r.script (machine r) (write_step k id) ≡ true
  pub is_object : object_id (kind_of id.0) (index_of id.0) ≡ id.0
  pub there : index_of id.0 < count_of r.script.topology (kind_of id.0)
  pub write : IsWrite r.script.topology (machine r).device k (object_id (kind_of id.0) (index_of id.0))

pub writes_next : {r : Run} {k : ℕ} {id : ObjId} → MayWrite r k id → WritesNext r k id
writes_next {r} {k} {id} asked =
    let g = legal_guards r.script (machine r) (write_step k id) asked.is_legal in
    record {
      is_legal = asked.is_legal;
      is_object = object_is id.0 asked.is_id;
      there = ltb-true (index_of id.0) (count_of r.script.topology (kind_of id.0)) g.there;
      write = g.write;
    }

-- the commit was set up, and is not cleaned
pub write_within : {r : Run} {st : Stores} {k object : ℕ} → Stands r st → IsWrite r.script.topology (machine r).device k object → k
    < length (machine r).device.commits
write_within {k} stands W = (facts stands).holds.tail.marks.claimed k W.claimed

pub write_kept : {r : Run} {st : Stores} {k object : ℕ} → Stands r st → IsWrite r.script.topology (machine r).device k object
    → has_number (machine r).device.marks.cleaned k ≡ true → ⊥
write_kept {k} {object} stands W cleaned =
    let marks = (facts stands).holds.tail.marks in
    both_bools _ ((marks.done k (marks.clean_done k cleaned)).1 object W.is_registered W.touches) W.fresh

-- An object with registers is a CRTC or a plane

has_registers_from : (t : Topology) (object : ℕ) → HasFewObjects t → IsIn object (registered t) → HasRegisters object
has_registers_from t object few is =
    ⊎_elim
    (λ (crtc : IsIn object (ids_of t Crtc)). (let o : IsObject t Crtc object = ids-in t Crtc object crtc in
    let same = o.same in
    let within = o.within in
    or_left (is_id_of Crtc object) (is_id_of Plane object)
    (and_from (nat_le 100 object) (nat_lt object 104) (le-leb 100 object (omega (arith, same)))
    (lt-ltb object 104 (omega (arith, same, within, few.crtcs))))))
    (λ (plane : IsIn object (ids_of t Plane)). (let o : IsObject t Plane object = ids-in t Plane object plane in
    let same = o.same in
    let within = o.within in
    or_right (is_id_of Crtc object) (is_id_of Plane object)
    (and_from (nat_le 200 object) (nat_lt object 216) (le-leb 200 object (omega (arith, same)))
    (lt-ltb object 216 (omega (arith, same, within, few.planes))))))
    (in_either (ids_of t Crtc) (ids_of t Plane) object is)

pub has_registers : {r : Run} {st : Stores} {k : ℕ} {id : ObjId} → Stands r st → MayWrite r k id → HasRegisters id.0
has_registers {r} {k} {id} stands asked =
    let N = writes_next asked in
    subst HasRegisters N.is_object (has_registers_from r.script.topology (object_id (kind_of id.0) (index_of id.0))
    (few_objects r.script.topology stands.formed.device) N.write.is_registered)

no_others : {t : Topology} (object : ℕ) → HasFewObjects t → 300 ≤ object → IsIn object (registered t) → ⊥
no_others {t} object few high is =
    ⊎_elim
    (λ (crtc : IsIn object (ids_of t Crtc)). (let o : IsObject t Crtc object = ids-in t Crtc object crtc in
    let same = o.same in
    let within = o.within in
    absurd (omega (arith, high, same, within, few.crtcs))))
    (λ (plane : IsIn object (ids_of t Plane)). (let o : IsObject t Plane object = ids-in t Plane object plane in
    let same = o.same in
    let within = o.within in
    absurd (omega (arith, high, same, within, few.planes))))
    (in_either (ids_of t Crtc) (ids_of t Plane) object is)

-- What is found of a commit that is there and not cleaned

-- it is kept
pub kept_as : {r : Run} {st : Stores} (k : ℕ) {o : Option Tail} → Stands r st → k < length (machine r).device.commits → o ≡ tail_of
    st.tracker k
    → IsKept r.script.topology (machine r).device.commits (machine r).device.marks (machine r).records.latches k o
kept_as {r} k {o} stands within finds =
    subst (λ o. IsKept r.script.topology (machine r).device.commits (machine r).device.marks (machine r).records.latches k o) (sym finds)
    (stands.stores.tracker.kept k within)

pub tail_there : {r : Run} {st : Stores} {k : ℕ} {id : ObjId} → Stands r st → MayWrite r k id → None ≡ tail_of st.tracker k → ⊥
tail_there {r} {st} {k} {id} stands asked finds =
    let N = writes_next asked in
    let object = object_id (kind_of id.0) (index_of id.0) in
    let within = write_within stands N.write in
    write_kept stands N.write (kept_as k stands within finds).0

-- A commit that writes an object

module _ {r : Run} {st : Stores} (k : ℕ) (x : Tail) (stands : Stands r st) (index : ℕ)
    (is : IsTailOf r.script.topology (machine r).device.commits (machine r).device.marks (machine r).records.latches k x) where
  abbrev t : Topology
  t = r.script.topology

  abbrev d : DeviceState
  d = (machine r).device

  few : HasFewObjects t
  few = few_objects t stands.formed.device

  module _ (W : IsWrite t d k (object_id Crtc index)) (there : index < count_of t Crtc) where
    crtc_low : index < 4
    crtc_low = omega (arith, there, few.crtcs)

    crtc_id_in : IsIn (object_id Crtc index) (ids_of t Crtc)
    crtc_id_in = ids-has t Crtc index there

    crtc_some : is_some (get_or x.checked.states.crtcs index None) ≡ true
    crtc_some =
        is.checked.states.crtcs index crtc_low
        (touched_crtc t d (machine r).records.latches k x stands.formed.device is index crtc_low ∙ and_from _ _
        (lt-ltb index (count_of t Crtc) there) W.touches)

    crtc_states : IfSome (get_or x.checked.states.crtcs index None)
        (AreStates (old_crtc t d.commits k (object_id Crtc index)) (new_crtc t d.commits k (object_id Crtc index)))
    crtc_states = crtc_is t d (machine r).records.latches k x stands.formed.device is index (get_or x.checked.states.crtcs index None) refl

    crtc_held : (o : Option (Both CrtcState)) → is_some o ≡ true
        → IfSome o (AreStates (old_crtc t d.commits k (object_id Crtc index)) (new_crtc t d.commits k (object_id Crtc index)))
        → HoldsCrtc st.registers index o
    crtc_held None some states = absurd (false≢true some)
    crtc_held (Some both) some states =
        let c = commit_at t d.commits k in
        let conn = connector_on (old_values c) (object_id Crtc index) (ids_of t Conn) in
        let S = commits_sound r.steps (plain-from r.script stands.formed) stands.history k
        (write_within stands W) in
        record {
          both = both;
          there = refl;
          words = old_crtc_held t d st.registers index conn both.old stands.stores.registers
              (shadow_crtc (facts stands).holds.tail k (object_id Crtc index) crtc_id_in W ∙ sym
              (S.old_words (object_id Crtc index) crtc_id_in) ∙ ap (λ (s : CrtcState). crtc_words conn s) (sym states.old_is));
        }

    pub holds_crtc : HoldsOld st.registers x Crtc index
    holds_crtc = (crtc_low, crtc_held (get_or x.checked.states.crtcs index None) crtc_some crtc_states)

    crtc_writes : (new : RegisterFile) (o : Option (Both CrtcState)) → get_or x.checked.states.crtcs index None ≡ o → is_some o ≡ true
        → IfSome o (AreStates (old_crtc t d.commits k (object_id Crtc index)) (new_crtc t d.commits k (object_id Crtc index)))
        → IsCrtcWritten st.registers new index o
        → WritesCrtc st.registers new index (new_connector t d.commits k (object_id Crtc index))
        (new_crtc t d.commits k (object_id Crtc index))
    crtc_writes new None at some states written = absurd (false≢true some)
    crtc_writes new (Some both) at some states written =
        subst (λ n. WritesCrtc st.registers new index n (new_crtc t d.commits k (object_id Crtc index)))
        (connector_at t d (machine r).records.latches k x stands.formed.device is index (Some both) at some)
        (subst (λ s. WritesCrtc st.registers new index (connector_of (Some both)) s) states.new_is (written both refl))

    pub crtc_stands : (new : RegisterFile) → IsWritten st.registers new x Crtc index
        → StandsForDevice t (next r.script (machine r) (step.Write k Crtc index)).device new
    crtc_stands new written =
        write_crtc_follows r.script (machine r) k index st.registers new crtc_low stands.stores.registers
        (crtc_writes new (get_or x.checked.states.crtcs index None) refl crtc_some crtc_states written)

  module _ (W : IsWrite t d k (object_id Plane index)) (there : index < count_of t Plane) where
    plane_low : index < 16
    plane_low = omega (arith, there, few.planes)

    plane_id_in : IsIn (object_id Plane index) (ids_of t Plane)
    plane_id_in = ids-has t Plane index there

    plane_some : is_some (get_or x.checked.states.planes index None) ≡ true
    plane_some =
        is.checked.states.planes index plane_low
        (touched_plane t d (machine r).records.latches k x stands.formed.device is index plane_low ∙ and_from _ _
        (lt-ltb index (count_of t Plane) there) W.touches)

    plane_states : IfSome (get_or x.checked.states.planes index None)
        (AreStates (old_plane t d.commits k (object_id Plane index)) (new_plane t d.commits k (object_id Plane index)))
    plane_states = plane_is t d (machine r).records.latches k x stands.formed.device is index (get_or x.checked.states.planes index None)
        refl

    old_in_range : IsPlaneInRange (old_plane t d.commits k (object_id Plane index))
    unfolding old_plane
    old_in_range =
        let S = commits_sound r.steps (plain-from r.script stands.formed) stands.history k
        (write_within stands W) in
        sound-plane_in_range t (commit_at t d.commits k).world index S.lawful.sound there

    new_in_range : IsPlaneInRange (new_plane t d.commits k (object_id Plane index))
    unfolding new_plane
    new_in_range =
        let c = commit_at t d.commits k in
        let S = commits_sound r.steps (plain-from r.script stands.formed) stands.history k
        (write_within stands W) in
        sound-plane_in_range t (record c.world { values = new_values c; commits = c.world.commits + 1 }) index S.lawful_after.sound there

    plane_held : (o : Option (Both PlaneState)) → is_some o ≡ true
        → IfSome o (AreStates (old_plane t d.commits k (object_id Plane index)) (new_plane t d.commits k (object_id Plane index)))
        → HoldsPlane st.registers index o
    plane_held None some states = absurd (false≢true some)
    plane_held (Some both) some states =
        let F = facts stands in
        let within = write_within stands W in
        record {
          both = both;
          there = refl;
          old_range = subst IsPlaneInRange (sym states.old_is) old_in_range;
          new_range = subst IsPlaneInRange (sym states.new_is) new_in_range;
          words = old_plane_held t d st.registers index both.old stands.stores.registers
              (shadow_is F.holds.tail F.whole.apart k (object_id Plane index) plane_id_in W ∙ sym
              (F.whole.apart.old_words k (object_id Plane index) within plane_id_in) ∙ ap plane_words (sym states.old_is));
        }

    pub holds_plane : HoldsOld st.registers x Plane index
    holds_plane = (plane_low, plane_held (get_or x.checked.states.planes index None) plane_some plane_states)

    plane_writes : (new : RegisterFile) (o : Option (Both PlaneState)) → is_some o ≡ true
        → IfSome o (AreStates (old_plane t d.commits k (object_id Plane index)) (new_plane t d.commits k (object_id Plane index)))
        → IsPlaneWritten st.registers new index o
        → WritesPlane st.registers new index (new_plane t d.commits k (object_id Plane index))
    plane_writes new None some states written = absurd (false≢true some)
    plane_writes new (Some both) some states written = subst (λ s. WritesPlane st.registers new index s) states.new_is (written both refl)

    pub plane_stands : (new : RegisterFile) → IsWritten st.registers new x Plane index
        → StandsForDevice t (next r.script (machine r) (step.Write k Plane index)).device new
    plane_stands new written = write_plane_follows r.script (machine r) k index st.registers new stands.stores.registers
        (plane_writes new (get_or x.checked.states.planes index None) plane_some plane_states written)

-- What the functions of one object leave

pub crtc_written : {old : RegisterFile} (new : RegisterFile) {index conn : ℕ} {o : Option (Both CrtcState)} {found : Both CrtcState} → Some
    found ≡ o → conn
    ≡ connector_of o → HoldsCrtc old index o
    → (crtc_register old.shadow (object_id Crtc index) ≡ crtc_words (crtc_register old.shadow (object_id Crtc index)).conn found.old
    → WritesCrtc old new index conn found.new) → IsCrtcWritten old new index o
crtc_written {old} new {index} {o} {found} is conn_is holds writes both there =
    let one : Some found ≡ Some both = is ∙ there in
    let same : found ≡ both = cc in
    let held : Some holds.both ≡ Some found = sym holds.there ∙ sym is in
    let at : holds.both ≡ found = cc in
    subst (λ (b : Both CrtcState). WritesCrtc old new index (connector_of o) b.new) same
    (subst (λ n. WritesCrtc old new index n found.new) conn_is
    (writes (holds.words ∙ ap (λ (b : Both CrtcState). crtc_words (crtc_register old.shadow (object_id Crtc index)).conn b.old) at)))

pub plane_written : {old : RegisterFile} (new : RegisterFile) {index : ℕ} {o : Option (Both PlaneState)} {found : Both PlaneState} → Some
    found ≡ o
    → HoldsPlane old index o
    → (plane_register old.shadow (object_id Plane index) ≡ plane_words found.old → WritesPlane old new index found.new)
    → IsPlaneWritten old new index o
plane_written {old} new {index} {found} is holds writes both there =
    let one : Some found ≡ Some both = is ∙ there in
    let same : found ≡ both = cc in
    let held : Some holds.both ≡ Some found = sym holds.there ∙ sym is in
    let at : holds.both ≡ found = cc in
    subst (λ (b : Both PlaneState). WritesPlane old new index b.new) same
    (writes (holds.words ∙ ap (λ (b : Both PlaneState). plane_words b.old) at))

-- All stores stand after the write

tail_holds : {r : Run} {st : Stores} {k : ℕ} {x : Tail} (kind : Kind) (index : ℕ) → Stands r st → index < count_of r.script.topology kind
    → IsWrite r.script.topology (machine r).device k (object_id kind index)
    → IsTailOf r.script.topology (machine r).device.commits (machine r).device.marks (machine r).records.latches k x
    → HoldsOld st.registers x kind index
tail_holds {r} {st} {k} {x} Crtc index stands there W is = holds_crtc k x stands index is W there
tail_holds {r} {st} {k} {x} Plane index stands there W is = holds_plane k x stands index is W there
tail_holds {r} Conn index stands there W is = no_others (object_id Conn index)
    (few_objects r.script.topology stands.formed.device) (omega arith) W.is_registered
tail_holds {r} Enc index stands there W is = no_others (object_id Enc index)
    (few_objects r.script.topology stands.formed.device) (omega arith) W.is_registered

registers_stand : {r : Run} {st : Stores} (k : ℕ) (x : Tail) (kind : Kind) (index : ℕ) (new : RegisterFile) → Stands r st → index
    < count_of r.script.topology kind → IsWrite r.script.topology (machine r).device k (object_id kind index)
    → IsTailOf r.script.topology (machine r).device.commits (machine r).device.marks (machine r).records.latches k x
    → IsWritten st.registers new x kind index
    → StandsForDevice r.script.topology (next r.script (machine r) (step.Write k kind index)).device new
registers_stand {r} {st} k x Crtc index new stands there W is written = crtc_stands k x stands index is W there new written
registers_stand {r} {st} k x Plane index new stands there W is written = plane_stands k x stands index is W there new written
registers_stand {r} k x Conn index new stands there W is written = absurd
    (no_others (object_id Conn index) (few_objects r.script.topology stands.formed.device) (omega arith) W.is_registered)
registers_stand {r} k x Enc index new stands there W is written = absurd
    (no_others (object_id Enc index) (few_objects r.script.topology stands.formed.device) (omega arith) W.is_registered)

-- the tail that was found is the commit's
tail_is : {r : Run} {st : Stores} {k object : ℕ} {x : Tail} → Stands r st → IsWrite r.script.topology (machine r).device k object
    → Some x ≡ tail_of st.tracker k
    → IsTailOf r.script.topology (machine r).device.commits (machine r).device.marks (machine r).records.latches k x
tail_is {r} {st} {k} {object} {x} stands W finds = (kept_as k stands (write_within stands W) finds).1

pub holds_old : {r : Run} {st : Stores} {k : ℕ} {id : ObjId} {x : Tail} → Stands r st → MayWrite r k id
    → Some x ≡ tail_of st.tracker k → HoldsOld st.registers x (kind_of id.0) (index_of id.0)
holds_old {r} {st} {k} {id} {x} stands asked finds =
    let N = writes_next asked in
    tail_holds (kind_of id.0) (index_of id.0) stands N.there N.write
    (tail_is stands N.write finds)

pub writes_object : {r last : Run} {st : Stores} {x : Tail} {new : RegisterFile} {w : Tracking} (k : ℕ) (id : ObjId)
    → Stands r st → MayWrite r k id → Some x ≡ tail_of st.tracker k → last ≡ gains r (write_step k id ∷ [])
    → IsWritten st.registers new x (kind_of id.0) (index_of id.0) → HasRegisters id.0 → w ≡ marked st.tracker k (wrote_mark id.0)
    → Stands last (record st { tracker = w; registers = new })
unfolding next
writes_object {r} {st = st} {x = x} {new = new} {w = w} k id stands asked finds more written registers after =
    let N = writes_next asked in
    let t = r.script.topology in
    let d = (machine r).device in
    let kind = kind_of id.0 in
    let index = index_of id.0 in
    let object = object_id kind index in
    let is : w ≡ marked st.tracker k (wrote_mark object) = after ∙ ap (λ o. marked st.tracker k (wrote_mark o)) (sym N.is_object) in
    goes_on (write_step k id) refl refl refl stands more N.is_legal
    (written_anew (written_registers t d k object)
    (record d.marks { written = (k, object) ∷ d.marks.written }) w new
    (registers_stand k x kind index new stands N.there N.write (tail_is stands N.write finds) written)
    (rw is (tracker_follows.write_follows r.script (machine r) k index kind (subst HasRegisters (sym N.is_object) registers) st.tracker
    N.is_legal stands.stores.tracker)) stands.stores)
