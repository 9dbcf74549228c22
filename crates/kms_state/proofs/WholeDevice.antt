-- Sets in states of a whole device.
use Rattle.std.proofs.Common.{◌≡◌, ◌∙◌, ℕ, ◌-◌, ◌<◌, true, List, Option, arith, sym, ap}
use Rattle.std.specs.Prelude.{nat_le, is_some}
use Rattle.std.proofs.lemmas.Bool.{ltb-true}
use Rattle.std.proofs.lemmas.Bool.Decides.{nat_tests}
use Rattle.kms_model.specs.Device.Objects.{count_of, exists, first_id, kind_of, object_id}
use Rattle.kms_model.specs.Device.Places.{state_at}
use Rattle.kms_model.specs.Device.Sound.{IsDevice}
use Rattle.kms_model.specs.declared.objects.Kind.{Kind}
use Rattle.kms_model.specs.declared.objects.Kind.TheVariants as kind
use Rattle.kms_model.specs.declared.objects.Topology.{Topology}
use Rattle.kms_model.specs.declared.sets.Set.{Set}
use Rattle.kms_model.specs.declared.states.Both.{Both}
use Rattle.kms_model.specs.declared.states.Duplicates.{Duplicates}
use Rattle.kms_model.specs.Request.Resolves.{HasPlace}
use Rattle.kms_model.proofs.KindsOfIds.{kind_of-object}
use Rattle.kms_model.proofs.TouchedLemmas.{few_objects}
use Rattle.kms_props.specs.Setting.{AreAllDuplicated, AreSameDuplicated, IsOnDevice, IsSetIn}
use Rattle.kms_state.specs.Changes.{HasObject, Sets}
use Rattle.kms_state.specs.Places.{OldStates, is_duplicated, is_duplicated_of, old_states, olds, state_of}
use Rattle.kms_state.proofs.Slots.{AgreesOld-same, there_old}

state_there : {S : Type 0} (k : Kind) (states : List (Option (Both S))) (index : ℕ) → is_some (state_at states index) ≡ true
    → is_some (state_of k states (object_id k index)) ≡ true
state_there k states index there =
    let above : nat_le (first_id k) (object_id k index) ≡ true = grind (arith, nat_tests) in
    let place : object_id k index - first_id k ≡ index = omega arith in
    rw (above, place) there

there_of : (t : Topology) (d : Duplicates) (k : Kind) (index : ℕ) → AreAllDuplicated t d → HasPlace k index → index < count_of t k
    → is_duplicated_of k d (object_id k index) ≡ true
there_of t d kind.Crtc index all placed there = state_there kind.Crtc d.crtcs index (all.crtcs index there)
there_of t d kind.Plane index all placed there = state_there kind.Plane d.planes index (all.planes index there)
there_of t d kind.Conn index all placed there = state_there kind.Conn d.conns index (all.conns index there)
there_of t d kind.Enc index all placed there = absurd placed

below : (k : Kind) (index : ℕ) → HasPlace k index → index < 100
below kind.Crtc index placed = omega (arith, placed)
below kind.Plane index placed = omega (arith, placed)
below kind.Conn index placed = omega (arith, placed)
below kind.Enc index placed = absurd placed

module _ (t : Topology) (id : ℕ) (object : IsOnDevice t id) where
  kind_is : kind_of id ≡ object.kind
  kind_is = ap kind_of object.is ∙ kind_of-object object.kind object.index (below object.kind object.index object.placed)

  -- such an object is duplicated
  pub is_there : (d : Duplicates) → AreAllDuplicated t d → is_duplicated d id ≡ true
  is_there d all =
      ap (is_duplicated d) object.is
      ∙ ap (λ k. is_duplicated_of k d (object_id object.kind object.index)) (sym (ap kind_of object.is) ∙ kind_is)
      ∙ there_of t d object.kind object.index all object.placed (ltb-true object.index (count_of t object.kind) object.there)

  has_object : IsDevice t → HasObject t id
  has_object device = record {
    planes = (few_objects t device).planes;
    conns = (few_objects t device).conns;
    there = (
        let place : object_id object.kind object.index - first_id object.kind ≡ object.index = omega arith in
        ap (λ n. exists t (kind_of n) (n - first_id (kind_of n))) object.is
        ∙ ap (λ k. exists t k (object_id object.kind object.index - first_id k)) (sym (ap kind_of object.is) ∙ kind_is)
        ∙ ap (exists t object.kind) place ∙ object.there);
  }

still_there : {S : Type 0} (before after : List (Option (Both S))) → olds after ≡ olds before → (index : ℕ)
    → is_some (state_at after index) ≡ is_some (state_at before index)
still_there before after same index = there_old after index ∙ ap (λ xs. is_some (state_at xs index)) same ∙ sym (there_old before index)

-- where no old state changes, the same objects are duplicated
pub same_objects : (before after : Duplicates) → old_states after ≡ old_states before → AreSameDuplicated before after
same_objects before after same = record {
  crtcs = still_there before.crtcs after.crtcs (ap (λ (o : OldStates). o.crtcs) same);
  planes = still_there before.planes after.planes (ap (λ (o : OldStates). o.planes) same);
  conns = still_there before.conns after.conns (ap (λ (o : OldStates). o.conns) same);
}

-- a set in states of a whole device
pub is_set_in : (t : Topology) (before after : Duplicates) (s : Set) → IsDevice t → IsOnDevice t s.object.0
    → Sets before s after → old_states after ≡ old_states before → IsSetIn t before s after
is_set_in t before after s device object sets same = record {
  same = same_objects before after same;
  old = λ things values. AgreesOld-same t things values before after same;
  new = λ things values number. sets t things values number (has_object t s.object.0 object device);
}
