-- Lists of duplicated states of which one changes.
use Rattle.std.proofs.Common.{◌≡◌, ◌≢◌, ℕ, zero, suc, ◌-◌, ◌<◌, ◌≤◌, length, List, [], ◌∷◌, set, Option, Some, None, slice_get, is_some}
use Rattle.std.proofs.Common.{option_map, true, false, inl, inr, arith, refl, sym, ap, subst, ◌∙◌, if◌then◌else◌}
use Rattle.std.specs.Prelude.{◌==◌, nat_le}
use Rattle.std.specs.Option.{option_flatten}
use Rattle.std.proofs.Math.ListN.{length-set}
use Rattle.std.proofs.lemmas.Bool.{cases_eq, cases_lt, eq-eqb, ne_eqb, le-leb, lt-leb}
use Rattle.std.proofs.lemmas.Option.{none-some, same_Some, slice_get-map, slice_get_within}
use Rattle.kms_model.specs.Device.Places.{state_at}
use Rattle.kms_model.specs.declared.objects.Kind.{Kind}
use Rattle.kms_model.specs.declared.objects.Kind.TheVariants.{Crtc, Plane, Conn, Enc}
use Rattle.kms_model.specs.declared.objects.Topology.{Topology}
use Rattle.kms_model.specs.declared.states.Duplicates.{Duplicates}
use Rattle.kms_model.specs.declared.worlds.Setting.{Setting}
use Rattle.kms_model.specs.declared.worlds.Thing.{Thing}
use Rattle.kms_model.specs.Device.States.{plane_at}
use Rattle.kms_model.specs.declared.states.CrtcState.{CrtcState}
use Rattle.kms_model.specs.declared.states.Both.{Both}
use Rattle.kms_model.specs.Device.Objects.{first_id, object_id, kind_of}
use Rattle.kms_model.specs.Request.Agreement.{AgreesOld, AreNew, AreOld, conn_state_at, crtc_state_at}
use Rattle.kms_state.specs.Places.{is_duplicated, is_duplicated_of, old_states, olds, state_of}
use Rattle.kms_state.specs.Changes.{with_new, put_at, changed, rerouted, with_routed}

pub slice_get-set_same : {A : Type 0} (xs : List A) (i : ℕ) (x : A) → i < length xs → slice_get (set xs i x) i ≡ Some x
slice_get-set_same [] i x within = absurd (omega arith)
slice_get-set_same (y ∷ ys) zero x within = refl
slice_get-set_same (y ∷ ys) (suc i) x within = slice_get-set_same ys i x (omega arith)

pub slice_get-set_other : {A : Type 0} (xs : List A) (i k : ℕ) (x : A) → k ≢ i → slice_get (set xs i x) k ≡ slice_get xs k
slice_get-set_other [] i k x other = refl
slice_get-set_other (y ∷ ys) zero zero x other = absurd (other refl)
slice_get-set_other (y ∷ ys) zero (suc k) x other = refl
slice_get-set_other (y ∷ ys) (suc i) zero x other = refl
slice_get-set_other (y ∷ ys) (suc i) (suc k) x other = slice_get-set_other ys i k x (λ e. other (ap suc e))

-- what is duplicated at an index is in the list
pub slot_at : {S : Type 0} (states : List (Option S)) (index : ℕ) (s : S) → state_at states index ≡ Some s → slice_get states index
    ≡ Some (Some s)
slot_at {S} states index s is = found (slice_get states index) is where
  found : (slot : Option (Option S)) → option_flatten slot ≡ Some s → slot ≡ Some (Some s)
  found None h = absurd (none-some s h)
  found (Some slot) h = ap Some h

-- what was put at a place is there
put_there : {S : Type 0} (states : List (Option S)) (index k : ℕ) (put found : S) → k ≡ index → slice_get (set states index (Some put)) k
    ≡ Some (Some found) → put ≡ found
put_there states index k put found same at =
    let within : k < length (set states index (Some put)) = slice_get_within (set states index (Some put)) k (Some found) at in
    let inside : index < length states = omega (arith, length-set states index (Some put), same) in
    let is : Some (Some put) ≡ Some (Some found) = sym (slice_get-set_same states index (Some put) inside) ∙ ap
    (slice_get (set states index (Some put))) (sym same) ∙ at in
    same_Some put found (same_Some (Some put) (Some found) is)

-- new states of which one changes
pub AreNew-set : {S : Type 0} (f g : ℕ → S) (states : List (Option (Both S))) (index : ℕ) (both : Both S)
    → AreNew f states → ((k : ℕ) → k < length states → k ≢ index → g k ≡ f k) → both.new ≡ g index → AreNew g (set states index (Some both))
AreNew-set {S} f g states index both agrees others here = λ k b at.
    elim (cases_eq k index) [
      | inl same ↦ ap (λ (x : Both S). x.new) (sym (put_there states index k both b same at)) ∙ here ∙ ap g (sym same)
      | inr other ↦ (
          let before : slice_get states k ≡ Some (Some b) = sym (slice_get-set_other states index k (Some both) other) ∙ at in
          agrees k b before ∙ sym (others k (slice_get_within states k (Some b) before) other))
    ]

-- new states of which none changes
pub AreNew-same : {S : Type 0} (f g : ℕ → S) (states : List (Option (Both S))) → AreNew f states → ((k : ℕ) → k < length states → g k ≡ f k)
    → AreNew g states
AreNew-same f g states agrees same = λ k b at. agrees k b at ∙ sym (same k (slice_get_within states k (Some b) at))

-- the old states stay where one is put back with its old state
pub olds-set : {S : Type 0} (states : List (Option (Both S))) (index : ℕ) (both other : Both S) → slice_get states index ≡ Some (Some both)
    → other.old ≡ both.old → olds (set states index (Some other)) ≡ olds states
olds-set [] index both other at same = refl
olds-set {S} (slot ∷ states) zero both other at same =
    let e : slot ≡ Some both = same_Some slot (Some both) at in
    rw e (ap (λ (s : S). Some s ∷ olds states) same)
olds-set {S} (slot ∷ states) (suc index) both other at same = ap (λ (xs : List (Option S)). option_map (λ b. b.old) slot ∷ xs)
    (olds-set states index both other at same)

-- new states of which one changes, where it is duplicated
pub AreNew-put_at : {S : Type 0} (f g : ℕ → S) (states : List (Option (Both S))) (index : ℕ) (h : S → S) (slot : Option (Both S))
    → state_at states index ≡ slot
    → AreNew f states → ((k : ℕ) → k < length states → k ≢ index → g k ≡ f k) → (index < length states → g index ≡ h (f index))
    → AreNew g (put_at states index (option_map (with_new h) slot))
AreNew-put_at {S} f g states index h None is agrees others here = λ k b at.
    elim (cases_eq k index) [
      | inl same ↦ absurd (none-some b (sym is ∙ ap (state_at states) (sym same) ∙ ap option_flatten at))
      | inr other ↦ agrees k b at ∙ sym (others k (slice_get_within states k (Some b) at) other)
    ]
AreNew-put_at {S} f g states index h (Some both) is agrees others here =
    let at : slice_get states index ≡ Some (Some both) = slot_at states index both is in
    let new : h both.new ≡ g index = ap h (agrees index both at) ∙ sym (here (slice_get_within states index (Some both) at)) in
    AreNew-set f g states index (with_new h both) agrees others new

-- new states of which the one with an id changes, where it is duplicated
pub AreNew-changed : {S : Type 0} (f g : ℕ → S) (kind : Kind) (states : List (Option (Both S))) (id : ℕ) (h : S → S)
    → AreNew f states → ((k : ℕ) → k < length states → g k ≡ (if id == object_id kind k then h (f k) else f k))
    → AreNew g (changed kind states id h)
AreNew-changed {S} f g kind states id h agrees each =
    let apart : (k : ℕ) → k < length states → id ≢ object_id kind k → g k
    ≡ f k = λ k within other. each k within ∙ ap (λ b. if b then h (f k) else f k) (ne_eqb id (object_id kind k) other) in
    elim (cases_lt id (first_id kind)) [
      | inl below ↦ (
          let none : state_of kind states id ≡ None = ap (λ b. if b then state_at states (id - first_id kind) else None)
          (lt-leb (first_id kind) id below) in
          subst (λ slot. AreNew g (put_at states (id - first_id kind) (option_map (with_new h) slot))) (sym none)
          (AreNew-same f g states agrees (λ k within. apart k within (λ e. absurd (omega arith)))))
      | inr from ↦ (
          let is : state_of kind states id ≡ state_at states (id - first_id kind) = ap
          (λ b. if b then state_at states (id - first_id kind) else None) (le-leb (first_id kind) id from) in
          AreNew-put_at f g states (id - first_id kind) h (state_of kind states id) (sym is) agrees
          (λ k within other. apart k within (λ e. other (omega (arith, e))))
          (λ within. (let e : id ≡ object_id kind (id - first_id kind) = omega arith in
          each (id - first_id kind) within ∙ ap (λ b. if b then h (f (id - first_id kind)) else f (id - first_id kind))
          (eq-eqb id (object_id kind (id - first_id kind)) e))))
    ]

-- what a search by id finds of an object that is duplicated at its place
pub state_of-at : {S : Type 0} (kind : Kind) (states : List (Option S)) (id : ℕ) (s : S) → first_id kind ≤ id
    → slice_get states (id - first_id kind) ≡ Some (Some s) → state_of kind states id ≡ Some s
state_of-at kind states id s from at = ap (λ b. if b then state_at states (id - first_id kind) else None) (le-leb (first_id kind) id from) ∙
    ap option_flatten at

length-put_at : {S : Type 0} (states : List (Option S)) (index : ℕ) (slot : Option S) → length (put_at states index slot) ≡ length states
length-put_at states index None = refl
length-put_at states index (Some s) = length-set states index (Some s)

pub length-changed : {S : Type 0} (kind : Kind) (states : List (Option (Both S))) (id : ℕ) (h : S → S) → length (changed kind states id h)
    ≡ length states
length-changed kind states id h = length-put_at states (id - first_id kind) (option_map (with_new h) (state_of kind states id))

olds-put_at : {S : Type 0} (states : List (Option (Both S))) (index : ℕ) (h : S → S) (slot : Option (Both S)) → state_at states index ≡ slot
    → olds (put_at states index (option_map (with_new h) slot)) ≡ olds states
olds-put_at states index h None is = refl
olds-put_at states index h (Some both) is = olds-set states index both (with_new h both) (slot_at states index both is) refl

olds-changed : {S : Type 0} (kind : Kind) (states : List (Option (Both S))) (id : ℕ) (h : S → S) → olds (changed kind states id h)
    ≡ olds states
olds-changed {S} kind states id h =
    elim (cases_lt id (first_id kind)) [
      | inl below ↦ rw (lt-leb (first_id kind) id below) refl
      | inr from ↦ rw (le-leb (first_id kind) id from)
          (olds-put_at states (id - first_id kind) h (state_at states (id - first_id kind)) refl)
    ]

-- no old state changes where a plane or a connector goes from a CRTC to another
pub olds-rerouted : (crtcs : List (Option (Both CrtcState))) (kind : Kind) (index from to : ℕ) → olds (rerouted crtcs kind index from to)
    ≡ olds crtcs
olds-rerouted crtcs kind index from to =
    olds-changed Crtc (changed Crtc crtcs from (with_routed kind index false)) to (with_routed kind index true) ∙ olds-changed Crtc crtcs
    from (with_routed kind index false)

pub slice_get-olds : {S : Type 0} (states : List (Option (Both S))) (index : ℕ) → slice_get (olds states) index
    ≡ option_map (option_map (λ b. b.old)) (slice_get states index)
slice_get-olds states index = slice_get-map (option_map (λ b. b.old)) states index

there_flat : {S : Type 0} (slot : Option (Option (Both S))) → is_some (option_flatten slot)
    ≡ is_some (option_flatten (option_map (option_map (λ b. b.old)) slot))
there_flat None = refl
there_flat (Some None) = refl
there_flat (Some (Some both)) = refl

-- what is duplicated, by its old states
pub there_old : {S : Type 0} (states : List (Option (Both S))) (index : ℕ) → is_some (state_at states index)
    ≡ is_some (state_at (olds states) index)
there_old {S} states index = there_flat (slice_get states index) ∙ ap (λ (slot : Option (Option S)). is_some (option_flatten slot))
    (sym (slice_get-olds states index))

there_of_old : {S : Type 0} (kind : Kind) (states : List (Option (Both S))) (id : ℕ) → is_some (state_of kind states id)
    ≡ is_some (state_of kind (olds states) id)
there_of_old kind states id = elim (nat_le (first_id kind) id)
    as (λ b. is_some (if b then state_at states (id - first_id kind) else None)
    ≡ is_some (if b then state_at (olds states) (id - first_id kind) else None)) [
      | true ↦ there_old states (id - first_id kind)
      | false ↦ refl
    ]

same_there : {S : Type 0} (kind : Kind) (before after : List (Option (Both S))) (id : ℕ) → olds after ≡ olds before
    → is_some (state_of kind after id) ≡ is_some (state_of kind before id)
same_there {S} kind before after id same = there_of_old kind after id ∙ ap (λ (xs : List (Option S)). is_some (state_of kind xs id)) same ∙
    sym (there_of_old kind before id)

same_duplicated_of : (kind : Kind) (before after : Duplicates) (id : ℕ) → old_states after ≡ old_states before
    → is_duplicated_of kind after id ≡ is_duplicated_of kind before id
same_duplicated_of Crtc before after id same = same_there Crtc before.crtcs after.crtcs id (ap (λ s. s.crtcs) same)
same_duplicated_of Plane before after id same = same_there Plane before.planes after.planes id (ap (λ s. s.planes) same)
same_duplicated_of Conn before after id same = same_there Conn before.conns after.conns id (ap (λ s. s.conns) same)
same_duplicated_of Enc before after id same = refl

-- where no old state changes, the same objects are duplicated
pub same_duplicated : (before after : Duplicates) (id : ℕ) → old_states after ≡ old_states before → is_duplicated after id
    ≡ is_duplicated before id
same_duplicated before after id same = same_duplicated_of (kind_of id) before after id same

old_slot : {S : Type 0} (s : S) (slot : Option (Option (Both S))) → option_map (option_map (λ b. b.old)) slot ≡ Some (Some s) → (b : Both S)
    × (slot ≡ Some (Some b)) × (b.old ≡ s)
old_slot s None h = absurd (none-some (Some s) h)
old_slot s (Some None) h = absurd (none-some s (same_Some None (Some s) h))
old_slot s (Some (Some b)) h = (b, refl, same_Some b.old s (same_Some (Some b.old) (Some s) h))

AreOld-same : {S : Type 0} (f : ℕ → S) (before after : List (Option (Both S))) → olds after ≡ olds before → AreOld f before → AreOld f after
AreOld-same {S} f before after same agrees = λ k b at.
    let olds_at : slice_get (olds before) k ≡ Some (Some b.old) = ap (λ (xs : List (Option S)). slice_get xs k) (sym same) ∙ slice_get-olds
    after k ∙ ap (option_map (option_map (λ (x : Both S). x.old))) at in
    let found = old_slot b.old (slice_get before k) (sym (slice_get-olds before k) ∙ olds_at) in
    sym found.2 ∙ agrees k found.0 found.1

-- where no old state changes, they agree with the same values
pub AgreesOld-same : (t : Topology) (things : List Thing) (values : List Setting) (before after : Duplicates) → old_states after
    ≡ old_states before → AgreesOld t things values before → AgreesOld t things values after
AgreesOld-same t things values before after same agrees = record {
  crtcs = AreOld-same (λ index. crtc_state_at t things values (object_id Crtc index)) before.crtcs after.crtcs (ap (λ s. s.crtcs) same)
      agrees.crtcs;
  planes = AreOld-same (λ index. plane_at things values (object_id Plane index)) before.planes after.planes (ap (λ s. s.planes) same)
      agrees.planes;
  conns = AreOld-same (λ index. conn_state_at values (object_id Conn index)) before.conns after.conns (ap (λ s. s.conns) same) agrees.conns;
}

-- old states of which one is put in
pub AreOld-set : {S : Type 0} (f : ℕ → S) (states : List (Option (Both S))) (index : ℕ) (both : Both S) → AreOld f states → both.old
    ≡ f index → AreOld f (set states index (Some both))
AreOld-set {S} f states index both agrees here = λ k b at.
    elim (cases_eq k index) [
      | inl same ↦ ap (λ (x : Both S). x.old) (sym (put_there states index k both b same at)) ∙ here ∙ ap f (sym same)
      | inr other ↦ agrees k b (sym (slice_get-set_other states index k (Some both) other) ∙ at)
    ]

-- the new state of an object that is duplicated at its place, changed
pub changed-at : {S : Type 0} (kind : Kind) (states : List (Option (Both S))) (id : ℕ) (both : Both S) (h : S → S) → first_id kind ≤ id
    → slice_get states (id - first_id kind) ≡ Some (Some both)
    → changed kind states id h ≡ set states (id - first_id kind) (Some (with_new h both))
changed-at kind states id both h from at = ap (λ slot. put_at states (id - first_id kind) (option_map (with_new h) slot))
    (state_of-at kind states id both from at)
