-- Two worlds in which a request reaches the same: its labels name the same things, and the objects of the groups before have the
-- same states.
use Rattle.std.proofs.Common.{◌≡◌, ℕ, zero, suc, ◌<◌, Bool, true, false, List, Option, Some, None, refl, sym, ap, ◌∙◌, subst, arith, inl}
use Rattle.std.proofs.Common.{inr}
use Rattle.std.specs.Prelude.{ℤ, pos, negsuc, not, ◌&&◌, ◌||◌, ◌==◌, IfSome, int_le, is_some, if◌then◌else◌}
use Rattle.std.specs.Ordering.{int_eq}
use Rattle.std.proofs.lemmas.Bool.Decides.{Decides-int_eq}
use Rattle.std.proofs.lemmas.Bool.{and_from, and_parts, cases_Bool, eqb-true, false≢true, ltb-true, or_parts}
use Rattle.kms_model.specs.declared.objects.Kind.{Kind}
use Rattle.kms_model.specs.declared.objects.Kind.TheVariants as kind
use Rattle.kms_model.specs.declared.objects.Topology.{Topology}
use Rattle.kms_model.specs.declared.properties.TheConstants.{ACTIVE, CRTC_ID, MODE_ID}
use Rattle.kms_model.specs.declared.scripts.Assign.{Assign}
use Rattle.kms_model.specs.declared.scripts.Request.{Request}
use Rattle.kms_model.specs.declared.scripts.Value.{Value}
use Rattle.kms_model.specs.declared.scripts.Value.TheVariants.{Crtc, Named, New, Num}
use Rattle.kms_model.specs.declared.states.CrtcState.{CrtcState}
use Rattle.kms_model.specs.declared.worlds.Look.{Look}
use Rattle.kms_model.specs.declared.worlds.Setting.{Setting}
use Rattle.kms_model.specs.declared.worlds.Thing.{Thing}
use Rattle.kms_model.specs.declared.worlds.World.{World}
use Rattle.kms_model.specs.Device.Modes.{same_mode}
use Rattle.kms_model.specs.Device.Objects.{count_of, exists, ids_of, kind_of, object_id}
use Rattle.kms_model.specs.Device.Properties.{property}
use Rattle.kms_model.specs.Device.Sound.{IsDevice, IsLawful, kept_properties}
use Rattle.kms_model.specs.Device.States.{crtc_at, mode_at, mode_of, natural}
use Rattle.kms_model.specs.Device.World.{thing_labelled, thing_numbered, value}
use Rattle.kms_model.specs.Request.Agreement.{crtc_state_at}
use Rattle.kms_model.specs.Request.Apply.{apply, id_in, is_kept, number_of, object_of, prop_of}
use Rattle.kms_model.specs.Request.Checks.{is_active}
use Rattle.kms_model.specs.Request.Lookups.{label_of, look_up_any}
use Rattle.kms_model.specs.Request.Named.{differs, is_named_by, is_rerouted, is_routed, moves_on, names, needs_modeset}
use Rattle.kms_model.specs.Request.Refusals.{is_in_range_of, own_refusal}
use Rattle.kms_model.specs.Request.Touched.{is_affected, last_value, sets, touches_of_kind}
use Rattle.kms_model.proofs.ApplyLemmas.{number_or, value-apply}
use Rattle.kms_model.proofs.AppliedValues.{value-apply_unset}
use Rattle.kms_model.proofs.ThingLemmas.{thing_numbered-labelled}
use Rattle.kms_model.proofs.HeldValues.{all_held-from}
use Rattle.kms_model.proofs.Items.{IsIn, IsObject, ids-has, ids-in, list_any-at, list_any-has, list_any-none, list_any-same, list_any-some}
use Rattle.kms_model.proofs.Items.{number_if-none, or_else-none}
use Rattle.kms_model.proofs.KindsOfIds.{kind_of-object}
use Rattle.kms_model.proofs.LastLemmas.{set_by}
use Rattle.kms_model.proofs.MaskLemmas.{same_tests}
use Rattle.kms_model.proofs.SeenLemmas.{row-at}
use Rattle.kms_model.proofs.SoundKept.{differs-self, same_mode-self}
use Rattle.kms_model.proofs.StandsLemmas.{thing_numbered-zero}
use Rattle.kms_model.proofs.StateLemmas.{natural-held}
use Rattle.kms_model.proofs.TouchedLemmas.{few_objects, few_of}
use Rattle.kms_laws.proofs.OldLookUps.{StayIn}

-- each label that assignments name is made
abbrev pub AreMade : World → List Assign → Type 0
AreMade w items = (a : Assign) → IsIn a items → IfSome (label_of a.value) (λ label. is_some (thing_labelled w.things label) ≡ true)

-- a flag's number, by whether it is set
flag-is : (z : ℤ) → (int_le (pos 0) z && int_le z (pos 1)) ≡ true → z ≡ (if not (int_eq z (pos 0)) then pos 1 else pos 0)
flag-is (pos zero) h = refl
flag-is (pos (suc zero)) h = refl
flag-is (pos (suc (suc n))) h = (let low = natural-held 1 (pos (suc (suc n))) h in absurd (omega (arith, low)))
flag-is (negsuc n) h = absurd cc

-- what is right with an assignment in which nothing is wrong by itself
pub record IsFine (t : Topology) (f : ℕ → Look) (a : Assign) : Type 0 where
  pub there : exists t a.kind a.index ≡ true
  pub in_range : is_in_range_of t f a.value (property (prop_of a.prop)) ≡ true

not_not : (b : Bool) → not b ≡ false → b ≡ true
not_not true e = refl
not_not false e = absurd cc

pub is_fine : (t : Topology) (f : ℕ → Look) (a : Assign) → own_refusal t f a ≡ None → IsFine t f a
unfolding own_refusal
is_fine t f a none =
    let one = or_else-none _ _ none in
    let two = or_else-none _ _ one.second_none in
    let three = or_else-none _ _ two.second_none in record {
      there = not_not _ (number_if-none _ _ one.first_none);
      in_range = not_not _ (number_if-none _ _ three.second_none);
    }

module _ (t : Topology) (w v : World) (device : IsDevice t) (lawful_w : IsLawful t w) (lawful_v : IsLawful t v) (stay : StayIn w.things v)
    (items : List Assign) (made : AreMade w items)
    (fine : (a : Assign) → IsIn a items → IsFine t (look_up_any w) a) where
  abbrev New_of : World → List Setting
  New_of x = apply x.things x.values items

  record IsSetAs (k : Kind) (object : ℕ) : Type 0 where
    item : Assign
    is_in : IsIn item items
    at : object_of item ≡ object
    of_kind : item.kind ≡ k

  -- an object of a kind that is set is set by an assignment of the kind
  set_as : (k : Kind) (object : ℕ) → IsIn object (ids_of t k) → sets items object ≡ true → IsSetAs k object
  set_as k object is set =
      let p = list_any-some (λ a. object_of a == object) items set in
      let o : IsObject t k object = ids-in t k object is in
      let few = few_objects t device in
      let at : object_of p.item ≡ object = eqb-true (object_of p.item) object p.holds in
      let low = ltb-true p.item.index (count_of t p.item.kind) (fine p.item p.is_in).there in
      let few_a = few_of t p.item.kind few in
      let few_k = few_of t k few in
      let there = o.within in
      record {
        item = p.item;
        is_in = p.is_in;
        at = at;
        of_kind = sym (kind_of-object p.item.kind p.item.index (omega (arith, low, few_a))) ∙
            (ap kind_of (at ∙ o.same) ∙ kind_of-object k o.index (omega (arith, there, few_k)));
      }

  -- a value stands for the same number
  number_same : (a : Assign) → IsIn a items → number_of v.things a.value ≡ number_of w.things a.value
  number_same a is = by a.value (made a is)
    where
      by_thing : (label : ℕ) (o : Option Thing) → thing_labelled w.things label ≡ o → is_some o ≡ true
          → id_in (thing_labelled v.things label) ≡ id_in (thing_labelled w.things label)
      by_thing label None found some = absurd (false≢true some)
      by_thing label (Some u) found some = (let later = stay label u found
          in ap id_in later.found ∙ (ap pos later.same_id ∙ sym (ap id_in found)))

      by : (x : Value) → IfSome (label_of x) (λ label. is_some (thing_labelled w.things label) ≡ true) → number_of v.things x
          ≡ number_of w.things x
      by (Num n) made = refl
      by (Named label) made = by_thing label (thing_labelled w.things label) refl made
      by (New label) made = refl
      by (Crtc index) made = refl

  -- what is told of a value after the request is the same where it is so of the value before, and of what sets it
  new_same : {A : Type 0} (g h : ℤ → A) (object prop : ℕ) → is_kept prop ≡ true
      → ((a : Assign) → IsIn a items → prop_of a.prop ≡ prop → g (number_of v.things a.value) ≡ h (number_of w.things a.value))
      → g (value v.values object prop) ≡ h (value w.values object prop) → g (value (New_of v) object prop)
      ≡ h (value (New_of w) object prop)
  new_same {A} g h object prop kept each old =
      ap g (value-apply v.things v.values items object prop kept) ∙
      (by (last_value items object prop) refl ∙ sym (ap h (value-apply w.things w.values items object prop kept)))
    where
      by : (last : Option Value) → last_value items object prop ≡ last → g (number_or v.things last (value v.values object prop))
          ≡ h (number_or w.things last (value w.values object prop))
      by None is = old
      by (Some x) is = (let s = set_by items object prop x is
          in subst (λ y. g (number_of v.things y) ≡ h (number_of w.things y)) s.value_is (each s.item s.member s.prop_is))

  crtc_new : (object : ℕ) → crtc_at v.values object ≡ crtc_at w.values object → crtc_at (New_of v) object ≡ crtc_at (New_of w) object
  crtc_new object old = new_same natural natural object CRTC_ID refl (λ a is e. ap natural (number_same a is)) old

  -- a mode that is set has the same content
  mode_set : (a : Assign) → IsIn a items → prop_of a.prop ≡ MODE_ID → mode_of (thing_numbered v.things (number_of v.things a.value))
      ≡ mode_of (thing_numbered w.things (number_of w.things a.value))
  mode_set a is prop = by a.value (made a is) (subst (λ p. is_in_range_of t (look_up_any w) a.value (property p) ≡ true) prop
      (fine a is).in_range)
    where
      none : (x : World) → IsLawful t x → mode_of (thing_numbered x.things (pos 0)) ≡ None
      none x lawful = ap mode_of (thing_numbered-zero 1000 x.things (omega arith) lawful.numbered.things)

      by_thing : (label : ℕ) (o : Option Thing) → thing_labelled w.things label ≡ o → is_some o ≡ true
          → mode_of (thing_numbered v.things (id_in (thing_labelled v.things label)))
          ≡ mode_of (thing_numbered w.things (id_in (thing_labelled w.things label)))
      by_thing label None found some = absurd (false≢true some)
      by_thing label (Some u) found some =
          (let later = stay label u found in
          ap (λ o. mode_of (thing_numbered v.things (id_in o))) later.found
          ∙ (ap mode_of (thing_numbered-labelled v.things label later.thing lawful_v.numbered.things later.found)
          ∙ (λ i. mode_of (Some (record u { content = later.same_content i })))
          ∙ sym (ap mode_of (thing_numbered-labelled w.things label u lawful_w.numbered.things found))
          ∙ sym (ap (λ o. mode_of (thing_numbered w.things (id_in o))) found)))

      by : (x : Value) → IfSome (label_of x) (λ label. is_some (thing_labelled w.things label) ≡ true)
          → is_in_range_of t (look_up_any w) x (property MODE_ID) ≡ true
          → mode_of (thing_numbered v.things (number_of v.things x)) ≡ mode_of (thing_numbered w.things (number_of w.things x))
      by (Num n) made range = (let none_set : n ≡ pos 0 = (Decides-int_eq n (pos 0)).0 range
          in ap (λ z. mode_of (thing_numbered v.things z)) none_set ∙
          (none v lawful_v ∙ sym (ap (λ z. mode_of (thing_numbered w.things z)) none_set ∙ none w lawful_w)))
      by (Named label) made range = by_thing label (thing_labelled w.things label) refl made
      by (New label) made range = absurd (false≢true range)
      by (Crtc index) made range = absurd (false≢true range)

  -- Planes and connectors that are set are on the same CRTCs.
  module _ (routed : (a : Assign) → IsIn a items → is_routed a.kind ≡ true → crtc_at v.values (object_of a)
      ≡ crtc_at w.values (object_of a)) where
    pub names_same : (crtc : ℕ) → names v.values (New_of v) items crtc ≡ names w.values (New_of w) items crtc
    names_same crtc =
        list_any-same (is_named_by v.values (New_of v) crtc) (is_named_by w.values (New_of w) crtc) items
        (λ a is. ap (λ b. (object_of a == crtc) || b) (by a is (is_routed a.kind) refl))
      where
        by : (a : Assign) → IsIn a items → (b : Bool) → is_routed a.kind ≡ b
            → (is_routed a.kind && moves_on v.values (New_of v) crtc (object_of a))
            ≡ (is_routed a.kind && moves_on w.values (New_of w) crtc (object_of a))
        by a is true e = (let old = routed a is e in let new = crtc_new (object_of a) old in λ i. is_routed a.kind
            && ((old i == crtc) || (new i == crtc)))
        by a is false e = rw e refl

    -- a CRTC that has the same state
    module _ (index : ℕ) (within : index < count_of t kind.Crtc) where
      abbrev C : ℕ
      C = object_id kind.Crtc index

      module _ (same : crtc_state_at t v.things v.values C ≡ crtc_state_at t w.things w.values C) where
        old_on : (k : Kind) (object : ℕ) → (is_routed k ≡ true) → IsIn object (ids_of t k) → (crtc_at v.values object == C)
            ≡ (crtc_at w.values object == C)
        old_on kind.Plane object r is =
            (let o = ids-in t kind.Plane object is in
            subst (λ x. (crtc_at v.values x == C) ≡ (crtc_at w.values x == C)) (sym o.same)
            (same_tests (λ i. crtc_at v.values (object_id kind.Plane i) == C) (λ i. crtc_at w.values (object_id kind.Plane i) == C)
            (count_of t kind.Plane) (ap (λ (s : CrtcState). s.planes) same) o.index o.within))
        old_on kind.Conn object r is =
            (let o = ids-in t kind.Conn object is in
            subst (λ x. (crtc_at v.values x == C) ≡ (crtc_at w.values x == C)) (sym o.same)
            (same_tests (λ i. crtc_at v.values (object_id kind.Conn i) == C) (λ i. crtc_at w.values (object_id kind.Conn i) == C)
            (count_of t kind.Conn) (ap (λ (s : CrtcState). s.conns) same) o.index o.within))
        old_on kind.Crtc object r is = absurd (false≢true r)
        old_on kind.Enc object r is = absurd (false≢true r)

        unset_on : (x : World) (object : ℕ) → sets items object ≡ false → (crtc_at (New_of x) object == C) ≡ (crtc_at x.values object == C)
        unset_on x object unset = ap (λ z. natural z == C) (value-apply_unset x.things x.values items object CRTC_ID unset)

        new_on : (k : Kind) (object : ℕ) → (is_routed k ≡ true) → IsIn object (ids_of t k) → (crtc_at (New_of v) object == C)
            ≡ (crtc_at (New_of w) object == C)
        new_on k object r is =
            elim (cases_Bool (sets items object)) [
              | inl set ↦ (let a = set_as k object is set
                  in ap (λ n. n == C) (subst (λ x. crtc_at (New_of v) x ≡ crtc_at (New_of w) x) a.at
                  (crtc_new (object_of a.item) (routed a.item a.is_in (ap is_routed a.of_kind ∙ r)))))
              | inr unset ↦ unset_on v object unset ∙ (old_on k object r is ∙ sym (unset_on w object unset))
            ]

        mode_new : mode_at v.things (New_of v) C ≡ mode_at w.things (New_of w) C
        mode_new = new_same (λ n. mode_of (thing_numbered v.things n)) (λ n. mode_of (thing_numbered w.things n)) C MODE_ID refl mode_set
            (ap (λ (s : CrtcState). s.mode) same)

        flag_of : (x : World) → IsLawful t x → value x.values C ACTIVE ≡ (if is_active x.values C then pos 1 else pos 0)
        flag_of x lawful = flag-is (value x.values C ACTIVE)
            ((all_held-from t x.things x.values lawful.sound.held).crtcs.at C _ (ids-has t kind.Crtc index within)
            (row-at (kept_properties kind.Crtc) 0 _ refl))

        active_old : value v.values C ACTIVE ≡ value w.values C ACTIVE
        active_old = flag_of v lawful_v ∙ (ap (λ (s : CrtcState). if s.active then pos 1 else pos 0) same ∙ sym (flag_of w lawful_w))

        active_new : value (New_of v) C ACTIVE ≡ value (New_of w) C ACTIVE
        active_new = new_same (λ n. n) (λ n. n) C ACTIVE refl (λ a is e. number_same a is) active_old

        pub modeset_same : needs_modeset t v.things v.values (New_of v) C ≡ needs_modeset t w.things w.values (New_of w) C
        modeset_same =
            let modes : mode_at v.things v.values C ≡ mode_at w.things w.values C = ap (λ (s : CrtcState). s.mode) same in
            let conns = list_any-same (is_rerouted v.values (New_of v) C) (is_rerouted w.values (New_of w) C) (ids_of t kind.Conn)
            (λ o is i. differs (old_on kind.Conn o refl is i) (new_on kind.Conn o refl is i)) in
            λ i. not (same_mode (modes i) (mode_new i)) || (not (int_eq (active_old i) (active_new i)) || conns i)

        pub moves_same : (k : Kind) (object : ℕ) → is_routed k ≡ true → IsIn object (ids_of t k) → moves_on v.values (New_of v) C object
            ≡ moves_on w.values (New_of w) C object
        moves_same k object r is = λ i. old_on k object r is i || new_on k object r is i

    -- A CRTC that needs a modeset is named.
    pub modeset_named : (crtc : ℕ) → names w.values (New_of w) items crtc ≡ false → needs_modeset t w.things w.values (New_of w) crtc
        ≡ false
    modeset_named crtc unnamed =
        let unset : sets items crtc ≡ false = list_any-none (λ a. object_of a == crtc) items
        (λ a is. (or_parts (object_of a == crtc) _ (list_any-at (is_named_by w.values (New_of w) crtc) items a unnamed is)).0) in
        let modes : mode_at w.things (New_of w) crtc
        ≡ mode_at w.things w.values crtc = ap (λ n. mode_of (thing_numbered w.things n))
        (value-apply_unset w.things w.values items crtc MODE_ID unset) in
        let actives : value (New_of w) crtc ACTIVE ≡ value w.values crtc ACTIVE = value-apply_unset w.things w.values items crtc ACTIVE
        unset in
        rw (
          modes,
          actives,
          same_mode-self (mode_at w.things w.values crtc),
          (Decides-int_eq (value w.values crtc ACTIVE) (value w.values crtc ACTIVE)).1 refl,
        )
        (list_any-none (is_rerouted w.values (New_of w) crtc) (ids_of t kind.Conn) (λ o is. stays o is))
      where
        stays : (object : ℕ) → IsIn object (ids_of t kind.Conn) → is_rerouted w.values (New_of w) crtc object ≡ false
        stays object is =
            elim (cases_Bool (sets items object)) [
              | inl set ↦ (
                  let a = set_as kind.Conn object is set in
                  let parts = or_parts (object_of a.item == crtc) _
                  (list_any-at (is_named_by w.values (New_of w) crtc) items a.item unnamed a.is_in) in
                  let moved : moves_on w.values (New_of w) crtc (object_of a.item)
                  ≡ false = sym (ap (λ k. is_routed k && moves_on w.values (New_of w) crtc (object_of a.item)) a.of_kind) ∙ parts.1 in
                  let both = or_parts (crtc_at w.values object == crtc) (crtc_at (New_of w) object == crtc)
                  (subst (λ x. moves_on w.values (New_of w) crtc x ≡ false) a.at moved) in
                  rw (both.0, both.1) refl)
              | inr unset ↦ ap (λ z. differs (crtc_at w.values object == crtc) (natural z == crtc))
                  (value-apply_unset w.things w.values items object CRTC_ID unset) ∙ differs-self (crtc_at w.values object == crtc)
            ]

  -- What the request touches in the first world it touches in the second, where the groups before it have the same states.
  module _ (r : Request) (routed : (a : Assign) → IsIn a items → is_routed a.kind ≡ true → crtc_at v.values (object_of a)
      ≡ crtc_at w.values (object_of a)) where
    abbrev Q : Request
    Q = record r { assigns = items }

    pub crtc_touched : (crtc : ℕ) → touches_of_kind kind.Crtc t w Q crtc ≡ touches_of_kind kind.Crtc t v Q crtc
    crtc_touched crtc = ap (λ b. sets items crtc || b) (sym (names_same routed crtc))

    pub affected_still : (k : Kind) (object : ℕ) → is_routed k ≡ true → IsIn object (ids_of t k)
        → ((index : ℕ) → index < count_of t kind.Crtc → names w.values (New_of w) items (object_id kind.Crtc index) ≡ true
        → crtc_state_at t v.things v.values (object_id kind.Crtc index) ≡ crtc_state_at t w.things w.values (object_id kind.Crtc index))
        → is_affected t w.things w.values (New_of w) object ≡ true → is_affected t v.things v.values (New_of v) object ≡ true
    affected_still k object is_k is_in states affected =
        let p = list_any-some (λ crtc. needs_modeset t w.things w.values (New_of w) crtc && moves_on w.values (New_of w) crtc object)
        (ids_of t kind.Crtc) affected in
        let o : IsObject t kind.Crtc p.item = ids-in t kind.Crtc p.item p.is_in in
        let parts = and_parts (needs_modeset t w.things w.values (New_of w) p.item) _ p.holds in
        let needs : needs_modeset t w.things w.values (New_of w) (object_id kind.Crtc o.index)
        ≡ true = subst (λ c. needs_modeset t w.things w.values (New_of w) c ≡ true) o.same parts.0 in
        let moves : moves_on w.values (New_of w) (object_id kind.Crtc o.index) object
        ≡ true = subst (λ c. moves_on w.values (New_of w) c object ≡ true) o.same parts.1 in
        let same = states o.index o.within (named (object_id kind.Crtc o.index) needs) in
        list_any-has (λ crtc. needs_modeset t v.things v.values (New_of v) crtc && moves_on v.values (New_of v) crtc object)
        (ids_of t kind.Crtc) (object_id kind.Crtc o.index) (ids-has t kind.Crtc o.index o.within)
        (and_from (needs_modeset t v.things v.values (New_of v) (object_id kind.Crtc o.index)) _
        (modeset_same routed o.index o.within same ∙ needs) (moves_same routed o.index o.within same k object is_k is_in ∙ moves))
      where
        named : (crtc : ℕ) → needs_modeset t w.things w.values (New_of w) crtc ≡ true → names w.values (New_of w) items crtc ≡ true
        named crtc needs =
            elim (cases_Bool (names w.values (New_of w) items crtc)) [
              | inl yes_named ↦ yes_named
              | inr unnamed ↦ absurd (false≢true (sym (modeset_named routed crtc unnamed) ∙ needs))
            ]
