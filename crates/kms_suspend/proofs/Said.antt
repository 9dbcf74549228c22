-- Both requests are spelt by words of the script: their labels are among its names, and they are no larger than a request may be.
use Rattle.std.proofs.Common.{◌≡◌, ℕ, ◌+◌, ◌<◌, ◌≤◌, Bool, true, List, [], ◌∷◌, ◌++◌, length, length-append, ℤ, pos, negsuc, Some, None}
use Rattle.std.proofs.Common.{inl, inr, refl, sym, ap, ◌∙◌, subst, arith}
use Rattle.std.specs.Prelude.{◌&&◌, ◌==◌, filter, int_le, is_some}
use Rattle.std.specs.List.{All, flat_map, list_all}
use Rattle.std.proofs.lemmas.Bool.{and_from, and_parts, eqb-true, le-leb, leb-true}
use Rattle.std.proofs.lemmas.List.Folds.{list_all-append}
use Rattle.std.proofs.lemmas.List.FromFn.{length-range_with_len}
use Rattle.kms_model.specs.declared.objects.Kind.{Kind}
use Rattle.kms_model.specs.declared.objects.Kind.TheVariants as kind
use Rattle.kms_model.specs.declared.objects.Topology.{Topology}
use Rattle.kms_model.specs.declared.properties.TheConstants.{ACTIVE, CRTC_ID, FB_ID, MODE_ID}
use Rattle.kms_model.specs.declared.scripts.Assign.{Assign}
use Rattle.kms_model.specs.declared.scripts.Request.{Request}
use Rattle.kms_model.specs.declared.scripts.Value.{Value}
use Rattle.kms_model.specs.declared.scripts.Value.TheVariants.{Crtc, Num}
use Rattle.kms_model.specs.declared.worlds.Thing.{Thing}
use Rattle.kms_model.specs.declared.worlds.World.{World}
use Rattle.kms_model.specs.Device.Objects.{count_of, indices_of, object_id}
use Rattle.kms_model.specs.Device.Properties.{property_in}
use Rattle.kms_model.specs.Device.Sound.{IsDevice, IsLawful, kept_properties}
use Rattle.kms_model.specs.Device.World.{thing_labelled, value}
use Rattle.kms_model.specs.Frames.Shown.{AreFramed}
use Rattle.kms_model.specs.Order.Suspending.{closed_object, crtc_of, framebuffer_label, labelled, mode_label, off_request, on_request}
use Rattle.kms_model.specs.Promises.{InEachHistory}
use Rattle.kms_model.specs.Script.Assigning.{unset}
use Rattle.kms_model.specs.Script.Generated.{assigns_to}
use Rattle.kms_model.specs.Script.Longer.{world_after}
use Rattle.kms_model.specs.Script.WellFormed.{is_assign_in, is_label_in, is_value_in}
use Rattle.kms_model.proofs.HeldValues.{all_held-from, filter-in}
use Rattle.kms_model.proofs.Items.{IsIn, ids-has, list_all-at}
use Rattle.kms_model.proofs.SeenLemmas.{row-at}
use Rattle.kms_model.proofs.ThingLemmas.{find-holds, find-in}
use Rattle.kms_model.proofs.TouchedLemmas.{few_objects, few_of}
use Rattle.kms_laws.specs.Laws.{HasSerialWorld}
use Rattle.kms_laws.specs.Once.{EachHasItsLabel, LabelsAreNames}
use Rattle.kms_laws.proofs.Modes.{plain-from}
use Rattle.kms_laws.proofs.ShorterTails.{filter-most}
use Rattle.kms_laws.proofs.Steps.{history_kept}
use Rattle.kms_script.specs.ReadAnew.{IsSaid, makes_nothing}
use Rattle.kms_script.proofs.MoreRequests.{more_requests}
use Rattle.kms_suspend.specs.Laws.{LongerIsWellFormed}
use Rattle.kms_suspend.specs.declared.parts.Way.{Way}
use Rattle.kms_suspend.specs.declared.parts.Way.TheVariants.{Off, Back}
use Rattle.kms_suspend.specs.Parts.{assigns_at, is_in_use, part}
use Rattle.kms_suspend.proofs.Awake.{crtc_named}
use Rattle.kms_suspend.proofs.LastValues.{in_range}
use Rattle.kms_suspend.proofs.Names.{framebuffer_named, mode_named}
use Rattle.kms_suspend.proofs.Settable.{by_profile}
use Rattle.kms_suspend.proofs.Wholes.{back_parts, off_parts}

-- What holds of each part holds of the whole

all_parts : (test : Assign → Bool) (f : ℕ → List Assign) (xs : List ℕ) → ((i : ℕ) → IsIn i xs → list_all test (f i) ≡ true)
    → list_all test (flat_map f xs) ≡ true
all_parts test f [] each = refl
all_parts test f (x ∷ xs) each = list_all-append test (f x) (flat_map f xs)
    ∙ and_from _ _ (each x (inl refl)) (all_parts test f xs (λ i is. each i (inr is)))

few_parts : (f : ℕ → List Assign) (xs : List ℕ) → ((i : ℕ) → length (f i) ≤ 2) → length (flat_map f xs) ≤ length xs + length xs
few_parts f [] each = omega arith
few_parts f (x ∷ xs) each =
    let here = each x in
    let rest = few_parts f xs each in
    let count = length-append (f x) (flat_map f xs) in
    omega (arith, here, rest, count)

module _ (way : Way) (t : Topology) (w : World) (device : IsDevice t) (first last : Kind) where
  abbrev whole : List Assign
  whole = part way t w first ++ (part way t w kind.Conn ++ part way t w last)

  all_whole : (test : Assign → Bool)
      → ((k : Kind) (i : ℕ) → i < count_of t k → is_in_use w k i ≡ true → list_all test (assigns_at way w k i) ≡ true)
      → list_all test whole ≡ true
  all_whole test each =
      list_all-append test (part way t w first) (part way t w kind.Conn ++ part way t w last)
      ∙ and_from _ _ (of_kind first)
      (list_all-append test (part way t w kind.Conn) (part way t w last) ∙ and_from _ _ (of_kind kind.Conn) (of_kind last))
    where
      of_kind : (k : Kind) → list_all test (part way t w k) ≡ true
      of_kind k = all_parts test (assigns_at way w k) (filter (is_in_use w k) (indices_of t k)) (λ i is.
          let found = filter-in (is_in_use w k) (indices_of t k) i is in
          let within = in_range 0 (count_of t k) i found.0 in
          each k i (omega (arith, within.1)) found.1)

  few_whole : ((k : Kind) (i : ℕ) → length (assigns_at way w k i) ≤ 2) → length whole ≤ 256
  few_whole each =
      let a = of_kind first in
      let b = of_kind kind.Conn in
      let c = of_kind last in
      let inner = length-append (part way t w kind.Conn) (part way t w last) in
      let outer = length-append (part way t w first) (part way t w kind.Conn ++ part way t w last) in
      omega (arith, a, b, c, inner, outer)
    where
      of_kind : (k : Kind) → length (part way t w k) ≤ 32
      of_kind k =
          let parts = few_parts (assigns_at way w k) (filter (is_in_use w k) (indices_of t k)) (each k) in
          let some = filter-most (is_in_use w k) (indices_of t k) in
          let all = length-range_with_len 0 (count_of t k) in
          let few = few_of t k (few_objects t device) in
          omega (arith, parts, some, all, few)

two_each : (way : Way) (w : World) (k : Kind) (i : ℕ) → length (assigns_at way w k i) ≤ 2
two_each Off w kind.Crtc i = omega arith
two_each Off w kind.Plane i = omega arith
two_each Off w kind.Conn i = omega arith
two_each Off w kind.Enc i = omega arith
two_each Back w kind.Crtc i = omega arith
two_each Back w kind.Plane i = omega arith
two_each Back w kind.Conn i = omega arith
two_each Back w kind.Enc i = omega arith

-- no assignment makes a label
no_new : (way : Way) (w : World) (k : Kind) (i : ℕ) → list_all (λ a. makes_nothing a.value) (assigns_at way w k i) ≡ true
no_new Off w kind.Crtc i = refl
no_new Off w kind.Plane i = refl
no_new Off w kind.Conn i = refl
no_new Off w kind.Enc i = refl
no_new Back w kind.Crtc i = refl
no_new Back w kind.Plane i = refl
no_new Back w kind.Conn i = refl
no_new Back w kind.Enc i = refl

-- Assignments that words spell

module _ (t : Topology) (names : List (List ℕ)) (device : IsDevice t) where
  -- an assignment to an object of the device
  said_assign : (k : Kind) (index id : ℕ) (v : Value) → index < count_of t k → is_some (property_in t.profile id) ≡ true
      → is_value_in names v ≡ true
      → is_assign_in t.profile names (assigns_to k index id v) ≡ true
  said_assign k index id v low known spelt =
      let few = few_of t k (few_objects t device) in
      and_from _ _ (le-leb index 255 (omega (arith, low, few))) (and_from _ _ known spelt)

  known : (id : ℕ) → is_some (property_in 1 id) ≡ true → is_some (property_in 2 id) ≡ true → is_some (property_in t.profile id) ≡ true
  known id one two = by_profile (λ profile. is_some (property_in profile id) ≡ true) one two t.profile device.profile

  off_said : (w : World) (k : Kind) (i : ℕ) → i < count_of t k → list_all (is_assign_in t.profile names) (assigns_at Off w k i) ≡ true
  off_said w kind.Crtc i low =
      and_from _ _ (said_assign kind.Crtc i ACTIVE unset low (known ACTIVE refl refl) refl)
      (and_from _ _ (said_assign kind.Crtc i MODE_ID unset low (known MODE_ID refl refl) refl) refl)
  off_said w kind.Plane i low =
      and_from _ _ (said_assign kind.Plane i FB_ID unset low (known FB_ID refl refl) refl)
      (and_from _ _ (said_assign kind.Plane i CRTC_ID unset low (known CRTC_ID refl refl) refl) refl)
  off_said w kind.Conn i low = and_from _ _ (said_assign kind.Conn i CRTC_ID unset low (known CRTC_ID refl refl) refl) refl
  off_said w kind.Enc i low = refl

  pub off_is_said : (w : World) → IsSaid t.profile names (off_request t w)
  off_is_said w = subst (IsSaid t.profile names) (off_parts t w) (record {
    spelt = all_whole Off t w device kind.Plane kind.Crtc (is_assign_in t.profile names) (λ k i low used. off_said w k i low);
    nothing = all_whole Off t w device kind.Plane kind.Crtc (λ a. makes_nothing a.value) (λ k i low used. no_new Off w k i);
  })

  pub off_is_few : (w : World) → length (off_request t w).assigns ≤ 256
  off_is_few w = subst (λ (r : Request). length r.assigns ≤ 256) (off_parts t w)
      (few_whole Off t w device kind.Plane kind.Crtc (two_each Off w))

  pub on_is_few : (w : World) → length (on_request t w).assigns ≤ 256
  on_is_few w = subst (λ (r : Request). length r.assigns ≤ 256) (back_parts t w)
      (few_whole Back t w device kind.Crtc kind.Plane (two_each Back w))

  module _ (w : World) (lawful : IsLawful t w) (framed : AreFramed w.things)
      (owned : All (λ thing. thing_labelled w.things thing.label ≡ Some thing) w.things) (none_closed : closed_object t w ≡ None)
      (labels : list_all (λ thing. is_label_in names thing.label) w.things ≡ true) where
    -- the label of a thing is a label among the names
    named_label : (label : ℕ) (thing : Thing) → thing_labelled w.things label ≡ Some thing → is_label_in names label ≡ true
    named_label label thing found =
        let same = eqb-true thing.label label (find-holds (λ x. x.label == label) w.things thing found) in
        let member = find-in (λ x. x.label == label) w.things thing found in
        ap (is_label_in names) (sym same) ∙ list_all-at (λ x. is_label_in names x.label) w.things thing labels member

    -- ACTIVE is 0 or 1
    small : (z : ℤ) → (int_le (pos 0) z && int_le z (pos 1)) ≡ true → is_value_in names (Num z) ≡ true
    small (pos n) is =
        let both = and_parts (int_le (pos 0) (pos n)) (int_le (pos n) (pos 1)) is in
        let few : n ≤ 1 = leb-true n 1 both.1 in
        le-leb n 18446744073709551615 (omega (arith, few))
    small (negsuc n) is = absurd cc

    crtc_value : (index : ℕ) → index < t.crtcs → is_value_in names (Crtc index) ≡ true
    crtc_value index low = (let few = (few_objects t device).crtcs in le-leb index 255 (omega (arith, low, few)))

    back_said : (k : Kind) (j : ℕ) → j < count_of t k → is_in_use w k j ≡ true → list_all (is_assign_in t.profile names)
        (assigns_at Back w k j) ≡ true
    back_said kind.Crtc j low used =
        let o = object_id kind.Crtc j in
        let is = ids-has t kind.Crtc j low in
        let named = mode_named t w lawful.numbered.things framed owned none_closed o is used in
        and_from _ _ (said_assign kind.Crtc j MODE_ID (labelled (mode_label w o)) low (known MODE_ID refl refl)
        (ap (λ l. is_value_in names (labelled l)) named.told ∙ named_label named.label named.thing named.is_thing))
        (and_from _ _ (said_assign kind.Crtc j ACTIVE (Num (value w.values o ACTIVE)) low (known ACTIVE refl refl)
        (small (value w.values o ACTIVE)
        ((all_held-from t w.things w.values lawful.sound.held).crtcs.at o _ is (row-at (kept_properties kind.Crtc) 0 _ refl)))) refl)
    back_said kind.Conn j low used =
        let o = object_id kind.Conn j in
        let crtc = crtc_named t w device lawful framed owned none_closed (value w.values o CRTC_ID)
        ((all_held-from t w.things w.values lawful.sound.held).conns.at o _ (ids-has t kind.Conn j low)
        (row-at (kept_properties kind.Conn) 0 _ refl)) used in
        and_from _ _ (said_assign kind.Conn j CRTC_ID (crtc_of w o) low (known CRTC_ID refl refl) (crtc_value _ crtc.there)) refl
    back_said kind.Plane j low used =
        let o = object_id kind.Plane j in
        let is = ids-has t kind.Plane j low in
        let named = framebuffer_named t w lawful.numbered.things framed owned none_closed o is used in
        let crtc = crtc_named t w device lawful framed owned none_closed (value w.values o CRTC_ID)
        ((all_held-from t w.things w.values lawful.sound.held).planes.at o _ is (row-at (kept_properties kind.Plane) 2 _ refl)) used in
        and_from _ _ (said_assign kind.Plane j FB_ID (labelled (framebuffer_label w o)) low (known FB_ID refl refl)
        (ap (λ l. is_value_in names (labelled l)) named.told ∙ named_label named.label named.thing named.is_thing))
        (and_from _ _ (said_assign kind.Plane j CRTC_ID (crtc_of w o) low (known CRTC_ID refl refl) (crtc_value _ crtc.there)) refl)
    back_said kind.Enc j low used = refl

    pub on_is_said : IsSaid t.profile names (on_request t w)
    on_is_said = subst (IsSaid t.profile names) (back_parts t w) (record {
      spelt = all_whole Back t w device kind.Crtc kind.Plane (is_assign_in t.profile names) back_said;
      nothing = all_whole Back t w device kind.Crtc kind.Plane (λ a. makes_nothing a.value) (λ k i low used. no_new Back w k i);
    })

-- The longer script

pub longer_forms : EachHasItsLabel → LabelsAreNames → InEachHistory HasSerialWorld → LongerIsWellFormed
longer_forms own named serial s h formed room history none_closed =
    let t = s.topology in
    let w = world_after s h in
    let lawful = (serial s h formed history).is_lawful in
    let framed = (history_kept s h (plain-from s formed) history).present.framed in
    let device = formed.device in
    more_requests s (off_request t w ∷ on_request t w ∷ []) formed (
      record { said = off_is_said t s.names device w; few = off_is_few t s.names device w },
      (
        record {
          said = on_is_said t s.names device w lawful framed (own s h formed history) none_closed (named s h formed history);
          few = on_is_few t s.names device w;
        },
        tt,
      ),
    )
    (omega (arith, room))
