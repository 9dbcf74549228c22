-- What a check finds at each of its steps, in the words of the request's world.
use Rattle.std.proofs.Common.{◌≡◌, ◌∙◌, ℕ, ◌<◌, ◌≤◌, Bool, true, false, List, [], ◌∷◌, length, Option, Some, None, inl, inr, refl, sym, ap}
use Rattle.std.proofs.Common.{subst, arith}
use Rattle.std.specs.Prelude.{◌&&◌, ◌||◌, ◌==◌, not, is_some, if◌then◌else◌}
use Rattle.std.specs.List.{list_any, filter_map}
use Rattle.std.specs.Option.{option_map}
use Rattle.std.proofs.lemmas.Bool.{and_parts, eqb-true, eq-eqb, or_right, or_cases, both_ways, cases_Bool, false_from_ne_true}
use Rattle.std.proofs.lemmas.Bool.{true_from_ne_false}
use Rattle.std.proofs.lemmas.List.{length-map}
use Rattle.kms_model.specs.Device.Places.{state_at}
use Rattle.kms_model.specs.declared.objects.Kind.{Kind}
use Rattle.kms_model.specs.declared.objects.Kind.TheVariants as kind
use Rattle.kms_model.specs.declared.objects.ObjId.{ObjId}
use Rattle.kms_model.specs.declared.objects.Topology.{Topology}
use Rattle.kms_model.specs.declared.scripts.Assign.{Assign}
use Rattle.kms_model.specs.declared.scripts.Request.{Request}
use Rattle.kms_model.specs.declared.sets.Resolved.{Resolved}
use Rattle.kms_model.specs.declared.sets.Set.{Set}
use Rattle.kms_model.specs.declared.states.Both.{Both}
use Rattle.kms_model.specs.declared.states.Duplicates.{Duplicates}
use Rattle.kms_model.specs.declared.states.Mask.{Mask}
use Rattle.kms_model.specs.declared.worlds.Look.{Look}
use Rattle.kms_model.specs.declared.worlds.World.{World}
use Rattle.kms_model.specs.Request.Apply.{object_of}
use Rattle.kms_model.specs.Request.Checks.{late_refusal}
use Rattle.kms_model.specs.Firsts.{or_else}
use Rattle.kms_model.specs.Request.Late.{late_of_states}
use Rattle.kms_model.specs.Request.Lookups.{look_up}
use Rattle.kms_model.specs.Device.Masks.{has_bit}
use Rattle.kms_model.specs.Request.Named.{is_routed, is_named_by, names, moves_on, needs_modeset}
use Rattle.kms_model.specs.Device.Objects.{object_id, count_of, ids_of}
use Rattle.kms_model.specs.Request.Resolves.{IsResolved}
use Rattle.kms_model.specs.Request.Sets.{obj_id, out_fences}
use Rattle.kms_model.specs.Device.Sound.{IsDevice}
use Rattle.kms_model.specs.Device.States.{crtc_at}
use Rattle.kms_model.specs.Request.Touched.{named_by, sets, is_affected, set_where, touched_by, is_asked, out_fence_label}
use Rattle.kms_model.specs.Device.World.{value}
use Rattle.kms_model.proofs.Items as items
use Rattle.kms_model.proofs.LateLemmas.{StandAt, Covers, fenced_set, late_of_states-is}
use Rattle.kms_model.proofs.MaskLemmas.{has_bit-below, same_masks}
use Rattle.kms_model.proofs.TouchedLemmas.{IsRequestAt, after, accepted-each, kind_of_object, few_objects, touches, touches_object}
use Rattle.kms_model.proofs.TouchedLemmas.{crtc_at-unset, untouched-modeset}
use Rattle.kms_model.proofs.Facts.{none-some}
use Rattle.kms_request.specs.Naming as naming
use Rattle.kms_state.specs.Places.{old_states, olds}
use Rattle.kms_state.proofs.Slots.{AgreesOld-same, there_old}
use Rattle.kms_model.specs.Request.Deciding.{IsOfRequest, AreFresh, IsAskedFor}
use Rattle.kms_check.specs.Applying.{set_all, SetsAll}
use Rattle.kms_model.specs.Request.Groups.{set_group, named_group, affected_group}
use Rattle.kms_request.specs.Groups.{affected_below, crtcs_fenced, objects_set}
use Rattle.kms_check.specs.Lacking.{first_lacking, is_empty, lacking, missing_in, not_duplicated}
use Rattle.kms_check.proofs.Readiness.{HasRoom, IsCovered, covered, named-covers}
use Rattle.kms_request.proofs.AffectedLemmas.{affected-is}
use Rattle.kms_request.proofs.NamedLemmas.{shorter}
use Rattle.kms_request.proofs.SetGroups.{objects_set-is}
use Rattle.kms_check.proofs.RequestFacts.{request_at, fresh-agrees}
use Rattle.kms_check.proofs.ValuesAfter.{number_in, numbered, value-last_sets, agrees-same}

-- After the sets were applied

pub applied : {t : Topology} {w : World} {r : Request} {resolved : Resolved} {d : Duplicates} (d' : Duplicates) → IsOfRequest t w r resolved
    d → AreFresh d
    → SetsAll d resolved.sets d' → old_states d' ≡ old_states d → StandAt t w r d'
applied {t} {w} {r} {resolved} {d} d' is fresh sets_all same = record {
  at = request_at is;
  old = AgreesOld-same t w.things w.values d d' same is.old;
  new = agrees-same (after w r)
      (λ object prop. ap (λ ss. value (set_all w.values (number_in (after w r)) ss) object prop) is.asks.sets ∙ value-last_sets w r object
      prop)
      (sets_all t w.things w.values (number_in (after w r)) (numbered is) (fresh-agrees is fresh));
}

there-same : {S : Type 0} (xs ys : List (Option (Both S))) (i : ℕ) → olds xs ≡ olds ys → is_some (state_at xs i) ≡ is_some (state_at ys i)
there-same {S} xs ys i same = there_old xs i ∙ ap (λ (zs : List (Option S)). is_some (state_at zs i)) same ∙ sym (there_old ys i)

length-same : {S : Type 0} (xs ys : List (Option (Both S))) → olds xs ≡ olds ys → length xs ≡ length ys
length-same xs ys same = sym (length-map xs (option_map (λ b. b.old))) ∙ ap length same ∙ length-map ys (option_map (λ b. b.old))

-- no place comes or goes as sets are applied
pub room-same : (d d' : Duplicates) → old_states d' ≡ old_states d → HasRoom d → HasRoom d'
room-same d d' same room = record {
  crtcs = length-same d'.crtcs d.crtcs (ap (λ s. s.crtcs) same) ∙ room.crtcs;
  planes = length-same d'.planes d.planes (ap (λ s. s.planes) same) ∙ room.planes;
  conns = length-same d'.conns d.conns (ap (λ s. s.conns) same) ∙ room.conns;
}

missing_in-same : {S : Type 0} (mask : ℕ) (xs ys : List (Option (Both S))) (n : ℕ) → olds xs ≡ olds ys → missing_in mask xs n
    ≡ missing_in mask ys n
missing_in-same mask xs ys n same = same_masks _ _ n
    (λ i h. ap (λ b. has_bit mask i && b) (none-some (state_at xs i) ∙ ap not (there-same xs ys i same) ∙ sym (none-some (state_at ys i))))

-- what is not_duplicated of a set does not change as sets are applied
pub lacking-same : {d d' : Duplicates} (m : Mask) → HasRoom d → HasRoom d' → old_states d' ≡ old_states d → lacking d' m ≡ lacking d m
lacking-same {d} {d'} m room room' same =
    let crtcs : missing_in m.crtcs d'.crtcs (length d'.crtcs)
    ≡ missing_in m.crtcs d.crtcs (length d.crtcs) = missing_in-same m.crtcs d'.crtcs d.crtcs (length d'.crtcs) (ap (λ s. s.crtcs) same)
    ∙ ap (missing_in m.crtcs d.crtcs) (room'.crtcs ∙ sym room.crtcs) in
    let planes : missing_in m.planes d'.planes (length d'.planes)
    ≡ missing_in m.planes d.planes (length d.planes) = missing_in-same m.planes d'.planes d.planes (length d'.planes)
    (ap (λ s. s.planes) same) ∙ ap (missing_in m.planes d.planes) (room'.planes ∙ sym room.planes) in
    let conns : missing_in m.conns d'.conns (length d'.conns)
    ≡ missing_in m.conns d.conns (length d.conns) = missing_in-same m.conns d'.conns d.conns (length d'.conns) (ap (λ s. s.conns) same)
    ∙ ap (missing_in m.conns d.conns) (room'.conns ∙ sym room.conns) in
    let all : not_duplicated d' m ≡ not_duplicated d m = λ i. record { crtcs = crtcs i; planes = planes i; conns = conns i } in
    ap (λ x. if is_empty x then None else Some x) all

-- The CRTC of a touched plane is touched

crtc-needed : {t : Topology} {w : World} {r : Request} (crtc : ℕ) → IsRequestAt t w r → needs_modeset t w.things w.values (after w r) crtc
    ≡ true → touches w r crtc ≡ true
crtc-needed {t} {w} {r} crtc at need = true_from_ne_false (touches w r crtc)
    (λ untouched. both_ways _ (untouched-modeset t w r crtc at untouched) need)

set_plane-names : {t : Topology} {w : World} {r : Request} (plane : ℕ) {crtc : ℕ} → IsRequestAt t w r → items.IsIn plane (ids_of t
    kind.Plane)
    → sets r.assigns plane ≡ true → crtc_at (after w r) plane ≡ crtc → names w.values (after w r) r.assigns crtc ≡ true
set_plane-names {t} {w} {r} plane {crtc} at is set on = by_assign (items.list_any-some (λ a. object_of a == plane) r.assigns set)
  where
    by_assign : items.Passes (λ a. object_of a == plane) r.assigns → names w.values (after w r) r.assigns crtc ≡ true
    by_assign found =
        let same : object_of found.item ≡ plane = eqb-true (object_of found.item) plane found.holds in
        let of_kind : found.item.kind ≡ kind.Plane = kind_of_object t w found.item kind.Plane plane at.device
        (accepted-each t w r found.item at found.is_in) is same in
        let there : (crtc_at (after w r) plane == crtc) ≡ true = eq-eqb (crtc_at (after w r) plane) crtc on in
        let moves : moves_on w.values (after w r) crtc plane ≡ true = or_right (crtc_at w.values plane == crtc) _ there in
        let routed : (is_routed found.item.kind && moves_on w.values (after w r) crtc (object_of found.item))
        ≡ true = ap (λ k. is_routed k && moves_on w.values (after w r) crtc (object_of found.item)) of_kind ∙ ap
        (moves_on w.values (after w r) crtc) same ∙ moves in
        items.list_any-has (is_named_by w.values (after w r) crtc) r.assigns found.item found.is_in
        (or_right (object_of found.item == crtc) _ routed)

touched-crtc_of : {t : Topology} {w : World} {r : Request} (plane : ℕ) {crtc : ℕ} → IsRequestAt t w r → items.IsIn plane (ids_of t
    kind.Plane)
    → crtc_at (after w r) plane ≡ crtc → touches_object t w r plane ≡ true → touches w r crtc ≡ true
touched-crtc_of {t} {w} {r} plane {crtc} at is on touched = elim (cases_Bool (sets r.assigns plane)) [
  | inl set ↦ or_right (sets r.assigns crtc) _ (set_plane-names plane at is set on)
  | inr unset ↦ by_crtc unset (items.list_any-some
      (λ c. needs_modeset t w.things w.values (after w r) c && moves_on w.values (after w r) c plane) (ids_of t kind.Crtc)
      (affected_of unset))
]
  where
    affected_of : sets r.assigns plane ≡ false → is_affected t w.things w.values (after w r) plane ≡ true
    affected_of unset = ap (λ b. b || is_affected t w.things w.values (after w r) plane) (sym unset) ∙ touched

    by_crtc : sets r.assigns plane ≡ false → items.Passes
        (λ c. needs_modeset t w.things w.values (after w r) c && moves_on w.values (after w r) c plane) (ids_of t kind.Crtc)
        → touches w r crtc ≡ true
    by_crtc unset found =
        let both = and_parts (needs_modeset t w.things w.values (after w r) found.item) (moves_on w.values (after w r) found.item plane)
        found.holds in
        let before : crtc_at w.values plane ≡ crtc = sym (crtc_at-unset w r plane unset) ∙ on in
        let same : crtc ≡ found.item = elim (or_cases (crtc_at w.values plane == found.item) (crtc_at (after w r) plane == found.item)
        both.1) [
          | inl old ↦ sym before ∙ eqb-true (crtc_at w.values plane) found.item old
          | inr new ↦ sym on ∙ eqb-true (crtc_at (after w r) plane) found.item new
        ] in
        subst (λ c. touches w r c ≡ true) (sym same) (crtc-needed found.item at both.0)

-- What is duplicated covers what the request touches

group-bit : (t : Topology) (k : Kind) (test : ℕ → Bool) (i : ℕ) → i < count_of t k → test (object_id k i) ≡ true
    → has_bit (set_where t k test) i ≡ true
group-bit t k test i within holds = has_bit-below (λ j. test (object_id k j)) (count_of t k) i within ∙ holds

group-test : (t : Topology) (k : Kind) (test : ℕ → Bool) (i : ℕ) → i < count_of t k → has_bit (set_where t k test) i ≡ true
    → test (object_id k i) ≡ true
group-test t k test i within member = sym (has_bit-below (λ j. test (object_id k j)) (count_of t k) i within) ∙ member

pub covers-touched : {t : Topology} {w : World} {r : Request} {d : Duplicates} → IsRequestAt t w r → HasRoom d → IsCovered d (set_group t r)
    → IsCovered d (named_group t w r) → IsCovered d (affected_group t w r)
    → Covers t w r d (touched_by t w r)
covers-touched {t} {w} {r} {d} at room set named affected =
    let few = few_objects t at.device in
    let crtc_there : (i : ℕ) → i < count_of t kind.Crtc → touches w r (object_id kind.Crtc i) ≡ true → is_some (state_at d.crtcs i)
    ≡ true = λ i within touched. elim (or_cases (sets r.assigns (object_id kind.Crtc i))
    (names w.values (after w r) r.assigns (object_id kind.Crtc i)) touched) [
      | inl is_set ↦ set.crtcs i (omega (arith, room.crtcs, few.crtcs)) (group-bit t kind.Crtc (sets r.assigns) i within is_set)
      | inr is_named ↦ named.crtcs i (omega (arith, room.crtcs, few.crtcs))
          (group-bit t kind.Crtc (names w.values (after w r) r.assigns) i within is_named)
    ] in
    record {
      planes = λ i within touched. group-bit t kind.Plane (touches_object t w r) i within touched;
      crtcs = λ i within touched. group-bit t kind.Crtc (touches w r) i within touched;
      conns = λ i within touched. group-bit t kind.Conn (touches_object t w r) i within touched;
      has_planes = λ i within member. elim (or_cases (sets r.assigns (object_id kind.Plane i))
          (is_affected t w.things w.values (after w r) (object_id kind.Plane i))
          (group-test t kind.Plane (touches_object t w r) i within member)) [
            | inl is_set ↦ set.planes i (omega (arith, room.planes, few.planes)) (group-bit t kind.Plane (sets r.assigns) i within is_set)
            | inr is_affected_one ↦ affected.planes i (omega (arith, room.planes, few.planes))
                (group-bit t kind.Plane (is_affected t w.things w.values (after w r)) i within is_affected_one)
          ];
      has_crtcs = λ i within member. crtc_there i within (group-test t kind.Crtc (touches w r) i within member);
      has_conns = λ i within member. elim (or_cases (sets r.assigns (object_id kind.Conn i))
          (is_affected t w.things w.values (after w r) (object_id kind.Conn i))
          (group-test t kind.Conn (touches_object t w r) i within member)) [
            | inl is_set ↦ set.conns i (omega (arith, room.conns, few.conns)) (group-bit t kind.Conn (sets r.assigns) i within is_set)
            | inr is_affected_one ↦ affected.conns i (omega (arith, room.conns, few.conns))
                (group-bit t kind.Conn (is_affected t w.things w.values (after w r)) i within is_affected_one)
          ];
      has_crtc_of = λ i j within member below on. crtc_there j below
          (touched-crtc_of (object_id kind.Plane i) at (items.ids-has t kind.Plane i within) on
          (group-test t kind.Plane (touches_object t w r) i within member));
    }

-- a named CRTC is duplicated
pub named-there : {t : Topology} {w : World} {r : Request} {d : Duplicates} → IsRequestAt t w r → HasRoom d
    → IsCovered d (named_group t w r)
    → (i : ℕ) → i < t.crtcs → names w.values (after w r) r.assigns (object_id kind.Crtc i) ≡ true → is_some (state_at d.crtcs i) ≡ true
named-there {t} {w} {r} at room named i within is =
    let few = few_objects t at.device in
    named.crtcs i (omega (arith, room.crtcs, few.crtcs)) (group-bit t kind.Crtc (names w.values (after w r) r.assigns) i within is)

-- The out-fences that are asked for

-- a CRTC with the label of its out-fence
abbrev fence_of : List Assign → ℕ → Option (ObjId × ℕ)
fence_of assigns crtc = option_map (λ label. (obj_id crtc, label)) (out_fence_label assigns crtc)

abbrev is_of : ℕ → ObjId × ℕ → Bool
is_of crtc f = f.0.0 == crtc

fenced-ids : (assigns : List Assign) (ids : List ℕ) (crtc : ℕ) → list_any (is_of crtc) (filter_map (fence_of assigns) ids)
    ≡ list_any (λ c. is_asked (out_fence_label assigns c) && (c == crtc)) ids
fenced-ids assigns [] crtc = refl
fenced-ids assigns (c ∷ ids) crtc = go (out_fence_label assigns c) refl (fenced-ids assigns ids crtc)
  where
    go : (o : Option ℕ) → out_fence_label assigns c ≡ o → list_any (is_of crtc) (filter_map (fence_of assigns) ids)
        ≡ list_any (λ x. is_asked (out_fence_label assigns x) && (x == crtc)) ids
        → list_any (is_of crtc) (filter_map (fence_of assigns) (c ∷ ids))
        ≡ ((is_asked (out_fence_label assigns c) && (c == crtc)) || list_any (λ x. is_asked (out_fence_label assigns x) && (x == crtc)) ids)
    go None is rest = rw is rest
    go (Some label) is rest = rw is (ap (λ b. (c == crtc) || b) rest)

-- whether a CRTC of a device is asked for a fence
asked-crtc : (t : Topology) (assigns : List Assign) (crtc : ℕ) → items.IsIn crtc (ids_of t kind.Crtc)
    → list_any (λ c. is_asked (out_fence_label assigns c) && (c == crtc)) (ids_of t kind.Crtc) ≡ is_asked (out_fence_label assigns crtc)
asked-crtc t assigns crtc is = elim (cases_Bool (is_asked (out_fence_label assigns crtc))) [
  | inl asked ↦ items.list_any-has (λ c. is_asked (out_fence_label assigns c) && (c == crtc)) (ids_of t kind.Crtc) crtc is
      (rw (asked, eq-eqb crtc crtc refl) refl) ∙ sym asked
  | inr unasked ↦ items.list_any-none (λ c. is_asked (out_fence_label assigns c) && (c == crtc)) (ids_of t kind.Crtc)
      (λ c other. false_from_ne_true _ (λ both.
      let parts = and_parts (is_asked (out_fence_label assigns c)) (c == crtc) both in
      both_ways _ unasked (ap (λ x. is_asked (out_fence_label assigns x)) (sym (eqb-true c crtc parts.1)) ∙ parts.0))) ∙ sym unasked
]

-- a number that is no CRTC's id is asked for none
no_crtc : (t : Topology) (assigns : List Assign) (i : ℕ) → t.crtcs ≤ i
    → list_any (λ c. is_asked (out_fence_label assigns c) && (c == object_id kind.Crtc i)) (ids_of t kind.Crtc) ≡ false
no_crtc t assigns i beyond = items.list_any-none (λ c. is_asked (out_fence_label assigns c) && (c == object_id kind.Crtc i))
    (ids_of t kind.Crtc) (λ c is. false_from_ne_true _ (λ both.
    let same : c ≡ object_id kind.Crtc i = eqb-true c (object_id kind.Crtc i)
    (and_parts (is_asked (out_fence_label assigns c)) (c == object_id kind.Crtc i) both).1 in
    let o : items.IsObject t kind.Crtc c = items.ids-in t kind.Crtc c is in
    omega (arith, o.within, o.same)))

pub fenced-is : {t : Topology} {w : World} {r : Request} {resolved : Resolved} {d : Duplicates} → IsOfRequest t w r resolved d
    → crtcs_fenced resolved.out_fences ≡ fenced_set t r
unfolding out_fences
fenced-is {t} {r} is =
    let few = few_objects t is.device in
    ap crtcs_fenced is.asks.out_fences
    ∙ same_masks (λ i. list_any (is_of (object_id kind.Crtc i)) (filter_map (fence_of r.assigns) (ids_of t kind.Crtc)))
    (λ i. list_any (λ c. is_asked (out_fence_label r.assigns c) && (c == object_id kind.Crtc i)) (ids_of t kind.Crtc)) 4
    (λ i h. fenced-ids r.assigns (ids_of t kind.Crtc) (object_id kind.Crtc i))
    ∙ shorter (λ i. list_any (λ c. is_asked (out_fence_label r.assigns c) && (c == object_id kind.Crtc i)) (ids_of t kind.Crtc)) t.crtcs 4
    few.crtcs (λ i low high. no_crtc t r.assigns i low)
    ∙ same_masks _ _ t.crtcs (λ i h. asked-crtc t r.assigns (object_id kind.Crtc i) (items.ids-has t kind.Crtc i h))

-- What the groups lack, as the steps find it

set-lacking-asked : {t : Topology} {f : ℕ → Look} {r : Request} {resolved : Resolved} (d : Duplicates) {sets_read : List Set} {set : Mask}
    {found : Option Mask} → IsDevice t → IsResolved t f r resolved → sets_read ≡ resolved.sets → set ≡ objects_set sets_read → found
    ≡ lacking d set
    → lacking d (set_group t r) ≡ found
set-lacking-asked {t} {f} {r} {resolved} d device asks read made lacks = ap (lacking d)
    (sym (objects_set-is t f r resolved device asks) ∙ ap objects_set (sym read) ∙ sym made) ∙ sym lacks

pub set-lacking : {t : Topology} {w : World} {r : Request} {resolved : Resolved} {d : Duplicates} {sets_read : List Set} {set : Mask}
    {found : Option Mask} → IsOfRequest t w r resolved d → sets_read ≡ resolved.sets → set ≡ objects_set sets_read → found ≡ lacking d set
    → lacking d (set_group t r) ≡ found
set-lacking {t} {w} {r} {resolved} {d} {sets_read} {set} {found} is = set-lacking-asked d is.device is.asks

-- the same of what is asked for somewhere
pub asked-lacking : {t : Topology} (resolved : Resolved) (d : Duplicates) {sets_read : List Set} {set : Mask} {found : Option Mask}
    → IsDevice t → (asked : IsAskedFor t resolved) → sets_read ≡ resolved.sets → set ≡ objects_set sets_read → found ≡ lacking d set
    → lacking d (set_group t asked.request) ≡ found
asked-lacking {t} resolved d {sets_read} {set} {found} device asked = set-lacking-asked d
    device asked.asks

pub first-set : (t : Topology) (w : World) (r : Request) (d : Duplicates) {locks : Mask} → lacking d (set_group t r) ≡ Some locks
    → Some locks ≡ first_lacking t w r d
first-set t w r d lacks = sym (ap (λ o. or_else o (or_else (lacking d (named_group t w r)) (lacking d (affected_group t w r)))) lacks)

pub first-named : (t : Topology) (w : World) (r : Request) (d : Duplicates) {locks : Mask} → lacking d (set_group t r) ≡ None
    → lacking d (named_group t w r) ≡ Some locks → Some locks ≡ first_lacking t w r d
first-named t w r d none lacks = sym (ap (λ o. or_else o (or_else (lacking d (named_group t w r)) (lacking d (affected_group t w r))))
    none ∙ ap (λ o. or_else o (lacking d (affected_group t w r))) lacks)

pub first-affected : (t : Topology) (w : World) (r : Request) (d : Duplicates) {found : Option Mask} → lacking d (set_group t r) ≡ None
    → lacking d (named_group t w r) ≡ None → lacking d (affected_group t w r) ≡ found → found ≡ first_lacking t w r d
first-affected t w r d none none_named lacks = sym
    (ap (λ o. or_else o (or_else (lacking d (named_group t w r)) (lacking d (affected_group t w r)))) none ∙ ap
    (λ o. or_else o (lacking d (affected_group t w r))) none_named ∙ lacks)

-- what is asked for and what is refused exclude one another
pub asked-first : {A : Type 0} {locks : Mask} {first : Option Mask} (a b : Option A) → Some locks ≡ first → first ≡ None → a ≡ b
asked-first {locks} a b some none = absurd (none_is_some locks (some ∙ none))
  where
    none_is_some : (m : Mask) → Some m ≡ None → ⊥
    none_is_some m e = cc

-- What is known once all that is set is duplicated

pub record HasSets (t : Topology) (w : World) (r : Request) (resolved : Resolved) (d : Duplicates) : Type 0 where
  pub is : IsOfRequest t w r resolved d
  pub room : HasRoom d
  pub none : lacking d (set_group t r) ≡ None

pub named-known : {t : Topology} {w : World} {r : Request} {resolved : Resolved} {d : Duplicates} (named : ℕ) → HasSets t w r resolved d
    → ((u : Topology) (v : World) (f : ℕ → Look) (q : Request) → naming.Covers u v f q resolved d → named ≡ named_by u v q) → named
    ≡ named_by t w r
named-known {t} {w} {r} {resolved} {d} named has tells = tells t w (look_up w) r
    (named-covers has.is has.room (covered d (set_group t r) has.none))

pub named-lacking : (t : Topology) (w : World) (r : Request) (d : Duplicates) {named : ℕ} {crtcs : Mask} {found : Option Mask} → named
    ≡ named_by t w r → crtcs ≡ record { crtcs = named; planes = 0; conns = 0 } → found ≡ lacking d crtcs
    → lacking d (named_group t w r) ≡ found
named-lacking t w r d {crtcs} known made lacks = ap (λ n. lacking d (record { crtcs = n; planes = 0; conns = 0 })) (sym known) ∙
    ap (lacking d) (sym made) ∙ sym lacks

-- Once all that is named is duplicated too, and the sets were applied

pub record HasApplied (t : Topology) (w : World) (r : Request) (resolved : Resolved) (d d' : Duplicates) (named : ℕ) : Type 0 where
  pub has : HasSets t w r resolved d
  pub room : HasRoom d'
  pub named_is : named ≡ named_by t w r
  pub none : lacking d (named_group t w r) ≡ None
  pub stand : StandAt t w r d'
  pub same : old_states d' ≡ old_states d

pub affected-lacking : {t : Topology} {w : World} {r : Request} {resolved : Resolved} {d d' : Duplicates} {named : ℕ} {affected : Mask}
    {found : Option Mask} → HasApplied t w r resolved d d' named → affected ≡ affected_below d'.crtcs named 4 → found ≡ lacking d' affected
    → lacking d (affected_group t w r) ≡ found
affected-lacking {t} {w} {r} {d} {d'} {affected} has made lacks =
    let covers_named : IsCovered d' (named_group t w r) = covered d' (named_group t w r)
    (lacking-same (named_group t w r) has.has.room has.room has.same ∙ has.none) in
    let known : affected ≡ affected_group t w r = made ∙ ap (λ n. affected_below d'.crtcs n 4) has.named_is ∙ affected-is t w r d' has.stand
    (named-there has.stand.at has.room covers_named) in
    sym (lacking-same (affected_group t w r) has.has.room has.room has.same) ∙ ap (lacking d') (sym known) ∙ sym lacks

pub affected-known : {t : Topology} {w : World} {r : Request} {resolved : Resolved} {d d' : Duplicates} {named : ℕ} {affected : Mask}
    → HasApplied t w r resolved d d' named → affected ≡ affected_below d'.crtcs named 4 → affected ≡ affected_group t w r
affected-known {t} {w} {r} {d} {d'} has made =
    let covers_named : IsCovered d' (named_group t w r) = covered d' (named_group t w r)
    (lacking-same (named_group t w r) has.has.room has.room has.same ∙ has.none) in
    made ∙ ap (λ n. affected_below d'.crtcs n 4) has.named_is ∙ affected-is t w r d' has.stand
    (named-there has.stand.at has.room covers_named)

-- The states that are looked at cover what the request touches.
pub all-covered : {t : Topology} {w : World} {r : Request} {resolved : Resolved} {d d' : Duplicates} {named : ℕ}
    → HasApplied t w r resolved d d' named → lacking d (affected_group t w r) ≡ None → Covers t w r d' (touched_by t w r)
all-covered {t} {w} {r} {d} {d'} has none =
    covers-touched has.stand.at has.room
    (covered d' (set_group t r) (lacking-same (set_group t r) has.has.room has.room has.same ∙ has.has.none))
    (covered d' (named_group t w r) (lacking-same (named_group t w r) has.has.room has.room has.same ∙ has.none))
    (covered d' (affected_group t w r) (lacking-same (affected_group t w r) has.has.room has.room has.same ∙ none))

-- The first refusal that is found is that of the whole device.
pub refusal-known : {t : Topology} {w : World} {r : Request} {resolved : Resolved} {d d' : Duplicates} {named fenced : ℕ} {touched : Mask}
    {fences : List (ObjId × ℕ)} {found : Option ℕ} → HasApplied t w r resolved d d' named → lacking d (affected_group t w r) ≡ None
    → touched ≡ touched_by t w r → fences ≡ resolved.out_fences → fenced ≡ crtcs_fenced fences → found
    ≡ late_of_states t d' touched resolved.flags named fenced
    → found ≡ late_refusal t w.things w.values (after w r) r
refusal-known {t} {w} {r} {resolved} {d} {d'} {named} {fenced} has none touched_is read fenced_made found_is =
    let fenced_known : fenced ≡ fenced_set t r = fenced_made ∙ ap crtcs_fenced read ∙ fenced-is has.has.is in
    found_is ∙ ap (λ m. late_of_states t d' m resolved.flags named fenced) touched_is ∙ ap
    (λ n. late_of_states t d' (touched_by t w r) n named fenced) has.has.is.asks.flags
    ∙ ap (λ n. late_of_states t d' (touched_by t w r) r.flags n fenced) has.named_is
    ∙ ap (late_of_states t d' (touched_by t w r) r.flags (named_by t w r)) fenced_known
    ∙ late_of_states-is t w r d' (touched_by t w r) has.stand (all-covered has none)
