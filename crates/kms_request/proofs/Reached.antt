-- What a request reaches, as a mask of states tells it.
use Rattle.std.proofs.Common.{◌≡◌, ◌∙◌, ℕ, ◌<◌, Bool, true, false, List, [], ◌∷◌, map, None, inl, inr, arith, refl, sym, ap, subst}
use Rattle.std.specs.Prelude.{◌||◌, ◌==◌, negsuc, filter, is_none, if◌then◌else◌}
use Rattle.std.specs.List.{list_any}
use Rattle.std.proofs.lemmas.Bool.{and_right, cases_Bool, eqb-true, ltb-true}
use Rattle.kms_model.specs.declared.objects.Kind.{Kind}
use Rattle.kms_model.specs.declared.objects.Kind.TheVariants.{Crtc, Plane, Conn, Enc}
use Rattle.kms_model.specs.declared.objects.Topology.{Topology}
use Rattle.kms_model.specs.declared.properties.TheConstants.{IN_FENCE_FD}
use Rattle.kms_model.specs.declared.scripts.Assign.{Assign}
use Rattle.kms_model.specs.declared.scripts.Request.{Request}
use Rattle.kms_model.specs.declared.scripts.Value.{Value}
use Rattle.kms_model.specs.declared.scripts.Value.TheVariants.{Num}
use Rattle.kms_model.specs.declared.states.Duplicates.{Duplicates}
use Rattle.kms_model.specs.declared.states.Mask.{Mask}
use Rattle.kms_model.specs.declared.worlds.Look.{Look}
use Rattle.kms_model.specs.declared.worlds.Setting.{Setting}
use Rattle.kms_model.specs.declared.worlds.Thing as worlds
use Rattle.kms_model.specs.declared.worlds.World.{World}
use Rattle.kms_model.specs.Device.Masks.{mask_below}
use Rattle.kms_model.specs.Device.Objects.{count_of, exists, kind_of, most_of, object_id}
use Rattle.kms_model.specs.Device.Properties.{property}
use Rattle.kms_model.specs.Device.Sound.{IsDevice}
use Rattle.kms_model.specs.Request.Agreement.{AgreesNew, AgreesOld}
use Rattle.kms_model.specs.Request.Apply.{after, apply, assign, object_of, prop_of}
use Rattle.kms_model.specs.Request.Groups.{affected_group, set_group, union}
use Rattle.kms_model.specs.Request.Lookups.{look_up, look_up_any}
use Rattle.kms_model.specs.Request.Named.{is_named_by, names}
use Rattle.kms_model.specs.Request.Reach.{reaches, reaching}
use Rattle.kms_model.specs.Request.Refusals.{assign_refusal, assigns_refusal, early_refusal, is_in_range_of, is_second_fence, is_value}
use Rattle.kms_model.specs.Request.Refusals.{names_fence, own_refusal}
use Rattle.kms_model.specs.Request.Resolves.{IsAllowed}
use Rattle.kms_model.specs.Request.Touched.{is_affected, named_by, sets, touched_by, touches, touches_crtc, touches_of_kind, touches_routed}
use Rattle.kms_model.specs.Request.Verdict.{early_in}
use Rattle.kms_model.proofs.Items.{IsIn, none-number_if, or_else-nones}
use Rattle.kms_model.proofs.KindsOfIds.{kind_of-object}
use Rattle.kms_model.proofs.LateLemmas.{StandAt}
use Rattle.kms_model.proofs.MaskLemmas.{has_bit-below, same_masks}
use Rattle.kms_model.proofs.TouchedLemmas.{IsRequestAt, few_objects, few_of}
use Rattle.kms_laws.proofs.Opened.{agrees-open, all_open, look-open, open-reach, all_numbered-open, sound-open}
use Rattle.kms_props.specs.Setting.{AreSameDuplicated}
use Rattle.kms_request.specs.Groups.{affected_below, objects_assigned}
use Rattle.kms_request.specs.Naming.{AreCrtcs}
use Rattle.kms_request.specs.Whole.{ArePresent, StandBetween, TellSame, allowed_by, is_member, is_named_between, reached_by}
use Rattle.kms_request.proofs.AffectedLemmas.{affected-is, touched-known}
use Rattle.kms_request.proofs.ChangedLemmas.{all-counted, all_after, allowed-own, counted-allowed}
use Rattle.kms_request.proofs.SetGroups.{objects_assigned-is}
use Rattle.kms_request.proofs.WholeLemmas.{named_between-is}

-- What is touched by the states before and after a request

pub spans-touched : {t : Topology} {w : World} {r : Request} {d : Duplicates} {named : ℕ} {touched : Mask} → StandBetween t w r d → named
    ≡ named_by t w r
    → touched ≡ union (union (objects_assigned r.assigns) (record { crtcs = named; planes = 0; conns = 0 }))
    (affected_below d.crtcs named 4) → touched ≡ touched_by t w r
spans-touched {t} {w} {r} {d} {named} {touched} stand named_is touched_is =
    let at : IsRequestAt t w r = record { device = stand.device; sound = stand.sound; early = stand.early } in
    let stands : StandAt t w r d = record { at = at; old = stand.old; new = stand.new } in
    let set : objects_assigned r.assigns ≡ set_group t r = objects_assigned-is t (look_up w) r stand.device stand.early in
    let affected : affected_below d.crtcs named 4
    ≡ affected_group t w r = ap (λ n. affected_below d.crtcs n 4) named_is ∙ affected-is t w r d stands
    (λ i there is. stand.all.crtcs i there) in
    touched-known t w r (objects_assigned r.assigns) (record { crtcs = named; planes = 0; conns = 0 })
    (union (objects_assigned r.assigns) (record { crtcs = named; planes = 0; conns = 0 })) (affected_below d.crtcs named 4) touched
    named
    set named_is refl affected refl touched_is

-- Assignments that name no fence: they touch the same, and none of them is a second fence

abbrev unfenced_value : ℕ → Value → Value
unfenced_value prop v = if prop == IN_FENCE_FD then Num (negsuc 0) else v

abbrev unfenced : Assign → Assign
unfenced a = record a { value = unfenced_value (prop_of a.prop) a.value }

any-unfenced : (q : Assign → Bool) (xs : List Assign) → ((a : Assign) → q (unfenced a) ≡ q a) → list_any q (map unfenced xs) ≡ list_any q xs
any-unfenced q [] same = refl
any-unfenced q (a ∷ xs) same = ap (λ b. b || list_any q (map unfenced xs)) (same a) ∙ ap (λ b. q a || b) (any-unfenced q xs same)

assign-unfenced : (things : List worlds.Thing) (values : List Setting) (a : Assign) → assign things values (unfenced a)
    ≡ assign things values a
assign-unfenced things values a = elim (cases_Bool (prop_of a.prop == IN_FENCE_FD)) [
  | inl fence ↦ rw fence refl
  | inr other ↦ rw other refl
]

apply-unfenced : (things : List worlds.Thing) (values : List Setting) (xs : List Assign) → apply things values (map unfenced xs)
    ≡ apply things values xs
apply-unfenced things values [] = refl
apply-unfenced things values (a ∷ xs) = ap (λ vs. apply things vs (map unfenced xs)) (assign-unfenced things values a) ∙ apply-unfenced
    things (assign things values a) xs

value-unfenced : (t : Topology) (f : ℕ → Look) (a : Assign) → is_value t f a.prop a.value ≡ true
    → is_value t f a.prop (unfenced_value (prop_of a.prop) a.value) ≡ true
value-unfenced t f a is = by_prop (prop_of a.prop) is where
  by_prop : (prop : ℕ) → is_in_range_of t f a.value (property prop) ≡ true
      → is_in_range_of t f (unfenced_value prop a.value) (property prop) ≡ true
  by_prop prop is = elim (cases_Bool (prop == IN_FENCE_FD)) [
    | inl fence ↦ rw (fence, eqb-true prop IN_FENCE_FD fence) refl
    | inr other ↦ rw other is
  ]

allowed-unfenced : {t : Topology} {f : ℕ → Look} {a : Assign} → IsAllowed t f a → IsAllowed t f (unfenced a)
allowed-unfenced {t} {f} {a} allowed = record {
  exists = allowed.exists;
  has = allowed.has;
  mutable = allowed.mutable;
  value = value-unfenced t f
      a allowed.value;
}

no_fence : (o : ℕ) (a : Assign) → names_fence o (unfenced a) ≡ false
no_fence o a = elim (cases_Bool (prop_of a.prop == IN_FENCE_FD)) [
  | inl fence ↦ rw fence (and_right (object_of a == o) false refl)
  | inr other ↦ rw other (and_right (object_of a == o) false refl)
]

-- nothing is wrong with them together where nothing is wrong with each
none-unfenced : (t : Topology) (f : ℕ → Look) (earlier xs : List Assign) → ((o : ℕ) → list_any (names_fence o) earlier ≡ false)
    → ((a : Assign) → IsIn a xs → IsAllowed t f a)
    → assigns_refusal t f earlier (map unfenced xs) ≡ None
unfolding assigns_refusal assign_refusal
none-unfenced t f earlier [] before each = refl
none-unfenced t f earlier (a ∷ xs) before each =
    or_else-nones _ (assigns_refusal t f (unfenced a ∷ earlier) (map unfenced xs))
    (or_else-nones (own_refusal t f (unfenced a)) _ (allowed-own (allowed-unfenced (each a (inl refl))))
    (none-number_if 8 (is_second_fence earlier (unfenced a))
    (and_right (prop_of a.prop == IN_FENCE_FD) (list_any (names_fence (object_of a)) earlier) (before (object_of a)))))
    (none-unfenced t f (unfenced a ∷ earlier) xs (λ o. rw (no_fence o a) (before o)) (λ b is. each b (inr is)))

filter-in : {A : Type 0} (p : A → Bool) (xs : List A) (x : A) → IsIn x (filter p xs) → p x ≡ true
filter-in p [] x is = absurd is
filter-in {A} p (y ∷ ys) x is = by_test (p y) refl (filter-in p ys x) is where
  by_test : (b : Bool) → p y ≡ b → (IsIn x (filter p ys) → p x ≡ true) → IsIn x (if b then y ∷ filter p ys else filter p ys) → p x ≡ true
  by_test true passes rest (inl same) = subst (λ z. p z ≡ true) same passes
  by_test true passes rest (inr later) = rest later
  by_test false out rest later = rest later

objects-unfenced : (xs : List Assign) → objects_assigned (map unfenced xs) ≡ objects_assigned xs
objects-unfenced xs = λ i. record {
  crtcs = mask_below (λ index. any-unfenced (λ a. object_of a == object_id Crtc index) xs (λ a. refl) i) (most_of Crtc);
  planes = mask_below (λ index. any-unfenced (λ a. object_of a == object_id Plane index) xs (λ a. refl) i) (most_of Plane);
  conns = mask_below (λ index. any-unfenced (λ a. object_of a == object_id Conn index) xs (λ a. refl) i) (most_of Conn);
}

abbrev asking : ℕ → ℕ → List Assign → Request
asking flags user_data assigns = record { flags = flags; user_data = user_data; assigns = assigns }

routed-unfenced : (t : Topology) (w : World) (xs : List Assign) (o : ℕ)
    → touches_routed t w.things w.values (apply w.things w.values (map unfenced xs)) (map unfenced xs) o
    ≡ touches_routed t w.things w.values (apply w.things w.values xs) xs o
routed-unfenced t w xs o =
    ap (λ new. touches_routed t w.things w.values new (map unfenced xs) o) (apply-unfenced w.things w.values xs)
    ∙ ap (λ b. b || is_affected t w.things w.values (apply w.things w.values xs) o) (any-unfenced (λ a. object_of a == o) xs (λ a. refl))

kind-unfenced : (k : Kind) (t : Topology) (w : World) (xs : List Assign) (flags others mine more o : ℕ)
    → touches_of_kind k t w (asking flags mine (map unfenced xs)) o ≡ touches_of_kind k t w (asking others more xs) o
kind-unfenced Crtc t w xs flags others mine more o =
    ap (λ new. touches_crtc w.values new (map unfenced xs) o) (apply-unfenced w.things w.values xs)
    ∙ ap (λ b. b || names w.values (apply w.things w.values xs) (map unfenced xs) o) (any-unfenced (λ a. object_of a == o) xs (λ a. refl))
    ∙ ap (λ b. sets xs o || b) (any-unfenced (is_named_by w.values (apply w.things w.values xs) o) xs (λ a. refl))
kind-unfenced Plane t w xs flags others mine more o = routed-unfenced t w xs o
kind-unfenced Conn t w xs flags others mine more o = routed-unfenced t w xs o
kind-unfenced Enc t w xs flags others mine more o = refl

touches-unfenced : (t : Topology) (w : World) (xs : List Assign) (flags others mine more o : ℕ)
    → touches t w (asking flags mine (map unfenced xs)) o ≡ touches t w (asking others more xs) o
unfolding touches
touches-unfenced t w xs flags others mine more o = kind-unfenced (kind_of o) t w xs flags others mine more o

-- Sets of what is touched

touches_at : (t : Topology) (w : World) (r : Request) (k : Kind) (i : ℕ) → i < 100 → touches t w r (object_id k i)
    ≡ touches_of_kind k t w r (object_id k i)
unfolding touches
touches_at t w r k i few = ap (λ j. touches_of_kind j t w r (object_id k i)) (kind_of-object k i few)

few_at : {t : Topology} (k : Kind) (i : ℕ) → IsDevice t → i < count_of t k → i < 100
few_at {t} k i device less = (let few = few_of t k (few_objects t device) in omega (arith, few, less))

touched-same : (t : Topology) (w u : World) (r s : Request) → IsDevice t
    → ((k : Kind) (i : ℕ) → i < count_of t k → touches t w r (object_id k i) ≡ touches t u s (object_id k i)) → touched_by t w r
    ≡ touched_by t u s
touched-same t w u r s device each = λ j. record { crtcs = crtcs j; planes = planes j; conns = conns j } where
  at : (k : Kind) (i : ℕ) → i < count_of t k → touches_of_kind k t w r (object_id k i) ≡ touches_of_kind k t u s (object_id k i)
  at k i less = sym (touches_at t w r k i (few_at k i device less)) ∙ each k i less ∙ touches_at t u s k i (few_at k i device less)

  crtcs : (touched_by t w r).crtcs ≡ (touched_by t u s).crtcs
  crtcs = same_masks _ _ (count_of t Crtc) (at Crtc)

  planes : (touched_by t w r).planes ≡ (touched_by t u s).planes
  planes = same_masks _ _ (count_of t Plane) (at Plane)

  conns : (touched_by t w r).conns ≡ (touched_by t u s).conns
  conns = same_masks _ _ (count_of t Conn) (at Conn)

member-touched : (t : Topology) (w : World) (r : Request) (k : Kind) (i : ℕ) → i < count_of t k → touches_of_kind k t w r (object_id k i)
    ≡ is_member (touched_by t w r) k i
member-touched t w r Crtc i less = sym (has_bit-below (λ index. touches_crtc w.values (after w r) r.assigns (object_id Crtc index))
    (count_of t Crtc) i less)
member-touched t w r Plane i less = sym (has_bit-below
    (λ index. touches_routed t w.things w.values (after w r) r.assigns (object_id Plane index)) (count_of t Plane) i less)
member-touched t w r Conn i less = sym (has_bit-below
    (λ index. touches_routed t w.things w.values (after w r) r.assigns (object_id Conn index)) (count_of t Conn) i less)
member-touched t w r Enc i less = refl

-- an object of the device is in the set of those that a request touches where it touches it
pub touched-member : (t : Topology) (w : World) (r : Request) (k : Kind) (i : ℕ) → IsDevice t → exists t k i ≡ true
    → is_member (touched_by t w r) k i ≡ touches t w r (object_id k i)
touched-member t w r k i device there =
    let less : i < count_of t k = ltb-true i (count_of t k) there in
    sym (touches_at t w r k i (few_at k i device less) ∙ member-touched t w r k i less)

pub reached-member : (t : Topology) (w : World) (r : Request) (k : Kind) (i : ℕ) (reached : Mask) → IsDevice t → exists t k i ≡ true
    → reached ≡ reached_by t w r → is_member reached k i ≡ reaches t w r (object_id k i)
unfolding reaches
reached-member t w r k i reached device there is = ap (λ (m : Mask). is_member m k i) is ∙ touched-member t w
    (record r { assigns = reaching t w r.assigns }) k i device there

-- The present states are those of the world in which all things are open.

pub present-open : {t : Topology} {w : World} {d : Duplicates} → ArePresent t w d → ArePresent t (all_open w) d
present-open {t} {w} {d} present =
    let opened : AgreesOld t (all_open w).things (all_open w).values d = agrees-open t w.things w.values d present.old in
    record {
      device = present.device;
      sound = sound-open t w present.sound;
      numbered = all_numbered-open w present.numbered;
      old = opened;
      new = record {
        crtcs = λ i both e. present.new.crtcs i both e ∙ sym (present.old.crtcs i both e) ∙ opened.crtcs i both e;
        planes = λ i both e. present.new.planes i both e ∙ sym (present.old.planes i both e) ∙ opened.planes i both e;
        conns = λ i both e. present.new.conns i both e ∙ sym (present.old.conns i both e) ∙ opened.conns i both e;
      };
      all = present.all;
    }

pub tells-open : (w : World) (f : ℕ → Look) → TellSame f (look_up_any w) → TellSame f (look_up (all_open w))
tells-open w f tells label = tells label ∙ sym (look-open w label)

-- What is reached

module _ (t : Topology) (w : World) (f : ℕ → Look) (r : Request) (d after : Duplicates) (present : ArePresent t w d)
    (tells : TellSame f (look_up_any w)) (olds : (things : List worlds.Thing) (values : List Setting) → AgreesOld t things values d
    → AgreesOld t things values after)
    (same : AreSameDuplicated d after)
    (new : AgreesNew t (all_open w).things (apply (all_open w).things (all_open w).values (allowed_by t f r.assigns)) after) where
  -- a request that is let through there, and touches the same
  abbrev quiet : Request
  quiet = asking 0 r.user_data (map unfenced (allowed_by t f r.assigns))

  looks_open : f ≡ look_up (all_open w)
  looks_open = λ i label. tells-open w f tells label i

  looks : f ≡ look_up_any w
  looks = λ i label. tells label i

  early : early_refusal t f quiet ≡ None
  unfolding early_refusal
  early = or_else-nones _ _ refl (none-unfenced t f [] (allowed_by t f r.assigns) (λ o. refl)
      (λ a is. counted-allowed t f a (filter-in (λ b. is_none (own_refusal t f b)) r.assigns a is)))

  early_open : early_in t (all_open w) quiet ≡ None
  early_open = ap (λ g. early_refusal t g quiet) (sym looks_open) ∙ early

  stands : StandBetween t (all_open w) quiet after
  stands =
      let opened = present-open present in
      record {
        device = present.device;
        sound = opened.sound;
        early = early_open;
        old = olds (all_open w).things (all_open w).values opened.old;
        new = subst (λ (values : List Setting). AgreesNew t (all_open w).things values after)
            (sym (apply-unfenced (all_open w).things (all_open w).values (allowed_by t f r.assigns))) new;
        all = all_after same present.all;
      }

  touches-quiet : (o : ℕ) → touches t (all_open w) quiet o ≡ touches t w (record r { assigns = allowed_by t f r.assigns }) o
  unfolding reaches
  touches-quiet o =
      open-reach t w quiet o early_open
      ∙ ap (λ assigns. touches t w (record quiet { assigns = assigns }) o)
      (all-counted t (look_up_any w) quiet (ap (λ g. early_refusal t g quiet) (sym looks) ∙ early))
      ∙ touches-unfenced t w (allowed_by t f r.assigns) 0 r.flags r.user_data r.user_data o

  pub reached-is : (items : List Assign) (named : ℕ) (touched : Mask) → items ≡ r.assigns
      → AreCrtcs (λ crtc. list_any (λ a. is_named_between after a crtc) (allowed_by t f items)) named
      → touched ≡ union (union (objects_assigned (allowed_by t f items)) (record { crtcs = named; planes = 0; conns = 0 }))
      (affected_below after.crtcs named 4) → touched ≡ reached_by t w r
  reached-is items named touched same are touched_is =
      let Named : List Assign → Type 0 = λ xs. AreCrtcs (λ crtc. list_any (λ a. is_named_between after a crtc) (allowed_by t f xs)) named in
      let own = subst Named same are in
      let quiet_named : AreCrtcs (λ crtc. list_any (λ a. is_named_between after a crtc) quiet.assigns) named =
      record {
        below = own.below;
        bits = λ i low. own.bits i low ∙ sym
            (any-unfenced (λ a. is_named_between after a (object_id Crtc i)) (allowed_by t f r.assigns) (λ a. refl));
      } in
      let named_is = named_between-is stands quiet_named in
      let set : objects_assigned (allowed_by t f items)
      ≡ objects_assigned quiet.assigns = ap (λ (xs : List Assign). objects_assigned (allowed_by t f xs)) same ∙ sym
      (objects-unfenced (allowed_by t f r.assigns)) in
      let touched_now = touched_is ∙ ap (λ m. union (union m (record { crtcs = named; planes = 0; conns = 0 }))
      (affected_below after.crtcs named 4)) set in
      spans-touched stands named_is touched_now
      ∙ touched-same t (all_open w) w quiet (record r { assigns = allowed_by t f r.assigns }) present.device
      (λ k i less. touches-quiet (object_id k i))
      ∙ ap (λ g. touched_by t w (record r { assigns = allowed_by t g r.assigns })) looks
