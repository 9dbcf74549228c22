-- What each kind of step frees.
use Rattle.std.proofs.Common.{◌≡◌, ℕ, suc, ◌+◌, ◌<◌, ◌≤◌, List, [], ◌∷◌, ◌++◌, length, map, Bool, true, false, not, ◌&&◌, ◌||◌, ◌==◌}
use Rattle.std.proofs.Common.{Option, Some, None, refl, sym, ap, ◌∙◌, subst, arith, inl, inr, ◌⊎◌}
use Rattle.std.specs.Prelude.{filter, if◌then◌else◌}
use Rattle.std.specs.List.{list_any, range_with_len}
use Rattle.std.proofs.lemmas.Bool.{and_from, and_parts, cases_Bool, cases_eq, cond-false, cond-true, eq-eqb, eqb-true, false≢true, ne_eqb}
use Rattle.std.proofs.lemmas.Bool.{not-true, or_cases, or_from, or_left, or_parts, or_right}
use Rattle.kms_model.specs.declared.objects.Kind.TheVariants.{Crtc, Plane}
use Rattle.kms_model.specs.declared.objects.Topology.{Topology}
use Rattle.kms_model.specs.declared.replies.Step.{Step}
use Rattle.kms_model.specs.declared.scripts.Assign.{Assign}
use Rattle.kms_model.specs.declared.scripts.Script.{Script}
use Rattle.kms_model.specs.declared.worlds.Content.TheVariants as content
use Rattle.kms_model.specs.declared.worlds.Thing.{Thing}
use Rattle.kms_model.specs.declared.worlds.World.{World}
use Rattle.kms_model.specs.Device.Execution.{committed, is_framebuffer, make_out_fences, make_out_fence}
use Rattle.kms_model.specs.Device.Objects.{ids_of}
use Rattle.kms_model.specs.Device.Sound.{AreNumbered}
use Rattle.kms_model.specs.Device.States.{plane_at}
use Rattle.kms_model.specs.Device.World.{thing_with_id}
use Rattle.kms_model.specs.Machine.Commits.{commit_at, commit_touches, has_number, is_cleaned, new_plane, new_values, old_plane, old_values}
use Rattle.kms_model.specs.Machine.Effects.{next}
use Rattle.kms_model.specs.Machine.Framebuffers.{commit_keeps, commits_keep, is_fb, is_needed, live_names, picture_names, values_name}
use Rattle.kms_model.specs.Machine.Histories.{at, commit_numbers, is_history, legal}
use Rattle.kms_model.specs.Machine.Registers.{PlaneWords, Registers, decoded_picture, fb_number, plane_words}
use Rattle.kms_model.specs.Machine.State.{Commit, DeviceState, Machine}
use Rattle.kms_model.specs.Request.Touched.{out_fence_label}
use Rattle.kms_model.proofs.Items.{IsIn, list_any-has, list_any-same, list_any-some}
use Rattle.kms_laws.proofs.Framebuffers.{framebuffers_once, range-below, word_fb, find-same}
use Rattle.kms_laws.proofs.Invariants.{plane_after}
use Rattle.kms_laws.proofs.Numbered.{plane_old}
use Rattle.kms_model.proofs.ThingLemmas.{find-in, ids-numbered}
use Rattle.kms_model.proofs.CommitFacts.{commit_old, commit_new, touches_old}
use Rattle.kms_model.proofs.ShownLemmas.{with-id}
use Rattle.kms_model.proofs.CrtcLemmas.{all_in}
use Rattle.kms_model.specs.declared.pictures.FbInfo.{FbInfo}
use Rattle.kms_model.specs.declared.states.PlaneState.{PlaneState}
use Rattle.kms_laws.proofs.Steps.{Holds, IsPlainScript}
use Rattle.kms_laws.proofs.Headlines.{range-in}
use Rattle.kms_core.specs.Freeing.{AreAllOf, AreRising, freed_among, is_framebuffer_in, label_and_id}
use Rattle.kms_core.specs.Stored.{held_as, held_where}
use Rattle.kms_core.proofs.freeing.FreedLists.{filter-none, length-fewer, passes}
use Rattle.kms_core.proofs.freeing.FreedBetween.{IsGrown, IsGrownAt, IsSameOrNone, fewer_needed, freed_told, lost, needed_framebuffer}
use Rattle.kms_core.proofs.freeing.FreedBetween.{places_suffice, same_or_none}

-- What is needed is told by four parts of a machine.

pub live_same : (t : Topology) (m n : Machine) (id : ℕ) → n.device.live ≡ m.device.live → live_names t n.device id
    ≡ live_names t m.device id
unfolding live_names
live_same t m n id same = ap (λ (live : Registers). list_any (λ crtc. picture_names id (decoded_picture t live crtc)) (ids_of t Crtc)) same

kept_of : Topology → List Commit → List ℕ → ℕ → Bool
kept_of t cs cleaned id =
    list_any (λ k. not (has_number cleaned k) && list_any
    (λ plane. commit_touches t cs k plane && (is_fb id (old_plane t cs k plane).fb || is_fb id (new_plane t cs k plane).fb))
    (ids_of t Plane)) (range_with_len 0 (length cs))

kept_is : (t : Topology) (m : Machine) (id : ℕ) → commits_keep t m id ≡ kept_of t m.device.commits m.device.marks.cleaned id
unfolding commit_keeps kept_of
kept_is t m id = refl

pub kept_same : (t : Topology) (m n : Machine) (id : ℕ) → n.device.commits ≡ m.device.commits → n.device.marks.cleaned
    ≡ m.device.marks.cleaned → commits_keep t n id ≡ commits_keep t m id
kept_same t m n id commits cleaned = kept_is t n id ∙ (λ i. kept_of t (commits i) (cleaned i) id) ∙ sym (kept_is t m id)

pub needed_same : (t : Topology) (m n : Machine) (x : Thing) → values_name t n.device x.id ≡ values_name t m.device x.id
    → live_names t n.device x.id ≡ live_names t m.device x.id → commits_keep t n x.id ≡ commits_keep t m x.id
    → is_needed t n x ≡ is_needed t m x
unfolding is_needed
needed_same t m n x values live kept = λ i. is_framebuffer x.content && (x.is_open || (values i || (live i || kept i)))

pub values_same : (t : Topology) (m n : Machine) (id : ℕ)
    → ((p : ℕ) → IsIn p (ids_of t Plane) → plane_at n.device.world.things n.device.world.values p
    ≡ plane_at m.device.world.things m.device.world.values p)
    → values_name t n.device id ≡ values_name t m.device id
unfolding values_name
values_same t m n id same = list_any-same _ _ (ids_of t Plane) (λ p is. ap (λ (state : _). is_fb id state.fb) (same p is))

-- Where nothing is freed

-- nothing is freed between two machines, no more is needed after than before, and the same is stored
pub record IsQuiet (t : Topology) (m n : Machine) : Type 0 where
  pub none : filter (lost (is_needed t m) (is_needed t n) n.device.world.things) m.device.world.things ≡ []
  pub fewer : length (filter (is_needed t n) n.device.world.things) ≤ length (filter (is_needed t m) m.device.world.things)
  pub grown : IsGrown t m n
  pub steady : (id : ℕ)
      → held_where (is_needed t n) (thing_with_id n.device.world.things id) ≡ held_where (is_needed t m)
      (thing_with_id m.device.world.things id)

-- the things of a machine, and further ones
pub record IsLonger (t : Topology) (m n : Machine) (more : List Thing) : Type 0 where
  pub things : n.device.world.things ≡ m.device.world.things ++ more
  pub same : (x : Thing) → IsIn x m.device.world.things → is_needed t n x ≡ is_needed t m x

with_id_longer : (xs more : List Thing) (id : ℕ) {x : Thing} → thing_with_id xs id ≡ Some x → thing_with_id (xs ++ more) id ≡ Some x
with_id_longer [] more id found = absurd cc
with_id_longer (u ∷ us) more id {x} found =
    elim (cases_Bool (u.id == id)) [
      | inl here ↦ cond-true (u.id == id) (Some u) (thing_with_id (us ++ more) id) here ∙ sym
          (cond-true (u.id == id) (Some u) (thing_with_id us id) here) ∙ found
      | inr away ↦ cond-false (u.id == id) (Some u) (thing_with_id (us ++ more) id) away ∙ with_id_longer us more id
          (sym (cond-false (u.id == id) (Some u) (thing_with_id us id) away) ∙ found)
    ]

with_id_none : (xs more : List Thing) (id : ℕ) → thing_with_id xs id ≡ None → thing_with_id (xs ++ more) id ≡ thing_with_id more id
with_id_none [] more id none = refl
with_id_none (u ∷ us) more id none =
    elim (cases_Bool (u.id == id)) [
      | inl here ↦ (let never : Some u ≡ None = sym (cond-true (u.id == id) (Some u) (thing_with_id us id) here) ∙ none in absurd cc)
      | inr away ↦ cond-false (u.id == id) (Some u) (thing_with_id (us ++ more) id) away
          ∙ with_id_none us more id (sym (cond-false (u.id == id) (Some u) (thing_with_id us id) away) ∙ none)
    ]

pub filter-longer : {A : Type 0} (p : A → Bool) (xs more : List A) → length (filter p (xs ++ more)) ≡ length (filter p xs)
    + length (filter p more)
filter-longer p [] more = omega arith
filter-longer p (x ∷ xs) more =
    elim (cases_Bool (p x)) [
      | inl yes_p ↦ rw yes_p (let rest = filter-longer p xs more in omega (arith, rest))
      | inr no_p ↦ rw no_p
          (filter-longer p xs more)
    ]

pub longer_none : {t : Topology} {m n : Machine} {more : List Thing} → AreNumbered 1000 m.device.world.things → IsLonger t m n more
    → filter (lost (is_needed t m) (is_needed t n) n.device.world.things) m.device.world.things ≡ []
longer_none {t} {m} {more} numbered L =
    filter-none _ m.device.world.things (λ x is.
    let found = ap (λ things. thing_with_id things x.id) L.things ∙ with_id_longer m.device.world.things more x.id
    (with-id 1000 m.device.world.things x numbered is) in
    rw (found, L.same x is) (never (is_needed t m x)))
  where
    never : (b : Bool) → (b && not b) ≡ false
    never true = refl
    never false = refl

pub longer_count : {t : Topology} {m n : Machine} {more : List Thing} → IsLonger t m n more
    → length (filter (is_needed t n) n.device.world.things) ≤ length (filter (is_needed t m) m.device.world.things)
    + length (filter (is_needed t n) more)
longer_count {t} {m} {n} {more} L =
    let parts = ap (λ things. length (filter (is_needed t n) things)) L.things ∙ filter-longer (is_needed t n) m.device.world.things more in
    let old = length-fewer (is_needed t m) (is_needed t n) m.device.world.things (λ x is e. sym (L.same x is) ∙ e) in
    omega (arith, parts, old)

-- what a look-up finds after further things were made
module _ (t : Topology) (m n : Machine) (more : List Thing) (L : IsLonger t m n more) where
  -- a thing that was there
  pub longer_old : (id : ℕ) {x : Thing} → thing_with_id m.device.world.things id ≡ Some x → thing_with_id n.device.world.things id ≡ Some x
  longer_old id {x} found = ap (λ things. thing_with_id things id) L.things ∙ with_id_longer m.device.world.things more id found

  -- a further one
  pub longer_new : (id : ℕ) → thing_with_id m.device.world.things id ≡ None → thing_with_id n.device.world.things id ≡ thing_with_id more id
  longer_new id none = ap (λ things. thing_with_id things id) L.things ∙ with_id_none m.device.world.things more id none

  pub longer_grown : ((y : Thing) → IsIn y more → is_framebuffer y.content ≡ is_needed t n y) → IsGrown t m n
  longer_grown each = λ id. at id (thing_with_id m.device.world.things id) refl (thing_with_id n.device.world.things id) refl where
    at : (id : ℕ) (o : Option Thing) → thing_with_id m.device.world.things id ≡ o → (p : Option Thing)
        → thing_with_id n.device.world.things id ≡ p → IsGrownAt t n o p
    at id None none None now = tt
    at id None none (Some y) now = each y (find-in (λ (u : Thing). u.id == id) more y (sym (longer_new id none) ∙ now))
    at id (Some x) found p now = record { thing = x; found = sym now ∙ longer_old id found; label = refl; id = refl; content = refl }

  -- where no further one is a framebuffer, the same is stored
  pub longer_steady : ((y : Thing) → IsIn y more → is_framebuffer y.content ≡ false)
      → (id : ℕ) → held_where (is_needed t n) (thing_with_id n.device.world.things id) ≡ held_where (is_needed t m)
      (thing_with_id m.device.world.things id)
  longer_steady none = λ id. at id (thing_with_id m.device.world.things id) refl where
    no_fb : (id : ℕ) (p : Option Thing) → thing_with_id more id ≡ p → held_where (is_needed t n) p ≡ None
    no_fb id None found = refl
    no_fb id (Some y) found =
        ap (λ b. if b then held_as y y.content else None)
        (needed_framebuffer t n y (none y (find-in (λ (u : Thing). u.id == id) more y found)))

    at : (id : ℕ) (o : Option Thing) → thing_with_id m.device.world.things id ≡ o
        → held_where (is_needed t n) (thing_with_id n.device.world.things id) ≡ held_where (is_needed t m) o
    at id None found = ap (held_where (is_needed t n)) (longer_new id found) ∙ no_fb id (thing_with_id more id) refl
    at id (Some x) found =
        ap (held_where (is_needed t n)) (longer_old id found)
        ∙ ap (λ b. if b then held_as x x.content else None) (L.same x (find-in (λ (u : Thing). u.id == id) m.device.world.things x found))

pub quiet_longer : (t : Topology) (m n : Machine) (more : List Thing) → AreNumbered 1000 m.device.world.things → IsLonger t m n more
    → ((x : Thing) → IsIn x more → is_framebuffer x.content ≡ false) → IsQuiet t m n
unfolding is_needed
quiet_longer t m n more numbered L none =
    let count = longer_count L in
    let no_more = ap length (filter-none (is_needed t n) more (λ x is. rw (none x is) refl)) in
    record {
      none = longer_none numbered L;
      fewer = omega (arith, count, no_more);
      grown = longer_grown t m n more L (λ y is. none y is ∙ sym (needed_framebuffer t n y (none y is)));
      steady = longer_steady t m n more L none;
    }

-- the parts that tell what is needed are as they were
pub record SameNeeds (m n : Machine) : Type 0 where
  pub world : n.device.world ≡ m.device.world
  pub commits : n.device.commits ≡ m.device.commits
  pub cleaned : n.device.marks.cleaned ≡ m.device.marks.cleaned
  pub live : n.device.live ≡ m.device.live

pub quiet_same : (t : Topology) {m n : Machine} → AreNumbered 1000 m.device.world.things → SameNeeds m n → IsQuiet t m n
quiet_same t {m} {n} numbered S =
    quiet_longer t m n [] numbered
    (record {
      things = ap (λ (w : World). w.things) S.world ∙ sym (no_more m.device.world.things);
      same = λ x is. needed_same t m n x (values_same t m n x.id (λ p of. ap (λ (w : World). plane_at w.things w.values p) S.world))
          (live_same t m n x.id S.live) (kept_same t m n x.id S.commits S.cleaned);
    })
    (λ x is. absurd is)
  where
    no_more : (xs : List Thing) → xs ++ [] ≡ xs
    no_more [] = refl
    no_more (x ∷ xs) = ap (λ rest. x ∷ rest) (no_more xs)

abbrev StaysFree : Script → Machine → Step → Thing → Type 0
StaysFree s m step thing = is_framebuffer thing.content ≡ true → is_needed s.topology m thing ≡ false
    → (later : Thing) → thing_with_id (next s m step).device.world.things thing.id ≡ Some later → is_needed s.topology (next s m step) later
    ≡ false

pub stays : {s : Script} (h : List Step) (step : Step) → IsPlainScript s → is_history s h ≡ true → legal s (at s h) step ≡ true
    → (x : Thing) {y : Thing} → IsIn x (at s h).device.world.things → is_framebuffer x.content ≡ true
    → thing_with_id (next s (at s h) step).device.world.things x.id ≡ Some y → is_needed s.topology (next s (at s h) step) y ≡ true
    → is_needed s.topology (at s h) x ≡ true
stays {s} h step plain is legal_step x {y} x_in framebuffer found needed =
    elim (cases_Bool (is_needed s.topology (at s h) x)) [
      | inl was ↦ was
      | inr unneeded ↦ absurd (false≢true (sym (all_in (StaysFree s (at s h) step) (at s h).device.world.things x
          (framebuffers_once s h plain is step legal_step) x_in framebuffer unneeded y found) ∙ needed))
    ]

-- A cleanup

pub each_of : {ids : List ℕ} {test : ℕ → Bool} → AreAllOf ids test → (id : ℕ) → IsIn id ids → test id ≡ true
each_of {ids} A id is = sym (A.same id) ∙ list_any-has (λ other. other == id) ids id is (eq-eqb id id refl)

pub all_of : {ids : List ℕ} {test : ℕ → Bool} → AreAllOf ids test → (id : ℕ) → test id ≡ true → IsIn id ids
all_of {ids} A id holds =
    let found = list_any-some (λ other. other == id) ids (A.same id ∙ holds) in
    subst (λ z. IsIn z ids) (eqb-true found.item id found.holds) found.is_in

-- what the freed of a step are told by
pub record IsTold (t : Topology) (m n : Machine) (ids : List ℕ) : Type 0 where
  pub told : map label_and_id (filter (lost (is_needed t m) (is_needed t n) n.device.world.things) m.device.world.things)
      ≡ freed_among t n ids
  pub room : length (filter (λ id. is_framebuffer_in (thing_with_id n.device.world.things id)) ids)
      ≤ length (filter (is_needed t m) m.device.world.things)
  pub fewer : length (filter (is_needed t n) n.device.world.things)
      + length (filter (lost (is_needed t m) (is_needed t n) n.device.world.things) m.device.world.things)
      ≤ length (filter (is_needed t m) m.device.world.things)
  pub back : (y : Thing) → IsIn y n.device.world.things → is_needed t n y ≡ true
      → passes (is_needed t m) (thing_with_id m.device.world.things y.id) ≡ true

-- the parts of what is needed, of a thing
pub record Needs (t : Topology) (m : Machine) (x : Thing) : Type 0 where
  pub framebuffer : is_framebuffer x.content ≡ true
  pub why : (x.is_open ≡ true) ⊎ ((values_name t m.device x.id ≡ true)
      ⊎ ((live_names t m.device x.id ≡ true) ⊎ (commits_keep t m x.id ≡ true)))

pub needs_of : (t : Topology) (m : Machine) (x : Thing) → is_needed t m x ≡ true → Needs t m x
unfolding is_needed
needs_of t m x needed =
    let both = and_parts (is_framebuffer x.content) _ needed in
    record {
      framebuffer = both.0;
      why = elim (or_cases x.is_open _ both.1) [
        | inl opened ↦ inl opened
        | inr rest ↦ inr (elim (or_cases (values_name t m.device x.id) _ rest) [
          | inl values ↦ inl values
          | inr rest ↦ inr (or_cases (live_names t m.device x.id) _ rest)
        ])
      ];
    }

pub needed_by : (t : Topology) (m : Machine) (x : Thing) → Needs t m x → is_needed t m x ≡ true
unfolding is_needed
needed_by t m x needs = and_from (is_framebuffer x.content) _ needs.framebuffer (elim needs.why [
  | inl opened ↦ or_left x.is_open _ opened
  | inr rest ↦ or_right x.is_open _ (elim rest [
    | inl values ↦ or_left (values_name t m.device x.id) _ values
    | inr rest ↦ or_right (values_name t m.device x.id) _ (elim rest [
      | inl live ↦ or_left (live_names t m.device x.id) _ live
      | inr kept ↦ or_right (live_names t m.device x.id) _ kept
    ])
  ])
])

pub keeps_some : (t : Topology) (m : Machine) (id : ℕ) → commits_keep t m id ≡ true → (k : ℕ)
    × ((IsIn k (commit_numbers m)) × ((is_cleaned m.device k ≡ false) × (commit_keeps t m.device id k ≡ true)))
keeps_some t m id kept =
    let found = list_any-some (λ k. not (is_cleaned m.device k) && commit_keeps t m.device id k) (commit_numbers m) kept in
    let both = and_parts (not (is_cleaned m.device found.item)) _ found.holds in
    (found.item, (found.is_in, (not-true (is_cleaned m.device found.item) both.0, both.1)))

pub keeps_by : (t : Topology) (m : Machine) (id k : ℕ) → IsIn k (commit_numbers m) → is_cleaned m.device k ≡ false
    → commit_keeps t m.device id k ≡ true → commits_keep t m id ≡ true
keeps_by t m id k is unclean keeps = list_any-has (λ k. not (is_cleaned m.device k) && commit_keeps t m.device id k) (commit_numbers m) k is
    (and_from _ _ (ap not unclean) keeps)

-- where no thing changes, and what is needed after was needed before
module _ (t : Topology) (m n : Machine) (numbered : AreNumbered 1000 m.device.world.things)
    (same : n.device.world.things ≡ m.device.world.things)
    (back : (x : Thing) → IsIn x m.device.world.things → is_needed t n x ≡ true → is_needed t m x ≡ true) where
  found_now : (x : Thing) → IsIn x m.device.world.things → thing_with_id n.device.world.things x.id ≡ Some x
  found_now x is = ap (λ things. thing_with_id things x.id) same ∙ with-id 1000 m.device.world.things x numbered is

  numbered_now : AreNumbered 1000 n.device.world.things
  numbered_now = subst (AreNumbered 1000) (sym same) numbered

  was_needed : (y : Thing) → IsIn y n.device.world.things → is_needed t n y ≡ true
      → passes (is_needed t m) (thing_with_id m.device.world.things y.id) ≡ true
  was_needed y is needed =
      let old : IsIn y m.device.world.things = subst (IsIn y) same is in
      ap (passes (is_needed t m)) (with-id 1000 m.device.world.things y numbered old) ∙ back y old needed

  pub told_by : (ids : List ℕ) → AreRising 0 ids
      → ((id : ℕ) → IsIn id ids → (x : Thing) → x.id ≡ id → is_framebuffer x.content ≡ true → is_needed t m x ≡ true)
      → ((x : Thing) → is_needed t m x ≡ true → is_needed t n x ≡ false → IsIn x.id ids) → IsTold t m n ids
  told_by ids rising each all = record {
    told = freed_told t m n numbered numbered_now
        (λ id. subst (λ things. IsSameOrNone (thing_with_id m.device.world.things id) (thing_with_id things id)) (sym same)
        (same_or_none (thing_with_id m.device.world.things id)))
        ids rising (λ id is x found framebuffer. each id is x (find-same m.device.world.things id x found) framebuffer)
        (λ x is needed off. all x needed (sym (ap (passes (is_needed t n)) (found_now x is)) ∙ off));
    room = places_suffice t m n numbered numbered_now
        (λ id. subst (λ things. IsSameOrNone (thing_with_id m.device.world.things id) (thing_with_id things id)) (sym same)
        (same_or_none (thing_with_id m.device.world.things id)))
        ids rising (λ id is x found framebuffer. each id is x (find-same m.device.world.things id x found) framebuffer);
    fewer = fewer_needed (is_needed t m) (is_needed t n) m.device.world.things n.device.world.things numbered numbered_now was_needed;
    back = was_needed;
  }

-- a commit is cleaned
abbrev pub cleaned_as : Machine → ℕ → Machine
cleaned_as m k = record m { device = record m.device { marks = record m.device.marks { cleaned = k ∷ m.device.marks.cleaned } } }

cleaned_keeps : (t : Topology) (m : Machine) (k id j : ℕ) → commit_keeps t (cleaned_as m k).device id j ≡ commit_keeps t m.device id j
unfolding commit_keeps
cleaned_keeps t m k id j = refl

cleaned_values : (t : Topology) (m : Machine) (k id : ℕ) → values_name t (cleaned_as m k).device id ≡ values_name t m.device id
unfolding values_name
cleaned_values t m k id = refl

cleaned_live : (t : Topology) (m : Machine) (k id : ℕ) → live_names t (cleaned_as m k).device id ≡ live_names t m.device id
unfolding live_names
cleaned_live t m k id = refl

pub cleanup_told : (t : Topology) (m : Machine) (k : ℕ) (ids : List ℕ) → AreNumbered 1000 m.device.world.things → k
    < length m.device.commits → is_cleaned m.device k ≡ false → AreAllOf ids (λ id. commit_keeps t m.device id k)
    → IsTold t m (cleaned_as m k) ids
cleanup_told t m k ids numbered within unclean A =
    told_by t m (cleaned_as m k) numbered refl back ids A.rising
    (λ id is x own framebuffer. needed_by t m x (record {
      framebuffer = framebuffer;
      why = inr (inr
          (inr (keeps_by t m x.id k (range-in 0 (length m.device.commits) k (omega arith) (omega (arith, within))) unclean
          (subst (λ z. commit_keeps t m.device z k ≡ true) (sym own) (each_of A id is)))));
    }))
    (λ x needed off.
    let needs = needs_of t m x needed in
    let no = λ (w : (x.is_open ≡ true) ⊎ ((values_name t (cleaned_as m k).device x.id ≡ true)
    ⊎ ((live_names t (cleaned_as m k).device x.id ≡ true) ⊎ (commits_keep t (cleaned_as m k) x.id ≡ true)))). false≢true
    (sym off ∙ needed_by t (cleaned_as m k) x (record { framebuffer = needs.framebuffer; why = w })) in
    elim needs.why [
      | inl opened ↦ absurd (no (inl opened))
      | inr rest ↦ elim rest [
        | inl values ↦ absurd (no (inr (inl (cleaned_values t m k x.id ∙ values))))
        | inr rest ↦ elim rest [
          | inl live ↦ absurd (no (inr (inr (inl (cleaned_live t m k x.id ∙ live)))))
          | inr kept ↦
              (let found = keeps_some t m x.id kept in
              elim (cases_eq k found.0) [
                | inl this ↦ all_of A x.id (ap (commit_keeps t m.device x.id) this ∙ found.1.1.1)
                | inr other ↦ absurd (no (inr (inr (inr (keeps_by t (cleaned_as m k) x.id found.0 found.1.0
                    (or_from (k == found.0) _ (ne_eqb k found.0 other) found.1.1.0) (cleaned_keeps t m k x.id found.0 ∙ found.1.1.1))))))
              ])
        ]
      ]
    ])
  where
    back : (x : Thing) → IsIn x m.device.world.things → is_needed t (cleaned_as m k) x ≡ true → is_needed t m x ≡ true
    back x is needed =
        let needs = needs_of t (cleaned_as m k) x needed in
        needed_by t m x (record {
          framebuffer = needs.framebuffer;
          why = elim needs.why [
            | inl opened ↦ inl opened
            | inr rest ↦ inr (elim rest [
              | inl values ↦ inl (sym (cleaned_values t m k x.id) ∙ values)
              | inr rest ↦ inr (elim rest [
                | inl live ↦ inl (sym (cleaned_live t m k x.id) ∙ live)
                | inr kept ↦ inr (let found = keeps_some t (cleaned_as m k) x.id kept in
                    keeps_by t m x.id found.0 found.1.0 (or_parts (k == found.0) _ found.1.1.0).1
                    (sym (cleaned_keeps t m k x.id found.0) ∙ found.1.1.1))
              ])
            ])
          ];
        })

-- A swap

-- the things of a world, and further ones that are no framebuffers
pub record IsExtended (xs ys : List Thing) : Type 0 where
  pub more : List Thing
  pub same : ys ≡ xs ++ more
  pub none : (x : Thing) → IsIn x more → is_framebuffer x.content ≡ false

same_extended : (xs : List Thing) → IsExtended xs xs
same_extended xs = record { more = []; same = ends xs; none = λ x is. absurd is } where
  ends : (xs : List Thing) → xs ≡ xs ++ []
  ends [] = refl
  ends (x ∷ xs) = ap (λ rest. x ∷ rest) (ends xs)

pub one_extended : (xs ys : List Thing) (u : Thing) → is_framebuffer u.content ≡ false → IsExtended (xs ++ u ∷ []) ys → IsExtended xs ys
one_extended xs ys u none E = record { more = u ∷ E.more; same = E.same ∙ joined xs; none = both } where
  joined : (zs : List Thing) → (zs ++ u ∷ []) ++ E.more ≡ zs ++ u ∷ E.more
  joined [] = refl
  joined (z ∷ zs) = ap (λ rest. z ∷ rest) (joined zs)

  both : (x : Thing) → IsIn x (u ∷ E.more) → is_framebuffer x.content ≡ false
  both x (inl same) = ap (λ (z : Thing). is_framebuffer z.content) (sym same) ∙ none
  both x (inr rest) = E.none x rest

fences_extend : (client : ℕ) (assigns : List Assign) (w : World) (crtcs : List ℕ)
    → IsExtended w.things (make_out_fences client assigns w crtcs).things
fences_extend client assigns w [] = same_extended w.things
fences_extend client assigns w (crtc ∷ crtcs) = by_label (out_fence_label assigns crtc)
    (fences_extend client assigns (make_out_fence client w (out_fence_label assigns crtc)) crtcs) where
      by_label : (o : Option ℕ) → IsExtended (make_out_fence client w o).things
          (make_out_fences client assigns (make_out_fence client w o) crtcs).things
          → IsExtended w.things (make_out_fences client assigns (make_out_fence client w o) crtcs).things
      by_label None rest = rest
      by_label (Some label) rest = one_extended w.things _
          (record { label = label; id = w.next_id; owner = client; content = content.OutFence; is_open = true }) refl rest

pub bool_same : (a b : Bool) → (a ≡ true → b ≡ true) → (b ≡ true → a ≡ true) → a ≡ b
bool_same true b there back = sym (there refl)
bool_same false true there back = back refl
bool_same false false there back = refl

named_word : (id : ℕ) (o : Option FbInfo) → is_fb id o ≡ true → fb_number (λ f. f.id) o ≡ id
named_word id None names = absurd (false≢true names)
named_word id (Some f) names = eqb-true f.id id names

word_named : {id : ℕ} (o : Option FbInfo) → 1 ≤ id → fb_number (λ f. f.id) o ≡ id → is_fb id o ≡ true
word_named None some word = absurd (omega (arith, some, word))
word_named {id} (Some f) some word = eq-eqb f.id id word

-- a plane with these words names what another with the same words names
pub names_alike : (id : ℕ) (p q : PlaneState) → 1 ≤ id → plane_words p ≡ plane_words q → is_fb id p.fb ≡ true → is_fb id q.fb ≡ true
names_alike id p q some same names =
    word_named q.fb some (sym (word_fb q) ∙ ap (λ (w : PlaneWords). w.fb) (sym same) ∙ word_fb p ∙ named_word id p.fb names)

pub values_some : (t : Topology) (d : DeviceState) (id : ℕ) → values_name t d id ≡ true → (p : ℕ)
    × (IsIn p (ids_of t Plane) × (is_fb id (plane_at d.world.things d.world.values p).fb ≡ true))
unfolding values_name
values_some t d id names = (let found = list_any-some (λ plane. is_fb id (plane_at d.world.things d.world.values plane).fb) (ids_of t Plane)
    names in (found.item, (found.is_in, found.holds)))

pub values_by : (t : Topology) (d : DeviceState) (id p : ℕ) → IsIn p (ids_of t Plane)
    → is_fb id (plane_at d.world.things d.world.values p).fb ≡ true → values_name t d id ≡ true
unfolding values_name
values_by t d id p is names = list_any-has (λ plane. is_fb id (plane_at d.world.things d.world.values plane).fb) (ids_of t Plane) p is names

pub old_kept : (t : Topology) (x : Commit) (d n : DeviceState) (id k : ℕ) → n.commits ≡ x ∷ d.commits → k < length d.commits
    → commit_keeps t n id k ≡ commit_keeps t d id k
unfolding commit_keeps old_plane new_plane
old_kept t x d n id k commits within =
    ap (λ cs. list_any (λ plane. commit_touches t cs k plane
    && (is_fb id (old_plane t cs k plane).fb || is_fb id (new_plane t cs k plane).fb)) (ids_of t Plane)) commits
    ∙ list_any-same _ _ (ids_of t Plane) (λ p is.
    λ i. touches_old t x d.commits k p within i
    && (is_fb id (plane_at (commit_old t x d.commits k within i).world.things (old_values (commit_old t x d.commits k within i)) p).fb
    || is_fb id (plane_at (commit_old t x d.commits k within i).world.things (new_values (commit_old t x d.commits k within i)) p).fb))

-- the old state of a plane that a new commit touches is kept
pub new_kept : (t : Topology) (x : Commit) (d n : DeviceState) (id p : ℕ) → n.commits ≡ x ∷ d.commits → x.world ≡ d.world
    → IsIn p (ids_of t Plane) → commit_touches t n.commits (length d.commits) p ≡ true
    → is_fb id (plane_at d.world.things d.world.values p).fb ≡ true → commit_keeps t n id (length d.commits) ≡ true
unfolding commit_keeps old_plane
new_kept t x d n id p commits own is touched names =
    list_any-has (λ plane. commit_touches t n.commits (length d.commits) plane
    && (is_fb id (old_plane t n.commits (length d.commits) plane).fb || is_fb id (new_plane t n.commits (length d.commits) plane).fb))
    (ids_of t Plane) p is
    (and_from _ _ touched (or_left (is_fb id (old_plane t n.commits (length d.commits) p).fb) _
    (ap (λ (c : Commit). is_fb id (plane_at c.world.things (old_values c) p).fb)
    (ap (λ cs. commit_at t cs (length d.commits)) commits ∙ commit_new t x d.commits)
    ∙ ap (λ (w : World). is_fb id (plane_at w.things w.values p).fb) own ∙ names)))

-- A request is committed.
pub record IsCommitted (s : Script) (m n : Machine) (client : ℕ) (x : Commit) : Type 0 where
  pub holds : Holds s m
  pub holds_now : Holds s n
  pub world : n.device.world ≡ (committed s.topology m.device.world client x.request).world
  pub commits : n.device.commits ≡ x ∷ m.device.commits
  pub own : x.world ≡ m.device.world
  pub cleaned : n.device.marks.cleaned ≡ m.device.marks.cleaned
  pub live : n.device.live ≡ m.device.live
  pub unclean : has_number m.device.marks.cleaned (length m.device.commits) ≡ false

pub swap_quiet : (s : Script) (m n : Machine) (client : ℕ) (x : Commit) → IsCommitted s m n client x
    → ((u v : Thing) → IsIn u m.device.world.things → is_framebuffer u.content ≡ true → thing_with_id n.device.world.things u.id ≡ Some v
    → is_needed s.topology n v ≡ true → is_needed s.topology m u ≡ true) → IsQuiet s.topology m n
swap_quiet s m n client x C back =
    quiet_longer t m n E.more numbered (record {
      things = things;
      same = λ u is. bool_same _ _
          (λ needed. back u u is (needs_of t n u needed).framebuffer (found_now u is) needed) (there u is);
    }) E.none
  where
    t : Topology
    t = s.topology

    numbered : AreNumbered 1000 m.device.world.things
    numbered = C.holds.present.lawful.numbered.things

    E : IsExtended m.device.world.things (committed s.topology m.device.world client x.request).world.things
    E = fences_extend client x.request.assigns _ (ids_of s.topology Crtc)

    things : n.device.world.things ≡ m.device.world.things ++ E.more
    things = ap (λ (w : World). w.things) C.world ∙ E.same

    found_now : (u : Thing) → IsIn u m.device.world.things → thing_with_id n.device.world.things u.id ≡ Some u
    found_now u is = ap (λ all. thing_with_id all u.id) things ∙ with_id_longer m.device.world.things E.more u.id
        (with-id 1000 m.device.world.things u numbered is)

    size : length n.device.commits ≡ suc (length m.device.commits)
    size = ap length C.commits

    numbers : (k : ℕ) → k < suc (length m.device.commits) → IsIn k (commit_numbers n)
    numbers k low = range-in 0 (length n.device.commits) k (omega arith) (omega (arith, low, size))

    named_still : (u : Thing) → 1 ≤ u.id → (p : ℕ) → IsIn p (ids_of t Plane)
        → is_fb u.id (plane_at m.device.world.things m.device.world.values p).fb ≡ true
        → (b : Bool) → commit_touches t n.device.commits (length m.device.commits) p ≡ b → (values_name t n.device u.id ≡ true)
        ⊎ ((live_names t n.device u.id ≡ true) ⊎ (commits_keep t n u.id ≡ true))
    named_still u some p is names true touched =
        inr (inr (keeps_by t n u.id (length m.device.commits) (numbers (length m.device.commits) (omega arith))
        (ap (λ cs. has_number cs (length m.device.commits)) C.cleaned ∙ C.unclean)
        (new_kept t x m.device n.device u.id p C.commits C.own is touched names)))
    named_still u some p is names false untouched =
        let after_all = C.holds_now.present.states.plane p is ∙ ap (λ k. plane_after t n.device.commits k p) size in
        let frame = C.holds_now.tail.commits.plane_frame (length m.device.commits) p (omega (arith, size)) is untouched in
        let before_all = ap (λ cs. plane_after t cs (length m.device.commits) p) C.commits ∙ plane_old t x m.device.commits
        (length m.device.commits) p (omega arith) ∙ sym (C.holds.present.states.plane p is) in
        inl (values_by t n.device u.id p is (names_alike u.id (plane_at m.device.world.things m.device.world.values p)
        (plane_at n.device.world.things n.device.world.values p) some (sym (after_all ∙ frame ∙ before_all)) names))

    there : (u : Thing) → IsIn u m.device.world.things → is_needed t m u ≡ true → is_needed t n u ≡ true
    there u is needed =
        let needs = needs_of t m u needed in
        let at = ids-numbered 1000 m.device.world.things u numbered is in
        needed_by t n u (record {
          framebuffer = needs.framebuffer;
          why = elim needs.why [
            | inl opened ↦ inl opened
            | inr rest ↦ inr (elim rest [
              | inl values ↦ (let found = values_some t m.device u.id values
                  in named_still u (let l = at.low in omega (arith, l)) found.0 found.1.0 found.1.1
                  (commit_touches t n.device.commits (length m.device.commits) found.0) refl)
              | inr rest ↦ inr (elim rest [
                | inl live ↦ inl (live_same t m n u.id C.live ∙ live)
                | inr kept ↦ inr (
                    let found = keeps_some t m u.id kept in
                    let low = range-below 0 (length m.device.commits) found.0 found.1.0 in
                    keeps_by t n u.id found.0 (numbers found.0 (omega (arith, low)))
                    (ap (λ cs. has_number cs found.0) C.cleaned ∙ found.1.1.0)
                    (old_kept t x m.device n.device u.id found.0 C.commits (omega (arith, low)) ∙ found.1.1.1))
              ])
            ])
          ];
        })
