-- What is freed between two machines, by candidates in order of id.
use Rattle.std.proofs.Common.{◌≡◌, ℕ, suc, ◌+◌, ◌≤◌, List, [], ◌∷◌, ◌++◌, length, map, Bool, true, false, not, ◌&&◌, ◌||◌, ◌==◌, Option}
use Rattle.std.proofs.Common.{Some, None, refl, sym, ap, ◌∙◌, subst, arith, inl, inr}
use Rattle.std.specs.Prelude.{if◌then◌else◌, filter, ⊤}
use Rattle.std.specs.List.{flat_map, list_any}
use Rattle.std.proofs.lemmas.Bool.{and_from, and_parts, cases_eq, cond-false, cond-true, eq-eqb, ne_eqb, or_left}
use Rattle.kms_model.specs.declared.objects.Topology.{Topology}
use Rattle.kms_model.specs.declared.replies.Step.{Step}
use Rattle.kms_model.specs.declared.scripts.Script.{Script}
use Rattle.kms_model.specs.declared.worlds.Thing.{Thing}
use Rattle.kms_model.specs.Device.Execution.{is_framebuffer}
use Rattle.kms_model.specs.Device.Sound.{AreNumbered}
use Rattle.kms_model.specs.Device.World.{thing_with_id}
use Rattle.kms_model.specs.Machine.Effects.{next}
use Rattle.kms_model.specs.Machine.Framebuffers.{freed_by_step, freed_from, is_in_things, is_needed}
use Rattle.kms_model.specs.Machine.Histories.{run_steps}
use Rattle.kms_model.specs.Machine.State.{Machine}
use Rattle.kms_laws.proofs.Framebuffers.{find-same}
use Rattle.kms_model.proofs.Items.{IsIn, filter-same}
use Rattle.kms_model.proofs.ShownLemmas.{with-id}
use Rattle.kms_model.proofs.HeldValues.{filter-in}
use Rattle.kms_core.specs.Freeing.{AreRising, freed_among, freed_entry, is_framebuffer_in, label_and_id}
use Rattle.kms_core.proofs.freeing.FreedLists.{as_many, entries, filter-filter, ids_rise, length-parts, listed, passes, rising_filter}
use Rattle.kms_core.proofs.freeing.FreedLists.{with_id_before}

-- What a history frees goes on by what its last step frees.
pub freed_last : (s : Script) (m : Machine) (h : List Step) (step : Step) → freed_from s m (h ++ step ∷ []) ≡ freed_from s m h
    ++ freed_by_step s (run_steps s m h) step
unfolding freed_from run_steps
freed_last s m [] step = empty (freed_by_step s m step) where
  empty : (xs : List Thing) → xs ++ [] ≡ xs
  empty [] = refl
  empty (x ∷ xs) = ap (λ rest. x ∷ rest) (empty xs)
freed_last s m (first ∷ h) step =
    ap (λ rest. freed_by_step s m first ++ rest) (freed_last s (next s m first) h step)
    ∙ sym (joined (freed_by_step s m first) (freed_from s (next s m first) h) (freed_by_step s (run_steps s (next s m first) h) step)) where
      joined : (xs ys zs : List Thing) → (xs ++ ys) ++ zs ≡ xs ++ (ys ++ zs)
      joined [] ys zs = refl
      joined (x ∷ xs) ys zs = ap (λ rest. x ∷ rest) (joined xs ys zs)

-- A thing with an id, among those that pass a test

pub passes_in : (n : ℕ) (p : Thing → Bool) (things : List Thing) (id : ℕ) → AreNumbered n things
    → list_any (λ (other : Thing). other.id == id) (filter p things) ≡ passes p (thing_with_id things id)
passes_in n p [] id numbered = refl
passes_in n p (u ∷ us) id numbered =
    elim (cases_eq u.id id) [
      | inl here ↦
          (let own = numbered.0 in
          let rest = passes_in (n + 1) p us id numbered.1 ∙ ap (passes p)
          (with_id_before (n + 1) us id numbered.1 (omega (arith, own, here))) in
          by_head here (p u) rest ∙ sym (ap (passes p) (cond-true (u.id == id) (Some u) (thing_with_id us id) (eq-eqb u.id id here))))
      | inr away ↦ by_rest away (p u) (passes_in (n + 1) p us id numbered.1) ∙ sym
          (ap (passes p) (cond-false (u.id == id) (Some u) (thing_with_id us id) (ne_eqb u.id id away)))
    ]
  where
    by_head : u.id ≡ id → (b : Bool) → list_any (λ (other : Thing). other.id == id) (filter p us) ≡ false
        → list_any (λ (other : Thing). other.id == id) (if b then u ∷ filter p us else filter p us) ≡ b
    by_head here true rest = or_left (u.id == id) _ (eq-eqb u.id id here)
    by_head here false rest = rest

    by_rest : (u.id ≡ id → ⊥) → (b : Bool) → list_any (λ (other : Thing). other.id == id) (filter p us) ≡ passes p (thing_with_id us id)
        → list_any (λ (other : Thing). other.id == id) (if b then u ∷ filter p us else filter p us) ≡ passes p (thing_with_id us id)
    by_rest away true rest = ap (λ b. b || list_any (λ (other : Thing). other.id == id) (filter p us)) (ne_eqb u.id id away) ∙ rest
    by_rest away false rest = rest

-- the things that pass a test before, and whose successors do not pass one after
abbrev pub lost : (Thing → Bool) → (Thing → Bool) → List Thing → Thing → Bool
lost needed later things x = needed x && not (passes later (thing_with_id things x.id))

pub freed_as : (s : Script) (m : Machine) (step : Step) → AreNumbered 1000 (next s m step).device.world.things
    → freed_by_step s m step ≡ filter (lost (is_needed s.topology m) (is_needed s.topology (next s m step))
    (next s m step).device.world.things) m.device.world.things
unfolding freed_by_step
freed_as s m step numbered =
    let N = is_needed s.topology m in
    let L = is_needed s.topology (next s m step) in
    let things = (next s m step).device.world.things in
    filter-filter N (λ x. not (is_in_things (filter L things) x)) m.device.world.things
    ∙ filter-same _ _ m.device.world.things (λ x is. ap (λ b. N x && not b) (passes_in 1000 L things x.id numbered))

-- What is freed is what the candidates tell.

-- a thing with an id stays, but for being open
pub record IsSameThing (x : Thing) (o : Option Thing) : Type 0 where
  pub thing : Thing
  pub found : o ≡ Some thing
  pub label : thing.label ≡ x.label
  pub id : thing.id ≡ x.id
  pub content : thing.content ≡ x.content

abbrev pub IsSameOrNone : Option Thing → Option Thing → Type 0
IsSameOrNone None o = o ≡ None
IsSameOrNone (Some x) o = IsSameThing x o

-- a thing stays, and a new one is a framebuffer exactly where it is needed
abbrev pub IsGrownAt : Topology → Machine → Option Thing → Option Thing → Type 0
IsGrownAt t n None None = ⊤
IsGrownAt t n None (Some y) = is_framebuffer y.content ≡ is_needed t n y
IsGrownAt t n (Some x) o = IsSameThing x o

abbrev pub IsGrown : Topology → Machine → Machine → Type 0
IsGrown t m n = (id : ℕ) → IsGrownAt t n (thing_with_id m.device.world.things id) (thing_with_id n.device.world.things id)

pub grown_stay : (t : Topology) (m n : Machine)
    → ((id : ℕ) → IsSameOrNone (thing_with_id m.device.world.things id) (thing_with_id n.device.world.things id)) → IsGrown t m n
grown_stay t m n stay = λ id. at (thing_with_id m.device.world.things id) (thing_with_id n.device.world.things id) (stay id) where
  at : (o p : Option Thing) → IsSameOrNone o p → IsGrownAt t n o p
  at None None same = tt
  at None (Some y) same = absurd cc
  at (Some x) p same = same

pub same_or_none : (o : Option Thing) → IsSameOrNone o o
same_or_none None = refl
same_or_none (Some x) = record { thing = x; found = refl; label = refl; id = refl; content = refl }

-- where no thing changes
pub grown_same : (t : Topology) (m n : Machine) → n.device.world.things ≡ m.device.world.things → IsGrown t m n
grown_same t m n same =
    grown_stay t m n (λ id.
    subst (λ things. IsSameOrNone (thing_with_id m.device.world.things id) (thing_with_id things id)) (sym same)
    (same_or_none (thing_with_id m.device.world.things id)))

pub needed_framebuffer : (t : Topology) (m : Machine) (x : Thing) → is_framebuffer x.content ≡ false → is_needed t m x ≡ false
unfolding is_needed
needed_framebuffer t m x none = rw none refl

module _ (t : Topology) (m n : Machine) (before : AreNumbered 1000 m.device.world.things) (after : AreNumbered 1000 n.device.world.things)
    (stay : (id : ℕ) → IsSameOrNone (thing_with_id m.device.world.things id) (thing_with_id n.device.world.things id)) where
  abbrev N : Thing → Bool
  N = is_needed t m

  abbrev L : Thing → Bool
  L = is_needed t n

  abbrev olds : List Thing
  olds = m.device.world.things

  abbrev news : List Thing
  news = n.device.world.things

  -- a candidate that is a framebuffer was needed
  abbrev WereNeeded : List ℕ → Type 0
  WereNeeded ids = (id : ℕ) → IsIn id ids → (x : Thing) → thing_with_id olds id ≡ Some x → is_framebuffer x.content ≡ true → N x ≡ true

  entry_same : (id : ℕ) (o : Option Thing) → thing_with_id olds id ≡ o → IsSameOrNone o (thing_with_id news id)
      → ((x : Thing) → o ≡ Some x → is_framebuffer x.content ≡ true → N x ≡ true)
      → map label_and_id (entries (lost N L news) o) ≡ freed_entry t n (thing_with_id news id)
  entry_same id None found same needed = sym (ap (freed_entry t n) same)
  entry_same id (Some x) found same needed =
      let own : x.id ≡ id = find-same olds id x found in
      let now : thing_with_id news x.id ≡ Some same.thing = ap (thing_with_id news) own ∙ same.found in
      rw (now, same.found)
      (by_kind (is_framebuffer x.content) refl same.label same.id
      ∙ ap (λ c. if is_framebuffer c && not (L same.thing) then label_and_id same.thing ∷ [] else []) (sym same.content))
    where
      by_kind : (b : Bool) → is_framebuffer x.content ≡ b → same.thing.label ≡ x.label → same.thing.id ≡ x.id
          → map label_and_id (if N x && not (L same.thing) then x ∷ [] else [])
          ≡ (if b && not (L same.thing) then label_and_id same.thing ∷ [] else [])
      by_kind false e label at = rw (needed_framebuffer t m x e) refl
      by_kind true e label at = rw (needed x refl e) (ends (L same.thing) ∙ ap (λ p. if not (L same.thing) then p ∷ [] else []) told) where
        told : (x.label, x.id) ≡ label_and_id same.thing
        told = λ i. (sym label i, sym at i)

        ends : (b : Bool) → map label_and_id (if true && not b then x ∷ [] else []) ≡ (if not b then (x.label, x.id) ∷ [] else [])
        ends true = refl
        ends false = refl

  pub freed_told : (ids : List ℕ) → AreRising 0 ids → WereNeeded ids
      → ((x : Thing) → IsIn x olds → N x ≡ true → passes L (thing_with_id news x.id) ≡ false → IsIn x.id ids)
      → map label_and_id (filter (lost N L news) olds) ≡ freed_among t n ids
  freed_told ids rising needed covers =
      ap (map label_and_id) (listed 1000 (lost N L news) olds ids before rising
      (λ x is e. let both = and_parts (N x) _ e in covers x is both.0 (off _ both.1)))
      ∙ all ids (λ id is. entry_same id (thing_with_id olds id) refl (stay id) (λ x found framebuffer. needed id is x found framebuffer))
    where
      off : (b : Bool) → not b ≡ true → b ≡ false
      off false e = refl
      off true e = absurd cc

      joined : (xs ys : List Thing) → map label_and_id (xs ++ ys) ≡ map label_and_id xs ++ map label_and_id ys
      joined [] ys = refl
      joined (x ∷ xs) ys = ap (λ rest. label_and_id x ∷ rest) (joined xs ys)

      all : (ids : List ℕ) → ((id : ℕ) → IsIn id ids → map label_and_id (entries (lost N L news) (thing_with_id olds id))
          ≡ freed_entry t n (thing_with_id news id))
          → map label_and_id (flat_map (λ id. entries (lost N L news) (thing_with_id olds id)) ids) ≡ freed_among t n ids
      all [] each = refl
      all (id ∷ ids) each =
          joined (entries (lost N L news) (thing_with_id olds id)) _
          ∙ ap (λ xs. xs ++ map label_and_id (flat_map (λ id. entries (lost N L news) (thing_with_id olds id)) ids)) (each id (inl refl))
          ∙ ap (λ xs. freed_entry t n (thing_with_id news id) ++ xs) (all ids (λ other is. each other (inr is)))

  -- there are places for all candidates that are framebuffers
  pub places_suffice : (ids : List ℕ) → AreRising 0 ids → WereNeeded ids
      → length (filter (λ id. is_framebuffer_in (thing_with_id news id)) ids) ≤ length (filter N olds)
  places_suffice ids rising needed =
      as_many 1000 N olds 0 (filter (λ id. is_framebuffer_in (thing_with_id news id)) ids) before (rising_filter 0 _ ids rising) (λ id is.
      let found = filter-in (λ id. is_framebuffer_in (thing_with_id news id)) ids id is in
      at id (thing_with_id olds id) (stay id) found.1 (λ x e framebuffer. needed id found.0 x e framebuffer))
    where
      at : (id : ℕ) (o : Option Thing) → IsSameOrNone o (thing_with_id news id) → is_framebuffer_in (thing_with_id news id) ≡ true
          → ((x : Thing) → o ≡ Some x → is_framebuffer x.content ≡ true → N x ≡ true) → passes N o ≡ true
      at id None same e needed = absurd (let none : false ≡ true = ap is_framebuffer_in (sym same) ∙ e in cc)
      at id (Some x) same e needed = needed x refl (ap is_framebuffer (sym same.content) ∙ ap is_framebuffer_in (sym same.found) ∙ e)

-- Fewer are needed after a step, by those that it frees.
module _ (N L : Thing → Bool) (olds news : List Thing) (before : AreNumbered 1000 olds) (after : AreNumbered 1000 news) where
  needed_ids : (xs : List Thing) (id : ℕ) → IsIn id (map (λ (x : Thing). x.id) xs) → (y : Thing) × (IsIn y xs × (y.id ≡ id))
  needed_ids [] id is = absurd is
  needed_ids (x ∷ xs) id (inl same) = (x, (inl refl, same))
  needed_ids (x ∷ xs) id (inr rest) = (let found = needed_ids xs id rest in (found.0, (inr found.1.0, found.1.1)))

  pub fewer_needed : ((y : Thing) → IsIn y news → L y ≡ true → passes N (thing_with_id olds y.id) ≡ true) → length (filter L news)
      + length (filter (lost N L news) olds) ≤ length (filter N olds)
  fewer_needed back =
      let ids = map (λ (x : Thing). x.id) (filter L news) in
      let most = as_many 1000 (λ x. N x && passes L (thing_with_id news x.id)) olds 1000 ids before (ids_rise 1000 L news after) (λ id is.
      let found = needed_ids (filter L news) id is in
      let y = found.0 in
      let is_new = filter-in L news y found.1.0 in
      let now : thing_with_id news id ≡ Some y = ap (thing_with_id news) (sym found.1.1) ∙ with-id 1000 news y after is_new.0 in
      at id y (thing_with_id olds id) refl now is_new.1
      (subst (λ z. passes N (thing_with_id olds z) ≡ true) found.1.1 (back y is_new.0 is_new.1))) in
      let size = as_long (filter L news) in
      let parts = length-parts N (λ x. passes L (thing_with_id news x.id)) olds in
      omega (arith, most, size, parts)
    where
      as_long : (xs : List Thing) → length (map (λ (x : Thing). x.id) xs) ≡ length xs
      as_long [] = refl
      as_long (x ∷ xs) = ap suc (as_long xs)

      at : (id : ℕ) (y : Thing) (o : Option Thing) → thing_with_id olds id ≡ o → thing_with_id news id ≡ Some y → L y ≡ true → passes N o
          ≡ true → passes (λ x. N x && passes L (thing_with_id news x.id)) o ≡ true
      at id y None found now later e = absurd cc
      at id y (Some x) found now later e = and_from (N x) _ e (rw (ap (thing_with_id news) (find-same olds id x found) ∙ now) later)
