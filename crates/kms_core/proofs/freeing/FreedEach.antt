-- Each framebuffer is freed once: the law of what a history frees, by its last step.
use Rattle.std.proofs.Common.{◌≡◌, ℕ, ◌+◌, ◌<◌, List, [], ◌∷◌, ◌++◌, map, Bool, true, false, not, ◌&&◌, ◌||◌, ◌==◌, Option, Some, None}
use Rattle.std.proofs.Common.{refl, sym, ap, ◌∙◌, subst, arith, append_assoc, append-nil, inl, inr, ◌⊎◌}
use Rattle.std.specs.Prelude.{nat_eq, filter}
use Rattle.std.specs.List.{AllByRecursion, IsDistinct, list_any}
use Rattle.std.proofs.lemmas.Bool.{and_parts, ne_eqb}
use Rattle.kms_model.specs.declared.replies.Reply.{Reply}
use Rattle.kms_model.specs.declared.replies.Reply.TheVariants as reply
use Rattle.kms_model.specs.declared.replies.Step.{Step}
use Rattle.kms_model.specs.declared.replies.Step.TheVariants as step
use Rattle.kms_model.specs.declared.scripts.Command.{Command}
use Rattle.kms_model.specs.declared.scripts.Command.TheVariants as command
use Rattle.kms_model.specs.declared.scripts.Script.{Script}
use Rattle.kms_model.specs.declared.worlds.Thing.{Thing}
use Rattle.kms_model.specs.declared.worlds.World.{World}
use Rattle.kms_model.specs.Device.Execution.{is_framebuffer}
use Rattle.kms_model.specs.Device.Objects.{object_id}
use Rattle.kms_model.specs.Device.Sound.{AreNumbered}
use Rattle.kms_model.specs.Device.World.{thing_with_id}
use Rattle.kms_model.specs.Machine.Effects.{next}
use Rattle.kms_model.specs.Machine.Framebuffers.{freed, freed_from, is_in_things, is_needed}
use Rattle.kms_model.specs.Machine.Histories.{are_legal, at, is_history, legal, run_steps}
use Rattle.kms_model.specs.Machine.State.{Machine, first_machine}
use Rattle.kms_model.specs.Promises.{FreesEachOnce}
use Rattle.kms_model.proofs.Guards.{legal_parts}
use Rattle.kms_model.proofs.HeldValues.{filter-in}
use Rattle.kms_model.proofs.Items.{IsIn}
use Rattle.kms_model.proofs.ShownLemmas.{with-id}
use Rattle.kms_model.proofs.ThingLemmas.{find-in}
use Rattle.kms_laws.proofs.Framebuffers.{all_in-from, find-same}
use Rattle.kms_laws.proofs.Steps.{IsPlainScript, history_kept, step_kept}
use Rattle.kms_laws.proofs.Turning.{legal-more, run-more}
use Rattle.kms_core.specs.Freeing.{AreRising}
use Rattle.kms_core.proofs.freeing.FreedBetween.{IsGrown, IsGrownAt, freed_as, freed_last, grown_same, lost, passes_in}
use Rattle.kms_core.proofs.freeing.FreedHistories.{Changes, Latches, changes, make_frees, quiet_needs, quiet_swap}
use Rattle.kms_core.proofs.freeing.FreedLists.{ids_rise, passes}
use Rattle.kms_core.proofs.freeing.FreedMakes.{MadeFrees}
use Rattle.kms_core.proofs.freeing.FreedSteps.{SameNeeds, needs_of, stays}

-- Ids that differ

apart : (from : ℕ) (ids : List ℕ) (id : ℕ) → AreRising from ids → id < from → AllByRecursion (λ other. nat_eq id other ≡ false) ids
apart from [] id rising low = tt
apart from (c ∷ cs) id rising low =
    (let l = rising.0 in (ne_eqb id c (omega (arith, l, low)), apart (c + 1) cs id rising.1 (omega (arith, l, low))))

rising_distinct : (from : ℕ) (ids : List ℕ) → AreRising from ids → IsDistinct nat_eq ids
unfolding IsDistinct
rising_distinct from [] rising = tt
rising_distinct from (c ∷ cs) rising = (apart (c + 1) cs c rising.1 (omega arith), rising_distinct (c + 1) cs rising.1)

-- the id of a thing of a list
abbrev has_id : List Thing → ℕ → Bool
has_id things id = list_any (λ x. x.id == id) things

abbrev ids : List Thing → List ℕ
ids things = map (λ x. x.id) things

has_joined : (xs ys : List Thing) (id : ℕ) → has_id (xs ++ ys) id ≡ (has_id xs id || has_id ys id)
has_joined [] ys id = refl
has_joined (x ∷ xs) ys id = ap (λ b. x.id == id || b) (has_joined xs ys id) ∙ grouped (x.id == id) (has_id xs id) (has_id ys id) where
  grouped : (a b c : Bool) → (a || (b || c)) ≡ ((a || b) || c)
  grouped true b c = refl
  grouped false b c = refl

left_off : (a b : Bool) → (a || b) ≡ false → a ≡ false
left_off false b off = refl
left_off true b off = absurd cc

right_off : (a b : Bool) → (a || b) ≡ false → b ≡ false
right_off false b off = off
right_off true b off = absurd cc

differs : (id : ℕ) (xs ys : List Thing) → AllByRecursion (λ other. nat_eq id other ≡ false) (ids xs)
    → ((y : Thing) → IsIn y ys → nat_eq id y.id ≡ false) → AllByRecursion (λ other. nat_eq id other ≡ false) (ids (xs ++ ys))
differs id [] [] all each = tt
differs id [] (y ∷ ys) all each = (each y (inl refl), differs id [] ys all (λ z is. each z (inr is)))
differs id (x ∷ xs) ys all each = (all.0, differs id xs ys all.1 each)

joined_distinct : (xs ys : List Thing) → IsDistinct nat_eq (ids xs) → IsDistinct nat_eq (ids ys)
    → ((y : Thing) → IsIn y ys → has_id xs y.id ≡ false) → IsDistinct nat_eq (ids (xs ++ ys))
unfolding IsDistinct
joined_distinct [] ys xs_differ ys_differ none = ys_differ
joined_distinct (x ∷ xs) ys xs_differ ys_differ none = (
  differs x.id xs ys xs_differ.0 (λ y is. left_off (x.id == y.id) (has_id xs y.id) (none y is)),
  joined_distinct xs ys xs_differ.1 ys_differ (λ y is. right_off (x.id == y.id) (has_id xs y.id) (none y is)),
)

-- What holds of a history, by ids

record Frees (s : Script) (h : List Step) : Type 0 where
  once : IsDistinct nat_eq (ids (freed s h))
  unneeded : (id : ℕ) (y : Thing) → thing_with_id (at s h).device.world.things id ≡ Some y → is_framebuffer y.content ≡ true
      → has_id (freed s h) id ≡ not (is_needed s.topology (at s h) y)
  unmade : (id : ℕ) → thing_with_id (at s h).device.world.things id ≡ None → has_id (freed s h) id ≡ false

module _ (s : Script) (h : List Step) (last : Step) (plain : IsPlainScript s) (is : is_history s h ≡ true)
    (is_legal : legal s (at s h) last ≡ true) where
  -- Each step keeps the things, and makes no framebuffer that is not needed.

  made_grown : (client : ℕ) (c : Command) (a : Reply) → MadeFrees s.topology (at s h) (next s (at s h) last) client c a
      → IsGrown s.topology (at s h) (next s (at s h) last)
  made_grown client (command.AddFb label buffer) (reply.Made id) frees = frees.grown
  made_grown client (command.CloseFb label) reply.Done frees = frees.grown
  made_grown client _ _ frees = frees.grown

  same_world : (next s (at s h) last).device.world ≡ (at s h).device.world → IsGrown s.topology (at s h) (next s (at s h) last)
  same_world same = grown_same s.topology (at s h) (next s (at s h) last) (ap (λ (w : World). w.things) same)

  grows : IsGrown s.topology (at s h) (next s (at s h) last)
  grows = by_kind last (changes s (at s h) last is_legal) where
    as_quiet : SameNeeds (at s h) (next s (at s h) last) → IsGrown s.topology (at s h) (next s (at s h) last)
    as_quiet S = (quiet_needs s h last plain is is_legal S).grown

    as_latched : (c : ℕ) → SameNeeds (at s h) (next s (at s h) last) ⊎ Latches s (at s h) (next s (at s h) last) c
        → IsGrown s.topology (at s h) (next s (at s h) last)
    as_latched c (inl S) = as_quiet S
    as_latched c (inr L) = same_world L.world

    by_kind : (kind_of : Step) → Changes s (at s h) kind_of (next s (at s h) last) → IsGrown s.topology (at s h) (next s (at s h) last)
    by_kind (step.Swap client) change = (quiet_swap s h last plain is is_legal client change).grown
    by_kind (step.Make client) change = made_grown client change.command _ (make_frees s h last plain is is_legal client change)
    by_kind (step.Flush k kind index) change = as_latched (object_id kind index) change
    by_kind (step.Vblank kind index) change = as_latched (object_id kind index) change
    by_kind (step.Cleanup k) change = same_world (ap (λ (v : Machine). v.device.world) change)
    by_kind (step.Begin client) change = as_quiet change
    by_kind (step.Lock client kind index) change = as_quiet change
    by_kind (step.BackOff client) change = as_quiet change
    by_kind (step.Relock client) change = as_quiet change
    by_kind (step.Refuse client) change = as_quiet change
    by_kind (step.Test client) change = as_quiet change
    by_kind (step.Signal client) change = as_quiet change
    by_kind (step.Claim k) change = as_quiet change
    by_kind (step.Write k kind index) change = as_quiet change
    by_kind (step.HwDone k) change = as_quiet change
    by_kind (step.Read client) change = as_quiet change
    by_kind (step.Return client) change = as_quiet change
    by_kind step.Stall change = as_quiet change

  numbered : AreNumbered 1000 (at s h).device.world.things
  numbered = (history_kept s h plain is).present.lawful.numbered.things

  numbered_after : AreNumbered 1000 (next s (at s h) last).device.world.things
  numbered_after = (step_kept s (at s h) last plain (history_kept s h plain is) is_legal).present.lawful.numbered.things

  -- What is freed, by ids

  abbrev is_lost : Thing → Bool
  is_lost = lost (is_needed s.topology (at s h)) (is_needed s.topology (next s (at s h) last)) (next s (at s h) last).device.world.things

  now_freed : freed s (h ++ last ∷ []) ≡ freed s h ++ filter is_lost (at s h).device.world.things
  now_freed = freed_last s (first_machine s.topology) h last ∙ ap (λ xs. freed s h ++ xs) (freed_as s (at s h) last numbered_after)

  has_now : (id : ℕ) → has_id (freed s (h ++ last ∷ [])) id ≡
      (has_id (freed s h) id || passes is_lost (thing_with_id (at s h).device.world.things id))
  has_now id =
      ap (λ xs. has_id xs id) now_freed ∙ has_joined (freed s h) (filter is_lost (at s h).device.world.things) id
      ∙ ap (λ b. has_id (freed s h) id || b) (passes_in 1000 is_lost (at s h).device.world.things id numbered)

  module _ (F : Frees s h) where
    -- what is lost was not freed before
    lost_once : (y : Thing) → IsIn y (filter is_lost (at s h).device.world.things) → has_id (freed s h) y.id ≡ false
    lost_once y y_in =
        let found = filter-in is_lost (at s h).device.world.things y y_in in
        let needed = (and_parts (is_needed s.topology (at s h) y) _ found.1).0 in
        F.unneeded y.id y (with-id 1000 (at s h).device.world.things y numbered found.0) (needs_of s.topology (at s h) y needed).framebuffer
        ∙ ap not needed

    joined_once : IsDistinct nat_eq (ids (freed s h ++ filter is_lost (at s h).device.world.things))
    joined_once =
        joined_distinct (freed s h) (filter is_lost (at s h).device.world.things) F.once
        (rising_distinct 1000 _ (ids_rise 1000 is_lost (at s h).device.world.things numbered)) lost_once

    one_of : (a b : Bool) → (b ≡ true → a ≡ true) → (not a || (a && not b)) ≡ not b
    one_of true b back = refl
    one_of false false back = refl
    one_of false true back = absurd (let never : false ≡ true = back refl in cc)

    unneeded_now : (id : ℕ) (y : Thing) → thing_with_id (next s (at s h) last).device.world.things id ≡ Some y
        → is_framebuffer y.content ≡ true
        → has_id (freed s (h ++ last ∷ [])) id ≡ not (is_needed s.topology (next s (at s h) last) y)
    unneeded_now id y found framebuffer =
        has_now id
        ∙ by_old (thing_with_id (at s h).device.world.things id) refl
        (subst (IsGrownAt s.topology (next s (at s h) last) (thing_with_id (at s h).device.world.things id)) found (grows id))
      where
        by_old : (o : Option Thing) → thing_with_id (at s h).device.world.things id ≡ o
            → IsGrownAt s.topology (next s (at s h) last) o (Some y)
            → (has_id (freed s h) id || passes is_lost o) ≡ not (is_needed s.topology (next s (at s h) last) y)
        by_old None none is_new = ap (λ b. b || false) (F.unmade id none) ∙ ap not (sym framebuffer ∙ is_new)
        by_old (Some x) was stays_as =
            let is_y : y ≡ stays_as.thing = cc stays_as.found in
            let x_framebuffer : is_framebuffer x.content ≡ true = ap is_framebuffer (sym stays_as.content)
            ∙ ap (λ (z : Thing). is_framebuffer z.content) (sym is_y) ∙ framebuffer in
            let own : x.id ≡ id = find-same (at s h).device.world.things id x was in
            let now : thing_with_id (next s (at s h) last).device.world.things x.id ≡ Some y =
            ap (thing_with_id (next s (at s h) last).device.world.things) own ∙ found in
            ap (λ b. b || is_lost x) (F.unneeded id x was x_framebuffer)
            ∙ ap (λ o. not (is_needed s.topology (at s h) x) ||
            (is_needed s.topology (at s h) x && not (passes (is_needed s.topology (next s (at s h) last)) o))) now
            ∙ one_of (is_needed s.topology (at s h) x) (is_needed s.topology (next s (at s h) last) y)
            (stays h last plain is is_legal x
            (find-in (λ (z : Thing). z.id == id) (at s h).device.world.things x was) x_framebuffer now)

    unmade_now : (id : ℕ) → thing_with_id (next s (at s h) last).device.world.things id ≡ None
        → has_id (freed s (h ++ last ∷ [])) id ≡ false
    unmade_now id none =
        has_now id
        ∙ by_old (thing_with_id (at s h).device.world.things id) refl
        (subst (IsGrownAt s.topology (next s (at s h) last) (thing_with_id (at s h).device.world.things id)) none (grows id))
      where
        by_old : (o : Option Thing) → thing_with_id (at s h).device.world.things id ≡ o → IsGrownAt s.topology (next s (at s h) last) o None
            → (has_id (freed s h) id || passes is_lost o) ≡ false
        by_old None was grown = ap (λ b. b || false) (F.unmade id was)
        by_old (Some x) was grown = absurd (let never : None ≡ Some grown.thing = grown.found in cc)

    frees_further : Frees s (h ++ last ∷ [])
    frees_further = record {
      once = subst (λ xs. IsDistinct nat_eq (ids xs)) (sym now_freed) joined_once;
      unneeded = λ id y found framebuffer.
          let after = run-more s (first_machine s.topology) h last in
          unneeded_now id y (subst (λ (v : Machine). thing_with_id v.device.world.things id ≡ Some y) after found) framebuffer
          ∙ ap (λ (v : Machine). not (is_needed s.topology v y)) (sym after);
      unmade = λ id none. unmade_now id
          (subst (λ (v : Machine). thing_with_id v.device.world.things id ≡ None) (run-more s (first_machine s.topology) h last) none);
    }

-- along the rest of a history

frees_along : {s : Script} → IsPlainScript s → {front : List Step} (rest : List Step) → is_history s front ≡ true → are_legal s (at s front)
    rest ≡ true
    → Frees s front → Frees s (front ++ rest)
unfolding are_legal
frees_along {s} plain {front} [] is legal_rest F = subst (Frees s) (sym (append-nil front)) F
frees_along {s} plain {front} (step ∷ rest) is legal_rest F =
    let all = legal_parts s (at s front) step rest legal_rest in
    subst (Frees s) (append_assoc front (step ∷ []) rest)
    (frees_along plain rest (legal-more s (first_machine s.topology) front step is all.first)
    (subst (λ (v : Machine). are_legal s v rest ≡ true) (sym (run-more s (first_machine s.topology) front step)) all.rest)
    (frees_further s front step plain is all.first F))

frees_first : (s : Script) → Frees s []
unfolding run_steps freed_from IsDistinct
frees_first s = record { once = tt; unneeded = λ id y found. absurd cc; unmade = λ id none. refl }

frees_all : (s : Script) (h : List Step) → IsPlainScript s → is_history s h ≡ true → Frees s h
unfolding run_steps are_legal
frees_all s h plain is = frees_along plain h refl is (frees_first s)

abbrev IsFreed : Script → List Step → Thing → Type 0
IsFreed s h thing = is_framebuffer thing.content ≡ true → is_in_things (freed s h) thing ≡ not (is_needed s.topology (at s h) thing)

pub frees_each_once : (s : Script) (h : List Step) → IsPlainScript s → is_history s h ≡ true → FreesEachOnce s h
frees_each_once s h plain is =
    let F = frees_all s h plain is in
    let numbered = (history_kept s h plain is).present.lawful.numbered.things in
    record {
      once = F.once;
      unneeded = all_in-from (IsFreed s h) (at s h).device.world.things
          (λ x x_in framebuffer. F.unneeded x.id x (with-id 1000 (at s h).device.world.things x numbered x_in) framebuffer);
      first = λ step is_legal. freed_last s (first_machine s.topology) h step;
    }
