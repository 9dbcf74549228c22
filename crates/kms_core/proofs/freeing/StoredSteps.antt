-- What is needed stays in the store, and what a step frees leaves it.
use Rattle.std.proofs.Common.{◌≡◌, ℕ, ◌+◌, ◌<◌, List, [], ◌∷◌, ◌++◌, length, map, Bool, true, false, not, ◌&&◌, ◌||◌, ◌==◌, Option, Some}
use Rattle.std.proofs.Common.{None, refl, sym, ap, ◌∙◌, subst, arith, inl, inr}
use Rattle.std.specs.Prelude.{if◌then◌else◌, filter}
use Rattle.std.specs.List.{list_any}
use Rattle.std.specs.Option.{option_map}
use Rattle.std.proofs.lemmas.Bool.{cases_eq, cond-false, cond-true, eq-eqb, ne_eqb}
use Rattle.kms_model.specs.declared.objects.Topology.{Topology}
use Rattle.kms_model.specs.declared.things.Framebuffer.{Framebuffer}
use Rattle.kms_model.specs.declared.tables.Slot.{Slot}
use Rattle.kms_model.specs.declared.worlds.Content.{Content}
use Rattle.kms_model.specs.declared.worlds.Content.TheVariants as content
use Rattle.kms_model.specs.declared.worlds.Thing.{Thing}
use Rattle.kms_model.specs.declared.replies.TheConstants.Denied.{NOT_FOUND}
use Rattle.kms_model.specs.Device.Closing.{closed_if}
use Rattle.kms_model.specs.Device.Execution.{close_refusal, is_framebuffer}
use Rattle.kms_model.specs.Device.Sound.{AreNumbered}
use Rattle.kms_model.specs.Device.States.{framebuffer_in}
use Rattle.kms_model.specs.Device.World.{thing_labelled, thing_with_id}
use Rattle.kms_model.specs.Firsts.{denied_if}
use Rattle.kms_model.specs.Machine.Framebuffers.{if_needed, is_needed, stored_framebuffer}
use Rattle.kms_model.specs.Machine.State.{Machine}
use Rattle.kms_model.specs.Things.Kept.{after_close, closed, fbs_closed, with_fewer}
use Rattle.kms_model.specs.Things.Tables.{slot, value_with_id, with_value, without_id}
use Rattle.kms_model.proofs.Items.{IsIn}
use Rattle.kms_model.proofs.ThingLemmas.{find-in, ids-numbered}
use Rattle.kms_model.proofs.ShownLemmas.{with-id}
use Rattle.kms_laws.proofs.Closed.{closed_with_id}
use Rattle.kms_laws.proofs.Framebuffers.{find-same}
use Rattle.kms_core.specs.Freeing.{AreRising, freed_among, label_and_id}
use Rattle.kms_core.specs.Stored.{AreHeld, AreStored, held_as, held_where, without_freed}
use Rattle.kms_core.proofs.freeing.FreedBetween.{lost, needed_framebuffer, passes_in}
use Rattle.kms_core.proofs.freeing.FreedLists.{passes}
use Rattle.kms_core.proofs.freeing.FreedMakes.{IsAdded, IsClosed, added_thing}
use Rattle.kms_core.proofs.freeing.FreedSteps.{IsQuiet, IsTold, longer_new, longer_old, needed_by}

-- Tables

abbrev Fbs : Type 0
Fbs = List (Slot Framebuffer)

cond_same : (b : Bool) (o : Option Framebuffer) → (if b then o else o) ≡ o
cond_same true o = refl
cond_same false o = refl

without_this : (fbs : Fbs) (id : ℕ) → value_with_id (without_id fbs id) id ≡ None
without_this [] id = refl
without_this (s ∷ fbs) id = elim (cases_eq s.id id) [
  | inl here ↦ rw (eq-eqb s.id id here) (without_this fbs id)
  | inr away ↦ (let off = ne_eqb s.id id away in rw (off, off) (without_this fbs id))
]

without_other : (fbs : Fbs) (id at : ℕ) → (id ≡ at → ⊥) → value_with_id (without_id fbs id) at ≡ value_with_id fbs at
without_other [] id at apart = refl
without_other (s ∷ fbs) id at apart = elim (cases_eq s.id id) [
  | inl here ↦ rw (eq-eqb s.id id here, ne_eqb s.id at (λ e. apart (sym here ∙ e))) (without_other fbs id at apart)
  | inr away ↦ rw (ne_eqb s.id id away) (ap (λ o. if s.id == at then Some s.value else o) (without_other fbs id at apart))
]

pub with_this : (fbs : Fbs) (id : ℕ) {old : Framebuffer} (new : Framebuffer) → value_with_id fbs id ≡ Some old
    → value_with_id (with_value fbs id new) id ≡ Some new
with_this [] id new found = absurd cc
with_this (s ∷ fbs) id {old} new found = elim (cases_eq s.id id) [
  | inl here ↦ (let on = eq-eqb s.id id here in rw on (cond-true (id == id) (Some new) _ (eq-eqb id id refl)))
  | inr away ↦ (let off = ne_eqb s.id id away in rw (off, off)
      (with_this fbs id new (sym (cond-false (s.id == id) (Some s.value) (value_with_id fbs id) off) ∙ found)))
]

pub with_other : (fbs : Fbs) (id at : ℕ) (new : Framebuffer) → (id ≡ at → ⊥)
    → value_with_id (with_value fbs id new) at ≡ value_with_id fbs at
with_other [] id at new apart = refl
with_other (s ∷ fbs) id at new apart = elim (cases_eq s.id id) [
  | inl here ↦ rw (eq-eqb s.id id here, ne_eqb id at apart, ne_eqb s.id at (λ e. apart (sym here ∙ e))) (with_other fbs id at new apart)
  | inr away ↦ rw (ne_eqb s.id id away) (ap (λ o. if s.id == at then Some s.value else o) (with_other fbs id at new apart))
]

pub push_this : (fbs : Fbs) (id : ℕ) (new : Framebuffer) → value_with_id fbs id ≡ None
    → value_with_id (fbs ++ slot id new ∷ []) id ≡ Some new
push_this [] id new none = cond-true (id == id) (Some new) None (eq-eqb id id refl)
push_this (s ∷ fbs) id new none = elim (cases_eq s.id id) [
  | inl here ↦ (let never : Some s.value ≡ None = sym (cond-true (s.id == id) (Some s.value) (value_with_id fbs id) (eq-eqb s.id id here))
      ∙ none in absurd cc)
  | inr away ↦ (let off = ne_eqb s.id id away in rw off
      (push_this fbs id new (sym (cond-false (s.id == id) (Some s.value) (value_with_id fbs id) off) ∙ none)))
]

pub push_other : (fbs : Fbs) (id at : ℕ) (new : Framebuffer) → (id ≡ at → ⊥)
    → value_with_id (fbs ++ slot id new ∷ []) at ≡ value_with_id fbs at
push_other [] id at new apart = cond-false (id == at) (Some new) None (ne_eqb id at apart)
push_other (s ∷ fbs) id at new apart = ap (λ o. if s.id == at then Some s.value else o) (push_other fbs id at new apart)

-- What was freed is not in it.

abbrev has_entry : List (ℕ × ℕ) → ℕ → Bool
has_entry entries id = list_any (λ e. e.1 == id) entries

value_without : (entries : List (ℕ × ℕ)) (fbs : Fbs) (id : ℕ)
    → value_with_id (without_freed entries fbs) id ≡ (if has_entry entries id then None else value_with_id fbs id)
value_without [] fbs id = refl
value_without (e ∷ entries) fbs id =
    value_without entries (without_id fbs e.1) id
    ∙ elim (cases_eq e.1 id) [
      | inl here ↦ ap (λ o. if has_entry entries id then None else o)
          (subst (λ z. value_with_id (without_id fbs e.1) z ≡ None) here (without_this fbs e.1)) ∙ cond_same (has_entry entries id) None
          ∙ sym (cond-true (e.1 == id || has_entry entries id) None (value_with_id fbs id)
          (ap (λ b. b || has_entry entries id) (eq-eqb e.1 id here)))
      | inr away ↦ ap (λ o. if has_entry entries id then None else o) (without_other fbs e.1 id away)
          ∙ ap (λ b. if b || has_entry entries id then None else value_with_id fbs id) (sym (ne_eqb e.1 id away))
    ]

entries_has : (xs : List Thing) (id : ℕ) → has_entry (map label_and_id xs) id ≡ list_any (λ x. x.id == id) xs
entries_has [] id = refl
entries_has (x ∷ xs) id = ap (λ b. x.id == id || b) (entries_has xs id)

pub joined_freed : (first rest : List (ℕ × ℕ)) (fbs : Fbs)
    → without_freed (first ++ rest) fbs ≡ without_freed rest (without_freed first fbs)
joined_freed [] rest fbs = refl
joined_freed (e ∷ first) rest fbs = joined_freed first rest (without_id fbs e.1)

-- Steps

pub quiet_stored : (t : Topology) (m n : Machine) (fbs : Fbs) → IsQuiet t m n → AreStored t m fbs → AreStored t n fbs
quiet_stored t m n fbs Q S = λ id. S id ∙ sym (Q.steady id)

-- what was needed before a step is in the store, as it is after the step
abbrev pub was_needed : Topology → Machine → Thing → Bool
was_needed t m y = passes (is_needed t m) (thing_with_id m.device.world.things y.id)

abbrev pub WereStored : Topology → Machine → Machine → Fbs → Type 0
WereStored t m n fbs = (id : ℕ) → value_with_id fbs id ≡ held_where (was_needed t m) (thing_with_id n.device.world.things id)

pub same_stored : (t : Topology) (m n : Machine) (fbs : Fbs) → n.device.world.things ≡ m.device.world.things → AreStored t m fbs
    → WereStored t m n fbs
same_stored t m n fbs same S = λ id. S id ∙ at id (thing_with_id m.device.world.things id) refl
    ∙ ap (held_where (was_needed t m)) (ap (λ things. thing_with_id things id) (sym same)) where
      at : (id : ℕ) (o : Option Thing) → thing_with_id m.device.world.things id ≡ o
          → held_where (is_needed t m) o ≡ held_where (was_needed t m) o
      at id None found = refl
      at id (Some x) found =
          ap (λ b. if b then held_as x x.content else None)
          (sym (ap (passes (is_needed t m)) (ap (thing_with_id m.device.world.things) (find-same m.device.world.things id x found) ∙
          found)))

-- what is needed before a step and not after it
abbrev lost_by : Topology → Machine → Machine → Thing → Bool
lost_by t m n = lost (is_needed t m) (is_needed t n) n.device.world.things

-- a step that frees some candidates
pub told_stored : {t : Topology} {m n : Machine} {ids : List ℕ} (fbs : Fbs) → AreNumbered 1000 m.device.world.things → IsTold t m n ids
    → WereStored t m n fbs → AreStored t n (without_freed (freed_among t n ids) fbs)
told_stored {t} {m} {n} {ids} fbs numbered T W = λ id.
    value_without (freed_among t n ids) fbs id
    ∙ (λ i. if has_entry (sym T.told i) id then None else W id i)
    ∙ ap (λ b. if b then None else held_where (was_needed t m) (thing_with_id n.device.world.things id))
    (entries_has (filter (lost_by t m n) m.device.world.things) id ∙ passes_in 1000 (lost_by t m n) m.device.world.things id numbered)
    ∙ by_now id (thing_with_id n.device.world.things id) refl (thing_with_id m.device.world.things id) refl
  where
    by_tests : (a b : Bool) (o : Option Framebuffer) → (b ≡ true → a ≡ true)
        → (if a && not b then None else (if a then o else None)) ≡ (if b then o else None)
    by_tests true true o back = refl
    by_tests true false o back = refl
    by_tests false false o back = refl
    by_tests false true o back = absurd (let never : false ≡ true = back refl in cc)

    by_now : (id : ℕ) (p : Option Thing) → thing_with_id n.device.world.things id ≡ p → (o : Option Thing)
        → thing_with_id m.device.world.things id ≡ o
        → (if passes (lost_by t m n) o then None else held_where (was_needed t m) p) ≡ held_where (is_needed t n) p
    by_now id None now o was = cond_same (passes (lost_by t m n) o) None
    by_now id (Some y) now o was =
        let y_in = find-in (λ (u : Thing). u.id == id) n.device.world.things y now in
        let own : y.id ≡ id = find-same n.device.world.things id y now in
        let needs : was_needed t m y ≡ passes (is_needed t m) o =
        ap (passes (is_needed t m)) (ap (thing_with_id m.device.world.things) own ∙ was) in
        ap (λ b. if passes (lost_by t m n) o then None else (if b then held_as y y.content else None)) needs
        ∙ by_old o was (λ needed. sym needs ∙ T.back y y_in needed)
      where
        by_old : (o : Option Thing) → thing_with_id m.device.world.things id ≡ o
            → (is_needed t n y ≡ true → passes (is_needed t m) o ≡ true)
            → (if passes (lost_by t m n) o then None else (if passes (is_needed t m) o then held_as y y.content else None)) ≡
            (if is_needed t n y then held_as y y.content else None)
        by_old None was back = by_tests false (is_needed t n y) (held_as y y.content) back
        by_old (Some x) was back =
            let lost_is : lost_by t m n x ≡ (is_needed t m x && not (is_needed t n y)) =
            ap (λ o. is_needed t m x && not (passes (is_needed t n) o))
            (ap (thing_with_id n.device.world.things) (find-same m.device.world.things id x was) ∙ now) in
            ap (λ b. if b then None else (if is_needed t m x then held_as y y.content else None)) lost_is
            ∙ by_tests (is_needed t m x) (is_needed t n y) (held_as y y.content) back

-- a framebuffer that is added
module _ (t : Topology) (m n : Machine) (client label buffer next : ℕ) (A : IsAdded t m n client label buffer next)
    (numbered : AreNumbered 1000 m.device.world.things) (ends : m.device.world.next_id ≡ 1000 + length m.device.world.things) where
  abbrev made : Thing
  made = added_thing m.device.world.next_id client label A.source

  unmade : thing_with_id m.device.world.things m.device.world.next_id ≡ None
  unmade = at (thing_with_id m.device.world.things m.device.world.next_id) refl where
    at : (o : Option Thing) → thing_with_id m.device.world.things m.device.world.next_id ≡ o → o ≡ None
    at None found = refl
    at (Some x) found =
        let within = ids-numbered 1000 m.device.world.things x numbered
        (find-in (λ (u : Thing). u.id == m.device.world.next_id) m.device.world.things x found) in
        let own = find-same m.device.world.things m.device.world.next_id x found in
        let high = within.high in
        absurd (omega (arith, high, own, ends))

  pub unstored : (fbs : Fbs) → AreStored t m fbs → value_with_id fbs m.device.world.next_id ≡ None
  unstored fbs S = S m.device.world.next_id ∙ ap (held_where (is_needed t m)) unmade

  pub added_stored : (fbs new : Fbs) → AreStored t m fbs → value_with_id new m.device.world.next_id ≡ held_as made made.content
      → ((id : ℕ) → (m.device.world.next_id ≡ id → ⊥) → value_with_id new id ≡ value_with_id fbs id) → AreStored t n new
  added_stored fbs new S own others = λ id. elim (cases_eq m.device.world.next_id id) [
    | inl here ↦ subst (λ z. value_with_id new z ≡ held_where (is_needed t n) (thing_with_id n.device.world.things z)) here
        (own ∙ sym it_now)
    | inr away ↦ others id away ∙ S id ∙ at id away (thing_with_id m.device.world.things id) refl
  ] where
    it_now : held_where (is_needed t n) (thing_with_id n.device.world.things m.device.world.next_id) ≡ held_as made made.content
    it_now =
        ap (held_where (is_needed t n))
        (longer_new t m n (made ∷ []) A.longer m.device.world.next_id unmade
        ∙ cond-true (m.device.world.next_id == m.device.world.next_id) (Some made) None
        (eq-eqb m.device.world.next_id m.device.world.next_id refl))
        ∙ ap (λ b. if b then held_as made made.content else None) A.needed

    at : (id : ℕ) → (m.device.world.next_id ≡ id → ⊥) → (o : Option Thing) → thing_with_id m.device.world.things id ≡ o
        → held_where (is_needed t m) o ≡ held_where (is_needed t n) (thing_with_id n.device.world.things id)
    at id away None found =
        sym (ap (held_where (is_needed t n))
        (longer_new t m n (made ∷ []) A.longer id found
        ∙ cond-false (m.device.world.next_id == id) (Some made) None (ne_eqb m.device.world.next_id id away)))
    at id away (Some x) found =
        sym (ap (held_where (is_needed t n)) (longer_old t m n (made ∷ []) A.longer id found)
        ∙ ap (λ b. if b then held_as x x.content else None)
        (A.longer.same x (find-in (λ (u : Thing). u.id == id) m.device.world.things x found)))

-- a framebuffer that is closed: it has the device's reference left
record Shuts (client : ℕ) (u : Thing) (fbs : Fbs) : Type 0 where
  old : Framebuffer
  new : Framebuffer
  was : value_with_id fbs u.id ≡ Some old
  closes : fbs_closed fbs client u.id ≡ with_value fbs u.id new
  held : held_as (record u { is_open = false }) u.content ≡ Some new

shuts : (client : ℕ) (u : Thing) (fbs : Fbs) → close_refusal client (Some u) ≡ None → value_with_id fbs u.id ≡ held_as u u.content
    → Shuts client u fbs
shuts client u fbs may value = by_parts u.content u.is_open (u.owner == client) refl may value where
  by_parts : (c : Content) (b e : Bool) → (u.owner == client) ≡ e
      → close_refusal client (Some (record u { content = c; is_open = b })) ≡ None
      → value_with_id fbs u.id ≡ held_as (record u { content = c; is_open = b }) c
      → Shuts client (record u { content = c; is_open = b }) fbs
  by_parts (content.Framebuffer info buffer) true true owner may value =
      let old : Framebuffer = record { owner = u.owner; buffer = buffer; info = info; is_open = true; references = 2 } in
      record {
        old = old;
        new = record { owner = u.owner; buffer = buffer; info = info; is_open = false; references = 1 };
        was = value;
        closes = ap (after_close fbs client u.id) value ∙ ap (λ b. if b then with_fewer fbs u.id (closed old) else fbs) owner;
        held = refl;
      }
  by_parts (content.Framebuffer info buffer) true false owner may value =
      absurd (let never : Some NOT_FOUND.0 ≡ None = sym (ap (λ b. denied_if NOT_FOUND (not b)) owner) ∙ may in cc)
  by_parts (content.Framebuffer info buffer) false e owner may value = absurd cc
  by_parts (content.Buffer width height format pattern) b e owner may value = absurd cc
  by_parts (content.Mode mode) b e owner may value = absurd cc
  by_parts (content.Blob bytes) b e owner may value = absurd cc
  by_parts content.Fence b e owner may value = absurd cc
  by_parts content.OutFence b e owner may value = absurd cc

-- one that may be closed is needed
closed_needed : (t : Topology) (m : Machine) (client : ℕ) (u : Thing) → close_refusal client (Some u) ≡ None → is_needed t m u ≡ true
closed_needed t m client u may = by_parts u.content u.is_open refl refl may where
  by_parts : (c : Content) (b : Bool) → c ≡ u.content → b ≡ u.is_open
      → close_refusal client (Some (record u { content = c; is_open = b })) ≡ None → is_needed t m u ≡ true
  by_parts (content.Framebuffer info buffer) true is opened may =
      needed_by t m u (record { framebuffer = ap is_framebuffer (sym is); why = inl (sym opened) })
  by_parts (content.Framebuffer info buffer) false is opened may = absurd cc
  by_parts (content.Buffer width height format pattern) b is opened may = absurd cc
  by_parts (content.Mode mode) b is opened may = absurd cc
  by_parts (content.Blob bytes) b is opened may = absurd cc
  by_parts content.Fence b is opened may = absurd cc
  by_parts content.OutFence b is opened may = absurd cc

module _ (t : Topology) (m n : Machine) (client label : ℕ) (C : IsClosed t m n client label)
    (numbered : AreNumbered 1000 m.device.world.things) (fbs : Fbs) (S : AreStored t m fbs) where
  at_thing : thing_with_id m.device.world.things C.thing.id ≡ Some C.thing
  at_thing = with-id 1000 m.device.world.things C.thing numbered
      (find-in (λ (x : Thing). x.label == label) m.device.world.things C.thing C.was)

  needs : is_needed t m C.thing ≡ true
  needs = closed_needed t m client C.thing C.may

  D : Shuts client C.thing fbs
  D =
      shuts client C.thing fbs C.may
      (S C.thing.id ∙ ap (held_where (is_needed t m)) at_thing ∙ ap (λ b. if b then held_as C.thing C.thing.content else None) needs)

  abbrev thing_now : Thing
  thing_now = record C.thing { is_open = false }

  now_at : (id : ℕ) → thing_with_id n.device.world.things id ≡ option_map (closed_if C.thing.id) (thing_with_id m.device.world.things id)
  now_at id = ap (λ things. thing_with_id things id) C.shut ∙ closed_with_id m.device.world.things C.thing.id id

  now_thing : thing_with_id n.device.world.things C.thing.id ≡ Some thing_now
  now_thing = now_at C.thing.id ∙ ap (option_map (closed_if C.thing.id)) at_thing
      ∙ ap Some (cond-true (C.thing.id == C.thing.id) thing_now C.thing (eq-eqb C.thing.id C.thing.id refl))

  shut_value : value_with_id (fbs_closed fbs client C.thing.id) C.thing.id ≡ held_as thing_now C.thing.content
  shut_value = ap (λ xs. value_with_id xs C.thing.id) D.closes ∙ with_this fbs C.thing.id D.new D.was ∙ sym D.held

  other_value : (id : ℕ) → (C.thing.id ≡ id → ⊥) → value_with_id (fbs_closed fbs client C.thing.id) id ≡ value_with_id fbs id
  other_value id apart = ap (λ xs. value_with_id xs id) D.closes ∙ with_other fbs C.thing.id id D.new apart

  -- what was needed is stored, as it is after the step
  pub closed_were : WereStored t m n (fbs_closed fbs client C.thing.id)
  closed_were = λ id. elim (cases_eq C.thing.id id) [
    | inl here ↦ subst (λ z. value_with_id (fbs_closed fbs client C.thing.id) z ≡ held_where (was_needed t m)
        (thing_with_id n.device.world.things z)) here
        (shut_value ∙ sym (ap (held_where (was_needed t m)) now_thing
        ∙ ap (λ b. if b then held_as thing_now C.thing.content else None) (ap (passes (is_needed t m)) at_thing ∙ needs)))
    | inr away ↦ other_value id away ∙ S id ∙ at id away (thing_with_id m.device.world.things id) refl
        ∙ ap (held_where (was_needed t m)) (sym (now_at id))
  ] where
    at : (id : ℕ) → (C.thing.id ≡ id → ⊥) → (o : Option Thing) → thing_with_id m.device.world.things id ≡ o
        → held_where (is_needed t m) o ≡ held_where (was_needed t m) (option_map (closed_if C.thing.id) o)
    at id away None found = refl
    at id away (Some x) found =
        let own : x.id ≡ id = find-same m.device.world.things id x found in
        ap (λ b. if b then held_as x x.content else None)
        (sym (ap (passes (is_needed t m)) (ap (thing_with_id m.device.world.things) own ∙ found)))
        ∙ ap (λ z. held_where (was_needed t m) (Some z))
        (sym (cond-false (x.id == C.thing.id) (record x { is_open = false }) x (ne_eqb x.id C.thing.id (λ e. away (sym e ∙ own)))))

  -- and so is the one that was closed
  pub closed_held : {things : List Thing} → n.device.world.things ≡ things → {u : Thing} → thing_labelled things label ≡ Some u
      → AreHeld things (fbs_closed fbs client C.thing.id) (u.id ∷ [])
  closed_held {things} same {u} found =
      let one : Some C.now ≡ Some u = sym C.found ∙ ap (λ all. thing_labelled all label) same ∙ found in
      let is_u : C.now ≡ u = cc in
      let own : C.thing.id ≡ u.id = sym C.same_id ∙ ap (λ (x : Thing). x.id) is_u in (
        subst (λ z. value_with_id (fbs_closed fbs client C.thing.id) z ≡ held_where (λ thing. true) (thing_with_id things z)) own
            (shut_value ∙ ap (held_where (λ thing. true)) (sym (ap (λ all. thing_with_id all C.thing.id) (sym same) ∙ now_thing))),
        tt,
      )

-- Candidates

-- those that are needed are in the store
pub needed_held : (t : Topology) (m : Machine) (things : List Thing) (fbs : Fbs) (ids : List ℕ) → m.device.world.things ≡ things
    → AreStored t m fbs
    → ((id : ℕ) → IsIn id ids → (x : Thing) → x.id ≡ id → is_framebuffer x.content ≡ true → is_needed t m x ≡ true) → AreHeld things fbs ids
needed_held t m things fbs [] same S each = tt
needed_held t m things fbs (id ∷ ids) same S each = (
  S id ∙ at (thing_with_id m.device.world.things id) refl
      ∙ ap (λ all. held_where (λ thing. true) (thing_with_id all id)) same,
  needed_held t m things fbs ids same S
      (λ other is. each other (inr is)),
)
  where
    at : (o : Option Thing) → thing_with_id m.device.world.things id ≡ o → held_where (is_needed t m) o ≡ held_where (λ thing. true) o
    at None found = refl
    at (Some x) found = by_kind (is_framebuffer x.content) refl where
      unheld : (c : Content) → is_framebuffer c ≡ false → held_as x c ≡ None
      unheld (content.Framebuffer info buffer) off = absurd cc
      unheld (content.Buffer width height format pattern) off = refl
      unheld (content.Mode mode) off = refl
      unheld (content.Blob bytes) off = refl
      unheld content.Fence off = refl
      unheld content.OutFence off = refl

      by_kind : (b : Bool) → is_framebuffer x.content ≡ b → held_where (is_needed t m) (Some x) ≡ held_as x x.content
      by_kind true e = ap (λ b. if b then held_as x x.content else None)
          (each id (inl refl) x (find-same m.device.world.things id x found) e)
      by_kind false e = ap (λ b. if b then held_as x x.content else None) (needed_framebuffer t m x e) ∙ sym (unheld x.content e)

-- they stay there while another one leaves
pub held_without : (things : List Thing) (fbs : Fbs) (id from : ℕ) (ids : List ℕ) → id < from → AreRising from ids → AreHeld things fbs ids
    → AreHeld things (without_id fbs id) ids
held_without things fbs id from [] low rising held = tt
held_without things fbs id from (c ∷ cs) low rising held = (
  without_other fbs id c (let l = rising.0 in λ e. omega (arith, l, low, e)) ∙ held.0,
  held_without things fbs id (c + 1) cs (let l = rising.0 in omega (arith, l, low)) rising.1 held.1,
)

-- what the store tells of a framebuffer
pub told_info : (t : Topology) (m : Machine) (fbs : Fbs) (id : ℕ) → AreStored t m fbs
    → option_map (λ fb. fb.info) (value_with_id fbs id) ≡ stored_framebuffer t m id
unfolding stored_framebuffer
told_info t m fbs id S = ap (option_map (λ fb. fb.info)) (S id) ∙ at (thing_with_id m.device.world.things id) where
  by_content : (x : Thing) (c : Content) (b : Bool)
      → option_map (λ fb. fb.info) (if b then held_as x c else None) ≡ (if b then framebuffer_in c else None)
  by_content x c false = refl
  by_content x (content.Framebuffer info buffer) true = refl
  by_content x (content.Buffer width height format pattern) true = refl
  by_content x (content.Mode mode) true = refl
  by_content x (content.Blob bytes) true = refl
  by_content x content.Fence true = refl
  by_content x content.OutFence true = refl

  at : (o : Option Thing) → option_map (λ fb. fb.info) (held_where (is_needed t m) o) ≡ if_needed t m o
  at None = refl
  at (Some x) = by_content x x.content (is_needed t m x)
