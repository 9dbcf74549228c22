-- X lines: the loop that finds the first that is not right.
use Rattle.std.proofs.Common.{◌≡◌, ℕ, ◌+◌, ◌<◌, ◌≤◌, Bool, true, false, List, [], ◌∷◌, ◌++◌, length, get_or, take, drop, Option, Some, None}
use Rattle.std.proofs.Common.{refl, sym, ap, ◌∙◌, subst, arith}
use Rattle.std.proofs.lemmas.Bool.{and_left, not-false, not-true, not_from_false, not_from_true}
use Rattle.std.proofs.lemmas.List.{take_all, take_more}
use Rattle.std.specs.BTreeMap.{is_at}
use Rattle.std.specs.BTreeSet as sorted
use Rattle.std.specs.BTreeSet.{BTreeSet}
use Rattle.std.specs.List.{list_any}
use Rattle.std.specs.Ordering.{nat_cmp}
use Rattle.std.proofs.lemmas.Option.{some_pair_parts}
use Rattle.std.specs.Prelude.{◌&&◌, ◌==◌, cond, not, if◌then◌else◌}
use Rattle.std.specs.Str.{bytes_eq}
use Rattle.kms_audit.proofs.Firsts.{off-done, off-here, off-step}
use Rattle.kms_audit.proofs.Indices.{keys-more, same_number}
use Rattle.kms_audit.specs.Judged.{IsBehind}
use Rattle.kms_model.specs.declared.reports.Report.{Report}
use Rattle.kms_model.specs.declared.scripts.Script.{Script}
use Rattle.kms_model.specs.declared.worlds.Thing.{Thing}
use Rattle.kms_model.specs.Device.Execution.{is_framebuffer}
use Rattle.kms_model.specs.Device.Serial.{serial}
use Rattle.kms_model.specs.Device.World.{thing_with_id}
use Rattle.kms_model.specs.Report.Right.{freed_is_right, is_closed_framebuffer, number_at}
use Rattle.kms_model.specs.Report.RightAnswers.{entries_in, first_off}
use Rattle.kms_model.specs.Script.Spelling.{name_word}
use Rattle.kms_serial.specs.Device.{Device}
use Rattle.kms_things.specs.Framebuffers.{framebuffer_entry}

abbrev pub FreedFields : Type 0
FreedFields = List ℕ × ℕ

-- the ids of some lines are in a set
abbrev pub AreNamed : List FreedFields → BTreeSet ℕ → Type 0
AreNamed lines m = (id : ℕ) → sorted.contains nat_cmp m id ≡ list_any (λ (x : FreedFields). x.1 == id) lines

-- a line more
pub named-more : (lines : List FreedFields) (x : FreedFields) (old new : BTreeSet ℕ) → AreNamed lines old
    → ((id : ℕ) → sorted.contains nat_cmp new id ≡ cond (is_at (nat_cmp x.1) id) true (sorted.contains nat_cmp old id))
    → AreNamed (lines ++ x ∷ []) new
named-more lines x old new =
    keys-more nat_cmp (λ k q. k == q) same_number (λ (y : FreedFields). y.1) lines x
    (sorted.contains nat_cmp old) (sorted.contains nat_cmp new)

module _ (s : Script) (r : Report) (d : Device) (behind : IsBehind s r d) (before : List FreedFields) (x : FreedFields) (m : BTreeSet ℕ)
    (are : AreNamed before m) where
  pub named-again : sorted.contains nat_cmp m x.1 ≡ true → freed_is_right s r before x ≡ false
  unfolding freed_is_right
  named-again again =
      and_left (not (list_any (λ (other : FreedFields). other.1 == x.1) before))
      (is_closed_framebuffer s.names x.0 (thing_with_id (serial s (entries_in r)).things x.1))
      (not_from_true (list_any (λ (other : FreedFields). other.1 == x.1) before) (sym (are x.1) ∙ again))

  pub freed-as : (closed : Bool) → sorted.contains nat_cmp m x.1 ≡ false → closed ≡ is_closed_framebuffer s.names x.0
      (thing_with_id d.world.things x.1)
      → freed_is_right s r before x ≡ closed
  unfolding freed_is_right
  freed-as closed new is =
      ap (λ b. b && is_closed_framebuffer s.names x.0 (thing_with_id (serial s (entries_in r)).things x.1))
      (not_from_false (list_any (λ (other : FreedFields). other.1 == x.1) before) (sym (are x.1) ∙ new))
      ∙ sym (is ∙ (ap (λ w. is_closed_framebuffer s.names x.0 (thing_with_id w.things x.1)) behind.world ∙ world_whole)) where
        world_whole : is_closed_framebuffer s.names x.0 (thing_with_id (serial s (take (length (entries_in r)) (entries_in r))).things x.1)
            ≡ is_closed_framebuffer s.names x.0 (thing_with_id (serial s (entries_in r)).things x.1)
        world_whole = ap (λ es. is_closed_framebuffer s.names x.0 (thing_with_id (serial s es).things x.1))
            (take_all (length (entries_in r)) (entries_in r) (omega arith))

-- The loop

module _ (s : Script) (r : Report) (d : Device) (behind : IsBehind s r d) (lines : List FreedFields) (place : ℕ)
    (rest : number_at place (first_off (freed_is_right s r) (take place lines) (drop place lines)) ≡ first_off
    (freed_is_right s r) [] lines) where
  whole : r.freed ≡ lines → first_off (freed_is_right s r) [] lines ≡ first_off (freed_is_right s r) [] r.freed
  whole same = ap (first_off (freed_is_right s r) []) (sym same)

  pub freed-none : r.freed ≡ lines → length lines ≤ place → None ≡ first_off (freed_is_right s r) [] r.freed
  freed-none same past = sym (off-done (freed_is_right s r) lines place past) ∙ (rest ∙ whole same)

  module _ (x : FreedFields) (m : BTreeSet ℕ) (within : place < length lines) (are : AreNamed (take place lines) m)
      (added : Bool) (is : added ≡ not (sorted.contains nat_cmp m (get_or lines place x).1)) where
    abbrev line : FreedFields
    line = get_or lines place x

    pub freed-again : r.freed ≡ lines → added ≡ false → Some place ≡ first_off (freed_is_right s r) [] r.freed
    freed-again same off =
        sym (off-here (freed_is_right s r) lines place x within
        (named-again s r d behind (take place lines) line m are (not-false (sorted.contains nat_cmp m line.1) (sym is ∙ off))))
        ∙ (rest ∙ whole same)

    module _ (on : added ≡ true) (closed : Bool)
        (f : closed ≡ is_closed_framebuffer s.names line.0 (thing_with_id d.world.things line.1)) where
      right_as : freed_is_right s r (take place lines) line ≡ closed
      right_as = freed-as s r d behind (take place lines) line m are closed (not-true (sorted.contains nat_cmp m line.1) (sym is ∙ on)) f

      pub freed-off : r.freed ≡ lines → closed ≡ false → Some place ≡ first_off (freed_is_right s r) [] r.freed
      freed-off same off = sym (off-here (freed_is_right s r) lines place x within (right_as ∙ off)) ∙ (rest ∙ whole same)

      pub freed-rest : closed ≡ true
          → number_at (place + 1) (first_off (freed_is_right s r) (take (place + 1) lines) (drop (place + 1) lines)) ≡ first_off
          (freed_is_right s r) [] lines
      freed-rest right = off-step (freed_is_right s r) lines place x within (right_as ∙ right) ∙ rest

pub named-next : (lines : List FreedFields) (place : ℕ) (x : FreedFields) (old new : BTreeSet ℕ) → place < length lines
    → AreNamed (take place lines) old
    → ((id : ℕ) → sorted.contains nat_cmp new id ≡ cond (is_at (nat_cmp (get_or lines place x).1) id) true (sorted.contains nat_cmp old id))
    → AreNamed (take (place + 1) lines) new
named-next lines place x old new within are set =
    subst (λ ls. AreNamed ls new) (sym (take_more lines place x within))
    (named-more (take place lines) (get_or lines place x) old new are set)

-- A closed framebuffer of a label

pub closed-none : (names : List (List ℕ)) (label : List ℕ) (t : Option Thing) → None ≡ framebuffer_entry t
    → false ≡ is_closed_framebuffer names label t
closed-none names label None e = refl
closed-none names label (Some thing) e = by_kind (is_framebuffer thing.content) e where
  by_kind : (b : Bool) → ◌≡◌ {A = Option (ℕ × Bool)} None (if b then Some (thing.label, thing.is_open) else None)
      → false ≡ (b && (not thing.is_open && bytes_eq label (name_word names thing.label)))
  by_kind true f = absurd cc
  by_kind false f = refl

closed_some : (names : List (List ℕ)) (label : List ℕ) (t : Option Thing) (number : ℕ) (opened same : Bool)
    → Some (number, opened) ≡ framebuffer_entry t
    → same ≡ bytes_eq label (name_word names number) → (not opened && same) ≡ is_closed_framebuffer names label t
closed_some names label None number opened same e is = absurd cc
closed_some names label (Some thing) number opened same e is = by_kind (is_framebuffer thing.content) e where
  by_kind : (b : Bool) → ◌≡◌ {A = Option (ℕ × Bool)} (Some (number, opened)) (if b then Some (thing.label, thing.is_open) else None)
      → (not opened && same) ≡ (b && (not thing.is_open && bytes_eq label (name_word names thing.label)))
  by_kind false f = absurd cc
  by_kind true f =
      let p = some_pair_parts number thing.label opened thing.is_open f in
      ap (λ b. not b && same) p.1 ∙ ap (λ b. not thing.is_open && b) (is ∙ ap (λ n. bytes_eq label (name_word names n)) p.0)

module _ (names : List (List ℕ)) (label : List ℕ) (t : Option Thing) (number : ℕ) (opened : Bool)
    (e : Some (number, opened) ≡ framebuffer_entry t) where
  pub closed-not : opened ≡ true → false ≡ is_closed_framebuffer names label t
  closed-not on =
      ap (λ b. not b && bytes_eq label (name_word names number)) (sym on)
      ∙ closed_some names label t number opened (bytes_eq label (name_word names number)) e refl

  pub closed-is : opened ≡ false → (same : Bool) → same ≡ bytes_eq label (name_word names number)
      → same ≡ is_closed_framebuffer names label t
  closed-is off same is = ap (λ b. not b && same) (sym off) ∙ closed_some names label t number opened same e is
