-- Values that are held: those that a request gives, and those that stay.
use Rattle.std.proofs.Common.{◌≡◌, ◌≢◌, ℕ, ◌+◌, Bool, true, false, List, [], ◌∷◌, ◌++◌, length, Option, Some, None, inl, inr, arith, refl}
use Rattle.std.proofs.Common.{sym, ap, ◌∙◌, subst}
use Rattle.std.specs.Prelude.{◌&&◌, ◌||◌, ◌==◌, not, nat_lt, nat_le, ℤ, pos, is_some, filter, Ok, Err, if◌then◌else◌, ⊤}
use Rattle.std.specs.List.{list_all}
use Rattle.std.specs.Ordering.{int_eq}
use Rattle.std.specs.Result.{result_ok}
use Rattle.std.proofs.lemmas.Bool.{eqb-true, and_parts, and_from, or_cases, or_left, or_right, cases_Bool, cond-true, cond-false, ltb-true}
use Rattle.std.proofs.lemmas.Bool.{not-false}
use Rattle.std.proofs.lemmas.Bool.Decides.{Decides-int_eq, nat_tests}
use Rattle.kms_model.specs.declared.objects.Gamma.{Gamma}
use Rattle.kms_model.specs.declared.objects.Kind.{Kind}
use Rattle.kms_model.specs.declared.objects.Kind.TheVariants as kind
use Rattle.kms_model.specs.declared.objects.Mode.{Mode}
use Rattle.kms_model.specs.declared.objects.Topology.{Topology}
use Rattle.kms_model.specs.declared.properties.TheConstants.{FB_ID, GAMMA_LUT, MODE_ID, IN_FENCE_FD, OUT_FENCE_PTR}
use Rattle.kms_model.specs.declared.ranges.Range.{Range}
use Rattle.kms_model.specs.declared.ranges.Range.TheVariants.{Numbers, Thing, CrtcName}
use Rattle.kms_model.specs.declared.scripts.Assign.{Assign}
use Rattle.kms_model.specs.declared.scripts.Value.{Value}
use Rattle.kms_model.specs.declared.scripts.Value.TheVariants.{Num, Named, New, Crtc}
use Rattle.kms_model.specs.declared.worlds.Content.{Content}
use Rattle.kms_model.specs.declared.worlds.Content.TheVariants as content
use Rattle.kms_model.specs.declared.worlds.Setting.{Setting}
use Rattle.kms_model.specs.declared.worlds.Thing as worlds
use Rattle.kms_model.specs.declared.worlds.World.{World}
use Rattle.kms_model.specs.declared.things.BadMode.TheVariants.{Length, Horizontal, Vertical, Clock, Size}
use Rattle.kms_model.specs.Device.GammaBytes.{gamma_of_bytes}
use Rattle.kms_model.specs.Device.ModeBytes.{decoded, if_legal, mode_held}
use Rattle.kms_model.specs.Device.Modes.{is_axis, is_legal_mode}
use Rattle.kms_model.specs.Device.Objects.{object_id, count_of, ids_of}
use Rattle.kms_model.specs.Device.World.{value, thing_labelled, thing_numbered}
use Rattle.kms_model.specs.Device.States.{framebuffer_in, gamma_in, mode_in}
use Rattle.kms_model.specs.Request.Lookups.{look_of_blob, look_of_content, look_of, look_up}
use Rattle.kms_model.specs.Device.Properties.{Property, properties, property}
use Rattle.kms_model.specs.Request.Apply.{id_in, number_of, prop_of, is_kept, object_of, assign, apply}
use Rattle.kms_model.specs.Firsts.{number_if}
use Rattle.kms_model.specs.Request.Refusals.{own_refusal, has_property, is_immutable, is_of_kind, takes, is_in_range, is_in_range_of}
use Rattle.kms_model.specs.Request.Refusals.{is_value, assign_refusal, assigns_refusal}
use Rattle.kms_model.specs.Device.Objects.{exists}
use Rattle.kms_model.specs.Device.Sound.{AreNumbered, has_legal_mode, is_taken, is_thing, is_crtc, is_held, holds_value, kept_properties}
use Rattle.kms_model.specs.Device.Sound.{holds_values, are_held}
use Rattle.kms_model.proofs.PropertyTable.{rows_found}
use Rattle.kms_model.proofs.Items.{IsIn, list_all-at, list_all-from, list_any-has, ids-has, or_else-none, number_if-none}
use Rattle.kms_model.proofs.AppliedValues.{targets, value-assign}
use Rattle.kms_model.proofs.ThingLemmas.{IsNumberedIn, ids-numbered, find-holds, find-in, thing_numbered-labelled, IsSeenAlike, seen-push}
use Rattle.kms_model.proofs.Facts.{by_recursion-at}

-- The table's rows

pub filter-in : {A : Type 0} (test : A → Bool) (xs : List A) (x : A) → IsIn x (filter test xs) → IsIn x xs × (test x ≡ true)
filter-in test [] x is = absurd is
filter-in {A} test (y ∷ ys) x is =
    elim (cases_Bool (test y)) [
      | inl passes ↦ first (subst (IsIn x) (cond-true (test y) (y ∷ filter test ys) (filter test ys) passes) is) passes
          (filter-in test ys x)
      | inr fails ↦ later (filter-in test ys x (subst (IsIn x) (cond-false (test y) (y ∷ filter test ys) (filter test ys) fails) is))
    ]
  where
    later : IsIn x ys × (test x ≡ true) → IsIn x (y ∷ ys) × (test x ≡ true)
    later found = (inr found.0, found.1)

    first : IsIn x (y ∷ filter test ys) → test y ≡ true → (IsIn x (filter test ys) → IsIn x ys × (test x ≡ true)) → IsIn x (y ∷ ys)
        × (test x ≡ true)
    first (inl same) passes rest = (inl same, ap test (sym same) ∙ passes)
    first (inr more) passes rest = later (rest more)

-- a row of the table of a property that keeps a value
pub record IsKeptRow (p : Property) : Type 0 where
  pub is_in : IsIn p properties
  pub found : property p.id ≡ Some p
  pub kept : is_kept p.id ≡ true

pub kept_row : (k : Kind) (p : Property) → IsIn p (kept_properties k) → IsKeptRow p
kept_row k p is =
    let row = filter-in (λ q. is_of_kind k (Some q) && is_kept q.id) properties p is in
    record {
      is_in = row.0;
      found = by_recursion-at (λ q. property q.id ≡ Some q) properties p rows_found row.0;
      kept =
          (and_parts (is_of_kind k (Some p)) (is_kept p.id) row.1).1;
    }

-- What a request gives is held

chosen : (h v k s : Bool) (m n : Mode) → result_ok
    (if not h then Err Horizontal else (if not v then Err Vertical else (if k then Err Clock else (if not s then Err Size else Ok m))))
    ≡ Some n
    → (m ≡ n) × ((h ≡ true) × ((v ≡ true) × ((k ≡ false) × (s ≡ true))))
chosen true true false true m n e = (cc, (refl, (refl, (refl, refl))))
chosen true true false false m n e = absurd cc
chosen true true true s m n e = absurd cc
chosen true false k s m n e = absurd cc
chosen false v k s m n e = absurd cc

positive : (clock : ℕ) → (clock == 0) ≡ false → nat_lt 0 clock ≡ true
positive clock e = grind (arith, nat_tests)

legal-from : (m n : Mode) → result_ok (if_legal m) ≡ Some n → is_legal_mode n ≡ true
legal-from m n e =
    let c = chosen (is_axis m.hdisplay m.hsync_start m.hsync_end m.htotal) (is_axis m.vdisplay m.vsync_start m.vsync_end m.vtotal)
    (m.clock == 0) (nat_le m.hdisplay 4096 && nat_le m.vdisplay 4096) m n e in
    subst (λ (x : Mode). is_legal_mode x ≡ true) c.0
    (and_from _ _ c.1.0 (and_from _ _ c.1.1.0 (and_from _ _ (positive m.clock c.1.1.1.0) c.1.1.1.1)))

decoded-if : (b : Bool) (m n : Mode) → result_ok (if b then if_legal m else Err Length) ≡ Some n → is_legal_mode n ≡ true
decoded-if true m n e = legal-from m n e
decoded-if false m n e = absurd cc

-- a mode that bytes hold is legal
decoded-legal : (bytes : List ℕ) (m : Mode) → result_ok (decoded bytes) ≡ Some m → is_legal_mode m ≡ true
decoded-legal bytes m e = decoded-if (length bytes == 68) (mode_held bytes) m e

-- a property takes what a content has
abbrev takes_content : ℕ → Content → Bool
takes_content q c = ((q == FB_ID) && is_some (framebuffer_in c))
    || (((q == MODE_ID) && has_legal_mode (mode_in c)) || ((q == GAMMA_LUT) && is_some (gamma_in c)))

taken_content : (q id : ℕ) (c : Content) → is_kept q ≡ true → takes q (look_of_content id c) ≡ true → takes_content q c ≡ true
taken_content q id (content.Buffer width height format pattern) kept taken = absurd cc
taken_content q id (content.Framebuffer info buffer) kept taken = or_left ((q == FB_ID) && true) _ (and_from (q == FB_ID) true taken refl)
taken_content q id (content.Mode m) kept taken = go (is_legal_mode m) taken
  where
    go : (legal : Bool) → takes q (if legal then Rattle.kms_model.specs.declared.worlds.Look.TheVariants.Mode m id
        else Rattle.kms_model.specs.declared.worlds.Look.TheVariants.Blob id) ≡ true
        → (((q == FB_ID) && false) || (((q == MODE_ID) && legal) || ((q == GAMMA_LUT) && false))) ≡ true
    go true is = or_right ((q == FB_ID) && false) _ (or_left ((q == MODE_ID) && true) _ (and_from (q == MODE_ID) true is refl))
    go false is = absurd cc
taken_content q id (content.Blob bytes) kept taken = go (result_ok (decoded bytes)) (gamma_of_bytes bytes) refl taken
  where
    go : (mode : Option Mode) (gamma : Option Gamma) → result_ok (decoded bytes) ≡ mode → takes q (look_of_blob id mode gamma) ≡ true
        → (((q == FB_ID) && false) || (((q == MODE_ID) && has_legal_mode mode) || ((q == GAMMA_LUT) && is_some gamma))) ≡ true
    go (Some m) gamma held is = or_right ((q == FB_ID) && false) _
        (or_left ((q == MODE_ID) && is_legal_mode m) _ (and_from (q == MODE_ID) (is_legal_mode m) is (decoded-legal bytes m held)))
    go None (Some g) held is = or_right ((q == FB_ID) && false) _
        (or_right ((q == MODE_ID) && false) ((q == GAMMA_LUT) && true) (and_from (q == GAMMA_LUT) true is refl))
    go None None held is = absurd cc
taken_content q id content.Fence kept taken = let same = eqb-true q IN_FENCE_FD taken in let e : is_kept IN_FENCE_FD
    ≡ true = subst (λ r. is_kept r ≡ true) same kept in absurd cc
taken_content q id content.OutFence kept taken = let same = eqb-true q IN_FENCE_FD taken in let e : is_kept IN_FENCE_FD
    ≡ true = subst (λ r. is_kept r ≡ true) same kept in absurd cc

-- a label whose thing a property takes stands for a held number
held-label : (things : List worlds.Thing) (q : ℕ) (none : ℤ) (o : Option worlds.Thing) → is_kept q ≡ true
    → ((u : worlds.Thing) → o ≡ Some u → thing_numbered things (pos u.id) ≡ Some u)
    → takes q (look_of o) ≡ true → is_thing things q none (id_in o) ≡ true
held-label things q none None kept found taken = absurd cc
held-label things q none (Some u) kept found taken =
    or_right (int_eq (pos u.id) none) (is_taken q (thing_numbered things (pos u.id)))
    (ap (is_taken q) (found u refl) ∙ taken_content q u.id u.content kept (go u.is_open taken))
  where
    go : (open_ : Bool) → takes q (if open_ then look_of_content u.id u.content
        else Rattle.kms_model.specs.declared.worlds.Look.TheVariants.Closed) ≡ true → takes q (look_of_content u.id u.content) ≡ true
    go true is = is
    go false is = absurd cc

-- a range of which no thing has a part
abbrev pub IsPlain : Range → Type 0
IsPlain (Numbers low high) = ⊤
IsPlain CrtcName = ⊤
IsPlain (Thing none) = ⊥

-- what a value of a range needs of the things: their numbers, where it is a range of things
abbrev pub AreNumberedFor : Range → List worlds.Thing → Type 0
AreNumberedFor (Numbers low high) things = ⊤
AreNumberedFor CrtcName things = ⊤
AreNumberedFor (Thing none) things = AreNumbered 1000 things

pub numbered-for : (r : Range) (things : List worlds.Thing) → AreNumbered 1000 things → AreNumberedFor r things
numbered-for (Numbers low high) things numbered = tt
numbered-for CrtcName things numbered = tt
numbered-for (Thing none) things numbered = numbered

pub plain-for : (r : Range) (things : List worlds.Thing) → IsPlain r → AreNumberedFor r things
plain-for (Numbers low high) things plain = tt
plain-for CrtcName things plain = tt
plain-for (Thing none) things plain = absurd plain

-- a value among those of a property stands for a held number
pub held-in_range : (t : Topology) (w : World) (q : ℕ) (r : Range) (v : Value) → AreNumberedFor r w.things → is_kept q ≡ true
    → is_in_range t (look_up w) q r v ≡ true → is_held t w.things q r (number_of w.things v) ≡ true
held-in_range t w q (Numbers low high) (Num n) numbered kept is = is
held-in_range t w q (Numbers low high) (Named label) numbered kept is = absurd cc
held-in_range t w q (Numbers low high) (New label) numbered kept is = absurd cc
held-in_range t w q (Numbers low high) (Crtc index) numbered kept is = absurd cc
held-in_range t w q CrtcName (Num n) numbered kept is = or_left (int_eq n (pos 0)) (is_crtc t n) is
held-in_range t w q CrtcName (Named label) numbered kept is = absurd cc
held-in_range t w q CrtcName (New label) numbered kept is = absurd cc
held-in_range t w q CrtcName (Crtc index) numbered kept is =
    let id : ℕ = object_id kind.Crtc index in
    or_right (int_eq (pos id) (pos 0)) (is_crtc t (pos id))
    (list_any-has (λ crtc. int_eq (pos id) (pos crtc)) (ids_of t kind.Crtc) id
    (ids-has t kind.Crtc index (ltb-true index (count_of t kind.Crtc) is)) ((Decides-int_eq (pos id) (pos id)).1 refl))
held-in_range t w q (Thing none) (Num n) numbered kept is = or_left (int_eq n none) _ is
held-in_range t w q (Thing none) (Named label) numbered kept is =
    held-label w.things q none (thing_labelled w.things label) kept (λ u found. thing_numbered-labelled w.things label u numbered found) is
held-in_range t w q (Thing none) (New label) numbered kept is = let same = eqb-true q OUT_FENCE_PTR is in let e : is_kept OUT_FENCE_PTR
    ≡ true = subst (λ r. is_kept r ≡ true) same kept in absurd cc
held-in_range t w q (Thing none) (Crtc index) numbered kept is = absurd cc

-- What the refusals of assignments let through

pub record IsAccepted (t : Topology) (w : World) (a : Assign) : Type 0 where
  pub object_exists : exists t a.kind a.index ≡ true
  pub has : has_property t a.kind a.prop ≡ true
  pub mutable : is_immutable a.prop ≡ false
  pub is_value : is_value t (look_up w) a.prop a.value ≡ true

pub accepted-assign : (t : Topology) (w : World) (earlier : List Assign) (a : Assign) → assign_refusal t (look_up w) earlier a ≡ None
    → IsAccepted t w a
unfolding assign_refusal own_refusal
accepted-assign t w earlier a none =
    let own = (or_else-none (own_refusal t (look_up w) a) _ none).first_none in
    let four = or_else-none (number_if 4 (not (exists t a.kind a.index))) _ own in
    let five = or_else-none (number_if 5 (not (has_property t a.kind a.prop))) _ four.second_none in
    let six = or_else-none (number_if 6 (is_immutable a.prop)) _ five.second_none in
    record {
      object_exists = not-false (exists t a.kind a.index) (number_if-none 4 _ four.first_none);
      has = not-false (has_property t a.kind a.prop) (number_if-none 5 _ five.first_none);
      mutable = number_if-none 6 (is_immutable a.prop) six.first_none;
      is_value = not-false (is_value t (look_up w) a.prop a.value) (number_if-none 7 _ six.second_none);
    }

held-assign : (t : Topology) (w : World) (a : Assign) (values : List Setting) (object : ℕ) (p : Property) → AreNumberedFor p.range w.things
    → IsKeptRow p → IsAccepted t w a
    → is_held t w.things p.id p.range (value values object p.id) ≡ true
    → is_held t w.things p.id p.range (value (assign w.things values a) object p.id) ≡ true
held-assign t w a values object p numbered row ok held =
    elim (cases_Bool (targets a object p.id)) [
      | inl is ↦ (let same = eqb-true (prop_of a.prop) p.id (and_parts (object_of a == object) (prop_of a.prop == p.id) is).1 in
          let in_row : is_in_range_of t (look_up w) a.value (property (prop_of a.prop)) ≡ true = ok.is_value in
          let in_range : is_in_range t (look_up w) p.id p.range a.value
          ≡ true = subst (λ o. is_in_range_of t (look_up w) a.value o ≡ true) (ap property same ∙ row.found) in_row in
          subst (λ n. is_held t w.things p.id p.range n ≡ true)
          (sym (value-assign w.things values a object p.id row.kept ∙ cond-true (targets a object p.id) (number_of w.things a.value)
          (value values object p.id) is))
          (held-in_range t w p.id p.range a.value numbered row.kept in_range))
      | inr apart ↦ subst (λ n. is_held t w.things p.id p.range n ≡ true)
          (sym (value-assign w.things values a object p.id row.kept ∙ cond-false (targets a object p.id) (number_of w.things a.value)
          (value values object p.id) apart)) held
    ]

-- values that are held stay so over the assignments of an accepted request
pub held-apply : (t : Topology) (w : World) (earlier assigns : List Assign) (values : List Setting) (object : ℕ) (p : Property)
    → AreNumberedFor p.range w.things → IsKeptRow p → assigns_refusal t (look_up w) earlier assigns ≡ None
    → is_held t w.things p.id p.range (value values object p.id) ≡ true
    → is_held t w.things p.id p.range (value (apply w.things values assigns) object p.id) ≡ true
unfolding assigns_refusal
held-apply t w earlier [] values object p numbered row none held = held
held-apply t w earlier (a ∷ assigns) values object p numbered row none held =
    let first = or_else-none (assign_refusal t (look_up w) earlier a) (assigns_refusal t (look_up w) (a ∷ earlier) assigns) none in
    held-apply t w (a ∷ earlier) assigns (assign w.things values a) object p numbered row first.second_none
    (held-assign t w a values object p numbered row (accepted-assign t w earlier a first.first_none) held)

-- All values of a device

-- each value that an object of a kind keeps is held
pub record HoldsAll (t : Topology) (things : List worlds.Thing) (values : List Setting) (k : Kind) : Type 0 where
  pub at : (object : ℕ) (p : Property) → IsIn object (ids_of t k) → IsIn p (kept_properties k)
      → is_held t things p.id p.range (value values object p.id) ≡ true

pub holds_all-from : (t : Topology) (things : List worlds.Thing) (values : List Setting) (k : Kind) → holds_values t things values k ≡ true
    → HoldsAll t things values k
holds_all-from t things values k holds = record {
  at = λ object p is row. list_all-at (holds_value t things values object) (kept_properties k) p
      (list_all-at (λ o. list_all (holds_value t things values o) (kept_properties k)) (ids_of t k) object holds is) row;
}

pub holds_values-from : (t : Topology) (things : List worlds.Thing) (values : List Setting) (k : Kind) → HoldsAll t things values k
    → holds_values t things values k ≡ true
holds_values-from t things values k all =
    list_all-from (λ o. list_all (holds_value t things values o) (kept_properties k)) (ids_of t k)
    (λ object is. list_all-from (holds_value t things values object) (kept_properties k) (λ p row. all.at object p is row))

pub record AreAllHeld (t : Topology) (things : List worlds.Thing) (values : List Setting) : Type 0 where
  pub crtcs : HoldsAll t things values kind.Crtc
  pub planes : HoldsAll t things values kind.Plane
  pub conns : HoldsAll t things values kind.Conn

pub all_held-from : (t : Topology) (things : List worlds.Thing) (values : List Setting) → are_held t things values ≡ true
    → AreAllHeld t things values
all_held-from t things values held =
    let one = and_parts (holds_values t things values kind.Crtc) _ held in
    let two = and_parts (holds_values t things values kind.Plane) (holds_values t things values kind.Conn) one.1 in
    record {
      crtcs = holds_all-from t things values kind.Crtc one.0;
      planes = holds_all-from t things values kind.Plane two.0;
      conns =
          holds_all-from t things values kind.Conn two.1;
    }

pub are_held-from : (t : Topology) (things : List worlds.Thing) (values : List Setting) → AreAllHeld t things values
    → are_held t things values ≡ true
are_held-from t things values all =
    and_from _ _ (holds_values-from t things values kind.Crtc all.crtcs)
    (and_from _ _ (holds_values-from t things values kind.Plane all.planes) (holds_values-from t things values kind.Conn all.conns))

-- the same of the values that are no things

pub record HoldsPlain (t : Topology) (things : List worlds.Thing) (values : List Setting) (k : Kind) : Type 0 where
  pub at : (object : ℕ) (p : Property) → IsIn object (ids_of t k) → IsIn p (kept_properties k) → IsPlain p.range
      → is_held t things p.id p.range (value values object p.id) ≡ true

pub record ArePlainHeld (t : Topology) (things : List worlds.Thing) (values : List Setting) : Type 0 where
  pub crtcs : HoldsPlain t things values kind.Crtc
  pub planes : HoldsPlain t things values kind.Plane
  pub conns : HoldsPlain t things values kind.Conn

pub plain_held-from : (t : Topology) (things : List worlds.Thing) (values : List Setting) → are_held t things values ≡ true
    → ArePlainHeld t things values
plain_held-from t things values held =
    let all : AreAllHeld t things values = all_held-from t things values held in
    record {
      crtcs = record { at = λ object p is row plain. all.crtcs.at object p is row };
      planes = record { at = λ object p is row plain. all.planes.at object p is row };
      conns = record { at = λ object p is row plain. all.conns.at object p is row };
    }

-- what is held stays held where each value stays held
pub holds_all-kept : (t : Topology) (xs ys : List worlds.Thing) (old new : List Setting) (k : Kind)
    → ((object : ℕ) (p : Property) → IsKeptRow p → is_held t xs p.id p.range (value old object p.id) ≡ true
    → is_held t ys p.id p.range (value new object p.id) ≡ true)
    → HoldsAll t xs old k → HoldsAll t ys new k
holds_all-kept t xs ys old new k keeps all = record { at = λ object p is row. keeps object p (kept_row k p row) (all.at object p is row) }

pub are_held-kept : (t : Topology) (xs ys : List worlds.Thing) (old new : List Setting)
    → ((object : ℕ) (p : Property) → IsKeptRow p → is_held t xs p.id p.range (value old object p.id) ≡ true
    → is_held t ys p.id p.range (value new object p.id) ≡ true)
    → are_held t xs old ≡ true → are_held t ys new ≡ true
are_held-kept t xs ys old new keeps held =
    let all = all_held-from t xs old held in
    are_held-from t ys new (record {
      crtcs = holds_all-kept t xs ys old new kind.Crtc keeps all.crtcs;
      planes = holds_all-kept t xs ys old
          new kind.Plane keeps all.planes;
      conns = holds_all-kept t xs ys old new kind.Conn keeps all.conns;
    })

-- As things come and are closed

-- a number under which two lists show the same is held with both
pub held-seen : (t : Topology) (xs ys : List worlds.Thing) (q : ℕ) (r : Range) (number : ℤ) → IsSeenAlike xs ys number
    → is_held t xs q r number ≡ true → is_held t ys q r number ≡ true
held-seen t xs ys q (Numbers low high) number alike held = held
held-seen t xs ys q CrtcName number alike held = held
held-seen t xs ys q (Thing none) number alike held = rw (← alike.fb, ← alike.mode, ← alike.gamma) held

found_apart : (n : ℕ) (things : List worlds.Thing) (u : worlds.Thing) (number : ℤ) (o : Option worlds.Thing) → AreNumbered n things → u.id
    ≡ n + length things → thing_numbered things number ≡ o → is_some o ≡ true → number ≢ pos u.id
found_apart n things u number None numbered next found some = absurd cc
found_apart n things u number (Some v) numbered next found some =
    λ same. let is = find-in (λ x. int_eq (pos x.id) number) things v found in
    let at : IsNumberedIn n things v.id = ids-numbered n things v numbered is in
    let e : int_eq (pos v.id) number ≡ true = find-holds (λ x. int_eq (pos x.id) number) things v found in
    let w : pos v.id ≡ pos u.id = (Decides-int_eq (pos v.id) number).0 e ∙ same in
    let ids : v.id ≡ u.id = cc in
    omega (arith, at.high, next, ids)

-- what a property takes is a thing
taken-some : (q : ℕ) (o : Option worlds.Thing) → is_taken q o ≡ true → is_some o ≡ true
taken-some q (Some u) taken = refl
taken-some q None taken =
    elim (or_cases ((q == FB_ID) && false) _ taken) [
      | inl fb ↦ (and_parts (q == FB_ID) false fb).1
      | inr rest ↦ elim (or_cases ((q == MODE_ID) && false) ((q == GAMMA_LUT) && false) rest) [
        | inl mode ↦ (and_parts (q == MODE_ID) false mode).1
        | inr gamma ↦ (and_parts (q == GAMMA_LUT) false gamma).1
      ]
    ]

-- the number of a thing, held, is not that of the next thing
pub held-apart : (things : List worlds.Thing) (u : worlds.Thing) (q : ℕ) (number : ℤ) → AreNumbered 1000 things → u.id ≡ 1000
    + length things → is_taken q (thing_numbered things number) ≡ true → number ≢ pos u.id
held-apart things u q number numbered next held = found_apart 1000 things u number (thing_numbered things number) numbered next refl
    (taken-some q (thing_numbered things number) held)

-- what is held stays held as a thing is made
pub held-push : (t : Topology) (things : List worlds.Thing) (u : worlds.Thing) (q : ℕ) (r : Range) (number : ℤ) → AreNumbered 1000 things
    → u.id ≡ 1000 + length things
    → is_held t things q r number ≡ true → is_held t (things ++ u ∷ []) q r number ≡ true
held-push t things u q (Numbers low high) number numbered next held = held
held-push t things u q CrtcName number numbered next held = held
held-push t things u q (Thing none) number numbered next held =
    elim (or_cases (int_eq number none) (is_taken q (thing_numbered things number)) held) [
      | inl is_none ↦ or_left (int_eq number none) _ is_none
      | inr found ↦ held-seen t things (things ++ u ∷ []) q (Thing none) number
          (seen-push things u number (held-apart things u q number numbered next found)) held
    ]

-- the number of no thing, 0, or of a thing is seen alike as a thing is made
pub seen-held : (t : Topology) (things : List worlds.Thing) (u : worlds.Thing) (q : ℕ) (number : ℤ) → AreNumbered 1000 things → u.id ≡ 1000
    + length things
    → is_thing things q (pos 0) number ≡ true → IsSeenAlike things (things ++ u ∷ []) number
seen-held t things u q number numbered next held =
    seen-push things u number (elim (or_cases (int_eq number (pos 0)) (is_taken q (thing_numbered things number)) held) [
      | inl is_zero ↦ (λ same. let e : pos 0 ≡ pos u.id = sym ((Decides-int_eq number (pos 0)).0 is_zero) ∙ same in let ids : 0 ≡ u.id = cc
          in omega (arith, next, ids))
      | inr found ↦ held-apart things u q number numbered next found
    ])
