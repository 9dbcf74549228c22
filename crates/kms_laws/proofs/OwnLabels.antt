-- Each thing is the one that was made under its label: a label is made by one command, and by one assignment of a request.
use Rattle.std.proofs.Common.{◌≡◌, ℕ, zero, suc, ◌+◌, ◌<◌, ◌≤◌, true, false, List, [], ◌∷◌, ◌++◌, reverse, Option, Some, None, inl, inr}
use Rattle.std.proofs.Common.{◌⊎◌, refl, sym, ap, ◌∙◌, subst, arith}
use Rattle.std.specs.Prelude.{◌==◌, ⊤, map}
use Rattle.std.specs.List.{AllByRecursion, list_any, range_with_len}
use Rattle.std.specs.Option.{option_map}
use Rattle.std.proofs.lemmas.Bool.{cases_Bool, cond-false, cond-true, eq-eqb, eqb-true}
use Rattle.kms_model.specs.declared.objects.Kind.TheVariants.{Crtc}
use Rattle.kms_model.specs.declared.objects.Topology.{Topology}
use Rattle.kms_model.specs.declared.replies.Step.{Step}
use Rattle.kms_model.specs.declared.scripts.Assign.{Assign}
use Rattle.kms_model.specs.declared.scripts.Command.{Command}
use Rattle.kms_model.specs.declared.scripts.Command.TheVariants as command
use Rattle.kms_model.specs.declared.scripts.Request.{Request}
use Rattle.kms_model.specs.declared.properties.TheConstants.{OUT_FENCE_PTR}
use Rattle.kms_model.specs.declared.scripts.Script.{Script}
use Rattle.kms_model.specs.declared.scripts.Value.{Value}
use Rattle.kms_model.specs.declared.worlds.Content.{Content}
use Rattle.kms_model.specs.declared.worlds.Content.TheVariants as content
use Rattle.kms_model.specs.declared.worlds.Thing.{Thing}
use Rattle.kms_model.specs.declared.worlds.World.{World}
use Rattle.kms_model.specs.Device.Closing.{closed_if, closed_in}
use Rattle.kms_model.specs.Device.Execution.{BufferInfo, add_fb, buffer_of, close_refusal, close_unless, commit, committed, destroy_refusal}
use Rattle.kms_model.specs.Device.Execution.{execute, make_out_fence, make_out_fences, make_unless, new_buffer_refusal, signal_refusal}
use Rattle.kms_model.specs.Device.Execution.{signal_unless}
use Rattle.kms_model.specs.Device.Objects.{count_of, ids_of, object_id}
use Rattle.kms_model.specs.Device.Serial.{Entry, command_of}
use Rattle.kms_model.specs.Device.World.{start, thing_labelled}
use Rattle.kms_model.specs.Machine.Effects.{answers, goes_on, next, signals}
use Rattle.kms_model.specs.Machine.Histories.{at, is_history, legal}
use Rattle.kms_model.specs.Machine.State.{Machine, command_at, doing_at, entry_at, first_machine}
use Rattle.kms_model.specs.Request.Flags.{is_test}
use Rattle.kms_model.specs.Firsts.{one_if}
use Rattle.kms_model.specs.Request.Apply.{object_of}
use Rattle.kms_model.specs.Request.Touched.{last_value, new_label, out_fence_label}
use Rattle.kms_model.specs.Request.Verdict.{verdict}
use Rattle.kms_model.specs.Script.WellFormed.{IsWellFormed}
use Rattle.kms_model.proofs.FramedLemmas.{closed_same}
use Rattle.kms_model.proofs.Facts.{all-from_recursion}
use Rattle.kms_model.proofs.Items.{IsIn}
use Rattle.kms_model.proofs.LastLemmas.{SetBy, set_by}
use Rattle.kms_laws.specs.Once.{EachHasItsLabel, is_new, makes}
use Rattle.kms_laws.proofs.Basics.{in_either}
use Rattle.kms_laws.proofs.Closed.{closed_labelled}
use Rattle.kms_laws.proofs.EachStep.{Carries, by_bool, by_fence, by_two, each_step, locks_leave, made_as, swapped_as, tails_leave}
use Rattle.kms_laws.proofs.Ended.{HasEnded, carries_ended}
use Rattle.kms_laws.proofs.Fences.{found-push}
use Rattle.kms_laws.proofs.Fitting.{idle-busy, taking-busy}
use Rattle.kms_laws.proofs.Labels.{absent_push, asks_made, new_is, serial_absent}
use Rattle.kms_laws.proofs.MadeApart.{MakesApart, times_made}
use Rattle.kms_laws.proofs.MadeOnce.{made_apart, made_once}
use Rattle.kms_laws.proofs.Modes.{plain-from}
use Rattle.kms_laws.proofs.Present.{reverse_more}
use Rattle.kms_laws.proofs.Sizes.{answered, ended_at, place_of}
use Rattle.kms_laws.proofs.Steps.{Holds, along, first_kept, step_kept}

-- Things

-- each thing is found by its label
abbrev pub Own : List Thing → Type 0
Own things = (u : Thing) → IsIn u things → thing_labelled things u.label ≡ Some u

new_found : (things : List Thing) (x : Thing) → thing_labelled things x.label ≡ None → thing_labelled (things ++ x ∷ []) x.label ≡ Some x
new_found [] x none = cond-true (x.label == x.label) (Some x) None (eq-eqb x.label x.label refl)
new_found (y ∷ ys) x none = elim (cases_Bool (y.label == x.label)) [
  | inl here ↦ (let some : Some y ≡ None = sym (cond-true (y.label == x.label) (Some y) (thing_labelled ys x.label) here)
      ∙ none in absurd cc)
  | inr away ↦ (
      cond-false (y.label == x.label) (Some y) (thing_labelled (ys ++ x ∷ []) x.label) away
      ∙ new_found ys x (sym (cond-false (y.label == x.label) (Some y) (thing_labelled ys x.label) away) ∙ none))
]

pub own_push : (things : List Thing) (x : Thing) → Own things → thing_labelled things x.label ≡ None → Own (things ++ x ∷ [])
own_push things x own none u is = by (in_either things (x ∷ []) u is)
  where
    by : IsIn u things ⊎ IsIn u (x ∷ []) → thing_labelled (things ++ x ∷ []) u.label ≡ Some u
    by (inl old) = found-push things x u.label u (own u old)
    by (inr (inl same)) = subst (λ (v : Thing). thing_labelled (things ++ x ∷ []) v.label ≡ Some v) same (new_found things x none)
    by (inr (inr never)) = absurd never

-- a thing of before that is closed
pub record WasOpen (things : List Thing) (id : ℕ) (u : Thing) : Type 0 where
  pub before : Thing
  pub member : IsIn before things
  pub same : closed_if id before ≡ u

pub was_open : (things : List Thing) (id : ℕ) (u : Thing) → IsIn u (closed_in things id) → WasOpen things id u
was_open [] id u is = absurd is
was_open (x ∷ xs) id u (inl same) = record { before = x; member = inl refl; same = same }
was_open (x ∷ xs) id u (inr later) = let rest = was_open xs id u later in
    record { before = rest.before; member = inr rest.member; same = rest.same }

pub own_closed : (things : List Thing) (id : ℕ) → Own things → Own (closed_in things id)
own_closed things id own u is =
    let was = was_open things id u is in
    let label : u.label ≡ was.before.label = ap (λ (x : Thing). x.label) (sym was.same) ∙ (closed_same id was.before).label in
    ap (thing_labelled (closed_in things id)) label
    ∙ (closed_labelled things id was.before.label ∙ (ap (option_map (closed_if id)) (own was.before was.member) ∙ ap Some was.same))

-- Commands

-- nothing was made under a label that a command makes
abbrev pub IsFree : List Thing → Command → Type 0
IsFree things c = (label : ℕ) → makes c label ≡ true → thing_labelled things label ≡ None

-- no two CRTCs get an out-fence under one label
abbrev pub AskApart : List Assign → Type 0
AskApart assigns = (a b label : ℕ) → out_fence_label assigns a ≡ Some label → out_fence_label assigns b ≡ Some label → a ≡ b

abbrev pub AsksApart : Command → Type 0
AsksApart (command.Atomic r) = AskApart r.assigns
AsksApart _ = ⊤

-- the assignment that asks for an out-fence
record AskedBy (assigns : List Assign) (crtc label : ℕ) : Type 0 where
  item : Assign
  member : IsIn item assigns
  object : object_of item ≡ crtc
  new : is_new item.value label ≡ true

asked_by : (assigns : List Assign) (crtc label : ℕ) → out_fence_label assigns crtc ≡ Some label → AskedBy assigns crtc label
asked_by assigns crtc label asks = go (last_value assigns crtc OUT_FENCE_PTR) refl asks
  where
    go : (o : Option Value) → last_value assigns crtc OUT_FENCE_PTR ≡ o → new_label o ≡ Some label → AskedBy assigns crtc label
    go None is e = absurd cc
    go (Some v) is e =
        let by : SetBy assigns crtc OUT_FENCE_PTR v = set_by assigns crtc OUT_FENCE_PTR v is in
        record { item = by.item; member = by.member; object = by.object_is; new = ap (λ x. is_new x label) by.value_is ∙ new_is v label e }

counted : (k : ℕ) (assigns : List Assign) (x : Assign) → IsIn x assigns → is_new x.value k ≡ true → 1 ≤ times_made k assigns
counted k [] x is new = absurd is
counted k (z ∷ zs) x (inl same) new = (let one = ap one_if (ap (λ (a : Assign). is_new a.value k) same ∙ new) in omega (arith, one))
counted k (z ∷ zs) x (inr later) new = (let rest = counted k zs x later new in omega (arith, rest))

-- two assignments that make a label are one, where one makes it
one_item : (k : ℕ) (assigns : List Assign) (x y : Assign) → times_made k assigns ≤ 1 → IsIn x assigns → IsIn y assigns
    → is_new x.value k ≡ true → is_new y.value k ≡ true
    → x ≡ y
one_item k [] x y few a b p q = absurd a
one_item k (z ∷ zs) x y few (inl a) (inl b) p q = sym a ∙ b
one_item k (z ∷ zs) x y few (inl a) (inr b) p q =
    (let one = ap one_if (ap (λ (c : Assign). is_new c.value k) a ∙ p) in let other = counted k zs y b q in absurd
    (omega (arith, few, one, other)))
one_item k (z ∷ zs) x y few (inr a) (inl b) p q =
    (let one = ap one_if (ap (λ (c : Assign). is_new c.value k) b ∙ q) in let other = counted k zs x a p in absurd
    (omega (arith, few, one, other)))
one_item k (z ∷ zs) x y few (inr a) (inr b) p q = one_item k zs x y (omega (arith, few)) a b p q

asks_apart : (assigns : List Assign) → ((k : ℕ) → times_made k assigns ≤ 1) → AskApart assigns
asks_apart assigns few a b label x y =
    let one = asked_by assigns a label x in
    let two = asked_by assigns b label y in
    sym one.object ∙ (ap object_of (one_item label assigns one.item two.item (few label) one.member two.member one.new two.new)
    ∙ two.object)

command_asks : (c : Command) → MakesApart c → AsksApart c
command_asks (command.Atomic r) is = asks_apart r.assigns is
command_asks (command.Buffer l width height format pattern) is = tt
command_asks (command.AddFb l buffer) is = tt
command_asks (command.Mode l m) is = tt
command_asks (command.Blob l bytes) is = tt
command_asks (command.Destroy l) is = tt
command_asks (command.CloseFb l) is = tt
command_asks (command.Fence l) is = tt
command_asks (command.Signal l) is = tt
command_asks command.Wait is = tt

made_self : (l : ℕ) → (l == l) ≡ true
made_self l = eq-eqb l l refl

unless_own : (w : World) (owner l : ℕ) (c : Content) (o : Option ℕ) → Own w.things → thing_labelled w.things l ≡ None
    → Own (make_unless w owner l c o).world.things
unless_own w owner l c None own none = own_push w.things
    (record { label = l; id = w.next_id; owner = owner; content = c; is_open = true }) own none
unless_own w owner l c (Some n) own none = own

add_own : (w : World) (client l : ℕ) (o : Option BufferInfo) → Own w.things → thing_labelled w.things l ≡ None
    → Own (add_fb w client l o).world.things
add_own w client l None own none = own
add_own w client l (Some b) own none = own_push w.things _ own none

close_own : (w : World) (u : Option Thing) (o : Option ℕ) → Own w.things → Own (close_unless w u o).world.things
close_own w None None own = own
close_own w (Some u) None own = own_closed w.things u.id own
close_own w u (Some n) own = own

signal_own : (w : World) (o : Option ℕ) → Own w.things → Own (signal_unless w o).world.things
signal_own w None own = own
signal_own w (Some n) own = own

-- the CRTCs of a list differ
abbrev AreDistinct : List ℕ → Type 0
AreDistinct [] = ⊤
AreDistinct (x ∷ xs) = ((y : ℕ) → IsIn y xs → x ≡ y → ⊥) × AreDistinct xs

-- nothing was made under the labels of fences to come
abbrev AreAbsent : List Assign → List ℕ → List Thing → Type 0
AreAbsent assigns crtcs things = (crtc label : ℕ) → IsIn crtc crtcs → out_fence_label assigns crtc ≡ Some label
    → thing_labelled things label ≡ None

fence_own : (client : ℕ) (w : World) (o : Option ℕ) → Own w.things → ((label : ℕ) → o ≡ Some label → thing_labelled w.things label ≡ None)
    → Own (make_out_fence client w o).things
fence_own client w None own none = own
fence_own client w (Some l) own none = own_push w.things
    (record { label = l; id = w.next_id; owner = client; content = content.OutFence; is_open = true }) own (none l refl)

-- and of the others once one is made
fence_leaves : (client : ℕ) (w : World) (o : Option ℕ) (label : ℕ) → (o ≡ Some label → ⊥) → thing_labelled w.things label ≡ None
    → thing_labelled (make_out_fence client w o).things label ≡ None
fence_leaves client w None label other none = none
fence_leaves client w (Some l) label other none = elim (cases_Bool (l == label)) [
  | inl same ↦ absurd (other (ap Some (eqb-true l label same)))
  | inr apart ↦ absent_push w.things
      (record { label = l; id = w.next_id; owner = client; content = content.OutFence; is_open = true }) label apart none
]

fences_own : (client : ℕ) (assigns : List Assign) (w : World) (crtcs : List ℕ) → AskApart assigns → AreDistinct crtcs
    → AreAbsent assigns crtcs w.things → Own w.things
    → Own (make_out_fences client assigns w crtcs).things
fences_own client assigns w [] apart distinct absent own = own
fences_own client assigns w (crtc ∷ crtcs) apart distinct absent own =
    fences_own client assigns (make_out_fence client w (out_fence_label assigns crtc)) crtcs apart distinct.1
    (λ other label is asks. fence_leaves client w (out_fence_label assigns crtc) label
    (λ same. distinct.0 other is (apart crtc other label same asks)) (absent other label (inr is) asks))
    (fence_own client w (out_fence_label assigns crtc) own (λ label asks. absent crtc label (inl refl) asks))

pub committed_own : (t : Topology) (w : World) (client : ℕ) (r : Request) → AreDistinct (ids_of t Crtc) → AskApart r.assigns
    → ((label : ℕ) → list_any (λ a. is_new a.value label) r.assigns ≡ true → thing_labelled w.things label ≡ None) → Own w.things
    → Own (committed t w client r).world.things
committed_own t w client r distinct apart free own =
    fences_own client r.assigns _ (ids_of t Crtc) apart distinct
    (λ crtc label is asks. free label (asks_made r.assigns crtc label asks)) own

commit_own : (t : Topology) (w : World) (client : ℕ) (r : Request) (o : Option ℕ) → AreDistinct (ids_of t Crtc) → AskApart r.assigns
    → ((label : ℕ) → list_any (λ a. is_new a.value label) r.assigns ≡ true → thing_labelled w.things label ≡ None) → Own w.things
    → Own (commit t w client r o).world.things
commit_own t w client r (Some n) distinct apart free own = own
commit_own t w client r None distinct apart free own = elim (cases_Bool (is_test r.flags)) [
  | inl test ↦ rw test own
  | inr real ↦ rw real (committed_own t w client r distinct apart free own)
]

-- a command keeps that each thing is found by its label
pub executed_own : (t : Topology) (w : World) (client : ℕ) (c : Command) → AreDistinct (ids_of t Crtc) → AsksApart c
    → IsFree w.things c → Own w.things
    → Own (execute t w client c).world.things
unfolding execute
executed_own t w client (command.Buffer l width height format pattern) distinct apart free own =
    unless_own w client l (content.Buffer width height format pattern)
    (new_buffer_refusal w.things width height format) own (free l (made_self l))
executed_own t w client (command.AddFb l buffer) distinct apart free own = add_own w client l
    (buffer_of w.things client buffer) own (free l (made_self l))
executed_own t w client (command.Mode l m) distinct apart free own = own_push w.things _ own (free l (made_self l))
executed_own t w client (command.Blob l bytes) distinct apart free own = own_push w.things _ own (free l (made_self l))
executed_own t w client (command.Destroy l) distinct apart free own = close_own w (thing_labelled w.things l)
    (destroy_refusal client (thing_labelled w.things l)) own
executed_own t w client (command.CloseFb l) distinct apart free own = close_own w (thing_labelled w.things l)
    (close_refusal client (thing_labelled w.things l)) own
executed_own t w client (command.Fence l) distinct apart free own = own_push w.things _ own (free l (made_self l))
executed_own t w client (command.Signal l) distinct apart free own = signal_own w (signal_refusal (thing_labelled w.things l)) own
executed_own t w client (command.Atomic r) distinct apart free own = commit_own t w client r (verdict t w r) distinct apart free own
executed_own t w client command.Wait distinct apart free own = own

-- Histories

in_reversed : {A : Type 0} (xs : List A) (x : A) → IsIn x (reverse xs) → IsIn x xs
in_reversed [] x is = is
in_reversed {A} (y ∷ ys) x is = by (in_either (reverse ys) (y ∷ []) x (subst (IsIn x) (reverse_more y ys) is))
    (λ later. in_reversed ys x later)
  where
    by : IsIn x (reverse ys) ⊎ IsIn x (y ∷ []) → (IsIn x (reverse ys) → IsIn x ys) → IsIn x (y ∷ ys)
    by (inl later) more = inr (more later)
    by (inr (inl same)) more = inl same
    by (inr (inr never)) more = absurd never

range_above : (from n i : ℕ) → IsIn i (range_with_len from n) → from ≤ i
range_above from zero i is = absurd is
range_above from (suc n) i (inl same) = omega (arith, same)
range_above from (suc n) i (inr later) = (let rest = range_above (from + 1) n i later in omega (arith, rest))

-- the ids of a device's CRTCs differ
range_distinct : (from n : ℕ) → AreDistinct (map (object_id Crtc) (range_with_len from n))
range_distinct from zero = tt
range_distinct from (suc n) = (
  λ y is. above (range_with_len (from + 1) n) y is (λ i in_them. (let up = range_above (from + 1) n i in_them in omega (arith, up))),
  range_distinct (from + 1) n,
)
  where
    above : (xs : List ℕ) (y : ℕ) → IsIn y (map (object_id Crtc) xs) → ((i : ℕ) → IsIn i xs → from < i) → object_id Crtc from ≡ y → ⊥
    above [] y is high same = is
    above (x ∷ xs) y (inl here) high same = (let up = high x (inl refl) in omega (arith, up, here, same))
    above (x ∷ xs) y (inr later) high same = above xs y later (λ i in_them. high i (inr in_them)) same

record Stands (s : Script) (m : Machine) : Type 0 where
  holds : Holds s m
  ended : HasEnded m
  own : Own m.device.world.things

module _ (s : Script) (formed : IsWellFormed s) where
  apart : (e : Entry) (c : Command) → command_of s e ≡ Some c → AsksApart c
  apart e c is = command_asks c (made_apart s e c formed is)

  -- nothing was made under a label of a command without an answer
  free : (m : Machine) → Stands s m → (client : ℕ) (c : Command) → command_at s m client ≡ Some c → answered (doing_at m client) ≡ 0
      → IsFree m.device.world.things c
  free m S client c e none label made =
      ap (λ (w : World). thing_labelled w.things label) (sym S.holds.present.is_serial)
      ∙ serial_absent label s (start s.topology) (reverse m.records.journal) other refl
    where
      other : (f : Entry) (d : Command) → IsIn f (reverse m.records.journal) → command_of s f ≡ Some d → makes d label ≡ false
      other f d is there = elim (cases_Bool (makes d label)) [
        | inr no_label ↦ no_label
        | inl again ↦ (
            let same : f ≡ entry_at m client = made_once s f (entry_at m client) d c label formed there e again made in
            let over : (entry_at m client).command < ended_at (place_of m.contexts.places client) =
            subst (λ (x : Entry). x.command < ended_at (place_of m.contexts.places x.client)) same
            (S.ended f (in_reversed m.records.journal f is)) in
            absurd (omega (arith, over, none)))
      ]

  own_carries : (m : Machine) → Stands s m → Carries s m (λ step n. Own n.device.world.things)
  own_carries m S = record {
    locks = locks_leave s m (λ step n. Own n.device.world.things) (λ step contexts. S.own);
    answers = record {
      refuses = λ client r e taking may. S.own;
      tests = λ client r e taking may. S.own;
      swaps = λ client r e taking may b w eb ew.
          let now = committed_own s.topology m.device.world client r (range_distinct 0 (count_of s.topology Crtc))
          (apart (entry_at m client) (command.Atomic r) e)
          (free m S client (command.Atomic r) e (taking-busy (doing_at m client) taking).1) S.own in
          by_two (λ b w. Own (swapped_as s.topology b w m client r).device.world.things) now now now now b w;
      makes = λ client c e making idle b eb.
          let now = executed_own s.topology m.device.world client c (range_distinct 0 (count_of s.topology Crtc))
          (apart (entry_at m client) c e)
          (free m S client c e (idle-busy (doing_at m client) idle).1) S.own in
          by_bool (λ b. Own (made_as b m client (execute s.topology m.device.world client c)).device.world.things) now now b;
      signalled = λ client c e is_one idle o.
          by_fence (λ o. Own (goes_on (signals (answers m client (execute s.topology m.device.world client c).reply) o)
          client).device.world.things) S.own (λ fence. S.own) o;
      read_none = λ client c e is_one idle none. S.own;
      read_one = λ client c e is_one idle event events some. S.own;
    };
    tails = tails_leave s m (λ step left. Own left.world.things) (λ step. S.own);
    stalled = λ h. S.own;
  }

  keeps : (m : Machine) (step : Step) → Stands s m → legal s m step ≡ true → Stands s (next s m step)
  keeps m step S legal = record {
    holds = step_kept s m step (plain-from s formed) S.holds legal;
    ended = each_step s m (λ step n. HasEnded n) (carries_ended s m S.ended) step legal;
    own = each_step s m (λ step n. Own n.device.world.things) (own_carries m S) step legal;
  }

  pub history_own : (h : List Step) → is_history s h ≡ true → Own (at s h).device.world.things
  history_own h is =
      (along s (Stands s) keeps h (first_machine s.topology)
      (record { holds = first_kept s (plain-from s formed); ended = λ e never. absurd never; own = λ u never. absurd never }) is).own

by_recursion : (P : Thing → Type 0) (things : List Thing) → ((u : Thing) → IsIn u things → P u) → AllByRecursion P things
by_recursion P [] each = tt
by_recursion P (x ∷ xs) each = (each x (inl refl), by_recursion P xs (λ u is. each u (inr is)))

pub own_labels : EachHasItsLabel
own_labels s h formed is =
    let things = (at s h).device.world.things in
    all-from_recursion (λ thing. thing_labelled things thing.label ≡ Some thing) things
    (by_recursion (λ thing. thing_labelled things thing.label ≡ Some thing) things (history_own s formed h is))
