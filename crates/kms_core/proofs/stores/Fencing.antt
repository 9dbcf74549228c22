-- The fences among the things, after commands that make, close and signal.
use Rattle.std.proofs.Common.{◌≡◌, ℕ, ◌+◌, ◌≤◌, Bool, true, false, List, [], ◌∷◌, ◌++◌, Option, Some, None, inl, inr, refl, sym, ap, ◌∙◌}
use Rattle.std.proofs.Common.{subst, arith}
use Rattle.std.specs.Prelude.{◌==◌, is_some}
use Rattle.std.specs.List.{AllByRecursion}
use Rattle.std.proofs.lemmas.Bool.{cases_Bool, eq-eqb, eqb-true, false≢true}
use Rattle.kms_model.specs.declared.objects.Topology.{Topology}
use Rattle.kms_model.specs.declared.scripts.Command.{Command}
use Rattle.kms_model.specs.declared.scripts.Command.TheVariants as command
use Rattle.kms_model.specs.declared.tables.Slot.{Slot}
use Rattle.kms_model.specs.declared.worlds.Content.{Content}
use Rattle.kms_model.specs.declared.worlds.Content.TheVariants as content
use Rattle.kms_model.specs.declared.worlds.Thing.{Thing}
use Rattle.kms_model.specs.declared.worlds.World.{World}
use Rattle.kms_model.specs.Device.Closing.{closed_in}
use Rattle.kms_model.specs.Device.Execution.{BufferInfo, add_fb, buffer_of, close_refusal, close_unless, destroy_refusal, execute}
use Rattle.kms_model.specs.Device.Execution.{is_made_fence, make, make_unless, new_buffer_refusal, signal_refusal, signal_unless}
use Rattle.kms_model.specs.Device.World.{thing_labelled}
use Rattle.kms_model.specs.Firsts.{or_else}
use Rattle.kms_model.specs.Machine.Commits.{has_number}
use Rattle.kms_model.specs.Machine.Steps.{is_atomic}
use Rattle.kms_model.specs.Things.Tables.{AreBelow, slot, value_with_id}
use Rattle.kms_model.proofs.FramedLemmas.{closed_same}
use Rattle.kms_signal.proofs.FenceLemmas.{still_made}
use Rattle.kms_signal.proofs.InStepLemmas.{fence_made}
use Rattle.kms_signal.proofs.SlotLemmas.{below-push, below-with_value, value_above, value_pushed}
use Rattle.kms_signal.specs.FenceSets.{FenceSet, is_made}
use Rattle.kms_signal.specs.InStep.{AreFencesOf}
use Rattle.kms_signal.specs.StepLaws.{with_signal}
use Rattle.kms_core.specs.Calls.{fence_if_done, fence_of, with_fence_of}
use Rattle.kms_core.specs.Stands.{AreMadeFences, IsMadeFence, is_fence}

-- Things

things_more : (old new : FenceSet) → ((id : ℕ) → is_made old id ≡ true → is_made new id ≡ true) → (things : List Thing)
    → AllByRecursion (IsMadeFence old) things → AllByRecursion (IsMadeFence new) things
things_more old new more [] made = tt
things_more old new more (u ∷ us) made = (λ fence. more u.id (made.0 fence), things_more old new more us made.1)

things_push : (fences : FenceSet) (things : List Thing) (u : Thing) → AllByRecursion (IsMadeFence fences) things → IsMadeFence fences u
    → AllByRecursion (IsMadeFence fences) (things ++ u ∷ [])
things_push fences [] u made here = (here, tt)
things_push fences (x ∷ xs) u made here = (made.0, things_push fences xs u made.1 here)

things_closed : (fences : FenceSet) (things : List Thing) (id : ℕ) → AllByRecursion (IsMadeFence fences) things
    → AllByRecursion (IsMadeFence fences) (closed_in things id)
things_closed fences [] id made = tt
things_closed fences (u ∷ us) id made =
    let same = closed_same id u in (
      λ fence. subst (λ n. is_made fences n ≡ true) (sym same.id) (made.0 (subst (λ c. is_fence c ≡ true) same.content fence)),
      things_closed fences us id made.1,
    )

pub thing_made : (fences : FenceSet) (things : List Thing) (label : ℕ) (u : Thing) → AllByRecursion (IsMadeFence fences) things
    → thing_labelled things label ≡ Some u → IsMadeFence fences u
thing_made fences [] label u made found = absurd cc
thing_made fences (x ∷ xs) label u made found =
    elim (cases_Bool (x.label == label)) [
      | inl here ↦ (let same : Some x ≡ Some u = rw here at found in let is : x ≡ u = cc in subst (IsMadeFence fences) is made.0)
      | inr away ↦ thing_made fences xs label u made.1 (rw away at found)
    ]

-- Ids

below_up : {T : Type 0} (slots : List (Slot T)) (n m : ℕ) → n ≤ m → AreBelow n slots → AreBelow m slots
below_up [] n m up below = tt
below_up (s ∷ slots) n m up below = (let here = below.0 in omega (arith, up, here), below_up slots n m up below.1)

some_first : (o other : Option Bool) → is_some o ≡ true → is_some (or_else o other) ≡ true
some_first (Some b) other there = refl
some_first None other there = absurd (false≢true there)

pub pushed_more : (old new : FenceSet) (id : ℕ) → new.slots ≡ old.slots ++ slot id false ∷ [] → (other : ℕ) → is_made old other ≡ true
    → is_made new other ≡ true
pushed_more old new id is other made = rw (is, value_pushed old.slots id other false)
    (some_first (value_with_id old.slots other) (value_with_id (slot id false ∷ []) other) made)

pushed_here : (old new : FenceSet) (id : ℕ) → new.slots ≡ old.slots ++ slot id false ∷ [] → AreBelow id old.slots → is_made new id ≡ true
pushed_here old new id is below = rw (
  is,
  value_pushed old.slots id id false,
  value_above old.slots id id below (omega arith),
  eq-eqb id id refl,
) refl

-- Fences in a world

pub same_slots : {w : World} {signalled : List ℕ} {old : FenceSet} (new : FenceSet) → new.slots ≡ old.slots → AreMadeFences w signalled old
    → AreMadeFences w signalled new
same_slots {w} {old} new same fenced = record {
  made = things_more old new (λ id made. rw same made) w.things fenced.made;
  made_before = λ id is. rw same (fenced.made_before id is);
  below = rw same fenced.below;
}

make_fenced : {w : World} (owner label : ℕ) (c : Content) {signalled : List ℕ} {fences : FenceSet} → is_fence c ≡ false
    → AreMadeFences w signalled fences → AreMadeFences (make w owner label c).world signalled fences
make_fenced {w} owner label c {fences} off fenced = record {
  made = things_push fences w.things (record { label = label; id = w.next_id; owner = owner; content = c; is_open = true }) fenced.made
      (λ fence. absurd (false≢true (sym off ∙ fence)));
  made_before = fenced.made_before;
  below = below_up fences.slots w.next_id (w.next_id + 1) (omega arith) fenced.below;
}

make_unless_fenced : {w : World} (owner label : ℕ) (c : Content) (o : Option ℕ) {signalled : List ℕ} {fences : FenceSet} → is_fence c
    ≡ false → AreMadeFences w signalled fences → AreMadeFences (make_unless w owner label c o).world signalled fences
make_unless_fenced owner label c None off fenced = make_fenced owner label c off fenced
make_unless_fenced owner label c (Some n) off fenced = fenced

add_fb_fenced : {w : World} (client label : ℕ) (o : Option BufferInfo) {signalled : List ℕ} {fences : FenceSet}
    → AreMadeFences w signalled fences → AreMadeFences (add_fb w client label o).world signalled fences
add_fb_fenced client label None fenced = fenced
add_fb_fenced client label (Some b) fenced = make_fenced client label _ refl fenced

close_fenced : {w : World} (u : Option Thing) (o : Option ℕ) {signalled : List ℕ} {fences : FenceSet} → AreMadeFences w signalled fences
    → AreMadeFences (close_unless w u o).world signalled fences
close_fenced None None fenced = fenced
close_fenced {w} (Some u) None {fences} fenced =
    record { made = things_closed fences w.things u.id fenced.made; made_before = fenced.made_before; below = fenced.below }
close_fenced u (Some n) fenced = fenced

signal_fenced : {w : World} (o : Option ℕ) {signalled : List ℕ} {fences : FenceSet} → AreMadeFences w signalled fences
    → AreMadeFences (signal_unless w o).world signalled fences
signal_fenced None fenced = fenced
signal_fenced (Some n) fenced = fenced

pub fence_fenced : {w : World} (owner label : ℕ) (c : Content) {signalled : List ℕ} {old : FenceSet} (new : FenceSet) → new.slots ≡
    old.slots
    ++ slot w.next_id false ∷ [] → AreMadeFences w signalled old → AreMadeFences (make w owner label c).world signalled new
fence_fenced {w} owner label c {old} new is fenced =
    let more = pushed_more old new w.next_id is in
    record {
      made = things_push new w.things (record { label = label; id = w.next_id; owner = owner; content = c; is_open = true })
          (things_more old new more w.things fenced.made) (λ fence. pushed_here old new w.next_id is fenced.below);
      made_before = λ id signal. more id (fenced.made_before id signal);
      below = rw is (below-push old.slots w.next_id (w.next_id + 1) w.next_id false fenced.below (omega arith) (omega arith));
    }

-- a command that is no request
pub executed_fenced : (t : Topology) {w : World} (client : ℕ) (c : Command) {signalled : List ℕ} {old : FenceSet} (new : FenceSet) →
    is_atomic c ≡ false
    → new.slots ≡ with_fence_of c w.next_id old.slots → AreMadeFences w signalled old
    → AreMadeFences (execute t w client c).world signalled new
unfolding execute
executed_fenced t {w} client (command.Buffer label width height format pattern) {signalled} new other is fenced =
    make_unless_fenced client label (content.Buffer width height format pattern) (new_buffer_refusal w.things width height format) refl
    (same_slots new is fenced)
executed_fenced t {w} client (command.AddFb label buffer) {signalled} new other is fenced = add_fb_fenced client label
    (buffer_of w.things client buffer) (same_slots new is fenced)
executed_fenced t client (command.Mode label m) new other is fenced = make_fenced client label (content.Mode m) refl
    (same_slots new is fenced)
executed_fenced t client (command.Blob label bytes) new other is fenced = make_fenced client label (content.Blob bytes) refl
    (same_slots new is fenced)
executed_fenced t {w} client (command.Destroy label) {signalled} new other is fenced =
    close_fenced (thing_labelled w.things label) (destroy_refusal client (thing_labelled w.things label))
    (same_slots new is fenced)
executed_fenced t {w} client (command.CloseFb label) {signalled} new other is fenced =
    close_fenced (thing_labelled w.things label) (close_refusal client (thing_labelled w.things label))
    (same_slots new is fenced)
executed_fenced t client (command.Fence label) new other is fenced = fence_fenced client label content.Fence
    new is fenced
executed_fenced t {w} client (command.Signal label) {signalled} new other is fenced = signal_fenced
    (signal_refusal (thing_labelled w.things label)) (same_slots new is fenced)
executed_fenced t client (command.Atomic r) new other is fenced = absurd (false≢true (sym other))
executed_fenced t client command.Wait new other is fenced = same_slots new is fenced

-- fences that were made stay so
pub executed_more : (next : ℕ) (c : Command) (old new : FenceSet) → new.slots ≡ with_fence_of c next old.slots → (id : ℕ) → is_made old id
    ≡ true → is_made new id ≡ true
executed_more next (command.Fence label) old new is id made = pushed_more old new next is id made
executed_more next (command.Buffer label width height format pattern) old new is id made = rw is made
executed_more next (command.AddFb label buffer) old new is id made = rw is made
executed_more next (command.Mode label m) old new is id made = rw is made
executed_more next (command.Blob label bytes) old new is id made = rw is made
executed_more next (command.Destroy label) old new is id made = rw is made
executed_more next (command.CloseFb label) old new is id made = rw is made
executed_more next (command.Signal label) old new is id made = rw is made
executed_more next (command.Atomic r) old new is id made = rw is made
executed_more next command.Wait old new is id made = rw is made

-- Fences of the machine

pub same_fences : {signalled : List ℕ} {old : FenceSet} (new : FenceSet) → new.slots ≡ old.slots → AreFencesOf old signalled → AreFencesOf
    new signalled
same_fences new same stand = record { same = λ id made. rw same (stand.same id (rw same at made)) }

-- the next id is not among those of the fences that are signalled
pub fresh : {w : World} {signalled : List ℕ} {fences : FenceSet} → AreMadeFences w signalled fences → has_number signalled w.next_id ≡ false
fresh {w} {signalled} {fences} fenced =
    elim (cases_Bool (has_number signalled w.next_id)) [
      | inl there ↦ absurd (false≢true (ap (λ (o : Option Bool). is_some o)
          (sym (value_above fences.slots w.next_id w.next_id fenced.below (omega arith))) ∙ fenced.made_before w.next_id there))
      | inr off ↦ off
    ]

pub made_stand : {w : World} (c : Command) {signalled : List ℕ} {old : FenceSet} (new : FenceSet) → new.slots ≡ with_fence_of c w.next_id
    old.slots
    → AreMadeFences w signalled old → AreFencesOf old signalled → AreFencesOf new signalled
made_stand {w} (command.Fence label) {signalled} {old} new is fenced stand = fence_made old new signalled w.next_id stand is
    (fresh fenced)
made_stand (command.Buffer label width height format pattern) new is fenced stand = same_fences new is stand
made_stand (command.AddFb label buffer) new is fenced stand = same_fences new is stand
made_stand (command.Mode label m) new is fenced stand = same_fences new is stand
made_stand (command.Blob label bytes) new is fenced stand = same_fences new is stand
made_stand (command.Destroy label) new is fenced stand = same_fences new is stand
made_stand (command.CloseFb label) new is fenced stand = same_fences new is stand
made_stand (command.Signal label) new is fenced stand = same_fences new is stand
made_stand (command.Atomic r) new is fenced stand = same_fences new is stand
made_stand command.Wait new is fenced stand = same_fences new is stand

-- A fence is signalled

fence_then : (c : Content) → is_made_fence c ≡ true → is_fence c ≡ true
fence_then content.Fence e = refl
fence_then content.OutFence e = absurd (false≢true e)
fence_then (content.Buffer width height format pattern) e = absurd (false≢true e)
fence_then (content.Framebuffer info buffer) e = absurd (false≢true e)
fence_then (content.Mode m) e = absurd (false≢true e)
fence_then (content.Blob bytes) e = absurd (false≢true e)

-- a `signal` that is done signals a fence that was made
pub signals_made : (t : Topology) {w : World} (client label : ℕ) {id : ℕ} {signalled : List ℕ} {fences : FenceSet}
    → AreMadeFences w signalled fences → fence_of w.things (command.Signal label) (execute t w client (command.Signal label)).reply
    ≡ Some id
    → is_made fences id ≡ true
unfolding execute
signals_made t {w} client label {id} {fences} fenced is = of_thing (thing_labelled w.things label) refl is where
  of_fence : (u : Thing) (b : Bool) → thing_labelled w.things label ≡ Some u → is_made_fence u.content ≡ b
      → fence_if_done (signal_unless w (signal_refusal (Some u))).reply (Some u) ≡ Some id → is_made fences id ≡ true
  of_fence u true found fence e =
      let same : Some u.id ≡ Some id = rw fence at e in
      let is_id : u.id ≡ id = cc in
      subst (λ n. is_made fences n ≡ true) is_id (thing_made fences w.things label u fenced.made found (fence_then u.content fence))
  of_fence u false found fence e = (let none : None ≡ Some id = rw fence at e in absurd cc)

  of_thing : (o : Option Thing) → thing_labelled w.things label ≡ o → fence_if_done (signal_unless w (signal_refusal o)).reply o ≡ Some id
      → is_made fences id ≡ true
  of_thing None found e = absurd cc
  of_thing (Some u) found e = of_fence u (is_made_fence u.content) found refl e

pub signalled_fenced : {w : World} {signalled : List ℕ} {fences : FenceSet} (id : ℕ) → is_made fences id ≡ true
    → AreMadeFences w signalled fences → AreMadeFences w (id ∷ signalled) (with_signal fences (Some id))
signalled_fenced {w} {signalled} {fences} id made fenced = record {
  made = things_more fences (with_signal fences (Some id)) (λ other there. still_made fences id other ∙ there) w.things fenced.made;
  made_before = λ other there. still_made fences id other ∙ before other there;
  below = below-with_value fences.slots w.next_id id true fenced.below;
} where
  before : (other : ℕ) → has_number (id ∷ signalled) other ≡ true → is_made fences other ≡ true
  before other there =
      elim (cases_Bool (id == other)) [
        | inl same ↦ subst (λ n. is_made fences n ≡ true) (eqb-true id other same) made
        | inr away ↦ fenced.made_before other (rw away at there)
      ]
