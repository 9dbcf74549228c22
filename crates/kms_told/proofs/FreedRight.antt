-- The X lines of the report of a history are right: what was freed is there in the end, with its label, and closed.
use Rattle.std.proofs.Common.{◌≡◌, ℕ, ◌+◌, Bool, true, false, cond, List, [], ◌∷◌, ◌++◌, map, Option, Some, None, refl, sym, ap, ◌∙◌, subst}
use Rattle.std.proofs.Common.{inl, inr, ⊎_elim}
use Rattle.std.specs.Prelude.{◌==◌, nat_eq, not, option_map, pos}
use Rattle.std.specs.List.{IsDistinct, list_any}
use Rattle.std.specs.Str.{bytes_eq}
use Rattle.std.proofs.lemmas.Bool.{and_cases, and_from, and_parts, cases_Bool, cond-false, cond-true, eq-eqb, not-true, or_parts}
use Rattle.std.proofs.lemmas.Slice.Eq.{bytes_eq-Decides}
use Rattle.kms_model.specs.declared.objects.Kind.TheVariants.{Crtc}
use Rattle.kms_model.specs.declared.objects.Topology.{Topology}
use Rattle.kms_model.specs.declared.replies.Reply.TheVariants as reply
use Rattle.kms_model.specs.declared.replies.Step.{Step}
use Rattle.kms_model.specs.declared.reports.Report.{Report}
use Rattle.kms_model.specs.declared.scripts.Assign.{Assign}
use Rattle.kms_model.specs.declared.scripts.Command.{Command}
use Rattle.kms_model.specs.declared.scripts.Command.TheVariants as command
use Rattle.kms_model.specs.declared.scripts.Request.{Request}
use Rattle.kms_model.specs.declared.scripts.Script.{Script}
use Rattle.kms_model.specs.declared.worlds.Content.{Content}
use Rattle.kms_model.specs.declared.worlds.Content.TheVariants as content
use Rattle.kms_model.specs.declared.worlds.Thing.{Thing}
use Rattle.kms_model.specs.declared.worlds.World.{World}
use Rattle.kms_model.specs.Device.Closing.{closed_if}
use Rattle.kms_model.specs.Device.Execution.{BufferInfo, add_fb, answer, buffer_of, close, close_refusal, close_unless, commit, committed}
use Rattle.kms_model.specs.Device.Execution.{destroy_refusal, execute, is_framebuffer, make, make_out_fence, make_out_fences, make_unless}
use Rattle.kms_model.specs.Device.Execution.{new_buffer_refusal, signal_refusal, signal_unless}
use Rattle.kms_model.specs.Device.Objects.{ids_of}
use Rattle.kms_model.specs.Device.Serial.{serial}
use Rattle.kms_model.specs.Device.World.{thing_labelled, thing_with_id}
use Rattle.kms_model.specs.Machine.Effects.{answers, goes_on, next, signals}
use Rattle.kms_model.specs.Machine.Framebuffers.{freed, freed_by_step, freed_from, is_in_things, is_needed, needed_things}
use Rattle.kms_model.specs.Machine.Histories.{are_legal, at, is_history, legal, run_steps}
use Rattle.kms_model.specs.Machine.State.{Machine, first_machine}
use Rattle.kms_model.specs.Promises.{FreesEachOnce}
use Rattle.kms_model.specs.Report.Right.{freed_is_right, is_closed_framebuffer}
use Rattle.kms_model.specs.Report.RightAnswers.{first_off}
use Rattle.kms_model.specs.Report.SeenReport.{seen_thing}
use Rattle.kms_model.specs.Request.Apply.{after}
use Rattle.kms_model.specs.Request.Flags.{is_test}
use Rattle.kms_model.specs.Request.Touched.{out_fence_label}
use Rattle.kms_model.specs.Request.Verdict.{verdict}
use Rattle.kms_model.specs.Script.Spelling.{name_word}
use Rattle.kms_model.proofs.Guards.{legal_parts}
use Rattle.kms_model.proofs.CrtcLemmas.{all_in}
use Rattle.kms_model.proofs.Facts.{by_recursion-at}
use Rattle.kms_model.proofs.FramedLemmas.{closed_same}
use Rattle.kms_model.proofs.Items.{IsIn, list_any-has, list_any-none}
use Rattle.kms_model.proofs.ThingLemmas.{find-in, found_with_id, thing_numbered-id}
use Rattle.kms_laws.proofs.Basics.{both_bools, in_either}
use Rattle.kms_laws.proofs.Closed.{closed_with_id}
use Rattle.kms_laws.proofs.EachStep.{Carries, by_bool, by_fence, by_two, each_step, locks_leave, made_as, swapped_as, tails_leave}
use Rattle.kms_laws.proofs.Framebuffers.{find-same}
use Rattle.kms_laws.proofs.Steps.{Holds, IsPlainScript, first_kept, history_kept, step_kept}
use Rattle.kms_told.proofs.Blocks.{pass-mapped}
use Rattle.kms_told.proofs.Items.{filter-from, none-off}
use Rattle.kms_told.proofs.Seen.{Sees}

-- Things stay, with their labels and contents

pub record HasNamed (things : List Thing) (id : ℕ) (t : Thing) : Type 0 where
  pub now : Thing
  pub found : thing_with_id things id ≡ Some now
  pub label : now.label ≡ t.label
  pub same : now.content ≡ t.content

abbrev pub StayNamed : List Thing → List Thing → Type 0
StayNamed old new = (id : ℕ) (t : Thing) → thing_with_id old id ≡ Some t → HasNamed new id t

named-self : (things : List Thing) → StayNamed things things
named-self things id t found = record { now = t; found = found; label = refl; same = refl }

named-trans : (a b c : List Thing) → StayNamed a b → StayNamed b c → StayNamed a c
named-trans a b c first second id t found =
    let one = first id t found in
    let other = second id one.now one.found in
    record { now = other.now; found = other.found; label = other.label ∙ one.label; same = other.same ∙ one.same }

found-push : (things : List Thing) (u : Thing) (id : ℕ) (t : Thing) → thing_with_id things id ≡ Some t
    → thing_with_id (things ++ u ∷ []) id ≡ Some t
found-push [] u id t found = absurd cc
found-push (x ∷ xs) u id t found = elim (cases_Bool (x.id == id)) [
  | inl here ↦ cond-true (x.id == id) (Some x) (thing_with_id (xs ++ u ∷ []) id) here
      ∙ sym (cond-true (x.id == id) (Some x) (thing_with_id xs id) here) ∙ found
  | inr away ↦
      cond-false (x.id == id) (Some x) (thing_with_id (xs ++ u ∷ []) id) away
      ∙ found-push xs u id t (sym (cond-false (x.id == id) (Some x) (thing_with_id xs id) away) ∙ found)
]

named-make : (w : World) (owner label : ℕ) (c : Content) → StayNamed w.things (make w owner label c).world.things
named-make w owner label c id t found =
    let u : Thing = record { label = label; id = w.next_id; owner = owner; content = c; is_open = true } in
    record { now = t; found = found-push w.things u id t found; label = refl; same = refl }

named-make_unless : (w : World) (owner label : ℕ) (c : Content) (o : Option ℕ)
    → StayNamed w.things (make_unless w owner label c o).world.things
named-make_unless w owner label c None = named-make w owner label c
named-make_unless w owner label c (Some n) = named-self w.things

named-add_fb : (w : World) (client label : ℕ) (o : Option BufferInfo) → StayNamed w.things (add_fb w client label o).world.things
named-add_fb w client label None = named-self w.things
named-add_fb w client label (Some b) = named-make w client label _

named-close : (w : World) (o : Option Thing) → StayNamed w.things (close w o).things
named-close w None id t found = named-self w.things id t found
named-close w (Some u) id t found =
    let same = closed_same u.id t in
    record {
      now = closed_if u.id t;
      found = closed_with_id w.things u.id id ∙ ap (option_map (closed_if u.id)) found;
      label = same.label;
      same = same.content;
    }

named-close_unless : (w : World) (t : Option Thing) (o : Option ℕ) → StayNamed w.things (close_unless w t o).world.things
named-close_unless w t None = named-close w t
named-close_unless w t (Some n) = named-self w.things

named-signal : (w : World) (o : Option ℕ) → StayNamed w.things (signal_unless w o).world.things
named-signal w None = named-self w.things
named-signal w (Some n) = named-self w.things

named-out_fence : (client : ℕ) (w : World) (label : Option ℕ) → StayNamed w.things (make_out_fence client w label).things
named-out_fence client w None = named-self w.things
named-out_fence client w (Some label) = named-make w client label content.OutFence

named-out_fences : (client : ℕ) (assigns : List Assign) (w : World) (crtcs : List ℕ)
    → StayNamed w.things (make_out_fences client assigns w crtcs).things
named-out_fences client assigns w [] = named-self w.things
named-out_fences client assigns w (crtc ∷ crtcs) =
    let v = make_out_fence client w (out_fence_label assigns crtc) in
    named-trans w.things v.things (make_out_fences client assigns v crtcs).things (named-out_fence client w (out_fence_label assigns crtc))
    (named-out_fences client assigns v crtcs)

named-committed : (t : Topology) (w : World) (client : ℕ) (r : Request) → StayNamed w.things (committed t w client r).world.things
named-committed t w client r = named-out_fences client r.assigns (record w { values = after w r; commits = w.commits + 1 }) (ids_of t Crtc)

named-tested : (t : Topology) (w : World) (client : ℕ) (r : Request) (test : Bool)
    → StayNamed w.things (cond test (answer w reply.Tested) (committed t w client r)).world.things
named-tested t w client r true = named-self w.things
named-tested t w client r false = named-committed t w client r

named-commit : (t : Topology) (w : World) (client : ℕ) (r : Request) (o : Option ℕ)
    → StayNamed w.things (commit t w client r o).world.things
named-commit t w client r None = named-tested t w client r (is_test r.flags)
named-commit t w client r (Some n) = named-self w.things

named-execute : (t : Topology) (w : World) (client : ℕ) (c : Command) → StayNamed w.things (execute t w client c).world.things
unfolding execute
named-execute t w client (command.Buffer label width height format pattern) =
    named-make_unless w client label (content.Buffer width height format pattern) (new_buffer_refusal w.things width height format)
named-execute t w client (command.AddFb label buffer) = named-add_fb w client label (buffer_of w.things client buffer)
named-execute t w client (command.Mode label m) = named-make w client label (content.Mode m)
named-execute t w client (command.Blob label bytes) = named-make w client label (content.Blob bytes)
named-execute t w client (command.Destroy label) =
    named-close_unless w (thing_labelled w.things label) (destroy_refusal client (thing_labelled w.things label))
named-execute t w client (command.CloseFb label) =
    named-close_unless w (thing_labelled w.things label) (close_refusal client (thing_labelled w.things label))
named-execute t w client (command.Fence label) = named-make w client label content.Fence
named-execute t w client (command.Signal label) = named-signal w (signal_refusal (thing_labelled w.things label))
named-execute t w client (command.Atomic r) = named-commit t w client r (verdict t w r)
named-execute t w client command.Wait = named-self w.things

-- Steps

module _ (s : Script) (m : Machine) where
  abbrev things_in : Machine → List Thing
  things_in n = n.device.world.things

  abbrev Stays : Step → Machine → Type 0
  Stays step n = StayNamed (things_in m) (things_in n)

  carries_named : Carries s m Stays
  carries_named =
      let here = named-self (things_in m) in
      record {
        locks = locks_leave s m Stays (λ step contexts. here);
        answers = record {
          refuses = λ client r e taking may. here;
          tests = λ client r e taking may. here;
          swaps = λ client r e taking may b w eb ew.
              let now = named-committed s.topology m.device.world client r in
              by_two (λ b w. StayNamed (things_in m) (things_in (swapped_as s.topology b w m client r))) now now now now b w;
          makes = λ client c e making idle b eb.
              let now = named-execute s.topology m.device.world client c in
              by_bool (λ b. StayNamed (things_in m) (things_in (made_as b m client (execute s.topology m.device.world client c)))) now now
              b;
          signalled = λ client c e is_signal idle o.
              by_fence
              (λ o. StayNamed (things_in m) (things_in (goes_on
              (signals (answers m client (execute s.topology m.device.world client c).reply) o) client)))
              here (λ fence. here) o;
          read_none = λ client c e is_wait idle none. here;
          read_one = λ client c e is_wait idle event events some. here;
        };
        tails = tails_leave s m (λ step left. StayNamed (things_in m) left.world.things) (λ step. here);
        stalled = λ h. here;
      }

  step_named : (step : Step) → legal s m step ≡ true → StayNamed (things_in m) (things_in (next s m step))
  step_named step h = each_step s m Stays carries_named step h

run_named : (s : Script) (steps : List Step) (m : Machine) → are_legal s m steps ≡ true
    → StayNamed m.device.world.things (run_steps s m steps).device.world.things
unfolding run_steps are_legal
run_named s [] m h = named-self m.device.world.things
run_named s (step ∷ steps) m h =
    let all = legal_parts s m step steps h in
    named-trans m.device.world.things (next s m step).device.world.things (run_steps s (next s m step) steps).device.world.things
    (step_named s m step all.first) (run_named s steps (next s m step) all.rest)

-- What was freed

pub record WasFreed (things : List Thing) (y : Thing) : Type 0 where
  pub there : HasNamed things y.id y
  pub framebuffer : is_framebuffer y.content ≡ true

needed-framebuffer : (t : Topology) (m : Machine) (y : Thing) → is_needed t m y ≡ true → is_framebuffer y.content ≡ true
unfolding is_needed
needed-framebuffer t m y h = (and_parts (is_framebuffer y.content) _ h).0

freed-here : (s : Script) (m : Machine) (step : Step) → Holds s m → (y : Thing) → IsIn y (freed_by_step s m step)
    → (thing_with_id m.device.world.things y.id ≡ Some y) × (is_framebuffer y.content ≡ true)
unfolding freed_by_step
freed-here s m step H y is =
    let needed = (filter-from (λ thing. not (is_in_things (needed_things s.topology (next s m step)) thing))
    (needed_things s.topology m) y is).0 in
    let own = filter-from (is_needed s.topology m) m.device.world.things y needed in (
      found_with_id m.device.world.things (pos y.id) y (thing_numbered-id 1000 m.device.world.things y H.present.lawful.numbered.things
          own.0),
      needed-framebuffer s.topology m y own.1,
    )

pub was-freed : (s : Script) → IsPlainScript s → (steps : List Step) (m : Machine) → Holds s m → are_legal s m steps ≡ true → (y : Thing)
    → IsIn y (freed_from s m steps) → WasFreed (run_steps s m steps).device.world.things y
unfolding freed_from run_steps are_legal
was-freed s plain [] m H h y is = absurd is
was-freed s plain (step ∷ steps) m H h y is =
    let all = legal_parts s m step steps h in
    ⊎_elim
    (λ (now : IsIn y (freed_by_step s m step)).
    let one = freed-here s m step H y now in
    record {
      there = named-trans m.device.world.things (next s m step).device.world.things (run_steps s (next s m step) steps).device.world.things
          (step_named s m step all.first) (run_named s steps (next s m step) all.rest) y.id y one.0;
      framebuffer = one.1;
    })
    (λ later. was-freed s plain steps (next s m step) (step_kept s m step plain H all.first) all.rest y later)
    (in_either (freed_by_step s m step) (freed_from s (next s m step) steps) y is)

-- Lines

map-from : {A B : Type 0} (g : A → B) (xs : List A) (z : B) → IsIn z (map g xs) → (x : A) × IsIn x xs × (g x ≡ z)
map-from g [] z is = absurd is
map-from g (x ∷ xs) z is =
    ⊎_elim (λ (e : g x ≡ z). (x, inl refl, e)) (λ later. let r = map-from g xs z later in (r.0, inr r.1, r.2)) is

map-has : {A B : Type 0} (g : A → B) (xs : List A) (x : A) → IsIn x xs → IsIn (g x) (map g xs)
map-has g [] x is = absurd is
map-has g (y ∷ ys) x is = ⊎_elim (λ (e : y ≡ x). inl (ap g e)) (λ later. inr (map-has g ys x later)) is

append-has : {A : Type 0} (front later : List A) (x : A) → IsIn x (front ++ x ∷ later)
append-has [] later x = inl refl
append-has (y ∷ front) later x = inr (append-has front later x)

distinct-front : (front later : List Thing) (y z : Thing) → IsDistinct nat_eq (map (λ t. t.id) (front ++ y ∷ later)) → IsIn z front
    → (z.id == y.id) ≡ false
unfolding IsDistinct
distinct-front [] later y z differ is = absurd is
distinct-front (w ∷ front) later y z differ is =
    ⊎_elim
    (λ (e : w ≡ z).
    subst (λ (u : Thing). (u.id == y.id) ≡ false) e
    (by_recursion-at (λ k. nat_eq w.id k ≡ false) (map (λ t. t.id) (front ++ y ∷ later)) y.id differ.0
    (map-has (λ (t : Thing). t.id) (front ++ y ∷ later) y (append-has front later y))))
    (λ rest. distinct-front front later y z differ.1 rest)
    is

module _ (s : Script) (h : List Step) (plain : IsPlainScript s) (is : is_history s h ≡ true) (r : Report) (S : Sees s h (at s h) r)
    (F : FreesEachOnce s h) where
  closed : (t : Thing) → IsIn t (at s h).device.world.things → is_framebuffer t.content ≡ true → is_in_things (freed s h) t ≡ true
      → t.is_open ≡ false
  unfolding is_needed
  closed t there framebuffer freed_so =
      let unneeded : is_needed s.topology (at s h) t ≡ false =
      not-true (is_needed s.topology (at s h) t)
      (sym (all_in (λ thing. is_framebuffer thing.content ≡ true → is_in_things (freed s h) thing
      ≡ not (is_needed s.topology (at s h) thing))
      (at s h).device.world.things t F.unneeded there framebuffer) ∙ freed_so) in
      ⊎_elim
      (λ (off : is_framebuffer t.content ≡ false). absurd (both_bools (is_framebuffer t.content) framebuffer off))
      (λ rest. (or_parts t.is_open _ rest).0)
      (and_cases (is_framebuffer t.content) _ unneeded)

  one-right : (front later : List Thing) (y : Thing) → freed s h ≡ front ++ y ∷ later
      → freed_is_right s r (map (seen_thing s.names) front) (seen_thing s.names y) ≡ true
  unfolding freed_is_right
  one-right front later y e =
      let w = was-freed s plain h (first_machine s.topology) (first_kept s plain) is y
      (subst (IsIn y) (sym e) (append-has front later y)) in
      let t = w.there.now in
      let id = find-same (at s h).device.world.things y.id t w.there.found in
      let framebuffer = ap is_framebuffer w.there.same ∙ w.framebuffer in
      let freed_so = list_any-has (λ other. other.id == t.id) (freed s h) y (subst (IsIn y) (sym e) (append-has front later y))
      (eq-eqb y.id t.id (sym id)) in
      let shut = closed t (find-in (λ u. u.id == y.id) (at s h).device.world.things t w.there.found) framebuffer freed_so in
      let found = ap (λ j. thing_with_id (serial s j).things y.id) S.entries
      ∙ ap (λ v. thing_with_id v.things y.id) (history_kept s h plain is).present.is_serial ∙ w.there.found in
      and_from (not (list_any (λ (other : List ℕ × ℕ). other.1 == y.id) (map (seen_thing s.names) front))) _
      (ap not (list_any-none (λ (other : List ℕ × ℕ). other.1 == y.id) (map (seen_thing s.names) front)
      (λ z i.
      let one = map-from (seen_thing s.names) front z i in
      subst (λ (u : List ℕ × ℕ). (u.1 == y.id) ≡ false) one.2
      (distinct-front front later y one.0 (subst (λ ts. IsDistinct nat_eq (map (λ u. u.id) ts)) e F.once) one.1))))
      (ap (is_closed_framebuffer s.names (name_word s.names y.label)) found
      ∙ and_from (is_framebuffer t.content) _ framebuffer
      (and_from (not t.is_open) _ (ap not shut)
      (ap (λ n. bytes_eq (name_word s.names y.label) (name_word s.names n)) w.there.label
      ∙ (bytes_eq-Decides (name_word s.names y.label) (name_word s.names y.label)).1 refl)))

  pub freed-off : first_off (freed_is_right s r) [] r.freed ≡ None
  freed-off =
      ap (first_off (freed_is_right s r) []) S.freed
      ∙ none-off (freed_is_right s r) [] (map (seen_thing s.names) (freed s h))
      (pass-mapped (seen_thing s.names) (freed_is_right s r) [] (freed s h) one-right)
