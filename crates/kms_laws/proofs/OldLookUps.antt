-- Look-ups that were made earlier in a history: what they found is there later with its id and its content, open or closed.
use Rattle.std.proofs.Common.{◌≡◌, ℕ, ◌+◌, List, [], ◌∷◌, Bool, true, false, Option, Some, None, refl, sym, ap, ◌∙◌, inl, inr}
use Rattle.std.specs.Prelude.{if◌then◌else◌}
use Rattle.std.proofs.lemmas.List.Elements.{All-cons, All-nil}
use Rattle.kms_model.specs.declared.objects.Kind.TheVariants as kind
use Rattle.kms_model.specs.declared.objects.Topology.{Topology}
use Rattle.kms_model.specs.declared.ranges.Range.{Range}
use Rattle.kms_model.specs.declared.ranges.Range.TheVariants.{CrtcName, Numbers, Thing}
use Rattle.kms_model.specs.declared.replies.Step.{Step}
use Rattle.kms_model.specs.declared.scripts.Assign.{Assign}
use Rattle.kms_model.specs.declared.scripts.Request.{Request}
use Rattle.kms_model.specs.declared.scripts.Script.{Script}
use Rattle.kms_model.specs.declared.scripts.Value.{Value}
use Rattle.kms_model.specs.declared.scripts.Value.TheVariants.{Crtc, Named, New, Num}
use Rattle.kms_model.specs.declared.sets.Resolved.{Resolved}
use Rattle.kms_model.specs.declared.states.Duplicates.{Duplicates}
use Rattle.kms_model.specs.declared.worlds.Look.TheVariants as look
use Rattle.kms_model.specs.declared.worlds.Thing as worlds
use Rattle.kms_model.specs.declared.worlds.World.{World}
use Rattle.kms_model.specs.Device.Execution.{committed, execute}
use Rattle.kms_model.specs.Device.Objects.{ids_of}
use Rattle.kms_model.specs.Device.Properties.{Property, property}
use Rattle.kms_model.specs.Device.World.{thing_labelled}
use Rattle.kms_model.specs.Machine.Histories.{are_legal, at, is_history, run_steps}
use Rattle.kms_model.specs.Request.Agreement.{AgreesOld}
use Rattle.kms_model.specs.Request.Apply.{after, prop_of}
use Rattle.kms_model.specs.Request.Lookups.{look_of, look_of_any, look_of_content, look_up, look_up_any}
use Rattle.kms_model.specs.Request.Refusals.{is_in_range, is_in_range_of, takes}
use Rattle.kms_model.specs.Request.Resolves.{IsAllowed, IsResolved}
use Rattle.kms_model.proofs.CrtcLemmas.{all_in}
use Rattle.kms_model.proofs.Items.{IsIn}
use Rattle.kms_model.proofs.RequestLemmas.{accepted_allowed}
use Rattle.kms_model.proofs.SameLooks.{resolved-same}
use Rattle.kms_model.specs.Request.SameLooks.{TellsLabel, TellsLabels}
use Rattle.kms_laws.specs.Laws.{AsksWithinReach}
use Rattle.kms_laws.proofs.Fences.{Labelled, execute_labels, fences_labels}
use Rattle.kms_laws.proofs.Opened.{agrees-open, all_open, look-open, open-reach, all_numbered-open, sound-open}
use Rattle.kms_laws.proofs.Steps.{Holds, IsPlainScript, along, history_kept, step_kept}
use Rattle.kms_laws.proofs.Traversal.{IsKept, step_keeps, world_kept}

-- Things stay

-- what was under a label is there in a world, with its id and its content
abbrev pub StayIn : List worlds.Thing → World → Type 0
StayIn things w = (label : ℕ) (u : worlds.Thing) → thing_labelled things label ≡ Some u → Labelled w.things label u

pub longer : (things : List worlds.Thing) (w v : World)
    → ((label : ℕ) (u : worlds.Thing) → thing_labelled w.things label ≡ Some u → Labelled v.things label u) → StayIn things w
    → StayIn things v
longer things w v forth stay label u found =
    let one = stay label u found in
    let two = forth label one.thing one.found in
    record { thing = two.thing; found = two.found; same_id = two.same_id ∙ one.same_id; same_content = two.same_content ∙ one.same_content }

pub stay_kept : (s : Script) (things : List worlds.Thing) → IsKept s (λ d ls. StayIn things d.world)
stay_kept s things =
    world_kept s (StayIn things)
    (λ m client c is other stay. longer things m.device.world (execute s.topology m.device.world client c).world
    (execute_labels s.topology m.device.world client c other).forth stay)
    (λ w client r stay.
    longer things w (committed s.topology w client r).world
    (λ label u found. record {
      thing = u;
      found = (fences_labels client r.assigns (record w { values = after w r; commits = w.commits + 1 })
          (ids_of s.topology kind.Crtc)).forth label u found;
      same_id = refl;
      same_content = refl;
    }) stay)

-- What an early look-up took

module _ (t : Topology) (w now : World) (stay : StayIn w.things now) where
  taken-same : (prop label : ℕ) → takes prop (look_up w label) ≡ true → look_up w label ≡ look_up (all_open now) label
  taken-same prop label is = of_option (thing_labelled w.things label) refl is ∙ sym (look-open now label)
    where
      of_thing : (u : worlds.Thing) (is_open : Bool) → thing_labelled w.things label ≡ Some u
          → takes prop (if is_open then look_of_content u.id u.content else look.Closed) ≡ true
          → (if is_open then look_of_content u.id u.content else look.Closed) ≡ look_up_any now label
      of_thing u true found is =
          let later = stay label u found in
          (λ i. look_of_content (sym later.same_id i) (sym later.same_content i)) ∙ sym (ap look_of_any later.found)
      of_thing u false found is = absurd cc

      of_option : (o : Option worlds.Thing) → thing_labelled w.things label ≡ o → takes prop (look_of o) ≡ true → look_of o
          ≡ look_up_any now label
      of_option None found is = absurd cc
      of_option (Some u) found is = of_thing u u.is_open found is

  range-tells : (prop : ℕ) (range : Range) (v : Value) → is_in_range t (look_up w) prop range v ≡ true
      → TellsLabel (look_up w) (look_up (all_open now)) v
  range-tells prop (Numbers low high) (Named label) is = absurd cc
  range-tells prop CrtcName (Named label) is = absurd cc
  range-tells prop (Thing none) (Named label) is = taken-same prop label is
  range-tells prop range (Num n) is = tt
  range-tells prop range (New label) is = tt
  range-tells prop range (Crtc index) is = tt

  row-tells : (v : Value) (row : Option Property) → is_in_range_of t (look_up w) v row ≡ true
      → TellsLabel (look_up w) (look_up (all_open now)) v
  row-tells v None is = absurd cc
  row-tells v (Some p) is = range-tells p.id p.range v is

  all-tell : (assigns : List Assign) → ((a : Assign) → IsIn a assigns → IsAllowed t (look_up w) a)
      → TellsLabels (look_up w) (look_up (all_open now)) assigns
  all-tell [] each = All-nil (λ a. TellsLabel (look_up w) (look_up (all_open now)) a.value)
  all-tell (a ∷ assigns) each =
      All-cons (λ b. TellsLabel (look_up w) (look_up (all_open now)) b.value) a assigns
      (row-tells a.value (property (prop_of a.prop)) (each a (inl refl)).value)
      (all-tell assigns (λ b is. each b (inr is)))

  pub resolved-open : (r : Request) (resolved : Resolved) → IsResolved t (look_up w) r resolved
      → IsResolved t (look_up (all_open now)) r resolved
  resolved-open r resolved asks =
      resolved-same t (look_up w) (look_up (all_open now)) r resolved
      (all-tell r.assigns (λ a is. all_in (IsAllowed t (look_up w)) r.assigns a (accepted_allowed t (look_up w) r asks.accepted) is)) asks

pub ask_within_reach : (s : Script) (h : List Step) → IsPlainScript s → is_history s h ≡ true → (steps : List Step)
    → are_legal s (at s h) steps ≡ true → (r : Request) (resolved : Resolved) (d : Duplicates)
    → IsResolved s.topology (look_up (at s h).device.world) r resolved
    → AgreesOld s.topology (run_steps s (at s h) steps).device.world.things (run_steps s (at s h) steps).device.world.values d
    → AsksWithinReach s.topology (run_steps s (at s h) steps).device.world r resolved d
ask_within_reach s h plain is steps legal_steps r resolved d asks old =
    let before : World = (at s h).device.world in
    let now : World = (run_steps s (at s h) steps).device.world in
    let later = along s (λ m. Holds s m × StayIn before.things m.device.world)
    (λ m step both legal_step. (
      step_kept s m step plain both.0 legal_step,
      step_keeps s (λ d ls. StayIn before.things d.world) (stay_kept s before.things) m both.0 both.1 step legal_step,
    ))
    steps (at s h) (history_kept s h plain is, λ label u found. record { thing = u; found = found; same_id = refl; same_content = refl })
    legal_steps in
    let there = resolved-open s.topology before now later.1 r resolved asks in
    record {
      world = all_open now;
      of_request = record {
        device = plain.device;
        sound = sound-open s.topology now later.0.present.lawful.sound;
        numbered =
            all_numbered-open now later.0.present.lawful.numbered;
        asks = there;
        old = agrees-open s.topology now.things now.values d old;
      };
      same_values = refl;
      within = λ object touch. sym (open-reach s.topology now r object there.accepted) ∙ touch;
    }
