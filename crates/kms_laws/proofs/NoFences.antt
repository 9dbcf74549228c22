-- A script without a `fence` command has no dead history, and no generated script has one.
use Rattle.std.proofs.Common.{◌≡◌, ℕ, ◌+◌, List, [], ◌∷◌, ◌++◌, Bool, true, false, Option, Some, None, refl, sym, ap, ◌∙◌, subst, arith}
use Rattle.std.proofs.Common.{inl, inr}
use Rattle.std.specs.Prelude.{if◌then◌else◌, codes, not, ◌-◌, ◌%◌, ◌==◌}
use Rattle.std.specs.List.{AllByRecursion, flat_map}
use Rattle.std.specs.Option.{option_and_then}
use Rattle.std.proofs.lemmas.Bool.{and_parts, false_from_ne_true, false≢true}
use Rattle.std.proofs.lemmas.List.Elements.{All-from_recursion}
use Rattle.kms_model.specs.declared.objects.Kind.TheVariants.{Crtc}
use Rattle.kms_model.specs.declared.objects.Topology.{Topology}
use Rattle.kms_model.specs.declared.replies.Step.{Step}
use Rattle.kms_model.specs.declared.scripts.Assign.{Assign}
use Rattle.kms_model.specs.declared.scripts.Command.{Command}
use Rattle.kms_model.specs.declared.scripts.Command.TheVariants as command
use Rattle.kms_model.specs.declared.scripts.Script.{Script}
use Rattle.kms_model.specs.declared.worlds.Content.{Content}
use Rattle.kms_model.specs.declared.worlds.Content.TheVariants as content
use Rattle.kms_model.specs.declared.worlds.Thing.{Thing}
use Rattle.kms_model.specs.declared.worlds.World.{World}
use Rattle.kms_model.specs.Device.Closing.{closed_in}
use Rattle.kms_model.specs.Device.Execution.{BufferInfo, add_fb, buffer_of, close_refusal, close_unless, destroy_refusal, execute}
use Rattle.kms_model.specs.Device.Execution.{is_made_fence, make, make_out_fence, make_out_fences, make_unless, new_buffer_refusal}
use Rattle.kms_model.specs.Device.Execution.{signal_refusal, signal_unless}
use Rattle.kms_model.specs.Device.Objects.{ids_of}
use Rattle.kms_model.specs.Device.Serial.{Entry, command_of, from_one}
use Rattle.kms_model.specs.Device.Sound.{HasPlaneKind, IsDevice}
use Rattle.kms_model.specs.Device.World.{thing_labelled}
use Rattle.kms_model.specs.Machine.Commits.{has_number, waited_fences}
use Rattle.kms_model.specs.Machine.Histories.{at, is_awaited, is_dead, is_history, is_made_by_command}
use Rattle.kms_model.specs.Machine.Steps.{is_atomic}
use Rattle.kms_model.specs.Request.Apply.{after}
use Rattle.kms_model.specs.Request.Touched.{out_fence_label}
use Rattle.kms_model.specs.Script.Generated.{Drawn, commands_for, drawn_from, flip, flips_of, generated, generated_device, generated_mode}
use Rattle.kms_model.specs.Script.Generated.{mode_m, names_of_client}
use Rattle.kms_model.specs.Script.Words.{is_label}
use Rattle.kms_model.proofs.FramedLemmas.{closed_same}
use Rattle.kms_model.proofs.Items.{IsIn}
use Rattle.kms_model.proofs.ThingLemmas.{find-holds, find-in}
use Rattle.kms_laws.proofs.Basics.{both_bools}
use Rattle.kms_laws.proofs.Executed.{KeepsModes}
use Rattle.kms_laws.proofs.Modes.{from_one-in, keeps-from}
use Rattle.kms_laws.proofs.NeverStuck.{dead_names_a_fence}
use Rattle.kms_laws.proofs.Steps.{IsPlainScript}
use Rattle.kms_laws.proofs.Traversal.{IsKept, along_history, world_kept}

-- Things

abbrev NoFence : Thing → Type 0
NoFence u = is_made_fence u.content ≡ false

-- no thing is a fence of a command
abbrev pub HaveNoFence : List Thing → Type 0
HaveNoFence things = AllByRecursion NoFence things

have-at : (things : List Thing) (u : Thing) → HaveNoFence things → IsIn u things → is_made_fence u.content ≡ false
have-at [] u all is = absurd is
have-at (x ∷ xs) u all (inl same) = ap (λ (z : Thing). is_made_fence z.content) (sym same) ∙ all.0
have-at (x ∷ xs) u all (inr rest) = have-at xs u all.1 rest

have-push : (things : List Thing) (u : Thing) → HaveNoFence things → is_made_fence u.content ≡ false → HaveNoFence (things ++ u ∷ [])
have-push [] u all here = (here, tt)
have-push (x ∷ xs) u all here = (all.0, have-push xs u all.1 here)

have-closed : (things : List Thing) (id : ℕ) → HaveNoFence things → HaveNoFence (closed_in things id)
have-closed [] id all = tt
have-closed (x ∷ xs) id all = (ap is_made_fence (closed_same id x).content ∙ all.0, have-closed xs id all.1)

have-make : (w : World) (owner label : ℕ) (c : Content) → is_made_fence c ≡ false → HaveNoFence w.things
    → HaveNoFence (make w owner label c).world.things
have-make w owner label c other all = have-push w.things
    (record { label = label; id = w.next_id; owner = owner; content = c; is_open = true }) all other

have-make_unless : (w : World) (owner label : ℕ) (c : Content) (o : Option ℕ) → is_made_fence c ≡ false → HaveNoFence w.things
    → HaveNoFence (make_unless w owner label c o).world.things
have-make_unless w owner label c None other all = have-make w owner label c other all
have-make_unless w owner label c (Some n) other all = all

have-add_fb : (w : World) (client label : ℕ) (o : Option BufferInfo) → HaveNoFence w.things
    → HaveNoFence (add_fb w client label o).world.things
have-add_fb w client label None all = all
have-add_fb w client label (Some b) all = have-make w client label _ refl all

have-close_unless : (w : World) (thing : Option Thing) (o : Option ℕ) → HaveNoFence w.things
    → HaveNoFence (close_unless w thing o).world.things
have-close_unless w None None all = all
have-close_unless w (Some u) None all = have-closed w.things u.id all
have-close_unless w thing (Some n) all = all

have-signal : (w : World) (o : Option ℕ) → HaveNoFence w.things → HaveNoFence (signal_unless w o).world.things
have-signal w None all = all
have-signal w (Some n) all = all

abbrev pub makes_fence : Command → Bool
makes_fence (command.Fence label) = true
makes_fence _ = false

have-execute : (t : Topology) (w : World) (client : ℕ) (c : Command) → is_atomic c ≡ false → makes_fence c ≡ false → HaveNoFence w.things
    → HaveNoFence (execute t w client c).world.things
unfolding execute
have-execute t w client (command.Buffer label width height format pattern) other free all = have-make_unless w client label
    (content.Buffer width height format pattern) (new_buffer_refusal w.things width height format) refl all
have-execute t w client (command.AddFb label buffer) other free all = have-add_fb w client label (buffer_of w.things client buffer) all
have-execute t w client (command.Mode label m) other free all = have-make w client label (content.Mode m) refl all
have-execute t w client (command.Blob label bytes) other free all = have-make w client label (content.Blob bytes) refl all
have-execute t w client (command.Destroy label) other free all = have-close_unless w (thing_labelled w.things label)
    (destroy_refusal client (thing_labelled w.things label)) all
have-execute t w client (command.CloseFb label) other free all = have-close_unless w (thing_labelled w.things label)
    (close_refusal client (thing_labelled w.things label)) all
have-execute t w client (command.Fence label) other free all = absurd (false≢true (sym free))
have-execute t w client (command.Signal label) other free all = have-signal w (signal_refusal (thing_labelled w.things label)) all
have-execute t w client (command.Atomic r) other free all = absurd (false≢true (sym other))
have-execute t w client command.Wait other free all = all

have-out_fence : (client : ℕ) (w : World) (o : Option ℕ) → HaveNoFence w.things → HaveNoFence (make_out_fence client w o).things
have-out_fence client w None all = all
have-out_fence client w (Some label) all = have-make w client label content.OutFence refl all

have-out_fences : (client : ℕ) (assigns : List Assign) (w : World) (crtcs : List ℕ) → HaveNoFence w.things
    → HaveNoFence (make_out_fences client assigns w crtcs).things
have-out_fences client assigns w [] all = all
have-out_fences client assigns w (c ∷ cs) all = have-out_fences client assigns (make_out_fence client w (out_fence_label assigns c)) cs
    (have-out_fence client w (out_fence_label assigns c) all)

-- a script without a `fence` command
abbrev pub HasNoFence : Script → Type 0
HasNoFence s = (e : Entry) (c : Command) → command_of s e ≡ Some c → makes_fence c ≡ false

no_fence_kept : (s : Script) → HasNoFence s → IsKept s (λ d ls. HaveNoFence d.world.things)
no_fence_kept s none =
    world_kept s (λ w. HaveNoFence w.things) (λ m client c is other all. have-execute s.topology m.device.world client c other (none _ c is)
    all)
    (λ w client r all. have-out_fences client r.assigns (record w { values = after w r; commits = w.commits + 1 }) (ids_of s.topology Crtc)
    all)

pub never_dead : (s : Script) → IsPlainScript s → HasNoFence s → (h : List Step) → is_history s h ≡ true → is_dead s (at s h) ≡ false
never_dead s plain none h is =
    false_from_ne_true (is_dead s (at s h))
    (λ dead.
    let told = dead_names_a_fence s h plain is dead in
    let w = told.2 in
    let all = (along_history s (λ d ls. HaveNoFence d.world.things) (no_fence_kept s none) h plain tt is).1 in
    let awaited = find-holds (is_awaited (at s h)) (waited_fences s.topology (at s h).device.commits w.commit) w.fence w.awaited in
    let made = (and_parts (not (has_number (at s h).device.signalled w.fence)) _ awaited).1 in
    both_bools (is_made_fence w.thing.content) (sym (ap is_made_by_command w.is_thing) ∙ made)
    (have-at (at s h).device.world.things w.thing all (find-in (λ t. t.id == w.fence) (at s h).device.world.things w.thing w.is_thing)))

-- Generated scripts

-- what each command of a generated script is
record IsGenerated (c : Command) : Type 0 where
  modes : KeepsModes c
  no_fence : makes_fence c ≡ false

all-append : (xs ys : List Command) → AllByRecursion IsGenerated xs → AllByRecursion IsGenerated ys → AllByRecursion IsGenerated (xs ++ ys)
all-append [] ys a b = b
all-append (x ∷ xs) ys a b = (a.0, all-append xs ys a.1 b)

flips-are : (crtc : ℕ) (d : Drawn) → AllByRecursion IsGenerated (flips_of crtc d)
flips-are crtc d = by_test ((d.index - 1) % 2 == crtc)
  where
    by_test : (b : Bool) → AllByRecursion IsGenerated (if b then flip crtc d else [])
    by_test true = (record { modes = tt; no_fence = refl }, (record { modes = tt; no_fence = refl }, tt))
    by_test false = tt

all-flips : (crtc : ℕ) (drawn : List Drawn) → AllByRecursion IsGenerated (flat_map (flips_of crtc) drawn)
all-flips crtc [] = tt
all-flips crtc (d ∷ ds) = all-append (flips_of crtc d) (flat_map (flips_of crtc) ds) (flips-are crtc d) (all-flips crtc ds)

abbrev names : List (List ℕ)
names = names_of_client (codes "1") ++ names_of_client (codes "2")

mode-kept : (crtc : ℕ) → KeepsModes (command.Mode (mode_m crtc) generated_mode)
unfolding is_label
mode-kept crtc = keeps-from 1 names (command.Mode 4 generated_mode) refl

commands-are : (crtc : ℕ) (drawn : List Drawn) → AllByRecursion IsGenerated (commands_for drawn crtc)
commands-are crtc drawn = (
  record { modes = tt; no_fence = refl },
  (
    record { modes = tt; no_fence = refl },
    (
      record { modes = tt; no_fence = refl },
      (
        record { modes = tt; no_fence = refl },
        (
          record { modes = mode-kept crtc; no_fence = refl },
          (
            record { modes = tt; no_fence = refl },
            all-flips crtc drawn,
          ),
        ),
      ),
    ),
  ),
)

is-at : (xs : List Command) (c : Command) → AllByRecursion IsGenerated xs → IsIn c xs → IsGenerated c
is-at [] c all is = absurd is
is-at (x ∷ xs) c all (inl same) = subst IsGenerated same all.0
is-at (x ∷ xs) c all (inr rest) = is-at xs c all.1 rest

generated-is : (seed n : ℕ) (e : Entry) (c : Command) → command_of (generated seed n) e ≡ Some c → IsGenerated c
generated-is seed n e c is = go (from_one (generated seed n).clients e.client) refl is
  where
    of_client : (commands : List Command) → IsIn commands (generated seed n).clients → AllByRecursion IsGenerated commands
    of_client commands (inl same) = subst (AllByRecursion IsGenerated) same (commands-are 0 (drawn_from 1 seed n))
    of_client commands (inr (inl same)) = subst (AllByRecursion IsGenerated) same (commands-are 1 (drawn_from 1 seed n))
    of_client commands (inr (inr never)) = absurd never

    go : (o : Option (List Command)) → from_one (generated seed n).clients e.client ≡ o
        → option_and_then (λ commands. from_one commands e.command) o ≡ Some c → IsGenerated c
    go None found is = absurd cc
    go (Some commands) found is = is-at commands c (of_client commands (from_one-in (generated seed n).clients e.client commands found))
        (from_one-in commands e.command c is)

generated-device : IsDevice generated_device
generated-device = record {
  profile = refl;
  legal = refl;
  kinds = All-from_recursion HasPlaneKind generated_device.planes
      (omega arith, (omega arith, tt));
}

pub generated-plain : (seed n : ℕ) → IsPlainScript (generated seed n)
generated-plain seed n = record { device = generated-device; modes = λ e c f. (generated-is seed n e c f).modes }

pub generated_never_dead : (seed n : ℕ) (h : List Step) → is_history (generated seed n) h ≡ true
    → is_dead (generated seed n) (at (generated seed n) h) ≡ false
generated_never_dead seed n h is =
    never_dead (generated seed n) (generated-plain seed n) (λ e c f. (generated-is seed n e c f).no_fence) h is
