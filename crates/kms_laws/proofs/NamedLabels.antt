-- The label of each thing is one that a command makes, so it is a label among the script's names.
use Rattle.std.proofs.Common.{◌≡◌, ℕ, true, List, [], ◌∷◌, ◌++◌, Option, Some, None, inl, inr, ◌⊎◌, refl, sym, ap, ◌∙◌, subst}
use Rattle.std.specs.Prelude.{◌==◌, ◌^◌, nat_le, nat_lt}
use Rattle.std.specs.List.{list_all, list_any}
use Rattle.std.proofs.lemmas.Bool.{and_parts, cases_Bool, eq-eqb, eqb-true, or_cases}
use Rattle.kms_model.specs.declared.objects.Kind.TheVariants.{Crtc}
use Rattle.kms_model.specs.declared.objects.Topology.{Topology}
use Rattle.kms_model.specs.declared.replies.Step.{Step}
use Rattle.kms_model.specs.declared.scripts.Assign.{Assign}
use Rattle.kms_model.specs.declared.scripts.Command.{Command}
use Rattle.kms_model.specs.declared.scripts.Command.TheVariants as command
use Rattle.kms_model.specs.declared.scripts.Request.{Request}
use Rattle.kms_model.specs.declared.scripts.Script.{Script}
use Rattle.kms_model.specs.declared.scripts.Value.{Value}
use Rattle.kms_model.specs.declared.scripts.Value.TheVariants as value
use Rattle.kms_model.specs.declared.worlds.Content.{Content}
use Rattle.kms_model.specs.declared.worlds.Content.TheVariants as content
use Rattle.kms_model.specs.declared.worlds.Thing.{Thing}
use Rattle.kms_model.specs.declared.worlds.World.{World}
use Rattle.kms_model.specs.Device.Closing.{closed_in}
use Rattle.kms_model.specs.Device.Execution.{BufferInfo, add_fb, buffer_of, close_refusal, close_unless, commit, committed, destroy_refusal}
use Rattle.kms_model.specs.Device.Execution.{execute, make_out_fence, make_out_fences, make_unless, new_buffer_refusal, signal_refusal}
use Rattle.kms_model.specs.Device.Execution.{signal_unless}
use Rattle.kms_model.specs.Device.Objects.{ids_of}
use Rattle.kms_model.specs.Device.Serial.{Entry, command_of}
use Rattle.kms_model.specs.Device.World.{thing_labelled}
use Rattle.kms_model.specs.Machine.Effects.{answers, goes_on, signals}
use Rattle.kms_model.specs.Machine.Histories.{at, is_history}
use Rattle.kms_model.specs.Machine.State.{Machine, entry_at, first_machine}
use Rattle.kms_model.specs.Request.Flags.{is_test}
use Rattle.kms_model.specs.Request.Touched.{out_fence_label}
use Rattle.kms_model.specs.Request.Verdict.{verdict}
use Rattle.kms_model.specs.Script.WellFormed.{is_assign_in, is_command_in, is_label_in, is_property_in, is_value_in, is_word32}
use Rattle.kms_model.proofs.FramedLemmas.{closed_same}
use Rattle.kms_model.proofs.Items.{IsIn, list_all-from}
use Rattle.kms_laws.specs.Once.{LabelsAreNames, is_new, makes}
use Rattle.kms_laws.proofs.Basics.{in_either}
use Rattle.kms_laws.proofs.EachStep.{Carries, by_bool, by_fence, by_two, each_step, locks_leave, made_as, swapped_as, tails_leave}
use Rattle.kms_laws.proofs.Labels.{asks_made}
use Rattle.kms_laws.proofs.Modes.{command-spelt}
use Rattle.kms_laws.proofs.OwnLabels.{was_open}
use Rattle.kms_laws.proofs.Steps.{along}

module _ (P : ℕ → Type 0) where
  -- each thing's label is such a number
  abbrev Each : List Thing → Type 0
  Each things = (u : Thing) → IsIn u things → P u.label

  each_push : (things : List Thing) (x : Thing) → Each things → P x.label → Each (things ++ x ∷ [])
  each_push things x each own u is = by (in_either things (x ∷ []) u is)
    where
      by : IsIn u things ⊎ IsIn u (x ∷ []) → P u.label
      by (inl old) = each u old
      by (inr (inl same)) = subst (λ (v : Thing). P v.label) same own
      by (inr (inr never)) = absurd never

  each_closed : (things : List Thing) (id : ℕ) → Each things → Each (closed_in things id)
  each_closed things id each u is =
      let was = was_open things id u is in
      subst P (sym (closed_same id was.before).label ∙ ap (λ (x : Thing). x.label) was.same) (each was.before was.member)

  unless_each : (w : World) (owner l : ℕ) (c : Content) (o : Option ℕ) → Each w.things → P l → Each (make_unless w owner l c o).world.things
  unless_each w owner l c None each own = each_push w.things
      (record { label = l; id = w.next_id; owner = owner; content = c; is_open = true }) each own
  unless_each w owner l c (Some n) each own = each

  add_each : (w : World) (client l : ℕ) (o : Option BufferInfo) → Each w.things → P l → Each (add_fb w client l o).world.things
  add_each w client l None each own = each
  add_each w client l (Some b) each own = each_push w.things _ each own

  close_each : (w : World) (u : Option Thing) (o : Option ℕ) → Each w.things → Each (close_unless w u o).world.things
  close_each w None None each = each
  close_each w (Some u) None each = each_closed w.things u.id each
  close_each w u (Some n) each = each

  signal_each : (w : World) (o : Option ℕ) → Each w.things → Each (signal_unless w o).world.things
  signal_each w None each = each
  signal_each w (Some n) each = each

  fence_each : (client : ℕ) (w : World) (o : Option ℕ) → Each w.things → ((label : ℕ) → o ≡ Some label → P label)
      → Each (make_out_fence client w o).things
  fence_each client w None each own = each
  fence_each client w (Some l) each own = each_push w.things
      (record { label = l; id = w.next_id; owner = client; content = content.OutFence; is_open = true }) each (own l refl)

  fences_each : (client : ℕ) (assigns : List Assign) (w : World) (crtcs : List ℕ)
      → ((crtc label : ℕ) → out_fence_label assigns crtc ≡ Some label → P label) → Each w.things
      → Each (make_out_fences client assigns w crtcs).things
  fences_each client assigns w [] own each = each
  fences_each client assigns w (crtc ∷ crtcs) own each =
      fences_each client assigns (make_out_fence client w (out_fence_label assigns crtc)) crtcs own
      (fence_each client w (out_fence_label assigns crtc) each (own crtc))

  committed_each : (t : Topology) (w : World) (client : ℕ) (r : Request)
      → ((label : ℕ) → list_any (λ a. is_new a.value label) r.assigns ≡ true → P label) → Each w.things
      → Each (committed t w client r).world.things
  committed_each t w client r own each = fences_each client r.assigns _ (ids_of t Crtc)
      (λ crtc label asks. own label (asks_made r.assigns crtc label asks)) each

  commit_each : (t : Topology) (w : World) (client : ℕ) (r : Request) (o : Option ℕ)
      → ((label : ℕ) → list_any (λ a. is_new a.value label) r.assigns ≡ true → P label)
      → Each w.things → Each (commit t w client r o).world.things
  commit_each t w client r (Some n) own each = each
  commit_each t w client r None own each = elim (cases_Bool (is_test r.flags)) [
    | inl test ↦ rw test each
    | inr real ↦ rw real (committed_each t w client r own each)
  ]

  -- a command that makes such labels alone
  executed_each : (t : Topology) (w : World) (client : ℕ) (c : Command) → ((label : ℕ) → makes c label ≡ true → P label) → Each w.things
      → Each (execute t w client c).world.things
  unfolding execute
  executed_each t w client (command.Buffer l width height format pattern) own each =
      unless_each w client l (content.Buffer width height format pattern) (new_buffer_refusal w.things width height format) each
      (own l (eq-eqb l l refl))
  executed_each t w client (command.AddFb l buffer) own each = add_each w client l (buffer_of w.things client buffer) each
      (own l (eq-eqb l l refl))
  executed_each t w client (command.Mode l m) own each = each_push w.things _ each (own l (eq-eqb l l refl))
  executed_each t w client (command.Blob l bytes) own each = each_push w.things _ each (own l (eq-eqb l l refl))
  executed_each t w client (command.Destroy l) own each = close_each w (thing_labelled w.things l)
      (destroy_refusal client (thing_labelled w.things l)) each
  executed_each t w client (command.CloseFb l) own each = close_each w (thing_labelled w.things l)
      (close_refusal client (thing_labelled w.things l)) each
  executed_each t w client (command.Fence l) own each = each_push w.things _ each (own l (eq-eqb l l refl))
  executed_each t w client (command.Signal l) own each = signal_each w (signal_refusal (thing_labelled w.things l)) each
  executed_each t w client (command.Atomic r) own each = commit_each t w client r (verdict t w r) own each
  executed_each t w client command.Wait own each = each

  module _ (s : Script) (own : (e : Entry) (c : Command) → command_of s e ≡ Some c → (label : ℕ) → makes c label ≡ true → P label) where
    each_carries : (m : Machine) → Each m.device.world.things → Carries s m (λ step n. Each n.device.world.things)
    each_carries m each = record {
      locks = locks_leave s m (λ step n. Each n.device.world.things) (λ step contexts. each);
      answers = record {
        refuses = λ client r e taking may. each;
        tests = λ client r e taking may. each;
        swaps = λ client r e taking may b w eb ew.
            let now = committed_each s.topology m.device.world client r (own (entry_at m client) (command.Atomic r) e) each in
            by_two (λ b w. Each (swapped_as s.topology b w m client r).device.world.things) now now now now b w;
        makes = λ client c e making idle b eb.
            let now = executed_each s.topology m.device.world client c (own (entry_at m client) c e) each in
            by_bool (λ b. Each (made_as b m client (execute s.topology m.device.world client c)).device.world.things) now now b;
        signalled = λ client c e is_one idle o.
            by_fence (λ o. Each (goes_on (signals (answers m client (execute s.topology m.device.world client c).reply) o)
            client).device.world.things) each (λ fence. each) o;
        read_none = λ client c e is_one idle none. each;
        read_one = λ client c e is_one idle event events some. each;
      };
      tails = tails_leave s m (λ step left. Each left.world.things) (λ step. each);
      stalled = λ h. each;
    }

    history_each : (h : List Step) → is_history s h ≡ true → Each (at s h).device.world.things
    history_each h is =
        along s (λ m. Each m.device.world.things)
        (λ m step each legal. each_step s m (λ step n. Each n.device.world.things) (each_carries m each) step legal)
        h (first_machine s.topology) (λ u never. absurd never) is

-- what a command that words spell makes

named_value : (names : List (List ℕ)) (v : Value) (label : ℕ) → is_value_in names v ≡ true → is_new v label ≡ true
    → is_label_in names label ≡ true
named_value names (value.New l) label spelt new = ap (is_label_in names) (sym (eqb-true l label new)) ∙ spelt
named_value names (value.Num z) label spelt new = absurd cc
named_value names (value.Named l) label spelt new = absurd cc
named_value names (value.Crtc index) label spelt new = absurd cc

named_assigns : (profile : ℕ) (names : List (List ℕ)) (assigns : List Assign) (label : ℕ)
    → list_all (is_assign_in profile names) assigns ≡ true
    → list_any (λ a. is_new a.value label) assigns ≡ true → is_label_in names label ≡ true
named_assigns profile names [] label spelt made = absurd cc
named_assigns profile names (a ∷ assigns) label spelt made =
    let both = and_parts (is_assign_in profile names a) (list_all (is_assign_in profile names) assigns) spelt in
    elim (or_cases (is_new a.value label) (list_any (λ b. is_new b.value label) assigns) made) [
      | inl here ↦ named_value names a.value label
          (and_parts (is_property_in profile names a.prop) (is_value_in names a.value) (and_parts (nat_le a.index 255) _ both.0).1).1 here
      | inr later ↦ named_assigns profile names assigns label both.1 later
    ]

named_as : (names : List (List ℕ)) (l label : ℕ) → is_label_in names l ≡ true → (l == label) ≡ true → is_label_in names label ≡ true
named_as names l label spelt made = ap (is_label_in names) (sym (eqb-true l label made)) ∙ spelt

named_makes : (profile : ℕ) (names : List (List ℕ)) (c : Command) (label : ℕ) → is_command_in profile names c ≡ true → makes c label ≡ true
    → is_label_in names label ≡ true
named_makes profile names (command.Buffer l width height format pattern) label spelt made = named_as names l label
    (and_parts (is_label_in names l) _ spelt).0 made
named_makes profile names (command.AddFb l buffer) label spelt made = named_as names l label
    (and_parts (is_label_in names l) _ spelt).0 made
named_makes profile names (command.Mode l m) label spelt made = named_as names l label (and_parts (is_label_in names l) _ spelt).0 made
named_makes profile names (command.Blob l bytes) label spelt made = named_as names l label (and_parts (is_label_in names l) _ spelt).0 made
named_makes profile names (command.Fence l) label spelt made = named_as names l label spelt made
named_makes profile names (command.Atomic r) label spelt made =
    named_assigns profile names r.assigns label (and_parts (nat_lt r.user_data (2 ^ 64)) _ (and_parts (is_word32 r.flags) _ spelt).1).1 made
named_makes profile names (command.Destroy l) label spelt made = absurd cc
named_makes profile names (command.CloseFb l) label spelt made = absurd cc
named_makes profile names (command.Signal l) label spelt made = absurd cc
named_makes profile names command.Wait label spelt made = absurd cc

pub named_labels : LabelsAreNames
named_labels s h formed is =
    list_all-from (λ thing. is_label_in s.names thing.label) (at s h).device.world.things
    (history_each (λ n. is_label_in s.names n ≡ true) s
    (λ e c there label made. named_makes s.topology.profile s.names c label (command-spelt s e c formed.commands there) made) h is)
