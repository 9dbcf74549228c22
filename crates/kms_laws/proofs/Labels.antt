-- Labels under which no thing was made.
use Rattle.std.proofs.Common.{◌≡◌, ℕ, true, false, List, [], ◌∷◌, ◌++◌, Option, Some, None, inl, inr, refl, sym, ap, ◌∙◌}
use Rattle.std.specs.Prelude.{◌==◌}
use Rattle.std.specs.List.{list_any}
use Rattle.std.specs.Option.{option_map}
use Rattle.std.proofs.lemmas.Bool.{cases_Bool, eq-eqb, eqb-true, false≢true}
use Rattle.kms_model.specs.declared.objects.Topology.{Topology}
use Rattle.kms_model.specs.declared.properties.TheConstants.{OUT_FENCE_PTR}
use Rattle.kms_model.specs.declared.scripts.Assign.{Assign}
use Rattle.kms_model.specs.declared.scripts.Command.{Command}
use Rattle.kms_model.specs.declared.scripts.Command.TheVariants as command
use Rattle.kms_model.specs.declared.scripts.Request.{Request}
use Rattle.kms_model.specs.declared.scripts.Script.{Script}
use Rattle.kms_model.specs.declared.scripts.Value.{Value}
use Rattle.kms_model.specs.declared.scripts.Value.TheVariants as value
use Rattle.kms_model.specs.declared.worlds.Content.{Content}
use Rattle.kms_model.specs.declared.worlds.Content.TheVariants as content
use Rattle.kms_model.specs.declared.worlds.Thing.{Thing}
use Rattle.kms_model.specs.declared.worlds.World.{World}
use Rattle.kms_model.specs.Device.Closing.{closed_if, closed_in}
use Rattle.kms_model.specs.Device.Execution.{BufferInfo, add_fb, buffer_of, close_refusal, close_unless, commit, destroy_refusal, execute}
use Rattle.kms_model.specs.Device.Execution.{make_out_fence, make_out_fences, make_unless, new_buffer_refusal, signal_refusal}
use Rattle.kms_model.specs.Device.Execution.{signal_unless}
use Rattle.kms_model.specs.Device.Objects.{ids_of}
use Rattle.kms_model.specs.declared.objects.Kind.TheVariants.{Crtc}
use Rattle.kms_model.specs.Device.Serial.{Entry, command_of, execute_in, serial_from}
use Rattle.kms_model.specs.Device.World.{thing_labelled}
use Rattle.kms_model.specs.Request.Flags.{is_test}
use Rattle.kms_model.specs.Request.Touched.{last_value, new_label, out_fence_label}
use Rattle.kms_model.specs.Request.Verdict.{verdict}
use Rattle.kms_model.proofs.Items.{IsIn, list_any-has}
use Rattle.kms_model.proofs.LastLemmas.{SetBy, set_by}
use Rattle.kms_laws.proofs.Closed.{closed_labelled}
use Rattle.kms_laws.specs.Once.{is_new, makes}

pub new_is : (v : Value) (label : ℕ) → new_label (Some v) ≡ Some label → is_new v label ≡ true
new_is (value.New l) label is = (let same : l ≡ label = cc in eq-eqb l label same)
new_is (value.Num z) label is = absurd cc
new_is (value.Named l) label is = absurd cc
new_is (value.Crtc index) label is = absurd cc

-- a request makes the out-fences that it asks for
pub asks_made : (assigns : List Assign) (crtc label : ℕ) → out_fence_label assigns crtc ≡ Some label
    → list_any (λ a. is_new a.value label) assigns ≡ true
asks_made assigns crtc label asks = go (last_value assigns crtc OUT_FENCE_PTR) refl asks where
  go : (o : Option Value) → last_value assigns crtc OUT_FENCE_PTR ≡ o → new_label o ≡ Some label
      → list_any (λ a. is_new a.value label) assigns ≡ true
  go None is e = absurd cc
  go (Some v) is e =
      let by : SetBy assigns crtc OUT_FENCE_PTR v = set_by assigns crtc OUT_FENCE_PTR v is in
      list_any-has (λ a. is_new a.value label) assigns by.item by.member (ap (λ x. is_new x label) by.value_is ∙ new_is v label e)

-- Things

pub absent_push : (things : List Thing) (x : Thing) (label : ℕ) → (x.label == label) ≡ false → thing_labelled things label ≡ None
    → thing_labelled (things ++ x ∷ []) label ≡ None
absent_push [] x label other none = rw other refl
absent_push (y ∷ ys) x label other none =
    elim (cases_Bool (y.label == label)) [
      | inl here ↦ (let some : Some y ≡ None = rw here at none in absurd cc)
      | inr away ↦ rw away (absent_push ys x label other (rw away at none))
    ]

absent_closed : (things : List Thing) (id label : ℕ) → thing_labelled things label ≡ None → thing_labelled (closed_in things id) label
    ≡ None
absent_closed things id label none = closed_labelled things id label ∙ ap (option_map (closed_if id)) none

-- Commands

module _ (label : ℕ) where
  unless_absent : (w : World) (owner l : ℕ) (c : Content) (o : Option ℕ) → (l == label) ≡ false → thing_labelled w.things label ≡ None
      → thing_labelled (make_unless w owner l c o).world.things label ≡ None
  unless_absent w owner l c None other none = absent_push w.things
      (record { label = l; id = w.next_id; owner = owner; content = c; is_open = true }) label other none
  unless_absent w owner l c (Some n) other none = none

  add_absent : (w : World) (client l : ℕ) (o : Option BufferInfo) → (l == label) ≡ false → thing_labelled w.things label ≡ None
      → thing_labelled (add_fb w client l o).world.things label ≡ None
  add_absent w client l None other none = none
  add_absent w client l (Some b) other none = absent_push w.things _ label other none

  close_absent : (w : World) (u : Option Thing) (o : Option ℕ) → thing_labelled w.things label ≡ None
      → thing_labelled (close_unless w u o).world.things label ≡ None
  close_absent w None None none = none
  close_absent w (Some u) None none = absent_closed w.things u.id label none
  close_absent w u (Some n) none = none

  signal_absent : (w : World) (o : Option ℕ) → thing_labelled w.things label ≡ None → thing_labelled (signal_unless w o).world.things label
      ≡ None
  signal_absent w None none = none
  signal_absent w (Some n) none = none

  fence_absent : (client : ℕ) (w : World) (o : Option ℕ) → (o ≡ Some label → ⊥) → thing_labelled w.things label ≡ None
      → thing_labelled (make_out_fence client w o).things label ≡ None
  fence_absent client w None other none = none
  fence_absent client w (Some l) other none =
      elim (cases_Bool (l == label)) [
        | inl same ↦ absurd (other (ap (λ n. Some n) (eqb-true l label same)))
        | inr apart ↦ absent_push w.things (record {
          label = l;
          id = w.next_id;
          owner = client;
          content = content.OutFence;
          is_open = true;
        }) label apart none
      ]

  fences_absent : (client : ℕ) (assigns : List Assign) (w : World) (crtcs : List ℕ)
      → ((crtc : ℕ) → out_fence_label assigns crtc ≡ Some label → ⊥) → thing_labelled w.things label ≡ None
      → thing_labelled (make_out_fences client assigns w crtcs).things label ≡ None
  fences_absent client assigns w [] other none = none
  fences_absent client assigns w (crtc ∷ crtcs) other none =
      fences_absent client assigns (make_out_fence client w (out_fence_label assigns crtc)) crtcs other
      (fence_absent client w (out_fence_label assigns crtc) (other crtc) none)

  commit_absent : (t : Topology) (w : World) (client : ℕ) (r : Request) (o : Option ℕ) → list_any (λ a. is_new a.value label) r.assigns
      ≡ false → thing_labelled w.things label ≡ None → thing_labelled (commit t w client r o).world.things label ≡ None
  commit_absent t w client r (Some n) other none = none
  commit_absent t w client r None other none =
      elim (cases_Bool (is_test r.flags)) [
        | inl test ↦ rw test none
        | inr real ↦ rw real (fences_absent client r.assigns _ (ids_of t Crtc)
            (λ crtc asks. false≢true (sym other ∙ asks_made r.assigns crtc label asks)) none)
      ]

  -- a command that makes nothing under a label leaves nothing there
  pub executed_absent : (t : Topology) (w : World) (client : ℕ) (c : Command) → makes c label ≡ false → thing_labelled w.things label ≡ None
      → thing_labelled (execute t w client c).world.things label ≡ None
  unfolding execute
  executed_absent t w client (command.Buffer l width height format pattern) other none = unless_absent w client l
      (content.Buffer width height format pattern) (new_buffer_refusal w.things width height format) other none
  executed_absent t w client (command.AddFb l buffer) other none = add_absent w client l (buffer_of w.things client buffer) other none
  executed_absent t w client (command.Mode l m) other none = absent_push w.things _ label other none
  executed_absent t w client (command.Blob l bytes) other none = absent_push w.things _ label other none
  executed_absent t w client (command.Destroy l) other none = close_absent w (thing_labelled w.things l)
      (destroy_refusal client (thing_labelled w.things l)) none
  executed_absent t w client (command.CloseFb l) other none = close_absent w (thing_labelled w.things l)
      (close_refusal client (thing_labelled w.things l)) none
  executed_absent t w client (command.Fence l) other none = absent_push w.things _ label other none
  executed_absent t w client (command.Signal l) other none = signal_absent w (signal_refusal (thing_labelled w.things l)) none
  executed_absent t w client (command.Atomic r) other none = commit_absent t w client r (verdict t w r) other none
  executed_absent t w client command.Wait other none = none

  in_absent : (t : Topology) (w : World) (client : ℕ) (o : Option Command) → ((c : Command) → o ≡ Some c → makes c label ≡ false)
      → thing_labelled w.things label ≡ None → thing_labelled (execute_in t w client o).things label ≡ None
  in_absent t w client None other none = none
  in_absent t w client (Some c) other none = executed_absent t w client c (other c refl) none

  -- entries that make nothing under a label leave nothing there
  pub serial_absent : (s : Script) (w : World) (es : List Entry)
      → ((e : Entry) (c : Command) → IsIn e es → command_of s e ≡ Some c → makes c label ≡ false) → thing_labelled w.things label ≡ None
      → thing_labelled (serial_from s w es).things label ≡ None
  unfolding serial_from
  serial_absent s w [] other none = none
  serial_absent s w (e ∷ es) other none =
      serial_absent s (execute_in s.topology w e.client (command_of s e)) es (λ f c is. other f c (inr is))
      (in_absent s.topology w e.client (command_of s e) (λ c. other e c (inl refl)) none)
