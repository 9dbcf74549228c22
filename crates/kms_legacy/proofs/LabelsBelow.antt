-- The things that a command makes are under labels that its line says.
use Rattle.std.proofs.Common.{◌≡◌, ℕ, zero, suc, ◌+◌, ◌<◌, ◌≤◌, ◌^◌, Bool, true, false, inl, inr, List, [], ◌∷◌, ◌++◌, cond, length, Option}
use Rattle.std.proofs.Common.{Some, None, refl, subst, arith}
use Rattle.std.specs.Prelude.{◌==◌, nat_le, nat_lt}
use Rattle.std.specs.List.{AllByRecursion, list_all}
use Rattle.std.proofs.lemmas.Bool.{and_parts}
use Rattle.kms_model.specs.declared.objects.Topology.{Topology}
use Rattle.kms_model.specs.declared.replies.Reply.TheVariants as reply
use Rattle.kms_model.specs.declared.scripts.Assign.{Assign}
use Rattle.kms_model.specs.declared.scripts.Command.{Command}
use Rattle.kms_model.specs.declared.scripts.Command.TheVariants as command
use Rattle.kms_model.specs.declared.scripts.Request.{Request}
use Rattle.kms_model.specs.declared.scripts.Value.{Value}
use Rattle.kms_model.specs.declared.scripts.Value.TheVariants as value
use Rattle.kms_model.specs.declared.worlds.Content.{Content}
use Rattle.kms_model.specs.declared.worlds.Thing.{Thing}
use Rattle.kms_model.specs.declared.worlds.World.{World}
use Rattle.kms_model.specs.Device.Closing.{closed_in}
use Rattle.kms_model.specs.Device.Execution.{BufferInfo, Executed, add_fb, answer, buffer_of, close_refusal, close_unless, commit}
use Rattle.kms_model.specs.Device.Execution.{committed, destroy_refusal, execute, make, make_out_fence, make_out_fences, make_unless}
use Rattle.kms_model.specs.Device.Execution.{new_buffer_refusal, signal_refusal, signal_unless}
use Rattle.kms_model.specs.Device.Objects.{ids_of}
use Rattle.kms_model.specs.Device.World.{thing_labelled}
use Rattle.kms_model.specs.declared.objects.Kind.TheVariants.{Crtc}
use Rattle.kms_model.specs.Request.Apply.{after}
use Rattle.kms_model.specs.Request.Flags.{is_test}
use Rattle.kms_model.specs.Request.Touched.{last_value, new_label, out_fence_label, value_if}
use Rattle.kms_model.specs.Request.Verdict.{verdict}
use Rattle.kms_model.specs.declared.properties.TheConstants.{OUT_FENCE_PTR}
use Rattle.kms_model.specs.Script.WellFormed.{is_assign_in, is_command_in, is_label_in, is_property_in, is_value_in, is_word32}
use Rattle.kms_model.specs.Script.Words.{is_label}
use Rattle.kms_model.proofs.Facts.{cond_holds, or_else-some}

-- each thing is under a label below a number
abbrev pub AreBelow : ℕ → List Thing → Type 0
AreBelow n things = AllByRecursion (λ thing. thing.label < n) things

pub below_wider : (m n : ℕ) (things : List Thing) → m ≤ n → AreBelow m things → AreBelow n things
below_wider m n [] le are = tt
below_wider m n (t ∷ ts) le are = (omega (arith, le, are.0), below_wider m n ts le are.1)

below_more : (n : ℕ) (things : List Thing) (t : Thing) → AreBelow n things → t.label < n → AreBelow n (things ++ t ∷ [])
below_more n [] t are lt = (lt, tt)
below_more n (x ∷ xs) t are lt = (are.0, below_more n xs t are.1 lt)

below_closed : (n id : ℕ) (things : List Thing) → AreBelow n things → AreBelow n (closed_in things id)
below_closed n id [] are = tt
below_closed n id (t ∷ ts) are = (one (t.id == id), below_closed n id ts are.1)
  where
    one : (same : Bool) → (cond same (record t { is_open = false }) t).label < n
    one true = are.0
    one false = are.0

-- A number of a label is below the number of names.
pub label_below : (names : List (List ℕ)) (n : ℕ) → is_label_in names n ≡ true → n < length names
unfolding is_label
label_below [] n is = absurd cc
label_below (w ∷ ws) zero is = omega arith
label_below (w ∷ ws) (suc n) is = omega (arith, label_below ws n is)

-- Commands

module _ (n : ℕ) (w : World) (are : AreBelow n w.things) where
  made_below : (owner label : ℕ) (c : Content) → label < n → AreBelow n (make w owner label c).world.things
  made_below owner label c lt = below_more n w.things _ are lt

  unless_below : (owner label : ℕ) (c : Content) (o : Option ℕ) → label < n → AreBelow n (make_unless w owner label c o).world.things
  unless_below owner label c None lt = made_below owner label c lt
  unless_below owner label c (Some number) lt = are

  fb_below : (owner label : ℕ) (o : Option BufferInfo) → label < n → AreBelow n (add_fb w owner label o).world.things
  fb_below owner label None lt = are
  fb_below owner label (Some b) lt = made_below owner label _ lt

  close_below : (t : Option Thing) (o : Option ℕ) → AreBelow n (close_unless w t o).world.things
  close_below None None = are
  close_below (Some t) None = below_closed n t.id w.things are
  close_below t (Some number) = are

  signal_below : (o : Option ℕ) → AreBelow n (signal_unless w o).world.things
  signal_below None = are
  signal_below (Some number) = are

value_in : (t : Bool) (all : List (List ℕ)) (v found : Value) → is_value_in all v ≡ true → value_if t v ≡ Some found
    → is_value_in all found ≡ true
value_in true all v found is e = let same : v ≡ found = cc in subst (λ x. is_value_in all x ≡ true) same is
value_in false all v found is e = absurd cc

last_in : (all : List (List ℕ)) (profile : ℕ) (assigns : List Assign) (object prop : ℕ) (v : Value)
    → list_all (is_assign_in profile all) assigns ≡ true → last_value assigns object prop ≡ Some v → is_value_in all v ≡ true
last_in all profile [] object prop v are e = absurd cc
last_in all profile (a ∷ more) object prop v are e =
    let both = and_parts (is_assign_in profile all a) (list_all (is_assign_in profile all) more) are in
    let outer = and_parts (nat_le a.index 255) _ both.0 in
    let inner = and_parts (is_property_in profile all a.prop) (is_value_in all a.value) outer.1 in
    elim (or_else-some (last_value more object prop) _ v e) [
      | inl later ↦ last_in all profile more object prop v both.1 later
      | inr here ↦ value_in _ all a.value v inner.1 here
    ]

new_in : (all : List (List ℕ)) (o : Option Value) (label : ℕ) → ((v : Value) → o ≡ Some v → is_value_in all v ≡ true)
    → new_label o ≡ Some label → is_label_in all label ≡ true
new_in all (Some (value.New l)) label in_all e =
    let same : l ≡ label = cc in subst (λ x. is_label_in all x ≡ true) same (in_all (value.New l) refl)
new_in all (Some (value.Num z)) label in_all e = absurd cc
new_in all (Some (value.Named l)) label in_all e = absurd cc
new_in all (Some (value.Crtc index)) label in_all e = absurd cc
new_in all None label in_all e = absurd cc

fence_label : (all : List (List ℕ)) (profile : ℕ) (assigns : List Assign) (crtc label : ℕ)
    → list_all (is_assign_in profile all) assigns ≡ true → out_fence_label assigns crtc ≡ Some label → label < length all
fence_label all profile assigns crtc label are e =
    label_below all label (new_in all (last_value assigns crtc OUT_FENCE_PTR) label
    (λ v is. last_in all profile assigns crtc OUT_FENCE_PTR v are is) e)

fence_below : (n client : ℕ) (w : World) (o : Option ℕ) → AreBelow n w.things → ((label : ℕ) → o ≡ Some label → label < n)
    → AreBelow n (make_out_fence client w o).things
fence_below n client w None are lt = are
fence_below n client w (Some label) are lt = below_more n w.things _ are (lt label refl)

fences_below : (n client : ℕ) (assigns : List Assign) (w : World) (crtcs : List ℕ) → AreBelow n w.things
    → ((crtc label : ℕ) → out_fence_label assigns crtc ≡ Some label → label < n)
    → AreBelow n (make_out_fences client assigns w crtcs).things
fences_below n client assigns w [] are lt = are
fences_below n client assigns w (crtc ∷ crtcs) are lt =
    fences_below n client assigns (make_out_fence client w (out_fence_label assigns crtc)) crtcs
    (fence_below n client w (out_fence_label assigns crtc) are (lt crtc)) lt

commit_below : (n client : ℕ) (t : Topology) (w : World) (r : Request) (o : Option ℕ) → AreBelow n w.things
    → ((crtc label : ℕ) → out_fence_label r.assigns crtc ≡ Some label → label < n)
    → AreBelow n (commit t w client r o).world.things
commit_below n client t w r None are lt =
    cond_holds (λ (e : Executed). AreBelow n e.world.things) (is_test r.flags) (answer w reply.Tested) (committed t w client r) are
    (fences_below n client r.assigns (record w { values = after w r; commits = w.commits + 1 }) (ids_of t Crtc) are lt)
commit_below n client t w r (Some number) are lt = are

-- a command of the words of names
pub execute_below : (all : List (List ℕ)) (profile client : ℕ) (t : Topology) (w : World) (c : Command) → AreBelow (length all) w.things
    → is_command_in profile all c ≡ true → AreBelow (length all) (execute t w client c).world.things
unfolding execute
execute_below all profile client t w (command.Buffer label width height format pattern) are is =
    unless_below (length all) w are client label _ (new_buffer_refusal w.things width height format)
    (label_below all label (and_parts (is_label_in all label) _ is).0)
execute_below all profile client t w (command.AddFb label buffer) are is =
    fb_below (length all) w are client label (buffer_of w.things client buffer)
    (label_below all label (and_parts (is_label_in all label) (is_label_in all buffer) is).0)
execute_below all profile client t w (command.Mode label m) are is =
    made_below (length all) w are client label _ (label_below all label (and_parts (is_label_in all label) _ is).0)
execute_below all profile client t w (command.Blob label bytes) are is =
    made_below (length all) w are client label _ (label_below all label (and_parts (is_label_in all label) _ is).0)
execute_below all profile client t w (command.Destroy label) are is =
    close_below (length all) w are (thing_labelled w.things label) (destroy_refusal client (thing_labelled w.things label))
execute_below all profile client t w (command.CloseFb label) are is =
    close_below (length all) w are (thing_labelled w.things label) (close_refusal client (thing_labelled w.things label))
execute_below all profile client t w (command.Fence label) are is = made_below (length all) w are client label _ (label_below all label is)
execute_below all profile client t w (command.Signal label) are is =
    signal_below (length all) w are (signal_refusal (thing_labelled w.things label))
execute_below all profile client t w (command.Atomic r) are is =
    let first = and_parts (is_word32 r.flags) _ is in
    let second = and_parts (nat_lt r.user_data (2 ^ 64)) (list_all (is_assign_in profile all) r.assigns) first.1 in
    commit_below (length all) client t w r (verdict t w r) are (λ crtc label e. fence_label all profile r.assigns crtc label second.1 e)
execute_below all profile client t w command.Wait are is = are
