-- What commits wait for: a fence that a command made, or an out-fence of an earlier commit, which its latch signals.
use Rattle.std.proofs.Common.{◌≡◌, ℕ, suc, ◌+◌, ◌<◌, ◌≤◌, List, [], ◌∷◌, ◌++◌, length, map, Bool, true, false, ◌==◌, Option, Some, None}
use Rattle.std.proofs.Common.{refl, sym, ap, ◌∙◌, subst, arith, inl, inr, ◌⊎◌, ⊎_elim}
use Rattle.std.specs.Prelude.{if◌then◌else◌}
use Rattle.std.specs.List.{filter_map}
use Rattle.std.specs.Option.{option_and_then, option_map}
use Rattle.std.specs.Result.{result_ok}
use Rattle.std.proofs.lemmas.Bool.{cases_Bool, cases_lt, cond-true, cond-false, eq-eqb, eqb-true, false≢true}
use Rattle.kms_model.specs.declared.objects.Kind.TheVariants.{Crtc, Plane}
use Rattle.kms_model.specs.declared.objects.Gamma.{Gamma}
use Rattle.kms_model.specs.declared.objects.Mode.{Mode}
use Rattle.kms_model.specs.declared.objects.ObjId.{ObjId}
use Rattle.kms_model.specs.declared.objects.Topology.{Topology}
use Rattle.kms_model.specs.declared.properties.TheConstants.{IN_FENCE_FD, OUT_FENCE_PTR}
use Rattle.kms_model.specs.declared.runs.Latch.{Latch}
use Rattle.kms_model.specs.declared.scripts.Assign.{Assign}
use Rattle.kms_model.specs.declared.scripts.Command.{Command}
use Rattle.kms_model.specs.declared.scripts.Command.TheVariants as command
use Rattle.kms_model.specs.declared.scripts.Value.{Value}
use Rattle.kms_model.specs.declared.scripts.Value.TheVariants as set_to
use Rattle.kms_model.specs.declared.worlds.Content.{Content}
use Rattle.kms_model.specs.declared.worlds.Content.TheVariants as content
use Rattle.kms_model.specs.declared.worlds.Look.{Look}
use Rattle.kms_model.specs.declared.worlds.Look.TheVariants as look
use Rattle.kms_model.specs.declared.worlds.Thing.{Thing}
use Rattle.kms_model.specs.declared.worlds.World.{World}
use Rattle.kms_model.specs.Device.Closing.{closed_if}
use Rattle.kms_model.specs.Device.Execution.{BufferInfo, add_fb, buffer_of, close, close_refusal, close_unless, committed, destroy_refusal}
use Rattle.kms_model.specs.Device.Execution.{execute, make, make_out_fence, make_out_fences, make_unless, new_buffer_refusal}
use Rattle.kms_model.specs.Device.Execution.{signal_refusal, signal_unless}
use Rattle.kms_model.specs.Device.Modes.{is_legal_mode}
use Rattle.kms_model.specs.Device.GammaBytes.{gamma_of_bytes}
use Rattle.kms_model.specs.Device.ModeBytes.{decoded}
use Rattle.kms_model.specs.Device.Objects.{ids_of}
use Rattle.kms_model.specs.Device.World.{thing_labelled}
use Rattle.kms_model.specs.Machine.Commits.{commit_names, has_latched, has_number, id_of_thing, new_values, out_fence_of, thing_made}
use Rattle.kms_model.specs.Machine.Commits.{waited_fences}
use Rattle.kms_model.specs.Machine.State.{Commit, DeviceState}
use Rattle.kms_model.specs.Machine.Steps.{is_atomic}
use Rattle.kms_model.specs.Request.Apply.{object_of}
use Rattle.kms_model.specs.Request.Lookups.{label_of, look_of, look_of_blob, look_of_content, look_up}
use Rattle.kms_model.specs.Request.Sets.{fence_of_look, in_fence, in_fences, obj_id}
use Rattle.kms_model.specs.Request.Touched.{last_value, new_label, out_fence_label, sets}
use Rattle.kms_model.proofs.FramedLemmas.{closed_same}
use Rattle.kms_model.proofs.Items.{IsIn, list_any-has}
use Rattle.kms_model.proofs.LastLemmas.{SetBy, set_by}
use Rattle.kms_model.proofs.CommitFacts.{commit_old, commit_new, waited_old}
use Rattle.kms_laws.proofs.Basics.{both_bools}
use Rattle.kms_laws.proofs.Closed.{closed_labelled}
use Rattle.kms_laws.proofs.Numbered.{names_new, names_old}
use Rattle.kms_laws.proofs.Requests.{set-named}

-- Things by their labels, before and after a command

-- a thing under a label, with the id and the content of another
pub record Labelled (things : List Thing) (label : ℕ) (u : Thing) : Type 0 where
  pub thing : Thing
  pub found : thing_labelled things label ≡ Some thing
  pub same_id : thing.id ≡ u.id
  pub same_content : thing.content ≡ u.content

pub record KeepsLabels (w v : World) : Type 0 where
  pub forth : (label : ℕ) (u : Thing) → thing_labelled w.things label ≡ Some u → Labelled v.things label u
  pub back : (label : ℕ) (u : Thing) → thing_labelled v.things label ≡ Some u → Labelled w.things label u
      ⊎ (u.content ≡ content.OutFence → ⊥)

pub found-push : (things : List Thing) (x : Thing) (label : ℕ) (u : Thing) → thing_labelled things label ≡ Some u
    → thing_labelled (things ++ x ∷ []) label ≡ Some u
found-push [] x label u e = absurd cc
found-push (y ∷ ys) x label u e =
    elim (cases_Bool (y.label == label)) [
      | inl here ↦ cond-true (y.label == label) (Some y) (thing_labelled (ys ++ x ∷ []) label) here ∙ sym
          (cond-true (y.label == label) (Some y) (thing_labelled ys label) here) ∙ e
      | inr away ↦ cond-false (y.label == label) (Some y) (thing_labelled (ys ++ x ∷ []) label) away ∙ found-push ys x label u
          (sym (cond-false (y.label == label) (Some y) (thing_labelled ys label) away) ∙ e)
    ]

push-found : (things : List Thing) (x : Thing) (label : ℕ) (u : Thing) → thing_labelled (things ++ x ∷ []) label ≡ Some u
    → (thing_labelled things label ≡ Some u) ⊎ ((x ≡ u) × (x.label ≡ label))
push-found [] x label u e =
    elim (cases_Bool (x.label == label)) [
      | inl here ↦ (let same : Some x ≡ Some u = sym (cond-true (x.label == label) (Some x) None here) ∙ e
          in inr (cc, eqb-true x.label label here))
      | inr away ↦ (let none : None ≡ Some u = sym (cond-false (x.label == label) (Some x) None away) ∙ e in absurd cc)
    ]
push-found (y ∷ ys) x label u e =
    elim (cases_Bool (y.label == label)) [
      | inl here ↦ inl (cond-true (y.label == label) (Some y) (thing_labelled ys label) here ∙ sym
          (cond-true (y.label == label) (Some y) (thing_labelled (ys ++ x ∷ []) label) here) ∙ e)
      | inr away ↦ ⊎_elim (λ found. inl (cond-false (y.label == label) (Some y) (thing_labelled ys label) away ∙ found)) (λ new. inr new)
          (push-found ys x label u (sym (cond-false (y.label == label) (Some y) (thing_labelled (ys ++ x ∷ []) label) away) ∙ e))
    ]

keeps-self : (w : World) → KeepsLabels w w
keeps-self w = record {
  forth = λ label u found. record { thing = u; found = found; same_id = refl; same_content = refl };
  back = λ label u found. inl (record { thing = u; found = found; same_id = refl; same_content = refl });
}

keeps-make : (w : World) (owner label : ℕ) (c : Content) → (c ≡ content.OutFence → ⊥) → KeepsLabels w (make w owner label c).world
keeps-make w owner label c other =
    let x : Thing = record { label = label; id = w.next_id; owner = owner; content = c; is_open = true } in
    record {
      forth = λ l u found. record { thing = u; found = found-push w.things x l u found; same_id = refl; same_content = refl };
      back = λ l u found.
          ⊎_elim
          (λ old. inl (record { thing = u; found = old; same_id = refl; same_content = refl }))
          (λ new. inr (λ is. other (ap (λ (z : Thing). z.content) new.0 ∙ is)))
          (push-found w.things x l u found);
    }

keeps-close : (w : World) (o : Option Thing) → KeepsLabels w (close w o)
keeps-close w None = keeps-self w
keeps-close w (Some x) = record {
  forth = λ l u found. record {
    thing = closed_if x.id u;
    found = closed_labelled w.things x.id l ∙ ap (option_map (closed_if x.id)) found;
    same_id = (closed_same x.id u).id;
    same_content = (closed_same x.id u).content;
  };
  back = λ l u found. inl (old l u (thing_labelled w.things l) refl (sym (closed_labelled w.things x.id l) ∙ found));
}
  where
    old : (l : ℕ) (u : Thing) (o : Option Thing) → thing_labelled w.things l ≡ o → option_map (closed_if x.id) o ≡ Some u
        → Labelled w.things l u
    old l u None found e = absurd cc
    old l u (Some y) found e =
        let same : closed_if x.id y ≡ u = cc in
        record {
          thing = y;
          found = found;
          same_id = sym (closed_same x.id y).id ∙ ap (λ (z : Thing). z.id) same;
          same_content = sym
              (closed_same x.id y).content ∙ ap (λ (z : Thing). z.content) same;
        }

keeps-make_unless : (w : World) (owner label : ℕ) (c : Content) (o : Option ℕ) → (c ≡ content.OutFence → ⊥)
    → KeepsLabels w (make_unless w owner label c o).world
keeps-make_unless w owner label c None other = keeps-make w owner label c other
keeps-make_unless w owner label c (Some n) other = keeps-self w

keeps-close_unless : (w : World) (thing : Option Thing) (o : Option ℕ) → KeepsLabels w (close_unless w thing o).world
keeps-close_unless w thing None = keeps-close w thing
keeps-close_unless w thing (Some n) = keeps-self w

keeps-add_fb : (w : World) (client label : ℕ) (o : Option BufferInfo) → KeepsLabels w (add_fb w client label o).world
keeps-add_fb w client label None = keeps-self w
keeps-add_fb w client label (Some b) = keeps-make w client label _ (λ e. absurd cc)

keeps-signal : (w : World) (o : Option ℕ) → KeepsLabels w (signal_unless w o).world
keeps-signal w None = keeps-self w
keeps-signal w (Some n) = keeps-self w

pub execute_labels : (t : Topology) (w : World) (client : ℕ) (c : Command) → is_atomic c ≡ false
    → KeepsLabels w (execute t w client c).world
unfolding execute
execute_labels t w client (command.Buffer label width height format pattern) other = keeps-make_unless w client label
    (content.Buffer width height format pattern) (new_buffer_refusal w.things width height format) (λ e. absurd cc)
execute_labels t w client (command.AddFb label buffer) other = keeps-add_fb w client label (buffer_of w.things client buffer)
execute_labels t w client (command.Mode label m) other = keeps-make w client label (content.Mode m) (λ e. absurd cc)
execute_labels t w client (command.Blob label bytes) other = keeps-make w client label (content.Blob bytes) (λ e. absurd cc)
execute_labels t w client (command.Destroy label) other = keeps-close_unless w (thing_labelled w.things label)
    (destroy_refusal client (thing_labelled w.things label))
execute_labels t w client (command.CloseFb label) other = keeps-close_unless w (thing_labelled w.things label)
    (close_refusal client (thing_labelled w.things label))
execute_labels t w client (command.Fence label) other = keeps-make w client label content.Fence (λ e. absurd cc)
execute_labels t w client (command.Signal label) other = keeps-signal w (signal_refusal (thing_labelled w.things label))
execute_labels t w client (command.Atomic r) other = absurd (false≢true (sym other))
execute_labels t w client command.Wait other = keeps-self w

-- Out-fences

-- a CRTC for which a request asks for an out-fence under a label
pub record AsksFence (assigns : List Assign) (crtcs : List ℕ) (label : ℕ) : Type 0 where
  pub crtc : ℕ
  pub is_crtc : IsIn crtc crtcs
  pub asks : out_fence_label assigns crtc ≡ Some label

-- what out-fences leave of the labels
pub record FencesLabels (assigns : List Assign) (crtcs : List ℕ) (w v : World) : Type 0 where
  pub forth : (label : ℕ) (u : Thing) → thing_labelled w.things label ≡ Some u → thing_labelled v.things label ≡ Some u
  pub back : (label : ℕ) (u : Thing) → thing_labelled v.things label ≡ Some u → (thing_labelled w.things label ≡ Some u)
      ⊎ AsksFence assigns crtcs label

one_fence : (client : ℕ) (assigns : List Assign) (w : World) (c : ℕ) (o : Option ℕ) → out_fence_label assigns c ≡ o
    → FencesLabels assigns (c ∷ []) w (make_out_fence client w o)
one_fence client assigns w c None e = record { forth = λ label u found. found; back = λ label u found. inl found }
one_fence client assigns w c (Some l) e =
    let x : Thing = record { label = l; id = w.next_id; owner = client; content = content.OutFence; is_open = true } in
    record {
      forth = λ label u found. found-push w.things x label u found;
      back = λ label u found.
          ⊎_elim (λ old. inl old) (λ new. inr (record { crtc = c; is_crtc = inl refl; asks = e ∙ ap Some new.1 }))
          (push-found w.things x label u found);
    }

pub fences_labels : (client : ℕ) (assigns : List Assign) (w : World) (crtcs : List ℕ)
    → FencesLabels assigns crtcs w (make_out_fences client assigns w crtcs)
fences_labels client assigns w [] = record { forth = λ label u found. found; back = λ label u found. inl found }
fences_labels client assigns w (c ∷ cs) =
    let v : World = make_out_fence client w (out_fence_label assigns c) in
    let first = one_fence client assigns w c (out_fence_label assigns c) refl in
    let rest = fences_labels client assigns v cs in
    record {
      forth = λ label u found. rest.forth label u (first.forth label u found);
      back = λ label u found.
          ⊎_elim
          (λ old. ⊎_elim (λ older. inl older) (λ a. inr
          (record { crtc = a.crtc; is_crtc = ⊎_elim (λ e. inl e) (λ never. absurd never) a.is_crtc; asks = a.asks }))
          (first.back label u old))
          (λ a. inr (record { crtc = a.crtc; is_crtc = inr a.is_crtc; asks = a.asks }))
          (rest.back label u found);
    }

-- What a fence is

-- an out-fence of a commit below a number, for a CRTC that the commit names
pub record IsOutFence (t : Topology) (cs : List Commit) (n id : ℕ) : Type 0 where
  pub commit : ℕ
  pub before : commit < n
  pub crtc : ℕ
  pub is_crtc : IsIn crtc (ids_of t Crtc)
  pub names : commit_names t cs commit crtc ≡ true
  pub fence : out_fence_of t cs commit crtc ≡ Some id

-- a thing that a commit waits for: a fence of a command, or an out-fence of an earlier commit
pub record IsWaited (t : Topology) (things : List Thing) (cs : List Commit) (k id : ℕ) : Type 0 where
  pub label : ℕ
  pub thing : Thing
  pub found : thing_labelled things label ≡ Some thing
  pub same_id : thing.id ≡ id
  pub kind : (thing.content ≡ content.Fence) ⊎ IsOutFence t cs k id

pub record FencesStand (t : Topology) (d : DeviceState) (ls : List Latch) : Type 0 where
  pub made : (label : ℕ) (u : Thing) → thing_labelled d.world.things label ≡ Some u → u.content ≡ content.OutFence
      → IsOutFence t d.commits (length d.commits) u.id
  pub waits : (k id : ℕ) → k < length d.commits → IsIn id (waited_fences t d.commits k) → IsWaited t d.world.things d.commits k id
  pub signalled : (j c id : ℕ) → j < length d.commits → out_fence_of t d.commits j c ≡ Some id → has_latched ls j c ≡ true
      → has_number d.signalled id ≡ true

fence-content : (id : ℕ) (c : Content) (fence : ℕ) → fence_of_look (look_of_content id c) ≡ Some fence → (id ≡ fence)
    × ((c ≡ content.Fence) ⊎ (c ≡ content.OutFence))
fence-content id content.Fence fence e = (cc, inl refl)
fence-content id content.OutFence fence e = (cc, inr refl)
fence-content id (content.Buffer width height format pattern) fence e = absurd cc
fence-content id (content.Framebuffer info buffer) fence e = absurd cc
fence-content id (content.Mode m) fence e = go (is_legal_mode m) e
  where
    go : (b : Bool) → fence_of_look (if b then look.Mode m id else look.Blob id) ≡ Some fence → (id ≡ fence)
        × ((content.Mode m ≡ content.Fence) ⊎ (content.Mode m ≡ content.OutFence))
    go true e = absurd cc
    go false e = absurd cc
fence-content id (content.Blob bytes) fence e = go (result_ok (decoded bytes)) (gamma_of_bytes bytes) e
  where
    go : (mode : Option Mode) (gamma : Option Gamma) → fence_of_look (look_of_blob id mode gamma) ≡ Some fence → (id ≡ fence)
        × ((content.Blob bytes ≡ content.Fence) ⊎ (content.Blob bytes ≡ content.OutFence))
    go (Some m) gamma e = absurd cc
    go None (Some g) e = absurd cc
    go None None e = absurd cc

-- what a label of an in-fence stands for
record IsFence (things : List Thing) (label id : ℕ) : Type 0 where
  thing : Thing
  found : thing_labelled things label ≡ Some thing
  same_id : thing.id ≡ id
  kind : (thing.content ≡ content.Fence) ⊎ (thing.content ≡ content.OutFence)

fence-look : (things : List Thing) (label id : ℕ) (o : Option Thing) → thing_labelled things label ≡ o → fence_of_look (look_of o) ≡ Some id
    → IsFence things label id
fence-look things label id None found e = absurd cc
fence-look things label id (Some u) found e = by_open u.is_open e
  where
    by_open : (b : Bool) → fence_of_look (if b then look_of_content u.id u.content else look.Closed) ≡ Some id → IsFence things label id
    by_open true e = let c = fence-content u.id u.content id e in record { thing = u; found = found; same_id = c.0; kind = c.1 }
    by_open false e = absurd cc

record NamesFence (f : ℕ → Look) (id : ℕ) : Type 0 where
  label : ℕ
  looks : fence_of_look (f label) ≡ Some id

in_fence-names : (f : ℕ → Look) (assigns : List Assign) (plane id : ℕ) → in_fence f assigns plane ≡ Some id → NamesFence f id
in_fence-names f assigns plane id e = go (last_value assigns plane IN_FENCE_FD) e
  where
    go : (o : Option Value) → option_and_then (λ v. option_and_then (λ label. fence_of_look (f label)) (label_of v)) o ≡ Some id
        → NamesFence f id
    go None e = absurd cc
    go (Some (set_to.Named label)) e = record { label = label; looks = e }
    go (Some (set_to.Num n)) e = absurd cc
    go (Some (set_to.New label)) e = absurd cc
    go (Some (set_to.Crtc index)) e = absurd cc

fences-of : (f : ℕ → Look) (h : ℕ → Option ℕ) (planes : List ℕ) (id : ℕ) → ((plane : ℕ) → h plane ≡ Some id → NamesFence f id)
    → IsIn id (map (λ (p : ObjId × ℕ). p.1) (filter_map (λ plane. option_map (λ fence. (obj_id plane, fence)) (h plane)) planes))
    → NamesFence f id
fences-of f h [] id named_fence is = absurd is
fences-of f h (p ∷ ps) id named_fence is = go (h p) refl (λ i. fences-of f h ps id named_fence i) is
  where
    go : (o : Option ℕ) → h p ≡ o → (IsIn id (map (λ (p : ObjId × ℕ). p.1)
        (filter_map (λ plane. option_map (λ fence. (obj_id plane, fence)) (h plane)) ps)) → NamesFence f id)
        → IsIn id (map (λ (p : ObjId × ℕ). p.1) (filter_map (λ plane. option_map (λ fence. (obj_id plane, fence)) (h plane)) (p ∷ ps)))
        → NamesFence f id
    go None e rest is = let i = rw e at is in rest i
    go (Some fence) e rest is = let i = rw e at is
        in ⊎_elim (λ (same : fence ≡ id). named_fence p (e ∙ ap Some same)) (λ later. rest later) i

waited-names : (t : Topology) (x : Commit) (cs : List Commit) (id : ℕ) → IsIn id (waited_fences t (x ∷ cs) (length cs))
    → NamesFence (look_up x.world) id
unfolding waited_fences in_fences
waited-names t x cs id is =
    fences-of (look_up x.world) (in_fence (look_up x.world) x.request.assigns) (ids_of t Plane) id
    (λ plane e. in_fence-names (look_up x.world) x.request.assigns plane id e)
    (subst (λ (z : Commit). IsIn id (map (λ (p : ObjId × ℕ). p.1) (in_fences t (look_up z.world) z.request.assigns))) (commit_new t x cs)
    is)

-- A commit more

asks-set : (assigns : List Assign) (c label : ℕ) → out_fence_label assigns c ≡ Some label → sets assigns c ≡ true
asks-set assigns c label e = go (last_value assigns c OUT_FENCE_PTR) refl e
  where
    go : (o : Option Value) → last_value assigns c OUT_FENCE_PTR ≡ o → new_label o ≡ Some label → sets assigns c ≡ true
    go None is e = absurd cc
    go (Some v) is e =
        let by : SetBy assigns c OUT_FENCE_PTR v = set_by assigns c OUT_FENCE_PTR v is in
        list_any-has (λ a. object_of a == c) assigns by.item by.member (eq-eqb (object_of by.item) c by.object_is)

out_fence_old : (t : Topology) (x : Commit) (cs : List Commit) (k c : ℕ) → k < length cs → out_fence_of t (x ∷ cs) k c
    ≡ out_fence_of t cs k c
unfolding out_fence_of
out_fence_old t x cs k c l = ap (λ (z : Commit). thing_made t z (out_fence_label z.request.assigns c)) (commit_old t x cs k l)

out_fence_new : (t : Topology) (x : Commit) (cs : List Commit) (c : ℕ) → out_fence_of t (x ∷ cs) (length cs) c
    ≡ thing_made t x (out_fence_label x.request.assigns c)
unfolding out_fence_of
out_fence_new t x cs c = ap (λ (z : Commit). thing_made t z (out_fence_label z.request.assigns c)) (commit_new t x cs)

longer : (t : Topology) (x : Commit) (cs : List Commit) (n id : ℕ) → n ≤ length cs → IsOutFence t cs n id → IsOutFence t (x ∷ cs) n id
longer t x cs n id l o =
    let b = o.before in
    let within : o.commit < length cs = omega arith in
    record {
      commit = o.commit;
      before = o.before;
      crtc = o.crtc;
      is_crtc = o.is_crtc;
      names = names_old t x cs o.commit o.crtc within ∙ o.names;
      fence = out_fence_old t x cs o.commit o.crtc within ∙ o.fence;
    }

further : (t : Topology) (cs : List Commit) (n m id : ℕ) → n ≤ m → IsOutFence t cs n id → IsOutFence t cs m id
further t cs n m id l o = record {
  commit = o.commit;
  before = (let b = o.before in omega arith);
  crtc = o.crtc;
  is_crtc = o.is_crtc;
  names = o.names;
  fence = o.fence;
}

waited-more : (t : Topology) (things later : List Thing) (cs more : List Commit) (k id : ℕ) → IsWaited t things cs k id
    → ((label : ℕ) (u : Thing) → thing_labelled things label ≡ Some u → Labelled later label u)
    → (IsOutFence t cs k id → IsOutFence t more k id) → IsWaited t later more k id
waited-more t things later cs more k id w forth out =
    let now = forth w.label w.thing w.found in
    record {
      label = w.label;
      thing = now.thing;
      found = now.found;
      same_id = now.same_id ∙ w.same_id;
      kind = ⊎_elim (λ fence. inl (now.same_content ∙ fence)) (λ o. inr (out o)) w.kind;
    }

pub made_fences : (t : Topology) (w v : World) (cs : List Commit) (d : DeviceState) (ls : List Latch) → d.world ≡ w → KeepsLabels w v
    → FencesStand t d ls → FencesStand t (record d { world = v }) ls
made_fences t w v cs d ls same K F =
    let forth = subst (λ (z : World). (label : ℕ) (u : Thing) → thing_labelled z.things label ≡ Some u → Labelled v.things label u)
    (sym same) K.forth in
    record {
      made = λ label u found out.
          ⊎_elim
          (λ old.
          subst (IsOutFence t d.commits (length d.commits)) old.same_id
          (F.made label old.thing (ap (λ (z : World). thing_labelled z.things label) same ∙ old.found) (old.same_content ∙ out)))
          (λ never. absurd (never out))
          (K.back label u found);
      waits = λ k id l is. waited-more t d.world.things v.things d.commits d.commits k id (F.waits k id l is) forth (λ o. o);
      signalled = F.signalled;
    }

module _ (t : Topology) (d : DeviceState) (ls : List Latch) (x : Commit) (same : x.world ≡ d.world)
    (unlatched : (c : ℕ) → has_latched ls (length d.commits) c ≡ false) (F : FencesStand t d ls) where
  labels : FencesLabels x.request.assigns (ids_of t Crtc) (record x.world { values = new_values x; commits = x.world.commits + 1 })
      (committed t x.world x.client x.request).world
  labels = fences_labels x.client x.request.assigns (record x.world { values = new_values x; commits = x.world.commits + 1 })
      (ids_of t Crtc)

  forth_now : (label : ℕ) (u : Thing) → thing_labelled d.world.things label ≡ Some u
      → Labelled (committed t x.world x.client x.request).world.things label u
  forth_now label u found = record {
    thing = u;
    found = labels.forth label u
        (ap (λ (z : World). thing_labelled z.things label) same ∙ found);
    same_id = refl;
    same_content = refl;
  }

  new_out : (label : ℕ) (u : Thing) → thing_labelled (committed t x.world x.client x.request).world.things label ≡ Some u
      → AsksFence x.request.assigns (ids_of t Crtc) label → IsOutFence t (x ∷ d.commits) (suc (length d.commits)) u.id
  new_out label u found a = record {
    commit = length d.commits;
    before = omega arith;
    crtc = a.crtc;
    is_crtc = a.is_crtc;
    names = names_new t x d.commits a.crtc ∙ set-named x.world.values (new_values x) x.request.assigns a.crtc
        (asks-set x.request.assigns a.crtc label a.asks);
    fence = out_fence_new t x d.commits a.crtc ∙ ap (thing_made t x) a.asks ∙ ap id_of_thing found;
  }

  waits_new : (id : ℕ) → IsIn id (waited_fences t (x ∷ d.commits) (length d.commits))
      → IsWaited t (committed t x.world x.client x.request).world.things (x ∷ d.commits) (length d.commits) id
  waits_new id is =
      let n = waited-names t x d.commits id is in
      let f = fence-look x.world.things n.label id (thing_labelled x.world.things n.label) refl n.looks in
      let now = forth_now n.label f.thing (ap (λ (z : World). thing_labelled z.things n.label) (sym same) ∙ f.found) in
      record {
        label = n.label;
        thing = now.thing;
        found = now.found;
        same_id = now.same_id ∙ f.same_id;
        kind =
            ⊎_elim
            (λ fence. inl (now.same_content ∙ fence))
            (λ out. inr (longer t x d.commits (length d.commits) id (omega arith)
            (subst (IsOutFence t d.commits (length d.commits)) f.same_id
            (F.made n.label f.thing (ap (λ (z : World). thing_labelled z.things n.label) (sym same) ∙ f.found) out))))
            f.kind;
      }

  pub swapped_fences : FencesStand t (record d { world = (committed t x.world x.client x.request).world; commits = x ∷ d.commits }) ls
  swapped_fences = record {
    made = λ label u found out.
        ⊎_elim
        (λ old. further t (x ∷ d.commits) (length d.commits) (suc (length d.commits)) u.id (omega arith)
        (longer t x d.commits (length d.commits) u.id (omega arith)
        (F.made label u (ap (λ (z : World). thing_labelled z.things label) (sym same) ∙ old) out)))
        (λ a. new_out label u found a)
        (labels.back label u found);
    waits = λ k id l is.
        ⊎_elim
        (λ (lt : k < length d.commits).
        waited-more t d.world.things (committed t x.world x.client x.request).world.things d.commits (x ∷ d.commits) k id
        (F.waits k id lt (subst (IsIn id) (waited_old t x d.commits k lt) is)) forth_now
        (λ o. longer t x d.commits k id (omega arith) o))
        (λ ge.
        let e : length d.commits ≡ k = omega arith in
        subst (λ z. IsIn id (waited_fences t (x ∷ d.commits) z)
        → IsWaited t (committed t x.world x.client x.request).world.things (x ∷ d.commits) z id) e (waits_new id) is)
        (cases_lt k (length d.commits));
    signalled = λ j c id l out y.
        ⊎_elim
        (λ (lt : j < length d.commits). F.signalled j c id lt (sym (out_fence_old t x d.commits j c lt) ∙ out) y)
        (λ ge. let e : j ≡ length d.commits = omega arith in absurd (both_bools _ y (ap (λ z. has_latched ls z c) e ∙ unlatched c)))
        (cases_lt j (length d.commits));
  }
