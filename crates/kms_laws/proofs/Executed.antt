-- What a command that makes or closes a thing leaves of the states, and what a commit's out-fences leave.
use Rattle.std.proofs.Common.{List, None, Option, Some, [], ap, arith, false, inl, inr, refl, subst, sym, true, ℕ, ◌++◌, ◌<◌, ◌∙◌, ◌∷◌, ◌≡◌}
use Rattle.std.proofs.Common.{◌≤◌}
use Rattle.std.specs.Prelude.{ℤ, if◌then◌else◌, ⊤, ◌==◌}
use Rattle.std.specs.Option.{option_map}
use Rattle.std.proofs.lemmas.Bool.{cases_Bool, cond-true, cond-false, false≢true, ne_eqb}
use Rattle.kms_model.specs.declared.objects.Kind.TheVariants as kind
use Rattle.kms_model.specs.declared.objects.Topology.{Topology}
use Rattle.kms_model.specs.declared.scripts.Assign.{Assign}
use Rattle.kms_model.specs.declared.scripts.Command.{Command}
use Rattle.kms_model.specs.declared.scripts.Command.TheVariants as command
use Rattle.kms_model.specs.declared.worlds.Content.{Content}
use Rattle.kms_model.specs.declared.worlds.Content.TheVariants as content
use Rattle.kms_model.specs.declared.worlds.Setting.{Setting}
use Rattle.kms_model.specs.declared.worlds.Thing.{Thing}
use Rattle.kms_model.specs.declared.worlds.World.{World}
use Rattle.kms_model.specs.Device.Closing.{closed_if, closed_in}
use Rattle.kms_model.specs.Device.Execution.{BufferInfo, add_fb, buffer_of, close, close_refusal, close_unless, destroy_refusal, execute}
use Rattle.kms_model.specs.Device.Execution.{make, make_out_fence, make_out_fences, make_unless, new_buffer_refusal, signal_refusal}
use Rattle.kms_model.specs.Device.Execution.{signal_unless}
use Rattle.kms_model.specs.Device.Objects.{ids_of}
use Rattle.kms_model.specs.Device.Sound.{IsLawful}
use Rattle.kms_model.specs.Device.States.{gamma_in, mode_in, plane_at}
use Rattle.kms_model.specs.Device.World.{thing_labelled, thing_with_id, value}
use Rattle.kms_model.specs.Machine.Steps.{is_atomic}
use Rattle.kms_model.specs.Request.Touched.{out_fence_label}
use Rattle.kms_model.proofs.FramedLemmas.{closed_same}
use Rattle.kms_model.proofs.Items.{IsIn}
use Rattle.kms_model.proofs.SeenLemmas.{AreSeenAlike, alike-closed, alike-push, gamma-seen, mode-seen, plane-seen}
use Rattle.kms_model.proofs.SoundKept.{sound-make}
use Rattle.kms_model.proofs.ThingLemmas.{IsSeenAlike}
use Rattle.kms_laws.proofs.Closed.{closed_with_id}
use Rattle.kms_laws.proofs.Requests.{words_at, words_same}
use Rattle.kms_laws.proofs.Words.{AreKept, KeepsMode}

-- a world with the same values and the same number of commits, whose things show the same under the values
pub record IsLike (t : Topology) (w v : World) : Type 0 where
  pub values : v.values ≡ w.values
  pub count : v.commits ≡ w.commits
  pub alike : AreSeenAlike t w.things v.things w.values

pub plane_like : (t : Topology) (w v : World) (p : ℕ) → IsLike t w v → IsIn p (ids_of t kind.Plane) → plane_at v.things v.values p
    ≡ plane_at w.things w.values p
plane_like t w v p like is = ap (λ values. plane_at v.things values p) like.values ∙ sym
    (plane-seen t w.things v.things w.values p like.alike is)

pub words_like : (t : Topology) (w v : World) (c : ℕ) → IsLike t w v → IsIn c (ids_of t kind.Crtc) → words_at t v.things v.values c
    ≡ words_at t w.things w.values c
words_like t w v c like is =
    ap (λ values. words_at t v.things values c) like.values
    ∙ words_same t w.things v.things w.values w.values c refl refl (sym (mode-seen t w.things v.things w.values c like.alike is))
    (sym (gamma-seen t w.things v.things w.values c like.alike is))

seen-self : (things : List Thing) (number : ℤ) → IsSeenAlike things things number
seen-self things number = record { fb = refl; mode = refl; gamma = refl }

pub alike-self : (t : Topology) (things : List Thing) (values : List Setting) → AreSeenAlike t things things values
alike-self t things values = record {
  planes = λ p is. seen-self things _;
  crtcs = λ c is. seen-self things _;
  gammas = λ c is. seen-self
      things _;
}

seen-trans : (xs ys zs : List Thing) (number : ℤ) → IsSeenAlike xs ys number → IsSeenAlike ys zs number → IsSeenAlike xs zs number
seen-trans xs ys zs number a b = record { fb = a.fb ∙ b.fb; mode = a.mode ∙ b.mode; gamma = a.gamma ∙ b.gamma }

like-self : (t : Topology) (w : World) → IsLike t w w
like-self t w = record { values = refl; count = refl; alike = alike-self t w.things w.values }

like-trans : (t : Topology) (w v u : World) → IsLike t w v → IsLike t v u → IsLike t w u
like-trans t w v u a b =
    let moved = subst (AreSeenAlike t v.things u.things) a.values b.alike in
    record {
      values = b.values ∙ a.values;
      count = b.count ∙ a.count;
      alike = record {
        planes = λ p is. seen-trans w.things v.things u.things (value w.values p _) (a.alike.planes p is) (moved.planes p is);
        crtcs = λ c is. seen-trans w.things v.things u.things (value w.values c _) (a.alike.crtcs c is) (moved.crtcs c is);
        gammas = λ c is. seen-trans w.things v.things u.things (value w.values c _) (a.alike.gammas c is) (moved.gammas c is);
      };
    }

-- Modes and tables of things

kept-push : (things : List Thing) (thing : Thing) → AreKept things → KeepsMode thing.content → AreKept (things ++ thing ∷ [])
kept-push [] thing kept here = (here, tt)
kept-push (u ∷ us) thing kept here = (kept.0, kept-push us thing kept.1 here)

kept-closed : (things : List Thing) (id : ℕ) → AreKept things → AreKept (closed_in things id)
kept-closed [] id kept = tt
kept-closed (u ∷ us) id kept = (subst KeepsMode (sym (closed_same id u).content) kept.0, kept-closed us id kept.1)

-- contents with no mode and no gamma table
no_mode : (c : Content) → mode_in c ≡ None → gamma_in c ≡ None → KeepsMode c
no_mode c none nothing = record {
  mode = λ m e. absurd (let z : None ≡ Some m = sym none ∙ e in cc);
  gamma = λ g e. absurd (let z : None ≡ Some g = sym nothing ∙ e in cc);
}

-- what each command's mode keeps, and its gamma table
abbrev pub KeepsModes : Command → Type 0
KeepsModes (command.Mode label m) = KeepsMode (content.Mode m)
KeepsModes (command.Blob label bytes) = KeepsMode (content.Blob bytes)
KeepsModes _ = ⊤

-- Things that are closed stay so

-- the thing with an id, if any, is closed
abbrev pub IsShut : List Thing → ℕ → Type 0
IsShut things id = (thing : Thing) → thing_with_id things id ≡ Some thing → thing.is_open ≡ false

with_id-push : (things : List Thing) (u : Thing) (id : ℕ) → (u.id == id) ≡ false → thing_with_id (things ++ u ∷ []) id
    ≡ thing_with_id things id
with_id-push [] u id other = cond-false (u.id == id) (Some u) None other
with_id-push (x ∷ xs) u id other = ap (λ o. if x.id == id then Some x else o) (with_id-push xs u id other)

shut-push : (things : List Thing) (u : Thing) (id : ℕ) → id < u.id → IsShut things id → IsShut (things ++ u ∷ []) id
shut-push things u id below shut thing found = shut thing
    (sym (with_id-push things u id (ne_eqb u.id id (λ e. absurd (omega arith)))) ∙ found)

closed_if-open : (id : ℕ) (u : Thing) → u.is_open ≡ false → (closed_if id u).is_open ≡ false
closed_if-open id u shut = elim (cases_Bool (u.id == id)) [
  | inl here ↦ ap (λ (z : Thing). z.is_open) (cond-true (u.id == id) (record u { is_open = false }) u here)
  | inr away ↦ ap (λ (z : Thing). z.is_open) (cond-false (u.id == id) (record u { is_open = false }) u away) ∙ shut
]

shut-closed : (things : List Thing) (at id : ℕ) → IsShut things id → IsShut (closed_in things at) id
shut-closed things at id shut thing found = by_found (thing_with_id things id) refl (sym (closed_with_id things at id) ∙ found)
  where
    by_found : (o : Option Thing) → thing_with_id things id ≡ o → option_map (closed_if at) o ≡ Some thing → thing.is_open ≡ false
    by_found None e is = absurd cc
    by_found (Some x) e is = let same : closed_if at x ≡ thing = cc
        in ap (λ (z : Thing). z.is_open) (sym same) ∙ closed_if-open at x (shut x e)

-- what a command leaves of a lawful world, where it is no request
pub record Follows (t : Topology) (w v : World) : Type 0 where
  pub like : IsLike t w v
  pub kept : AreKept v.things
  pub grows : w.next_id ≤ v.next_id
  pub shuts : (id : ℕ) → id < w.next_id → IsShut w.things id → IsShut v.things id

follows-make : (t : Topology) (w : World) (owner label : ℕ) (c : Content) → IsLawful t w → AreKept w.things → KeepsMode c
    → Follows t w (make w owner label c).world
follows-make t w owner label c lawful kept keeps =
    let u : Thing = record { label = label; id = w.next_id; owner = owner; content = c; is_open = true } in
    record {
      like = record {
        values = refl;
        count = refl;
        alike = alike-push t w.things u w.values lawful.numbered.things lawful.numbered.next
            lawful.sound.held;
      };
      kept = kept-push w.things u kept keeps;
      grows = omega arith;
      shuts = λ id below shut. shut-push w.things u id below shut;
    }

follows-self : (t : Topology) (w : World) → AreKept w.things → Follows t w w
follows-self t w kept = record { like = like-self t w; kept = kept; grows = omega arith; shuts = λ id below shut. shut }

follows-close : (t : Topology) (w : World) (o : Option Thing) → AreKept w.things → Follows t w (close w o)
follows-close t w None kept = follows-self t w kept
follows-close t w (Some u) kept = record {
  like = record { values = refl; count = refl; alike = alike-closed t w.things u.id w.values };
  kept = kept-closed w.things u.id kept;
  grows = omega arith;
  shuts = λ id below shut. shut-closed w.things u.id id shut;
}

follows-make_unless : (t : Topology) (w : World) (owner label : ℕ) (c : Content) (o : Option ℕ) → IsLawful t w → AreKept w.things
    → KeepsMode c → Follows t w (make_unless w owner label c o).world
follows-make_unless t w owner label c None lawful kept keeps = follows-make t w owner label c lawful kept keeps
follows-make_unless t w owner label c (Some n) lawful kept keeps = follows-self t w kept

follows-close_unless : (t : Topology) (w : World) (thing : Option Thing) (o : Option ℕ) → AreKept w.things
    → Follows t w (close_unless w thing o).world
follows-close_unless t w thing None kept = follows-close t w thing kept
follows-close_unless t w thing (Some n) kept = follows-self t w kept

follows-add_fb : (t : Topology) (w : World) (client label : ℕ) (o : Option BufferInfo) → IsLawful t w → AreKept w.things
    → Follows t w (add_fb w client label o).world
follows-add_fb t w client label None lawful kept = follows-self t w kept
follows-add_fb t w client label (Some b) lawful kept = follows-make t w client label _ lawful kept (no_mode _ refl refl)

follows-signal : (t : Topology) (w : World) (o : Option ℕ) → AreKept w.things → Follows t w (signal_unless w o).world
follows-signal t w None kept = follows-self t w kept
follows-signal t w (Some n) kept = follows-self t w kept

pub execute_follows : (t : Topology) (w : World) (client : ℕ) (c : Command) → IsLawful t w → AreKept w.things → KeepsModes c → is_atomic c
    ≡ false → Follows t w (execute t w client c).world
unfolding execute
execute_follows t w client (command.Buffer label width height format pattern) lawful kept keeps other =
    follows-make_unless t w client label (content.Buffer width height format pattern) (new_buffer_refusal w.things width height format)
    lawful kept (no_mode _ refl refl)
execute_follows t w client (command.AddFb label buffer) lawful kept keeps other = follows-add_fb t w client label
    (buffer_of w.things client buffer) lawful kept
execute_follows t w client (command.Mode label m) lawful kept keeps other = follows-make t w client label (content.Mode m) lawful kept keeps
execute_follows t w client (command.Blob label bytes) lawful kept keeps other = follows-make t w client label (content.Blob bytes) lawful
    kept keeps
execute_follows t w client (command.Destroy label) lawful kept keeps other = follows-close_unless t w (thing_labelled w.things label)
    (destroy_refusal client (thing_labelled w.things label)) kept
execute_follows t w client (command.CloseFb label) lawful kept keeps other = follows-close_unless t w (thing_labelled w.things label)
    (close_refusal client (thing_labelled w.things label)) kept
execute_follows t w client (command.Fence label) lawful kept keeps other = follows-make t w client label content.Fence lawful kept
    (no_mode _ refl refl)
execute_follows t w client (command.Signal label) lawful kept keeps other = follows-signal t w
    (signal_refusal (thing_labelled w.things label)) kept
execute_follows t w client (command.Atomic r) lawful kept keeps other = absurd (false≢true (sym other))
execute_follows t w client command.Wait lawful kept keeps other = follows-self t w kept

-- Out-fences

follows-out_fence : (t : Topology) (client : ℕ) (w : World) (label : Option ℕ) → IsLawful t w → AreKept w.things
    → Follows t w (make_out_fence client w label) × IsLawful t (make_out_fence client w label)
follows-out_fence t client w None lawful kept = (follows-self t w kept, lawful)
follows-out_fence t client w (Some label) lawful kept =
    (follows-make t w client label content.OutFence lawful kept (no_mode _ refl refl), sound-make t w client label content.OutFence lawful)

pub follows-out_fences : (t : Topology) (client : ℕ) (assigns : List Assign) (w : World) (crtcs : List ℕ) → IsLawful t w → AreKept w.things
    → Follows t w (make_out_fences client assigns w crtcs)
follows-out_fences t client assigns w [] lawful kept = follows-self t w kept
follows-out_fences t client assigns w (crtc ∷ crtcs) lawful kept =
    let v : World = make_out_fence client w (out_fence_label assigns crtc) in
    let first = follows-out_fence t client w (out_fence_label assigns crtc) lawful kept in
    let rest = follows-out_fences t client assigns v crtcs first.1 first.0.kept in
    record {
      like = like-trans t w v (make_out_fences client assigns v crtcs) first.0.like rest.like;
      kept = rest.kept;
      grows = (let a = first.0.grows in let b = rest.grows in omega arith);
      shuts = λ id below shut. rest.shuts id (let a = first.0.grows in omega arith) (first.0.shuts id below shut);
    }
