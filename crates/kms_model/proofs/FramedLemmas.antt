-- Framebuffers have their buffers, whatever is made and closed.
use Rattle.std.proofs.Common.{◌≡◌, ℕ, ◌+◌, ◌≤◌, Bool, true, false, cond, List, [], ◌∷◌, ◌++◌, Option, Some, None, eqb, inl, inr, arith}
use Rattle.std.proofs.Common.{refl, sym, ap, subst}
use Rattle.std.specs.Prelude.{◌==◌, if◌then◌else◌}
use Rattle.std.specs.List.{AllByRecursion}
use Rattle.std.proofs.lemmas.Bool.Decides.{nat_tests, eqb_tells}
use Rattle.kms_model.specs.declared.objects.Topology.{Topology}
use Rattle.kms_model.specs.declared.replies.Reply.TheVariants as reply
use Rattle.kms_model.specs.declared.scripts.Assign.{Assign}
use Rattle.kms_model.specs.declared.scripts.Command.{Command}
use Rattle.kms_model.specs.declared.scripts.Command.TheVariants as command
use Rattle.kms_model.specs.declared.scripts.Request.{Request}
use Rattle.kms_model.specs.declared.worlds.Content.{Content}
use Rattle.kms_model.specs.declared.worlds.Content.TheVariants as content
use Rattle.kms_model.specs.declared.worlds.Thing.{Thing}
use Rattle.kms_model.specs.declared.worlds.World.{World}
use Rattle.kms_model.specs.Device.Closing.{closed_if, closed_in}
use Rattle.kms_model.specs.Device.Execution.{BufferInfo, add_fb, answer, buffer_info, buffer_of, close, close_refusal, close_unless, commit}
use Rattle.kms_model.specs.Device.Execution.{committed, destroy_refusal, execute, make, make_out_fence, make_out_fences, make_unless}
use Rattle.kms_model.specs.Device.Execution.{new_buffer_refusal, signal_refusal, signal_unless}
use Rattle.kms_model.specs.Device.Objects.{ids_of}
use Rattle.kms_model.specs.Device.Sound.{AreNumbered}
use Rattle.kms_model.specs.Device.World.{thing_labelled, thing_with_id}
use Rattle.kms_model.specs.declared.objects.Kind.TheVariants as kind
use Rattle.kms_model.specs.Frames.Shown.{AreFramed, FramesIn}
use Rattle.kms_model.specs.Request.Apply.{after}
use Rattle.kms_model.specs.Request.Flags.{is_test}
use Rattle.kms_model.specs.Request.Touched.{out_fence_label}
use Rattle.kms_model.specs.Request.Verdict.{verdict}
use Rattle.kms_model.specs.Script.Words.{◌>>=◌}
use Rattle.kms_model.proofs.Facts.{all_map}

-- What holds of each item

all_of : {A : Type 0} (P Q : A → Type 0) → ((x : A) → P x → Q x) → (xs : List A) → AllByRecursion P xs → AllByRecursion Q xs
all_of P Q f [] all = tt
all_of P Q f (x ∷ xs) all = (f x all.0, all_of P Q f xs all.1)

all_more : {A : Type 0} (P : A → Type 0) (xs : List A) (x : A) → AllByRecursion P xs → P x → AllByRecursion P (xs ++ x ∷ [])
all_more P [] x all last = (last, tt)
all_more P (y ∷ xs) x all last = (all.0, all_more P xs x all.1 last)

-- A thing more

-- a thing that is found is found among more
with_id_more : (id : ℕ) (ts us : List Thing) (b : Thing) → thing_with_id ts id ≡ Some b → thing_with_id (ts ++ us) id ≡ Some b
with_id_more id [] us b e = absurd cc
with_id_more id (t ∷ ts) us b e =
    elim (eqb_tells t.id id) [
      | inl here ↦ (let s : Some t ≡ Some b = rw here.0 at e in rw here.0 s)
      | inr away ↦ (let s : thing_with_id ts id ≡ Some b = rw away.0 at e in rw away.0 (with_id_more id ts us b s))
    ]

frames_more : (ts us : List Thing) (id : ℕ) (c : Content) → FramesIn ts id c → FramesIn (ts ++ us) id c
frames_more ts us id (content.Framebuffer info of) f = record {
  own_id = f.own_id;
  own_buffer = (f.own_buffer.0, (with_id_more of ts us f.own_buffer.0 f.own_buffer.1.0, f.own_buffer.1.1));
}
frames_more ts us id (content.Buffer width height format pattern) f = tt
frames_more ts us id (content.Mode m) f = tt
frames_more ts us id (content.Blob bytes) f = tt
frames_more ts us id content.Fence f = tt
frames_more ts us id content.OutFence f = tt

pub framed_more : (ts : List Thing) (t : Thing) → AreFramed ts → FramesIn ts t.id t.content → AreFramed (ts ++ t ∷ [])
framed_more ts t all last =
    all_more (λ u. FramesIn (ts ++ t ∷ []) u.id u.content) ts t
    (all_of (λ u. FramesIn ts u.id u.content) (λ u. FramesIn (ts ++ t ∷ []) u.id u.content)
    (λ u f. frames_more ts (t ∷ []) u.id u.content f) ts all)
    (frames_more ts (t ∷ []) t.id t.content last)

-- A thing that is closed

-- what closing leaves of a thing
pub record IsSameBut (t u : Thing) : Type 0 where
  pub label : u.label ≡ t.label
  pub id : u.id ≡ t.id
  pub owner : u.owner ≡ t.owner
  pub content : u.content ≡ t.content

pub closed_same : (id : ℕ) (t : Thing) → IsSameBut t (closed_if id t)
closed_same id t = elim (eqb_tells t.id id) [
  | inl here ↦ rw here.0 (record { label = refl; id = refl; owner = refl; content = refl })
  | inr away ↦ rw away.0 (record { label = refl; id = refl; owner = refl; content = refl })
]

with_id_closed : (id at : ℕ) (ts : List Thing) (b : Thing) → thing_with_id ts at ≡ Some b → thing_with_id (closed_in ts id) at
    ≡ Some (closed_if id b)
with_id_closed id at [] b e = absurd cc
with_id_closed id at (t ∷ ts) b e =
    let same = closed_same id t in
    elim (eqb_tells t.id at) [
      | inl here ↦ (
          let e' : eqb (closed_if id t).id at ≡ true = rw same.id here.0 in
          let s : Some t ≡ Some b = rw here.0 at e in
          let v : t ≡ b = cc s in
          rw e' (ap (λ x. Some (closed_if id x)) v))
      | inr away ↦ (
          let e' : eqb (closed_if id t).id at ≡ false = rw same.id away.0 in
          let s : thing_with_id ts at ≡ Some b = rw away.0 at e in
          rw e' (with_id_closed id at ts b s))
    ]

frames_closed : (close id : ℕ) (ts : List Thing) (c : Content) → FramesIn ts id c → FramesIn (closed_in ts close) id c
frames_closed close id ts (content.Framebuffer info of) f =
    let same = closed_same close f.own_buffer.0 in
    record {
      own_id = f.own_id;
      own_buffer = (
        closed_if close f.own_buffer.0,
        (with_id_closed close of ts f.own_buffer.0 f.own_buffer.1.0, rw (same.id, same.content) f.own_buffer.1.1),
      );
    }
frames_closed close id ts (content.Buffer width height format pattern) f = tt
frames_closed close id ts (content.Mode m) f = tt
frames_closed close id ts (content.Blob bytes) f = tt
frames_closed close id ts content.Fence f = tt
frames_closed close id ts content.OutFence f = tt

abbrev FramesThing : List Thing → Thing → Type 0
FramesThing ts u = FramesIn ts u.id u.content

framed_if : (id : ℕ) (ts : List Thing) (t : Thing) → FramesThing ts t → FramesThing ts (closed_if id t)
framed_if id ts t f = let same = closed_same id t in rw (same.id, same.content) f

pub framed_closed : (id : ℕ) (ts : List Thing) → AreFramed ts → AreFramed (closed_in ts id)
framed_closed id ts framed =
    all_map (FramesThing (closed_in ts id)) (closed_if id) ts
    (all_of (FramesThing ts) (λ u. FramesThing (closed_in ts id) (closed_if id u))
    (λ u f. framed_if id (closed_in ts id) u (frames_closed id u.id ts u.content f)) ts framed)

-- A buffer by its label

same : (a : ℕ) → eqb a a ≡ true
same a = grind (arith, nat_tests)

first_apart : (n a b : ℕ) → a ≡ n → n + 1 ≤ b → eqb a b ≡ false
first_apart n a b e lt = grind (arith, nat_tests)

-- a thing that is found by its label has no lower id
labelled_above : (n label : ℕ) (ts : List Thing) (t : Thing) → AreNumbered n ts → thing_labelled ts label ≡ Some t → n ≤ t.id
labelled_above n label [] t h e = absurd cc
labelled_above n label (u ∷ ts) t h e =
    elim (eqb_tells u.label label) [
      | inl here ↦ (let s : Some u ≡ Some t = rw here.0 at e in let v : u ≡ t = cc s in let P : Thing → Type 0 = λ x. n ≤ x.id
          in subst P v (rw h.0 (omega arith)))
      | inr away ↦ (let s : thing_labelled ts label ≡ Some t = rw away.0 at e in let above : n + 1
          ≤ t.id = labelled_above (n + 1) label ts t h.1 s in omega arith)
    ]

-- a thing that is found by its label is found by its id
pub labelled_with_id : (n label : ℕ) (ts : List Thing) (t : Thing) → AreNumbered n ts → thing_labelled ts label ≡ Some t
    → thing_with_id ts t.id ≡ Some t
labelled_with_id n label [] t h e = absurd cc
labelled_with_id n label (u ∷ ts) t h e =
    elim (eqb_tells u.label label) [
      | inl here ↦ (let s : Some u ≡ Some t = rw here.0 at e in let v : u ≡ t = cc s in let P : Thing
          → Type 0 = λ x. thing_with_id (u ∷ ts) x.id ≡ Some x in subst P v (rw (same u.id) refl))
      | inr away ↦ (
          let s : thing_labelled ts label ≡ Some t = rw away.0 at e in
          let above : n + 1 ≤ t.id = labelled_above (n + 1) label ts t h.1 s in
          let apart : eqb u.id t.id ≡ false = first_apart n u.id t.id h.0 above in
          rw apart (labelled_with_id (n + 1) label ts t h.1 s))
    ]

-- the id that the information of a buffer has is the buffer's
info_id : (id : ℕ) (c : Content) (b : BufferInfo) → buffer_info id c ≡ Some b → b.id ≡ id
info_id id (content.Buffer width height format pattern) b e = let P : Option BufferInfo → ℕ = λ o. of_option o in sym (ap P e) where
  of_option : Option BufferInfo → ℕ
  of_option None = 0
  of_option (Some x) = x.id
info_id id (content.Framebuffer info of) b e = absurd cc
info_id id (content.Mode m) b e = absurd cc
info_id id (content.Blob bytes) b e = absurd cc
info_id id content.Fence b e = absurd cc
info_id id content.OutFence b e = absurd cc

-- the thing that a buffer is
abbrev Stands : List Thing → BufferInfo → Type 0
Stands things b = (t : Thing) × ((thing_with_id things b.id ≡ Some t) × (buffer_info t.id t.content ≡ Some b))

stands_if : (things : List Thing) (client : ℕ) (b : BufferInfo) (t : Thing) → thing_with_id things t.id ≡ Some t → (mine : Bool)
    → cond mine (buffer_info t.id t.content) None ≡ Some b → Stands things b
stands_if things client b t found true is = (t, (rw (info_id t.id t.content b is) found, is))
stands_if things client b t found false is = absurd cc

stands_of : (things : List Thing) (client label : ℕ) (b : BufferInfo) (o : Option Thing) → AreNumbered 1000 things
    → thing_labelled things label ≡ o
    → (o >>= λ t. if t.owner == client then buffer_info t.id t.content else None) ≡ Some b → Stands things b
stands_of things client label b None numbered at is = absurd cc
stands_of things client label b (Some t) numbered at is = stands_if things client b t (labelled_with_id 1000 label things t numbered at)
    (t.owner == client) is

-- Commands

framed_made : (w : World) (owner label : ℕ) (c : Content) → AreFramed w.things → FramesIn w.things w.next_id c
    → AreFramed (make w owner label c).world.things
framed_made w owner label c framed last = framed_more w.things
    (record { label = label; id = w.next_id; owner = owner; content = c; is_open = true }) framed last

framed_made_unless : (w : World) (owner label : ℕ) (c : Content) (o : Option ℕ) → AreFramed w.things → FramesIn w.things w.next_id c
    → AreFramed (make_unless w owner label c o).world.things
framed_made_unless w owner label c None framed last = framed_made w owner label c framed last
framed_made_unless w owner label c (Some n) framed last = framed

framed_added : (w : World) (client label buffer : ℕ) (o : Option BufferInfo) → AreNumbered 1000 w.things → buffer_of w.things client buffer
    ≡ o → AreFramed w.things → AreFramed (add_fb w client label o).world.things
framed_added w client label buffer None numbered is framed = framed
framed_added w client label buffer (Some b) numbered is framed =
    framed_made w client label _ framed (record {
      own_id = refl;
      own_buffer = stands_of w.things client buffer b
          (thing_labelled w.things buffer) numbered refl is;
    })

framed_close : (w : World) (o : Option Thing) → AreFramed w.things → AreFramed (close w o).things
framed_close w None framed = framed
framed_close w (Some t) framed = framed_closed t.id w.things framed

framed_close_unless : (w : World) (t : Option Thing) (o : Option ℕ) → AreFramed w.things → AreFramed (close_unless w t o).world.things
framed_close_unless w t None framed = framed_close w t framed
framed_close_unless w t (Some n) framed = framed

framed_signalled : (w : World) (o : Option ℕ) → AreFramed w.things → AreFramed (signal_unless w o).world.things
framed_signalled w None framed = framed
framed_signalled w (Some n) framed = framed

framed_out_fence : (client : ℕ) (w : World) (label : Option ℕ) → AreFramed w.things → AreFramed (make_out_fence client w label).things
framed_out_fence client w None framed = framed
framed_out_fence client w (Some label) framed = framed_made w client label content.OutFence framed tt

framed_out_fences : (client : ℕ) (assigns : List Assign) (w : World) (crtcs : List ℕ) → AreFramed w.things
    → AreFramed (make_out_fences client assigns w crtcs).things
framed_out_fences client assigns w [] framed = framed
framed_out_fences client assigns w (crtc ∷ crtcs) framed =
    framed_out_fences client assigns (make_out_fence client w (out_fence_label assigns crtc)) crtcs
    (framed_out_fence client w (out_fence_label assigns crtc) framed)

framed_committed : (t : Topology) (w : World) (client : ℕ) (r : Request) → AreFramed w.things
    → AreFramed (committed t w client r).world.things
framed_committed t w client r framed = framed_out_fences client r.assigns (record w { values = after w r; commits = w.commits + 1 })
    (ids_of t kind.Crtc) framed

tested_or : (t : Topology) (w : World) (client : ℕ) (r : Request) (test : Bool) → AreFramed w.things
    → AreFramed (if test then answer w reply.Tested else committed t w client r).world.things
tested_or t w client r true framed = framed
tested_or t w client r false framed = framed_committed t w client r framed

framed_commit : (t : Topology) (w : World) (client : ℕ) (r : Request) (o : Option ℕ) → AreFramed w.things
    → AreFramed (commit t w client r o).world.things
framed_commit t w client r None framed = tested_or t w client r (is_test r.flags) framed
framed_commit t w client r (Some n) framed = framed

-- a command leaves each framebuffer its buffer
pub execution_keeps_framed : (t : Topology) (w : World) (client : ℕ) (c : Command) → AreNumbered 1000 w.things → AreFramed w.things
    → AreFramed (execute t w client c).world.things
unfolding execute
execution_keeps_framed t w client (command.Buffer label width height format pattern) numbered framed = framed_made_unless w client label
    (content.Buffer width height format pattern) (new_buffer_refusal w.things width height format) framed tt
execution_keeps_framed t w client (command.AddFb label buffer) numbered framed = framed_added w client label buffer
    (buffer_of w.things client buffer) numbered refl framed
execution_keeps_framed t w client (command.Mode label m) numbered framed = framed_made w client label (content.Mode m) framed tt
execution_keeps_framed t w client (command.Blob label bytes) numbered framed = framed_made w client label (content.Blob bytes) framed tt
execution_keeps_framed t w client (command.Destroy label) numbered framed = framed_close_unless w (thing_labelled w.things label)
    (destroy_refusal client (thing_labelled w.things label)) framed
execution_keeps_framed t w client (command.CloseFb label) numbered framed = framed_close_unless w (thing_labelled w.things label)
    (close_refusal client (thing_labelled w.things label)) framed
execution_keeps_framed t w client (command.Fence label) numbered framed = framed_made w client label content.Fence framed tt
execution_keeps_framed t w client (command.Signal label) numbered framed = framed_signalled w
    (signal_refusal (thing_labelled w.things label)) framed
execution_keeps_framed t w client (command.Atomic r) numbered framed = framed_commit t w client r (verdict t w r) framed
execution_keeps_framed t w client command.Wait numbered framed = framed
