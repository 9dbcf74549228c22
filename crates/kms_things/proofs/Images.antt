-- The images of framebuffers.
use Rattle.std.proofs.Common.{◌≡◌, ℕ, ◌+◌, ◌<◌, true, false, List, [], ◌∷◌, Option, Some, None, eqb, refl, sym, ap, ◌∙◌, subst, inl, inr}
use Rattle.std.proofs.Common.{arith}
use Rattle.std.specs.Prelude.{IfNone, IfSome}
use Rattle.std.specs.List.{AllByRecursion, cons_option}
use Rattle.std.specs.Option.{option_map}
use Rattle.std.proofs.lemmas.Bool.Decides.{nat_tests, eqb_tells}
use Rattle.kms_model.specs.declared.pictures.FbInfo.{FbInfo}
use Rattle.kms_model.specs.declared.things.Buffer.{Buffer}
use Rattle.kms_model.specs.declared.tables.Slot.{Slot}
use Rattle.kms_model.specs.declared.worlds.Content.{Content}
use Rattle.kms_model.specs.declared.worlds.Content.TheVariants as content
use Rattle.kms_model.specs.declared.worlds.Thing.{Thing}
use Rattle.kms_model.specs.Frames.Images.{image_of, seen_in}
use Rattle.kms_model.specs.Device.Execution.{BufferInfo, buffer_info}
use Rattle.kms_model.specs.Device.Sound.{AreNumbered}
use Rattle.kms_model.specs.Things.Kept.{Seen, seen, seen_with_id}
use Rattle.kms_model.specs.Things.Tables.{value_with_id}
use Rattle.kms_model.specs.Script.Words.{◌>>=◌}
use Rattle.kms_model.specs.Device.World.{thing_with_id}
use Rattle.kms_buffers.specs.Things as store
use Rattle.kms_buffers.specs.Things.{buffers_of}
use Rattle.kms_things.specs.Index.{AreKept, Ids}
use Rattle.kms_model.specs.Frames.Shown.{FramesIn}

-- what others read of a thing
abbrev seen_of : Thing → Option Seen
seen_of b = seen_in b.content

pub apart_below : (n a b : ℕ) → a ≡ n → b < n → eqb a b ≡ false
apart_below n a b e lt = grind (arith, nat_tests)

-- a slot that has another id is passed over
option_apart : (id at owner : ℕ) (c : Content) (rest : List (Slot Buffer)) → eqb at id ≡ false
    → value_with_id (cons_option (store.buffer_in at owner c) rest) id ≡ value_with_id rest id
option_apart id at owner (content.Buffer width height format pattern) rest e = rw e refl
option_apart id at owner (content.Framebuffer info of) rest e = refl
option_apart id at owner (content.Mode m) rest e = refl
option_apart id at owner (content.Blob bytes) rest e = refl
option_apart id at owner content.Fence rest e = refl
option_apart id at owner content.OutFence rest e = refl

-- no buffer has a lower id
none_below : (n id : ℕ) (ts : List Thing) → AreNumbered n ts → id < n → value_with_id (buffers_of ts) id ≡ None
none_below n id [] numbered lt = refl
none_below n id (t ∷ ts) numbered lt = option_apart id t.id t.owner t.content (buffers_of ts) (apart_below n t.id id numbered.0 lt) ∙
    none_below (n + 1) id ts numbered.1 (omega arith)

option_here : (id at owner : ℕ) (c : Content) (rest : List (Slot Buffer)) → eqb at id ≡ true → value_with_id rest id ≡ None
    → option_map seen (value_with_id (cons_option (store.buffer_in at owner c) rest) id) ≡ seen_in c
option_here id at owner (content.Buffer width height format pattern) rest e none = rw e refl
option_here id at owner (content.Framebuffer info of) rest e none = rw none refl
option_here id at owner (content.Mode m) rest e none = rw none refl
option_here id at owner (content.Blob bytes) rest e none = rw none refl
option_here id at owner content.Fence rest e none = rw none refl
option_here id at owner content.OutFence rest e none = rw none refl

-- what others read of a thing with an id is what they read of the buffer with it
seen_of_things : (n id : ℕ) (ts : List Thing) → AreNumbered n ts → seen_with_id (buffers_of ts) id ≡ (thing_with_id ts id >>= seen_of)
seen_of_things n id [] numbered = refl
seen_of_things n id (t ∷ ts) numbered =
    elim (eqb_tells t.id id) [
      | inl here ↦ (
          let none = none_below (n + 1) id ts numbered.1 (let e = here.1 in omega (arith, numbered.0, e)) in
          rw here.0 (option_here id t.id t.owner t.content (buffers_of ts) here.0 none))
      | inr away ↦ rw away.0 (ap (option_map seen) (option_apart id t.id t.owner t.content (buffers_of ts) away.0) ∙ seen_of_things (n + 1)
          id ts numbered.1)
    ]

-- the image of a framebuffer is what others read of its buffer
pub image_is : (ts : List Thing) (next : ℕ) (ids : Ids) (buffers : List (Slot Buffer)) (fb : ℕ) (t : Thing) (info : FbInfo) (of : ℕ)
    → AreKept ts next ids buffers → thing_with_id ts fb ≡ Some t → t.content ≡ content.Framebuffer info of
    → image_of ts fb ≡ seen_with_id buffers of
image_is ts next ids buffers fb t info of kept at is =
    rw (at, is) (sym (ap (λ bs. seen_with_id bs of) kept.words ∙ seen_of_things 1000 of ts kept.numbered))

-- what is kept of each thing is kept of the one with an id
found_framed : (ts us : List Thing) (fb : ℕ) (t : Thing) → AllByRecursion (λ u. FramesIn us u.id u.content) ts
    → thing_with_id ts fb ≡ Some t → FramesIn us t.id t.content
found_framed [] us fb t all at = absurd cc
found_framed (u ∷ ts) us fb t all at =
    elim (eqb_tells u.id fb) [
      | inl here ↦ (let s : Some u ≡ Some t = rw here.0 at at in let v : u ≡ t = cc s in subst (λ x. FramesIn us x.id x.content) v all.0)
      | inr away ↦ (let s : thing_with_id ts fb ≡ Some t = rw away.0 at at in found_framed ts us fb t all.1 s)
    ]

seen_some : (id : ℕ) (c : Content) (b : BufferInfo) → buffer_info id c ≡ Some b → seen_in c ≡ None → ⊥
seen_some id (content.Buffer width height format pattern) b e none = absurd cc
seen_some id (content.Framebuffer info of) b e none = absurd cc
seen_some id (content.Mode m) b e none = absurd cc
seen_some id (content.Blob bytes) b e none = absurd cc
seen_some id content.Fence b e none = absurd cc
seen_some id content.OutFence b e none = absurd cc

-- each framebuffer has an image
pub has_image : (ts : List Thing) (next : ℕ) (ids : Ids) (buffers : List (Slot Buffer)) (fb : ℕ) (t : Thing) (info : FbInfo) (of : ℕ)
    → AreKept ts next ids buffers → thing_with_id ts fb ≡ Some t → t.content ≡ content.Framebuffer info of → seen_with_id buffers of ≡ None
    → ⊥
has_image ts next ids buffers fb t info of kept at is none =
    let framed : FramesIn ts t.id t.content = found_framed ts ts fb t kept.framed at in
    let f = subst (λ c. FramesIn ts t.id c) is framed in
    let b = f.own_buffer in
    let seen : (thing_with_id ts of >>= seen_of) ≡ None = sym
    (ap (λ bs. seen_with_id bs of) kept.words ∙ seen_of_things 1000 of ts kept.numbered) ∙ none in
    seen_some b.0.id b.0.content _ b.1.1 (rw b.1.0 at seen)

pub if_none : {X : Type 0} (o : Option X) (P Q : Type 0) → (P → Q) → IfNone o P → IfNone o Q
if_none None P Q f p = f p
if_none (Some x) P Q f p = tt

pub if_some : {X : Type 0} (o : Option X) (P Q : X → Type 0) → ((x : X) → P x → Q x) → IfSome o P → IfSome o Q
if_some None P Q f p = tt
if_some (Some x) P Q f p = f x p
