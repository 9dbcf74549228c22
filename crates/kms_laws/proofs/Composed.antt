-- What a history latches can be composed: it is what the device of one thread shows at some place of the journal, whose things
-- stay.
use Rattle.std.proofs.Common.{◌≡◌, ℕ, zero, suc, ◌<◌, Bool, true, false, cond, ◌==◌, List, [], ◌∷◌, ◌++◌, length, map, get_or, Option, Some}
use Rattle.std.proofs.Common.{None, refl, sym, subst, arith}
use Rattle.std.specs.Prelude.{filter, reverse}
use Rattle.std.specs.List.{All, AllByRecursion}
use Rattle.std.proofs.lemmas.Bool.{cond-true, eq-eqb}
use Rattle.std.proofs.lemmas.List.Elements.{All-head, All-push, All-tail}
use Rattle.kms_model.specs.declared.objects.Kind.TheVariants.{Crtc}
use Rattle.kms_model.specs.declared.objects.Topology.{Topology}
use Rattle.kms_model.specs.declared.pictures.Picture.{Picture}
use Rattle.kms_model.specs.declared.pictures.Picture.TheVariants.{Off, On}
use Rattle.kms_model.specs.declared.replies.Reply.{Reply}
use Rattle.kms_model.specs.declared.replies.Reply.TheVariants as reply
use Rattle.kms_model.specs.declared.replies.Step.{Step}
use Rattle.kms_model.specs.declared.runs.Latch.{Latch}
use Rattle.kms_model.specs.declared.scripts.Command.{Command}
use Rattle.kms_model.specs.declared.scripts.Command.TheVariants as command
use Rattle.kms_model.specs.declared.scripts.Request.{Request}
use Rattle.kms_model.specs.declared.scripts.Script.{Script}
use Rattle.kms_model.specs.declared.worlds.Setting.{Setting}
use Rattle.kms_model.specs.declared.worlds.Thing.{Thing}
use Rattle.kms_model.specs.declared.worlds.World.{World}
use Rattle.kms_model.specs.Device.Execution.{Executed, execute}
use Rattle.kms_model.specs.Device.Objects.{object_id}
use Rattle.kms_model.specs.Device.Serial.{Entry, Pictured, command_of, execute_in, pictured, serial, serial_from, show, show_from}
use Rattle.kms_model.specs.Device.Serial.{shown_after, shown_by, shown_in}
use Rattle.kms_model.specs.Device.Sound.{IsLawful}
use Rattle.kms_model.specs.Device.World.{start}
use Rattle.kms_model.specs.Frames.FrameBytes.{frame_bytes}
use Rattle.kms_model.specs.Frames.Pictures.{picture}
use Rattle.kms_model.specs.Frames.Shown.{AreFramed, EachCanBeShown}
use Rattle.kms_model.specs.Headline.{CommitPicture, Headline, history_journal, latched_pictures}
use Rattle.kms_model.specs.Machine.Histories.{at}
use Rattle.kms_model.specs.Request.Named.{names}
use Rattle.kms_model.proofs.FramedLemmas.{execution_keeps_framed}
use Rattle.kms_model.proofs.ShownLemmas.{each_can_be_shown}
use Rattle.kms_model.proofs.SoundKept.{execution_keeps_lawful}
use Rattle.kms_laws.specs.Laws.{HasSerialWorld}
use Rattle.kms_laws.proofs.FramesStay.{frame-stays}
use Rattle.kms_laws.proofs.Present.{reverse_more}
use Rattle.kms_laws.proofs.Staying.{Stay, image-stays, stay-serial}

-- a picture that can be composed over some things can be over those that they become
pub can-stays : (old new : List Thing) → Stay old new → (p : Picture) → EachCanBeShown old p → EachCanBeShown new p
can-stays old new stay Off can = tt
can-stays old new stay (On shown) can = λ k d within.
    let one = can k d within in
    record {
      placed = one.placed;
      words = record {
        seen = one.words.seen;
        found = image-stays old new stay (get_or shown.layers k d).fb.id one.words.seen one.words.found;
        width = one.words.width;
        height = one.words.height;
        words = one.words.words;
      };
    }

-- The journal of the device of one thread

-- what is shown of a CRTC in a world, by some commit
abbrev IsPictured : Topology → World → ℕ → Pictured → Type 0
IsPictured t w crtc p = (k : ℕ) × (p ≡ pictured t w crtc k)

-- what a command makes a CRTC show is its picture in the world after it, and the frame of that
shown_if : (t : Topology) (w : World) (crtc k : ℕ) (b : Bool) (p : Pictured) → cond b (Some (pictured t w crtc k)) None ≡ Some p
    → IsPictured t w crtc p
shown_if t w crtc k true p e = let is : pictured t w crtc k ≡ p = cc in (k, sym is)
shown_if t w crtc k false p e = absurd cc

shown-after : (t : Topology) (crtc : ℕ) (old : List Setting) (r : Request) (w : World) (answer : Reply) (p : Pictured)
    → shown_after t crtc old r w answer ≡ Some p → IsPictured t w crtc p
shown-after t crtc old r w (reply.Commit k) p e = shown_if t w crtc k (names old w.values r.assigns crtc) p e
shown-after t crtc old r w (reply.Made id) p e = absurd cc
shown-after t crtc old r w reply.Done p e = absurd cc
shown-after t crtc old r w reply.Tested p e = absurd cc
shown-after t crtc old r w (reply.Refused n) p e = absurd cc
shown-after t crtc old r w (reply.Space used) p e = absurd cc
shown-after t crtc old r w (reply.Busy object k) p e = absurd cc
shown-after t crtc old r w (reply.Denied n) p e = absurd cc
shown-after t crtc old r w (reply.Event event) p e = absurd cc
shown-after t crtc old r w reply.NoEvent p e = absurd cc

shown-by : (t : Topology) (crtc : ℕ) (old : List Setting) (c : Command) (x : Executed) (p : Pictured) → shown_by t crtc old c x ≡ Some p
    → IsPictured t x.world crtc p
shown-by t crtc old (command.Atomic r) x p e = shown-after t crtc old r x.world x.reply p e
shown-by t crtc old (command.Buffer label width height format pattern) x p e = absurd cc
shown-by t crtc old (command.AddFb label buffer) x p e = absurd cc
shown-by t crtc old (command.Mode label m) x p e = absurd cc
shown-by t crtc old (command.Blob label bytes) x p e = absurd cc
shown-by t crtc old (command.Destroy label) x p e = absurd cc
shown-by t crtc old (command.CloseFb label) x p e = absurd cc
shown-by t crtc old (command.Fence label) x p e = absurd cc
shown-by t crtc old (command.Signal label) x p e = absurd cc
shown-by t crtc old command.Wait x p e = absurd cc

-- what was shown can be composed over these things still, and gives the same frame
pub record StaysShown (things : List Thing) (p : Pictured) : Type 0 where
  pub can : EachCanBeShown things p.picture
  pub frame : p.frame ≡ frame_bytes things p.picture

abbrev pub CanEach : List Thing → List Pictured → Type 0
CanEach things ps = AllByRecursion (StaysShown things) ps

can-append : (things : List Thing) (ps qs : List Pictured) → CanEach things ps → CanEach things qs → CanEach things (ps ++ qs)
can-append things [] qs first second = second
can-append things (p ∷ ps) qs first second = (first.0, can-append things ps qs first.1 second)

-- worlds whose pictures can be composed
pub record IsShowing (t : Topology) (w : World) : Type 0 where
  pub lawful : IsLawful t w
  pub framed : AreFramed w.things

showing-next : (t : Topology) (w : World) (client : ℕ) (o : Option Command) → IsShowing t w → IsShowing t (execute_in t w client o)
showing-next t w client None S = S
showing-next t w client (Some c) S = record {
  lawful = execution_keeps_lawful t w client c S.lawful;
  framed = execution_keeps_framed t w client c S.lawful.numbered.things S.framed;
}

module _ (s : Script) (crtc : ℕ) where
  -- what an entry shows can be composed over things that its world's become
  entry-can : (w : World) (client : ℕ) (o : Option Command) (things : List Thing) → IsShowing s.topology w
      → Stay (execute_in s.topology w client o).things things → CanEach things (shown_in s.topology crtc w client o)
  entry-can w client None things S stay = tt
  entry-can w client (Some c) things S stay = by_shown (shown_by s.topology crtc w.values c (execute s.topology w client c)) refl where
    by_shown : (o : Option Pictured) → shown_by s.topology crtc w.values c (execute s.topology w client c) ≡ o
        → CanEach things (shown_in s.topology crtc w client (Some c))
    by_shown None e = let none : shown_in s.topology crtc w client (Some c) ≡ [] = rw e refl in subst (CanEach things) (sym none) tt
    by_shown (Some p) e =
        let one : shown_in s.topology crtc w client (Some c) ≡ p ∷ [] = rw e refl in
        let v = (execute s.topology w client c).world in
        let N = showing-next s.topology w client (Some c) S in
        let shows = picture s.topology v.things v.values crtc in
        let can : EachCanBeShown v.things shows = each_can_be_shown s.topology v crtc N.lawful.sound N.framed in
        let is = shown-by s.topology crtc w.values c (execute s.topology w client c) p e in
        let stays : StaysShown things (pictured s.topology v crtc is.0) = record {
          can = can-stays v.things things stay shows can;
          frame = sym (frame-stays v.things things stay shows can);
        } in
        subst (CanEach things) (sym one) (subst (StaysShown things) (sym is.1) stays, tt)

  pub show-can : (w : World) (es : List Entry) → IsShowing s.topology w → CanEach (serial_from s w es).things (show_from s crtc w es)
  unfolding show_from serial_from
  show-can w [] S = tt
  show-can w (e ∷ es) S =
      let v = execute_in s.topology w e.client (command_of s e) in
      let N = showing-next s.topology w e.client (command_of s e) S in
      can-append (serial_from s v es).things (shown_in s.topology crtc w e.client (command_of s e)) (show_from s crtc v es)
      (entry-can w e.client (command_of s e) (serial_from s v es).things S (stay-serial s v es))
      (show-can v es N)

-- Latches

abbrev CanPairs : List Thing → List CommitPicture → Type 0
CanPairs things ps = AllByRecursion (λ p. EachCanBeShown things p.picture) ps

pairs-can : (things : List Thing) (ps : List Pictured) → CanEach things ps
    → CanPairs things (map (λ p. record { commit = p.commit; picture = p.picture }) ps)
pairs-can things [] can = tt
pairs-can things (p ∷ ps) can = (can.0.can, pairs-can things ps can.1)

pairs-front : (things : List Thing) (xs ys : List CommitPicture) → CanPairs things (xs ++ ys) → CanPairs things xs
pairs-front things [] ys can = tt
pairs-front things (x ∷ xs) ys can = (can.0, pairs-front things xs ys can.1)

abbrev pair_of_latch : Latch → CommitPicture
pair_of_latch l = record { commit = l.commit; picture = l.picture }

-- a latch that is among those of its CRTC
latch-can : (things : List Thing) (crtc : ℕ) (ls : List Latch) (k : ℕ) (d : Latch) → k < length ls → (get_or ls k d).crtc ≡ crtc
    → CanPairs things (map pair_of_latch (filter (λ l. l.crtc == crtc) ls)) → EachCanBeShown things (get_or ls k d).picture
latch-can things crtc [] k d within own can = absurd (omega arith)
latch-can things crtc (l ∷ ls) zero d within own can =
    let one : filter (λ x. x.crtc == crtc) (l ∷ ls) ≡ l
    ∷ filter (λ x. x.crtc == crtc) ls = cond-true (l.crtc == crtc) (l ∷ filter (λ x. x.crtc == crtc) ls)
    (filter (λ x. x.crtc == crtc) ls) (eq-eqb l.crtc crtc own) in
    (subst (λ (xs : List Latch). CanPairs things (map pair_of_latch xs)) one can).0
latch-can things crtc (l ∷ ls) (suc k) d within own can = latch-can things crtc ls k d (omega arith) own (rest (l.crtc == crtc) can) where
  rest : (b : Bool) → CanPairs things (map pair_of_latch (cond b (l ∷ filter (λ x. x.crtc == crtc) ls) (filter (λ x. x.crtc == crtc) ls)))
      → CanPairs things (map pair_of_latch (filter (λ x. x.crtc == crtc) ls))
  rest true h = h.1
  rest false h = h

-- what holds of each item holds of each of the reversed list
pub all-reversed : {A : Type 0} (P : A → Type 0) (xs : List A) → All P xs → All P (reverse xs)
all-reversed P [] all = all
all-reversed {A} P (x ∷ xs) all = subst (All P) (sym (reverse_more x xs))
    (All-push P (reverse xs) x (all-reversed P xs (All-tail P x xs all)) (All-head P x xs all))

-- the latches of a history, of which each has a CRTC of the device
pub latches-can : (s : Script) (h : List Step) → IsLawful s.topology (start s.topology) → AreFramed (start s.topology).things → Headline s h
    → HasSerialWorld s h
    → All (λ l. l.crtc < s.topology.crtcs) (reverse (at s h).records.latches)
    → All (λ l. EachCanBeShown (at s h).device.world.things l.picture) (reverse (at s h).records.latches)
latches-can s h lawful framed headline world within k d less =
    let ls = reverse (at s h).records.latches in
    let own = (get_or ls k d).crtc in
    let es = history_journal s h in
    let things = (at s h).device.world.things in
    let front = headline.in_order own (within k d less) in
    let can : CanEach (serial s es).things (show s es (object_id Crtc own)) = show-can s (object_id Crtc own) (start s.topology) es
    (record { lawful = lawful; framed = framed }) in
    let now : CanEach things (show s es (object_id Crtc own)) = subst (λ (w : World). CanEach w.things (show s es (object_id Crtc own)))
    world.is_serial can in
    let all : CanPairs things (latched_pictures s h own ++ front.0) = subst (CanPairs things) front.1
    (pairs-can things (show s es (object_id Crtc own)) now) in
    latch-can things own ls k d less refl (pairs-front things (latched_pictures s h own) front.0 all)
