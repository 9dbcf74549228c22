-- Each step leaves a framebuffer that is not needed as it is.
use Rattle.std.proofs.Common.{◌≡◌, ℕ, zero, suc, ◌+◌, ◌<◌, ◌≤◌, List, [], ◌∷◌, length, Bool, true, false, not, ◌&&◌, ◌||◌, ◌==◌, Option}
use Rattle.std.proofs.Common.{Some, None, refl, sym, ap, ◌∙◌, subst, arith, inl, inr, ◌⊎◌, ⊎_elim}
use Rattle.std.specs.Prelude.{if◌then◌else◌, ℤ, pos}
use Rattle.std.specs.List.{All, list_any, range_with_len}
use Rattle.std.proofs.lemmas.Bool.{and_from, and_right, cases_Bool, cases_lt, cond-true, cond-false, eq-eqb, eqb-true, false_from_ne_true}
use Rattle.std.proofs.lemmas.Bool.{ne_eqb, or_from, or_left, or_parts, or_right}
use Rattle.std.proofs.lemmas.Bool.Decides.{Decides-int_eq}
use Rattle.kms_model.specs.declared.objects.Kind.TheVariants.{Crtc, Plane}
use Rattle.kms_model.specs.declared.objects.Topology.{Topology}
use Rattle.kms_model.specs.declared.pictures.FbInfo.{FbInfo}
use Rattle.kms_model.specs.declared.properties.TheConstants.{FB_ID}
use Rattle.kms_model.specs.declared.replies.Step.{Step}
use Rattle.kms_model.specs.declared.runs.Latch.{Latch}
use Rattle.kms_model.specs.declared.scripts.Request.{Request}
use Rattle.kms_model.specs.declared.scripts.Script.{Script}
use Rattle.kms_model.specs.declared.scripts.Value.{Value}
use Rattle.kms_model.specs.declared.scripts.Value.TheVariants as set_to
use Rattle.kms_model.specs.declared.worlds.Content.{Content}
use Rattle.kms_model.specs.declared.worlds.Thing.{Thing}
use Rattle.kms_model.specs.declared.worlds.World.{World}
use Rattle.kms_model.specs.Device.Execution.{committed, execute, is_framebuffer}
use Rattle.kms_model.specs.Device.Objects.{ids_of}
use Rattle.kms_model.specs.Device.Properties.{property}
use Rattle.kms_model.specs.Device.Sound.{AreNumbered}
use Rattle.kms_model.specs.Device.States.{framebuffer_in, framebuffer_of, plane_at}
use Rattle.kms_model.specs.Device.World.{thing_labelled, thing_numbered, thing_with_id, value}
use Rattle.kms_model.specs.Frames.Shown.{AreFramed, FramesIn}
use Rattle.kms_model.specs.Machine.Commits.{commit_touches, is_cleaned, new_plane, old_plane, out_fence_of}
use Rattle.kms_model.specs.Machine.Framebuffers.{commit_keeps, commits_keep, is_fb, is_needed, live_names, picture_names, values_name}
use Rattle.kms_model.specs.Machine.Histories.{are_legal, at, commit_numbers, is_history, legal, run_steps}
use Rattle.kms_model.specs.Machine.Effects.{next}
use Rattle.kms_model.specs.Machine.Registers.{PlaneWords, decoded_picture, fb_number, latched_registers, plane_words}
use Rattle.kms_model.specs.Machine.State.{Commit, DeviceState, Machine, command_at, entry_at}
use Rattle.kms_model.specs.Request.Apply.{after, id_in, number_of, prop_of}
use Rattle.kms_model.specs.Request.Lookups.{look_of, look_of_content, look_up}
use Rattle.kms_model.specs.Request.Refusals.{is_in_range_of, takes}
use Rattle.kms_model.specs.Request.Touched.{last_value}
use Rattle.kms_model.proofs.ApplyLemmas.{number_or, value-apply}
use Rattle.kms_model.proofs.FramedLemmas.{labelled_with_id}
use Rattle.kms_model.proofs.HeldValues.{IsAccepted}
use Rattle.kms_model.proofs.Items.{IsIn, list_any-at, list_any-has, list_any-none}
use Rattle.kms_model.proofs.LastLemmas.{SetBy, set_by}
use Rattle.kms_model.proofs.SoundKept.{accepted-parts}
use Rattle.kms_model.proofs.StandsLemmas.{thing_numbered-zero}
use Rattle.kms_model.proofs.ThingLemmas.{find-in, ids-numbered, thing_numbered-id, thing_numbered-labelled}
use Rattle.kms_model.proofs.TouchedLemmas.{IsRequestAt, accepted-each}
use Rattle.kms_model.proofs.Facts.{by_recursion-at}
use Rattle.kms_model.proofs.CommitFacts.{touches_old}
use Rattle.kms_laws.proofs.Basics.{both_bools, number_more}
use Rattle.kms_laws.proofs.Executed.{Follows, IsShut, execute_follows, plane_like}
use Rattle.kms_laws.proofs.Freed.{Gone, unlive_after}
use Rattle.kms_laws.specs.Laws as Laws
use Rattle.kms_laws.proofs.Headlines.{range-in}
use Rattle.kms_laws.proofs.Invariants.{plane_after}
use Rattle.kms_laws.proofs.Numbered.{plane_new, plane_old}
use Rattle.kms_laws.proofs.Present.{StatesStand, follows, states_like, swap_present}
use Rattle.kms_laws.proofs.Steps.{Holds, IsPlainScript, along, history_kept, step_kept}
use Rattle.kms_laws.proofs.Traversal.{IsKept, commit_of, latch_of, latched_any, step_keeps}
use Rattle.kms_laws.proofs.Whole.{Whole, history_whole, whole_kept, whole_latched}
use Rattle.kms_model.specs.declared.worlds.Setting.{Setting}
use Rattle.kms_model.specs.declared.worlds.Look.TheVariants as look
use Rattle.kms_model.specs.declared.worlds.Content.TheVariants as content
use Rattle.kms_model.specs.declared.states.PlaneState.{PlaneState}
use Rattle.kms_model.specs.declared.scripts.Command.{Command}
use Rattle.kms_model.specs.declared.scripts.Command.TheVariants as command
use Rattle.kms_model.specs.Request.Verdict.{verdict}
use Rattle.kms_model.specs.Request.Flags.{is_test}
use Rattle.kms_model.specs.Machine.Steps.{is_atomic}

-- The framebuffers that values name after a request

fb_word : List Thing → ℤ → ℕ
fb_word things number = fb_number (λ fb. fb.id) (framebuffer_of (thing_numbered things number))

-- a thing with an id is open
record IsOpenAt (things : List Thing) (id : ℕ) : Type 0 where
  thing : Thing
  found : thing_with_id things id ≡ Some thing
  is_open : thing.is_open ≡ true

content_word : (things : List Thing) (id : ℕ) (c : Content) → FramesIn things id c → (fb : ℕ) → 1 ≤ fb
    → fb_number (λ f. f.id) (framebuffer_in c) ≡ fb → fb ≡ id
content_word things id (content.Framebuffer info buffer) frames fb some e = sym e ∙ frames.own_id
content_word things id (content.Buffer width height format pattern) frames fb some e = absurd (omega (arith, e, some))
content_word things id (content.Mode m) frames fb some e = absurd (omega (arith, e, some))
content_word things id (content.Blob bytes) frames fb some e = absurd (omega (arith, e, some))
content_word things id content.Fence frames fb some e = absurd (omega (arith, e, some))
content_word things id content.OutFence frames fb some e = absurd (omega (arith, e, some))

taken-open : (q : ℕ) (u : Thing) → takes q (look_of (Some u)) ≡ true → u.is_open ≡ true
taken-open q u h = by_open u.is_open h
  where
    by_open : (b : Bool) → takes q (if b then look_of_content u.id u.content else look.Closed) ≡ true → b ≡ true
    by_open true h = refl
    by_open false h = absurd cc

label-open : (things : List Thing) (label fb : ℕ) → AreNumbered 1000 things → AreFramed things → 1 ≤ fb
    → takes FB_ID (look_of (thing_labelled things label)) ≡ true → fb_word things (id_in (thing_labelled things label)) ≡ fb
    → IsOpenAt things fb
unfolding fb_word
label-open things label fb numbered framed some h e = go (thing_labelled things label) refl h e
  where
    go : (o : Option Thing) → thing_labelled things label ≡ o → takes FB_ID (look_of o) ≡ true
        → fb_number (λ f. f.id) (framebuffer_of (thing_numbered things (id_in o))) ≡ fb → IsOpenAt things fb
    go None found h e = absurd cc
    go (Some u) found h e =
        let own : thing_numbered things (pos u.id) ≡ Some u = thing_numbered-labelled things label u numbered found in
        let is : IsIn u things = find-in (λ x. x.label == label) things u found in
        let same : fb ≡ u.id = content_word things u.id u.content (by_recursion-at (λ x. FramesIn things x.id x.content) things u framed is)
        fb some (ap (λ o. fb_number (λ f. f.id) (framebuffer_of o)) (sym own) ∙ e) in
        record {
          thing = u;
          found = ap (thing_with_id things) same ∙ labelled_with_id 1000 label things u numbered found;
          is_open =
              taken-open FB_ID u h;
        }

set-open : (t : Topology) (w : World) (v : Value) (fb : ℕ) → AreNumbered 1000 w.things → AreFramed w.things → 1 ≤ fb
    → is_in_range_of t (look_up w) v (property FB_ID) ≡ true → fb_word w.things (number_of w.things v) ≡ fb → IsOpenAt w.things fb
set-open t w (set_to.Num n) fb numbered framed some h e =
    let is_zero : n ≡ pos 0 = (Decides-int_eq n (pos 0)).0 h in
    let none : thing_numbered w.things n ≡ None = ap (thing_numbered w.things) is_zero ∙ thing_numbered-zero 1000 w.things (omega arith)
    numbered in
    absurd (nothing none e)
  where
    nothing : thing_numbered w.things n ≡ None → fb_word w.things n ≡ fb → ⊥
    nothing none e = unfold fb_word in (let z : 0 ≡ fb = ap (λ o. fb_number (λ f. f.id) (framebuffer_of o)) (sym none) ∙ e
        in omega (arith, z, some))
set-open t w (set_to.Named label) fb numbered framed some h e = label-open w.things label fb numbered framed some h e
set-open t w (set_to.New label) fb numbered framed some h e = absurd cc
set-open t w (set_to.Crtc index) fb numbered framed some h e = absurd cc

words_fb : (things : List Thing) (values : List Setting) (p : ℕ) → (plane_words (plane_at things values p)).fb
    ≡ fb_word things (value values p FB_ID)
unfolding plane_words fb_word
words_fb things values p = refl

-- a plane's framebuffer after a request is what it was, or one that is open
applied_fb : (t : Topology) (w : World) (r : Request) (p fb : ℕ) → IsRequestAt t w r → AreNumbered 1000 w.things → AreFramed w.things
    → 1 ≤ fb → (plane_words (plane_at w.things (after w r) p)).fb ≡ fb
    → ((plane_words (plane_at w.things w.values p)).fb ≡ fb) ⊎ IsOpenAt w.things fb
applied_fb t w r p fb at numbered framed some e =
    go (last_value r.assigns p FB_ID) refl (ap (fb_word w.things) (sym (value-apply w.things w.values r.assigns p FB_ID refl)) ∙ sym
    (words_fb w.things (after w r) p) ∙ e)
  where
    go : (o : Option Value) → last_value r.assigns p FB_ID ≡ o → fb_word w.things (number_or w.things o (value w.values p FB_ID)) ≡ fb
        → ((plane_words (plane_at w.things w.values p)).fb ≡ fb) ⊎ IsOpenAt w.things fb
    go None is e = inl (words_fb w.things w.values p ∙ e)
    go (Some v) is e =
        let by : SetBy r.assigns p FB_ID v = set_by r.assigns p FB_ID v is in
        let ok : IsAccepted t w by.item = accepted-each t w r by.item at by.member in
        let in_row : is_in_range_of t (look_up w) by.item.value (property (prop_of by.item.prop)) ≡ true = ok.is_value in
        inr (set-open t w v fb numbered framed some
        (subst (λ z. is_in_range_of t (look_up w) z (property FB_ID) ≡ true) by.value_is
        (subst (λ q. is_in_range_of t (look_up w) by.item.value (property q) ≡ true) by.prop_is in_row)) e)

-- What is kept

pub record Freeing (t : Topology) (fb : ℕ) (d : DeviceState) (ls : List Latch) : Type 0 where
  pub whole : Whole t d ls
  pub states : StatesStand t d.world d.commits
  pub gone : Gone t fb d

open_at-shut : (things : List Thing) (fb : ℕ) → IsShut things fb → IsOpenAt things fb → ⊥
open_at-shut things fb shut o = both_bools _ o.is_open (shut o.thing o.found)

module _ (s : Script) (plain : IsPlainScript s) (fb : ℕ) where
  made-gone : (m : Machine) (client : ℕ) (c : Command) → Holds s m → command_at s m client ≡ Some c → is_atomic c ≡ false
      → Freeing s.topology fb m.device m.records.latches
      → Freeing s.topology fb (record m.device { world = (execute s.topology m.device.world client c).world }) m.records.latches
  made-gone m client c H is other F =
      let t = s.topology in
      let w = m.device.world in
      let f = execute_follows t w client c H.present.lawful H.present.kept (plain.modes (entry_at m client) c is) other in
      let G = F.gone in
      record {
        whole = record { apart = F.whole.apart; near = F.whole.near; steady = F.whole.steady; told = F.whole.told };
        states = states_like t w (execute t w client c).world m.device.commits f.like F.states;
        gone = record {
          some = G.some;
          below = (let a = G.below in let b = f.grows in omega arith);
          shut = f.shuts fb G.below G.shut;
          unnamed = λ p i e. G.unnamed p i (ap (λ z. (plane_words z).fb) (sym (plane_like t w (execute t w client c).world p f.like i)) ∙
              e);
          unlive = G.unlive;
          unkept = G.unkept;
        };
      }

  swapped-gone : (m : Machine) (client : ℕ) (r : Request) → Holds s m → command_at s m client ≡ Some (command.Atomic r)
      → verdict s.topology m.device.world r ≡ None → is_test r.flags ≡ false
      → Freeing s.topology fb m.device m.records.latches
      → Freeing s.topology fb (record m.device {
        world = (committed s.topology m.device.world client r).world;
        commits = commit_of m client
            r ∷ m.device.commits;
      }) m.records.latches
  swapped-gone m client r H is none no_test F = record {
    whole = (whole_kept s plain).swapped m client r H is none no_test F.whole;
    states = (swap_present s x m.records.journal m.device.commits (entry_at m client) H.present is none no_test).states;
    gone = record {
      some = G.some;
      below = (let a = G.below in let b = f.grows in omega arith);
      shut = f.shuts fb G.below G.shut;
      unnamed = λ p i e. later p i (ap (λ z. (plane_words z).fb) (sym (plane_like s.topology w1 v p f.like i)) ∙ e);
      unlive = G.unlive;
      unkept = λ k p l clean i touch on.
          ⊎_elim
          (λ (lt : k < length m.device.commits).
          G.unkept k p lt clean i (sym (touches_old s.topology x m.device.commits k p lt) ∙ touch)
          (⊎_elim
          (λ e. inl (ap (λ (w : PlaneWords). w.fb) (sym (plane_old s.topology x m.device.commits k p (omega arith))) ∙ e))
          (λ e. inr (ap (λ (w : PlaneWords). w.fb) (sym (plane_old s.topology x m.device.commits (suc k) p lt)) ∙ e))
          on))
          (λ ge.
          let same : k ≡ length m.device.commits = omega arith in
          ⊎_elim
          (λ e. G.unnamed p i (ap (λ (w : PlaneWords). w.fb)
          (F.states.plane p i ∙ sym (plane_old s.topology x m.device.commits (length m.device.commits) p (omega arith))) ∙ ap
          (λ z. (plane_after s.topology (x ∷ m.device.commits) z p).fb) (sym same) ∙ e))
          (λ e. later p i (ap (λ (w : PlaneWords). w.fb) (sym (plane_new s.topology x m.device.commits p)) ∙ ap
          (λ z. (plane_after s.topology (x ∷ m.device.commits) (suc z) p).fb) (sym same) ∙ e))
          on)
          (cases_lt k (length m.device.commits));
    };
  }
    where
      G : Gone s.topology fb m.device
      G = F.gone

      x : Commit
      x = commit_of m client r

      w1 : World
      w1 = record m.device.world { values = after m.device.world r; commits = m.device.world.commits + 1 }

      v : World
      v = (committed s.topology m.device.world client r).world

      f : Follows s.topology w1 v
      f = follows s x m.records.journal m.device.commits (entry_at m client) H.present is none no_test

      at : IsRequestAt s.topology m.device.world r
      at = record {
        device = plain.device;
        sound = H.present.lawful.sound;
        early = (accepted-parts s.topology m.device.world r none).first_none;
      }

      later : (p : ℕ) → IsIn p (ids_of s.topology Plane) → (plane_words (plane_at m.device.world.things (after m.device.world r) p)).fb ≡ fb
          → ⊥
      later p i e = ⊎_elim (λ old. G.unnamed p i old) (λ o. open_at-shut m.device.world.things fb G.shut o)
          (applied_fb s.topology m.device.world r p fb at H.present.lawful.numbered.things H.present.framed G.some e)

  signalled-freeing : (d : DeviceState) (ls : List Latch) (fence : ℕ) → Freeing s.topology fb d ls
      → Freeing s.topology fb (record d { signalled = fence ∷ d.signalled }) ls
  signalled-freeing d ls fence F = record {
    whole = (whole_kept s plain).signalled d ls fence F.whole;
    states = F.states;
    gone = record {
      some = F.gone.some;
      below = F.gone.below;
      shut = F.gone.shut;
      unnamed = F.gone.unnamed;
      unlive = F.gone.unlive;
      unkept =
          F.gone.unkept;
    };
  }

  pub freeing_kept : IsKept s (Freeing s.topology fb)
  freeing_kept = record {
    made = made-gone;
    swapped = swapped-gone;
    claimed = λ m k H may F. record {
      whole = (whole_kept s plain).claimed m k H may F.whole;
      states = F.states;
      gone =
          record {
            some = F.gone.some;
            below = F.gone.below;
            shut = F.gone.shut;
            unnamed = F.gone.unnamed;
            unlive = F.gone.unlive;
            unkept =
                F.gone.unkept;
          };
    };
    written = λ d ls k o T W F. record {
      whole = (whole_kept s plain).written d ls k o T W F.whole;
      states = F.states;
      gone =
          record {
            some = F.gone.some;
            below = F.gone.below;
            shut = F.gone.shut;
            unnamed = F.gone.unnamed;
            unlive = F.gone.unlive;
            unkept =
                F.gone.unkept;
          };
    };
    flushed = λ d ls k c F. record {
      whole = (whole_kept s plain).flushed d ls k c F.whole;
      states = F.states;
      gone =
          record {
            some = F.gone.some;
            below = F.gone.below;
            shut = F.gone.shut;
            unnamed = F.gone.unnamed;
            unlive = F.gone.unlive;
            unkept =
                F.gone.unkept;
          };
    };
    done = λ d ls k F. record {
      whole = (whole_kept s plain).done d ls k F.whole;
      states = F.states;
      gone =
          record {
            some = F.gone.some;
            below = F.gone.below;
            shut = F.gone.shut;
            unnamed = F.gone.unnamed;
            unlive = F.gone.unlive;
            unkept =
                F.gone.unkept;
          };
    };
    cleaned = λ d ls k done all F. record {
      whole = (whole_kept s plain).cleaned d ls k done all F.whole;
      states = F.states;
      gone = record {
        some = F.gone.some;
        below = F.gone.below;
        shut = F.gone.shut;
        unnamed = F.gone.unnamed;
        unlive = F.gone.unlive;
        unkept = λ j p l unclean i touch on. F.gone.unkept j p l
            (false_from_ne_true _ (λ y. both_bools _ (number_more k d.marks.cleaned j y) unclean)) i touch on;
      };
    };
    waits = λ d ls c o F. record {
      whole = (whole_kept s plain).waits d ls c o F.whole;
      states = F.states;
      gone =
          record {
            some = F.gone.some;
            below = F.gone.below;
            shut = F.gone.shut;
            unnamed = F.gone.unnamed;
            unlive = F.gone.unlive;
            unkept =
                F.gone.unkept;
          };
    };
    counted = λ d ls c n F. record {
      whole = (whole_kept s plain).counted d ls c n F.whole;
      states = F.states;
      gone =
          record {
            some = F.gone.some;
            below = F.gone.below;
            shut = F.gone.shut;
            unnamed = F.gone.unnamed;
            unlive = F.gone.unlive;
            unkept =
                F.gone.unkept;
          };
    };
    latched = λ d ls k c count T found F.
        latched_any (Freeing s.topology fb) signalled-freeing (record d { live = latched_registers s.topology d.shadow d.live c })
        (latch_of s.topology d k c count ∷ ls) (out_fence_of s.topology d.commits k c)
        (record {
          whole = whole_latched s.topology d ls k c count T found F.whole;
          states = F.states;
          gone = record {
            some = F.gone.some;
            below = F.gone.below;
            shut = F.gone.shut;
            unnamed = F.gone.unnamed;
            unlive = unlive_after
                s.topology fb d ls k c count T found F.whole F.states F.gone;
            unkept = F.gone.unkept;
          };
        });
    signalled = signalled-freeing;
  }

-- The definition of what is needed

is_fb-word : (fb : ℕ) (o : Option FbInfo) → 1 ≤ fb → is_fb fb o ≡ (fb_number (λ f. f.id) o == fb)
is_fb-word fb None some = sym (ne_eqb 0 fb (λ e. absurd (omega arith)))
is_fb-word fb (Some f) some = refl

pub range-below : (from n k : ℕ) → IsIn k (range_with_len from n) → k < from + n
range-below from zero k is = absurd is
range-below from (suc n) k (inl same) = omega arith
range-below from (suc n) k (inr rest) = let l = range-below (from + 1) n k rest in omega arith

pub word_fb : (p : PlaneState) → (plane_words p).fb ≡ fb_number (λ f. f.id) p.fb
unfolding plane_words
word_fb p = refl

new_words : (t : Topology) (cs : List Commit) (k p : ℕ) → plane_words (new_plane t cs k p) ≡ plane_after t cs (suc k) p
unfolding plane_after
new_words t cs k p = refl

names_at : (fb : ℕ) (p : PlaneState) → 1 ≤ fb → (plane_words p).fb ≡ fb → is_fb fb p.fb ≡ true
names_at fb p some e = is_fb-word fb p.fb some ∙ eq-eqb (fb_number (λ f. f.id) p.fb) fb (sym (word_fb p) ∙ e)

named_by : (fb : ℕ) (p : PlaneState) → 1 ≤ fb → ((plane_words p).fb ≡ fb → ⊥) → is_fb fb p.fb ≡ false
named_by fb p some ne = is_fb-word fb p.fb some ∙ ne_eqb (fb_number (λ f. f.id) p.fb) fb (λ e. ne (word_fb p ∙ e))

-- the thing that is found has the id
pub find-same : (things : List Thing) (id : ℕ) (later : Thing) → thing_with_id things id ≡ Some later → later.id ≡ id
find-same [] id later e = absurd cc
find-same (u ∷ us) id later e =
    elim (cases_Bool (u.id == id)) [
      | inl here ↦ (let same : Some u ≡ Some later = sym (cond-true (u.id == id) (Some u) (thing_with_id us id) here) ∙ e in let ul : u
          ≡ later = cc in ap (λ (z : Thing). z.id) (sym ul) ∙ eqb-true u.id id here)
      | inr away ↦ find-same us id later (sym (cond-false (u.id == id) (Some u) (thing_with_id us id) away) ∙ e)
    ]

module _ (s : Script) (m : Machine) (H : Holds s m) (W : Whole s.topology m.device m.records.latches) where
  gone-from : (thing : Thing) → IsIn thing m.device.world.things → is_framebuffer thing.content ≡ true → is_needed s.topology m thing
      ≡ false → Gone s.topology thing.id m.device
  unfolding is_needed values_name live_names commit_keeps
  gone-from thing is framebuffer unneeded =
      let t = s.topology in
      let d = m.device in
      let numbered = ids-numbered 1000 d.world.things thing H.present.lawful.numbered.things is in
      let rest = sym (ap (λ b. b && (thing.is_open
      || (list_any (λ plane. is_fb thing.id (plane_at d.world.things d.world.values plane).fb) (ids_of t Plane)
      || (list_any (λ crtc. picture_names thing.id (decoded_picture t d.live crtc)) (ids_of t Crtc) || commits_keep t m thing.id))))
      framebuffer) ∙ unneeded in
      let one = or_parts thing.is_open _ rest in
      let two = or_parts (list_any (λ plane. is_fb thing.id (plane_at d.world.things d.world.values plane).fb) (ids_of t Plane)) _ one.1 in
      let three = or_parts (list_any (λ crtc. picture_names thing.id (decoded_picture t d.live crtc)) (ids_of t Crtc)) _ two.1 in
      let some : 1 ≤ thing.id = omega (arith, numbered.low) in
      record {
        some = some;
        below = (let a = numbered.high in let b = H.present.lawful.numbered.next in omega arith);
        shut = λ later found. ap (λ (z : Thing). z.is_open)
            (unique later thing (find-in (λ u. u.id == thing.id) d.world.things later found) is
            (find-same m.device.world.things thing.id later found)) ∙ one.0;
        unnamed = λ p i e. both_bools _ (names_at thing.id (plane_at d.world.things d.world.values p) some e)
            (list_any-at (λ plane. is_fb thing.id (plane_at d.world.things d.world.values plane).fb) (ids_of t Plane) p two.0 i);
        unlive = λ c i. list_any-at (λ crtc. picture_names thing.id (decoded_picture t d.live crtc)) (ids_of t Crtc) c three.0 i;
        unkept = λ k p l unclean i touch on.
            let keeps = list_any-at (λ k. not (is_cleaned d k)
            && list_any (λ plane. commit_touches t d.commits k plane
            && (is_fb thing.id (old_plane t d.commits k plane).fb || is_fb thing.id (new_plane t d.commits k plane).fb))
            (ids_of t Plane)) (commit_numbers m) k three.1 (range-in 0 (length d.commits) k (omega arith) (omega (arith, l))) in
            both_bools _
            (and_from _ _ (ap not unclean)
            (list_any-has (λ plane. commit_touches t d.commits k plane
            && (is_fb thing.id (old_plane t d.commits k plane).fb || is_fb thing.id (new_plane t d.commits k plane).fb))
            (ids_of t Plane) p i
            (and_from _ _ touch
            (⊎_elim
            (λ e. or_left _ _ (names_at thing.id (old_plane t d.commits k p) some
            (ap (λ (w : PlaneWords). w.fb) (W.apart.old_words k p l i) ∙ e)))
            (λ e. or_right (is_fb thing.id (old_plane t d.commits k p).fb) _
            (names_at thing.id (new_plane t d.commits k p) some (ap (λ (w : PlaneWords). w.fb) (new_words t d.commits k p) ∙ e)))
            on))))
            keeps;
      }
    where
      unique : (a b : Thing) → IsIn a m.device.world.things → IsIn b m.device.world.things → a.id ≡ b.id → a ≡ b
      unique a b ia ib e =
          let one = thing_numbered-id 1000 m.device.world.things a H.present.lawful.numbered.things ia in
          let two = thing_numbered-id 1000 m.device.world.things b H.present.lawful.numbered.things ib in
          let same : Some a ≡ Some b = sym one ∙ ap (λ n. thing_numbered m.device.world.things (pos n)) e ∙ two in
          cc

-- and back
unneeded-from : (s : Script) (m : Machine) (fb : ℕ) → Whole s.topology m.device m.records.latches → Gone s.topology fb m.device
    → (later : Thing) → thing_with_id m.device.world.things fb ≡ Some later → later.id ≡ fb → is_needed s.topology m later ≡ false
unfolding is_needed values_name live_names commit_keeps
unneeded-from s m fb W G later found same =
    let t = s.topology in
    let d = m.device in
    and_right (is_framebuffer later.content) _
    (or_from later.is_open _ (G.shut later found)
    (subst (λ id. (list_any (λ plane. is_fb id (plane_at d.world.things d.world.values plane).fb) (ids_of t Plane)
    || (list_any (λ crtc. picture_names id (decoded_picture t d.live crtc)) (ids_of t Crtc) || commits_keep t m id)) ≡ false) (sym same)
    (or_from _ _ (list_any-none _ (ids_of t Plane) (λ p i. named_by fb (plane_at d.world.things d.world.values p) G.some (G.unnamed p i)))
    (or_from _ _ (list_any-none _ (ids_of t Crtc) (λ c i. G.unlive c i))
    (list_any-none _ (commit_numbers m) (λ k ik. unkept_by k (range-below 0 (length d.commits) k ik)))))))
  where
    unkept_by : (k : ℕ) → k < 0 + length m.device.commits
        → (not (is_cleaned m.device k) && list_any
        (λ plane. commit_touches s.topology m.device.commits k plane
        && (is_fb fb (old_plane s.topology m.device.commits k plane).fb || is_fb fb (new_plane s.topology m.device.commits k plane).fb))
        (ids_of s.topology Plane)) ≡ false
    unkept_by k l = by_clean (is_cleaned m.device k) refl
      where
        lt : k < length m.device.commits
        lt = omega arith

        by_clean : (b : Bool) → is_cleaned m.device k ≡ b
            → (not b && list_any (λ plane. commit_touches s.topology m.device.commits k plane
            && (is_fb fb (old_plane s.topology m.device.commits k plane).fb || is_fb fb (new_plane s.topology m.device.commits k plane).fb))
            (ids_of s.topology Plane)) ≡ false
        by_clean true e = refl
        by_clean false e =
            list_any-none (λ plane. commit_touches s.topology m.device.commits k plane
            && (is_fb fb (old_plane s.topology m.device.commits k plane).fb
            || is_fb fb (new_plane s.topology m.device.commits k plane).fb)) (ids_of s.topology Plane)
            (λ p i. by_touch p i (commit_touches s.topology m.device.commits k p) refl)
          where
            by_touch : (p : ℕ) → IsIn p (ids_of s.topology Plane) → (b : Bool) → commit_touches s.topology m.device.commits k p ≡ b
                → (b && (is_fb fb (old_plane s.topology m.device.commits k p).fb
                || is_fb fb (new_plane s.topology m.device.commits k p).fb)) ≡ false
            by_touch p i false touch = refl
            by_touch p i true touch =
                or_from _ _
                (named_by fb (old_plane s.topology m.device.commits k p) G.some
                (λ n. G.unkept k p lt e i touch (inl (ap (λ (w : PlaneWords). w.fb) (sym (W.apart.old_words k p lt i)) ∙ n))))
                (named_by fb (new_plane s.topology m.device.commits k p) G.some
                (λ n. G.unkept k p lt e i touch (inr (ap (λ (w : PlaneWords). w.fb) (sym (new_words s.topology m.device.commits k p)) ∙
                n))))

-- The law

pub all_in-from : {A : Type 0} (P : A → Type 0) (xs : List A) → ((x : A) → IsIn x xs → P x) → All P xs
all_in-from P [] each k d l = absurd (omega arith)
all_in-from P (x ∷ xs) each zero d l = each x (inl refl)
all_in-from P (x ∷ xs) each (suc k) d l = all_in-from P xs (λ y is. each y (inr is)) k d (omega arith)

-- a framebuffer that is not needed is not needed after a step
abbrev StaysFree : Script → Machine → Step → Thing → Type 0
StaysFree s m step thing = is_framebuffer thing.content ≡ true → is_needed s.topology m thing ≡ false
    → (later : Thing) → thing_with_id (next s m step).device.world.things thing.id ≡ Some later → is_needed s.topology (next s m step) later
    ≡ false

stays_free : (s : Script) (m : Machine) (step : Step) → IsPlainScript s → Holds s m → Whole s.topology m.device m.records.latches
    → legal s m step ≡ true → (thing : Thing) → IsIn thing m.device.world.things → StaysFree s m step thing
stays_free s m step plain H W legal_step thing i framebuffer unneeded later found =
    let F : Freeing s.topology thing.id m.device m.records.latches =
    record { whole = W; states = H.present.states; gone = gone-from s m H W thing i framebuffer unneeded } in
    let after_step = step_keeps s (Freeing s.topology thing.id) (freeing_kept s plain thing.id) m H F step legal_step in
    unneeded-from s (next s m step) thing.id after_step.whole after_step.gone later found
    (find-same (next s m step).device.world.things thing.id later found)

pub framebuffers_once : (s : Script) (h : List Step) → IsPlainScript s → is_history s h ≡ true → (step : Step) → legal s (at s h) step
    ≡ true → All (StaysFree s (at s h) step) (at s h).device.world.things
framebuffers_once s h plain is step legal_step =
    all_in-from (StaysFree s (at s h) step) (at s h).device.world.things
    (stays_free s (at s h) step plain (history_kept s h plain is) (history_whole s h plain is) legal_step)

stays_free_along : (s : Script) (m : Machine) (steps : List Step) → IsPlainScript s → Holds s m
    → Whole s.topology m.device m.records.latches → are_legal s m steps ≡ true → (thing : Thing) → IsIn thing m.device.world.things
    → Laws.StaysFree s m (run_steps s m steps) thing
stays_free_along s m steps plain H W legal_steps thing i framebuffer unneeded later found =
    let F : Freeing s.topology thing.id m.device m.records.latches =
    record { whole = W; states = H.present.states; gone = gone-from s m H W thing i framebuffer unneeded } in
    let after_steps = along s (λ m. Holds s m × Freeing s.topology thing.id m.device m.records.latches)
    (λ m step both l. (
      step_kept s m step plain both.0 l,
      step_keeps s (Freeing s.topology thing.id) (freeing_kept s plain thing.id) m both.0 both.1 step l,
    ))
    steps m (H, F) legal_steps in
    unneeded-from s (run_steps s m steps) thing.id after_steps.1.whole after_steps.1.gone later found
    (find-same (run_steps s m steps).device.world.things thing.id later found)

pub framebuffers_once_along : (s : Script) (h : List Step) → IsPlainScript s → is_history s h ≡ true → (steps : List Step)
    → are_legal s (at s h) steps ≡ true → All (Laws.StaysFree s (at s h) (run_steps s (at s h) steps)) (at s h).device.world.things
framebuffers_once_along s h plain is steps legal_steps =
    all_in-from (Laws.StaysFree s (at s h) (run_steps s (at s h) steps)) (at s h).device.world.things
    (stays_free_along s (at s h) steps plain (history_kept s h plain is) (history_whole s h plain is) legal_steps)
