-- A world in which all things are open: it has the same states, and a request touches the same objects in it.
use Rattle.std.proofs.Common.{◌≡◌, ℕ, ◌+◌, List, [], ◌∷◌, map, Bool, true, false, ◌&&◌, ◌||◌, ◌==◌, Option, Some, None, refl, sym, ap, ◌∙◌}
use Rattle.std.specs.Prelude.{ℤ, pos, not, filter, is_none, if◌then◌else◌}
use Rattle.std.specs.List.{list_any}
use Rattle.std.specs.Option.{option_map}
use Rattle.std.specs.Ordering.{int_eq}
use Rattle.std.proofs.lemmas.List.{length-map}
use Rattle.kms_model.specs.declared.objects.Kind.{Kind}
use Rattle.kms_model.specs.declared.objects.Kind.TheVariants.{Crtc, Plane, Conn, Enc}
use Rattle.kms_model.specs.declared.objects.Topology.{Topology}
use Rattle.kms_model.specs.declared.properties.TheConstants.{ACTIVE, GAMMA_LUT, MODE_ID, FB_ID}
use Rattle.kms_model.specs.declared.scripts.Assign.{Assign}
use Rattle.kms_model.specs.declared.scripts.Request.{Request}
use Rattle.kms_model.specs.declared.scripts.Value.{Value}
use Rattle.kms_model.specs.declared.scripts.Value.TheVariants as value
use Rattle.kms_model.specs.declared.states.Duplicates.{Duplicates}
use Rattle.kms_model.specs.declared.worlds.Setting.{Setting}
use Rattle.kms_model.specs.declared.worlds.Thing.{Thing}
use Rattle.kms_model.specs.declared.worlds.World.{World}
use Rattle.kms_model.specs.Device.Modes.{same_mode}
use Rattle.kms_model.specs.Device.Objects.{ids_of, kind_of, object_id}
use Rattle.kms_model.specs.Device.Sound.{AreNumbered, IsNumbered, IsSound, empty_request}
use Rattle.kms_model.specs.Device.States.{framebuffer_of, gamma_at, gamma_of, mode_at, mode_of, plane_at}
use Rattle.kms_model.specs.Device.World.{put, thing_labelled, thing_numbered}
use Rattle.kms_model.specs.Device.World as world
use Rattle.kms_model.specs.Request.Agreement.{AgreesOld, crtc_state_at}
use Rattle.kms_model.specs.Request.Apply.{after, apply, assign, id_in, is_kept, number_of, object_of, prop_of}
use Rattle.kms_model.specs.Request.Lookups.{look_of, look_of_any, look_up, look_up_any}
use Rattle.kms_model.specs.Request.Named.{is_rerouted, moves_on, names, needs_modeset}
use Rattle.kms_model.specs.Request.Reach.{reaches, reaching}
use Rattle.kms_model.specs.Request.Refusals.{own_refusal}
use Rattle.kms_model.specs.Request.Touched.{is_affected, sets, touches, touches_of_kind}
use Rattle.kms_model.specs.Request.Verdict.{early_in}
use Rattle.kms_model.proofs.SoundKept.{late-empty, verdict-empty}
use Rattle.kms_model.proofs.HeldValues.{plain_held-from, are_held-kept, held-seen}
use Rattle.kms_model.proofs.Items.{list_any-same}
use Rattle.kms_model.proofs.SeenLemmas.{AreSeenAlike, late-seen}
use Rattle.kms_model.proofs.ThingLemmas.{IsSeenAlike}
use Rattle.kms_model.proofs.ReachLaw.{reach-is}
use Rattle.kms_laws.proofs.HeldFrames.{state_with}

abbrev pub opened : Thing → Thing
opened u = record u { is_open = true }

abbrev pub all_open : World → World
all_open w = record w { things = map opened w.things }

labelled-open : (things : List Thing) (label : ℕ) → thing_labelled (map opened things) label
    ≡ option_map opened (thing_labelled things label)
labelled-open [] label = refl
labelled-open (u ∷ us) label = ap (λ o. if u.label == label then Some (opened u) else o) (labelled-open us label) ∙ by_test
    (u.label == label)
  where
    by_test : (b : Bool) → (if b then Some (opened u) else option_map opened (thing_labelled us label))
        ≡ option_map opened (if b then Some u else thing_labelled us label)
    by_test true = refl
    by_test false = refl

numbered-open : (n : ℕ) (things : List Thing) → AreNumbered n things → AreNumbered n (map opened things)
numbered-open n [] numbered = tt
numbered-open n (u ∷ us) numbered = (numbered.0, numbered-open (n + 1) us numbered.1)

seen-open : (things : List Thing) (number : ℤ) → IsSeenAlike things (map opened things) number
seen-open [] number = record { fb = refl; mode = refl; gamma = refl }
seen-open (u ∷ us) number =
    let rest : IsSeenAlike us (map opened us) number = seen-open us number in
    record {
      fb = fb (int_eq (pos u.id) number) rest;
      mode = mode (int_eq (pos u.id) number) rest;
      gamma = gamma (int_eq (pos u.id) number)
          rest;
    }
  where
    fb : (b : Bool) → IsSeenAlike us (map opened us) number → framebuffer_of (if b then Some u else thing_numbered us number)
        ≡ framebuffer_of (if b then Some (opened u) else thing_numbered (map opened us) number)
    fb true rest = refl
    fb false rest = rest.fb

    mode : (b : Bool) → IsSeenAlike us (map opened us) number → mode_of (if b then Some u else thing_numbered us number)
        ≡ mode_of (if b then Some (opened u) else thing_numbered (map opened us) number)
    mode true rest = refl
    mode false rest = rest.mode

    gamma : (b : Bool) → IsSeenAlike us (map opened us) number → gamma_of (if b then Some u else thing_numbered us number)
        ≡ gamma_of (if b then Some (opened u) else thing_numbered (map opened us) number)
    gamma true rest = refl
    gamma false rest = rest.gamma

alike-open : (t : Topology) (things : List Thing) (values : List Setting) → AreSeenAlike t things (map opened things) values
alike-open t things values = record {
  planes = λ p is. seen-open things (world.value values p FB_ID);
  crtcs = λ c is. seen-open things (world.value values c MODE_ID);
  gammas = λ c is. seen-open things (world.value values c GAMMA_LUT);
}

pub sound-open : (t : Topology) (w : World) → IsSound t w → IsSound t (all_open w)
sound-open t w sound =
    let alike = alike-open t w.things w.values in
    record {
      held = are_held-kept t w.things (map opened w.things) w.values w.values
          (λ object p row held. held-seen t w.things (map opened w.things) p.id p.range (world.value w.values object p.id)
          (seen-open w.things (world.value w.values object p.id)) held) sound.held;
      accepted = verdict-empty t (all_open w)
          (sym (late-seen t w.things (map opened w.things) w.values w.values empty_request alike alike
          (plain_held-from t w.things w.values sound.held)) ∙ late-empty t w sound.accepted);
    }

pub all_numbered-open : (w : World) → IsNumbered w → IsNumbered (all_open w)
all_numbered-open w numbered = record {
  things = numbered-open 1000 w.things numbered.things;
  next = numbered.next ∙ ap (λ n. 1000 + n) (sym (length-map w.things opened));
}

-- States

mode-open : (things : List Thing) (values : List Setting) (c : ℕ) → mode_at (map opened things) values c ≡ mode_at things values c
mode-open things values c = sym (seen-open things (world.value values c MODE_ID)).mode

gamma-open : (things : List Thing) (values : List Setting) (c : ℕ) → gamma_at (map opened things) values c ≡ gamma_at things values c
gamma-open things values c = sym (seen-open things (world.value values c GAMMA_LUT)).gamma

plane-open : (things : List Thing) (values : List Setting) (p : ℕ) → plane_at things values p ≡ plane_at (map opened things) values p
plane-open things values p = rw ((seen-open things (world.value values p FB_ID)).fb) refl

crtc-open : (t : Topology) (things : List Thing) (values : List Setting) (c : ℕ) → crtc_state_at t things values c
    ≡ crtc_state_at t (map opened things) values c
crtc-open t things values c =
    let state = crtc_state_at t things values c in
    sym (λ i. state_with state.active (mode-open things values c i) (gamma-open things values c i) state.planes state.conns)

pub agrees-open : (t : Topology) (things : List Thing) (values : List Setting) (d : Duplicates) → AgreesOld t things values d
    → AgreesOld t (map opened things) values d
agrees-open t things values d old = record {
  crtcs = λ index both e.
      old.crtcs index both e
      ∙ crtc-open t things values (object_id Crtc index);
  planes = λ index both e. old.planes index both e ∙ plane-open things values (object_id Plane index);
  conns = λ index both e. old.conns index both e;
}

-- What is touched and reached

id-open : (things : List Thing) (label : ℕ) → id_in (thing_labelled (map opened things) label) ≡ id_in (thing_labelled things label)
id-open things label = ap id_in (labelled-open things label) ∙ of_option (thing_labelled things label)
  where
    of_option : (o : Option Thing) → id_in (option_map opened o) ≡ id_in o
    of_option None = refl
    of_option (Some u) = refl

number-open : (things : List Thing) (v : Value) → number_of (map opened things) v ≡ number_of things v
number-open things (value.Num n) = refl
number-open things (value.Named label) = id-open things label
number-open things (value.New label) = refl
number-open things (value.Crtc index) = refl

apply-open : (things : List Thing) (values : List Setting) (assigns : List Assign) → apply (map opened things) values assigns
    ≡ apply things values assigns
apply-open things values [] = refl
apply-open things values (a ∷ assigns) =
    apply-open things (assign (map opened things) values a) assigns
    ∙ ap (λ n. apply things (if is_kept (prop_of a.prop) then put values (object_of a) (prop_of a.prop) n else values) assigns)
    (number-open things a.value)

modeset-open : (t : Topology) (things : List Thing) (old new : List Setting) (c : ℕ) → needs_modeset t (map opened things) old new c
    ≡ needs_modeset t things old new c
modeset-open t things old new c =
    (λ i. not (same_mode (mode-open things old c i) (mode-open things new c i))
    || (not (int_eq (world.value old c ACTIVE) (world.value new c ACTIVE)) || list_any (is_rerouted old new c) (ids_of t Conn)))

affected-open : (t : Topology) (things : List Thing) (old new : List Setting) (o : ℕ) → is_affected t (map opened things) old new o
    ≡ is_affected t things old new o
affected-open t things old new o =
    list_any-same (λ c. needs_modeset t (map opened things) old new c && moves_on old new c o)
    (λ c. needs_modeset t things old new c && moves_on old new c o) (ids_of t Crtc)
    (λ c is. ap (λ b. b && moves_on old new c o) (modeset-open t things old new c))

kind-open : (k : Kind) (t : Topology) (w : World) (r : Request) (o : ℕ) → touches_of_kind k t (all_open w) r o ≡ touches_of_kind k t w r o
kind-open Crtc t w r o = ap (λ new. sets r.assigns o || names w.values new r.assigns o) (apply-open w.things w.values r.assigns)
kind-open Plane t w r o =
    ap (λ new. sets r.assigns o || is_affected t (map opened w.things) w.values new o) (apply-open w.things w.values r.assigns)
    ∙ ap (λ b. sets r.assigns o || b) (affected-open t w.things w.values (after w r) o)
kind-open Conn t w r o =
    ap (λ new. sets r.assigns o || is_affected t (map opened w.things) w.values new o) (apply-open w.things w.values r.assigns)
    ∙ ap (λ b. sets r.assigns o || b) (affected-open t w.things w.values (after w r) o)
kind-open Enc t w r o = refl

touches-open : (t : Topology) (w : World) (r : Request) (o : ℕ) → touches t (all_open w) r o ≡ touches t w r o
unfolding touches
touches-open t w r o = kind-open (kind_of o) t w r o

-- what a label names where all things are open
pub look-open : (w : World) (label : ℕ) → look_up (all_open w) label ≡ look_up_any w label
look-open w label = ap look_of (labelled-open w.things label) ∙ of_option (thing_labelled w.things label)
  where
    of_option : (o : Option Thing) → look_of (option_map opened o) ≡ look_of_any o
    of_option None = refl
    of_option (Some u) = refl

any-open : (w : World) (label : ℕ) → look_up_any (all_open w) label ≡ look_up_any w label
any-open w label = ap look_of_any (labelled-open w.things label) ∙ of_option (thing_labelled w.things label)
  where
    of_option : (o : Option Thing) → look_of_any (option_map opened o) ≡ look_of_any o
    of_option None = refl
    of_option (Some u) = refl

reaches-open : (t : Topology) (w : World) (r : Request) (o : ℕ) → reaches t (all_open w) r o ≡ reaches t w r o
unfolding reaches
reaches-open t w r o =
    touches-open t w (record r { assigns = reaching t (all_open w) r.assigns }) o
    ∙ (λ i. touches t w (record r { assigns = filter (λ a. is_none (own_refusal t (λ label. any-open w label i) a)) r.assigns }) o)

-- what a request that is accepted there touches there is in its reach
pub open-reach : (t : Topology) (w : World) (r : Request) (o : ℕ) → early_in t (all_open w) r ≡ None → touches t (all_open w) r o
    ≡ reaches t w r o
open-reach t w r o early = sym (reach-is t (all_open w) r o early) ∙ reaches-open t w r o
