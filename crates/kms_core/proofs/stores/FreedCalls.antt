-- Calls that may free framebuffers.
use Rattle.std.proofs.Common.{◌≡◌, ℕ, ◌+◌, ◌<◌, ◌≤◌, List, [], ◌∷◌, ◌++◌, length, true, false, Option, Some, None, refl, sym, ap, ◌∙◌}
use Rattle.std.proofs.Common.{subst, arith, inl, inr, ◌⊎◌}
use Rattle.std.specs.Prelude.{filter}
use Rattle.kms_model.specs.declared.objects.Kind.TheVariants.{Crtc}
use Rattle.kms_model.specs.declared.objects.Topology.{Topology}
use Rattle.kms_model.specs.declared.pictures.Layer.{Layer}
use Rattle.kms_model.specs.declared.pictures.Picture.{Picture}
use Rattle.kms_model.specs.declared.pictures.Picture.TheVariants.{Off, On}
use Rattle.kms_regs.specs.File.{StandsForDevice}
use Rattle.kms_model.specs.declared.replies.Reply.{Reply}
use Rattle.kms_model.specs.declared.replies.Reply.TheVariants as reply
use Rattle.kms_model.specs.declared.scripts.Command.{Command}
use Rattle.kms_model.specs.declared.scripts.Command.TheVariants as command
use Rattle.kms_things.specs.Made.{Made}
use Rattle.kms_model.specs.declared.replies.Step.{Step}
use Rattle.kms_model.specs.declared.replies.Step.TheVariants as step
use Rattle.kms_model.specs.declared.runs.Latch.{Latch}
use Rattle.kms_model.specs.declared.scripts.Script.{Script}
use Rattle.kms_model.specs.declared.worlds.Thing.{Thing}
use Rattle.kms_model.specs.declared.worlds.World.{World}
use Rattle.kms_model.specs.Device.Execution.{execute, is_framebuffer}
use Rattle.kms_model.specs.Device.Objects.{ids_of, index_of}
use Rattle.kms_model.specs.Device.Sound.{AreNumbered, IsDevice}
use Rattle.kms_model.specs.Device.World.{thing_labelled, thing_with_id}
use Rattle.kms_model.specs.Machine.Commits.{is_cleaned}
use Rattle.kms_model.specs.Machine.Effects.{next}
use Rattle.kms_model.specs.Machine.Framebuffers.{commit_keeps, is_needed, picture_names}
use Rattle.kms_model.specs.Machine.Histories.{legal}
use Rattle.kms_model.specs.Machine.Registers.{decoded_picture}
use Rattle.kms_model.specs.Machine.State.{DeviceState, Machine, command_at}
use Rattle.kms_model.proofs.Items.{IsIn}
use Rattle.kms_model.proofs.HeldValues.{filter-in}
use Rattle.kms_laws.proofs.Headlines.{range-in}
use Rattle.kms_laws.proofs.Modes.{plain-from}
use Rattle.kms_laws.proofs.Steps.{IsPlainScript, history_kept}
use Rattle.kms_laws.proofs.Framebuffers.{find-same}
use Rattle.kms_core.specs.Freeing.{AreAllOf, AreFreed, AreRising, framebuffers_in, freed_among, is_framebuffer_in, layers_name}
use Rattle.kms_core.specs.Stored.{AreHeld, AreStored, without_freed}
use Rattle.kms_core.specs.Logs.{Reserved}
use Rattle.kms_core.specs.Needs.{Accounts, Frees, HasPlaceFor, MayAccount, TellNeeds}
use Rattle.kms_core.specs.Run.{Run, gains, machine}
use Rattle.kms_core.specs.Stands.{Stores, Stands, StandsAt}
use Rattle.kms_core.proofs.freeing.FreedHistories.{Executes, Latches, added_freed, changes, latch_frees, make_frees, quiet_freed}
use Rattle.kms_core.proofs.freeing.FreedHistories.{told_freed}
use Rattle.kms_regs.specs.Layers.{picture_layers}
use Rattle.kms_regs.proofs.FewLayers.{shown_few}
use Rattle.kms_core.proofs.freeing.FreedLatches.{live_by}
use Rattle.kms_core.proofs.freeing.FreedLists.{as_many, passes, rising_filter}
use Rattle.kms_core.proofs.freeing.FreedMakes.{MadeFrees}
use Rattle.kms_core.proofs.freeing.FreedSteps.{IsTold, SameNeeds, cleaned_as, cleanup_told, each_of, keeps_by, needed_by}
use Rattle.kms_core.proofs.freeing.StoredSteps.{WereStored, closed_held, closed_were, needed_held, quiet_stored, same_stored, told_stored}
use Rattle.kms_things.specs.Counting.{fbs_after}
use Rattle.kms_model.specs.Things.Kept.{fbs_taken}
use Rattle.kms_core.proofs.stores.Histories.{goes_freeing, with_fbs, with_freed}
use Rattle.kms_core.proofs.stores.StoredCalls.{IsLeft, LeavesFbs, added_takes, closed_is, execute_leaves, taken_stored}

-- the stores that stand for a machine tell what it needs
pub tell_needs : {s : Script} {m : Machine} {st : Stores} → IsDevice s.topology → StandsAt s m st
    → TellNeeds s.topology m st.made st.present st.registers st.tracker s.topology.crtcs
tell_needs device stands =
    record { device = device; count = refl; world = stands.world; written = stands.registers; kept = stands.tracker }

-- There are places for candidates that are needed.

pub needed_places : (t : Topology) (m : Machine) {things : List Thing} (ids : List ℕ) → m.device.world.things ≡ things
    → AreNumbered 1000 m.device.world.things → AreRising 0 ids
    → ((id : ℕ) → IsIn id ids → (x : Thing) → x.id ≡ id → is_framebuffer x.content ≡ true → is_needed t m x ≡ true)
    → framebuffers_in things ids ≤ length (filter (is_needed t m) m.device.world.things)
needed_places t m ids same numbered rising needed =
    subst (λ all. framebuffers_in all ids ≤ length (filter (is_needed t m) m.device.world.things)) same
    (as_many 1000 (is_needed t m) m.device.world.things 0 (filter (λ id. is_framebuffer_in (thing_with_id m.device.world.things id)) ids)
    numbered (rising_filter 0 _ ids rising) (λ id is.
    let found = filter-in (λ id. is_framebuffer_in (thing_with_id m.device.world.things id)) ids id is in
    at id (thing_with_id m.device.world.things id) refl found.1 (λ x own framebuffer. needed id found.0 x own framebuffer)))
  where
    at : (id : ℕ) (o : Option Thing) → thing_with_id m.device.world.things id ≡ o → is_framebuffer_in o ≡ true
        → ((x : Thing) → x.id ≡ id → is_framebuffer x.content ≡ true → is_needed t m x ≡ true) → passes (is_needed t m) o ≡ true
    at id None found e needed = absurd cc
    at id (Some x) found e needed = needed x (find-same m.device.world.things id x found) e

numbered_of : {r : Run} {st : Stores} → Stands r st → AreNumbered 1000 (machine r).device.world.things
numbered_of {r} stands = (history_kept r.script r.steps (plain-from r.script stands.formed) stands.history).present.lawful.numbered.things

-- those of the picture that a CRTC shows
pub live_places : {r : Run} {st : Stores} (c : ℕ) {ids : List ℕ} → Stands r st → IsIn c (ids_of r.script.topology Crtc)
    → AreAllOf ids (λ id. picture_names id (decoded_picture r.script.topology (machine r).device.live c))
    → framebuffers_in st.made.things ids ≤ st.freed.places
live_places {r} {st} c {ids} stands is_crtc A =
    let t = r.script.topology in
    let m = machine r in
    let few = stands.freed.places in
    let most = needed_places t m ids stands.stores.world.things (numbered_of stands) A.rising
    (λ id is x own framebuffer.
    needed_by t m x (record {
      framebuffer = framebuffer;
      why = inr
          (inr (inl (live_by t m.device x.id c is_crtc
          (subst (λ z. picture_names z (decoded_picture t m.device.live c) ≡ true) (sym own) (each_of A id is)))));
    })) in
    omega (arith, few, most)

-- a picture names what its layers name
named_by : (id : ℕ) (p : Picture) → layers_name id (picture_layers p) ≡ picture_names id p
named_by id Off = refl
named_by id (On shown) = refl

-- what a register file tells of a CRTC's layers is so
abbrev TellsLayers : Stores → ℕ → List Layer → Type 0
TellsLayers st c layers = (t : Topology) (d : DeviceState) → StandsForDevice t d st.registers → layers
    ≡ picture_layers (decoded_picture t d.live c)

pub live_all : {r : Run} {st : Stores} (c : ℕ) (layers : List Layer) {found ids : List ℕ} → Stands r st
    → AreAllOf found (λ id. layers_name id layers) → TellsLayers st c layers → ids ≡ found
    → AreAllOf ids (λ id. picture_names id (decoded_picture r.script.topology (machine r).device.live c))
live_all {r} c layers stands all tells is =
    let t = r.script.topology in
    let d = (machine r).device in
    rw is
    (record {
      rising = all.rising;
      same = λ id. all.same id ∙ ap (layers_name id) (tells t d stands.stores.registers) ∙ named_by id (decoded_picture t d.live c);
    })

pub live_few : {r : Run} {st : Stores} (c : ℕ) (layers : List Layer) → Stands r st → TellsLayers st c layers → length layers ≤ 16
live_few {r} c layers stands tells =
    subst (λ ls. length ls ≤ 16) (sym (tells r.script.topology (machine r).device stands.stores.registers))
    (shown_few r.script.topology (machine r).device.live c stands.formed.device)

-- and those of a commit that is not cleaned
pub kept_places : {r : Run} {st : Stores} (k : ℕ) (ids : List ℕ) → Stands r st → k < length (machine r).device.commits
    → is_cleaned (machine r).device k ≡ false → AreAllOf ids (λ id. commit_keeps r.script.topology (machine r).device id k)
    → framebuffers_in st.made.things ids ≤ st.freed.places
kept_places {r} {st} k ids stands within unclean A =
    let t = r.script.topology in
    let m = machine r in
    let few = stands.freed.places in
    let most = needed_places t m ids stands.stores.world.things (numbered_of stands) A.rising
    (λ id is x own framebuffer.
    needed_by t m x (record {
      framebuffer = framebuffer;
      why = inr
          (inr (inr (keeps_by t m x.id k (range-in 0 (length m.device.commits) k (omega arith) (omega (arith, within))) unclean
          (subst (λ z. commit_keeps t m.device z k ≡ true) (sym own) (each_of A id is)))));
    })) in
    omega (arith, few, most)

-- Candidates that are needed are in the store.

pub live_held : {r : Run} {st : Stores} (c : ℕ) {ids : List ℕ} → Stands r st → IsIn c (ids_of r.script.topology Crtc)
    → AreAllOf ids (λ id. picture_names id (decoded_picture r.script.topology (machine r).device.live c))
    → AreHeld st.made.things st.made.fbs ids
live_held {r} {st} c {ids} stands is_crtc A =
    let t = r.script.topology in
    let m = machine r in
    needed_held t m st.made.things st.made.fbs ids stands.stores.world.things stands.stored (λ id is x own framebuffer.
    needed_by t m x (record {
      framebuffer = framebuffer;
      why = inr
          (inr (inl (live_by t m.device x.id c is_crtc
          (subst (λ z. picture_names z (decoded_picture t m.device.live c) ≡ true) (sym own) (each_of A id is)))));
    }))

pub kept_held : {r : Run} {st : Stores} (k : ℕ) (ids : List ℕ) → Stands r st → k < length (machine r).device.commits
    → is_cleaned (machine r).device k ≡ false → AreAllOf ids (λ id. commit_keeps r.script.topology (machine r).device id k)
    → AreHeld st.made.things st.made.fbs ids
kept_held {r} {st} k ids stands within unclean A =
    let t = r.script.topology in
    let m = machine r in
    needed_held t m st.made.things st.made.fbs ids stands.stores.world.things stands.stored (λ id is x own framebuffer.
    needed_by t m x (record {
      framebuffer = framebuffer;
      why = inr
          (inr (inr (keeps_by t m x.id k (range-in 0 (length m.device.commits) k (omega arith) (omega (arith, within))) unclean
          (subst (λ z. commit_keeps t m.device z k ≡ true) (sym own) (each_of A id is)))));
    }))

-- A history goes on by a step that frees some candidates.
pub goes_told : {r w : Run} {old : Stores} (new : Stores) (step : Step) (ids : List ℕ) (freed : Reserved (ℕ × ℕ)) (made : Made)
    → IsTold r.script.topology (machine r) (next r.script (machine r) step) ids
    → WereStored r.script.topology (machine r) (next r.script (machine r) step) new.made.fbs
    → Frees new.made made new.present new.registers new.tracker r.script.topology.crtcs ids old.freed freed
    → Stands r old → w ≡ gains r (step ∷ []) → legal r.script (machine r) step ≡ true
    → StandsAt r.script (next r.script (machine r) step) new → Stands w (record new { freed = freed; made = made })
goes_told {r} {old = old} new step ids freed made told were frees stands more is_legal after =
    let t = r.script.topology in
    let n = next r.script (machine r) step in
    let tell = tell_needs stands.formed.device after in
    let left = frees.made t n tell in
    goes_freeing step stands more is_legal
    (subst (λ z. StandsAt r.script n (record new { freed = freed; made = z })) (sym left)
    (with_fbs (without_freed (freed_among t n ids) new.made.fbs)
    (with_freed freed after)))
    (told_freed r.script r.steps step (plain-from r.script stands.formed) stands.history is_legal freed stands.freed told
    (frees.items t n tell) (frees.places t n tell))
    (subst (λ (z : Made). AreStored t n z.fbs) (sym left)
    (told_stored new.made.fbs (numbered_of stands) told were))

-- a latch
pub latches_by : {s : Script} {m n : Machine} {c : ℕ} (l : Latch) → SameNeeds m n ⊎ Latches s m n c → l.crtc ≡ index_of c
    → IsIn c (ids_of s.topology Crtc) → n.records.latches ≡ l ∷ m.records.latches → Latches s m n c
latches_by l (inl same) of_crtc is_crtc one =
    record {
      world = same.world;
      commits = same.commits;
      cleaned = same.cleaned;
      latch = l;
      of_crtc = of_crtc;
      is_crtc = is_crtc;
      recorded =
          one;
    }
latches_by l (inr latched) of_crtc is_crtc one = latched

pub goes_latching : {r w : Run} {old : Stores} {new : Stores} (step : Step) {c : ℕ} {ids : List ℕ} (freed : Reserved (ℕ × ℕ)) (made : Made)
    → Latches r.script (machine r) (next r.script (machine r) step) c
    → AreAllOf ids (λ id. picture_names id (decoded_picture r.script.topology (machine r).device.live c))
    → Frees new.made made new.present new.registers new.tracker r.script.topology.crtcs ids old.freed freed → new.made.fbs ≡ old.made.fbs
    → Stands r old → w ≡ gains r (step ∷ []) → legal r.script (machine r) step ≡ true
    → StandsAt r.script (next r.script (machine r) step) new → Stands w (record new { freed = freed; made = made })
goes_latching {r} {new} step {c} {ids} freed made L A frees same_fbs stands more is_legal after =
    goes_told new step ids freed made
    (latch_frees r.script r.steps step (plain-from r.script stands.formed) stands.history is_legal L A)
    (same_stored r.script.topology (machine r) (next r.script (machine r) step) new.made.fbs (ap (λ (w : World). w.things) L.world)
    (subst (AreStored r.script.topology (machine r)) (sym same_fbs) stands.stored))
    frees stands more is_legal after

-- a cleanup
pub goes_cleaning : {r w : Run} {old : Stores} (new : Stores) (k : ℕ) (ids : List ℕ) (freed : Reserved (ℕ × ℕ)) (made : Made)
    → k < length (machine r).device.commits → is_cleaned (machine r).device k ≡ false
    → AreAllOf ids (λ id. commit_keeps r.script.topology (machine r).device id k)
    → Frees new.made made new.present new.registers new.tracker r.script.topology.crtcs ids old.freed freed → new.made.fbs ≡ old.made.fbs
    → Stands r old → w ≡ gains r (step.Cleanup k ∷ [])
    → legal r.script (machine r) (step.Cleanup k) ≡ true → StandsAt r.script (next r.script (machine r) (step.Cleanup k)) new
    → Stands w (record new { freed = freed; made = made })
unfolding next
goes_cleaning {r} {old = old} new k ids freed made within unclean A frees same_fbs stands more is_legal after =
    goes_told new (step.Cleanup k) ids freed made
    (cleanup_told r.script.topology (machine r) k ids (numbered_of stands) within unclean A)
    (same_stored r.script.topology (machine r) (cleaned_as (machine r) k) new.made.fbs refl
    (subst (AreStored r.script.topology (machine r)) (sym same_fbs) stands.stored))
    frees stands more is_legal after

-- Commands that make and close things

module _ (r : Run) (old : Stores) (client : ℕ) (c : Command) (told : Reply) (stands : Stands r old)
    (is_legal : legal r.script (machine r) (step.Make client) ≡ true) (at_place : command_at r.script (machine r) client ≡ Some c)
    (answered : (execute r.script.topology (machine r).device.world client c).reply ≡ told) where
  abbrev n : Machine
  n = next r.script (machine r) (step.Make client)

  X : Executes r.script (machine r) (next r.script (machine r) (step.Make client)) client
  X = changes r.script (machine r) (step.Make client) is_legal

  same_command : X.command ≡ c
  unfolding X
  same_command = let one : Some X.command ≡ Some c = sym X.at_place ∙ at_place in cc

  pub world_after : (next r.script (machine r) (step.Make client)).device.world
      ≡ (execute r.script.topology (machine r).device.world client c).world
  world_after = X.world ∙ ap (λ (x : Command). (execute r.script.topology (machine r).device.world client x).world) same_command

  frees_made : MadeFrees r.script.topology (machine r) (next r.script (machine r) (step.Make client)) client c told
  frees_made =
      subst (λ x. MadeFrees r.script.topology (machine r) (next r.script (machine r) (step.Make client)) client c x) answered
      (subst (λ x. MadeFrees r.script.topology (machine r) (next r.script (machine r) (step.Make client)) client x
      (execute r.script.topology (machine r).device.world client x).reply) same_command
      (make_frees r.script r.steps (step.Make client) (plain-from r.script stands.formed) stands.history is_legal client X))

  -- there is a place for a framebuffer that was closed
  pub closed_place : (made : Made) → (next r.script (machine r) (step.Make client)).device.world.things ≡ made.things
      → HasPlaceFor made c told old.freed.places
  closed_place made same = at c told frees_made where
    at : (c : Command) (a : Reply) → MadeFrees r.script.topology (machine r) (next r.script (machine r) (step.Make client)) client c a
        → HasPlaceFor made c a old.freed.places
    at (command.CloseFb label) reply.Done frees = λ u found.
        let one : Some u ≡ Some frees.now = sym found ∙ ap (λ things. thing_labelled things label) (sym same) ∙ frees.found in
        let is_now : u ≡ frees.now = cc in
        let own : u.id ≡ frees.thing.id = ap (λ (x : Thing). x.id) is_now ∙ frees.same_id in
        let few = stands.freed.places in
        let room = frees.told.room in
        let count : framebuffers_in made.things (u.id ∷ [])
        ≡ framebuffers_in (next r.script (machine r) (step.Make client)).device.world.things (frees.thing.id ∷ []) =
        (λ i. framebuffers_in (sym same i) (own i ∷ [])) in
        omega (arith, few, room, count)
    at _ _ frees = tt

  -- what is freed stands after the step
  pub made_freed : (new : Stores) (freed : Reserved (ℕ × ℕ)) (left : Made)
      → StandsAt r.script (next r.script (machine r) (step.Make client)) new
      → Accounts new.made left new.present new.registers new.tracker r.script.topology.crtcs c told old.freed freed
      → AreFreed r.script (r.steps ++ step.Make client ∷ []) freed
  made_freed new freed left after accounts = at c told frees_made accounts where
    plain : IsPlainScript r.script
    plain = plain-from r.script stands.formed

    at : (c : Command) (a : Reply) → MadeFrees r.script.topology (machine r) (next r.script (machine r) (step.Make client)) client c a
        → Accounts new.made left new.present new.registers new.tracker r.script.topology.crtcs c a old.freed freed
        → AreFreed r.script (r.steps ++ step.Make client ∷ []) freed
    at (command.AddFb label buffer) (reply.Made id) frees kept =
        added_freed r.script r.steps
        (step.Make client) plain stands.history is_legal freed stands.freed kept.items
        (let places = kept.places in omega (arith, places)) frees
    at (command.CloseFb label) reply.Done frees records =
        let tell = tell_needs stands.formed.device after in
        let now = records frees.now (ap (λ things. thing_labelled things label) (sym after.world.things) ∙ frees.found) in
        told_freed r.script r.steps (step.Make client) plain stands.history is_legal freed stands.freed
        frees.told
        (now.items r.script.topology n tell ∙ ap (λ id. old.freed.items ++ freed_among r.script.topology n (id ∷ [])) frees.same_id)
        (now.places r.script.topology n tell ∙ ap (λ id. freed.places + length (freed_among r.script.topology n (id ∷ []))) frees.same_id)
    at _ _ frees kept = quiet_freed r.script r.steps (step.Make client) plain stands.history is_legal old.freed freed stands.freed
        kept.items (let places = kept.places in omega (arith, places)) frees

  -- What is stored

  same_things : (machine r).device.world.things ≡ old.made.things
  same_things = stands.stores.world.things

  ends : (machine r).device.world.next_id ≡ 1000 + length (machine r).device.world.things
  ends = (history_kept r.script r.steps (plain-from r.script stands.formed) stands.history).present.lawful.numbered.next

  leaves_fbs : LeavesFbs old.made c told (fbs_after old.made client c)
  leaves_fbs = subst (λ a. LeavesFbs old.made c a (fbs_after old.made client c)) answered
      (execute_leaves r.script.topology (machine r).device.world old.made client c same_things)

  -- the framebuffers with their references once the command was executed
  pub may_account : (made : Made) → (next r.script (machine r) (step.Make client)).device.world.things ≡ made.things
      → made.fbs ≡ fbs_after old.made client c → MayAccount made c told
  may_account made same is_fbs = at c told frees_made is_fbs where
    at : (c : Command) (a : Reply) → MadeFrees r.script.topology (machine r) (next r.script (machine r) (step.Make client)) client c a
        → made.fbs ≡ fbs_after old.made client c → MayAccount made c a
    at (command.AddFb label buffer) (reply.Made id) frees is_fbs =
        added_takes r.script.topology (machine r) n client label buffer id frees
        (numbered_of stands) ends old.made same_things stands.stores.world.next_id stands.stored made.fbs is_fbs
    at (command.CloseFb label) reply.Done frees is_fbs = λ u found.
        subst (λ xs. AreHeld made.things xs (u.id ∷ []))
        (sym (closed_is r.script.topology (machine r) n client label frees old.made same_things is_fbs))
        (closed_held r.script.topology (machine r) n client label frees
        (numbered_of stands) old.made.fbs stands.stored same found)
    at _ _ frees is_fbs = tt

  -- what is needed after the step is stored then
  pub made_stored : (new : Stores) (freed : Reserved (ℕ × ℕ)) (left : Made)
      → StandsAt r.script (next r.script (machine r) (step.Make client)) new → new.made.fbs ≡ fbs_after old.made client c
      → Accounts new.made left new.present new.registers new.tracker r.script.topology.crtcs c told old.freed freed
      → IsLeft r.script.topology (next r.script (machine r) (step.Make client)) new.made left
  made_stored new freed left after is_fbs accounts = at c told frees_made leaves_fbs is_fbs accounts where
    at : (c : Command) (a : Reply) → MadeFrees r.script.topology (machine r) (next r.script (machine r) (step.Make client)) client c a
        → LeavesFbs old.made c a (fbs_after old.made client c) → new.made.fbs ≡ fbs_after old.made client c
        → Accounts new.made left new.present new.registers new.tracker r.script.topology.crtcs c a old.freed freed
        → IsLeft r.script.topology (next r.script (machine r) (step.Make client)) new.made left
    at (command.AddFb label buffer) (reply.Made id) frees leaves is_fbs kept = record {
      fbs = fbs_taken new.made.fbs id;
      same = kept.made;
      stored = taken_stored r.script.topology (machine r) n client label buffer id frees
          (numbered_of stands) ends old.made same_things stands.stores.world.next_id stands.stored new.made.fbs is_fbs;
    }
    at (command.CloseFb label) reply.Done frees leaves is_fbs records =
        let t = r.script.topology in
        let now = records frees.now (ap (λ things. thing_labelled things label) (sym after.world.things) ∙ frees.found) in
        let were = closed_were t (machine r) n client label frees (numbered_of stands) old.made.fbs stands.stored in
        record {
          fbs = without_freed (freed_among t n (frees.now.id ∷ [])) new.made.fbs;
          same = now.made t n (tell_needs stands.formed.device after);
          stored = subst (λ id. AreStored t n (without_freed (freed_among t n (id ∷ [])) new.made.fbs)) (sym frees.same_id)
              (told_stored new.made.fbs (numbered_of stands) frees.told
              (subst (WereStored t (machine r) n)
              (sym (closed_is t (machine r) n client label frees old.made same_things is_fbs)) were));
        }
    at _ _ frees leaves is_fbs kept = record {
      fbs = new.made.fbs;
      same = kept.made;
      stored = quiet_stored r.script.topology (machine r) n new.made.fbs frees
          (subst (AreStored r.script.topology (machine r)) (sym (is_fbs ∙ leaves)) stands.stored);
    }
