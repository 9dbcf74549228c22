-- What is freed along a history.
use Rattle.std.proofs.Common.{◌≡◌, ℕ, suc, ◌+◌, ◌≤◌, List, [], ◌∷◌, ◌++◌, length, map, Bool, true, false, ◌==◌, Option, Some, refl, sym, ap}
use Rattle.std.proofs.Common.{◌∙◌, subst, arith, inl, inr, ◌⊎◌}
use Rattle.std.specs.Prelude.{filter}
use Rattle.std.proofs.lemmas.Bool.{cond-false, false_from_ne_true, false≢true, ne_eqb}
use Rattle.kms_model.specs.declared.objects.Kind.TheVariants.{Crtc}
use Rattle.kms_model.specs.declared.replies.Step.{Step}
use Rattle.kms_model.specs.declared.replies.Step.TheVariants as step
use Rattle.kms_model.specs.declared.runs.Latch.{Latch}
use Rattle.kms_model.specs.declared.scripts.Command.{Command}
use Rattle.kms_model.specs.declared.scripts.Request.{Request}
use Rattle.kms_model.specs.declared.scripts.Script.{Script}
use Rattle.kms_model.specs.declared.worlds.Thing.{Thing}
use Rattle.kms_model.specs.Device.Execution.{committed, execute}
use Rattle.kms_model.specs.Device.Objects.{ids_of, index_of, object_id}
use Rattle.kms_model.specs.Device.World.{thing_with_id}
use Rattle.kms_model.specs.Machine.Commits.{has_number}
use Rattle.kms_model.specs.Machine.Effects.{answers, counts_vblank, goes_on, next, signals}
use Rattle.kms_model.specs.Machine.Framebuffers.{freed_from, is_needed, picture_names}
use Rattle.kms_model.specs.Machine.Histories.{at, is_history, last_latched, legal}
use Rattle.kms_model.specs.Machine.Registers.{decoded_picture}
use Rattle.kms_model.specs.Machine.State.{Machine, command_at, count_at, first_machine}
use Rattle.kms_model.specs.Machine.Steps.{is_making}
use Rattle.kms_model.proofs.Items.{IsIn, IsObject, ids-in}
use Rattle.kms_model.proofs.ShownLemmas.{with-id}
use Rattle.kms_laws.proofs.EachStep.{Carries, by_bool, by_fence, by_latch, by_two, each_step, latched_as, made_as, swapped_as}
use Rattle.kms_laws.proofs.Executed.{execute_follows}
use Rattle.kms_laws.proofs.Objects.{crtc_index}
use Rattle.kms_laws.proofs.Steps.{Holds, IsPlainScript, flushed_at, history_kept, not_atomic, step_kept}
use Rattle.kms_laws.proofs.Traversal.{commit_of, step_keeps}
use Rattle.kms_laws.proofs.Whole.{Whole, history_whole, whole_kept}
use Rattle.kms_laws.proofs.Turning.{run-more}
use Rattle.kms_core.specs.Freeing.{AreAllOf, AreFreed, freed_among, label_and_id, may_free}
use Rattle.kms_core.specs.Logs.{Reserved}
use Rattle.kms_core.proofs.freeing.FreedBetween.{freed_as, freed_last, lost}
use Rattle.kms_core.proofs.freeing.FreedLatches.{latch_told}
use Rattle.kms_core.proofs.freeing.FreedMakes.{IsAdded, MadeFrees, made_frees}
use Rattle.kms_core.proofs.freeing.FreedSteps.{IsQuiet, IsTold, SameNeeds, cleaned_as, needs_of, quiet_same, stays, swap_quiet}

-- What each step changes of the parts that tell what is needed

pub record Commits (s : Script) (m n : Machine) (client : ℕ) : Type 0 where
  pub request : Request
  pub world : n.device.world ≡ (committed s.topology m.device.world client request).world
  pub commits : n.device.commits ≡ commit_of m client request ∷ m.device.commits
  pub cleaned : n.device.marks.cleaned ≡ m.device.marks.cleaned
  pub live : n.device.live ≡ m.device.live

pub record Executes (s : Script) (m n : Machine) (client : ℕ) : Type 0 where
  pub command : Command
  pub at_place : command_at s m client ≡ Some command
  pub making : is_making command ≡ true
  pub world : n.device.world ≡ (execute s.topology m.device.world client command).world
  pub commits : n.device.commits ≡ m.device.commits
  pub cleaned : n.device.marks.cleaned ≡ m.device.marks.cleaned
  pub live : n.device.live ≡ m.device.live

pub record Latches (s : Script) (m n : Machine) (c : ℕ) : Type 0 where
  pub world : n.device.world ≡ m.device.world
  pub commits : n.device.commits ≡ m.device.commits
  pub cleaned : n.device.marks.cleaned ≡ m.device.marks.cleaned
  pub latch : Latch
  pub of_crtc : latch.crtc ≡ index_of c
  pub is_crtc : IsIn c (ids_of s.topology Crtc)
  pub recorded : n.records.latches ≡ latch ∷ m.records.latches

abbrev pub Changes : Script → Machine → Step → Machine → Type 0
Changes s m (step.Swap client) n = Commits s m n client
Changes s m (step.Make client) n = Executes s m n client
Changes s m (step.Flush k kind index) n = SameNeeds m n ⊎ Latches s m n (object_id kind index)
Changes s m (step.Vblank kind index) n = SameNeeds m n ⊎ Latches s m n (object_id kind index)
Changes s m (step.Cleanup k) n = n ≡ cleaned_as m k
Changes s m _ n = SameNeeds m n

module _ (s : Script) (m : Machine) where
  same : SameNeeds m m
  same = record { world = refl; commits = refl; cleaned = refl; live = refl }

  committing : (client : ℕ) (r : Request) (b w : Bool) → Commits s m (swapped_as s.topology b w m client r) client
  committing client r b w =
      by_two (λ b w. Commits s m (swapped_as s.topology b w m client r) client)
      (record { request = r; world = refl; commits = refl; cleaned = refl; live = refl })
      (record { request = r; world = refl; commits = refl; cleaned = refl; live = refl })
      (record { request = r; world = refl; commits = refl; cleaned = refl; live = refl })
      (record { request = r; world = refl; commits = refl; cleaned = refl; live = refl }) b w

  executing : (client : ℕ) (c : Command) → command_at s m client ≡ Some c → is_making c ≡ true → (b : Bool)
      → Executes s m (made_as b m client (execute s.topology m.device.world client c)) client
  executing client c e making b =
      by_bool (λ b. Executes s m (made_as b m client (execute s.topology m.device.world client c)) client)
      (record { command = c; at_place = e; making = making; world = refl; commits = refl; cleaned = refl; live = refl })
      (record { command = c; at_place = e; making = making; world = refl; commits = refl; cleaned = refl; live = refl }) b

  flushing : (k c : ℕ) → IsIn c (ids_of s.topology Crtc) → (b : Bool) (o : Option ℕ)
      → Latches s m (latched_as s.topology b o (flushed_at m k c) k c (count_at m.device c)) c
  flushing k c is b o =
      by_latch (λ b o. Latches s m (latched_as s.topology b o (flushed_at m k c) k c (count_at m.device c)) c)
      (record { world = refl; commits = refl; cleaned = refl; latch = _; of_crtc = refl; is_crtc = is; recorded = refl })
      (λ fence. record { world = refl; commits = refl; cleaned = refl; latch = _; of_crtc = refl; is_crtc = is; recorded = refl })
      (record { world = refl; commits = refl; cleaned = refl; latch = _; of_crtc = refl; is_crtc = is; recorded = refl })
      (λ fence. record { world = refl; commits = refl; cleaned = refl; latch = _; of_crtc = refl; is_crtc = is; recorded = refl }) b o

  blanking : (k c : ℕ) → IsIn c (ids_of s.topology Crtc) → (b : Bool) (o : Option ℕ)
      → Latches s m (latched_as s.topology b o (counts_vblank m c) k c (count_at m.device c + 1)) c
  blanking k c is b o =
      by_latch (λ b o. Latches s m (latched_as s.topology b o (counts_vblank m c) k c (count_at m.device c + 1)) c)
      (record { world = refl; commits = refl; cleaned = refl; latch = _; of_crtc = refl; is_crtc = is; recorded = refl })
      (λ fence. record { world = refl; commits = refl; cleaned = refl; latch = _; of_crtc = refl; is_crtc = is; recorded = refl })
      (record { world = refl; commits = refl; cleaned = refl; latch = _; of_crtc = refl; is_crtc = is; recorded = refl })
      (λ fence. record { world = refl; commits = refl; cleaned = refl; latch = _; of_crtc = refl; is_crtc = is; recorded = refl }) b o

  carries_changes : Carries s m (Changes s m)
  carries_changes = record {
    locks = record {
      begins = λ client c e atomic idle. record { world = refl; commits = refl; cleaned = refl; live = refl };
      takes = λ client kind index is_there lock free. record { world = refl; commits = refl; cleaned = refl; live = refl };
      meets = λ client kind index holder is_there lock held. record { world = refl; commits = refl; cleaned = refl; live = refl };
      backs = λ client back. record { world = refl; commits = refl; cleaned = refl; live = refl };
      relocks = λ client object asked free. record { world = refl; commits = refl; cleaned = refl; live = refl };
      returned = λ client k e clean. record { world = refl; commits = refl; cleaned = refl; live = refl };
    };
    answers = record {
      refuses = λ client r e taking may. record { world = refl; commits = refl; cleaned = refl; live = refl };
      tests = λ client r e taking may. record { world = refl; commits = refl; cleaned = refl; live = refl };
      swaps = λ client r e taking may b w eb ew. committing client r b w;
      makes = λ client c e making idle b eb. executing client c e making b;
      signalled = λ client c e is_signal idle o.
          by_fence (λ o. SameNeeds m (goes_on (signals (answers m client (execute s.topology m.device.world client c).reply) o) client))
          (record { world = refl; commits = refl; cleaned = refl; live = refl })
          (λ fence. record { world = refl; commits = refl; cleaned = refl; live = refl }) o;
      read_none = λ client c e is_wait idle none. record { world = refl; commits = refl; cleaned = refl; live = refl };
      read_one = λ client c e is_wait idle event events some. record { world = refl; commits = refl; cleaned = refl; live = refl };
    };
    tails = record {
      claimed = λ k h. record { world = refl; commits = refl; cleaned = refl; live = refl };
      written = λ k kind index found. record { world = refl; commits = refl; cleaned = refl; live = refl };
      waits = λ k kind index written found. inl (record { world = refl; commits = refl; cleaned = refl; live = refl });
      flushed = λ k kind index written found b o eb eo. inr (flushing k (object_id kind index) found.is_crtc b o);
      done = λ k a b c d. record { world = refl; commits = refl; cleaned = refl; live = refl };
      counted = λ kind index is none. inl (record { world = refl; commits = refl; cleaned = refl; live = refl });
      blanked = λ kind index k is some b o eb eo. inr (blanking k (object_id kind index) is b o);
      cleaned = λ k a b c. refl;
    };
    stalled = λ h. record { world = refl; commits = refl; cleaned = refl; live = refl };
  }

  pub changes : (step : Step) → legal s m step ≡ true → Changes s m step (next s m step)
  changes step legal_step = each_step s m (Changes s m) carries_changes step legal_step

-- A history that goes on by a legal step

module _ (s : Script) (h : List Step) (last : Step) (plain : IsPlainScript s) (is : is_history s h ≡ true)
    (is_legal : legal s (at s h) last ≡ true) where
  abbrev before : Machine
  before = at s h

  abbrev after : Machine
  after = next s (at s h) last

  H : Holds s (at s h)
  H = history_kept s h plain is

  H_after : Holds s (next s (at s h) last)
  H_after = step_kept s (at s h) last plain H is_legal

  W : Whole s.topology (at s h).device (at s h).records.latches
  W = history_whole s h plain is

  W_after : Whole s.topology (next s (at s h) last).device (next s (at s h) last).records.latches
  W_after = step_keeps s (Whole s.topology) (whole_kept s plain) (at s h) H W last is_legal

  unclean : has_number (at s h).device.marks.cleaned (length (at s h).device.commits) ≡ false
  unclean = false_from_ne_true _ (λ y.
      let low = H.tail.marks.claimed (length (at s h).device.commits)
      (H.tail.marks.done (length (at s h).device.commits) (H.tail.marks.clean_done (length (at s h).device.commits) y)).0
      in absurd (omega (arith, low)))

  back_same : (t_n : (next s (at s h) last).device.world ≡ (at s h).device.world) (x : Thing) → IsIn x (at s h).device.world.things
      → is_needed s.topology (next s (at s h) last) x ≡ true → is_needed s.topology (at s h) x ≡ true
  back_same same_world x x_in needed =
      stays h last plain is is_legal x x_in (needs_of s.topology (next s (at s h) last) x needed).framebuffer
      (ap (λ w. thing_with_id w.things x.id) same_world ∙ with-id 1000 (at s h).device.world.things x H.present.lawful.numbered.things x_in)
      needed

  -- steps that free nothing
  pub quiet_swap : (client : ℕ) → Commits s (at s h) (next s (at s h) last) client → IsQuiet s.topology (at s h) (next s (at s h) last)
  quiet_swap client C =
      swap_quiet s (at s h) (next s (at s h) last) client (commit_of (at s h) client C.request)
      (record {
        holds = H;
        holds_now = H_after;
        world = C.world;
        commits = C.commits;
        own = refl;
        cleaned = C.cleaned;
        live = C.live;
        unclean = unclean;
      })
      (λ u v u_in framebuffer found needed. stays h last plain is is_legal u u_in framebuffer found needed)

  pub quiet_needs : SameNeeds (at s h) (next s (at s h) last) → IsQuiet s.topology (at s h) (next s (at s h) last)
  quiet_needs S = quiet_same s.topology H.present.lawful.numbered.things S

  -- a latch
  others_same : (c : ℕ) → Latches s (at s h) (next s (at s h) last) c → (other : ℕ) → IsIn other (ids_of s.topology Crtc) → (c ≡ other → ⊥)
      → decoded_picture s.topology (next s (at s h) last).device.live other ≡ decoded_picture s.topology (at s h).device.live other
  unfolding last_latched
  others_same c L other other_in apart =
      let o : IsObject s.topology Crtc other = ids-in s.topology Crtc other other_in in
      let not_this : L.latch.crtc ≡ o.index → ⊥ = λ e. apart
      (sym (crtc_index s.topology c H.tail.few L.is_crtc) ∙ ap (object_id Crtc) (sym L.of_crtc ∙ e) ∙ sym o.same) in
      subst (λ z. decoded_picture s.topology (next s (at s h) last).device.live z ≡ decoded_picture s.topology (at s h).device.live z)
      (sym o.same)
      (W_after.steady o.index o.within ∙ ap (λ ls. last_latched ls o.index) L.recorded ∙ cond-false (L.latch.crtc == o.index)
      L.latch.picture (last_latched (at s h).records.latches o.index) (ne_eqb L.latch.crtc o.index not_this) ∙ sym
      (W.steady o.index o.within))

  pub latch_frees : {c : ℕ} {ids : List ℕ} → Latches s (at s h) (next s (at s h) last) c
      → AreAllOf ids (λ id. picture_names id (decoded_picture s.topology (at s h).device.live c))
      → IsTold s.topology (at s h) (next s (at s h) last) ids
  latch_frees {c} {ids} L A =
      latch_told s.topology (at s h) (next s (at s h) last) c ids H.present.lawful.numbered.things
      (record { world = L.world; commits = L.commits; cleaned = L.cleaned; is_crtc = L.is_crtc; others = others_same c L })
      (back_same L.world) A

  -- a command
  pub make_frees : (client : ℕ) → (X : Executes s (at s h) (next s (at s h) last) client)
      → MadeFrees s.topology (at s h) (next s (at s h) last) client X.command
      (execute s.topology (at s h).device.world client X.command).reply
  make_frees client X =
      let follows = execute_follows s.topology (at s h).device.world client X.command H.present.lawful H.present.kept
      (plain.modes _ X.command X.at_place) (not_atomic X.command X.making) in
      made_frees s.topology (at s h) (next s (at s h) last) client X.command X.making
      (record {
        numbered = H.present.lawful.numbered.things;
        like = follows.like;
        world = X.world;
        commits = X.commits;
        cleaned = X.cleaned;
        live = X.live;
      })

  -- What stands for the history stands for it after the step

  goes_further : freed_from s (first_machine s.topology) (h ++ last ∷ []) ≡ freed_from s (first_machine s.topology) h
      ++ filter (lost (is_needed s.topology (at s h)) (is_needed s.topology (next s (at s h) last))
      (next s (at s h) last).device.world.things) (at s h).device.world.things
  goes_further = freed_last s (first_machine s.topology) h last ∙ ap (λ xs. freed_from s (first_machine s.topology) h ++ xs)
      (freed_as s (at s h) last H_after.present.lawful.numbered.things)

  joined : (xs ys : List Thing) → map label_and_id (xs ++ ys) ≡ map label_and_id xs ++ map label_and_id ys
  joined [] ys = refl
  joined (x ∷ xs) ys = ap (λ rest. label_and_id x ∷ rest) (joined xs ys)

  ends : {A : Type 0} (xs : List A) → xs ++ [] ≡ xs
  ends [] = refl
  ends (x ∷ xs) = ap (λ rest. x ∷ rest) (ends xs)

  -- with nothing freed
  pub none_freed : (v w : Reserved (ℕ × ℕ)) (k : ℕ) → AreFreed s h v → w.items ≡ v.items → v.places + k ≤ w.places
      → filter (lost (is_needed s.topology (at s h)) (is_needed s.topology (next s (at s h) last))
      (next s (at s h) last).device.world.things) (at s h).device.world.things ≡ []
      → length (filter (is_needed s.topology (next s (at s h) last)) (next s (at s h) last).device.world.things)
      ≤ length (filter (is_needed s.topology (at s h)) (at s h).device.world.things) + k
      → AreFreed s (h ++ last ∷ []) w
  none_freed v w k F items places none most = record {
    items = items ∙ F.items ∙ ap (map label_and_id)
        (sym (goes_further ∙ ap (λ xs. freed_from s (first_machine s.topology) h ++ xs) none ∙ ends _));
    places = rw (run-more s (first_machine s.topology) h last) (let few = F.places in omega (arith, few, most, places));
  }

  pub quiet_freed : (v w : Reserved (ℕ × ℕ)) → AreFreed s h v → w.items ≡ v.items → v.places ≤ w.places
      → IsQuiet s.topology (at s h) (next s (at s h) last) → AreFreed s (h ++ last ∷ []) w
  quiet_freed v w F items places Q = none_freed v w 0 F items (omega (arith, places)) Q.none (let few = Q.fewer in omega (arith, few))

  pub added_freed : {v : Reserved (ℕ × ℕ)} (w : Reserved (ℕ × ℕ)) {client label buffer id : ℕ} → AreFreed s h v → w.items ≡ v.items →
      v.places + 1 ≤ w.places
      → IsAdded s.topology (at s h) (next s (at s h) last) client label buffer id
      → AreFreed s (h ++ last ∷ []) w
  added_freed {v} w F items places Q = none_freed v w 1 F items places Q.none Q.one_more

  pub told_freed : {v : Reserved (ℕ × ℕ)} (w : Reserved (ℕ × ℕ)) {ids : List ℕ} → AreFreed s h v → IsTold s.topology (at s h) (next s
      (at s h) last) ids
      → w.items ≡ v.items ++ freed_among s.topology (next s (at s h) last) ids
      → v.places ≡ w.places + length (freed_among s.topology (next s (at s h) last) ids) → AreFreed s (h ++ last ∷ []) w
  told_freed w {ids} F T items places = record {
    items = items ∙ ap (λ xs. xs ++ freed_among s.topology (next s (at s h) last) ids) F.items ∙ ap
        (λ xs. map label_and_id (freed_from s (first_machine s.topology) h) ++ xs) (sym T.told)
        ∙ sym (joined (freed_from s (first_machine s.topology) h) _) ∙ ap (map label_and_id) (sym goes_further);
    places = rw (run-more s (first_machine s.topology) h last) (
        let few = F.places in
        let fewer = T.fewer in
        let size = sym (as_long (filter (lost (is_needed s.topology (at s h)) (is_needed s.topology (next s (at s h) last))
        (next s (at s h) last).device.world.things) (at s h).device.world.things)) ∙ ap length T.told in
        omega (arith, few, fewer, size, places));
  } where
    as_long : (xs : List Thing) → length (map label_and_id xs) ≡ length xs
    as_long [] = refl
    as_long (x ∷ xs) = ap suc (as_long xs)

  -- a step of a kind that frees nothing
  pub kind_quiet : may_free last ≡ false → IsQuiet s.topology (at s h) (next s (at s h) last)
  kind_quiet quiet = by_kind last quiet (changes s (at s h) last is_legal) quiet_swap quiet_needs where
    by_kind : (last : Step) → may_free last ≡ false → Changes s (at s h) last (next s (at s h) last)
        → ((client : ℕ) → Commits s (at s h) (next s (at s h) last) client → IsQuiet s.topology (at s h) (next s (at s h) last))
        → (SameNeeds (at s h) (next s (at s h) last) → IsQuiet s.topology (at s h) (next s (at s h) last))
        → IsQuiet s.topology (at s h) (next s (at s h) last)
    by_kind (step.Swap client) e change swap needs = swap client change
    by_kind (step.Make client) e change swap needs = absurd (false≢true (sym e))
    by_kind (step.Flush k kind index) e change swap needs = absurd (false≢true (sym e))
    by_kind (step.Vblank kind index) e change swap needs = absurd (false≢true (sym e))
    by_kind (step.Cleanup k) e change swap needs = absurd (false≢true (sym e))
    by_kind (step.Begin client) e change swap needs = needs change
    by_kind (step.Lock client kind index) e change swap needs = needs change
    by_kind (step.BackOff client) e change swap needs = needs change
    by_kind (step.Relock client) e change swap needs = needs change
    by_kind (step.Refuse client) e change swap needs = needs change
    by_kind (step.Test client) e change swap needs = needs change
    by_kind (step.Signal client) e change swap needs = needs change
    by_kind (step.Claim k) e change swap needs = needs change
    by_kind (step.Write k kind index) e change swap needs = needs change
    by_kind (step.HwDone k) e change swap needs = needs change
    by_kind (step.Read client) e change swap needs = needs change
    by_kind (step.Return client) e change swap needs = needs change
    by_kind step.Stall e change swap needs = needs change
