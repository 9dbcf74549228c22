-- Execution keeps a world lawful.
use Rattle.std.proofs.Common.{◌≡◌, ℕ, ◌+◌, Bool, true, false, List, [], ◌∷◌, ◌++◌, Option, Some, None, arith, refl, sym, ap, ◌∙◌}
use Rattle.std.proofs.Common.{length-append}
use Rattle.std.specs.Prelude.{◌&&◌, ◌==◌, not, is_none, if◌then◌else◌, nat_eq}
use Rattle.std.specs.List.{list_any}
use Rattle.std.specs.Ordering.{int_eq}
use Rattle.std.proofs.lemmas.List.{length-map}
use Rattle.std.proofs.lemmas.Bool.{eq-eqb, and_from, or_from, and_right, not_from_true}
use Rattle.std.proofs.lemmas.Bool.Decides.{Decides-int_eq}
use Rattle.kms_model.specs.declared.objects.Kind.{Kind}
use Rattle.kms_model.specs.declared.objects.Kind.TheVariants as kind
use Rattle.kms_model.specs.declared.objects.Mode.{Mode}
use Rattle.kms_model.specs.declared.objects.PlaneInfo.{PlaneInfo}
use Rattle.kms_model.specs.declared.objects.Topology.{Topology}
use Rattle.kms_model.specs.declared.pictures.FbInfo.{FbInfo}
use Rattle.kms_model.specs.declared.properties.TheConstants.{ACTIVE}
use Rattle.kms_model.specs.declared.replies.Reply.TheVariants as reply
use Rattle.kms_model.specs.declared.scripts.Assign.{Assign}
use Rattle.kms_model.specs.declared.scripts.Command.{Command}
use Rattle.kms_model.specs.declared.scripts.Command.TheVariants as command
use Rattle.kms_model.specs.declared.scripts.Request.{Request}
use Rattle.kms_model.specs.declared.states.PlaneState.{PlaneState}
use Rattle.kms_model.specs.declared.worlds.Content.{Content}
use Rattle.kms_model.specs.declared.worlds.Content.TheVariants as content
use Rattle.kms_model.specs.declared.worlds.Setting.{Setting}
use Rattle.kms_model.specs.declared.worlds.Thing.{Thing}
use Rattle.kms_model.specs.declared.worlds.World.{World}
use Rattle.kms_model.specs.Firsts.{first_some, number_if}
use Rattle.kms_model.specs.Request.Flags.{is_test}
use Rattle.kms_model.specs.Device.Objects.{first_id, ids_of}
use Rattle.kms_model.specs.Device.Modes.{mode_numbers, same_numbers, same_mode}
use Rattle.kms_model.specs.Device.World.{value, thing_labelled}
use Rattle.kms_model.specs.Device.States.{mode_at, crtc_at, plane_at}
use Rattle.kms_model.specs.Request.Lookups.{look_up}
use Rattle.kms_model.specs.Request.Apply.{after}
use Rattle.kms_model.specs.Request.Named.{differs, is_rerouted, needs_modeset}
use Rattle.kms_model.specs.Script.Grammar.{format_bit}
use Rattle.kms_model.specs.Device.Masks.{has_bit}
use Rattle.kms_model.specs.Frames.Rectangles.{fits_source}
use Rattle.kms_model.specs.Request.Refusals.{flags_refusal, assigns_refusal, early_refusal}
use Rattle.kms_model.specs.Request.Checks.{switches_crtc, has_crtc, is_beyond, is_active, with_ids, placed_refusal, plane_refusal_with}
use Rattle.kms_model.specs.Request.Checks.{plane_refusal, plane_refusal_at, crtc_refusal, crtc_refusal_at, conn_refusal_at}
use Rattle.kms_model.specs.Request.Checks.{clone_refusal_at, route_refusal_at, shown_refusal_at, event_refusal, late_refusal}
use Rattle.kms_model.specs.Request.Touched.{asks_signal, out_fence_label}
use Rattle.kms_model.specs.Device.Execution.{make, make_unless, answer, add_fb, buffer_of, BufferInfo}
use Rattle.kms_model.specs.Device.Sound.{are_held, empty_request, IsLawful, IsSound}
use Rattle.kms_model.specs.Request.Verdict.{verdict}
use Rattle.kms_model.specs.Device.Closing.{closed_if, closed_in}
use Rattle.kms_model.specs.Device.Execution.{close, close_unless, signal_unless, make_out_fence, make_out_fences, committed, commit}
use Rattle.kms_model.specs.Device.Execution.{execute, new_buffer_refusal, destroy_refusal, close_refusal, signal_refusal}
use Rattle.kms_model.proofs.Items.{AreNone, or_else-none, or_else-nones, none-number_if, first_some-at, first_some-none, list_any-none}
use Rattle.kms_model.proofs.ThingLemmas.{numbered-push, numbered-closed, seen-closed}
use Rattle.kms_model.proofs.HeldValues.{ArePlainHeld, HoldsPlain, are_held-kept, held-apply, held-push, held-seen, kept_row, numbered-for}
use Rattle.kms_model.proofs.HeldValues.{plain-for, plain_held-from}
use Rattle.kms_model.proofs.SeenLemmas.{alike-push, alike-closed, late-seen}

-- A request without assignments and flags at the same values

same_numbers-self : (ns : List ℕ) → same_numbers ns ns ≡ true
same_numbers-self [] = refl
same_numbers-self (n ∷ ns) = and_from (nat_eq n n) (same_numbers ns ns) (eq-eqb n n refl) (same_numbers-self ns)

pub same_mode-self : (m : Option Mode) → same_mode m m ≡ true
same_mode-self None = refl
same_mode-self (Some m) = and_from (same_numbers (mode_numbers m) (mode_numbers m)) (same_numbers m.name m.name)
    (same_numbers-self (mode_numbers m)) (same_numbers-self m.name)

pub differs-self : (b : Bool) → differs b b ≡ false
differs-self true = refl
differs-self false = refl

-- no CRTC needs a modeset where nothing changes
pub needs_modeset-self : (t : Topology) (things : List Thing) (values : List Setting) (crtc : ℕ) → needs_modeset t things values values crtc
    ≡ false
needs_modeset-self t things values crtc =
    or_from (not (same_mode (mode_at things values crtc) (mode_at things values crtc))) _
    (not_from_true (same_mode (mode_at things values crtc) (mode_at things values crtc)) (same_mode-self (mode_at things values crtc)))
    (or_from (not (int_eq (value values crtc ACTIVE) (value values crtc ACTIVE))) _
    (not_from_true (int_eq (value values crtc ACTIVE) (value values crtc ACTIVE))
    ((Decides-int_eq (value values crtc ACTIVE) (value values crtc ACTIVE)).1 refl))
    (list_any-none (is_rerouted values values crtc) (ids_of t kind.Conn) (λ conn is. differs-self (crtc_at values conn == crtc))))

switches_crtc-self : (crtc : ℕ) → switches_crtc crtc crtc ≡ false
switches_crtc-self crtc = and_right (not (crtc == 0)) (not (crtc == 0) && not (crtc == crtc))
    (and_right (not (crtc == 0)) (not (crtc == crtc)) (not_from_true (crtc == crtc) (eq-eqb crtc crtc refl)))

placed-again : (info : PlaneInfo) (fb : FbInfo) (old new : PlaneState) → placed_refusal info fb old new ≡ None
    → placed_refusal info fb new new ≡ None
placed-again info fb old new none =
    let eleven = or_else-none (number_if 11 (not (has_crtc info.crtcs new.crtc))) _ none in
    let twelve = or_else-none (number_if 12 (not (has_bit info.formats (format_bit fb.format)))) _ eleven.second_none in
    let thirteen = or_else-none (number_if 13 (is_beyond new.dst)) _ twelve.second_none in
    let fourteen = or_else-none (number_if 14 (not (fits_source new.src fb.width fb.height))) _ thirteen.second_none in
    or_else-nones _ _ eleven.first_none (or_else-nones _ _ twelve.first_none
    (or_else-nones _ _ thirteen.first_none (or_else-nones _ _ fourteen.first_none
    (none-number_if 15 (switches_crtc new.crtc new.crtc) (switches_crtc-self new.crtc)))))

plane_with-again : (info : PlaneInfo) (old new : PlaneState) (fb : Option FbInfo) (off : Bool) → plane_refusal_with info old new fb off
    ≡ None → plane_refusal_with info new new fb off ≡ None
plane_with-again info old new None true none = refl
plane_with-again info old new None false none = absurd cc
plane_with-again info old new (Some fb) true none = absurd cc
plane_with-again info old new (Some fb) false none = placed-again info fb old new none

-- a plane that passed stays where it is
pub plane-again : (info : PlaneInfo) (old new : PlaneState) → plane_refusal info old new ≡ None → plane_refusal info new new ≡ None
unfolding plane_refusal
plane-again info old new none = plane_with-again info old new new.fb (new.crtc == 0) none

pub crtc-again : (asks was_on is_on_ : Bool) (mode : Option Mode) → crtc_refusal asks was_on is_on_ mode ≡ None
    → crtc_refusal false is_on_ is_on_ mode ≡ None
crtc-again asks was_on is_on_ mode none =
    let sixteen = or_else-none (number_if 16 (is_on_ && is_none mode)) _ none in
    or_else-nones _ _ sixteen.first_none refl

-- What passed a request's checks passes those of the request without flags and assignments.
pub late-again : (t : Topology) (things : List Thing) (old new : List Setting) (r : Request) → late_refusal t things old new r ≡ None
    → late_refusal t things new new empty_request ≡ None
unfolding late_refusal
late-again t things old new r none =
    let events = or_else-none (event_refusal t old new r) _ none in
    let planes = or_else-none (first_some (plane_refusal_at things old new) (with_ids (first_id kind.Plane) t.planes)) _ events.second_none
    in
    let crtcs = or_else-none (first_some (crtc_refusal_at things old new r) (ids_of t kind.Crtc)) _ planes.second_none in
    let conns = or_else-none (first_some (conn_refusal_at new) (with_ids (first_id kind.Conn) t.conns)) _ crtcs.second_none in
    let clones = or_else-none (first_some (clone_refusal_at t new) (ids_of t kind.Crtc)) _ conns.second_none in
    let routes = or_else-none (first_some (route_refusal_at t things new) (ids_of t kind.Crtc)) _ clones.second_none in
    let shown = or_else-none (first_some (shown_refusal_at t.profile things new) (ids_of t kind.Plane)) _ routes.second_none in
    let planes_again : first_some (plane_refusal_at things new new) (with_ids (first_id kind.Plane) t.planes)
    ≡ None = first_some-none (plane_refusal_at things new new) (with_ids (first_id kind.Plane) t.planes)
    (λ p is. plane-again p.1 (plane_at things old p.0) (plane_at things new p.0)
    (first_some-at (plane_refusal_at things old new) (with_ids (first_id kind.Plane) t.planes) p planes.first_none is)) in
    let crtcs_again : first_some (crtc_refusal_at things new new empty_request) (ids_of t kind.Crtc)
    ≡ None = first_some-none (crtc_refusal_at things new new empty_request) (ids_of t kind.Crtc)
    (λ crtc is. crtc-again (asks_signal old new r crtc) (is_active old crtc) (is_active new crtc) (mode_at things new crtc)
    (first_some-at (crtc_refusal_at things old new r) (ids_of t kind.Crtc) crtc crtcs.first_none is)) in
    let modesets_again : list_any (needs_modeset t things new new) (ids_of t kind.Crtc)
    ≡ false = list_any-none (needs_modeset t things new new) (ids_of t kind.Crtc) (λ crtc is. needs_modeset-self t things new crtc) in
    or_else-nones _ _ planes_again (or_else-nones _ _ crtcs_again
    (or_else-nones _ _ conns.first_none (or_else-nones _ _ clones.first_none
    (or_else-nones _ _ routes.first_none (or_else-nones _ _ shown.first_none (none-number_if 24 _ modesets_again))))))

-- The verdict on the request without flags and assignments is its first late refusal

pub late-empty : (t : Topology) (w : World) → verdict t w empty_request ≡ None
    → late_refusal t w.things w.values w.values empty_request ≡ None
unfolding verdict early_refusal assigns_refusal
late-empty t w none = none

pub verdict-empty : (t : Topology) (w : World) → late_refusal t w.things w.values w.values empty_request ≡ None
    → verdict t w empty_request ≡ None
unfolding verdict early_refusal assigns_refusal
verdict-empty t w none = none

-- Things that come and are closed

pub sound-make : (t : Topology) (w : World) (owner label : ℕ) (c : Content) → IsLawful t w → IsLawful t (make w owner label c).world
sound-make t w owner label c lawful =
    let u : Thing = record { label = label; id = w.next_id; owner = owner; content = c; is_open = true } in
    let alike = alike-push t w.things u w.values lawful.numbered.things lawful.numbered.next lawful.sound.held in
    record {
      sound = record {
        held = are_held-kept t w.things (w.things ++ u ∷ []) w.values w.values
            (λ object p row held. held-push t w.things u p.id p.range (value w.values object p.id) lawful.numbered.things
            lawful.numbered.next held) lawful.sound.held;
        accepted = verdict-empty t (make w owner label c).world
            (sym (late-seen t w.things (w.things ++ u ∷ []) w.values w.values empty_request alike alike
            (plain_held-from t w.things w.values lawful.sound.held))
            ∙ late-empty t w lawful.sound.accepted);
      };
      numbered = record {
        things = numbered-push 1000 w.things u lawful.numbered.things lawful.numbered.next;
        next = ap (λ n. n + 1)
            lawful.numbered.next ∙ omega (arith, length-append w.things (u ∷ []));
      };
    }

sound-closed : (t : Topology) (w : World) (id : ℕ) → IsLawful t w → IsLawful t (record w { things = closed_in w.things id })
sound-closed t w id lawful =
    let alike = alike-closed t w.things id w.values in
    record {
      sound = record {
        held = are_held-kept t w.things (closed_in w.things id) w.values w.values
            (λ object p row held. held-seen t w.things (closed_in w.things id) p.id p.range (value w.values object p.id)
            (seen-closed w.things id (value w.values object p.id)) held) lawful.sound.held;
        accepted = verdict-empty t (record w { things = closed_in w.things id })
            (sym (late-seen t w.things (closed_in w.things id) w.values w.values empty_request alike alike
            (plain_held-from t w.things w.values lawful.sound.held))
            ∙ late-empty t w lawful.sound.accepted);
      };
      numbered = record {
        things = numbered-closed 1000 w.things id lawful.numbered.things;
        next = lawful.numbered.next ∙ ap (λ n. 1000 + n)
            (sym (length-map w.things (closed_if id)));
      };
    }

pub sound-close : (t : Topology) (w : World) (o : Option Thing) → IsLawful t w → IsLawful t (close w o)
sound-close t w None lawful = lawful
sound-close t w (Some u) lawful = sound-closed t w u.id lawful

-- Requests

pub accepted-parts : (t : Topology) (w : World) (r : Request) → verdict t w r ≡ None
    → AreNone (early_refusal t (look_up w) r) (late_refusal t w.things w.values (after w r) r)
unfolding verdict
accepted-parts t w r none = or_else-none (early_refusal t (look_up w) r) (late_refusal t w.things w.values (after w r) r) none

pub early-parts : (t : Topology) (w : World) (r : Request) → early_refusal t (look_up w) r ≡ None
    → AreNone (flags_refusal r.flags) (assigns_refusal t (look_up w) [] r.assigns)
unfolding early_refusal
early-parts t w r none = or_else-none (flags_refusal r.flags) (assigns_refusal t (look_up w) [] r.assigns) none

-- the values after a request that the early refusals let through are held
pub apply-held : (t : Topology) (w : World) (r : Request) → IsLawful t w → early_refusal t (look_up w) r ≡ None
    → are_held t w.things (after w r) ≡ true
apply-held t w r lawful early =
    are_held-kept t w.things w.things w.values (after w r)
    (λ object p row held. held-apply t w [] r.assigns w.values object p (numbered-for p.range w.things lawful.numbered.things) row
    (early-parts t w r early).second_none held) lawful.sound.held

-- so are those that are no things, whatever the numbers of the things
pub plain-apply : (t : Topology) (w : World) (r : Request) → IsSound t w → early_refusal t (look_up w) r ≡ None
    → ArePlainHeld t w.things (after w r)
plain-apply t w r sound early =
    let before : ArePlainHeld t w.things w.values = plain_held-from t w.things w.values sound.held in
    record { crtcs = kept kind.Crtc before.crtcs; planes = kept kind.Plane before.planes; conns = kept kind.Conn before.conns }
  where
    kept : (k : Kind) → HoldsPlain t w.things w.values k → HoldsPlain t w.things (after w r) k
    kept k all = record {
      at = λ object p is row plain. held-apply t w [] r.assigns w.values object p (plain-for p.range w.things plain) (kept_row k p row)
          (early-parts t w r early).second_none (all.at object p is row plain);
    }

pub sound-apply : (t : Topology) (w : World) (r : Request) (commits : ℕ) → IsLawful t w → verdict t w r ≡ None
    → IsLawful t (record w { values = after w r; commits = commits })
sound-apply t w r commits lawful none =
    let parts = accepted-parts t w r none in
    record {
      sound = record {
        held = apply-held t w r lawful parts.first_none;
        accepted = verdict-empty t (record w { values = after w r; commits = commits })
            (late-again t w.things w.values (after w r) r parts.second_none);
      };
      numbered = record { things = lawful.numbered.things; next = lawful.numbered.next };
    }

sound-out_fence : (t : Topology) (client : ℕ) (w : World) (label : Option ℕ) → IsLawful t w → IsLawful t (make_out_fence client w label)
sound-out_fence t client w None lawful = lawful
sound-out_fence t client w (Some label) lawful = sound-make t w client label content.OutFence lawful

pub sound-out_fences : (t : Topology) (client : ℕ) (assigns : List Assign) (w : World) (crtcs : List ℕ) → IsLawful t w
    → IsLawful t (make_out_fences client assigns w crtcs)
sound-out_fences t client assigns w [] lawful = lawful
sound-out_fences t client assigns w (crtc ∷ crtcs) lawful =
    sound-out_fences t client assigns (make_out_fence client w (out_fence_label assigns crtc)) crtcs
    (sound-out_fence t client w (out_fence_label assigns crtc) lawful)

sound-committed : (t : Topology) (w : World) (client : ℕ) (r : Request) → IsLawful t w → verdict t w r ≡ None
    → IsLawful t (committed t w client r).world
sound-committed t w client r lawful none =
    sound-out_fences t client r.assigns (record w { values = after w r; commits = w.commits + 1 }) (ids_of t kind.Crtc)
    (sound-apply t w r (w.commits + 1) lawful none)

tested-or : (t : Topology) (w : World) (client : ℕ) (r : Request) (test : Bool) → IsLawful t w → IsLawful t (committed t w client r).world
    → IsLawful t (if test then answer w reply.Tested else committed t w client r).world
tested-or t w client r true lawful after = lawful
tested-or t w client r false lawful after = after

sound-commit : (t : Topology) (w : World) (client : ℕ) (r : Request) (o : Option ℕ) → verdict t w r ≡ o → IsLawful t w
    → IsLawful t (commit t w client r o).world
sound-commit t w client r None is lawful = tested-or t w client r (is_test r.flags) lawful (sound-committed t w client r lawful is)
sound-commit t w client r (Some n) is lawful = lawful

sound-make_unless : (t : Topology) (w : World) (owner label : ℕ) (c : Content) (o : Option ℕ) → IsLawful t w
    → IsLawful t (make_unless w owner label c o).world
sound-make_unless t w owner label c None lawful = sound-make t w owner label c lawful
sound-make_unless t w owner label c (Some n) lawful = lawful

sound-add_fb : (t : Topology) (w : World) (owner label : ℕ) (b : Option BufferInfo) → IsLawful t w
    → IsLawful t (add_fb w owner label b).world
sound-add_fb t w owner label None lawful = lawful
sound-add_fb t w owner label (Some b) lawful = sound-make t w owner label _ lawful

sound-close_unless : (t : Topology) (w : World) (u : Option Thing) (o : Option ℕ) → IsLawful t w → IsLawful t (close_unless w u o).world
sound-close_unless t w u None lawful = sound-close t w u lawful
sound-close_unless t w u (Some n) lawful = lawful

sound-signal_unless : (t : Topology) (w : World) (o : Option ℕ) → IsLawful t w → IsLawful t (signal_unless w o).world
sound-signal_unless t w None lawful = lawful
sound-signal_unless t w (Some n) lawful = lawful

-- A command leaves a lawful world lawful.
pub execution_keeps_lawful : (t : Topology) (w : World) (client : ℕ) (c : Command) → IsLawful t w → IsLawful t (execute t w client c).world
unfolding execute
execution_keeps_lawful t w client (command.Buffer label width height format pattern) lawful = sound-make_unless t w client label
    (content.Buffer width height format pattern) (new_buffer_refusal w.things width height format) lawful
execution_keeps_lawful t w client (command.AddFb label buffer) lawful = sound-add_fb t w client label
    (buffer_of w.things client buffer) lawful
execution_keeps_lawful t w client (command.Mode label m) lawful = sound-make t w client label (content.Mode m) lawful
execution_keeps_lawful t w client (command.Blob label bytes) lawful = sound-make t w client label (content.Blob bytes) lawful
execution_keeps_lawful t w client (command.Destroy label) lawful = sound-close_unless t w (thing_labelled w.things label)
    (destroy_refusal client (thing_labelled w.things label)) lawful
execution_keeps_lawful t w client (command.CloseFb label) lawful = sound-close_unless t w (thing_labelled w.things label)
    (close_refusal client (thing_labelled w.things label)) lawful
execution_keeps_lawful t w client (command.Fence label) lawful = sound-make t w client label content.Fence lawful
execution_keeps_lawful t w client (command.Signal label) lawful = sound-signal_unless t w
    (signal_refusal (thing_labelled w.things label)) lawful
execution_keeps_lawful t w client (command.Atomic r) lawful = sound-commit t w client r (verdict t w r) refl lawful
execution_keeps_lawful t w client command.Wait lawful = lawful
