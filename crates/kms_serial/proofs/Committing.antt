-- What a commit leaves of a device.
use Rattle.std.proofs.Common.{◌≡◌, ℕ, zero, suc, ◌+◌, ◌<◌, ◌≤◌, true, false, List, [], ◌∷◌, length, take, Option, Some, None, refl, sym, ap}
use Rattle.std.proofs.Common.{◌∙◌, subst, arith}
use Rattle.std.specs.Prelude.{map, slice_index_or}
use Rattle.std.specs.List.{range_with_len}
use Rattle.kms_model.specs.declared.objects.Kind.TheVariants as kind
use Rattle.kms_model.specs.declared.objects.Topology.{Topology}
use Rattle.kms_model.specs.declared.replies.Refusal.{Refusal}
use Rattle.kms_model.specs.declared.replies.Reply.TheVariants as reply
use Rattle.kms_model.specs.declared.scripts.Assign.{Assign}
use Rattle.kms_model.specs.declared.scripts.Command.TheVariants as command
use Rattle.kms_model.specs.declared.scripts.Request.{Request}
use Rattle.kms_model.specs.declared.states.Duplicates.{Duplicates}
use Rattle.kms_model.specs.declared.worlds.Content.TheVariants as content
use Rattle.kms_model.specs.declared.worlds.Thing.{Thing}
use Rattle.kms_model.specs.declared.worlds.World.{World}
use Rattle.kms_model.specs.Request.Apply.{after}
use Rattle.kms_model.specs.Device.Execution.{committed, execute, make_out_fence, make_out_fences}
use Rattle.kms_model.specs.Request.Flags.{is_test}
use Rattle.kms_model.specs.Device.Objects.{object_id}
use Rattle.kms_model.specs.Device.Execution.{Executed}
use Rattle.kms_model.specs.Device.Sound.{IsLawful}
use Rattle.std.proofs.lemmas.List.FromFn.{length-map-range_with_len}
use Rattle.kms_model.specs.Request.Touched.{out_fence_label}
use Rattle.kms_model.specs.Request.Verdict.{verdict}
use Rattle.kms_model.proofs.SeenLemmas.{AreSeenAlike}
use Rattle.kms_model.proofs.SoundKept.{execution_keeps_lawful, sound-apply, sound-out_fences}
use Rattle.kms_model.proofs.ThingLemmas.{IsSeenAlike}
use Rattle.kms_request.specs.Fences.{TellOutFences}
use Rattle.kms_serial.specs.Commands.{Grows}
use Rattle.kms_serial.specs.Device.{StandsInWorld}
use Rattle.kms_model.specs.Frames.Shown.{AreFramed}
use Rattle.kms_things.specs.Present.{IsAfter}
use Rattle.kms_things.specs.Swapping.{swapped}
use Rattle.kms_things.proofs.SwappedStates.{swapped_present}
use Rattle.kms_model.proofs.FramedLemmas.{execution_keeps_framed}
use Rattle.kms_serial.proofs.Executing.{seen_made, seen_same}
use Rattle.kms_things.proofs.SeenStates.{present_seen}

-- Out-fences

-- the first of some labels by a function of their places
labels_by : (f : ℕ → Option ℕ) (a n : ℕ) (labels : List (Option ℕ)) → n ≤ length labels
    → ((i : ℕ) → i < n → slice_index_or labels i None ≡ f (a + i)) → take n labels ≡ map f (range_with_len a n)
labels_by f a zero labels long at = refl
labels_by f a (suc n) [] long at = absurd (omega arith)
labels_by f a (suc n) (l ∷ labels) long at =
    let head : l ≡ f a = at 0 (omega arith) ∙ ap f (omega arith) in
    rw (head, labels_by f (a + 1) n labels (omega arith) (λ i lt. at (suc i) (omega arith) ∙ ap f (omega arith))) refl

mapped_ids : (f : ℕ → Option ℕ) (a n : ℕ) → map f (map (object_id kind.Crtc) (range_with_len a n))
    ≡ map (λ i. f (object_id kind.Crtc i)) (range_with_len a n)
mapped_ids f a zero = refl
mapped_ids f a (suc n) = ap (λ xs. f (object_id kind.Crtc a) ∷ xs) (mapped_ids f (a + 1) n)

-- the labels of the first CRTCs
pub labels_are : (assigns : List Assign) (labels : List (Option ℕ)) (crtcs : ℕ) → length labels ≡ 16 → crtcs ≤ 4
    → TellOutFences assigns labels → take crtcs labels ≡ map (out_fence_label assigns) (map (object_id kind.Crtc) (range_with_len 0 crtcs))
labels_are assigns labels crtcs long few tell =
    labels_by (λ i. out_fence_label assigns (object_id kind.Crtc i)) 0 crtcs labels (omega arith)
    (λ i lt. tell i (omega arith) ∙ ap (λ k. out_fence_label assigns (object_id kind.Crtc k)) (omega arith))
    ∙ sym (mapped_ids (out_fence_label assigns) 0 crtcs)

-- What is seen after out-fences

alike_then : {xs ys zs : List Thing} {number : _} → IsSeenAlike xs ys number → IsSeenAlike ys zs number → IsSeenAlike xs zs number
alike_then first second = record {
  fb = first.fb ∙ second.fb;
  mode = first.mode ∙ second.mode;
  gamma = first.gamma ∙
      second.gamma;
}

-- at most this many things more
record IsSeenWithin (t : Topology) (n : ℕ) (w after : World) : Type 0 where
  values : after.values ≡ w.values
  alike : AreSeenAlike t w.things after.things w.values
  ids : after.next_id ≤ w.next_id + n
  commits : after.commits ≡ w.commits

within_none : (t : Topology) (w : World) → IsSeenWithin t 0 w w
within_none t w = record { values = refl; alike = (seen_same t w).alike; ids = omega arith; commits = refl }

within_one : {t : Topology} (client : ℕ) {w : World} (label : Option ℕ) → IsLawful t w → IsSeenWithin t 1 w (make_out_fence client w label)
within_one {t} client {w} None lawful = record { values = refl; alike = (seen_same t w).alike; ids = omega arith; commits = refl }
within_one {t} client {w} (Some label) lawful = record {
  values = refl;
  alike = (seen_made client label content.OutFence lawful).alike;
  ids = omega arith;
  commits = refl;
}

within_then : {t : Topology} {m n : ℕ} {u v w : World} → IsSeenWithin t m u v → IsSeenWithin t n v w → IsSeenWithin t (m + n) u w
within_then {t} {u} {v} {w} first second =
    let further : AreSeenAlike t v.things w.things u.values = subst (λ vs. AreSeenAlike t v.things w.things vs) first.values second.alike in
    record {
      values = second.values ∙ first.values;
      alike = record {
        planes = λ plane is. alike_then (first.alike.planes plane is) (further.planes plane is);
        crtcs = λ crtc is. alike_then (first.alike.crtcs crtc is) (further.crtcs crtc is);
        gammas = λ crtc is. alike_then (first.alike.gammas crtc is) (further.gammas crtc is);
      };
      ids = omega (arith, first.ids, second.ids);
      commits = second.commits ∙ first.commits;
    }

within_fences : (t : Topology) (client : ℕ) (assigns : List Assign) (w : World) (crtcs : List ℕ) → IsLawful t w
    → IsSeenWithin t (length crtcs) w (make_out_fences client assigns w crtcs)
within_fences t client assigns w [] lawful = within_none t w
within_fences t client assigns w (crtc ∷ crtcs) lawful =
    let one = make_out_fence client w (out_fence_label assigns crtc) in
    let more = within_then
    (within_one client (out_fence_label assigns crtc) lawful)
    (within_fences t client assigns one crtcs (sound-out_fences t client assigns w (crtc ∷ []) lawful)) in
    record { values = more.values; alike = more.alike; ids = omega (arith, more.ids); commits = more.commits }

-- The device after a commit

-- a request that is let through is committed
pub executes : (t : Topology) (w : World) (client : ℕ) (r : Request) → verdict t w r ≡ None → is_test r.flags ≡ false
    → execute t w client (command.Atomic r) ≡ record { world = (committed t w client r).world; reply = reply.Commit w.commits }
unfolding execute
executes t w client r none test = rw (none, test) refl

-- a request that is let through is only tested
pub tests : (t : Topology) (w : World) (client : ℕ) (r : Request) → verdict t w r ≡ None → is_test r.flags ≡ true
    → execute t w client (command.Atomic r) ≡ record { world = w; reply = reply.Tested }
unfolding execute
tests t w client r none test = rw (none, test) refl

-- a request is refused
pub refuses : (t : Topology) (w : World) (client : ℕ) (r : Request) (n : Refusal) → verdict t w r ≡ Some n.0
    → execute t w client (command.Atomic r) ≡ record { world = w; reply = reply.Refused n }
unfolding execute
refuses t w client r n some = rw some refl

length-range : (f : ℕ → ℕ) (a n : ℕ) → length (map f (range_with_len a n)) ≡ n
length-range f a n = length-map-range_with_len f a n

within_after : {t : Topology} {w : World} (client : ℕ) (r : Request) → IsLawful t w → verdict t w r ≡ None
    → IsSeenWithin t t.crtcs (record w { values = after w r; commits = w.commits + 1 }) (committed t w client r).world
within_after {t} {w} client r lawful none =
    let before : World = record w { values = after w r; commits = w.commits + 1 } in
    subst (λ n. IsSeenWithin t n before (committed t w client r).world) (length-range (object_id kind.Crtc) 0 t.crtcs)
    (within_fences t client r.assigns before (map (object_id kind.Crtc) (range_with_len 0 t.crtcs))
    (sound-apply t w r (w.commits + 1) lawful none))

pub grows_committed : {t : Topology} {w : World} (client : ℕ) (r : Request) → IsLawful t w → t.crtcs ≤ 4 → verdict t w r ≡ None
    → Grows w (committed t w client r).world
grows_committed {t} {w} client r lawful few none = let within = within_after client r lawful none
    in record { ids = omega (arith, within.ids); commits = omega (arith, within.commits) }

pub values_committed : {t : Topology} {w : World} (client : ℕ) (r : Request) → IsLawful t w → verdict t w r ≡ None
    → (committed t w client r).world.values ≡ after w r
values_committed {t} {w} client r lawful none = (within_after client r lawful none).values

-- a device stands after a commit
pub stands_committed : {t : Topology} {w : World} {d new : Duplicates} (client : ℕ) {r : Request} → StandsInWorld t w d → verdict t w r
    ≡ None → is_test r.flags ≡ false → IsAfter t w r new → StandsInWorld t (committed t w client r).world (swapped new)
stands_committed {t} {w} {new} client {r} stands none test is =
    let before : World = record w { values = after w r; commits = w.commits + 1 } in
    let within = within_after client r stands.lawful none in
    let executed = executes t w client r none test in
    let now = swapped_present t w r new is in
    record {
      device = stands.device;
      lawful = subst (λ (e : Executed). IsLawful t e.world) executed (execution_keeps_lawful t w client (command.Atomic r) stands.lawful);
      framed = subst (λ (e : Executed). AreFramed e.world.things) executed
          (execution_keeps_framed t w client (command.Atomic r) stands.lawful.numbered.things stands.framed);
      present = present_seen t before (committed t w client r).world (swapped new) within.values within.alike
          (record { whole = now.whole; old = now.old; new = now.new });
    }
