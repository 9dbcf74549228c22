-- The fences after a commit has made its out-fences.
use Rattle.std.proofs.Common.{◌≡◌, ◌⊎◌, ℕ, ◌+◌, Bool, true, false, List, [], ◌∷◌, ◌++◌, map, Some, None, inl, inr, refl, sym, ap, ◌∙◌}
use Rattle.std.proofs.Common.{append_assoc, append-nil, ⊎_elim}
use Rattle.std.specs.Prelude.{◌==◌, Option}
use Rattle.std.proofs.lemmas.Bool.{cases_Bool}
use Rattle.kms_model.specs.declared.scripts.Assign.{Assign}
use Rattle.kms_model.specs.declared.worlds.Content.TheVariants as content
use Rattle.kms_model.specs.declared.worlds.Thing.{Thing}
use Rattle.kms_model.specs.declared.worlds.World.{World}
use Rattle.kms_model.specs.Device.World.{thing_labelled}
use Rattle.kms_model.specs.Device.Execution.{make_out_fence, make_out_fences}
use Rattle.kms_model.specs.Request.Touched.{out_fence_label}
use Rattle.kms_model.specs.declared.tables.Slot.{Slot}
use Rattle.kms_model.specs.Things.Tables.{slot}
use Rattle.kms_signal.proofs.InStepLemmas.{fence_made}
use Rattle.kms_signal.specs.FenceSets.{FenceSet, is_made}
use Rattle.kms_signal.specs.InStep.{AreFencesOf}
use Rattle.kms_core.specs.SwappedIn.{fences_for, next_after}
use Rattle.kms_core.specs.Stands.{AreMadeFences}
use Rattle.kms_core.proofs.stores.Fencing.{fence_fenced, fresh, pushed_more, same_fences, same_slots}

-- the fences stand for those of a world
pub record FencesStand (w : World) (signalled : List ℕ) (fences : FenceSet) : Type 0 where
  pub fenced : AreMadeFences w signalled fences
  pub stand : AreFencesOf fences signalled

out_fence_made : (client : ℕ) (w : World) (label : ℕ) (signalled : List ℕ) (old new : FenceSet) → new.slots ≡ old.slots
    ++ slot w.next_id false ∷ [] → FencesStand w signalled old → FencesStand (make_out_fence client w (Some label)) signalled new
out_fence_made client w label signalled old new is was = record {
  fenced = fence_fenced client label content.OutFence new is was.fenced;
  stand = fence_made old new signalled w.next_id was.stand is (fresh was.fenced);
}

pub out_fences_made : (client : ℕ) (assigns : List Assign) (w : World) (crtcs : List ℕ) (signalled : List ℕ) (old new : FenceSet)
    → new.slots ≡ old.slots ++ fences_for w.next_id (map (out_fence_label assigns) crtcs) → FencesStand w signalled old
    → FencesStand (make_out_fences client assigns w crtcs) signalled new
out_fences_made client assigns w [] signalled old new is was =
    let same : new.slots ≡ old.slots = is ∙ append-nil old.slots in
    record { fenced = same_slots new same was.fenced; stand = same_fences new same was.stand }
out_fences_made client assigns w (crtc ∷ crtcs) signalled old new is was =
    by_label (out_fence_label assigns crtc) refl (λ v from made stands. out_fences_made client assigns v crtcs signalled from new made
    stands) where
      by_label : (o : Option ℕ) → out_fence_label assigns crtc ≡ o
          → ((v : World) (from : FenceSet) → new.slots ≡ from.slots ++ fences_for v.next_id (map (out_fence_label assigns) crtcs)
          → FencesStand v signalled from → FencesStand (make_out_fences client assigns v crtcs) signalled new)
          → FencesStand (make_out_fences client assigns w (crtc ∷ crtcs)) signalled new
      by_label None none rest = rw none (rest w old (rw none at is) was)
      by_label (Some label) some rest =
          let middle : FenceSet = record { slots = old.slots ++ slot w.next_id false ∷ []; room = 0 } in
          rw some (rest (make_out_fence client w (Some label)) middle
          ((rw some at is) ∙ sym (append_assoc old.slots (slot w.next_id false ∷ [])
          (fences_for (w.next_id + 1) (map (out_fence_label assigns) crtcs))))
          (out_fence_made client w label signalled old middle refl was))

-- fences that were made stay so
pub fences_more : (old new : FenceSet) (next : ℕ) (labels : List (Option ℕ)) → new.slots ≡ old.slots ++ fences_for next labels → (id : ℕ)
    → is_made old id ≡ true → is_made new id ≡ true
fences_more old new next [] is id made = rw (is ∙ append-nil old.slots) made
fences_more old new next (None ∷ labels) is id made = fences_more old new next labels is id made
fences_more old new next (Some label ∷ labels) is id made =
    let middle : FenceSet = record { slots = old.slots ++ slot next false ∷ []; room = 0 } in
    fences_more middle new (next + 1) labels (is ∙ sym (append_assoc old.slots (slot next false ∷ []) (fences_for (next + 1) labels))) id
    (pushed_more old middle next refl id made)

-- what is found under a label was there, or is an out-fence

push_found : (things : List Thing) (x : Thing) (label : ℕ) (u : Thing) → thing_labelled (things ++ x ∷ []) label ≡ Some u
    → (thing_labelled things label ≡ Some u) ⊎ (x ≡ u)
push_found [] x label u found =
    elim (cases_Bool (x.label == label)) [
      | inl here ↦ (let same : Some x ≡ Some u = rw here at found in inr cc)
      | inr away ↦ (let none : None ≡ Some u = rw away at found in absurd cc)
    ]
push_found (y ∷ ys) x label u found =
    elim (cases_Bool (y.label == label)) [
      | inl here ↦ inl (rw here (rw here at found))
      | inr away ↦ rw away (push_found ys x label u (rw away at found))
    ]

pub found_or_made : (client : ℕ) (assigns : List Assign) (w : World) (crtcs : List ℕ) (label : ℕ) {u : Thing}
    → thing_labelled (make_out_fences client assigns w crtcs).things label ≡ Some u
    → (thing_labelled w.things label ≡ Some u) ⊎ (u.content ≡ content.OutFence)
found_or_made client assigns w [] label found = inl found
found_or_made client assigns w (crtc ∷ crtcs) label {u} found =
    ⊎_elim (λ earlier. by_label (out_fence_label assigns crtc) earlier) (λ out. inr out)
    (found_or_made client assigns (make_out_fence client w (out_fence_label assigns crtc)) crtcs label found) where
      by_label : (o : Option ℕ) → thing_labelled (make_out_fence client w o).things label ≡ Some u
          → (thing_labelled w.things label ≡ Some u) ⊎ (u.content ≡ content.OutFence)
      by_label None there = inl there
      by_label (Some l) there =
          ⊎_elim (λ old. inl old) (λ same. inr (ap (λ (x : Thing). x.content) (sym same)))
          (push_found w.things (record { label = l; id = w.next_id; owner = client; content = content.OutFence; is_open = true }) label u
          there)

-- the fences of one label, and then those of the rest
fences_split : (next : ℕ) (label : Option ℕ) (labels : List (Option ℕ)) → fences_for next (label ∷ labels) ≡ fences_for next (label ∷ [])
    ++ fences_for (next_after next label) labels
fences_split next None labels = refl
fences_split next (Some label) labels = refl

pub one_made : (slots : List (Slot Bool)) (next : ℕ) (label : Option ℕ) (labels : List (Option ℕ))
    → (slots ++ fences_for next (label ∷ [])) ++ fences_for (next_after next label) labels ≡ slots ++ fences_for next (label ∷ labels)
one_made slots next label labels =
    append_assoc slots (fences_for next (label ∷ [])) (fences_for (next_after next label) labels) ∙ ap (λ xs. slots ++ xs)
    (sym (fences_split next label labels))
