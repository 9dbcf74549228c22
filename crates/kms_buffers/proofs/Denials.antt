-- What is refused to a client that closes a framebuffer, by a store and by the things of a device.
use Rattle.std.proofs.Common.{◌≡◌, ℕ, List, [], ◌∷◌, Bool, true, false, eqb, Option, Some, None, inl, inr, refl, ap, sym, ◌∙◌, subst}
use Rattle.std.specs.Prelude.{◌==◌, ◌<◌, not, if◌then◌else◌}
use Rattle.std.specs.List.{AllByRecursion, cons_option}
use Rattle.std.specs.Option.{option_and_then}
use Rattle.std.proofs.lemmas.Bool.Decides.{eqb_tells}
use Rattle.kms_model.specs.declared.replies.TheConstants.Denied.{NOT_FOUND}
use Rattle.kms_model.specs.declared.things.Framebuffer.{Framebuffer}
use Rattle.kms_model.specs.declared.tables.Slot.{Slot}
use Rattle.kms_model.specs.declared.worlds.Content.{Content}
use Rattle.kms_model.specs.declared.worlds.Content.TheVariants as content
use Rattle.kms_model.specs.declared.worlds.Thing.{Thing}
use Rattle.kms_model.specs.Device.Execution.{close_refusal}
use Rattle.kms_model.specs.Device.Sound.{AreNumbered}
use Rattle.kms_model.specs.Device.World.{thing_with_id}
use Rattle.kms_model.specs.Firsts.{denied_if}
use Rattle.kms_model.specs.Things.Kept.{close_answer, framebuffer}
use Rattle.kms_model.specs.Things.OpenThings.{denial, value_if_open}
use Rattle.kms_model.specs.Things.Tables.{IsRising, value_with_id}
use Rattle.kms_model.proofs.OpenLemmas.{found_open}
use Rattle.kms_model.proofs.TableLemmas.{others_behind, value-absent}
use Rattle.kms_buffers.specs.Things.{fb_of_content, open_fbs, open_fbs_of, open_slot}

-- what is wrong with closing an open framebuffer: it is not there, or another client's
abbrev wrong_with : ℕ → Option Framebuffer → Option ℕ
wrong_with owner None = Some NOT_FOUND.0
wrong_with owner (Some fb) = if fb.owner == owner then None else Some NOT_FOUND.0

-- a framebuffer as it was added
abbrev added : Framebuffer → Framebuffer
added fb = framebuffer fb.owner fb.buffer fb.info

-- what is open of a framebuffer that may be there
abbrev open_part : Option Framebuffer → Option Framebuffer
open_part None = None
open_part (Some fb) = if fb.is_open then Some (added fb) else None

-- In a store

slot_here : (b : Bool) (id : ℕ) (s : Slot Framebuffer) (rest : List (Slot Framebuffer)) → s.value.is_open ≡ b → eqb s.id id ≡ true
    → value_with_id rest id ≡ None
    → value_with_id (cons_option (open_slot s) rest) id ≡ (if b then Some (added s.value) else None)
slot_here true id s rest opened same none = rw (opened, same) refl
slot_here false id s rest opened same none = rw opened none

slot_apart : (b : Bool) (id : ℕ) (s : Slot Framebuffer) (rest : List (Slot Framebuffer)) → s.value.is_open ≡ b → eqb s.id id ≡ false
    → value_with_id (cons_option (open_slot s) rest) id ≡ value_with_id rest id
slot_apart true id s rest opened other = rw (opened, other) refl
slot_apart false id s rest opened other = rw opened refl

none_above : (id : ℕ) (fbs : List (Slot Framebuffer)) → AllByRecursion (λ s. id < s.id) fbs → value_with_id fbs id ≡ None
none_above id fbs above = value-absent fbs id (others_behind id fbs above)

-- the open framebuffer with an id is the one with the id, where it is open
open_found : (fbs : List (Slot Framebuffer)) (id : ℕ) → IsRising fbs → value_with_id (open_fbs fbs) id ≡ open_part (value_with_id fbs id)
open_found [] id rising = refl
open_found (s ∷ fbs) id rising =
    elim (eqb_tells s.id id) [
      | inl here ↦ (
          let above : AllByRecursion (λ t. id < t.id) fbs = subst (λ n. AllByRecursion (λ t. n < t.id) fbs) here.1 rising.0 in
          let none = none_above id fbs above in
          rw here.0 (slot_here s.value.is_open id s (open_fbs fbs) refl here.0 (open_found fbs id rising.1 ∙ ap open_part none)))
      | inr away ↦ rw away.0 (slot_apart s.value.is_open id s (open_fbs fbs) refl away.0 ∙ open_found fbs id rising.1)
    ]

answer_if : (owner : ℕ) (fb : Framebuffer) (b o : Bool) → fb.is_open ≡ b → (fb.owner == owner) ≡ o → denial (close_answer owner (Some fb))
    ≡ wrong_with owner (open_part (Some fb))
answer_if owner fb true true opened mine = rw (opened, mine) refl
answer_if owner fb true false opened mine = rw (opened, mine) refl
answer_if owner fb false o opened mine = rw opened refl

answer_is : (owner : ℕ) (o : Option Framebuffer) → denial (close_answer owner o) ≡ wrong_with owner (open_part o)
answer_is owner None = refl
answer_is owner (Some fb) = answer_if owner fb fb.is_open (fb.owner == owner) refl refl

-- Among things

refused_fb : (b : Bool) → denied_if NOT_FOUND (not b) ≡ (if b then None else Some NOT_FOUND.0)
refused_fb true = refl
refused_fb false = refl

refused_if_open : (owner : ℕ) (t : Thing) (b : Bool) (c : Content) → t.is_open ≡ b → t.content ≡ c → close_refusal owner (Some t)
    ≡ wrong_with owner (value_if_open fb_of_content t)
refused_if_open owner t true (content.Framebuffer info of) opened is = rw (opened, is) (refused_fb (t.owner == owner))
refused_if_open owner t false (content.Framebuffer info of) opened is = rw (opened, is) refl
refused_if_open owner t true (content.Buffer width height format pattern) opened is = rw (opened, is) refl
refused_if_open owner t false (content.Buffer width height format pattern) opened is = rw (opened, is) refl
refused_if_open owner t true (content.Mode m) opened is = rw (opened, is) refl
refused_if_open owner t false (content.Mode m) opened is = rw (opened, is) refl
refused_if_open owner t true (content.Blob bytes) opened is = rw (opened, is) refl
refused_if_open owner t false (content.Blob bytes) opened is = rw (opened, is) refl
refused_if_open owner t true content.Fence opened is = rw (opened, is) refl
refused_if_open owner t false content.Fence opened is = rw (opened, is) refl
refused_if_open owner t true content.OutFence opened is = rw (opened, is) refl
refused_if_open owner t false content.OutFence opened is = rw (opened, is) refl

refusal_is : (owner : ℕ) (o : Option Thing) → close_refusal owner o ≡ wrong_with owner (option_and_then (value_if_open fb_of_content) o)
refusal_is owner None = refl
refusal_is owner (Some t) = refused_if_open owner t t.is_open t.content refl refl

-- a store that has the open framebuffers of things refuses as a device with these things does
pub closes_alike : (fbs : List (Slot Framebuffer)) (owner id : ℕ) (things : List Thing) → IsRising fbs → AreNumbered 1000 things
    → open_fbs_of things ≡ open_fbs fbs
    → denial (close_answer owner (value_with_id fbs id)) ≡ close_refusal owner (thing_with_id things id)
closes_alike fbs owner id things rising numbered same =
    answer_is owner (value_with_id fbs id)
    ∙ ap (wrong_with owner) (sym (open_found fbs id rising) ∙ ap (λ xs. value_with_id xs id) (sym same) ∙ found_open fb_of_content 1000 id
    things numbered)
    ∙ sym (refusal_is owner (thing_with_id things id))
