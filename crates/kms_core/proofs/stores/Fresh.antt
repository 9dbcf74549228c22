-- Look-ups that tell what labels name now.
use Rattle.std.proofs.Common.{◌≡◌, ℕ, List, [], ◌∷◌, map, Some, None, inl, inr, refl, sym, ap, ◌∙◌, subst}
use Rattle.kms_model.specs.declared.scripts.Request.{Request}
use Rattle.kms_model.specs.declared.worlds.Look.{Look}
use Rattle.kms_model.specs.declared.worlds.Thing.{Thing}
use Rattle.kms_model.specs.declared.worlds.World.{World}
use Rattle.kms_model.specs.Device.World.{thing_labelled}
use Rattle.kms_model.specs.Request.Lookups.{look_of, look_up, lookups}
use Rattle.kms_model.specs.Request.SameLooks.{TellsLabels}
use Rattle.kms_model.specs.Request.Sets.{look_in}
use Rattle.kms_model.proofs.SameLooks.{world_tells}
use Rattle.kms_core.specs.declared.stores.looking.Decided.{Decided}
use Rattle.kms_core.specs.declared.stores.looking.Decided.TheVariants as answer
use Rattle.kms_core.specs.declared.stores.looking.Stale.{Stale}
use Rattle.kms_core.specs.Decisions.{IsDecided, IsFirstStale, labels_of, world}
use Rattle.kms_core.specs.Run.{Run}
use Rattle.kms_core.specs.Stands.{Stores, Stands}

-- what a label names among things
abbrev pub named_among : List Thing → ℕ → Look
named_among things label = look_of (thing_labelled things label)

-- the first that differs, answered
pub answers_again : {r : Run} {st : Stores} (used : List (ℕ × Look)) (stale : Stale) (decision given : Decided) → Stands r st
    → IsFirstStale (named_among st.made.things) used (Some stale)
    → given ≡ answer.Again stale.label stale.was stale.now → IsDecided (look_up (world r)) used decision given
answers_again {r} used stale decision given stands first is =
    let now : IsFirstStale (look_up (world r)) used (Some stale) = subst
    (λ (things : List Thing). IsFirstStale (named_among things) used (Some stale)) (sym stands.stores.world.things) first in
    rw is now

-- none differs
pub fresh_now : {r : Run} {st : Stores} (used : List (ℕ × Look)) → Stands r st
    → IsFirstStale (named_among st.made.things) used None → IsFirstStale (look_up (world r)) used None
fresh_now {r} used stands none =
    let now : IsFirstStale (look_up (world r)) used None = subst (λ (things : List Thing). IsFirstStale (named_among things) used None)
    (sym stands.stores.world.things) none in
    now

-- then they are what the labels name
are_looks : (f : ℕ → Look) (used : List (ℕ × Look)) → IsFirstStale f used None → used
    ≡ map (λ label. (label, f label)) (map (λ (l : ℕ × Look). l.0) used)
are_looks f [] none = refl
are_looks f (l ∷ ls) (inl same) =
    let here : l ≡ (l.0, f l.0) = ap (λ (look : Look). (l.0, look)) same.0 in
    let rest = are_looks f ls same.1 in
    ap (λ (x : ℕ × Look). x ∷ ls) here ∙ ap (λ (xs : List (ℕ × Look)). (l.0, f l.0) ∷ xs) rest
are_looks f (l ∷ ls) (inr other) = absurd cc

pub tells_now : (w : World) (r : Request) (used : List (ℕ × Look)) → IsFirstStale (look_up w) used None → map (λ (l : ℕ × Look). l.0) used
    ≡ labels_of r.assigns → TellsLabels (look_in used) (look_up w) r.assigns
tells_now w r used none labels =
    let is : used ≡ lookups w r = are_looks (look_up w) used none ∙ ap (map (λ label. (label, look_up w label))) labels in
    rw is (world_tells w r)
