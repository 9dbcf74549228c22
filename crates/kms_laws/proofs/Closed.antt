-- What look-ups find once a thing is closed.
use Rattle.std.proofs.Common.{◌≡◌, ℕ, List, [], ◌∷◌, Bool, true, false, ◌==◌, Some, refl, ap, ◌∙◌}
use Rattle.std.specs.Prelude.{if◌then◌else◌}
use Rattle.std.specs.List.{find}
use Rattle.std.specs.Option.{option_map}
use Rattle.kms_model.specs.declared.worlds.Thing.{Thing}
use Rattle.kms_model.specs.Device.Closing.{closed_if, closed_in}
use Rattle.kms_model.specs.Device.World.{thing_labelled, thing_with_id}
use Rattle.kms_model.proofs.FramedLemmas.{closed_same}

-- by a test that does not tell closed things from open ones
found_closed : (test : Thing → Bool) → ((id : ℕ) (u : Thing) → test (closed_if id u) ≡ test u) → (things : List Thing) (id : ℕ)
    → find test (closed_in things id) ≡ option_map (closed_if id) (find test things)
found_closed test same [] id = refl
found_closed test same (u ∷ us) id =
    ap (λ b. if b then Some (closed_if id u) else find test (closed_in us id)) (same id u)
    ∙ ap (λ o. if test u then Some (closed_if id u) else o) (found_closed test same us id)
    ∙ by_test (test u)
  where
    by_test : (b : Bool) → (if b then Some (closed_if id u) else option_map (closed_if id) (find test us))
        ≡ option_map (closed_if id) (if b then Some u else find test us)
    by_test true = refl
    by_test false = refl

pub closed_with_id : (things : List Thing) (id at : ℕ) → thing_with_id (closed_in things id) at
    ≡ option_map (closed_if id) (thing_with_id things at)
closed_with_id things id at = found_closed (λ u. u.id == at) (λ id u. ap (λ n. n == at) (closed_same id u).id) things id

pub closed_labelled : (things : List Thing) (id label : ℕ) → thing_labelled (closed_in things id) label
    ≡ option_map (closed_if id) (thing_labelled things label)
closed_labelled things id label = found_closed (λ u. u.label == label) (λ id u. ap (λ n. n == label) (closed_same id u).label) things id
