-- What a request touches has both states once its check does not ask for more.
use Rattle.std.proofs.Common.{◌≡◌, ◌∙◌, ℕ, Bool, true, None, sym, inl, inr}
use Rattle.std.specs.Prelude.{◌||◌, nat_lt}
use Rattle.std.proofs.lemmas.Bool.{and_from, and_parts, or_cases}
use Rattle.kms_model.specs.declared.objects.Kind.{Kind}
use Rattle.kms_model.specs.declared.objects.Kind.TheVariants as kind
use Rattle.kms_model.specs.declared.objects.Topology.{Topology}
use Rattle.kms_model.specs.declared.scripts.Request.{Request}
use Rattle.kms_model.specs.declared.states.Duplicates.{Duplicates}
use Rattle.kms_model.specs.declared.worlds.World.{World}
use Rattle.kms_model.specs.Device.Masks.{has_bit}
use Rattle.kms_model.specs.Device.Objects.{count_of, object_id}
use Rattle.kms_model.specs.Request.Apply.{after}
use Rattle.kms_model.specs.Request.Groups.{affected_group, named_group, set_group}
use Rattle.kms_model.specs.Request.Named.{names}
use Rattle.kms_model.specs.Request.Touched.{is_affected, set_where, sets, touched_by}
use Rattle.kms_model.proofs.Items.{or_else-none}
use Rattle.kms_model.proofs.MaskLemmas.{has_bit-mask_below}
use Rattle.kms_state.specs.Places.{old_states}
use Rattle.kms_check.specs.Lacking.{first_lacking, lacking}
use Rattle.kms_check.proofs.Conclusions.{lacking-same, room-same}
use Rattle.kms_check.proofs.Readiness.{HasRoom, IsCovered, covered}

-- an object that passes one of two tests is in the set of one of them
in_either : {A : Type 0} (t : Topology) (k : Kind) (a b : ℕ → Bool) (i : ℕ) → has_bit (set_where t k (λ o. a o || b o)) i ≡ true
    → (has_bit (set_where t k a) i ≡ true → A) → (has_bit (set_where t k b) i ≡ true → A) → A
in_either t k a b i member first second =
    let parts = and_parts (nat_lt i (count_of t k)) (a (object_id k i) || b (object_id k i))
    (sym (has_bit-mask_below (λ index. a (object_id k index) || b (object_id k index)) (count_of t k) i) ∙ member) in
    elim (or_cases (a (object_id k i)) (b (object_id k i)) parts.1) [
      | inl one ↦ first (has_bit-mask_below (λ index. a (object_id k index)) (count_of t k) i ∙ and_from _ _ parts.0 one)
      | inr other ↦ second (has_bit-mask_below (λ index. b (object_id k index)) (count_of t k) i ∙ and_from _ _ parts.0 other)
    ]

-- what is touched is duplicated, in the states that a check was given and in those that it gives
pub touched_covered : (t : Topology) (w : World) (r : Request) (d d' : Duplicates) → HasRoom d → old_states d' ≡ old_states d
    → first_lacking t w r d ≡ None → IsCovered d' (touched_by t w r)
touched_covered t w r d d' room same none =
    let room' : HasRoom d' = room-same d d' same room in
    let first = or_else-none (lacking d (set_group t r)) _ none in
    let rest = or_else-none (lacking d (named_group t w r)) (lacking d (affected_group t w r)) first.second_none in
    let is_set : IsCovered d' (set_group t r) = covered d' (set_group t r)
    (lacking-same (set_group t r) room room' same ∙ first.first_none) in
    let is_named : IsCovered d' (named_group t w r) = covered d' (named_group t w r)
    (lacking-same (named_group t w r) room room' same ∙ rest.first_none) in
    let is_routed : IsCovered d' (affected_group t w r) = covered d' (affected_group t w r)
    (lacking-same (affected_group t w r) room room' same ∙ rest.second_none) in
    record {
      crtcs = λ i within member. in_either t kind.Crtc (sets r.assigns) (names w.values (after w r) r.assigns) i member
          (is_set.crtcs i within) (is_named.crtcs i within);
      planes = λ i within member. in_either t kind.Plane (sets r.assigns) (is_affected t w.things w.values (after w r)) i member
          (is_set.planes i within) (is_routed.planes i within);
      conns = λ i within member. in_either t kind.Conn (sets r.assigns) (is_affected t w.things w.values (after w r)) i member
          (is_set.conns i within) (is_routed.conns i within);
    }
