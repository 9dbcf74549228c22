use Rattle.std.proofs.Common.{◌∙◌, sym}
use Rattle.std.specs.Prelude.{option_and_then}
use Rattle.kms_request.specs.Fences.{fence_value}
use Rattle.kms_model.specs.declared.objects.Kind.TheVariants.{Plane}
use Rattle.kms_model.specs.declared.properties.TheConstants.{IN_FENCE_FD}
use Rattle.kms_request.proofs.FenceLemmas.{tell_noted, tell_passed}
use Rattle.kms_request.proofs.fences.note_in_fence.Goals as goal

pub returns-then-sets_of : goal.returns-then-sets_of
returns-then-sets_of g c = λ earlier tell. rw c.fence_of.ensures
    (tell_noted Plane IN_FENCE_FD (option_and_then (fence_value (g.L.Looker.meaning c.args.found.now))) earlier
    c.args.fences.now c.requires c.told-fences (sym c.sets_of.ensures ∙ c.if-sets_of.true) tell)

pub returns-else-sets_of : goal.returns-else-sets_of
returns-else-sets_of g c = λ earlier tell. tell_passed Plane IN_FENCE_FD
    (option_and_then (fence_value (g.L.Looker.meaning c.args.found.now))) earlier c.args.fences.now c.requires
    (sym c.sets_of.ensures ∙ c.if-sets_of.false) tell
