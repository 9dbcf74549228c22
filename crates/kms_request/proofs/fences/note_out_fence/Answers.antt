use Rattle.std.proofs.Common.{◌∙◌, sym}
use Rattle.kms_model.specs.Request.Touched.{new_label}
use Rattle.kms_model.specs.declared.objects.Kind.TheVariants.{Crtc}
use Rattle.kms_model.specs.declared.properties.TheConstants.{OUT_FENCE_PTR}
use Rattle.kms_request.proofs.FenceLemmas.{tell_noted, tell_passed}
use Rattle.kms_request.proofs.fences.note_out_fence.Goals as goal

pub returns-then-sets_of : goal.returns-then-sets_of
returns-then-sets_of c = λ earlier tell. rw c.new_label.ensures
    (tell_noted Crtc OUT_FENCE_PTR new_label earlier c.args.labels.now c.requires c.told-labels
    (sym c.sets_of.ensures ∙ c.if-sets_of.true) tell)

pub returns-else-sets_of : goal.returns-else-sets_of
returns-else-sets_of c = λ earlier tell. tell_passed Crtc OUT_FENCE_PTR new_label earlier c.args.labels.now c.requires
    (sym c.sets_of.ensures ∙ c.if-sets_of.false) tell
