use Rattle.std.proofs.Common.{List, subst}
use Rattle.std.specs.List.{list_any}
use Rattle.kms_model.specs.declared.sets.Set.{Set}
use Rattle.kms_request.specs.Naming.{AreCrtcs, set_names}
use Rattle.kms_request.proofs.NamedLemmas.{named_is}
use Rattle.kms_request.proofs.naming.named.Goals as goal

pub returns : goal.returns
returns c = λ t w f r covers.
    let Named : List Set → Type 0 = λ sets. AreCrtcs (λ crtc. list_any (λ s. set_names c.args.states.now s crtc) sets) c.all_named_by.result
    in
    named_is covers
    (subst Named c.as_slice.ensures.value c.all_named_by.ensures)
