use Rattle.std.proofs.Common.{List, sym, subst}
use Rattle.std.specs.Prelude.{All}
use Rattle.std.specs.List.{list_any}
use Rattle.kms_model.specs.declared.scripts.Assign.{Assign}
use Rattle.kms_model.specs.Request.Resolves.{IsSettable}
use Rattle.kms_request.specs.Naming.{AreCrtcs}
use Rattle.kms_request.specs.Whole.{is_named_between}
use Rattle.kms_request.proofs.WholeLemmas.{named_between-is}
use Rattle.kms_request.proofs.whole.named_in.Goals as goal

pub all_named_between-requires : goal.all_named_between-requires
all_named_between-requires c = let Settable : List Assign → Type 0 = λ xs. All IsSettable xs
    in subst Settable (sym c.as_slice.ensures.value) c.requires

pub returns : goal.returns
returns c = λ t w stand.
    let Named : List Assign → Type 0 = λ xs. AreCrtcs (λ crtc. list_any (λ a. is_named_between c.args.states.now a crtc) xs)
    c.all_named_between.result in
    named_between-is stand
    (subst Named c.as_slice.ensures.value c.all_named_between.ensures)
