use Rattle.std.proofs.Common.{List, ap, sym, ◌∙◌, rules}
use Rattle.kms_model.specs.declared.pictures.Layer.{Layer}
use Rattle.kms_compose.specs.Changes.{covered_by}
use Rattle.kms_compose.proofs.Differing.{listed_already, listed_last}
use Rattle.kms_compose.proofs.changes.list.Goals as goal

pub returns-then-is_listed : goal.returns-then-is_listed
returns-then-is_listed c = listed_already c.args.listed.now.items c.args.layer.now (λ x y on.
    ap (λ (ls : List Layer). covered_by ls x y) (sym c.as_slice.ensures.value) ∙ c.is_listed.ensures (search rules) x y on)

pub returns : goal.returns
returns c = rw c.in_ok-push.ensures.items (listed_last c.args.listed.now.items c.args.layer.now)
