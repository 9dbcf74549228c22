use Rattle.std.proofs.Common.{◌≡◌, None, ap, ◌∙◌, List, ℕ, []}
use Rattle.std.specs.Prelude.{Option, unwrap_or, slice_get}
use Rattle.std.proofs.lemmas.Option.{unwrap_or-slice_get}
use Rattle.kms_report.proofs.lines.name_of.Goals as goal

pub returns-in-None : goal.returns-in-None
returns-in-None c =
    let none : None ≡ slice_get c.args.names.now c.args.place = rw c.in-None.is at c.get.ensures in
    ap (λ (o : Option (List ℕ)). unwrap_or o []) none ∙ unwrap_or-slice_get c.args.names.now c.args.place []
