use Rattle.std.proofs.Common.{◌≡◌, ◌-◌, List, [], ◌∷◌, ◌++◌, take, refl, ◌∙◌, sym, ap}
use Rattle.kms_model.specs.declared.scripts.Command.{Command}
use Rattle.kms_model.specs.Script.Longer.{at_last}
use Rattle.kms_script.proofs.MoreRequests.{at_last_append}
use Rattle.kms_suspend.proofs.longer.take_last.Goals as goal

pub returns-in-Some : goal.returns-in-Some
returns-in-Some c more =
    sym (at_last_append more c.in-Some.commands c.pop.new.self.items) ∙ ap (at_last more) (sym c.in-Some.ensures.items)

none_left : (more commands : List Command) (left old : List (List Command)) → commands ≡ [] → left ≡ [] → old ≡ left ++ []
    → left ++ (commands ++ more) ∷ [] ≡ at_last more old
none_left more commands left old none empty same = rw (same, empty, none) refl

pub returns-in-None : goal.returns-in-None
returns-in-None c more =
    let old = c.args.clients.now.items in
    let empty : c.pop.new.self.items ≡ [] = c.in-None.ensures.rest ∙ ap (λ n. take (n - 1) old) c.in-None.ensures.cases.0 in
    none_left more c.new.result c.pop.new.self.items old c.new.ensures empty c.in-None.ensures.items
