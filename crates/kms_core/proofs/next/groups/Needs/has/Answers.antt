use Rattle.std.proofs.Common.{ap, sym, ◌∙◌}
use Rattle.kms_model.specs.Device.Objects.{object_id}
use Rattle.kms_core.specs.Order.{in_group}
use Rattle.kms_core.proofs.next.NextLocks.{affected_told, named_told}
use Rattle.kms_core.proofs.next.groups.Needs.has.Goals as goal

pub returns-in-Named : goal.returns-in-Named
returns-in-Named c = λ t w needs on.
    c.is_member.ensures ∙ named_told t w c.args.self.now needs c.args.kind c.args.index c.requires.index on
    ∙ ap (λ g. in_group t w c.args.self.now.request.now g (object_id c.args.kind c.args.index)) (sym c.in-Named.is)

pub returns-in-Affected : goal.returns-in-Affected
returns-in-Affected c = λ t w needs on.
    c.is_member-in-Affected.ensures ∙ affected_told t w c.args.self.now needs c.args.kind c.args.index c.requires.index on
    ∙ ap (λ g. in_group t w c.args.self.now.request.now g (object_id c.args.kind c.args.index)) (sym c.in-Affected.is)
