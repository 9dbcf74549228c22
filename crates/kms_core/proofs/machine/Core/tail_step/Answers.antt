use Rattle.std.proofs.Common.{refl, sym, ◌∙◌}
use Rattle.std.specs.Prelude.{Some}
use Rattle.kms_core.proofs.stores.Histories.{seen}
use Rattle.kms_core.proofs.next.TailTurns.{settle_ended, settle_told}
use Rattle.kms_core.proofs.machine.Core.tail_step.Goals as goal

pub returns-then-stores : goal.returns-then-stores
returns-then-stores c = settle_ended (seen c.stores.invariant (c.stores.view_is ∙ c.deref-stores.ensures ∙ c.self.view_is)).stands
    c.if-stores.true

pub returns-in-Some : goal.returns-in-Some
returns-in-Some c = settle_told (Some c.in-Some.step) _ (seen c.stores.invariant (c.stores.view_is ∙ c.deref-stores.ensures ∙
    c.self.view_is)).stands c.if-stores.false (sym c.in-Some.is ∙ c.first_of_tails.ensures) refl

pub returns-in-None : goal.returns-in-None
returns-in-None c = settle_told _ c.first_blanking.result (seen c.stores.invariant (c.stores.view_is ∙ c.deref-stores.ensures ∙
    c.self.view_is)).stands c.if-stores.false (sym c.in-None.is ∙ c.first_of_tails.ensures) c.first_blanking.ensures
