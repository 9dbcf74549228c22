use Rattle.std.proofs.Common.{false, refl, sym, true, ◌∙◌}
use Rattle.kms_core.proofs.next.ClientTurns.{lock_none, other_told}
use Rattle.kms_core.proofs.next.ordering.other_step.Goals as goal

pub returns-then-may_begin : goal.returns-then-may_begin
returns-then-may_begin c = other_told c.args.core.now c.args.client c.requires.going (sym c.requires.none) _ _ _ _ _
    (sym c.if-may_begin.true ∙ c.may_begin.ensures) refl refl refl refl refl

pub returns-then-may_make : goal.returns-then-may_make
returns-then-may_make c =
    other_told c.args.core.now c.args.client c.requires.going (sym c.requires.none) true _ _ _ _
    (sym c.if-may_begin.false ∙ c.may_begin.ensures) (sym c.if-may_make.true ∙ c.may_make.ensures) refl refl refl refl

pub returns-then-may_signal : goal.returns-then-may_signal
returns-then-may_signal c =
    other_told c.args.core.now c.args.client c.requires.going (sym c.requires.none) false true _ _ _
    (sym c.if-may_begin.false ∙ c.may_begin.ensures) (sym c.if-may_make.false ∙ c.may_make.ensures)
    (sym c.if-may_signal.true ∙ c.may_signal.ensures) refl refl refl

pub returns-then-may_read : goal.returns-then-may_read
returns-then-may_read c =
    other_told c.args.core.now c.args.client c.requires.going (sym c.requires.none) false false true _ _
    (sym c.if-may_begin.false ∙ c.may_begin.ensures) (sym c.if-may_make.false ∙ c.may_make.ensures)
    (sym c.if-may_signal.false ∙ c.may_signal.ensures)
    (sym c.if-may_read.true ∙ c.may_read.ensures) refl refl

pub returns-then-may_back_off : goal.returns-then-may_back_off
returns-then-may_back_off c =
    other_told c.args.core.now c.args.client c.requires.going (sym c.requires.none) false false false true _
    (sym c.if-may_begin.false ∙ c.may_begin.ensures) (sym c.if-may_make.false ∙ c.may_make.ensures)
    (sym c.if-may_signal.false ∙ c.may_signal.ensures)
    (sym c.if-may_read.false ∙ c.may_read.ensures) (sym c.if-may_back_off.true ∙ c.may_back_off.ensures) refl

pub returns-then-may_relock : goal.returns-then-may_relock
returns-then-may_relock c =
    other_told c.args.core.now c.args.client c.requires.going (sym c.requires.none) false false false false true
    (sym c.if-may_begin.false ∙ c.may_begin.ensures) (sym c.if-may_make.false ∙ c.may_make.ensures)
    (sym c.if-may_signal.false ∙ c.may_signal.ensures)
    (sym c.if-may_read.false ∙ c.may_read.ensures) (sym c.if-may_back_off.false ∙ c.may_back_off.ensures)
    (sym c.if-may_relock.true ∙ c.may_relock.ensures)

pub returns-else-may_relock : goal.returns-else-may_relock
returns-else-may_relock c =
    lock_none c.args.core.now c.args.client (sym c.requires.none)
    ∙ other_told c.args.core.now c.args.client c.requires.going (sym c.requires.none) false false false false false
    (sym c.if-may_begin.false ∙ c.may_begin.ensures) (sym c.if-may_make.false ∙ c.may_make.ensures)
    (sym c.if-may_signal.false ∙ c.may_signal.ensures) (sym c.if-may_read.false ∙ c.may_read.ensures)
    (sym c.if-may_back_off.false ∙ c.may_back_off.ensures) (sym c.if-may_relock.false ∙ c.may_relock.ensures)
