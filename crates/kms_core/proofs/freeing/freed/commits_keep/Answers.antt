use Rattle.std.proofs.Common.{arith, sym, ap, ◌∙◌}
use Rattle.std.specs.Option.{option_copied}
use Rattle.kms_core.proofs.stores.FreedIds.{keeps_found, keeps_in, keeps_none, never_missing}
use Rattle.kms_core.proofs.stores.Seeking.{goes_up, less_left, one_passed}
use Rattle.kms_core.proofs.freeing.freed.commits_keep.Goals as goal

pub unreachable-requires : goal.unreachable-requires
unreachable-requires c = never_missing c.seeking.from c.in-Some.commit c.requires c.in-Some.ensures.machine
    (sym (ap option_copied c.in_default-get.is) ∙ c.get.ensures)

pub returns-then-tail_names : goal.returns-then-tail_names
returns-then-tail_names c = λ t m device stand.
    sym (keeps_found c.args.id c.seeking.from c.in-Some.commit m c.in-Some.ensures.machine
    (sym (ap (λ o. keeps_in o c.args.id) (sym (ap option_copied c.in-Some-get.is) ∙ c.get.ensures)) ∙ sym c.tail_names.ensures
    ∙ c.if-tail_names.true) device stand)

pub overflow_add-from : goal.overflow_add-from
overflow_add-from c = let l = (goes_up c.seeking.from c.in-Some.commit c.requires c.in-Some.ensures.machine).fits in
    omega (arith, l)

pub seeking-smaller : goal.seeking-smaller
seeking-smaller c = less_left c.seeking.from c.in-Some.commit c.requires c.in-Some.ensures.machine

pub seeking-preserved : goal.seeking-preserved
seeking-preserved c =
    one_passed c.in-Some.commit c.seeking.invariant
    c.in-Some.ensures.machine
    (sym (ap (λ o. keeps_in o c.args.id) (sym (ap option_copied c.in-Some-get.is) ∙ c.get.ensures))
    ∙ sym c.tail_names.ensures ∙ c.if-tail_names.false)

pub returns : goal.returns
returns c = λ t m device stand. sym
    (keeps_none c.args.tracker.now c.args.id c.seeking.from t m c.seeking.invariant c.in_default.ensures.machine device stand)
