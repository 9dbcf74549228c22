use Rattle.std.proofs.Common.{◌≡◌, ◌==◌, not, rules, refl, sym, subst, filter, List}
use Rattle.std.proofs.lemmas.Fn.{filter_same}
use Rattle.kms_wwlock.specs.declared.contexts.Context.{Context}
use Rattle.kms_wwlock.specs.Table.{Table, AreOfTable}
use Rattle.kms_wwlock.proofs.Kept.{others_kept}
use Rattle.kms_wwlock.proofs.Meanings.{over_is_doing}
use Rattle.kms_wwlock.proofs.table.LockTable.drop_all.Goals as goal
use Rattle.kms_wwlock.proofs.table.LockTable.drop_all.Goals.{After-free_all}

-- the contexts of other tickets are left
kept : (c : After-free_all) → c.retain.new.self.items ≡ filter (λ x. not (x.ticket.0 == c.args.t.0)) c.self.inside.contexts.items
kept c = filter_same _ (λ (x : Context). not (x.ticket.0 == c.args.t.0)) _ (λ x b f' k. search rules) _ _ c.retain.ensures.filtered

pub invariant_of-self : goal.invariant_of-self
invariant_of-self c =
    subst (λ (xs : List Context). AreOfTable xs c.self.inside.drawn) (sym (kept c))
    (others_kept (λ (x : Context). not (x.ticket.0 == c.args.t.0)) c.self.inside.contexts.items c.self.inside.drawn c.self.invariant)

pub returns-clause-after : goal.returns-clause-after
returns-clause-after c = rw (← c.self.view_is, c.free_all.ensures, kept c) refl

pub returns-clause-over : goal.returns-clause-over
returns-clause-over c =
    let old : Table = record { holders = c.self.inside.holders; contexts = c.self.inside.contexts.items; drawn = c.self.inside.drawn } in
    rw (← c.self.view_is, c.free_all.ensures, kept c) (over_is_doing old c.args.t)
