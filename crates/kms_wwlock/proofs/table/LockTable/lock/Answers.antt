use Rattle.std.proofs.Common.{◌≡◌, ◌∙◌, rules, map}
use Rattle.std.specs.Vec.{with_items}
use Rattle.kms_wwlock.specs.declared.contexts.ContextDoing.TheVariants.{Taking, MustBackOff}
use Rattle.kms_wwlock.specs.Table.{Table}
use Rattle.kms_wwlock.specs.Calls.{with_doing}
use Rattle.kms_wwlock.proofs.Meanings.{taken_by, set_at}
use Rattle.kms_wwlock.proofs.Kept.{front_is, front_kept}
use Rattle.kms_wwlock.proofs.table.LockTable.lock.Goals as goal

pub invariant_of-self-then-holder-t : goal.invariant_of-self-then-holder-t
invariant_of-self-then-holder-t c =
    front_kept c.args.t (MustBackOff c.args.id) c.self.inside.contexts.items c.set_doing.new.contexts c.self.inside.contexts.len
    c.self.inside.drawn c.requires.lockable c.self.invariant (search rules) (search rules)

pub returns-in-None-clause-got : goal.returns-in-None-clause-got
returns-in-None-clause-got c = λ _.
    let old : Table = record { holders = c.self.inside.holders; contexts = c.self.inside.contexts.items; drawn = c.self.inside.drawn } in
    rw (← c.self.view_is, c.place_of.ensures.place) (taken_by old c.args.t c.args.id (search rules) c.requires.lockable)

pub returns-in-Some-2-clause-older : goal.returns-in-Some-2-clause-older
returns-in-Some-2-clause-older c =
    let old : Table = record { holders = c.self.inside.holders; contexts = c.self.inside.contexts.items; drawn = c.self.inside.drawn } in
    let written : c.set_doing.new.contexts ≡ map (with_doing c.args.t (MustBackOff c.args.id)) old.contexts = search rules in
    rw (← c.self.view_is)
    (set_at old c.args.t (MustBackOff c.args.id) Taking old.holders (with_items c.self.inside.contexts c.set_doing.new.contexts).items
    (front_is old.contexts c.set_doing.new.contexts c.self.inside.contexts.len (search rules) ∙ written)
    (rw (← c.self.view_is) at c.requires.taking))
