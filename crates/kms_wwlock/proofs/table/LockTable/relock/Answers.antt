use Rattle.std.proofs.Common.{◌≡◌, rules, sym, ap, ◌∙◌, subst, map, Some}
use Rattle.std.specs.Vec.{with_items}
use Rattle.kms_model.specs.declared.objects.ObjId.{ObjId}
use Rattle.kms_wwlock.specs.Table.{Table, doing_in_contexts}
use Rattle.kms_wwlock.specs.declared.contexts.ContextDoing.TheVariants.{Taking, BackedOff}
use Rattle.kms_wwlock.specs.Objects.{IsLockable, lock_place}
use Rattle.kms_wwlock.specs.Calls.{with_doing}
use Rattle.kms_wwlock.proofs.Meanings.{relocked_at}
use Rattle.kms_wwlock.proofs.Kept.{named, front_is, front_kept}
use Rattle.kms_wwlock.proofs.table.LockTable.relock.Goals as goal
use Rattle.kms_wwlock.proofs.table.LockTable.relock.Goals.{In-Some-BackedOff}

lockable : (c : In-Some-BackedOff) → IsLockable c.in-Some-BackedOff.id
lockable c = named c.args.t (BackedOff c.in-Some-BackedOff.id) c.self.inside.contexts.items c.self.invariant.lockable (search rules)

pub holder-requires : goal.holder-requires
holder-requires c = lockable c

pub place_of-requires : goal.place_of-requires
place_of-requires c = lockable (goal.at.place_of-requires c).In-Some-BackedOff

pub invariant_of-self : goal.invariant_of-self
invariant_of-self c =
    front_kept c.args.t Taking c.self.inside.contexts.items c.set_doing.new.contexts c.self.inside.contexts.len
    c.self.inside.drawn tt c.self.invariant (search rules) (search rules)

pub returns-in-None-clause-got : goal.returns-in-None-clause-got
returns-in-None-clause-got c = λ _. λ id is.
    let old : Table = record { holders = c.self.inside.holders; contexts = c.self.inside.contexts.items; drawn = c.self.inside.drawn } in
    let asked : doing_in_contexts old.contexts c.args.t ≡ Some (BackedOff id) = rw (← c.self.view_is) at is in
    let found : doing_in_contexts old.contexts c.args.t ≡ Some (BackedOff c.in-Some-BackedOff.id) = search rules in
    let same : id ≡ c.in-Some-BackedOff.id = cc in
    let written : c.set_doing.new.contexts ≡ map (with_doing c.args.t Taking) old.contexts = search rules in
    rw (← c.self.view_is)
    (relocked_at old c.args.t id c.place_of.result (with_items c.self.inside.contexts c.set_doing.new.contexts).items
    (search rules)
    (subst IsLockable (sym same) (lockable (goal.at.returns-in-None-clause-got c).In-Some-BackedOff))
    (c.place_of.ensures.place ∙ ap (λ (o : ObjId). lock_place o) (sym same))
    (front_is old.contexts c.set_doing.new.contexts c.self.inside.contexts.len (search rules) ∙ written)
    asked)
