use Rattle.std.proofs.Common.{◌≡◌, ◌∙◌, rules, ap, map, Some}
use Rattle.std.specs.Vec.{with_items}
use Rattle.kms_model.specs.declared.objects.ObjId.{ObjId}
use Rattle.kms_wwlock.specs.declared.contexts.ContextDoing.TheVariants.{MustBackOff, BackedOff}
use Rattle.kms_wwlock.specs.Table.{Table, doing_in_contexts}
use Rattle.kms_wwlock.specs.Calls.{with_doing}
use Rattle.kms_wwlock.proofs.Meanings.{set_at}
use Rattle.kms_wwlock.proofs.Kept.{named, front_is, front_kept}
use Rattle.kms_wwlock.proofs.table.LockTable.backoff.Goals as goal

-- the object was lockable when the context had to back off for it
pub invariant_of-self : goal.invariant_of-self
invariant_of-self c =
    front_kept c.args.t (BackedOff c.in-Some-MustBackOff.id) c.self.inside.contexts.items c.set_doing.new.contexts
    c.self.inside.contexts.len
    c.self.inside.drawn (named c.args.t (MustBackOff c.in-Some-MustBackOff.id) c.self.inside.contexts.items c.self.invariant.lockable
    (search rules))
    c.self.invariant (search rules) (search rules)

pub returns-clause-backed_off : goal.returns-clause-backed_off
returns-clause-backed_off c = λ id is.
    let old : Table = record { holders = c.self.inside.holders; contexts = c.self.inside.contexts.items; drawn = c.self.inside.drawn } in
    let asked : doing_in_contexts old.contexts c.args.t ≡ Some (MustBackOff id) = rw (← c.self.view_is) at is in
    let found : doing_in_contexts old.contexts c.args.t ≡ Some (MustBackOff c.in-Some-MustBackOff.id) = search rules in
    let same : c.in-Some-MustBackOff.id ≡ id = cc in
    let written : c.set_doing.new.contexts ≡ map (with_doing c.args.t (BackedOff c.in-Some-MustBackOff.id)) old.contexts = search rules in
    rw (← c.self.view_is)
    (set_at old c.args.t (BackedOff id) (MustBackOff id) c.free_all.new.holders
    (with_items c.self.inside.contexts c.set_doing.new.contexts).items
    (front_is old.contexts c.set_doing.new.contexts c.self.inside.contexts.len (search rules) ∙ written
    ∙ ap (λ (o : ObjId). map (with_doing c.args.t (BackedOff o)) old.contexts) same)
    asked)
