use Rattle.std.proofs.Common.{rules, ◌≡◌, Some, refl, ap, sym, subst, ◌∙◌}
use Rattle.kms_model.specs.Things.Kept.{MayGive}
use Rattle.kms_model.specs.Things.Tables.{value_with_id}
use Rattle.kms_buffers.specs.Things.{open_fbs}
use Rattle.kms_buffers.proofs.Things.{fewer_same, last_is_closed}
use Rattle.kms_buffers.proofs.Counted.{AreCounted-with_fewer, kept-with_fewer}
use Rattle.kms_buffers.proofs.framebuffers.FbStore.give.Goals as goal

pub invariant_of-self : goal.invariant_of-self
invariant_of-self c = rw c.put_back.ensures (kept-with_fewer c.self.inside.fbs c.args.id _ c.self.invariant)

pub returns-clause-counted : goal.returns-clause-counted
returns-clause-counted c = rw c.put_back.ensures (AreCounted-with_fewer c.self.inside.fbs c.args.id _ c.self.invariant.counted)

pub returns-clause-things : goal.returns-clause-things
returns-clause-things c =
    let old : c.self.inside.fbs ≡ c.args.self.now = search rules in
    let at : value_with_id c.self.inside.fbs c.args.id ≡ Some c.in-Some.fb = sym c.found.ensures ∙ c.in-Some.is in
    let may : MayGive (Some c.in-Some.fb) = subst (λ fb. MayGive fb) at
    (subst (λ fbs. MayGive (value_with_id fbs c.args.id)) (sym old) c.requires) in
    ap open_fbs c.put_back.ensures
    ∙ (fewer_same c.self.inside.fbs c.args.id c.in-Some.fb _ c.self.invariant.rising at
    (record { is_open = refl; owner = refl; buffer = refl; info = refl }) (last_is_closed c.in-Some.fb may) ∙ ap open_fbs old)
