use Rattle.std.proofs.Common.{rules, ◌≡◌, refl, ap, sym, ◌∙◌, arith}
use Rattle.kms_buffers.specs.Things.{open_fbs}
use Rattle.kms_buffers.proofs.Counted.{AreCounted-with_value, kept-with_value}
use Rattle.kms_buffers.proofs.Things.{put_same}
use Rattle.kms_buffers.proofs.framebuffers.FbStore.take.Goals as goal

pub invariant_of-self : goal.invariant_of-self
invariant_of-self c = rw c.set.ensures (kept-with_value c.self.inside.fbs c.args.id _ c.self.invariant (omega arith))

pub returns-in-Some-clause-counted : goal.returns-in-Some-clause-counted
returns-in-Some-clause-counted c = rw c.set.ensures
    (AreCounted-with_value c.self.inside.fbs c.args.id _ c.self.invariant.counted (omega arith))

pub returns-in-Some-clause-things : goal.returns-in-Some-clause-things
returns-in-Some-clause-things c =
    let old : c.self.inside.fbs ≡ c.args.self.now = search rules in
    ap open_fbs c.set.ensures
    ∙ (put_same c.self.inside.fbs c.args.id c.in-Some.fb _ c.self.invariant.rising (sym c.found.ensures ∙ c.in-Some.is)
    (record { is_open = refl; owner = refl; buffer = refl; info = refl }) ∙ ap open_fbs old)
