use Rattle.std.proofs.Common.{refl, rules, ◌≡◌, [], ◌∷◌, ◌++◌, sym, ◌∙◌}
use Rattle.kms_model.specs.Things.Tables.{slot}
use Rattle.kms_model.specs.Things.Kept.{buffer}
use Rattle.kms_buffers.proofs.Things.{made_buffer}
use Rattle.kms_buffers.proofs.Bytes.{counted-push}
use Rattle.kms_buffers.proofs.buffers.Buffers.create.Goals as goal

pub invariant_of-self-2 : goal.invariant_of-self-2
invariant_of-self-2 c =
    rw c.in_ok-push.ensures.ok (counted-push c.in_ok-total.total c.self.inside.buffers _
    (c.in_ok-total.ensures.total ∙ rw c.self.view_is refl) c.in_ok-total.ensures.within)

pub returns-clause-thing : goal.returns-clause-thing
returns-clause-thing c =
    let made : c.push.new.self ≡ c.args.self.now ++ slot c.args.id
    (buffer c.args.owner c.args.width c.args.height c.args.format c.args.pattern.now) ∷ [] = search rules in
    λ w label same next. made_buffer w c.args.owner label c.args.width c.args.height c.args.format c.args.pattern.now ∙ rw (same, next)
    (sym made)
