use Rattle.std.proofs.Common.{rules, ◌≡◌, [], ◌∷◌, ◌++◌, ap, sym, subst, ◌∙◌, arith}
use Rattle.kms_buffers.proofs.Counted.{kept-push}
use Rattle.kms_model.specs.declared.things.Framebuffer.{Framebuffer}
use Rattle.kms_model.specs.declared.tables.Slot.{Slot}
use Rattle.kms_model.specs.Things.Tables.{slot, AreBelow}
use Rattle.kms_model.specs.Things.Kept.{framebuffer}
use Rattle.kms_buffers.specs.Things.{open_fbs}
use Rattle.kms_buffers.proofs.Things.{made_fb, added_fb}
use Rattle.kms_buffers.proofs.framebuffers.FbStore.add.Goals as goal

pub returns-clause-thing : goal.returns-clause-thing
returns-clause-thing c =
    let added : c.push.new.self ≡ c.args.self.now ++ slot c.args.id (framebuffer c.args.owner c.args.buffer c.args.info) ∷ [] = search rules
    in
    let then : open_fbs c.push.new.self ≡ open_fbs c.args.self.now ++ slot c.args.id (framebuffer c.args.owner c.args.buffer c.args.info)
    ∷ [] =
    ap open_fbs added ∙ added_fb c.args.self.now c.args.id c.args.owner c.args.buffer c.args.info in
    λ w label same next. made_fb w c.args.owner label c.args.buffer c.args.info ∙ rw (same, next) (sym then)

pub invariant_of-self-2 : goal.invariant_of-self-2
invariant_of-self-2 c =
    let new : Slot Framebuffer = slot c.args.id (framebuffer c.args.owner c.args.buffer c.args.info) in
    let added : c.push.new.self ≡ c.self.inside.fbs ++ new ∷ [] = search rules in
    let old : c.args.self.now ≡ c.self.inside.fbs = search rules in
    rw added (kept-push c.self.inside.fbs new c.self.invariant (subst (λ fbs. AreBelow c.args.id fbs) old c.requires) (omega arith))
