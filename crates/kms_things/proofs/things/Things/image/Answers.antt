use Rattle.std.proofs.Common.{◌≡◌, Some, sym, ◌∙◌, subst}
use Rattle.kms_things.specs.Made.{Made}
use Rattle.kms_model.specs.Device.World.{thing_with_id}
use Rattle.kms_things.proofs.Images.{has_image, if_none, if_some, image_is}
use Rattle.kms_things.proofs.things.Things.image.Goals as goal

pub returns-in-Framebuffer-clause-some : goal.returns-in-Framebuffer-clause-some
returns-in-Framebuffer-clause-some c =
    let thing = c.in_ok-buffer.field-0.now in
    let at : thing_with_id c.self.inside.made.items c.args.fb
    ≡ Some thing = subst (λ (m : Made). thing_with_id m.things c.args.fb ≡ Some thing) (sym c.self.view_is) (sym c.in_ok-buffer.ensures)
    in
    let is = image_is c.self.inside.made.items c.self.inside.next_id c.self.inside.ids c.self.inside.buffers c.args.fb thing
    c.in-Framebuffer.info c.in-Framebuffer.buffer c.self.invariant.kept at c.in-Framebuffer.is in
    rw (← c.self.view_is) (if_some c.image.result _ _ (λ image e. is ∙ e) c.image.ensures.some)

pub returns-in-Framebuffer-clause-none : goal.returns-in-Framebuffer-clause-none
returns-in-Framebuffer-clause-none c =
    let thing = c.in_ok-buffer.field-0.now in
    let at : thing_with_id c.self.inside.made.items c.args.fb
    ≡ Some thing = subst (λ (m : Made). thing_with_id m.things c.args.fb ≡ Some thing) (sym c.self.view_is) (sym c.in_ok-buffer.ensures)
    in
    let never = has_image c.self.inside.made.items c.self.inside.next_id c.self.inside.ids c.self.inside.buffers c.args.fb thing
    c.in-Framebuffer.info c.in-Framebuffer.buffer c.self.invariant.kept at c.in-Framebuffer.is in
    if_none c.image.result _ _ (λ none. absurd (never none)) c.image.ensures.none
