use Rattle.std.proofs.Common.{◌≡◌, ◌+◌, ◌++◌, ◌∷◌, [], List, true, refl, sym, ap, ◌∙◌, subst, arith}
use Rattle.kms_model.specs.declared.things.Framebuffer.{Framebuffer}
use Rattle.kms_model.specs.declared.tables.Slot.{Slot}
use Rattle.kms_model.specs.declared.worlds.Content.TheVariants as content
use Rattle.kms_model.specs.declared.worlds.Thing.{Thing}
use Rattle.kms_model.specs.declared.worlds.World.{World}
use Rattle.kms_model.specs.Frames.Shown.{IsFramed}
use Rattle.kms_model.specs.Things.Kept.{framebuffer}
use Rattle.kms_model.specs.Things.Tables.{slot}
use Rattle.kms_things.specs.Index.{IsIndex}
use Rattle.kms_things.specs.Made.{Made}
use Rattle.kms_things.proofs.Kept.{kept_made}
use Rattle.kms_things.proofs.Referred.{below_further, below_more}
use Rattle.kms_things.proofs.things.Things.make_fb.Goals as goal

pub invariant_of-self-2 : goal.invariant_of-self-2
invariant_of-self-2 c =
    let kept = c.self.invariant.kept in
    let referred = c.self.invariant.referred in
    let next = c.self.inside.next_id in
    let before = c.self.inside.made.items in
    let t : Thing = record {
      label = c.args.label;
      id = next;
      owner = c.args.owner;
      content = content.Framebuffer c.args.info c.args.buffer;
      is_open = true;
    } in
    let new : Slot Framebuffer = slot next (framebuffer c.args.owner c.args.buffer c.args.info) in
    let w : World = record { values = []; things = before; next_id = next; commits = 0 } in
    let items : c.put.new.things.items ≡ before ++ t
    ∷ [] = c.put.ensures.things ∙ ap (λ (ts : List Thing). ts ++ t ∷ []) c.in_ok-reserve.ensures.items in
    let framed = subst (λ (m : Made). IsFramed m.things m.next_id c.args.info c.args.buffer) (sym c.self.view_is) c.requires.framed in
    let below = below_more (next + 1) c.self.inside.fbs new (below_further next (next + 1) c.self.inside.fbs (omega arith) referred.below)
    (omega arith) in
    record {
      kept = rw items (kept_made before next c.self.inside.ids c.put.new.ids c.self.inside.buffers t kept refl (λ id owner. refl) framed
          (subst (λ ts. IsIndex c.put.new.ids ts) items c.put.ensures.indexed));
      referred = record {
        below = rw c.in_ok-add.ensures.added below;
        same = rw items (c.in_ok-add.ensures.thing w c.args.label referred.same refl);
      };
    }
