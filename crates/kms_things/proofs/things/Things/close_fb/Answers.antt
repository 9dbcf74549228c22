use Rattle.std.proofs.Common.{◌≡◌, ◌∙◌, None, subst, sym}
use Rattle.kms_model.specs.Device.Execution.{close_refusal}
use Rattle.kms_model.specs.Device.World.{thing_with_id}
use Rattle.kms_things.specs.Made.{Made}
use Rattle.kms_things.proofs.Kept.{kept_closed}
use Rattle.kms_things.proofs.Referred.{referred_closed}
use Rattle.kms_things.proofs.things.Things.close_fb.Goals as goal

pub invariant_of-self : goal.invariant_of-self
invariant_of-self c =
    let kept = c.self.invariant.kept in
    let referred = c.self.invariant.referred in
    let items = c.self.inside.made.items in
    let may = subst (λ (m : Made). close_refusal c.args.client (thing_with_id m.things c.args.id) ≡ None) (sym c.self.view_is) c.requires in
    rw c.close-2.ensures (record {
      kept = kept_closed items c.self.inside.next_id c.self.inside.ids c.self.inside.buffers c.args.id kept;
      referred = referred_closed c.close.result items c.self.inside.next_id c.self.inside.fbs c.close.new.self c.args.client c.args.id
          c.close.ensures.store
          (c.close.ensures.things items referred.same) (c.close.ensures.refusal items kept.numbered referred.same ∙ may) referred;
    })
