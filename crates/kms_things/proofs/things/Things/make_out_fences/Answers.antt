use Rattle.std.proofs.Common.{◌∙◌, ap, sym}
use Rattle.kms_model.specs.declared.worlds.World.{World}
use Rattle.kms_things.specs.Made.{Made, with_made}
use Rattle.kms_things.specs.OutFences.{fences_made}
use Rattle.kms_things.proofs.MadeLemmas.{fences_of_crtcs}
use Rattle.kms_things.proofs.Kept.{kept_reordered}
use Rattle.kms_things.proofs.things.Things.make_out_fences.Goals as goal

pub invariant_of-self-2 : goal.invariant_of-self-2
invariant_of-self-2 c =
    let items = c.in_ok-reserve.ensures.items in
    record {
      kept = c.put_fences-self-inside.ensures.kept c.self.inside.buffers
          (rw items (kept_reordered c.self.inside.made.items c.self.inside.next_id c.self.inside.ids c.reserve-2.new.self
          c.self.inside.buffers c.self.invariant.kept c.in_ok-reserve-2.ensures.entries.2));
      referred = c.put_fences-self-inside.ensures.referred c.self.inside.fbs (rw items c.self.invariant.referred);
    }

pub returns-clause-made : goal.returns-clause-made
returns-clause-made c = λ w assigns crtcs are. (
    let before : World = with_made w c.args.self.now in
    sym (fences_of_crtcs c.args.client assigns before crtcs)
    ∙ ap (fences_made c.args.client before) (sym are)
    ∙ c.put_fences-self-inside.ensures.made before (ap (λ (m : Made). m.things) (sym c.self.view_is) ∙ sym c.in_ok-reserve.ensures.items)
    (ap (λ (m : Made). m.next_id) (sym c.self.view_is)))
