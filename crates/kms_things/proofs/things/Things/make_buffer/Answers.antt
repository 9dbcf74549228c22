use Rattle.std.proofs.Common.{sym, None, ◌≡◌, ◌++◌, ◌∷◌, [], List, true, refl, ap, ◌∙◌, subst}
use Rattle.kms_model.specs.declared.worlds.Content.TheVariants as content
use Rattle.kms_model.specs.declared.worlds.Thing.{Thing}
use Rattle.kms_things.specs.Made.{Made}
use Rattle.kms_model.specs.Device.Execution.{new_buffer_refusal}
use Rattle.kms_things.specs.Index.{IsIndex}
use Rattle.kms_things.proofs.Kept.{all_below, kept_buffer}
use Rattle.kms_things.proofs.Referred.{referred_made}
use Rattle.kms_things.proofs.things.Things.make_buffer.Goals as goal

pub create-requires-clause-fresh : goal.create-requires-clause-fresh
create-requires-clause-fresh c =
    rw (c.self.invariant.kept.next, c.self.invariant.kept.words) (all_below 1000 c.self.inside.made.items c.self.invariant.kept.numbered)

pub invariant_of-self-2 : goal.invariant_of-self-2
invariant_of-self-2 c =
    let t : Thing = record {
      label = c.args.label;
      id = c.self.inside.next_id;
      owner = c.args.owner;
      content = content.Buffer
          c.args.asked.width c.args.asked.height c.args.asked.format c.args.asked.pattern;
      is_open = true;
    } in
    let items : c.put.new.things.items ≡ c.self.inside.made.items ++ t ∷ [] = c.put.ensures.things ∙ ap (λ (ts : List Thing). ts ++ t ∷ [])
    c.in_ok-reserve.ensures.items in
    record {
      kept = rw (items, c.in-Ok.ensures.made) (kept_buffer c.self.inside.made.items c.self.inside.next_id c.self.inside.ids c.put.new.ids
          c.self.inside.buffers c.args.label c.args.owner c.args.asked.width c.args.asked.height c.args.asked.format c.args.asked.pattern
          c.self.invariant.kept (subst (λ ts. IsIndex c.put.new.ids ts) items c.put.ensures.indexed));
      referred = rw items (referred_made c.self.inside.made.items c.self.inside.next_id c.self.inside.fbs t refl (λ owner. refl)
          c.self.invariant.referred);
    }

pub returns-clause-made : goal.returns-clause-made
returns-clause-made c =
    let things = c.self.inside.made.items in
    let accepted : new_buffer_refusal things c.args.asked.width c.args.asked.height c.args.asked.format ≡ None =
    subst (λ (m : Made). new_buffer_refusal m.things c.args.asked.width c.args.asked.height c.args.asked.format ≡ None) (sym c.self.view_is)
    (sym c.new_buffer_refusal.ensures ∙ c.in_default.is) in
    let t : Thing = record {
      label = c.args.label;
      id = c.self.inside.next_id;
      owner = c.args.owner;
      content = content.Buffer
          c.args.asked.width c.args.asked.height c.args.asked.format c.args.asked.pattern;
      is_open = true;
    } in
    let items : c.put.new.things.items ≡ things ++ t ∷ [] = c.put.ensures.things ∙ ap (λ (ts : List Thing). ts ++ t ∷ [])
    c.in_ok-reserve.ensures.items in
    rw (← c.self.view_is, accepted, items) (λ w. refl)
