use Rattle.std.proofs.Common.{◌≡◌, ◌++◌, ◌∷◌, [], List, true, refl, ap, ◌∙◌, subst}
use Rattle.kms_model.specs.declared.worlds.Thing.{Thing}
use Rattle.kms_things.specs.Index.{IsIndex}
use Rattle.kms_things.proofs.Kept.{kept_made}
use Rattle.kms_things.proofs.Referred.{frames_plain, referred_made}
use Rattle.kms_things.proofs.things.Things.make.Goals as goal

pub invariant_of-self-2 : goal.invariant_of-self-2
invariant_of-self-2 c =
    let t : Thing = record {
      label = c.args.label;
      id = c.self.inside.next_id;
      owner = c.args.owner;
      content = c.args.content;
      is_open =
          true;
    } in
    let items : c.put.new.things.items ≡ c.self.inside.made.items ++ t
    ∷ [] = c.put.ensures.things ∙ ap (λ (ts : List Thing). ts ++ t ∷ []) c.in_ok-reserve.ensures.items in
    rw items (record {
      kept = kept_made c.self.inside.made.items c.self.inside.next_id c.self.inside.ids c.put.new.ids c.self.inside.buffers t
          c.self.invariant.kept refl c.requires.plain.wordless
          (frames_plain c.self.inside.made.items c.self.inside.next_id c.args.content c.requires.plain)
          (subst (λ ts. IsIndex c.put.new.ids ts) items c.put.ensures.indexed);
      referred = referred_made c.self.inside.made.items c.self.inside.next_id c.self.inside.fbs t refl c.requires.plain.unreferred
          c.self.invariant.referred;
    })
