use Rattle.std.proofs.Common.{◌≡◌, ◌++◌, ◌∷◌, [], rules, subst, sym}
use Rattle.kms_model.specs.declared.worlds.Thing.{Thing}
use Rattle.kms_things.specs.Index.{IsIndex, open_thing}
use Rattle.kms_things.proofs.Numbered.{indexed_more}
use Rattle.kms_things.proofs.index.put.Goals as goal

pub returns-clause-indexed : goal.returns-clause-indexed
returns-clause-indexed c =
    let thing : Thing = open_thing c.args.label c.args.id c.args.owner c.args.content in
    let e : c.push.new.self.items ≡ c.args.things.now.items ++ thing ∷ [] = search rules in
    subst (λ ts. IsIndex c.note.new.ids ts) (sym e)
    (indexed_more c.args.ids.now c.note.new.ids c.args.things.now.items thing c.requires.indexed c.note.ensures.noted)
