use Rattle.std.proofs.Common.{List, true, refl, subst}
use Rattle.kms_model.specs.declared.worlds.Content.TheVariants as content
use Rattle.kms_things.proofs.Referred.{referred_made}
use Rattle.kms_model.specs.declared.worlds.Thing.{Thing}
use Rattle.kms_things.specs.Index.{IsIndex}
use Rattle.kms_things.proofs.Kept.{kept_fence}
use Rattle.kms_things.proofs.index.put_fence.Goals as goal

pub returns-clause-kept : goal.returns-clause-kept
returns-clause-kept c =
    λ buffers kept. rw c.put.ensures.things (kept_fence c.args.things.now.items c.args.next c.args.ids.now c.put.new.ids buffers
    c.in-Some.label c.args.client kept (subst (λ (ts : List Thing). IsIndex c.put.new.ids ts) c.put.ensures.things
    c.put.ensures.indexed))

pub returns-clause-referred : goal.returns-clause-referred
returns-clause-referred c =
    λ fbs referred. rw c.put.ensures.things (referred_made c.args.things.now.items c.args.next fbs
    (record { label = c.in-Some.label; id = c.args.next; owner = c.args.client; content = content.OutFence; is_open = true }) refl
    (λ owner. refl) referred)
