use Rattle.std.proofs.Common.{List, ap, arith, length, refl, sym}
use Rattle.kms_audit.proofs.Comparing.{last-client, next-client, own-within}
use Rattle.kms_audit.specs.Eventing.{ReplyFields}
use Rattle.kms_audit.proofs.compared.Compared.compare.Goals as goal

pub loop-client-init : goal.loop-client-init
loop-client-init c = c.requires.compared

pub compare_block-self-requires : goal.compare_block-self-requires
compare_block-self-requires c =
    let within =
    own-within c.args.script.now c.args.report.now c.args.place c.loop-client.client c.loop-client.self (record { next = 0; end = 0 })
    (omega arith) c.loop-client.invariant in
    record { within = omega (arith, within, ap (λ (rs : List ReplyFields). length rs) c.as_slice-replies.ensures.value) }

pub loop-client-preserved : goal.loop-client-preserved
loop-client-preserved c =
    next-client c.args.script.now c.args.report.now c.args.place c.loop-client.client c.loop-client.self _
    (omega arith) c.loop-client.invariant
    c.compare_block-self.new.block c.compare_block-self.result
    (c.compare_block-self.ensures c.args.report.now c.requires.index (sym c.as_slice-replies.ensures.value) c.requires.at) _ refl

pub returns : goal.returns
returns c = last-client c.args.script.now c.args.report.now c.args.place c.loop-client.client c.loop-client.self (omega arith)
    (omega arith) c.loop-client.invariant
