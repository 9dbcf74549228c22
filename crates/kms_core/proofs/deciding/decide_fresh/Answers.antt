use Rattle.std.proofs.Common.{refl}
use Rattle.kms_core.specs.declared.stores.looking.Decided.TheVariants as answer
use Rattle.kms_core.proofs.stores.Histories.{seen}
use Rattle.kms_core.proofs.stores.Fresh.{answers_again, fresh_now}
use Rattle.kms_core.proofs.deciding.decide_fresh.Goals as goal

pub returns-in-Some-clause-answer : goal.returns-in-Some-clause-answer
returns-in-Some-clause-answer c =
    answers_again c.args.used.now c.in-Some.stale (answer.Done c.args.reply) c.again.result (seen c.stores.invariant
    c.stores.view_is).stands c.in-Some.ensures c.again.ensures

pub decide-requires : goal.decide-requires
decide-requires c = c.requires (fresh_now c.args.used.now (seen c.stores.invariant c.stores.view_is).stands c.in_default.ensures)

pub returns-clause-answer : goal.returns-clause-answer
returns-clause-answer c = (
  fresh_now c.args.used.now (seen c.stores.invariant c.stores.view_is).stands c.in_default.ensures,
  refl,
)
