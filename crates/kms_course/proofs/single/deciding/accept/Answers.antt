use Rattle.std.proofs.Common.{◌≡◌, sym}
use Rattle.kms_core.specs.Decisions.{IsAccepted, IsDeciding, taker}
use Rattle.kms_core.specs.Run.{machine}
use Rattle.kms_core.proofs.Applied.{IsHistoryOf}
use Rattle.kms_course.proofs.Decided.{accepts, decides, own_taker, swap_answered, swap_done, test_answered, test_done}
use Rattle.kms_course.proofs.single.deciding.accept.Goals as goal
use Rattle.kms_course.proofs.single.deciding.accept.Goals.{After-has_sound_contexts}

-- what both calls ask for: the client decides, and its request is accepted
record IsReady (c : After-has_sound_contexts) : Type 0 where
  deciding : IsDeciding c.args.core.now c.args.context.now.ticket.0 c.args.used.now c.args.context.now.request
  accepted : IsAccepted c.args.core.now c.args.context.now.ticket.0 c.args.used.now c.args.context.now.request c.args.resolved.now
      c.args.checked.now
  own : taker (machine c.args.core.now) c.args.context.now.ticket.0 ≡ c.args.context.now.client

ready : (c : After-has_sound_contexts) → IsReady c
ready c =
    let is : IsHistoryOf c.args.core.now = record { formed = c.is_a_history.ensures.formed; history = c.is_a_history.ensures.history } in
    record {
      deciding = decides c.args.core.now c.args.context.now c.args.used.now is c.has_sound_contexts.ensures c.requires.taken
          c.requires.labels c.requires.going;
      accepted = accepts c.args.core.now c.args.context.now c.args.used.now c.args.resolved.now c.args.checked.now is
          c.has_sound_contexts.ensures c.requires.taken c.requires.accepted c.requires.states;
      own = own_taker c.args.core.now c.args.context.now is c.has_sound_contexts.ensures c.requires.taken;
    }

pub test-requires : goal.test-requires
test-requires c =
    let r = ready (goal.at.test-requires c).After-has_sound_contexts in
    record {
      request = c.args.context.now.request;
      deciding = r.deciding;
      resolved = c.args.resolved.now;
      accepted = r.accepted;
      test = sym
          c.if-is_test.ensures;
    }

pub swap-requires : goal.swap-requires
swap-requires c =
    let r = ready (goal.at.swap-requires c).After-has_sound_contexts in
    record {
      request = c.args.context.now.request;
      deciding = r.deciding;
      accepted = r.accepted;
      states = c.requires.states;
      no_test = sym
          c.if-is_test.ensures;
    }

pub returns-then-is_test : goal.returns-then-is_test
returns-then-is_test c =
    let own = (ready (goal.at.returns-then-is_test c).After-has_sound_contexts).own in
    record {
      answer = test_answered c.args.core.now c.test.new.self c.args.context.now c.args.used.now c.test.result own (sym c.if-is_test.ensures)
          c.test.ensures.answer;
      history = test_done c.args.core.now c.test.new.self c.args.context.now c.args.used.now c.test.result own (sym c.if-is_test.ensures)
          c.test.ensures.history;
    }

pub returns-else-is_test : goal.returns-else-is_test
returns-else-is_test c =
    let own = (ready (goal.at.returns-else-is_test c).After-has_sound_contexts).own in
    record {
      answer = swap_answered c.args.core.now c.swap.new.self c.args.context.now c.args.used.now c.swap.result own (sym c.if-is_test.ensures)
          c.swap.ensures.answer;
      history = swap_done c.args.core.now c.swap.new.self c.args.context.now c.args.used.now c.swap.result own (sym c.if-is_test.ensures)
          c.swap.ensures.history;
    }
