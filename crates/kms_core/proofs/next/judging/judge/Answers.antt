use Rattle.std.proofs.Common.{◌≡◌, ◌∙◌, ◌<◌, ◌-◌, length, None, rules, refl, sym}
use Rattle.kms_model.specs.Request.Verdict.{early_in}
use Rattle.kms_request.specs.Whole.{StandBetween}
use Rattle.kms_core.specs.Decisions.{world}
use Rattle.kms_core.specs.Run.{machine}
use Rattle.kms_core.specs.Insides.{run_in, stores_of}
use Rattle.kms_core.proofs.next.JudgedRequests.{early_none, judged_late, none_told, takes_at}
use Rattle.kms_core.proofs.Lates.{few_at, queue_at, queue_there}
use Rattle.kms_core.proofs.next.Presented.{presented, somewhere_now, tells_now}
use Rattle.kms_core.proofs.next.judging.judge.Goals as goal

pub changed-after-requires : goal.changed-after-requires
changed-after-requires c = somewhere_now c.stores.invariant.stands

pub index-queue-requires : goal.index-queue-requires
index-queue-requires c =
    let r = run_in c.stores.inside in
    let within : c.args.client - 1 < length c.stores.inside.queues.items =
    (queue_there c.args.client (takes_at c.args.client (c.stores.view_is ∙ c.deref-stores.ensures ∙ c.core.view_is) c.requires).at
    c.stores.invariant.stands).within in
    search rules

pub late_reply-requires : goal.late_reply-requires
late_reply-requires c =
    let r = run_in c.stores.inside in
    few_at c.args.client
    (takes_at c.args.client (c.stores.view_is ∙ c.deref-stores.ensures ∙ c.core.view_is)
    c.requires).at c.stores.invariant.stands c.index-queue.ensures

pub full_check-requires : goal.full_check-requires
full_check-requires c =
    let r = run_in c.stores.inside in
    let st = stores_of c.stores.inside in
    let none = early_none c.args.request.now c.early.result c.stores.invariant.stands c.early.ensures.first
    (sym c.is_some.ensures ∙ c.if-is_some.false) in
    record {
      world = world r;
      between = c.changed-after.ensures.between (world r) (presented c.stores.invariant.stands)
          (tells_now c.stores.invariant.stands) none;
    }

pub returns : goal.returns
returns c =
    let r = run_in c.stores.inside in
    let st = stores_of c.stores.inside in
    let none : early_in r.script.topology (world r) c.args.request.now
    ≡ None = early_none c.args.request.now c.early.result c.stores.invariant.stands c.early.ensures.first
    (sym c.is_some.ensures ∙ c.if-is_some.false) in
    let stand : StandBetween r.script.topology (world r) c.args.request.now c.changed-after.result = c.changed-after.ensures.between
    (world r) (presented c.stores.invariant.stands) (tells_now c.stores.invariant.stands) none in
    let takes = takes_at c.args.client (c.stores.view_is ∙ c.deref-stores.ensures ∙ c.core.view_is)
    c.requires in
    judged_late _ c.stores.invariant.stands
    (c.stores.view_is ∙ c.deref-stores.ensures ∙ c.core.view_is) takes
    (record {
      after = c.changed-after.result;
      named = c.spans-named.result.0;
      touched = c.spans-named.result.1;
      queue = c.index-queue.result.now;
      refusal = c.full_check.result;
      none = none;
      named_is = c.spans-named.ensures.named r.script.topology (world r) stand;
      touched_is = c.spans-named.ensures.touched r.script.topology (world r) stand;
      queue_is = queue_at c.args.client takes.at c.stores.invariant.stands
          c.index-queue.ensures;
      refusal_is = c.full_check.ensures (world r) stand;
      holds = c.holds_all.ensures (machine r) c.stores.invariant.stands.stores.clients;
      late = refl;
      hindered = c.late_reply.ensures;
      ready = none_told c.is_none.result c.not_yet.result
          (sym c.is_none.ensures) c.not_yet.ensures;
    })
