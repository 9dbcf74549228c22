use Rattle.std.proofs.Common.{◌≡◌, ◌∙◌, ◌<◌, ◌≤◌, List, true, false, length, get_or, sym, ap, subst, arith}
use Rattle.std.proofs.lemmas.List.{take_all}
use Rattle.kms_model.specs.declared.scripts.Assign.{Assign}
use Rattle.kms_model.specs.declared.worlds.Setting.{Setting}
use Rattle.kms_model.specs.Request.Agreement.{AgreesNew}
use Rattle.kms_model.specs.Request.Apply.{apply}
use Rattle.kms_model.specs.Request.Sets.{set_of}
use Rattle.kms_request.specs.Whole.{allowed_by}
use Rattle.kms_request.proofs.ChangedLemmas.{all_after, apply_counted, apply_skipped, at_hand, counted-allowed, counted-settable, nothing}
use Rattle.kms_request.proofs.ChangedLemmas.{set-agrees, set-may, set-there, same_then, stands-between}
use Rattle.kms_request.proofs.reaching.changed.Goals as goal

pub set_of-requires : goal.set_of-requires
set_of-requires g c =
    counted-settable (g.L.Looker.meaning c.args.found.now)
    (get_or c.as_slice-a-items.result.now c.loop-a.a-index nothing) c.requires.present.device
    (sym c.picks.ensures ∙ c.if-not-picks.false)

pub set-requires : goal.set-requires
set-requires g c =
    let t = c.args.topology.now in
    let f = g.L.Looker.meaning c.args.found.now in
    let a = get_or c.as_slice-a-items.result.now c.loop-a.a-index nothing in
    let device = c.requires.present.device in
    let counts = sym c.picks.ensures ∙ c.if-not-picks.false in
    record {
      device = device;
      all = all_after c.loop-a.invariant.same c.requires.present.all;
      object = set-there t f a c.set_of.result device counts c.set_of.ensures.set;
      value = set-may t f a c.set_of.result device counts c.set_of.ensures.set
          (c.set_of.ensures.among t (counted-allowed t f a counts));
    }

pub loop-a-preserved-then-not-picks : goal.loop-a-preserved-then-not-picks
loop-a-preserved-then-not-picks g c =
    let t = c.args.topology.now in
    let f = g.L.Looker.meaning c.args.found.now in
    let i = c.loop-a.a-index in
    let assigns = c.args.request.now.assigns in
    let within : i < length assigns = omega (arith, c.loop-a-test.true, c.as_slice-a-items.ensures.len) in
    let out = at_hand t f i c.as_slice-a-items.ensures.value c.picks.ensures
    c.if-not-picks.true in
    record {
      same = c.loop-a.invariant.same;
      old = c.loop-a.invariant.old;
      new = λ w present tells.
          subst (λ (values : List Setting). AgreesNew t w.things values c.loop-a.after)
          (sym (apply_skipped t f w.things w.values assigns i nothing within out)) (c.loop-a.invariant.new w present tells);
    }

pub loop-a-preserved : goal.loop-a-preserved
loop-a-preserved g c =
    let t = c.args.topology.now in
    let f = g.L.Looker.meaning c.args.found.now in
    let i = c.loop-a.a-index in
    let assigns = c.args.request.now.assigns in
    let a = get_or assigns i nothing in
    let within : i < length assigns = omega (arith, c.loop-a-test.true, c.as_slice-a-items.ensures.len) in
    let counts = at_hand t f i c.as_slice-a-items.ensures.value c.picks.ensures
    c.if-not-picks.false in
    let is : c.set_of.result ≡ set_of f a = c.set_of.ensures.set ∙ ap (λ (xs : List Assign). set_of f (get_or xs i nothing))
    c.as_slice-a-items.ensures.value in
    record {
      same = same_then c.loop-a.invariant.same c.set.ensures.same;
      old = λ things values before. c.set.ensures.old things values (c.loop-a.invariant.old things values before);
      new = λ w present tells.
          subst (λ (values : List Setting). AgreesNew t w.things values c.set.new.states)
          (sym (apply_counted t f w.things w.values assigns i nothing within counts))
          (set-agrees t f a c.set_of.result present.device counts is w tells present.numbered.things c.set.ensures
          (c.loop-a.invariant.new w present tells));
    }

pub returns-clause-new : goal.returns-clause-new
returns-clause-new g c = λ w present tells.
    let t = c.args.topology.now in
    let f = g.L.Looker.meaning c.args.found.now in
    let end : length c.args.request.now.assigns ≤ c.loop-a.a-index = omega (arith, c.loop-a-test.false, c.as_slice-a-items.ensures.len) in
    subst (λ (assigns : List Assign). AgreesNew t w.things (apply w.things w.values (allowed_by t f assigns)) c.loop-a.after)
    (take_all c.loop-a.a-index c.args.request.now.assigns end) (c.loop-a.invariant.new w present tells)

pub returns-clause-between : goal.returns-clause-between
returns-clause-between g c = λ w present tells early.
    stands-between (g.L.Looker.meaning c.args.found.now) c.args.request.now present
    tells early
    (c.loop-a.invariant.old w.things w.values) c.loop-a.invariant.same (returns-clause-new g c w present tells)
