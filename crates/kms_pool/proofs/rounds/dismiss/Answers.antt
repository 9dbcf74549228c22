use Rattle.std.proofs.Common.{arith, [], ◌≡◌, length, ap, sym, ◌∙◌}
use Rattle.std.proofs.lemmas.List.Elements.{All-same, All-head, All-tail}
use Rattle.crossbeam_queue.specs.Passes.{view, IsPassOf}
use Rattle.kms_pool.specs.Rules.{hand}
use Rattle.kms_pool.proofs.Keeps.{merges}
use Rattle.kms_pool.proofs.rounds.dismiss.Goals as goal

pub absorb-requires-clause-rule : goal.absorb-requires-clause-rule
absorb-requires-clause-rule g c =
    let ready = All-head (λ w. IsPassOf c.args.queue.now w.pass × (view w.pass ≡ hand 1 [] [])) c.in-Some.worker _
    (All-same (λ w. IsPassOf c.args.queue.now w.pass × (view w.pass ≡ hand 1 [] [])) _ _ (sym c.in-Some.ensures.steps.0)
    c.loop-worker.invariant.ready) in
    merges (λ x. g.P.Player.name x.player.value) _ _ _ _ c.loop-worker.invariant.some (ap (λ v. v.brought) ready.1)
    (ap (λ v. v.held) ready.1)

pub loop-worker-preserved : goal.loop-worker-preserved
loop-worker-preserved g c =
    let i = c.loop-worker.invariant in let steps = c.in-Some.ensures.steps.0 in let gone = c.in-Some.ensures.steps.1 in
    let all = All-same (λ w. IsPassOf c.args.queue.now w.pass × (view w.pass ≡ hand 1 [] [])) _ _ (sym steps) i.ready in
    let ready = All-head (λ w. IsPassOf c.args.queue.now w.pass × (view w.pass ≡ hand 1 [] [])) c.in-Some.worker _ all in
    let same = c.absorb.ensures.queue in let now = c.absorb.ensures.rule in
    let parts = ap (λ v. v.parts) now in let one = ap (λ v. v.parts) ready.1 in let long = ap length steps in record {
      own = (same.0 ∙ i.own.0, same.2 ∙ i.own.1);
      same = (same.0 ∙ i.same.0, same.1 ∙ i.same.1, same.2 ∙ i.same.2);
      some = let s = i.some in omega arith;
      parts = let p = i.parts in omega arith;
      view_is = now ∙ (λ k. hand (sym parts k) (ap (λ v. v.brought) i.view_is k) (ap (λ v. v.held) i.view_is k));
      ready = All-tail (λ w. IsPassOf c.args.queue.now w.pass × (view w.pass ≡ hand 1 [] [])) c.in-Some.worker _ all;
      rest = let r = i.rest in omega arith;
    }
