use Rattle.std.proofs.Common.{map, IsPermutation, ap, sym, ◌∙◌, subst}
use mathlib.Core.List.{map-map}
use Rattle.std.proofs.lemmas.List.Elements.{All-same, All-map}
use Rattle.std.proofs.lemmas.List.Sorted.{IsPermutation-refl, IsPermutation-trans}
use Rattle.std.proofs.lemmas.Result.{IfOk-weaker}
use Rattle.kms_pool.specs.Settled.{Rests}
use Rattle.kms_pool.proofs.rounds.drive.Goals as goal

pub loop-init : goal.loop-init
loop-init g c =
    let name = g.P.Player.name in
    subst (λ ns. IsPermutation (map name c.args.players) ns)
    (ap (map name) (sym c.in_ok-participants.ensures) ∙ map-map name (λ x. x.player.value) c.in_ok-participants.participants.items)
    (IsPermutation-refl (map name c.args.players))

pub loop-preserved : goal.loop-preserved
loop-preserved g c = IsPermutation-trans _ _ _ c.loop.invariant c.in_ok-participants-2.ensures

pub returns-then-all_rest-clause-players : goal.returns-then-all_rest-clause-players
returns-then-all_rest-clause-players g c =
    let name = g.P.Player.name in
    IfOk-weaker c.players_of.result _ _
    (λ r is. subst (λ ns. IsPermutation (map name c.args.players) ns)
    (sym (ap (map name) is ∙ map-map name (λ x. x.player.value) c.loop.participants.items)) c.loop.invariant) c.players_of.ensures

pub returns-then-all_rest-clause-settled : goal.returns-then-all_rest-clause-settled
returns-then-all_rest-clause-settled g c =
    let answer = g.P.Player.answer in
    let settled = c.all_rest.ensures c.if-all_rest.true in
    IfOk-weaker c.players_of.result _ _
    (λ r is. (
      settled.0,
      All-same (λ p. Rests settled.0 (answer p)) _ _ is
          (All-map (λ p. Rests settled.0 (answer p)) (λ x. x.player.value) _
          (All-same (λ s. Rests settled.0 (answer s.player.value)) _ _ (sym c.as_slice.ensures.value) settled.1)),
    ))
    c.players_of.ensures
