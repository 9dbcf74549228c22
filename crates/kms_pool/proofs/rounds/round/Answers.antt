use Rattle.std.proofs.Common.{◌≡◌, map, IsPermutation, ap, sym, ◌∙◌, subst}
use Rattle.std.proofs.lemmas.List.Sorted.{IsPermutation-trans}
use Rattle.std.proofs.lemmas.Result.{IfOk-weaker}
use Rattle.crossbeam_queue.specs.Passes.{view}
use Rattle.kms_pool.proofs.rounds.round.Goals as goal

pub returns : goal.returns
returns g c =
    let names = map (λ x. g.P.Player.name x.player.value) c.args.participants.items in
    let kept : (view c.dismiss.new.pass).brought ≡ (view c.bring_all.new.pass).brought
    = ap (λ v. v.brought) c.in_ok-dismiss.ensures.joined ∙ ap (λ v. v.brought) c.in_ok-workers.ensures.split in
    IfOk-weaker c.take_all.result _ _ (λ r same. IsPermutation-trans names _ _
    (subst (λ ns. IsPermutation names ns) (sym kept) c.bring_all.ensures.brought.brought) same) c.take_all.ensures
