use Rattle.std.proofs.Common.{sym, subst}
use Rattle.kms_check.specs.Moves.{AcceptedAs}
use Rattle.kms_check.proofs.Readiness.{HasRoom}
use Rattle.kms_check.proofs.Covering.{all-duplicated}
use Rattle.kms_check.proofs.moving.move_of_resolved.Goals.{After-have_places}
use Rattle.kms_check.proofs.moving.move_of_resolved.Goals as goal

room : (c : After-have_places) → HasRoom c.args.states.now
room c = record { crtcs = c.have_places.ensures.crtcs; planes = c.have_places.ensures.planes; conns = c.have_places.ensures.conns }

pub returns-in_ok-boxed-in-Ok : goal.returns-in_ok-boxed-in-Ok
returns-in_ok-boxed-in-Ok c = λ r used asks.
    let t = c.args.topology.now in
    let d = c.args.states.now in
    subst (λ checked. AcceptedAs t r used d checked c.args.resolved) (sym c.in_ok-boxed-in-Ok.ensures.ok)
    (record {
      asks = asks;
      gives = λ w is. c.in-Ok.ensures.checked w r is;
      passes = λ w is. sym (c.in-Ok.ensures.refusal w r is (sym (c.in-Ok.ensures.locks w r is)));
      covers = λ w is.
          all-duplicated w r is.device (room (goal.at.returns-in_ok-boxed-in-Ok c).After-have_places)
          (sym (c.in-Ok.ensures.locks w r is));
      kept = c.in-Ok.ensures.kept;
    })

pub returns-in-Err : goal.returns-in-Err
returns-in-Err c = λ r used asks.
    c.move_of_refused.ensures c.args.topology.now r used c.args.resolved asks (record {
      locks = λ w is. c.in-Err.ensures.locks w r is;
      refusal = λ w is none. c.in-Err.ensures.refusal w r is none;
    })
