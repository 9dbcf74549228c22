use Rattle.std.proofs.Common.{◌≡◌, ◌∙◌, Err, None, Some, inr, sym, ap}
use Rattle.std.specs.Prelude.{option_map}
use Rattle.kms_model.specs.declared.worlds.World.{World}
use Rattle.kms_model.specs.Request.Deciding.{IsOfRequest}
use Rattle.kms_check.specs.Answers.{locks_of, refusal_of}
use Rattle.kms_check.specs.Lacking.{first_lacking}
use Rattle.kms_check.proofs.Readiness.{HasRoom}
use Rattle.kms_check.specs.Moves.{least_of}
use Rattle.kms_check.proofs.Covering.{all-duplicated}
use Rattle.kms_check.proofs.Masks.{asks-some}
use Rattle.kms_check.proofs.moving.move_of_refused.Goals.{After-have_places}
use Rattle.kms_check.proofs.moving.move_of_refused.Goals as goal

room : (c : After-have_places) → HasRoom c.args.states.now
room c = record { crtcs = c.have_places.ensures.crtcs; planes = c.have_places.ensures.planes; conns = c.have_places.ensures.conns }

pub returns-in-Of : goal.returns-in-Of
returns-in-Of c = λ t r used resolved asks is_refused.
    let d = c.args.states.now in
    let none : (w : World) → IsOfRequest t w r resolved d → first_lacking t w r d ≡ None =
    λ w is. sym (is_refused.locks w is) ∙ ap (λ e. locks_of (Err e)) c.in-Of.is in
    inr (record {
      resolved = resolved;
      asks = asks;
      gives = λ w is. sym (is_refused.refusal w is (none w is)) ∙ ap (λ e. refusal_of (Err e)) c.in-Of.is;
      covers = λ w is. all-duplicated w r is.device (room (goal.at.returns-in-Of c).After-have_places) (none w is);
    })

pub returns-in-None : goal.returns-in-None
returns-in-None c = λ t r used resolved asks is_refused.
    let d = c.args.states.now in
    let locks = c.in-MoreLocks.locks in
    let nothing : least_of locks ≡ None = sym c.least_of.ensures ∙ ap (option_map (λ id. id.0)) c.in-None.is in
    let more : (w : World) → IsOfRequest t w r resolved d → first_lacking t w r d ≡ Some locks =
    λ w is. sym (is_refused.locks w is) ∙ ap (λ e. locks_of (Err e)) c.in-MoreLocks.is in
    record {
      resolved = resolved;
      asks = asks;
      least = λ w is. asks-some t w r (room (goal.at.returns-in-None c).After-have_places) (more w is) nothing;
    }
