-- CRTC_ID of a connector.
use Rattle.std.proofs.Common.{ℕ, ◌-◌, true, ap, arith, subst, sym, ◌∙◌}
use Rattle.kms_model.specs.declared.objects.Kind.TheVariants.{Crtc, Conn}
use Rattle.kms_model.specs.declared.properties.TheConstants.{CRTC_ID}
use Rattle.kms_model.specs.declared.sets.SetValue.TheVariants as to
use Rattle.kms_model.specs.declared.states.Duplicates.{Duplicates}
use Rattle.kms_state.specs.Changes.{IsSet, changed, set_to, with_routed}
use Rattle.kms_state.proofs.SetsProperty.{is_at, moves_conn}
use Rattle.kms_state.proofs.sets.move_conn.Goals as goal

pub returns-in-Some : goal.returns-in-Some
returns-in-Some c =
    let before : Duplicates = c.args.states.now in
    let index : ℕ = c.args.id - 300 in
    let enter : Duplicates → Duplicates = λ d. record d { crtcs = changed Crtc d.crtcs c.args.crtc (with_routed Conn index true) } in
    subst (IsSet before (set_to c.args.id CRTC_ID (to.Crtc c.args.crtc)))
    (sym (c.put_routed-in-Some.ensures ∙ ap enter c.put_routed.ensures))
    (moves_conn before c.args.id c.args.crtc c.in-Some.both (is_at c.requires c.in-Some.ensures)
    (omega arith) (omega arith) (omega arith))
