-- A number of a plane.
use Rattle.std.proofs.Common.{Some, not, ◌==◌, ◌&&◌, ◌-◌, arith, set, subst, sym, w64, SFits, to_z-of_z}
use Rattle.std.proofs.lemmas.Bool.{and_parts, eqb-false, not-true}
use Rattle.kms_model.specs.declared.objects.Kind.TheVariants.{Plane}
use Rattle.kms_model.specs.declared.properties.TheConstants.{CRTC_ID, FB_ID}
use Rattle.kms_model.specs.declared.sets.SetValue.TheVariants as to
use Rattle.kms_model.specs.declared.states.PlaneState.{PlaneState}
use Rattle.kms_model.specs.Request.Apply.{is_kept}
use Rattle.kms_model.proofs.ValueLemmas.{Puts}
use Rattle.kms_model.proofs.SetLemmas.{may_set-takes}
use Rattle.kms_state.specs.Changes.{IsSet, plane_after_set, set_to}
use Rattle.kms_state.proofs.SetsProperty.{is_at, number_after, number_plane, sets_plane}
use Rattle.kms_state.proofs.sets.set_number.Goals as goal

pub returns-in-Some : goal.returns-in-Some
returns-in-Some c =
    let parts = and_parts (is_kept c.args.prop) (not (c.args.prop == FB_ID) && not (c.args.prop == CRTC_ID))
    (may_set-takes Plane c.args.prop (to.Num c.args.number) c.requires.value) in
    let others = and_parts (not (c.args.prop == FB_ID)) (not (c.args.prop == CRTC_ID)) parts.1 in
    let fits : SFits w64 c.args.number = c.ranges.number in
    let changed = simp to_z-of_z at c.set_plane_number.ensures in
    let no_fb = eqb-false c.args.prop FB_ID (not-true (c.args.prop == FB_ID) others.0) in
    let no_crtc = eqb-false c.args.prop CRTC_ID (not-true (c.args.prop == CRTC_ID) others.1) in
    subst (λ (s : PlaneState). IsSet c.args.states.now (set_to c.args.id c.args.prop (to.Num c.args.number))
    (record c.args.states.now { planes = set c.args.states.now.planes (c.args.id - 200) (Some (record c.in-Some.both { new = s })) }))
    (sym changed)
    (sets_plane c.args.prop (to.Num c.args.number) (plane_after_set c.args.prop c.args.number)
    (is_at c.requires.there c.in-Some.ensures) (omega arith)
    (number_after c.args.states.now c.args.id c.args.prop c.args.number c.in-Some.both (is_at c.requires.there c.in-Some.ensures)
    (omega arith)) parts.0 no_crtc
    (λ things before after number stands puts. number_plane things
    (subst (λ z. Puts before after c.args.id c.args.prop z) stands puts) no_fb no_crtc))
