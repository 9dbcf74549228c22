-- A set by what it sets.
use Rattle.std.proofs.Common.{◌≡◌, true, arith, refl, rules, subst, subst₂, sym, SFits, w64, to_z-of_z}
use Rattle.kms_model.specs.declared.objects.Kind.TheVariants.{Plane}
use Rattle.kms_model.specs.declared.properties.TheConstants.{ACTIVE}
use Rattle.kms_model.specs.declared.sets.SetValue.TheVariants as to
use Rattle.kms_model.specs.Request.SetRanges.{may_set}
use Rattle.kms_state.specs.Changes.{IsSet, set_to}
use Rattle.kms_state.proofs.Slots.{same_duplicated}
use Rattle.kms_state.proofs.SetsProperty.{active_set, as_set, conn_move, fb_set, fence_set, gamma_set, made, mode_set, number_set}
use Rattle.kms_state.proofs.SetsProperty.{plane_move}
use Rattle.kms_state.proofs.places.DuplicatesDuplicating.set.Goals as goal
use Rattle.kms_state.proofs.places.DuplicatesDuplicating.set.Goals.{After-move_conn, After-move_plane, After-set_active, After-set_fb}
use Rattle.kms_state.proofs.places.DuplicatesDuplicating.set.Goals.{After-set_gamma, After-set_mode, After-set_number}

pub set_active-requires : goal.set_active-requires
set_active-requires c = (active_set (made c.args.self.now c.args.set.now c.requires.object c.requires.value c.in-Num.is) (omega arith)).0

pub set_number-requires-clause-there : goal.set_number-requires-clause-there
set_number-requires-clause-there c = (number_set (made c.args.self.now c.args.set.now c.requires.object c.requires.value c.in-Num-2.is)
    (omega arith)).1

pub set_fb-requires : goal.set_fb-requires
set_fb-requires c = (fb_set
    (made c.args.self.now c.args.set.now c.requires.object c.requires.value c.in-Fb.is)).0

pub set_mode-requires : goal.set_mode-requires
set_mode-requires c = (mode_set
    (made c.args.self.now c.args.set.now c.requires.object c.requires.value c.in-Mode.is)).0

pub set_gamma-requires : goal.set_gamma-requires
set_gamma-requires c = (gamma_set
    (made c.args.self.now c.args.set.now c.requires.object c.requires.value c.in-Gamma.is)).0

pub move_plane-requires : goal.move_plane-requires
move_plane-requires c = (plane_move (made c.args.self.now c.args.set.now c.requires.object c.requires.value c.in-Crtc.is) (omega arith)).0

pub move_conn-requires : goal.move_conn-requires
move_conn-requires c = (conn_move (made c.args.self.now c.args.set.now c.requires.object c.requires.value c.in-Crtc-2.is) (omega arith)).0

pub set_number-requires-clause-value : goal.set_number-requires-clause-value
set_number-requires-clause-value c =
    let kind = (number_set (made c.args.self.now c.args.set.now c.requires.object c.requires.value c.in-Num-2.is) (omega arith)).0 in
    let fits : SFits w64 c.in-Num-2.number = search rules in
    subst (λ n. may_set Plane c.args.set.now.prop (to.Num n) ≡ true) (sym (to_z-of_z fits))
    (subst₂ (λ k v. may_set k c.args.set.now.prop v ≡ true) kind c.in-Num-2.is c.requires.value)

set_active-sets : (c : After-set_active) → IsSet c.args.self.now c.args.set.now c.set_active.new.states
set_active-sets c =
    let fits : SFits w64 c.in-Num.number = search rules in
    as_set
    (active_set (made c.args.self.now c.args.set.now c.requires.object c.requires.value c.in-Num.is) (omega arith)).1
    c.in-Num.is (subst (λ n. IsSet c.args.self.now (set_to c.args.set.now.object.0 ACTIVE (to.Num n)) c.set_active.new.states)
    (to_z-of_z fits) c.set_active.ensures)

pub returns-in-Num-clause-states : goal.returns-in-Num-clause-states
returns-in-Num-clause-states c = (set_active-sets ((goal.at.returns-in-Num-clause-states c).After-set_active)).states

pub returns-in-Num-clause-new : goal.returns-in-Num-clause-new
returns-in-Num-clause-new c = (set_active-sets ((goal.at.returns-in-Num-clause-new c).After-set_active)).new

set_number-sets : (c : After-set_number) → IsSet c.args.self.now c.args.set.now c.set_number.new.states
set_number-sets c =
    let fits : SFits w64 c.in-Num-2.number = search rules in
    as_set refl
    c.in-Num-2.is (subst (λ n. IsSet c.args.self.now (set_to c.args.set.now.object.0 c.args.set.now.prop (to.Num n))
    c.set_number.new.states) (to_z-of_z fits) c.set_number.ensures)

pub returns-in-Num-2-clause-states : goal.returns-in-Num-2-clause-states
returns-in-Num-2-clause-states c = (set_number-sets ((goal.at.returns-in-Num-2-clause-states c).After-set_number)).states

pub returns-in-Num-2-clause-new : goal.returns-in-Num-2-clause-new
returns-in-Num-2-clause-new c = (set_number-sets ((goal.at.returns-in-Num-2-clause-new c).After-set_number)).new

set_fb-sets : (c : After-set_fb) → IsSet c.args.self.now c.args.set.now c.set_fb.new.states
set_fb-sets c =
    as_set
    (fb_set
    (made c.args.self.now c.args.set.now c.requires.object c.requires.value c.in-Fb.is)).1
    c.in-Fb.is c.set_fb.ensures

pub returns-in-Fb-clause-states : goal.returns-in-Fb-clause-states
returns-in-Fb-clause-states c = (set_fb-sets ((goal.at.returns-in-Fb-clause-states c).After-set_fb)).states

pub returns-in-Fb-clause-new : goal.returns-in-Fb-clause-new
returns-in-Fb-clause-new c = (set_fb-sets ((goal.at.returns-in-Fb-clause-new c).After-set_fb)).new

set_mode-sets : (c : After-set_mode) → IsSet c.args.self.now c.args.set.now c.set_mode.new.states
set_mode-sets c =
    as_set
    (mode_set
    (made c.args.self.now c.args.set.now c.requires.object c.requires.value c.in-Mode.is)).1
    c.in-Mode.is c.set_mode.ensures

pub returns-in-Mode-clause-states : goal.returns-in-Mode-clause-states
returns-in-Mode-clause-states c = (set_mode-sets ((goal.at.returns-in-Mode-clause-states c).After-set_mode)).states

pub returns-in-Mode-clause-new : goal.returns-in-Mode-clause-new
returns-in-Mode-clause-new c = (set_mode-sets ((goal.at.returns-in-Mode-clause-new c).After-set_mode)).new

set_gamma-sets : (c : After-set_gamma) → IsSet c.args.self.now c.args.set.now c.set_gamma.new.states
set_gamma-sets c =
    as_set
    (gamma_set
    (made c.args.self.now c.args.set.now c.requires.object c.requires.value c.in-Gamma.is)).1
    c.in-Gamma.is c.set_gamma.ensures

pub returns-in-Gamma-clause-states : goal.returns-in-Gamma-clause-states
returns-in-Gamma-clause-states c = (set_gamma-sets ((goal.at.returns-in-Gamma-clause-states c).After-set_gamma)).states

pub returns-in-Gamma-clause-new : goal.returns-in-Gamma-clause-new
returns-in-Gamma-clause-new c = (set_gamma-sets ((goal.at.returns-in-Gamma-clause-new c).After-set_gamma)).new

move_plane-sets : (c : After-move_plane) → IsSet c.args.self.now c.args.set.now c.move_plane.new.states
move_plane-sets c =
    as_set
    (plane_move (made c.args.self.now c.args.set.now c.requires.object c.requires.value c.in-Crtc.is) (omega arith)).1
    c.in-Crtc.is c.move_plane.ensures

pub returns-in-Crtc-clause-states : goal.returns-in-Crtc-clause-states
returns-in-Crtc-clause-states c = (move_plane-sets ((goal.at.returns-in-Crtc-clause-states c).After-move_plane)).states

pub returns-in-Crtc-clause-new : goal.returns-in-Crtc-clause-new
returns-in-Crtc-clause-new c = (move_plane-sets ((goal.at.returns-in-Crtc-clause-new c).After-move_plane)).new

move_conn-sets : (c : After-move_conn) → IsSet c.args.self.now c.args.set.now c.move_conn.new.states
move_conn-sets c =
    as_set
    (conn_move (made c.args.self.now c.args.set.now c.requires.object c.requires.value c.in-Crtc-2.is) (omega arith)).1
    c.in-Crtc-2.is c.move_conn.ensures

pub returns-in-Crtc-2-clause-states : goal.returns-in-Crtc-2-clause-states
returns-in-Crtc-2-clause-states c = (move_conn-sets ((goal.at.returns-in-Crtc-2-clause-states c).After-move_conn)).states

pub returns-in-Crtc-2-clause-new : goal.returns-in-Crtc-2-clause-new
returns-in-Crtc-2-clause-new c = (move_conn-sets ((goal.at.returns-in-Crtc-2-clause-new c).After-move_conn)).new

pub returns-in-Fence-clause-states : goal.returns-in-Fence-clause-states
returns-in-Fence-clause-states c = (fence_set
    (made c.args.self.now c.args.set.now c.requires.object c.requires.value c.in-Fence.is) c.in-Fence.is).states

pub returns-in-Fence-clause-new : goal.returns-in-Fence-clause-new
returns-in-Fence-clause-new c = (fence_set
    (made c.args.self.now c.args.set.now c.requires.object c.requires.value c.in-Fence.is) c.in-Fence.is).new

pub returns-in-Num-clause-same : goal.returns-in-Num-clause-same
returns-in-Num-clause-same c = λ o. same_duplicated c.args.self.now c.set_active.new.states o c.set_active.ensures.old

pub returns-in-Num-2-clause-same : goal.returns-in-Num-2-clause-same
returns-in-Num-2-clause-same c = λ o. same_duplicated c.args.self.now c.set_number.new.states o c.set_number.ensures.old

pub returns-in-Fb-clause-same : goal.returns-in-Fb-clause-same
returns-in-Fb-clause-same c = λ o. same_duplicated c.args.self.now c.set_fb.new.states o c.set_fb.ensures.old

pub returns-in-Mode-clause-same : goal.returns-in-Mode-clause-same
returns-in-Mode-clause-same c = λ o. same_duplicated c.args.self.now c.set_mode.new.states o c.set_mode.ensures.old

pub returns-in-Gamma-clause-same : goal.returns-in-Gamma-clause-same
returns-in-Gamma-clause-same c = λ o. same_duplicated c.args.self.now c.set_gamma.new.states o c.set_gamma.ensures.old

pub returns-in-Crtc-clause-same : goal.returns-in-Crtc-clause-same
returns-in-Crtc-clause-same c = λ o. same_duplicated c.args.self.now c.move_plane.new.states o c.move_plane.ensures.old

pub returns-in-Crtc-2-clause-same : goal.returns-in-Crtc-2-clause-same
returns-in-Crtc-2-clause-same c = λ o. same_duplicated c.args.self.now c.move_conn.new.states o c.move_conn.ensures.old
