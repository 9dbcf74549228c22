-- An object's state is duplicated, by its kind.
use Rattle.std.proofs.Common.{◌≡◌, true, arith, subst, sym}
use Rattle.kms_model.specs.declared.states.ObjState.TheVariants as state
use Rattle.kms_state.specs.Places.{duplicated, may_duplicate}
use Rattle.kms_state.specs.StandsIn.{KeepsNew, KeepsOld}
use Rattle.kms_state.proofs.OnceDuplicated.{conn_duplicated, conn_new, conn_old, crtc_duplicated, crtc_new, crtc_old, plane_duplicated}
use Rattle.kms_state.proofs.OnceDuplicated.{plane_new, plane_old}
use Rattle.kms_state.proofs.places.DuplicatesDuplicating.duplicate.Goals as goal

pub returns-in-Crtc-clause-there : goal.returns-in-Crtc-clause-there
returns-in-Crtc-clause-there c = λ o. crtc_duplicated c.args.self.now c.args.id.0 o c.in-Crtc.s (omega arith)
    (subst (λ s. may_duplicate c.args.self.now c.args.id.0 s ≡ true) c.in-Crtc.is c.requires)

pub returns-in-Crtc-clause-old : goal.returns-in-Crtc-clause-old
returns-in-Crtc-clause-old c = subst (λ s. KeepsOld c.args.self.now c.args.id.0 s
    (duplicated c.args.self.now c.args.id.0 (state.Crtc c.in-Crtc.s))) (sym c.in-Crtc.is)
    (crtc_old c.args.self.now c.args.id.0 c.in-Crtc.s
    (subst (λ s. may_duplicate c.args.self.now c.args.id.0 s ≡ true) c.in-Crtc.is c.requires))

pub returns-in-Crtc-clause-new : goal.returns-in-Crtc-clause-new
returns-in-Crtc-clause-new c = subst (λ s. KeepsNew c.args.self.now c.args.id.0 s
    (duplicated c.args.self.now c.args.id.0 (state.Crtc c.in-Crtc.s))) (sym c.in-Crtc.is)
    (crtc_new c.args.self.now c.args.id.0 c.in-Crtc.s
    (subst (λ s. may_duplicate c.args.self.now c.args.id.0 s ≡ true) c.in-Crtc.is c.requires))

pub returns-in-Plane-clause-there : goal.returns-in-Plane-clause-there
returns-in-Plane-clause-there c = λ o. plane_duplicated c.args.self.now c.args.id.0 o c.in-Plane.s (omega arith)
    (subst (λ s. may_duplicate c.args.self.now c.args.id.0 s ≡ true) c.in-Plane.is c.requires)

pub returns-in-Plane-clause-old : goal.returns-in-Plane-clause-old
returns-in-Plane-clause-old c = subst (λ s. KeepsOld c.args.self.now c.args.id.0 s
    (duplicated c.args.self.now c.args.id.0 (state.Plane c.in-Plane.s))) (sym c.in-Plane.is)
    (plane_old c.args.self.now c.args.id.0 c.in-Plane.s
    (subst (λ s. may_duplicate c.args.self.now c.args.id.0 s ≡ true) c.in-Plane.is c.requires))

pub returns-in-Plane-clause-new : goal.returns-in-Plane-clause-new
returns-in-Plane-clause-new c = subst (λ s. KeepsNew c.args.self.now c.args.id.0 s
    (duplicated c.args.self.now c.args.id.0 (state.Plane c.in-Plane.s))) (sym c.in-Plane.is)
    (plane_new c.args.self.now c.args.id.0 c.in-Plane.s
    (subst (λ s. may_duplicate c.args.self.now c.args.id.0 s ≡ true) c.in-Plane.is c.requires))

pub returns-in-Conn-clause-there : goal.returns-in-Conn-clause-there
returns-in-Conn-clause-there c = λ o. conn_duplicated c.args.self.now c.args.id.0 o c.in-Conn.s (omega arith)
    (subst (λ s. may_duplicate c.args.self.now c.args.id.0 s ≡ true) c.in-Conn.is c.requires)

pub returns-in-Conn-clause-old : goal.returns-in-Conn-clause-old
returns-in-Conn-clause-old c = subst (λ s. KeepsOld c.args.self.now c.args.id.0 s
    (duplicated c.args.self.now c.args.id.0 (state.Conn c.in-Conn.s))) (sym c.in-Conn.is)
    (conn_old c.args.self.now c.args.id.0 c.in-Conn.s
    (subst (λ s. may_duplicate c.args.self.now c.args.id.0 s ≡ true) c.in-Conn.is c.requires))

pub returns-in-Conn-clause-new : goal.returns-in-Conn-clause-new
returns-in-Conn-clause-new c = subst (λ s. KeepsNew c.args.self.now c.args.id.0 s
    (duplicated c.args.self.now c.args.id.0 (state.Conn c.in-Conn.s))) (sym c.in-Conn.is)
    (conn_new c.args.self.now c.args.id.0 c.in-Conn.s
    (subst (λ s. may_duplicate c.args.self.now c.args.id.0 s ≡ true) c.in-Conn.is c.requires))
