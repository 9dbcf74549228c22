use Rattle.std.proofs.Common.{◌∙◌, ℕ, Ok, Err, ap, sym, subst}
use Rattle.std.specs.Prelude.{IfSome, is_some}
use Rattle.kms_model.specs.declared.copying.NoMemory.{NoMemory}
use Rattle.kms_device.specs.Attempts.{StandsAt}
use Rattle.kms_device.specs.Trying.{StandsAfter}
use Rattle.kms_device.specs.Turns.{run_seen}
use Rattle.kms_device.proofs.Places.{none_behind, some_behind, stands_behind}
use Rattle.kms_device.proofs.TriedCases.{begins_at, tried_err}
use Rattle.kms_device.proofs.device.Device.try_step.Goals as goal

pub step_at-requires : goal.step_at-requires
step_at-requires g c =
    let b =
    begins_at ℕ c.args.self.now.script c.args.pass.now c.stand-here.new.pass c.args.work.now.kept c.args.client c.requires.whose
    c.requires.may
    c.requires.serves c.stand-here.result c.take.result
    (subst (λ o. IfSome o (StandsAt (run_seen c.args.self.now.script c.args.pass.now) c.args.client)) (sym c.take.ensures.value)
    c.requires.stands) c.stand-here.ensures in
    record { own = b.lock ∙ c.requires.own; ready = b.ready; stands = b.stands }

pub returns-in_err-did-clause-tried : goal.returns-in_err-did-clause-tried
returns-in_err-did-clause-tried g c =
    let b =
    begins_at ℕ c.args.self.now.script c.args.pass.now c.stand-here.new.pass c.args.work.now.kept c.args.client c.requires.whose
    c.requires.may
    c.requires.serves c.stand-here.result c.take.result
    (subst (λ o. IfSome o (StandsAt (run_seen c.args.self.now.script c.args.pass.now) c.args.client)) (sym c.take.ensures.value)
    c.requires.stands) c.stand-here.ensures in
    tried_err _ _ _ _ _ c.from_residual.result c.from_residual.ensures.0
    (b.tried c.step_at.new.pass c.args.work.now.kept (Err 0) c.in_err-did.ensures.tried)

pub returns-clause-tried : goal.returns-clause-tried
returns-clause-tried g c =
    let b =
    begins_at ℕ c.args.self.now.script c.args.pass.now c.stand-here.new.pass c.args.work.now.kept c.args.client c.requires.whose
    c.requires.may
    c.requires.serves c.stand-here.result c.take.result
    (subst (λ o. IfSome o (StandsAt (run_seen c.args.self.now.script c.args.pass.now) c.args.client)) (sym c.take.ensures.value)
    c.requires.stands) c.stand-here.ensures in
    b.tried c.step_at.new.pass c.step_at.new.kept (Ok c.in_ok-did.did) c.in_ok-did.ensures.tried

pub returns-clause-stands : goal.returns-clause-stands
returns-clause-stands g c =
    let b =
    begins_at ℕ c.args.self.now.script c.args.pass.now c.stand-here.new.pass c.args.work.now.kept c.args.client c.requires.whose
    c.requires.may
    c.requires.serves c.stand-here.result c.take.result
    (subst (λ o. IfSome o (StandsAt (run_seen c.args.self.now.script c.args.pass.now) c.args.client)) (sym c.take.ensures.value)
    c.requires.stands) c.stand-here.ensures in
    subst (λ o. IfSome o (StandsAt (run_seen c.args.self.now.script c.step_at.new.pass) c.args.client)) (sym c.place_behind-work.ensures)
    (stands_behind NoMemory (run_seen c.args.self.now.script c.step_at.new.pass) c.args.client c.in_ok-did.did c.step_at.new.here
    (subst (λ n. StandsAfter {E = NoMemory} (run_seen c.args.self.now.script c.step_at.new.pass) n (Ok c.in_ok-did.did) c.step_at.new.here)
    (b.rank ∙ c.requires.whose) c.in_ok-did.ensures.stands))

pub returns-clause-ends : goal.returns-clause-ends
returns-clause-ends g c = λ is. c.place_behind-work.ensures ∙ none_behind c.in_ok-did.did c.step_at.new.here is

pub returns-clause-keeps : goal.returns-clause-keeps
returns-clause-keeps g c = λ is. ap is_some c.place_behind-work.ensures ∙ some_behind c.in_ok-did.did c.step_at.new.here is
