use Rattle.std.proofs.Common.{ℕ, arith, rules, subst}
use Rattle.kms_model.specs.Device.Objects.{object_id}
use Rattle.kms_model.specs.declared.objects.Kind.TheVariants.{Crtc}
use Rattle.kms_regs.proofs.BankLemmas.{IsLatched, latched_all, latched_next, none_latched}
use Rattle.kms_regs.proofs.banks.Bank.latch.Goals as goal

pub loop-plane-init : goal.loop-plane-init
loop-plane-init c = none_latched c.args.shadow.now c.args.self.now _

pub loop-plane-preserved : goal.loop-plane-preserved
loop-plane-preserved c =
    latched_next c.loop-plane.invariant c.latch_plane.ensures

pub returns : goal.returns
returns c = λ t of_device.
    (let latched : IsLatched c.args.shadow.now c.args.self.now c.loop-plane.self (object_id Crtc c.args.index) c.loop-plane.plane =
    subst (λ (id : ℕ). IsLatched c.args.shadow.now c.args.self.now c.loop-plane.self id c.loop-plane.plane) c.of-crtc.ensures
    c.loop-plane.invariant in
    latched_all t c.self.inside.planes c.self.inside.crtcs
    c.args.index latched (omega (arith, of_device)) c.self.view_is (search rules) c.crtc.ensures)
