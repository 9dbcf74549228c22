use Rattle.std.proofs.Common.{◌∙◌, ap}
use Rattle.kms_model.specs.Machine.Framebuffers.{stored_framebuffer}
use Rattle.kms_core.proofs.freeing.StoredSteps.{told_info}
use Rattle.kms_core.specs.Insides.{run_in, stores_of}
use Rattle.kms_core.specs.Run.{Run, machine}
use Rattle.kms_core.proofs.machine.Core.framebuffer.Goals as goal

pub returns : goal.returns
returns c =
    let r = run_in c.stores.inside in
    c.stored_framebuffer.ensures
    ∙ told_info r.script.topology (machine r) (stores_of c.stores.inside).made.fbs c.args.id c.stores.invariant.stands.stored
    ∙ ap (λ (w : Run). stored_framebuffer w.script.topology (machine w) c.args.id)
    (c.stores.view_is ∙ c.deref-stores.ensures ∙ c.self.view_is)
