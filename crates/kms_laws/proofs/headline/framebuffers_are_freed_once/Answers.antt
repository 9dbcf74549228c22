use Rattle.kms_laws.proofs.Framebuffers.{framebuffers_once, framebuffers_once_along}
use Rattle.kms_laws.proofs.Modes.{plain-from}
use Rattle.kms_laws.proofs.headline.framebuffers_are_freed_once.Goals as goal

pub returns : goal.returns
returns c = record {
  next = λ s h formed is step legal_step. framebuffers_once s h (plain-from s formed) is step legal_step;
  ever = λ s h formed is steps legal_steps. framebuffers_once_along s h (plain-from s formed) is steps legal_steps;
}
