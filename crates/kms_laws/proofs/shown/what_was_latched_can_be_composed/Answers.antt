use Rattle.std.proofs.Common.{◌<◌}
use Rattle.kms_model.specs.Machine.Histories.{at}
use Rattle.kms_model.proofs.SoundStart.{start_is_lawful}
use Rattle.kms_laws.proofs.Headlines.{headline, serial_world}
use Rattle.kms_laws.proofs.Modes.{plain-from}
use Rattle.kms_laws.proofs.SmallNumbers.{numbers_fit}
use Rattle.kms_laws.proofs.Composed.{all-reversed, latches-can}
use Rattle.kms_laws.proofs.shown.what_was_latched_can_be_composed.Goals as goal

pub returns : goal.returns
returns c = λ s h formed is.
    let plain = plain-from s formed in
    let fit = numbers_fit s h formed is in
    latches-can s h (start_is_lawful s.topology formed.device) tt (headline s h plain is) (serial_world s h plain is)
    (all-reversed (λ l. l.crtc < s.topology.crtcs) (at s h).records.latches (λ k d less. (fit.latches k d less).crtc))
