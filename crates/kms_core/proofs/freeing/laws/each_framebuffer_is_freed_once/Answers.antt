use Rattle.kms_laws.proofs.Modes.{plain-from}
use Rattle.kms_core.proofs.freeing.FreedEach.{frees_each_once}
use Rattle.kms_core.proofs.freeing.laws.each_framebuffer_is_freed_once.Goals as goal

pub returns : goal.returns
returns c = λ s h formed is. frees_each_once s h (plain-from s formed) is
