use Rattle.std.proofs.Common.{ap, ◌∙◌}
use Rattle.kms_model.specs.Machine.Registers.{words_of_bytes}
use Rattle.kms_regs.proofs.words.gamma_held.Goals as goal

pub returns : goal.returns
returns c = c.put_words.ensures ∙ ap words_of_bytes c.gamma_bytes.ensures
