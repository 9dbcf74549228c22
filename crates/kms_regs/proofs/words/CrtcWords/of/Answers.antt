use Rattle.std.proofs.Common.{refl}
use Rattle.kms_model.specs.Machine.Registers.{crtc_words}
use Rattle.kms_regs.proofs.words.CrtcWords.of.Goals as goal

pub returns : goal.returns
unfolding crtc_words
returns c = rw (c.flag_word.ensures, c.mode_words.ensures, c.flag_word-2.ensures, c.is_some.ensures, c.gamma_words.ensures) refl
