use Rattle.kms_model.specs.Machine.Histories.{at}
use Rattle.kms_model.proofs.TouchedLemmas.{few_objects}
use Rattle.kms_laws.proofs.ShorterTails.{tails_short}
use Rattle.kms_laws.proofs.bounds.tails_are_short.Goals as goal

pub returns : goal.returns
returns c = λ s h formed is k. tails_short s.topology (at s h) k (few_objects s.topology formed.device)
