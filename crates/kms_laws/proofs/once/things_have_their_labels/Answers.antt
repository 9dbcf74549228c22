use Rattle.kms_laws.proofs.NamedLabels.{named_labels}
use Rattle.kms_laws.proofs.OwnLabels.{own_labels}
use Rattle.kms_laws.proofs.once.things_have_their_labels.Goals as goal

pub returns-clause-own : goal.returns-clause-own
returns-clause-own c = own_labels

pub returns-clause-names : goal.returns-clause-names
returns-clause-names c = named_labels
