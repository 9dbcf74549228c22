use Rattle.std.specs.List.{IsDistinct}
use Rattle.kms_text_tests.proofs.reading.two_lines.Goals as goal

pub read_command-requires-clause-differ : goal.read_command-requires-clause-differ
unfolding IsDistinct
read_command-requires-clause-differ c = rw c.new-names.ensures tt
