use Rattle.std.proofs.Common.{◌≡◌, ◌-◌, ◌≤◌, length}
use Rattle.kms_words.specs.Named.{NamesGrow, assigns_at}
use Rattle.kms_words.proofs.Fields.{with_sets}
use Rattle.kms_words.proofs.requests.read_assigns.Given as goal

abbrev pub invariant-reading : goal.invariant-reading
invariant-reading l = record {
  read : with_sets l.assigns (assigns_at l.names.names l.rest) ≡ assigns_at l.fn.names.names l.fields;
  grows : NamesGrow l.fn.names.names l.names.names (length l.fields - length l.rest);
  before : l.names.before ≡ l.fn.names.before;
  rest : length l.rest ≤ length l.fields;
}

abbrev pub decreases-reading : goal.decreases-reading
decreases-reading l = length l.rest
