use Rattle.std.proofs.Common.{◌≤◌, length, ap, sym, ◌∙◌, arith, rules}
use Rattle.kms_words.proofs.Fields.{with_sets, next_set, bad_set, bad_field}
use Rattle.kms_words.proofs.requests.read_assigns.Goals as goal

pub returns-in_default-clause-value : goal.returns-in_default-clause-value
returns-in_default-clause-value c = sym (ap (with_sets c.reading.assigns)
    (bad_field c.reading.names.names c.reading.rest.now (search rules) c.in_default.ensures.value)) ∙ c.reading.invariant.read

pub returns-in_default-2-clause-value : goal.returns-in_default-2-clause-value
returns-in_default-2-clause-value c = sym (ap (with_sets c.reading.assigns)
    (bad_set c.reading.names.names c.reading.rest.now c.in-Some.word.now c.in-Some.after.now c.in-Some.ensures.value
    (rw c.in_default-2.is at c.in_ok-assign.ensures.value))) ∙ c.reading.invariant.read

pub reading-preserved : goal.reading-preserved
reading-preserved c = record {
  read = rw c.in_ok-push.ensures.ok (sym (next_set c.reading.assigns c.reading.names.names c.read_assign.new.names.names c.reading.rest.now
      c.in-Some.word.now c.in-Some.after.now c.in-Some-2.assign c.in-Some.ensures.value (rw c.in-Some-2.is at c.in_ok-assign.ensures.value))
      ∙ c.reading.invariant.read);
  grows =
      let some : 1 ≤ length c.in-Some.word.now = rw c.in-Some-2.is at c.in_ok-assign.ensures.some in
      let shorter = c.in-Some.ensures.shorter in
      let rest = c.reading.invariant.rest in
      record {
        all = omega (arith, c.reading.invariant.grows.all, c.in_ok-assign.ensures.grows.all, some, shorter, rest);
        made = omega (arith, c.reading.invariant.grows.made, c.in_ok-assign.ensures.grows.made, some, shorter, rest);
      };
  before = c.in_ok-assign.ensures.before ∙ c.reading.invariant.before;
  rest = omega (arith, c.in-Some.ensures.shorter, c.reading.invariant.rest);
}
