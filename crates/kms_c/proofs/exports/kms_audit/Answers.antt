use Rattle.kms_c.proofs.exports.kms_audit.Goals as goal

pub returns : goal.returns
returns c = record {
  answer = c.answer_audit.result;
  holds = c.answer_audit.ensures;
  is_told = c.tell_audit.ensures;
}
