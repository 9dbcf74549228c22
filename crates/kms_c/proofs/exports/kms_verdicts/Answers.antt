use Rattle.kms_c.proofs.exports.kms_verdicts.Goals as goal

pub returns : goal.returns
returns c = record {
  answer = c.verdict_answer.result;
  holds = c.verdict_answer.ensures;
  is_told = c.put_answer.ensures.told;
  is_left = c.put_answer.ensures.left;
}
