use Rattle.kms_c.proofs.exports.kms_suspend.Goals as goal

pub returns : goal.returns
returns c = record {
  answer = c.answer_suspend_to.result;
  holds = c.answer_suspend_to.ensures;
  is_told = c.put_slept.ensures.told;
  is_left = c.put_slept.ensures.left;
}
