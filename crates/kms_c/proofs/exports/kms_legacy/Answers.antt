use Rattle.kms_c.proofs.exports.kms_legacy.Goals as goal

pub returns : goal.returns
returns c = record {
  answer = c.answer_legacy_to.result;
  holds = c.answer_legacy_to.ensures;
  is_told = c.put_translation.ensures.told;
  is_left = c.put_translation.ensures.left;
}
