use Rattle.std.proofs.Common.{inl, inr, ◌∙◌}
use Rattle.kms_kept_frames.proofs.screen.Screen.with_both.Goals as goal

pub returns-clause-stands : goal.returns-clause-stands
returns-clause-stands g c = c.hash_both.ensures.kept c.args.images.now c.in_ok-one.ensures.0 c.in_ok-other.ensures.0

pub returns-clause-both : goal.returns-clause-both
returns-clause-both g c =
    (inl (c.hash_both.ensures.first ∙ c.in_ok-one.ensures.1), inr (c.hash_both.ensures.second ∙ c.in_ok-other.ensures.1))
