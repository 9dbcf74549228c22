use Rattle.kms_audit.proofs.frames.LastTwo.dark.Goals as goal

pub returns : goal.returns
returns c = λ things. record { later = c.off.ensures things; earlier = c.off-2.ensures things }
