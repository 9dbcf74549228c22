use Rattle.kms_kept_frames.proofs.screen.Screen.dark.Goals as goal

pub returns-clause-images : goal.returns-clause-images
returns-clause-images c = λ images. record { first = c.off.ensures.images images; second = c.off-2.ensures.images images }

pub returns-clause-things : goal.returns-clause-things
returns-clause-things c = λ things. record { first = c.off.ensures.things things; second = c.off-2.ensures.things things }
