use Rattle.kms_text_tests.proofs.screens.dark.Goals as goal

pub returns : goal.returns
returns c = c.dark.ensures.images c.args.images.now
