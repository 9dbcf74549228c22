use Rattle.std.proofs.Common.{◌≡◌, rules}
use Rattle.std.specs.Prelude.{IfOk}
use Rattle.kms_model.specs.Frames.FrameBytes.{frame_of}
use Rattle.kms_compose.specs.Images.{word_under}
use Rattle.kms_compose.proofs.SameFrames.{made_of_things}
use Rattle.kms_compose.proofs.frames.frame_by.Goals as goal

pub returns-in-On-clause-things : goal.returns-in-On-clause-things
returns-in-On-clause-things g c =
    let exact : IfOk c.shown_bytes.result (λ bytes. bytes ≡ frame_of (word_under c.args.images.now) c.args.picture.now) = search rules in
    made_of_things c.shown_bytes.result c.args.images.now c.args.picture.now c.requires.images exact
