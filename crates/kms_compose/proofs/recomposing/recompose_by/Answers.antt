use Rattle.std.proofs.Common.{◌≡◌, rules}
use Rattle.std.specs.Prelude.{OnOk}
use Rattle.kms_model.specs.Frames.FrameBytes.{frame_of}
use Rattle.kms_compose.specs.Images.{word_under}
use Rattle.kms_compose.proofs.SameFrames.{left_of_things}
use Rattle.kms_compose.proofs.recomposing.recompose_by.Goals as goal

pub returns-then-is_same_size-clause-things : goal.returns-then-is_same_size-clause-things
returns-then-is_same_size-clause-things g c =
    let exact : OnOk c.redraw.result (c.redraw.new.frame ≡ frame_of (word_under c.args.images.now) c.args.new.now) = search rules in
    left_of_things c.redraw.result c.args.images.now c.args.new.now c.redraw.new.frame c.requires.new exact

pub returns-else-is_same_size-clause-things : goal.returns-else-is_same_size-clause-things
returns-else-is_same_size-clause-things g c =
    let exact : OnOk c.remake.result (c.remake.new.frame ≡ frame_of (word_under c.args.images.now) c.args.new.now) = search rules in
    left_of_things c.remake.result c.args.images.now c.args.new.now c.remake.new.frame c.requires.new exact

pub returns-in_default-clause-things : goal.returns-in_default-clause-things
returns-in_default-clause-things g c =
    let exact : OnOk c.remake-in_default.result (c.remake-in_default.new.frame ≡ frame_of (word_under c.args.images.now) c.args.new.now) =
    search rules in
    left_of_things c.remake-in_default.result c.args.images.now c.args.new.now c.remake-in_default.new.frame c.requires.new exact
