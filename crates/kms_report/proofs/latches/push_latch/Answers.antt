use Rattle.std.proofs.Common.{◌≡◌, ℕ, List, ◌++◌, length, ap, ◌∙◌, rules}
use Rattle.kms_model.specs.Frames.FrameBytes.{frame_bytes, frame_of, word_of}
use Rattle.kms_core.specs.Run.{machine}
use Rattle.kms_report.specs.Images.{things_of}
use Rattle.kms_report.specs.Telling.{latch_front, lit_line}
use Rattle.kms_report.proofs.FrameLength.{length-frame}
use Rattle.kms_report.proofs.KeptImages.{kept-stands}
use Rattle.kms_report.proofs.LatchText.{on-line}
use Rattle.kms_report.proofs.latches.push_latch.Goals as goal

pub push_frame-requires-clause-size : goal.push_frame-requires-clause-size
push_frame-requires-clause-size g c =
    let things = things_of c.args.after.now.core.now in
    let kept = kept-stands things c.in_ok-screen.screen c.frame_of-kept.result.now c.in_ok-screen.ensures.0 c.frame_of-kept.ensures.among in
    ap length (kept.drawn.exact ∙ ap (frame_of (word_of things)) (c.frame_of-kept.ensures.own ∙ c.in-On.is)) ∙ length-frame (word_of things)
    c.in-On.shown

pub returns-clause-text : goal.returns-clause-text
returns-clause-text g c =
    let things = things_of c.args.after.now.core.now in
    let frame = c.frame_of-kept.result.now.drawn.frame in
    let kept = kept-stands things c.in_ok-screen.screen c.frame_of-kept.result.now c.in_ok-screen.ensures.0 c.frame_of-kept.ensures.among in
    let front : c.extend_from_slice.new.self.items ≡ c.args.text.now.items ++ latch_front c.args.latch.now = search rules in
    c.in_ok-push_frame.ensures
    ∙ ap (λ (text : List ℕ). text ++ lit_line c.args.after.now.pixmap c.in-On.shown.mode frame) front
    ∙ on-line (machine c.args.after.now.core.now) c.args.after.now.pixmap c.args.latch.now c.in-On.shown c.args.text.now.items frame
    c.in-On.is (kept.drawn.exact ∙ ap (frame_bytes things) c.frame_of-kept.ensures.own)
