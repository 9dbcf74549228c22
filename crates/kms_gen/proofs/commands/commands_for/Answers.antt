use Rattle.std.proofs.Common.{◌≡◌, ◌<◌, ◌+◌, ◌-◌, suc, ◌∙◌, arith}
use Rattle.kms_gen.proofs.Drawing.{drawn_more, none_to_come}
use Rattle.kms_gen.proofs.commands.commands_for.Goals as goal

pub loop-index-preserved : goal.loop-index-preserved
loop-index-preserved c =
    let i = c.loop-index.index in
    let n = c.args.n in
    let bound = c.loop-index.auto in
    let below : i < n + 1 = c.loop-index-test.true in
    let less : n + 1 - i ≡ suc (n + 1 - (i + 1)) = omega arith in
    let made = c.in_ok-push_flip.ensures in
    let drawn = rw (c.upper_bits.ensures, c.next_number-x.ensures) at made in
    rw c.next_number-x.ensures (drawn_more c.args.crtc i c.loop-index.x (n + 1 - (i + 1)) (n + 1 - i) _ _ less drawn)
    ∙ c.loop-index.invariant

pub returns : goal.returns
returns c =
    let i = c.loop-index.index in
    let n = c.args.n in
    let bound = c.loop-index.auto in
    let end = c.loop-index-test.false in
    let none : n + 1 - i ≡ 0 = omega arith in
    c.from_vec.ensures ∙ none_to_come c.args.crtc i c.loop-index.x (n + 1 - i) c.loop-index.commands.items none ∙ c.loop-index.invariant
