use Rattle.std.proofs.Common.{◌≡◌, length, true, arith, rules, ap, sym, ◌∙◌}
use Rattle.kms_device.specs.Steps.{blanks_at}
use Rattle.kms_device.proofs.Counting.{blank-keeps, blankings-few}
use Rattle.kms_device.proofs.Legals.{blank-few, may_blank}
use Rattle.kms_device.proofs.kernel.Kernel.vblank.Goals as goal

pub prove-unreachable-requires : goal.prove-unreachable-requires
prove-unreachable-requires c =
    let counted = c.self.invariant.1 c.args.crtc in
    let few = blankings-few c.args.crtc c.self.inside.core.steps in
    let long : length c.history.result.now ≡ length c.self.inside.core.steps = ap length c.history.ensures in
    let more = c.if-prove.true in omega arith

pub vblank-requires : goal.vblank-requires
vblank-requires c =
    let blanks : blanks_at c.self.inside.core c.args.crtc ≡ true = sym c.blanks.ensures ∙ c.if-not-blanks.false in
    may_blank c.self.inside.core c.args.crtc (search rules) c.self.invariant.0 blanks

pub invariant_of-self : goal.invariant_of-self
invariant_of-self c =
    let blanks : blanks_at c.self.inside.core c.args.crtc ≡ true = sym c.blanks.ensures ∙ c.if-not-blanks.false in
    let few = blank-few c.self.inside.core c.args.crtc (search rules) blanks in
    let told = c.self.told in
    blank-keeps c.self.inside.counts c.self.inside.core c.vblank.new.self c.args.crtc (omega arith) c.self.invariant (search rules)

pub returns-clause-answer : goal.returns-clause-answer
returns-clause-answer c = search rules
