use Rattle.std.proofs.Common.{◌∙◌, arith, sym}
use Rattle.std.proofs.lemmas.Bool.{ne_eqb}
use Rattle.kms_audit.proofs.Seeking.{line-next, line-none}
use Rattle.kms_audit.proofs.latches.line_from.Goals as goal

pub loop-place-preserved : goal.loop-place-preserved
loop-place-preserved c =
    sym (line-next c.args.lines.now c.args.crtc c.loop-place.place _ (omega arith) (ne_eqb _ _ c.if-lines-place.false))
    ∙ c.loop-place.invariant

pub returns-clause-place : goal.returns-clause-place
returns-clause-place c = sym (line-none c.args.lines.now c.args.crtc c.loop-place.place (omega arith)) ∙ c.loop-place.invariant
