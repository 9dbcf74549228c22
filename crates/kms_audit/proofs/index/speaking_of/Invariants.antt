use Rattle.std.proofs.Common.{take}
use Rattle.kms_audit.specs.Indexed.{AreSpeaking}
use Rattle.kms_audit.proofs.index.speaking_of.Given as goal

abbrev pub invariant-loop-line : goal.invariant-loop-line
invariant-loop-line l = AreSpeaking (take l.line-index l.replies) l.speaking
