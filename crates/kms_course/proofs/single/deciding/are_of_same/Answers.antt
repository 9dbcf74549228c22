use Rattle.std.proofs.Common.{arith}
use Rattle.std.proofs.lemmas.Bool.{false≢true}
use Rattle.kms_course.proofs.Decided.{alike_at}
use Rattle.kms_course.proofs.single.deciding.are_of_same.Goals as goal

pub returns-then-used-index : goal.returns-then-used-index
returns-then-used-index c =
    let within = c.loop-index-test.true in
    let same_size = c.if-used-other.false in (
      λ off. absurd (false≢true off),
      λ same. absurd
          (c.if-used-index.true (alike_at c.args.used.now c.args.other.now c.loop-index.index _ within (omega (arith, within, same_size))
          same)),
    )
