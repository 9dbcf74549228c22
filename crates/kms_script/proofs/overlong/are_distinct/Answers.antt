use Rattle.kms_script.proofs.Repeated.{rising_decides}
use Rattle.kms_script.proofs.overlong.are_distinct.Goals as goal

pub returns : goal.returns
returns c = rw (c.are_rising.ensures, c.as_slice.ensures.value)
    (rising_decides c.args.numbers.items c.sort_unstable.new.self.items c.sort_unstable.ensures.permutation c.sort_unstable.ensures.sorted)
