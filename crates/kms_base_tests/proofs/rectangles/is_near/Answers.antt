use Rattle.std.proofs.Common.{rules}
use Rattle.kms_base_tests.proofs.rectangles.is_near.Goals as goal

pub returns : goal.returns
returns c = λ yes. record {
  x = record { low = search rules; high = search rules };
  y = record { low = search rules; high = search rules };
  w = record { low = search rules; high = search rules };
  h = record { low = search rules; high = search rules };
}
