use Rattle.std.proofs.Common.{arith, rules}
use Rattle.kms_text_tests.proofs.spots.layer.Goals as goal

pub returns-clause-fits : goal.returns-clause-fits
returns-clause-fits c = record {
  visible = search rules;
  alpha = omega arith;
  blend = omega arith;
  left = search rules;
  top = search rules;
  fits = search rules;
  src_w = record { low = search rules; high = search rules };
  src_h = record { low = search rules; high = search rules };
  dst_w = record { low = search rules; high = search rules };
  dst_h = record { low = search rules; high = search rules };
  width = search rules;
  height = search rules;
}
