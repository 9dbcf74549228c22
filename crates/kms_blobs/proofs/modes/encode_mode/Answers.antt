use Rattle.std.proofs.Common.{rules}
use Rattle.kms_model.proofs.ModeRoundTrip.{decoded-mode_bytes}
use Rattle.kms_blobs.proofs.modes.encode_mode.Goals as goal

pub returns-clause-read_back : goal.returns-clause-read_back
returns-clause-read_back c =
    λ legal. decoded-mode_bytes c.args.mode.now c.written.result c.written.ensures.fits c.written.ensures.bytes (search rules) legal
