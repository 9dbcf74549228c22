use Rattle.std.proofs.Common.{rules}
use Rattle.kms_model.proofs.ModeRoundTrip.{AreBytes, mode_bytes-if_legal}
use Rattle.kms_blobs.proofs.modes.decode_mode.Goals as goal

pub returns-clause-written_back : goal.returns-clause-written_back
returns-clause-written_back c =
    let small : AreBytes c.args.bytes.now = record { small = λ i. search (rules, c.type_inv.bytes i) } in
    rw c.legal.ensures.first (mode_bytes-if_legal c.args.bytes.now c.mode_of.result small c.if-bytes-ne-MODE_BYTES.false c.mode_of.ensures)
