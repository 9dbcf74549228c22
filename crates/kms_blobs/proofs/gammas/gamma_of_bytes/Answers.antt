use Rattle.std.proofs.Common.{◌∙◌, ◌==◌, length, Some, None, sym, ap}
use Rattle.std.proofs.lemmas.Bool.{cond-true, eq-eqb}
use Rattle.kms_model.specs.Device.GammaBytes.{gamma_held}
use Rattle.kms_blobs.proofs.gammas.gamma_of_bytes.Goals as goal

pub returns : goal.returns
returns c =
    ap Some c.gamma_held.ensures
    ∙ sym (cond-true (length c.args.bytes.now == 2048) (Some (gamma_held c.args.bytes.now)) None
    (eq-eqb (length c.args.bytes.now) 2048 c.if-bytes-ne-GAMMA_BYTES.false))
