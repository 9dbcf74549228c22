-- What a proof unfolds to compute a report on literals.
use Rattle.std.specs.Prelude.{⊤}
use Rattle.std.specs.Fmt.{digits}
use Rattle.sha2.specs.Sha256.{sha256, digest_bytes, hash_after, compress, rounds, schedule, first_words}
use Rattle.hex.proofs.OnLiterals.{hex_on_literals}
use Rattle.kms_model.specs.Request.Refusals.{own_refusal, assign_refusal, assigns_refusal, early_refusal}
use Rattle.kms_model.specs.Request.Checks.{plane_refusal, shown_refusal, late_refusal}
use Rattle.kms_model.specs.Request.Verdict.{verdict}
use Rattle.kms_model.specs.Frames.Pictures.{picture}
use Rattle.kms_model.specs.Device.Execution.{execute}
use Rattle.kms_model.specs.Device.Serial.{serial_from, show_from}
use Rattle.kms_model.proofs.OneThread.{answers}

-- the words of a report
unfoldable pub on_literals : ⊤
unfolding answers execute serial_from show_from verdict early_refusal assigns_refusal assign_refusal own_refusal late_refusal plane_refusal
    shown_refusal picture digits hex_on_literals sha256 digest_bytes hash_after compress rounds schedule first_words
on_literals = tt
