use Rattle.std.proofs.Common.{◌≤◌, length, rules}
use Rattle.kms_model.specs.declared.legacy.LegacyScript.{LegacyScript}
use Rattle.kms_model.specs.Legacy.LegacyLines.{legacy_input}
use Rattle.kms_model.specs.Script.InputLines.{input_limit}
use Rattle.kms_script.specs.Stated.{Gives}
use Rattle.kms_legacy.proofs.DeviceFront.{device_front}
use Rattle.kms_legacy.proofs.ParsedWell.{fault_given, formed_given, spelt_given}
use Rattle.kms_legacy.proofs.reading.parse_legacy.Goals as goal

pub behind_device-requires-clause-device : goal.behind_device-requires-clause-device
behind_device-requires-clause-device c = device_front c.args.bytes.now _ _ c.in-Ok.ensures.value.1

pub returns-in-Err-clause-value : goal.returns-in-Err-clause-value
returns-in-Err-clause-value c =
    let le : length c.args.bytes.now ≤ input_limit = c.if-bytes-gt-MAX_INPUT.false in
    fault_given c.args.bytes.now c.in-Err.error le c.in-Err.ensures.value

pub returns-in-Ok-clause-spells : goal.returns-in-Ok-clause-spells
unfolding legacy_input
returns-in-Ok-clause-spells c =
    let value : Gives (λ (s : LegacyScript). s) c.behind_device.result (legacy_input c.args.bytes.now) = search rules in
    spelt_given c.args.bytes.now c.behind_device.result value

pub returns-in-Ok-clause-formed : goal.returns-in-Ok-clause-formed
unfolding legacy_input
returns-in-Ok-clause-formed c =
    let value : Gives (λ (s : LegacyScript). s) c.behind_device.result (legacy_input c.args.bytes.now) = search rules in
    formed_given c.args.bytes.now c.in-Ok.read.topology c.behind_device.result value c.behind_device.ensures.device c.in-Ok.ensures.legal
