use Rattle.std.proofs.Common.{◌≡◌, Err, sym, subst}
use Rattle.kms_model.specs.declared.legacy.LegacyCommand.{LegacyCommand}
use Rattle.kms_model.specs.declared.scripts.Command.TheVariants as command
use Rattle.kms_model.specs.Legacy.Translated.{translated}
use Rattle.kms_model.specs.Script.CommandLines.{words_in}
use Rattle.kms_legacy.specs.declared.errors.LegacyError.{LegacyError}
use Rattle.kms_legacy.specs.Asked.{GivesRequest}
use Rattle.kms_legacy.specs.Translating.{IsPassed, IsSaidAnew, said_names}
use Rattle.kms_legacy.proofs.Saying.{on_ok, passed_call, passed_none, passed_plain}
use Rattle.kms_legacy.proofs.script.pass.Goals as goal

pub returns-in-Plain-clause-passed : goal.returns-in-Plain-clause-passed
returns-in-Plain-clause-passed c =
    on_ok c.say_anew.result (IsSaidAnew c.args.old.now c.args.topology.now c.in-Plain.command c.args.going.now c.say_anew.new.going)
    (IsPassed c.args.old.now c.args.topology.now c.args.command.now c.args.going.now c.say_anew.new.going) (λ said.
    subst (λ (k : LegacyCommand). IsPassed c.args.old.now c.args.topology.now k c.args.going.now c.say_anew.new.going) (sym c.in-Plain.is)
    (passed_plain c.args.old.now c.args.topology.now c.in-Plain.command c.args.going.now c.say_anew.new.going said)) c.say_anew.ensures.said

pub returns-in-Ok-clause-passed : goal.returns-in-Ok-clause-passed
returns-in-Ok-clause-passed c =
    on_ok c.say_anew-in-Ok.result (IsSaidAnew c.args.old.now c.args.topology.now
    (command.Atomic c.in-Ok.request) c.args.going.now c.say_anew-in-Ok.new.going)
    (IsPassed c.args.old.now c.args.topology.now c.args.command.now c.args.going.now c.say_anew-in-Ok.new.going) (λ said.
    subst (λ (k : LegacyCommand). IsPassed c.args.old.now c.args.topology.now k c.args.going.now c.say_anew-in-Ok.new.going)
    (sym c.in-Call.is)
    (passed_call c.args.old.now c.args.topology.now c.in-Call.call c.in-Ok.request c.args.going.now c.say_anew-in-Ok.new.going
    c.in-Ok.ensures.request said)) c.say_anew-in-Ok.ensures.said

pub returns-in-Err-Refused-clause-passed : goal.returns-in-Err-Refused-clause-passed
returns-in-Err-Refused-clause-passed c =
    let is : translated c.args.old.now
    (words_in (said_names c.args.going.now)) c.args.topology.now c.args.going.now.serial.world c.in-Call.call ≡ Err
    c.in-Err-Refused.field-0-0 =
    subst (λ (e : LegacyError). GivesRequest (Err e)
    (translated c.args.old.now (words_in (said_names c.args.going.now)) c.args.topology.now c.args.going.now.serial.world c.in-Call.call))
    c.in-Err-Refused.field-0-is
    c.in-Err-Refused.ensures.request in
    subst (λ (k : LegacyCommand). IsPassed c.args.old.now c.args.topology.now k c.args.going.now c.args.going.now) (sym c.in-Call.is)
    (passed_none c.args.old.now c.args.topology.now c.in-Call.call c.in-Err-Refused.field-0-0 c.args.going.now is)
