use Rattle.std.proofs.Common.{subst}
use Rattle.kms_model.specs.declared.objects.Topology.{Topology}
use Rattle.kms_model.specs.declared.scripts.Command.TheVariants as command
use Rattle.kms_model.specs.declared.scripts.Request.{Request}
use Rattle.kms_model.specs.Legacy.Translation.{call_request, present_of}
use Rattle.kms_model.specs.Script.CommandLines.{words_in}
use Rattle.kms_things.specs.Present.{IsPresent}
use Rattle.kms_legacy.specs.Asked.{GivesRequest}
use Rattle.kms_legacy.specs.Translating.{IsReadAnew, said_names}
use Rattle.kms_legacy.proofs.LinesAnew.{said_anew}
use Rattle.kms_legacy.proofs.RequestsSaid.{request_said}
use Rattle.kms_legacy.proofs.SamePresent.{translated_is}
use Rattle.kms_legacy.proofs.Saying.{given_holds}
use Rattle.kms_legacy.proofs.script.translate_call.Goals as goal

pub returns-clause-request : goal.returns-clause-request
returns-clause-request c =
    let present : IsPresent c.args.topology.now c.args.going.now.serial.world c.states.result =
    subst (λ (u : Topology). IsPresent u c.args.going.now.serial.world c.states.result) c.requires.over.device c.states.ensures in
    subst (GivesRequest c.translate.result)
    (translated_is c.args.topology.now c.args.going.now.serial.world c.states.result c.args.old.now
    (words_in (said_names c.args.going.now)) c.mode_of_call-mode.result c.fb_of_call-fb.result c.args.call.now present
    c.mode_of_call-mode.ensures.is c.fb_of_call-fb.ensures.is) c.translate.ensures

pub returns-clause-anew : goal.returns-clause-anew
returns-clause-anew c =
    given_holds (λ (r : Request). IsReadAnew c.args.topology.now.profile c.args.old.now (command.Atomic r)) c.translate.result
    (call_request c.args.topology.now (present_of c.states.result) c.mode_of_call-mode.result c.fb_of_call-fb.result c.args.call.now)
    c.translate.ensures (λ r e.
    let a = request_said c.args.topology.now
    (present_of c.states.result) c.mode_of_call-mode.result c.fb_of_call-fb.result c.args.old.now c.args.call.now r c.requires.device
    c.requires.fit
    c.mode_of_call-mode.ensures.size c.fb_of_call-fb.ensures.size e in
    said_anew c.args.topology.now.profile c.args.old.now r c.requests_are_read_back.ensures a.said a.few)
