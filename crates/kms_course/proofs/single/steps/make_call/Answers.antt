use Rattle.kms_core.specs.Calls.{read_step, return_step}
use Rattle.kms_model.specs.declared.objects.Kind.TheVariants.{Crtc}
use Rattle.kms_model.specs.declared.replies.Step.TheVariants as step
use Rattle.std.proofs.Common.{[], ◌∷◌, ap, ◌∙◌, refl}
use Rattle.kms_core.proofs.Applied.{read_asked, read_done, return_asked, return_done, vblank_kind}
use Rattle.kms_course.proofs.Asked.{blank_asked, done_as, legal_as}
use Rattle.kms_course.proofs.single.steps.make_call.Goals as goal

pub read-requires : goal.read-requires
read-requires c = read_asked c.args.core.now c.in-Read.client (legal_as c.args.core.now c.args.step.now _ c.in-Read.is c.requires.legal)

pub return_from-requires : goal.return_from-requires
return_from-requires c =
    return_asked c.args.core.now (record { formed = c.is_a_history.ensures.formed; history = c.is_a_history.ensures.history })
    c.in-Return.client
    (legal_as c.args.core.now c.args.step.now _ c.in-Return.is c.requires.legal)

pub vblank-requires : goal.vblank-requires
vblank-requires c = blank_asked c.args.core.now c.in-Vblank.kind c.in-Vblank.index
    (legal_as c.args.core.now c.args.step.now _ c.in-Vblank.is c.requires.legal)

pub returns-in_ok-_reply-in-Read : goal.returns-in_ok-_reply-in-Read
returns-in_ok-_reply-in-Read c =
    done_as c.args.core.now c.read.new.self (read_step c.in-Read.client c.in_ok-_reply-in-Read._reply) c.args.step.now
    (step.Read c.in-Read.client) c.in_ok-_reply-in-Read.ensures.history
    (read_done c.args.core.now c.in-Read.client c.in_ok-_reply-in-Read._reply
    (legal_as c.args.core.now c.args.step.now _ c.in-Read.is c.requires.legal) c.in_ok-_reply-in-Read.ensures.reply)
    c.in-Read.is

pub returns-in_ok-_over-in-Return : goal.returns-in_ok-_over-in-Return
returns-in_ok-_over-in-Return c =
    done_as c.args.core.now c.return_from.new.self (return_step c.in-Return.client c.in_ok-_over-in-Return._over) c.args.step.now
    (step.Return c.in-Return.client) c.in_ok-_over-in-Return.ensures.history
    (ap (return_step c.in-Return.client) (c.in_ok-_over-in-Return.ensures.answer ∙ return_done c.args.core.now c.in-Return.client
    (legal_as c.args.core.now c.args.step.now _ c.in-Return.is c.requires.legal)))
    c.in-Return.is

pub returns-in_ok-_went-in-Vblank : goal.returns-in_ok-_went-in-Vblank
returns-in_ok-_went-in-Vblank c =
    done_as c.args.core.now c.vblank.new.self (step.Vblank Crtc c.in-Vblank.index ∷ []) c.args.step.now (step.Vblank Crtc c.in-Vblank.index)
    c.in_ok-_went-in-Vblank.ensures.history refl
    (c.in-Vblank.is ∙ ap (λ k. step.Vblank k c.in-Vblank.index)
    (vblank_kind c.args.core.now c.in-Vblank.kind c.in-Vblank.index
    (legal_as c.args.core.now c.args.step.now _ c.in-Vblank.is c.requires.legal)))
