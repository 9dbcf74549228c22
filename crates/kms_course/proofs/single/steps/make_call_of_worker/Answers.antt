use Rattle.std.proofs.Common.{[], ◌∷◌, ap, ◌∙◌, refl}
use Rattle.kms_model.specs.declared.objects.Kind.TheVariants.{Crtc}
use Rattle.kms_model.specs.declared.replies.Step.TheVariants as step
use Rattle.kms_model.proofs.TouchedLemmas.{few_objects}
use Rattle.kms_core.specs.Work.{cleanup_steps, write_step}
use Rattle.kms_core.proofs.Applied.{cleanup_asked, cleanup_done, flush_kind, write_done, write_index, write_named, written_named}
use Rattle.kms_course.proofs.Asked.{done_as, flush_asked, legal_as}
use Rattle.kms_course.proofs.single.steps.make_call_of_worker.Goals as goal

pub of-requires : goal.of-requires
of-requires c =
    write_index c.args.core.now (few_objects c.args.core.now.script.topology c.is_a_history.ensures.formed.device) c.in-Write.commit
    c.in-Write.kind c.in-Write.index
    (legal_as c.args.core.now c.args.step.now _ c.in-Write.is c.requires.legal)

pub write-requires : goal.write-requires
write-requires c =
    let asked = legal_as c.args.core.now c.args.step.now _ c.in-Write.is c.requires.legal in
    write_named c.args.core.now c.in-Write.commit c.in-Write.kind c.in-Write.index c.of.result asked
    (written_named c.args.core.now (few_objects c.args.core.now.script.topology c.is_a_history.ensures.formed.device) c.in-Write.commit
    c.in-Write.kind c.in-Write.index c.of.result asked c.of.ensures)

pub flush-requires : goal.flush-requires
flush-requires c =
    flush_asked c.args.core.now (few_objects c.args.core.now.script.topology c.is_a_history.ensures.formed.device) c.in-Flush.commit
    c.in-Flush.kind c.in-Flush.index
    (legal_as c.args.core.now c.args.step.now _ c.in-Flush.is c.requires.legal)

pub cleanup-over-requires : goal.cleanup-over-requires
cleanup-over-requires c =
    cleanup_asked c.args.core.now (record { formed = c.is_a_history.ensures.formed; history = c.is_a_history.ensures.history })
    c.in-Cleanup.commit
    (legal_as c.args.core.now c.args.step.now _ c.in-Cleanup.is c.requires.legal)

pub returns-in-Write : goal.returns-in-Write
returns-in-Write c =
    let asked = legal_as c.args.core.now c.args.step.now _ c.in-Write.is c.requires.legal in
    done_as c.args.core.now c.write.new.self (write_step c.in-Write.commit c.of.result ∷ []) c.args.step.now
    (step.Write c.in-Write.commit c.in-Write.kind c.in-Write.index) c.write.ensures.history
    (write_done c.args.core.now c.in-Write.commit c.in-Write.kind c.in-Write.index c.of.result
    (written_named c.args.core.now (few_objects c.args.core.now.script.topology c.is_a_history.ensures.formed.device) c.in-Write.commit
    c.in-Write.kind c.in-Write.index c.of.result asked c.of.ensures))
    c.in-Write.is

pub returns-in-Flush : goal.returns-in-Flush
returns-in-Flush c =
    done_as c.args.core.now c.flush.new.self (step.Flush c.in-Flush.commit Crtc c.in-Flush.index ∷ []) c.args.step.now
    (step.Flush c.in-Flush.commit Crtc c.in-Flush.index) c.flush.ensures.history refl
    (c.in-Flush.is
    ∙ ap (λ k. step.Flush c.in-Flush.commit k c.in-Flush.index)
    (flush_kind c.args.core.now (few_objects c.args.core.now.script.topology c.is_a_history.ensures.formed.device) c.in-Flush.commit
    c.in-Flush.kind c.in-Flush.index
    (legal_as c.args.core.now c.args.step.now _ c.in-Flush.is c.requires.legal)))

pub returns-in-Cleanup : goal.returns-in-Cleanup
returns-in-Cleanup c =
    done_as c.args.core.now c.cleanup-over.new.self (cleanup_steps c.in-Cleanup.commit c.cleanup-over.result) c.args.step.now
    (step.Cleanup c.in-Cleanup.commit) c.cleanup-over.ensures.history
    (ap (cleanup_steps c.in-Cleanup.commit)
    (c.cleanup-over.ensures.answer ∙ cleanup_done c.args.core.now c.in-Cleanup.commit
    (legal_as c.args.core.now c.args.step.now _ c.in-Cleanup.is c.requires.legal)))
    c.in-Cleanup.is
