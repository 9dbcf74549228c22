-- What a proof unfolds to compute a run of the machine.
use Rattle.std.specs.Prelude.{⊤}
use Rattle.kms_model.specs.Request.Reach.{reaches}
use Rattle.kms_model.specs.Request.Sets.{in_fences}
use Rattle.kms_model.specs.Request.Touched.{touches}
use Rattle.kms_model.specs.Machine.Registers.{plane_words, plane_in, words_of_bytes, crtc_words, read, copied_planes, decoded_picture}
use Rattle.kms_model.specs.Machine.Commits.{has_latched, commit_at, commit_names, commit_touches, commit_concerns, has_flipped, old_plane}
use Rattle.kms_model.specs.Machine.Commits.{new_plane, new_crtc, new_connector, waited_fences, out_fence_of, last_below, previous}
use Rattle.kms_model.specs.Machine.Commits.{is_all_written, is_all_flushed, is_all_latched}
use Rattle.kms_model.specs.Machine.Steps.{may_lock, holds_touched, lacks_space, is_pending, first_pending, is_ready, may_refuse, may_test}
use Rattle.kms_model.specs.Machine.Steps.{may_swap, may_claim, next_write, next_flush, may}
use Rattle.kms_model.specs.Machine.Effects.{dropped, refused, swapped_state, made_thing, latches, next}
use Rattle.kms_model.specs.Machine.Histories.{is_drained, is_enabled, is_dead, legal, run_steps, are_legal, first_illegal, awaited_label}
use Rattle.kms_model.specs.Machine.Histories.{last_latched}
use Rattle.kms_model.specs.Machine.Framebuffers.{values_name, live_names, commit_keeps, is_needed, freed_by_step, freed_from}
use Rattle.kms_model.specs.Order.Turns.{first_missing, next_lock, client_step, client_goes, tail_step, tails_go, turn}
use Rattle.kms_model.specs.Order.Rounds.{round, rounds}
use Rattle.kms_model.specs.Report.History.{report_of}
use Rattle.kms_model.specs.Script.Generated.{drawn_from}
use Rattle.kms_model.specs.Script.Schedules.{numbered_step, object_at, step_with_object, step_on_object, lone_step, step_of_word, step_read}
use Rattle.kms_model.specs.Script.Schedules.{step_in_row, steps_in, parts_after, input_of}
use Rattle.kms_model.proofs.OnLiterals.{on_literals}
use Rattle.kms_model.proofs.OnScripts.{on_scripts}

-- the words of a run
unfoldable pub on_machines : ⊤
unfolding on_literals on_scripts reaches in_fences touches plane_words plane_in words_of_bytes crtc_words read copied_planes decoded_picture
    has_latched commit_at commit_names commit_touches commit_concerns has_flipped old_plane new_plane new_crtc new_connector waited_fences
    out_fence_of last_below previous is_all_written is_all_flushed is_all_latched may_lock holds_touched lacks_space is_pending
    first_pending is_ready may_refuse may_test may_swap may_claim next_write next_flush may dropped refused swapped_state made_thing latches
    next is_drained is_enabled is_dead legal run_steps are_legal first_illegal awaited_label last_latched values_name live_names
    commit_keeps is_needed freed_by_step freed_from first_missing next_lock client_step client_goes tail_step tails_go turn round rounds
    report_of drawn_from numbered_step object_at step_with_object step_on_object lone_step step_of_word step_read step_in_row steps_in
    parts_after input_of
on_machines = tt
