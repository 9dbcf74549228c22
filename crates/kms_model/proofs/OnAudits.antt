-- What a proof unfolds to compute which line of a report is not right.
use Rattle.std.specs.Prelude.{⊤}
use Rattle.kms_model.specs.Report.ReplyFields.{lone_number, lone_reply, numbered_reply, event_fields, space_read, busy_read, refusal_read}
use Rattle.kms_model.specs.Report.ReplyFields.{reply_of_word, reply_read}
use Rattle.kms_model.specs.Report.ReportLines.{entry_read, answer_read, digest_in, latch_read, client_event_read, freed_read, open_read}
use Rattle.kms_model.specs.Report.ReportLines.{end_read, report_line_read, report_row_read, report_lines_read, report_read}
use Rattle.kms_model.specs.Report.Right.{latch_is_right, has_a_line, event_is_right, events_are_whole, used_by, freed_is_right}
use Rattle.kms_model.specs.Report.Right.{end_is_right, first_wrong}
use Rattle.kms_model.specs.Report.RightAnswers.{first_off, entry_is_right, commits_from, last_touch, reply_is_right, answer_is_right}
use Rattle.kms_model.specs.Report.RightAnswers.{answers_are_whole}
use Rattle.kms_model.specs.Report.SeenReport.{report_seen}
use Rattle.kms_model.proofs.OnMachines.{on_machines}

-- the words of an audit
unfoldable pub on_audits : ⊤
unfolding on_machines lone_number lone_reply numbered_reply event_fields space_read busy_read refusal_read reply_of_word reply_read
    entry_read answer_read digest_in latch_read client_event_read freed_read open_read end_read report_line_read report_row_read
    report_lines_read report_read report_seen first_off entry_is_right commits_from last_touch reply_is_right answer_is_right
    answers_are_whole latch_is_right has_a_line event_is_right events_are_whole used_by freed_is_right end_is_right first_wrong
on_audits = tt
