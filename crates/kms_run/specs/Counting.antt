-- What the counts of a summary go by. This device's own.
use Rattle.std.specs.Prelude.{ℕ, ◌==◌, ◌&&◌, Bool, is_some}
use Rattle.kms_model.specs.declared.replies.Answered.{Answered}
use Rattle.kms_model.specs.Report.Right.{event_in}

-- a reply tells a client an event
abbrev pub tells : ℕ → Answered → Bool
tells client a = (a.client == client) && is_some (event_in a.reply)
