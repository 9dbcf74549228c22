-- Commands that make and close things, and what is answered to them.
use Rattle.std.specs.Prelude.{ℕ, Option, Some, None, ⊤}
use Rattle.kms_model.specs.declared.replies.Reply.{Reply}
use Rattle.kms_model.specs.declared.replies.Reply.TheVariants as reply
use Rattle.kms_model.specs.declared.replies.TheConstants.Denied.{NOT_FOUND}
use Rattle.kms_model.specs.declared.scripts.Command.{Command}
use Rattle.kms_model.specs.declared.scripts.Command.TheVariants as command
use Rattle.kms_model.specs.Device.Execution.{BufferInfo}

-- any command but an atomic request
abbrev pub IsNoRequest : Command → Type 0
IsNoRequest (command.Atomic r) = ⊥
IsNoRequest _ = ⊤

-- what is answered where a thing with an id is made, or something is done, unless a number refuses it
abbrev pub made_unless : ℕ → Option ℕ → Reply
made_unless id None = reply.Made id
made_unless id (Some n) = reply.Denied n

abbrev pub done_unless : Option ℕ → Reply
done_unless None = reply.Done
done_unless (Some n) = reply.Denied n

-- 33: there is no buffer for a framebuffer
abbrev pub framebuffer_refusal : Option BufferInfo → Option ℕ
framebuffer_refusal None = Some NOT_FOUND.0
framebuffer_refusal (Some b) = None
