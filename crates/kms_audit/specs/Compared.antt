-- How far the R lines that stand in their order are compared.
use Rattle.std.specs.Prelude.{◌≡◌, ◌≤◌, ◌<◌, ℕ, ◌+◌, ◌-◌, nat_le, false, [], length, take, drop, Option, Some, slice_get, if◌then◌else◌}
use Rattle.kms_audit.specs.declared.compared.Compared.{Compared}
use Rattle.kms_audit.specs.declared.order.Block.{Block}
use Rattle.kms_audit.specs.declared.order.Ordered.{Ordered}
use Rattle.kms_audit.specs.Ordered.{IsOrdered, block_at, ordered_lines}
use Rattle.kms_audit.specs.Sections.{earliest, is_replied}
use Rattle.kms_model.specs.declared.replies.Answered.{Answered}
use Rattle.kms_model.specs.declared.reports.Report.{Report}
use Rattle.kms_model.specs.declared.scripts.Script.{Script}
use Rattle.kms_model.specs.Report.Right.{number_at}
use Rattle.kms_model.specs.Report.RightAnswers.{answers_in, first_off, reply_is_right}

-- the first place with one more line there, which may be right
abbrev pub differing_with : Script → Report → Answered → ℕ → Option ℕ → Option ℕ
differing_with s r a at differing = if reply_is_right s r a then differing else earliest differing (Some at)

-- the place of the first line from one place to another whose reply is not right
abbrev pub wrong_between : Script → Report → ℕ → ℕ → Option ℕ
wrong_between s r from to = number_at from (first_off (is_replied s r) [] (take (to - from) (drop from (answers_in r))))

-- The lines of a block up to another are those of a place, each compared.
pub record BlockIsCompared (s : Script) (r : Report) (place : ℕ) (old new : Block) (before after : Option ℕ) : Type 0 where
  pub end : new.end ≡ old.end
  pub least : old.next ≤ new.next
  pub most : old.next ≤ old.end → new.next ≤ new.end
  -- the next line, if there is one, is of another place
  pub stops : (a : Answered) → new.next < new.end → slice_get (answers_in r) new.next ≡ Some a → a.place ≡ place → ⊥
  pub differing : after ≡ earliest before (wrong_between s r old.next new.next)

-- a line at a place is not right
pub record IsWrongAt (s : Script) (r : Report) (o : Ordered) (at : ℕ) : Type 0 where
  pub line : Answered
  pub is_line : slice_get (ordered_lines r o) at ≡ Some line
  pub wrong : reply_is_right s r line ≡ false

-- The lines that stand in their order are compared where their places are below one, and at it those of the first clients, so
-- many: of each client those before its block.
-- All from there on have places from this one on.
pub record AreComparedUpTo (s : Script) (r : Report) (place upto : ℕ) (c : Compared) : Type 0 where
  pub order : Ordered
  pub is_ordered : IsOrdered s r order
  pub size : length c.blocks ≡ 16
  pub ends : (client : ℕ) → 1 ≤ client → client ≤ 16 → (block_at c.blocks client).end ≡ (block_at order.blocks client).end
  pub from_on : (client : ℕ) → 1 ≤ client → client ≤ 16 → (block_at order.blocks client).next ≤ (block_at c.blocks client).next
  pub up_to : (client : ℕ) → 1 ≤ client → client ≤ 16 → (block_at c.blocks client).next ≤ (block_at order.blocks client).end
  pub later : (at : ℕ) (a : Answered) → slice_get (ordered_lines r order) at ≡ Some a → (block_at c.blocks a.client).next ≤ at
      → (if nat_le a.client upto then place + 1 else place) ≤ a.place
  -- a compared line that is not right is not before the first that is told, which is one
  pub wrong : (at : ℕ) (a : Answered) → slice_get (ordered_lines r order) at ≡ Some a → at < (block_at c.blocks a.client).next
      → reply_is_right s r a ≡ false → (k : ℕ) × ((c.differing ≡ Some k) × (k ≤ at))
  pub found : (k : ℕ) → c.differing ≡ Some k → IsWrongAt s r order k

abbrev pub AreCompared : Script → Report → ℕ → Compared → Type 0
AreCompared s r place c = AreComparedUpTo s r place 0 c
