-- How far R lines stand in their order, and the blocks of each client's lines.
use Rattle.std.specs.Prelude.{◌≡◌, ◌≤◌, ◌<◌, ℕ, ◌+◌, ◌-◌, ◌==◌, List, [], length, take, Some, None, slice_get, slice_index_or, slice_set}
use Rattle.std.specs.Prelude.{if◌then◌else◌, ◌⊎◌}
use Rattle.std.specs.Option.{option_map_or}
use Rattle.kms_audit.specs.declared.order.Block.{Block}
use Rattle.kms_audit.specs.declared.order.Ordered.{Ordered}
use Rattle.kms_audit.specs.Sections.{stands_in_order}
use Rattle.kms_model.specs.declared.replies.Answered.{Answered}
use Rattle.kms_model.specs.declared.reports.Report.{Report}
use Rattle.kms_model.specs.declared.scripts.Script.{Script}
use Rattle.kms_model.specs.Report.RightAnswers.{answers_in, first_off}

abbrev pub no_block : Block
no_block = record { next = 0; end = 0 }

-- the block of a client, by its number from 1; no line of any other number
abbrev pub block_at : List Block → ℕ → Block
block_at blocks client = slice_index_or blocks (client - 1) no_block

-- a block with the line at a place behind its others
abbrev pub block_with : Block → ℕ → Block
block_with block place =
    if block.end == 0 then record { next = place; end = place + 1 } else record { next = block.next; end = place + 1 }

-- the blocks with one more line, of a client
abbrev pub with_line : List Block → ℕ → ℕ → List Block
with_line blocks client place = slice_set blocks (client - 1) (block_with (block_at blocks client) place)

-- a block has a line, or ends at 0
abbrev pub IsProper : Block → Type 0
IsProper block = (block.next < block.end) ⊎ ((block.next ≡ 0) × (block.end ≡ 0))

-- Of some lines, those of a client stand behind one another, at the places of a block.
pub record AreLinesOf (answers : List Answered) (client : ℕ) (block : Block) : Type 0 where
  pub proper : IsProper block
  pub within : block.end ≤ length answers
  pub in_block : (place : ℕ) (a : Answered) → slice_get answers place ≡ Some a → a.client ≡ client
      → (block.next ≤ place) × (place < block.end)
  pub of_client : (place : ℕ) (a : Answered) → slice_get answers place ≡ Some a → block.next ≤ place → place < block.end → a.client ≡ client

-- those of each of 16 clients
pub record AreBlocks (answers : List Answered) (blocks : List Block) : Type 0 where
  pub size : length blocks ≡ 16
  pub lines : (client : ℕ) → 1 ≤ client → client ≤ 16 → AreLinesOf answers client (block_at blocks client)

-- the lines before the first that does not stand in its order
abbrev pub ordered_lines : Report → Ordered → List Answered
ordered_lines r o = option_map_or (λ cut. take cut (answers_in r)) o.cut (answers_in r)

pub record IsOrdered (s : Script) (r : Report) (o : Ordered) : Type 0 where
  pub cut : o.cut ≡ first_off (stands_in_order s r) [] (answers_in r)
  pub clients : (at : ℕ) (a : Answered) → slice_get (ordered_lines r o) at ≡ Some a → (1 ≤ a.client) × (a.client ≤ 16)
  pub blocks : AreBlocks (ordered_lines r o) o.blocks

-- all R lines stand in their order, in these blocks
pub record IsWholeOrder (s : Script) (r : Report) (blocks : List Block) : Type 0 where
  pub cut : first_off (stands_in_order s r) [] (answers_in r) ≡ None
  pub are_blocks : AreBlocks (answers_in r) blocks

-- each block ends among so many lines
pub record AreBlocksWithin (count : ℕ) (blocks : List Block) : Type 0 where
  pub size : length blocks ≡ 16
  pub within : (at : ℕ) → at < 16 → (slice_index_or blocks at no_block).end ≤ count
