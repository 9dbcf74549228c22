-- What was made, as contracts see it.
use Rattle.std.specs.Prelude.{ℕ, ◌<◌, Bool, nat_lt, List}
use Rattle.kms_model.specs.declared.things.Framebuffer.{Framebuffer}
use Rattle.kms_model.specs.declared.tables.Slot.{Slot}
use Rattle.kms_model.specs.declared.worlds.Thing.{Thing}
use Rattle.kms_model.specs.declared.worlds.World.{World}

-- the things in order of making, open and closed, the id of the next one, and the framebuffers that something refers to
pub record Made : Type 0 where
  pub things : List Thing
  pub next_id : ℕ
  pub fbs : List (Slot Framebuffer)

-- a world in which this was made
abbrev pub with_made : World → Made → World
with_made w made = record w { things = made.things; next_id = made.next_id }

-- there are ids for the things of one command more
abbrev pub HasIds : Made → Type 0
HasIds made = made.next_id < 4294967000

-- the same, as a test
abbrev pub has_ids : Made → Bool
has_ids made = nat_lt made.next_id 4294967000
